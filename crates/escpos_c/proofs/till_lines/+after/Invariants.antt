-- The word gets shorter.
use Rattle.std.proofs.Common.{length}
use Rattle.escpos_c.proofs.till_lines.+after.Given as goal

abbrev pub decreases-after : goal.decreases-after
decreases-after l = length l.word.now
