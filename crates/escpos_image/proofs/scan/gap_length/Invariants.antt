use Rattle.std.proofs.Common.{◌≡◌, ◌+◌, false, drop}
use Rattle.escpos_image.specs.Scan.{gap_length}
use Rattle.escpos_image.proofs.scan.gap_length.Given as goal

abbrev pub invariant-loop-i : goal.invariant-loop-i
invariant-loop-i l = l.i + gap_length l.in_comment (drop l.i l.rest) ≡ gap_length false l.rest
