use Rattle.std.proofs.Common.{◌-◌, length}
use Rattle.escpos_job_parts.proofs.DigitsKept.{Kept}
use Rattle.escpos_job_parts.proofs.hexadecimal.bytes_of.Given as goal

-- the bytes so far are written, and the text after them is as it was
abbrev pub invariant-loop-byte : goal.invariant-loop-byte
invariant-loop-byte l = Kept l.fn.text.items l.text.items l.read l.written

abbrev pub decreases-loop-byte : goal.decreases-loop-byte
decreases-loop-byte l = length l.text.items - l.read
