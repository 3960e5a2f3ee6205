use Rattle.std.proofs.Common.{◌≡◌, ◌+◌, drop}
use Rattle.std.specs.List.{prefix_len}
use Rattle.escpos_image.specs.Scan.{is_digit}
use Rattle.escpos_image.proofs.scan.digit_count.Given as goal

abbrev pub invariant-loop-i : goal.invariant-loop-i
invariant-loop-i l = l.i + prefix_len is_digit (drop l.i l.rest) ≡ prefix_len is_digit l.rest
