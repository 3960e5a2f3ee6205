use Rattle.std.proofs.Common.{◌≡◌, take, min}
use Rattle.escpos_image.specs.declared.scan.TheConstants.{TOO_GREAT}
use Rattle.escpos_image.specs.Scan.{decimal_value}
use Rattle.escpos_image.proofs.scan.value_of.Given as goal

abbrev pub invariant-loop-digit : goal.invariant-loop-digit
invariant-loop-digit l = l.value ≡ min TOO_GREAT (decimal_value (take l.digit-index l.digits))
