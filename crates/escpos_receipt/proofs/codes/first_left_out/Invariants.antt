-- None of the codes so far is left out, and the settings are those of the commands so far.
use Rattle.std.proofs.Common.{◌≡◌, take}
use Rattle.escpos_receipt.specs.CodeSteps.{kept}
use Rattle.escpos_receipt.specs.Printable.{IsPrintable, code_settings}
use Rattle.escpos_receipt.proofs.codes.first_left_out.Given as goal

abbrev pub invariant-loop-at : goal.invariant-loop-at
invariant-loop-at l = record {
  each : IsPrintable l.width (take l.at l.commands);
  settings : kept l.codes ≡ code_settings (take l.at l.commands);
}
