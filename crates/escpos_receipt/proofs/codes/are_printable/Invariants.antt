-- None of the codes of the entries so far is left out, and the settings are those of their commands.
use Rattle.std.proofs.Common.{◌≡◌, take}
use Rattle.std.specs.List.{flat_map}
use Rattle.escpos_receipt.specs.CodeSteps.{kept}
use Rattle.escpos_receipt.specs.EntryCommands.{commands_in}
use Rattle.escpos_receipt.specs.Printable.{IsPrintable, code_settings}
use Rattle.escpos_receipt.proofs.codes.are_printable.Given as goal

abbrev pub invariant-loop-entry : goal.invariant-loop-entry
invariant-loop-entry l = record {
  each : IsPrintable l.width (flat_map commands_in (take l.entry-index l.entries));
  settings : kept l.codes ≡ code_settings (flat_map commands_in (take l.entry-index l.entries));
}
