-- The error of a text by the fault of one of its entries. Only private clauses, invariants and proofs use this definition.
use Rattle.std.specs.Prelude.{ℕ}
use Rattle.escpos_receipt.specs.declared.entry.EntryFault.{EntryFault}
use Rattle.escpos_receipt.specs.declared.entry.EntryFault.TheVariants as bad
use Rattle.escpos_receipt.specs.declared.json.JsonError.{JsonError}
use Rattle.escpos_receipt.specs.declared.json.JsonError.TheVariants.{Refused, Memory}
use Rattle.escpos_receipt.specs.declared.json.JsonFault.TheVariants as fault

-- The error of a text whose entry at this place gives no commands.
abbrev pub error_at : ℕ → EntryFault → JsonError
error_at at bad.BadShape = Refused (fault.BadShape at)
error_at at bad.ControlByte = Refused (fault.ControlByte at)
error_at at (bad.NoCharacter c) = Refused (fault.NoCharacter at c)
error_at at bad.Memory = Memory
