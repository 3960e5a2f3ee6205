-- The laws of the grammar as statements, for the contracts of the module `laws`. Each ranges over all
-- lists of numbers; lists of bytes are among them.
use Rattle.std.specs.Prelude.{ℕ, List}
use Rattle.escpos_command.specs.declared.command.Command.{Command}
use Rattle.escpos_command.specs.declared.fault.FaultReason.{FaultReason}
use Rattle.escpos_command.specs.Grammar.{Reads, FaultAt}

-- The length of the longest spelling.
abbrev pub longest_spelling : ℕ
longest_spelling = 524177

-- The list has a reading.
abbrev pub IsRead : List ℕ → Type 0
IsRead bs = (cs : List Command) × (rest : List ℕ) × Reads bs cs rest

-- The list has a fault.
abbrev pub IsRefused : List ℕ → Type 0
IsRefused bs = (cs : List Command) × (rest : List ℕ) × (k : ℕ) × (why : FaultReason) × FaultAt bs cs rest k why
