-- The laws of the larger table as statements.
use Rattle.std.specs.Prelude.{ℕ, List}
use Rattle.escpos_command.specs.declared.fault.FaultReason.{FaultReason}
use Rattle.escpos_passed.specs.Tokens.{Token, ReadsTokens, FaultAfter}

-- The list is read.
abbrev pub IsReadAll : List ℕ → Type 0
IsReadAll bs = (ts : List Token) × (rest : List ℕ) × ReadsTokens bs ts rest

-- A byte of the list is refused.
abbrev pub IsRefusedAll : List ℕ → Type 0
IsRefusedAll bs = (ts : List Token) × (k : ℕ) × (why : FaultReason) × FaultAfter bs ts k why
