-- The lines that tell what a printer answers.
use Rattle.std.specs.Prelude.{◌+◌, ◌-◌, ◌/◌, ◌%◌, ℕ, Bool, true, false, if◌then◌else◌, nat_lt, List, [], ◌∷◌, ◌++◌, codes, flat_map}
use Rattle.escpos_probe.specs.declared.premises.Premises.{Premises}

-- a hexadecimal digit, in upper case
abbrev pub digit : ℕ → ℕ
digit n = if nat_lt n 10 then 0x30 + n else 0x41 + (n - 10)

-- bytes in hexadecimal, a blank before each
abbrev pub spaced : List ℕ → List ℕ
spaced bytes = flat_map (λ b. 0x20 ∷ digit (b / 16) ∷ digit (b % 16) ∷ []) bytes

-- what follows the name of what was asked
abbrev pub answer_text : List ℕ → List ℕ
answer_text [] = codes ": no answer\n"
answer_text bytes = codes ":" ++ spaced bytes ++ codes "\n"

-- whether something is so
abbrev pub fact_line : List ℕ → Bool → List ℕ
fact_line fact true = fact ++ codes "yes\n"
fact_line fact false = fact ++ codes "no\n"

-- what the answers show
abbrev pub premises_text : Premises → List ℕ
premises_text premises =
    fact_line (codes "sends nothing unasked: ") premises.quiet ++ fact_line (codes "answers marks: ") premises.marks
    ++ fact_line (codes "tells its status: ") premises.status
