-- The answer to a mark and a block of automatic status, byte by byte, for the reader of answers. Only private clauses,
-- invariants and proofs use these definitions.
use Rattle.std.specs.Prelude.{ℕ, ◌≡◌, ◌≤◌, ◌⊎◌, ◌==◌, ◌||◌, Bool, List, [], ◌∷◌, length, IsTrue, if◌then◌else◌}
use Rattle.std.specs.List.{list_all}
use Rattle.escpos_command.specs.Blocks.{begins_block, continues_block}
use Rattle.escpos_command.specs.Parameters.{is_mark_byte}

-- The byte continues the answer to a mark after 37 and these bytes.
abbrev pub mark_goes_on : List ℕ → ℕ → Bool
mark_goes_on [] byte = byte == 0x22
mark_goes_on (second ∷ id) byte = if length id == 4 then byte == 0x00 else is_mark_byte byte

-- The byte continues an answer of more than one byte after these bytes of it.
abbrev pub goes_on : List ℕ → ℕ → Bool
goes_on [] byte = byte == 0x37 || begins_block byte
goes_on (first ∷ rest) byte = if first == 0x37 then mark_goes_on rest byte else continues_block byte

-- A prefix of the answer to a mark, without its first byte.
abbrev pub IsMarkFront : List ℕ → Type 0
IsMarkFront [] = Unit {0}
IsMarkFront (second ∷ id) = (second ≡ 0x22) × (length id ≤ 4) × IsTrue (list_all is_mark_byte id)

-- A prefix of a block, without its first byte.
abbrev pub IsBlockFront : List ℕ → Type 0
IsBlockFront rest = (length rest ≤ 2) × IsTrue (list_all continues_block rest)

-- Nothing, or a prefix of such an answer, and not all of it.
abbrev pub IsFront : List ℕ → Type 0
IsFront [] = Unit {0}
IsFront (first ∷ rest) = ((first ≡ 0x37) × IsMarkFront rest) ⊎ (IsTrue (begins_block first) × IsBlockFront rest)
