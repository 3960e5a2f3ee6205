-- Positions: which commands set one, each with a number of two bytes. (Reference: ESC $, ESC \\, GS L, GS W.)
use Rattle.std.specs.Prelude.{ℕ, ◌+◌, ◌*◌, ◌/◌, ◌%◌, List, [], ◌∷◌}
use Rattle.escpos_command.specs.declared.bytes.TheConstants.{ESC, GS}
use Rattle.escpos_command.specs.declared.parameter.position.PositionKind.{PositionKind}
use Rattle.escpos_command.specs.declared.parameter.position.PositionKind.TheVariants as position

-- The letters of each.
abbrev pub position_prefix : PositionKind → List ℕ
position_prefix position.Absolute = ESC ∷ 0x24 ∷ []
position_prefix position.Relative = ESC ∷ 0x5C ∷ []
position_prefix position.LeftMargin = GS ∷ 0x4C ∷ []
position_prefix position.AreaWidth = GS ∷ 0x57 ∷ []

-- A number as two bytes, the low one first, and the number of two such bytes.
abbrev pub word_bytes : ℕ → List ℕ
word_bytes n = n % 256 ∷ n / 256 ∷ []

abbrev pub word_of : ℕ → ℕ → ℕ
word_of low high = low + 256 * high
