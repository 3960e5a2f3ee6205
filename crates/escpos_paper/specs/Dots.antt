-- How wide characters are, and how wide the printing area.
use Rattle.std.specs.Prelude.{ℕ, ◌+◌, ◌-◌, ◌*◌, min, Option, None, Some, if◌then◌else◌}
use Rattle.escpos_command.specs.declared.parameter.choices.FontFace.{FontFace}
use Rattle.escpos_command.specs.declared.parameter.choices.FontFace.TheVariants.{A, B}
use Rattle.escpos_paper.specs.declared.style.Placing.{Placing}
use Rattle.escpos_paper.specs.declared.style.Style.{Style}

-- Font A is 12 dots wide and font B 9.
abbrev pub face_dots : FontFace → ℕ
face_dots A = 12
face_dots B = 9

-- Font A is 24 dots high and font B 17.
abbrev pub face_rows : FontFace → ℕ
face_rows A = 24
face_rows B = 17

-- How wide a character in a style is across the paper at size 1, with the space to its right. (Reference: ESC SP, ESC V.)
abbrev pub narrow_dots : Style → ℕ
narrow_dots s = (if s.turned then face_rows s.font else face_dots s.font) + s.spacing

-- Its factor: a character that is turned is as wide as it is high otherwise. (Reference: GS !.)
abbrev pub factor_across : Style → ℕ
factor_across s = if s.turned then s.height else s.width

-- How wide it is.
abbrev pub style_dots : Style → ℕ
style_dots s = narrow_dots s * factor_across s

-- The margin within a line of this width, and the width of the printing area right of it. (Reference: GS L, GS W.)
abbrev pub margin_dots : ℕ → Placing → ℕ
margin_dots width p = min p.margin width

abbrev pub lesser_width : Option ℕ → ℕ → ℕ
lesser_width None most = most
lesser_width (Some n) most = min n most

abbrev pub area_dots : ℕ → Placing → ℕ
area_dots width p = lesser_width p.width (width - p.margin)
