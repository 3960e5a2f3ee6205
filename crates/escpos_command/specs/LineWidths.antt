-- How wide a line may be, in dots.
use Rattle.std.specs.Prelude.{ℕ, ◌&&◌, nat_le, Bool}
use Rattle.escpos_command.specs.declared.line_width.TheConstants.{MOST_LINE_DOTS}

-- A line has 1 to 1,024 dots.
abbrev pub is_line_width : ℕ → Bool
is_line_width n = nat_le 1 n && nat_le n MOST_LINE_DOTS
