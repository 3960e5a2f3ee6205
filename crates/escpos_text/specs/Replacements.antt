-- Which characters may replace others.
use Rattle.std.specs.Prelude.{ℕ, ◌&&◌, Bool, nat_le}

-- The printed characters of ASCII, 20 to 7E.
abbrev pub is_replacement : ℕ → Bool
is_replacement b = nat_le 0x20 b && nat_le b 0x7E
