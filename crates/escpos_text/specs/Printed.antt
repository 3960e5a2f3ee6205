-- Characters that are printed: neither of ASCII's control codes, nor of those from 7F to 9F.
use Rattle.std.specs.Prelude.{ℕ, ◌&&◌, ◌||◌, Bool, nat_le}

abbrev pub is_printable : ℕ → Bool
is_printable c = nat_le 0x20 c && nat_le c 0x7E || nat_le 0xA0 c
