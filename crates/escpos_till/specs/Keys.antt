-- What a receipt's key is.
use Rattle.std.specs.Prelude.{ℕ, Bool, ◌&&◌, ◌<◌, ◌≤◌, nat_le, List, length}
use Rattle.std.specs.List.{AllPass}
use Rattle.escpos_till.specs.declared.key.TheConstants.{KEY_CHARACTERS}

-- A character that a key may have, 21 to 7E hexadecimal.
abbrev pub is_key_character : ℕ → Bool
is_key_character b = nat_le 0x21 b && nat_le b 0x7E

-- A key.
pub record IsKey (key : List ℕ) : Type 0 where
  pub some : 0 < length key
  pub short : length key ≤ KEY_CHARACTERS
  pub plain : AllPass is_key_character key
