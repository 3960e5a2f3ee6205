-- Characters that are given one after another.
use Rattle.std.proofs.Common.{◌≡◌, ℕ, ◌*◌, ◌≤◌, List, [], ◌∷◌, ◌++◌, length, length-append, Ok, arith, Bool, true, false, cond}
use Rattle.std.specs.Prelude.{flat_map}
use Rattle.hex.specs.Hex.{encode_lower}
use Rattle.escpos_io.specs.Gather.{Gathered}
use Rattle.escpos_io.specs.Giving.{IsGiven}
use Rattle.escpos_io.specs.Putting.{Passage}
use Rattle.escpos_io.proofs.Digits.{digits_count}
use Rattle.escpos_paper.specs.ItemsText.{byte_text, is_plain}

-- Some are given, and these are left.
pub record CharactersPut (sink : Passage) (old new : Gathered) (left : List ℕ) (whole : List ℕ) : Type 0 where
  pub done : List ℕ
  pub given : IsGiven (Ok tt) sink old new done
  pub whole_is : whole ≡ done ++ flat_map byte_text left

one_short : (b : ℕ) (plain : Bool) → length (cond plain (b ∷ []) (0x5C ∷ encode_lower (b ∷ []))) ≤ 3
one_short b true = omega arith
one_short b false = let two = digits_count (b ∷ []) in omega arith

-- Each takes at most three bytes.
pub all_short : (bs : List ℕ) → length (flat_map byte_text bs) ≤ 3 * length bs
all_short [] = omega arith
all_short (b ∷ bs) =
    let first : length (byte_text b) ≤ 3 = one_short b (is_plain b) in
    let others = all_short bs in
    omega (arith, first, others, length-append (byte_text b) (flat_map byte_text bs))
