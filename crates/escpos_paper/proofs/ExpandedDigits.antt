-- The digits of UPC-A for which six digits of UPC-E stand are digits.
use Rattle.std.proofs.Common.{◌≡◌, ℕ, ◌≤◌, ◌<◌, List, [], ◌∷◌, length, get_or, refl, arith, Bool, true, false, if◌then◌else◌}
use Rattle.std.specs.Prelude.{IsTrue, nat_le, ◌==◌}
use Rattle.escpos_command.proofs.Combinators.{and_left, and_right, both}
use Rattle.escpos_command.specs.Barcodes.{is_digit}
use Rattle.escpos_paper.specs.CheckDigit.{all_digits, expanded}

-- A list of six elements, and one of seven.
pub as_six : (ds : List ℕ) → 6 ≤ length ds → length ds < 7 → ds ≡ get_or ds 0 0 ∷ get_or ds 1 0 ∷ get_or ds 2 0 ∷ get_or ds 3 0 ∷ get_or ds 4 0 ∷ get_or ds 5 0 ∷ []
as_six [] least below = absurd (omega arith)
as_six (a ∷ []) least below = absurd (omega arith)
as_six (a ∷ b ∷ []) least below = absurd (omega arith)
as_six (a ∷ b ∷ c ∷ []) least below = absurd (omega arith)
as_six (a ∷ b ∷ c ∷ d ∷ []) least below = absurd (omega arith)
as_six (a ∷ b ∷ c ∷ d ∷ e ∷ []) least below = absurd (omega arith)
as_six (a ∷ b ∷ c ∷ d ∷ e ∷ f ∷ []) least below = refl
as_six (a ∷ b ∷ c ∷ d ∷ e ∷ f ∷ g ∷ rest) least below = absurd (omega arith)

pub as_seven : (ds : List ℕ) → 7 ≤ length ds → length ds < 8 → ds ≡ get_or ds 0 0 ∷ get_or ds 1 0 ∷ get_or ds 2 0 ∷ get_or ds 3 0 ∷ get_or ds 4 0 ∷ get_or ds 5 0 ∷ get_or ds 6 0 ∷ []
as_seven [] least below = absurd (omega arith)
as_seven (a ∷ []) least below = absurd (omega arith)
as_seven (a ∷ b ∷ []) least below = absurd (omega arith)
as_seven (a ∷ b ∷ c ∷ []) least below = absurd (omega arith)
as_seven (a ∷ b ∷ c ∷ d ∷ []) least below = absurd (omega arith)
as_seven (a ∷ b ∷ c ∷ d ∷ e ∷ []) least below = absurd (omega arith)
as_seven (a ∷ b ∷ c ∷ d ∷ e ∷ f ∷ []) least below = absurd (omega arith)
as_seven (a ∷ b ∷ c ∷ d ∷ e ∷ f ∷ g ∷ []) least below = refl
as_seven (a ∷ b ∷ c ∷ d ∷ e ∷ f ∷ g ∷ h ∷ rest) least below = absurd (omega arith)

expanded_chosen : (s t u : Bool) (a b c d e f : ℕ) → is_digit a ≡ true → is_digit b ≡ true → is_digit c ≡ true → is_digit d ≡ true → is_digit e ≡ true → is_digit f ≡ true
    → all_digits (if s then 0x30 ∷ a ∷ b ∷ f ∷ 0x30 ∷ 0x30 ∷ 0x30 ∷ 0x30 ∷ c ∷ d ∷ e ∷ []
    else if t then 0x30 ∷ a ∷ b ∷ c ∷ 0x30 ∷ 0x30 ∷ 0x30 ∷ 0x30 ∷ 0x30 ∷ d ∷ e ∷ []
    else if u then 0x30 ∷ a ∷ b ∷ c ∷ d ∷ 0x30 ∷ 0x30 ∷ 0x30 ∷ 0x30 ∷ 0x30 ∷ e ∷ []
    else 0x30 ∷ a ∷ b ∷ c ∷ d ∷ e ∷ 0x30 ∷ 0x30 ∷ 0x30 ∷ 0x30 ∷ f ∷ []) ≡ true
expanded_chosen true t u a b c d e f ha hb hc hd he hf = both _ _ refl (both _ _ ha (both _ _ hb (both _ _ hf (both _ _ refl (both _ _ refl (both _ _ refl (both _ _ refl (both _ _ hc (both _ _ hd (both _ _ he refl))))))))))
expanded_chosen false true u a b c d e f ha hb hc hd he hf = both _ _ refl (both _ _ ha (both _ _ hb (both _ _ hc (both _ _ refl (both _ _ refl (both _ _ refl (both _ _ refl (both _ _ refl (both _ _ hd (both _ _ he refl))))))))))
expanded_chosen false false true a b c d e f ha hb hc hd he hf = both _ _ refl (both _ _ ha (both _ _ hb (both _ _ hc (both _ _ hd (both _ _ refl (both _ _ refl (both _ _ refl (both _ _ refl (both _ _ refl (both _ _ he refl))))))))))
expanded_chosen false false false a b c d e f ha hb hc hd he hf = both _ _ refl (both _ _ ha (both _ _ hb (both _ _ hc (both _ _ hd (both _ _ he (both _ _ refl (both _ _ refl (both _ _ refl (both _ _ refl (both _ _ hf refl))))))))))

pub expanded_digits : (a b c d e f : ℕ) → IsTrue (all_digits (a ∷ b ∷ c ∷ d ∷ e ∷ f ∷ [])) → IsTrue (all_digits (expanded (a ∷ b ∷ c ∷ d ∷ e ∷ f ∷ [])))
expanded_digits a b c d e f h =
    let ha = and_left (is_digit a) (all_digits (b ∷ c ∷ d ∷ e ∷ f ∷ [])) h in
    let ra = and_right (is_digit a) (all_digits (b ∷ c ∷ d ∷ e ∷ f ∷ [])) h in
    let hb = and_left (is_digit b) (all_digits (c ∷ d ∷ e ∷ f ∷ [])) ra in
    let rb = and_right (is_digit b) (all_digits (c ∷ d ∷ e ∷ f ∷ [])) ra in
    let hc = and_left (is_digit c) (all_digits (d ∷ e ∷ f ∷ [])) rb in
    let rc = and_right (is_digit c) (all_digits (d ∷ e ∷ f ∷ [])) rb in
    let hd = and_left (is_digit d) (all_digits (e ∷ f ∷ [])) rc in
    let rd = and_right (is_digit d) (all_digits (e ∷ f ∷ [])) rc in
    let he = and_left (is_digit e) (all_digits (f ∷ [])) rd in
    let re = and_right (is_digit e) (all_digits (f ∷ [])) rd in
    let hf = and_left (is_digit f) (all_digits ([])) re in
    expanded_chosen (nat_le f 0x32) (f == 0x33) (f == 0x34) a b c d e f ha hb hc hd he hf

pub last_six : (n a b c d e f : ℕ) → IsTrue (all_digits (n ∷ a ∷ b ∷ c ∷ d ∷ e ∷ f ∷ [])) → IsTrue (all_digits (a ∷ b ∷ c ∷ d ∷ e ∷ f ∷ []))
last_six n a b c d e f h = and_right (is_digit n) (all_digits (a ∷ b ∷ c ∷ d ∷ e ∷ f ∷ [])) h
