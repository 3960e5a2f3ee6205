-- The first place at which a test holds.
use Rattle.std.proofs.Common.{◌≡◌, ℕ, ◌<◌, Bool, true, false, nat_lt, cond, List, length, get_or, sym, ap, ◌∙◌, arith, lt-ltb, le-ltb, le_refl, Some, None, position, inl, inr}
use Rattle.std.proofs.lemmas.Bool.{cases_lt}
use Rattle.std.proofs.lemmas.Option.{none-some}
use Rattle.std.proofs.lemmas.List.Sums.{fails_before_first, position_or_len_is}
use Rattle.std.specs.List.{position_or_len}

pub place_is : (p : ℕ → Bool) (xs : List ℕ) (i : ℕ) → i < length xs → ((k : ℕ) → k < i → p (get_or xs k 0) ≡ false) → p (get_or xs i 0) ≡ true → position p xs ≡ Some i
place_is p xs i lt before here =
    let e : position_or_len p xs ≡ i = position_or_len_is p xs i 0 (omega arith) before (λ _. here) in
    ap (λ n. cond (nat_lt n (length xs)) (Some n) None) e ∙ ap (λ b. cond b (Some i) None) (lt-ltb i (length xs) lt)

pub place_nowhere : (p : ℕ → Bool) (xs : List ℕ) → ((k : ℕ) → k < length xs → p (get_or xs k 0) ≡ false) → position p xs ≡ None
place_nowhere p xs before =
    let n = length xs in
    let e : position_or_len p xs ≡ n = position_or_len_is p xs n 0 (le_refl n) before (λ lt. absurd (omega arith)) in
    ap (λ i. cond (nat_lt i n) (Some i) None) e ∙ ap (λ b. cond b (Some n) None) (le-ltb n n (le_refl n))

pub place_fails : (p : ℕ → Bool) (xs : List ℕ) (k : ℕ) → position p xs ≡ None → k < length xs → p (get_or xs k 0) ≡ false
place_fails p xs k h lt =
    elim (cases_lt (position_or_len p xs) (length xs)) [
      | inl less ↦
          let some : position p xs ≡ Some (position_or_len p xs) = ap (λ t. cond t (Some (position_or_len p xs)) None) (lt-ltb _ _ less) in
          absurd (none-some _ (sym h ∙ some))
      | inr all ↦ fails_before_first p xs k 0 (omega arith)
    ]
