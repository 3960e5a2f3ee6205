-- The loops that add up the length of a command, a turn each.
use Rattle.std.proofs.Common.{zero, suc, ◌≡◌, ℕ, ◌+◌, ◌-◌, ◌<◌, ◌≤◌, Bool, true, false, inl, inr, List, ◌∷◌, length, take, drop, refl, sym, ◌∙◌, ap, arith, add-one, drop-cons, Option, None, Some}
use Rattle.std.specs.Prelude.{◌==◌, min, slice_index, if◌then◌else◌}
use Rattle.std.specs.Option.{option_map, option_and_then}
use Rattle.std.proofs.lemmas.Bool.{eqb-true, eq-eqb, cases_lt}
use Rattle.std.proofs.lemmas.List.{take_rest}
use Rattle.std.proofs.Math.ListN.{drop_of_length-le}
use Rattle.escpos_passed.specs.declared.table.Counted.{Counted}
use Rattle.escpos_passed.specs.Lengths.{counted_length, length_until, repeated_length}

-- What a length has left after at bytes.
abbrev pub Left : Option ℕ → ℕ → Option ℕ → Type 0
Left o at left = o ≡ option_map (λ m. at + m) left

one_further : (at : ℕ) (o : Option ℕ) → option_map (λ m. at + m) (option_map suc o) ≡ option_map (λ m. at + 1 + m) o
one_further at None = refl
one_further at (Some m) = ap Some (omega arith)

drop_here : (bs : List ℕ) (at : ℕ) → at < length bs → drop at bs ≡ slice_index bs at ∷ drop (at + 1) bs
drop_here bs at h = rw (add-one) (drop-cons bs at 0 h)

pub until_none : (end left : ℕ) (bs : List ℕ) (at : ℕ) (o : Option ℕ) → at ≡ length bs → 0 < left → Left o at (length_until end left (drop at bs)) → None ≡ o
until_none end zero bs at o e h l = absurd (omega (arith, h))
until_none end (suc k) bs at o e h l =
    let past : length bs ≤ at = omega (arith, e) in
    sym (l ∙ ap (λ v. option_map (λ m. at + m) (length_until end (suc k) v)) (drop_of_length-le bs past))

pub until_hit : (end left : ℕ) (bs : List ℕ) (at : ℕ) (o : Option ℕ) → at < length bs → 0 < left → slice_index bs at ≡ end → Left o at (length_until end left (drop at bs))
    → Left o (at + 1) (length_until end (left - 1) (drop (at + 1) bs))
until_hit end zero bs at o h k e l = absurd (omega (arith, k))
until_hit end (suc left) bs at o h k e l =
    l ∙ ap (λ v. option_map (λ m. at + m) (length_until end (suc left) v)) (drop_here bs at h)
    ∙ ap (λ (t : Bool). option_map (λ m. at + m) (option_map suc (if t then length_until end left (drop (at + 1) bs) else length_until end (suc left) (drop (at + 1) bs)))) (eq-eqb (slice_index bs at) end e)
    ∙ one_further at (length_until end left (drop (at + 1) bs))
    ∙ ap (λ n. option_map (λ m. at + 1 + m) (length_until end n (drop (at + 1) bs))) (omega arith)

unlike : (t : Bool) (a b : ℕ) → (a == b) ≡ t → (a ≡ b → ⊥) → t ≡ false
unlike true a b e h = absurd (h (eqb-true a b e))
unlike false a b e h = refl

pub until_miss : (end left : ℕ) (bs : List ℕ) (at : ℕ) (o : Option ℕ) → at < length bs → 0 < left → (slice_index bs at ≡ end → ⊥) → Left o at (length_until end left (drop at bs))
    → Left o (at + 1) (length_until end left (drop (at + 1) bs))
until_miss end zero bs at o h k e l = absurd (omega (arith, k))
until_miss end (suc left) bs at o h k e l =
    l ∙ ap (λ v. option_map (λ m. at + m) (length_until end (suc left) v)) (drop_here bs at h)
    ∙ ap (λ (t : Bool). option_map (λ m. at + m) (option_map suc (if t then length_until end left (drop (at + 1) bs) else length_until end (suc left) (drop (at + 1) bs)))) (unlike (slice_index bs at == end) (slice_index bs at) end refl e)
    ∙ one_further at (length_until end (suc left) (drop (at + 1) bs))

drop_all : (one : ℕ) (bs : List ℕ) → drop (min one (length bs)) bs ≡ drop one bs
drop_all one bs = elim (cases_lt one (length bs)) [
  | inl less ↦ ap (λ n. drop n bs) (omega (arith, less))
  | inr more ↦
      let all : length bs ≤ length bs = omega arith in
      ap (λ n. drop n bs) (omega (arith, more)) ∙ drop_of_length-le bs all ∙ sym (drop_of_length-le bs more)
]

further : (at one : ℕ) (o : Option ℕ) → option_map (λ m. at + m) (option_map (λ m. one + m) o) ≡ option_map (λ m. at + one + m) o
further at one None = refl
further at one (Some m) = ap Some (omega arith)

pub part_more : (c : Counted) (left at one : ℕ) (rest : List ℕ) (o : Option ℕ) → 0 < left → counted_length c rest ≡ Some one → Left o at (repeated_length c left rest)
    → Left o (at + one) (repeated_length c (left - 1) (take (length rest - min one (length rest)) (drop (min one (length rest)) rest)))
part_more c zero at one rest o h e l = absurd (omega (arith, h))
part_more c (suc left) at one rest o h e l =
    l ∙ ap (λ v. option_map (λ m. at + m) (option_and_then (λ k. option_map (λ m. k + m) (repeated_length c left (drop k rest))) v)) e
    ∙ further at one (repeated_length c left (drop one rest))
    ∙ ap (λ v. option_map (λ m. at + one + m) (repeated_length c left v)) (sym (take_rest rest (min one (length rest)) ∙ drop_all one rest))
    ∙ ap (λ n. option_map (λ m. at + one + m) (repeated_length c n (take (length rest - min one (length rest)) (drop (min one (length rest)) rest)))) (omega arith)
