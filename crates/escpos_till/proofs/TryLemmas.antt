-- The tries of receipts, looked at one after another.
use Rattle.std.proofs.Common.{ℕ, zero, suc, ◌≡◌, ◌+◌, ◌<◌, ◌≤◌, ◌⊎◌, inl, inr, true, false, cond, List, [], ◌∷◌, ◌++◌, length, map, take, get_or, refl, sym, ◌∙◌, ap, subst, add-one, append-nil, arith}
use Rattle.std.specs.Prelude.{◌==◌, filter}
use Rattle.std.proofs.lemmas.List.{map-append}
use Rattle.std.proofs.lemmas.List.Elements.{filter-append}
use Rattle.std.proofs.Math.Seq.{take-suc}
use Rattle.escpos_till.specs.declared.tries.Try.{Try}
use Rattle.escpos_host.specs.Counted.{id_of}
use Rattle.escpos_till.specs.Tries.{ClosesTry, HasTry, end_of_tries, last_or}

has_join : (xs ys : List Try) (n c : ℕ) → HasTry (xs ++ ys) n c → HasTry xs n c ⊎ HasTry ys n c
has_join [] ys n c has = inr has
has_join (x ∷ xs) ys n c (inl here) = inl (inl here)
has_join (x ∷ xs) ys n c (inr later) = elim (has_join xs ys n c later) [
  | inl first ↦ inl (inr first)
  | inr last ↦ inr last
]

pub has_more : (xs ys : List Try) (n c : ℕ) → HasTry xs n c → HasTry (xs ++ ys) n c
has_more [] ys n c has = absurd has
has_more (x ∷ xs) ys n c (inl here) = inl here
has_more (x ∷ xs) ys n c (inr later) = inr (has_more xs ys n c later)

-- The one at a place.
pub has_at : (ts : List Try) (k : ℕ) (t : Try) (n c : ℕ) → k < length ts → t ≡ get_or ts k t → (t.number ≡ n) × (t.closing ≡ c) → HasTry ts n c
has_at [] k t n c inside is so = absurd (omega (arith, inside))
has_at (x ∷ ts) zero t n c inside is so = inl (subst (λ (v : Try). (v.number ≡ n) × (v.closing ≡ c)) is so)
has_at (x ∷ ts) (suc k) t n c inside is so = inr (has_at ts k t n c (omega (arith, inside)) is so)

-- The first ones, and the one after them.
one_longer : (ts : List Try) (k : ℕ) (t : Try) → k < length ts → t ≡ get_or ts k t → take (k + 1) ts ≡ take k ts ++ t ∷ []
one_longer ts k t inside is = ap (λ m. take m ts) (add-one k) ∙ take-suc ts k t inside ∙ ap (λ y. take k ts ++ y ∷ []) (sym is)

-- A mark closed the one at a place.
pub closes_at : (ts : List Try) (k : ℕ) (t : Try) (first end n : ℕ) (id : List ℕ) → k < length ts → t ≡ get_or ts k t → (t.number ≡ n) × (first ≤ t.closing) × (t.closing < end) × (id_of t.closing ≡ id)
    → ClosesTry ts first end n id
closes_at ts k t first end n id inside is (number, least, most, same) = (t.closing, least, most, same, has_at ts k t n t.closing inside is (number, refl))

-- Not the first ones, and not the one after them.
pub none_so_far : (ts : List Try) (k : ℕ) (t : Try) (first end n : ℕ) (id : List ℕ) → k < length ts → t ≡ get_or ts k t → (ClosesTry (take k ts) first end n id → ⊥)
    → ((t.number ≡ n) × (first ≤ t.closing) × (t.closing < end) × (id_of t.closing ≡ id) → ⊥) → ClosesTry (take (k + 1) ts) first end n id → ⊥
none_so_far ts k t first end n id inside is before other (c, least, most, same, has) =
    elim (has_join (take k ts) (t ∷ []) n c (subst (λ v. HasTry v n c) (one_longer ts k t inside is) has)) [
      | inl earlier ↦ before (c, least, most, same, earlier)
      | inr (inl here) ↦ other (here.0, omega (arith, least, here.1), omega (arith, most, here.1), ap id_of here.1 ∙ same)
      | inr (inr later) ↦ later
    ]

-- ## The end of the last try

last-snoc : (d : ℕ) (ns : List ℕ) (n : ℕ) → last_or d (ns ++ n ∷ []) ≡ n
last-snoc d [] n = refl
last-snoc d (m ∷ ns) n = last-snoc m ns n

-- Of those up to a place the one there counts, if it is of the receipt.
ends_join : (ts : List Try) (k : ℕ) (t : Try) (n : ℕ) (one : List Try) → k < length ts → t ≡ get_or ts k t → filter (λ t. t.number == n) (t ∷ []) ≡ one
    → map (λ t. t.closing + 1) (filter (λ t. t.number == n) (take (k + 1) ts)) ≡ map (λ t. t.closing + 1) (filter (λ t. t.number == n) (take k ts)) ++ map (λ t. t.closing + 1) one
ends_join ts k t n one inside is kept =
    ap (λ l. map (λ t. t.closing + 1) (filter (λ t. t.number == n) l)) (one_longer ts k t inside is)
    ∙ ap (map (λ t. t.closing + 1)) (filter-append (λ t. t.number == n) (take k ts) (t ∷ []) ∙ ap (λ l. filter (λ t. t.number == n) (take k ts) ++ l) kept)
    ∙ map-append (λ t. t.closing + 1) (filter (λ t. t.number == n) (take k ts)) one

pub end_next : (ts : List Try) (k : ℕ) (t : Try) (n : ℕ) → k < length ts → t ≡ get_or ts k t → (t.number == n) ≡ true → end_of_tries (take (k + 1) ts) n ≡ t.closing + 1
end_next ts k t n inside is same =
    ap (last_or 0) (ends_join ts k t n (t ∷ []) inside is (ap (λ b. cond b (t ∷ []) []) same))
    ∙ last-snoc 0 (map (λ t. t.closing + 1) (filter (λ t. t.number == n) (take k ts))) (t.closing + 1)

pub end_stays : (ts : List Try) (k : ℕ) (t : Try) (n : ℕ) → k < length ts → t ≡ get_or ts k t → (t.number == n) ≡ false → end_of_tries (take (k + 1) ts) n ≡ end_of_tries (take k ts) n
end_stays ts k t n inside is other =
    ap (last_or 0) (ends_join ts k t n [] inside is (ap (λ b. cond b (t ∷ []) []) other)
    ∙ append-nil (map (λ t. t.closing + 1) (filter (λ t. t.number == n) (take k ts))))
