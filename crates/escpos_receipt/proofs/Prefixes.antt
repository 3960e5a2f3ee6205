-- A list, its prefix before some place, and the element there; and what holds of each element of two lists.
use Rattle.std.proofs.Common.{◌≡◌, ◌≢◌, ℕ, ◌+◌, ◌<◌, ◌≤◌, List, [], ◌∷◌, ◌++◌, length, take, drop, get_or, refl, sym, ◌∙◌, ap, append_assoc, add-one}
use Rattle.std.proofs.lemmas.List.{take-append-drop, take_all}
use Rattle.std.proofs.Math.Seq.{take-suc}
use Rattle.std.specs.List.{AllByRecursion}

-- The prefix with one more element.
pub one_longer : {X : Type 0} (xs : List X) (i : ℕ) (x : X) → i < length xs → x ≡ get_or xs i x → take (i + 1) xs ≡ take i xs ++ x ∷ []
one_longer xs i x h e = ap (λ n. take n xs) (add-one i) ∙ take-suc xs i x h ∙ ap (λ y. take i xs ++ y ∷ []) (sym e)

-- The list is the prefix, the element, and the rest.
pub split_at : {X : Type 0} (xs : List X) (i : ℕ) (x : X) → i < length xs → x ≡ get_or xs i x → xs ≡ take i xs ++ x ∷ drop (i + 1) xs
split_at xs i x h e =
    sym (take-append-drop (i + 1) xs) ∙ ap (λ front. front ++ drop (i + 1) xs) (one_longer xs i x h e) ∙ append_assoc (take i xs) (x ∷ []) (drop (i + 1) xs)

-- A prefix as long as the list is the list.
pub all_of : {X : Type 0} (xs : List X) (i : ℕ) → length xs ≤ i → take i xs ≡ xs
all_of xs i h = take_all i xs h

-- What holds of each element of two lists holds of each element of the two joined.
pub all_joined : {X : Type 0} (P : X → Type 0) (some others : List X) → AllByRecursion P some → AllByRecursion P others → AllByRecursion P (some ++ others)
all_joined P [] others all more = more
all_joined P (x ∷ some) others all more = (all.0, all_joined P some others all.1 more)

-- Lists whose joined list is empty are empty.
pub both_empty : {X : Type 0} (some others : List X) → some ++ others ≡ [] → (some ≡ []) × (others ≡ [])
both_empty [] others e = (refl, e)
both_empty (x ∷ some) others e = absurd (let no : x ∷ (some ++ others) ≡ [] = e in cc)

pub empty_by : {X : Type 0} (xs : List X) → ((xs ≢ []) → ⊥) → xs ≡ []
empty_by [] h = refl
empty_by (x ∷ xs) h = absurd (h (λ e. cc))
