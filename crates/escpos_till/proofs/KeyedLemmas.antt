-- Keys that are looked up in a map: what is found is listed, and what isn't found isn't.
use Rattle.std.proofs.Common.{ℕ, ◌≡◌, inl, inr, Bool, true, false, cond, nat_eq, Option, Some, None, List, [], ◌∷◌, refl, sym, ◌∙◌, ap, subst}
use Rattle.std.specs.Prelude.{IsOk, MatchOption, OnOk, Result, Ok, Err}
use Rattle.std.specs.Cmp.Lexicographic.{same_text, other_text}
use Rattle.std.specs.Map.{lookup}
use lib.Pointwise.{pointwise}
use Rattle.escpos_till.specs.Keyed.{Keyed, ListsKey}

-- What a lookup tells of a list of keys.
abbrev pub Told : List Keyed → List ℕ → Option ℕ → Type 0
Told items key r = MatchOption r ((number : ℕ) → ListsKey items key number → ⊥) (λ number. ListsKey items key number)

other_first : (x : Keyed) (xs : List Keyed) (key : List ℕ) (r : Option ℕ) → false ≡ pointwise nat_eq key x.0 → Told xs key r → Told (x ∷ xs) key r
other_first x xs key None other told = λ n lists. elim lists [
  | inl here ↦ absurd (other_text key x.0 other (sym here.0))
  | inr later ↦ told n later
]
other_first x xs key (Some n) other told = inr told

pub told_by_lookup : (items : List Keyed) (key : List ℕ) (r : Option ℕ) → r ≡ lookup (pointwise nat_eq key) items → Told items key r
told_by_lookup [] key r is = subst (λ o. Told [] key o) (sym is) (λ n lists. lists)
told_by_lookup (x ∷ xs) key r is = by (pointwise nat_eq key x.0) refl (told_by_lookup xs key r)
  where
    by : (b : Bool) → b ≡ pointwise nat_eq key x.0 → (r ≡ lookup (pointwise nat_eq key) xs → Told xs key r) → Told (x ∷ xs) key r
    by true same later =
        let first : r ≡ Some x.1 = is ∙ ap (λ b. cond b (Some x.1) (lookup (pointwise nat_eq key) xs)) (sym same) in
        subst (λ o. Told (x ∷ xs) key o) (sym first) (inl (sym (same_text key x.0 same), refl))
    by false other later = other_first x xs key r other (later (is ∙ ap (λ b. cond b (Some x.1) (lookup (pointwise nat_eq key) xs)) (sym other)))

pub not_found : (items : List Keyed) (key : List ℕ) → ((number : ℕ) → ListsKey items key number → ⊥) → lookup (pointwise nat_eq key) items ≡ None
not_found items key new = by (lookup (pointwise nat_eq key) items) refl
  where
    by : (r : Option ℕ) → r ≡ lookup (pointwise nat_eq key) items → lookup (pointwise nat_eq key) items ≡ None
    by None is = sym is
    by (Some n) is = absurd (new n (told_by_lookup items key (Some n) is))

-- What holds where there is a value.
pub on_ok : {T E P : Type 0} (r : Result T E) → OnOk r P → IsOk r → P
on_ok (Ok x) holds ok = holds
on_ok (Err e) holds ok = cc
