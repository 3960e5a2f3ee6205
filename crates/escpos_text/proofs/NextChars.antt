-- The next character of a text, and the rest.
use Rattle.std.proofs.Common.{◌≡◌, ℕ, ◌<◌, List, [], ◌∷◌, ◌++◌, drop, get_or, length, sym, ap, ◌∙◌, suc, add-one, drop-cons}
use Rattle.std.proofs.lemmas.List.{length_push}

pub rest_at : (cs yielded : List ℕ) (c : ℕ) → (length yielded < length cs) × (c ≡ get_or cs (length yielded) c) → drop (length yielded) cs ≡ c ∷ drop (length (yielded ++ c ∷ [])) cs
rest_at cs yielded c h =
    drop-cons cs (length yielded) c h.0
    ∙ ap (λ x. x ∷ drop (suc (length yielded)) cs) (sym h.1)
    ∙ ap (λ n. c ∷ drop n cs) (sym (add-one (length yielded)) ∙ sym (length_push yielded c))
