-- The one argument is the text that asks for the version.
use Rattle.std.proofs.Common.{◌≡◌, ◌∙◌, ◌≤◌, ◌<◌, ◌∷◌, [], ℕ, List, length, map, ap, sym, refl, codes, arith}
use Rattle.std.specs.Prelude.{get_or}
use Rattle.std.specs.Str.{bytes_eq}
use Rattle.std.proofs.lemmas.Slice.Eq.{bytes_eq-Decides}
use Rattle.escpos_arguments.proofs.arguments.asks_version.Goals as goal

one_item : {A : Type 0} (xs : List A) (d : A) → 1 ≤ length xs → length xs < 2 → xs ≡ get_or xs 0 d ∷ []
one_item [] d some few = absurd (omega (arith, some))
one_item (x ∷ []) d some few = refl
one_item (x ∷ y ∷ ys) d some few = absurd (omega (arith, few))

same_text : (a b : List ℕ) → a ∷ [] ≡ b ∷ [] → a ≡ b
same_text a b e = cc

pub returns-in-len1 : goal.returns-in-len1
returns-in-len1 g c =
    let one = one_item c.args.words.now c.word-item.result c.in-len1.len_at_least c.in-len1.len_below ∙ ap (λ w. w ∷ []) (sym c.word-item.is) in
    let texts = ap (map g.S.AsStr.text) one in (
      λ is. texts ∙ ap (λ t. t ∷ []) (sym c.as_str.ensures ∙ (bytes_eq-Decides c.as_str.result.now (codes "--version")).0 (sym c.eq.ensures ∙ is)),
      λ h. c.eq.ensures ∙ ap (λ t. bytes_eq t (codes "--version")) (c.as_str.ensures ∙ same_text (g.S.AsStr.text c.word-item.result) (codes "--version") (sym texts ∙ h)),
    )
