-- Receipts that stand on paper still stand when more is printed; one more stands after them; and the first of them stand
-- alone.
use Rattle.std.proofs.Common.{◌≡◌, ℕ, List, [], ◌∷◌, ◌++◌, sym, ◌∙◌, ap, append-nil, append_assoc}
use Rattle.escpos_command.specs.declared.command.Command.{Command}
use Rattle.escpos_paper.specs.declared.item.Item.{Item}
use Rattle.escpos_paper.specs.Printed.{printed}
use Rattle.escpos_link.specs.Stands.{Stands}

further : (front mid after more : List Item) → (front ++ (mid ++ after)) ++ more ≡ front ++ (mid ++ (after ++ more))
further front mid after more = append_assoc front (mid ++ after) more ∙ ap (λ v. front ++ v) (append_assoc mid after more)

pub stands_more : (width : ℕ) (rs : List (List Command)) (paper more : List Item) → Stands width rs paper → Stands width rs (paper ++ more)
stands_more width [] paper more s = tt
stands_more width (r ∷ rs) paper more (front, after, is, s) =
    (front, after ++ more, ap (λ v. v ++ more) is ∙ further front (printed width r) after more, stands_more width rs after more s)

pub stands_add : (width : ℕ) (rs : List (List Command)) (r : List Command) (paper : List Item) → Stands width rs paper → Stands width (rs ++ r ∷ []) (paper ++ printed width r)
stands_add width [] r paper s = (paper, [], ap (λ v. paper ++ v) (sym (append-nil (printed width r))), tt)
stands_add width (q ∷ rs) r paper (front, after, is, s) =
    (front, after ++ printed width r, ap (λ v. v ++ printed width r) is ∙ further front (printed width q) after (printed width r), stands_add width rs r after s)

pub stands_front : (width : ℕ) (rs qs : List (List Command)) (paper : List Item) → Stands width (rs ++ qs) paper → Stands width rs paper
stands_front width [] qs paper s = tt
stands_front width (r ∷ rs) qs paper (front, after, is, s) = (front, after, is, stands_front width rs qs after s)
