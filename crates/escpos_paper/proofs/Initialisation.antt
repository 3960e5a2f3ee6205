-- After an Init the commands before it have no effect.
use Rattle.std.proofs.Common.{◌≡◌, ℕ, List, [], ◌∷◌, ◌++◌, refl, sym, ◌∙◌, ap, append_assoc, append-nil}
use Rattle.std.proofs.Math.Seq.{append_snoc}
use Rattle.escpos_command.specs.declared.command.Command.{Command}
use Rattle.escpos_command.specs.declared.command.Command.TheVariants.{Init}
use Rattle.escpos_paper.specs.declared.item.Item.{Item}
use Rattle.escpos_paper.specs.OverPlaces.{over_places}
use Rattle.escpos_paper.specs.Printed.{prints, printed}
use Rattle.escpos_paper.specs.Page.{Sheet}
use Rattle.escpos_paper.specs.Steps.{sheet_after}
use Rattle.escpos_paper.proofs.Sheets.{sheet_of, sheet-snoc}

-- Where two lists of commands leave the same sheet, they do so with the same further commands too.
pub same_after : (w : ℕ) (kept also : List Item) (cs ds more : List Command) → sheet_of w kept cs ≡ sheet_of w also ds
    → sheet_of w kept (cs ++ more) ≡ sheet_of w also (ds ++ more)
same_after w kept also cs ds [] e =
    ap (sheet_of w kept) (append-nil cs) ∙ e ∙ sym (ap (sheet_of w also) (append-nil ds))
same_after w kept also cs ds (c ∷ more) e =
    ap (sheet_of w kept) (sym (append_snoc cs c more))
    ∙ same_after w kept also (cs ++ c ∷ []) (ds ++ c ∷ []) more
    (sheet-snoc w kept cs c ∙ ap (λ s. sheet_after s c) e ∙ sym (sheet-snoc w also ds c))
    ∙ ap (sheet_of w also) (append_snoc ds c more)

-- After an Init all that is left is what was printed before it.
sheet_of_init : (w : ℕ) (cs : List Command) → sheet_of w [] (cs ++ Init ∷ []) ≡ sheet_of w (printed w cs) []
sheet_of_init w cs = sheet-snoc w [] cs Init

pub initialisation : (w : ℕ) (a b : List Command) → printed w (a ++ Init ∷ [] ++ b) ≡ printed w a ++ printed w b
initialisation w a b = ap (λ (s : Sheet). s.items) (same_after w [] (printed w a) (a ++ Init ∷ []) [] b (sheet_of_init w a))

-- Further commands print after what is printed.
paper_grows_from : (w : ℕ) (before a b : List Command) → (more : List Item)
    × (over_places (λ c d following. prints w c d) before (a ++ b) ≡ over_places (λ c d following. prints w c d) before a ++ more)
paper_grows_from w before [] b = (over_places (λ c d following. prints w c d) before b, refl)
paper_grows_from w before (c ∷ a) b =
    let rest : (more : List Item) × (over_places (λ x d following. prints w x d) (before ++ c ∷ []) (a ++ b) ≡ over_places (λ x d following. prints w x d) (before ++ c ∷ []) a ++ more) =
    paper_grows_from w (before ++ c ∷ []) a b in (
      rest.0,
      ap (λ t. prints w before c ++ t) rest.1
          ∙ sym (append_assoc (prints w before c) (over_places (λ x d following. prints w x d) (before ++ c ∷ []) a) rest.0),
    )

pub paper_grows : (w : ℕ) (a b : List Command) → (more : List Item) × (printed w (a ++ b) ≡ printed w a ++ more)
paper_grows w a b = paper_grows_from w [] a b
