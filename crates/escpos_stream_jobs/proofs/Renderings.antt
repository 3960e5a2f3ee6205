-- The text of what one more command prints, and of items one after another.
use Rattle.std.proofs.Common.{◌≡◌, ℕ, ◌+◌, ◌<◌, ◌≤◌, List, [], ◌∷◌, ◌++◌, length, take, sym, ◌∙◌, ap, subst, add-one, get_or, append-nil, Option}
use Rattle.std.proofs.lemmas.Grind.{flat_map-append}
use Rattle.std.proofs.lemmas.List.{take_all}
use Rattle.std.proofs.Math.Seq.{take-suc}
use Rattle.escpos_command.specs.declared.command.Command.{Command}
use Rattle.escpos_io.specs.Gather.{Carries, Gathered}
use Rattle.escpos_paper.specs.declared.item.Item.{Item}
use Rattle.escpos_paper.specs.Page.{Sheet, SheetIs}
use Rattle.escpos_paper.specs.Torn.{bare, below}
use Rattle.escpos_paper.specs.Printed.{printed}
use Rattle.std.specs.Prelude.{flat_map}
use Rattle.escpos_stream_jobs.specs.RenderSteps.{IsRendered}

-- The text of the first of some items, and of the next one.
pub one_more : (text : Item → List ℕ) (items : List Item) (i : ℕ) (x : Item) → i < length items → x ≡ get_or items i x
    → flat_map text (take i items) ++ text x ≡ flat_map text (take (i + 1) items)
one_more text items i x h e =
    ap (λ v. flat_map text (take i items) ++ v) (sym (append-nil (text x))) ∙ sym (flat_map-append text (take i items) (x ∷ []))
    ∙ ap (flat_map text) (ap (λ v. take i items ++ v ∷ []) e ∙ sym (take-suc items i x h) ∙ ap (λ n. take n items) (sym (add-one i)))

pub all_items : (text : Item → List ℕ) (items : List Item) (i : ℕ) → length items ≤ i → flat_map text (take i items) ≡ flat_map text items
all_items text items i h = ap (flat_map text) (take_all i items h)

-- What commands left after the paper that was torn off is torn off too, and its text given.
pub rendered_on : (text : Item → List ℕ) (width : ℕ) (first sink : Option (List ℕ)) (gather : Gathered) (left torn : Sheet) (cs ds : List Command)
    → SheetIs width (below (printed width cs) left) [] (cs ++ ds) → torn ≡ bare left
    → Carries first sink gather (flat_map text (printed width cs) ++ flat_map text left.items) → IsRendered text width first sink gather torn (cs ++ ds)
rendered_on text width first sink gather left torn cs ds is off carried =
    let all : printed width cs ++ left.items ≡ printed width (cs ++ ds) = ap (λ (s : Sheet). s.items) is in
    let stays : below (printed width cs ++ left.items) (bare left) ≡ below (printed width cs) left = let e = append-nil (printed width cs ++ left.items) in cc e in
    record {
      torn = ap (λ (s : Sheet). s.items) off;
      sheet_is = subst (λ v. SheetIs width (below v torn) [] (cs ++ ds)) all (ap (below (printed width cs ++ left.items)) off ∙ stays ∙ is);
      carried = subst (Carries first sink gather) (sym (flat_map-append text (printed width cs) left.items) ∙ ap (flat_map text) all) carried;
    }
