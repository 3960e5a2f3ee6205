-- What commands print doesn't depend on what stands above it.
use Rattle.std.proofs.Common.{◌≡◌, ℕ, List, ◌++◌, sym, ◌∙◌, ap, append_assoc}
use Rattle.escpos_command.specs.declared.command.Command.{Command}
use Rattle.escpos_paper.specs.declared.item.Item.{Item}
use Rattle.escpos_paper.specs.Page.{Sheet}
use Rattle.escpos_paper.specs.Printed.{printed}
use Rattle.escpos_paper.specs.Torn.{below}
use Rattle.escpos_paper.proofs.Sheets.{sheet_of}
use Rattle.escpos_paper.proofs.Initialisation.{same_after}

-- Items above those that were kept.
kept_below : (w : ℕ) (above kept : List Item) (cs : List Command) → below above (sheet_of w kept cs) ≡ sheet_of w (above ++ kept) cs
kept_below w above kept cs = let e = sym (append_assoc above kept (printed w cs)) in cc e

pub paper_above : (w : ℕ) (above : List Item) (old new : Sheet) (first : List Item) (before more : List Command)
    → old ≡ sheet_of w first before → new ≡ sheet_of w first (before ++ more)
    → (kept : List Item) (cs : List Command) → below above old ≡ sheet_of w kept cs → below above new ≡ sheet_of w kept (cs ++ more)
paper_above w above old new first before more was is kept cs h =
    ap (below above) is ∙ kept_below w above first (before ++ more)
    ∙ same_after w (above ++ first) kept before cs more (sym (kept_below w above first before) ∙ sym (ap (below above) was) ∙ h)
