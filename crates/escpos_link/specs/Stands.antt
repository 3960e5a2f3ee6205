-- What a till's owner wants to be sure of: the receipts that are recorded as printed are on the paper.
use Rattle.std.specs.Prelude.{ℕ, ◌≡◌, List, [], ◌∷◌, ◌++◌}
use Rattle.escpos_command.specs.declared.command.Command.{Command}
use Rattle.escpos_paper.specs.declared.item.Item.{Item}
use Rattle.escpos_paper.specs.Printed.{printed}

-- The receipts stand on the paper whole, one after another in this order, each exactly the items that its commands print on
-- a printer just initialised, in lines of this width in dots. Other items may stand before, between and after them.
abbrev pub Stands : ℕ → List (List Command) → List Item → Type 0
Stands width [] paper = Unit {0}
Stands width (r ∷ rs) paper = (front : List Item) × (after : List Item) × (paper ≡ front ++ (printed width r ++ after)) × Stands width rs after
