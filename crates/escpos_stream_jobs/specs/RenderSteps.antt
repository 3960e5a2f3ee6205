-- What `render` keeps between two commands. Only private clauses, invariants and proofs use this definition.
use Rattle.std.specs.Prelude.{ℕ, ◌≡◌, List, [], Option, flat_map}
use Rattle.escpos_command.specs.declared.command.Command.{Command}
use Rattle.escpos_io.specs.Gather.{Carries, Gathered}
use Rattle.escpos_paper.specs.declared.item.Item.{Item}
use Rattle.escpos_paper.specs.Page.{Sheet, SheetIs}
use Rattle.escpos_paper.specs.Torn.{below}
use Rattle.escpos_paper.specs.Printed.{printed}

-- All that these commands print in lines of this width was torn off the sheet, and its text, where an item has this line, is printed or
-- kept back.
pub record IsRendered (text : Item → List ℕ) (width : ℕ) (first sink : Option (List ℕ)) (gather : Gathered) (sheet : Sheet) (cs : List Command) : Type 0 where
  pub torn : sheet.items ≡ []
  pub sheet_is : SheetIs width (below (printed width cs) sheet) [] cs
  pub carried : Carries first sink gather (flat_map text (printed width cs))
