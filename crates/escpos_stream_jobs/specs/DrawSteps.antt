-- What `draw` keeps between two commands. Only private clauses, invariants and proofs use these definitions.
use Rattle.std.specs.Prelude.{ℕ, ◌≡◌, List, [], ◌++◌, Option}
use Rattle.escpos_command.specs.declared.command.Command.{Command}
use Rattle.escpos_io.specs.Gather.{Carries, Gathered}
use Rattle.escpos_paper.specs.Page.{Sheet, SheetIs}
use Rattle.escpos_paper.specs.Torn.{below}
use Rattle.escpos_paper.specs.Printed.{printed}
use Rattle.escpos_picture.specs.Places.{Place, top, place_after_all}
use Rattle.escpos_picture.specs.Groups.{drawings}

-- All that these commands print in lines of this width was torn off the sheet, and this is the place after it.
pub record IsMeasured (width : ℕ) (sheet : Sheet) (place : Place) (cs : List Command) : Type 0 where
  pub torn : sheet.items ≡ []
  pub sheet_is : SheetIs width (below (printed width cs) sheet) [] cs
  pub place_is : place ≡ place_after_all (top width) (printed width cs)

-- It was drawn too, after some text: it is printed or kept back.
pub record IsDrawn (width : ℕ) (start : List ℕ) (first sink : Option (List ℕ)) (gather : Gathered) (sheet : Sheet) (place : Place) (cs : List Command) : Type 0 where
  pub measured : IsMeasured width sheet place cs
  pub carried : Carries first sink gather (start ++ drawings (top width) (printed width cs))
