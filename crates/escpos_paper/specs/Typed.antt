-- Characters that are typed on a line, with code tables selected between them.
use Rattle.std.specs.Prelude.{ℕ, ◌≡◌, List, [], ◌∷◌, ◌++◌, Option, None, map}
use Rattle.escpos_command.specs.declared.command.Command.{Command}
use Rattle.escpos_command.specs.declared.command.Command.TheVariants as kind
use Rattle.escpos_command.specs.declared.setting.SettingKind.TheVariants as sets
use Rattle.escpos_command.specs.Text.{characters}
use Rattle.escpos_paper.specs.declared.cell.Cell.{Cell}
use Rattle.escpos_paper.specs.OverPlaces.{over_places}
use Rattle.escpos_paper.specs.Styles.{style, line_style}
use Rattle.escpos_paper.specs.Cells.{cell, placed_cell}
use Rattle.escpos_paper.specs.Rows.{line, moved}
use Rattle.escpos_paper.specs.Printed.{printed}

-- The commands that do that.
abbrev pub IsTyping : Command → Type 0
IsTyping (kind.Char b) = Unit {0}
IsTyping (kind.Set (sets.Table, p)) = Unit {0}
IsTyping _ = ⊥

-- The cells of the characters of commands that come after others, each in the style that the commands before it have set.
abbrev pub typed : List Command → List Command → List Cell
typed before cs = over_places (λ b c following. map (cell (style b)) (characters c)) before cs

-- Cells of which the first stands where the next one does.
abbrev pub from_place : Option ℕ → List Cell → List Cell
from_place moved [] = []
from_place moved (x ∷ xs) = placed_cell moved x ∷ xs

-- Where the next one stands after them.
abbrev pub place_then : Option ℕ → List Cell → Option ℕ
place_then moved [] = moved
place_then moved (x ∷ xs) = None

-- Commands that come after others print nothing; their characters stand on the line, after what stood there.
pub record GoesOnLine (width : ℕ) (before cs : List Command) : Type 0 where
  pub prints_nothing : printed width (before ++ cs) ≡ printed width before
  pub stands : line width (before ++ cs) ≡ line width before ++ from_place (moved width before) (typed before cs)
  pub then_moved : moved width (before ++ cs) ≡ place_then (moved width before) (typed before cs)
  pub same_lines : line_style (before ++ cs) ≡ line_style before
