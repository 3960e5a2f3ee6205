-- The entries of the line: each character with the style that the commands before it have set, and each move of the place of the next;
-- and the cells that they make.
use Rattle.std.specs.Prelude.{ℕ, ◌≡◌, ◌+◌, ◌-◌, ◌==◌, ⊤, max, nat_le, nat_lt, List, [], ◌∷◌, ◌++◌, Option, None, Some, map, sum_by, option_to_list, if◌then◌else◌}
use Rattle.std.specs.List.{AllByRecursion}
use Rattle.std.specs.Option.{unwrap_or, option_map}
use Rattle.escpos_command.specs.declared.command.Command.{Command}
use Rattle.escpos_command.specs.declared.command.Command.TheVariants as kind
use Rattle.escpos_command.specs.declared.parameter.position.PositionKind.TheVariants as position
use Rattle.escpos_command.specs.Text.{ends_later, characters}
use Rattle.escpos_paper.specs.declared.cell.Cell.{Cell}
use Rattle.escpos_paper.specs.declared.style.Style.{Style}
use Rattle.escpos_paper.specs.Dots.{area_dots, style_dots}
use Rattle.escpos_paper.specs.OverPlaces.{over_places}
use Rattle.escpos_paper.specs.Styles.{style, placing, stops}

-- ## Cells

-- A character in a style that follows the one before it.
abbrev pub cell : Style → ℕ → Cell
cell s b = record { byte = b; style = s; moved = None }

abbrev pub cell_dots : Cell → ℕ
cell_dots x = style_dots x.style

abbrev pub dots : List Cell → ℕ
dots row = sum_by cell_dots row

-- The left edge of a cell after others that end at this dot, its right edge, and where all of these end.
abbrev pub left_of : ℕ → Cell → ℕ
left_of end x = unwrap_or x.moved end

abbrev pub right_of : ℕ → Cell → ℕ
right_of end x = left_of end x + cell_dots x

abbrev pub end_after : ℕ → List Cell → ℕ
end_after end [] = end
end_after end (x ∷ xs) = end_after (right_of end x) xs

abbrev pub end_of : List Cell → ℕ
end_of row = end_after 0 row

-- How far right they reach.
abbrev pub reach_after : ℕ → List Cell → ℕ
reach_after end [] = 0
reach_after end (x ∷ xs) = max (right_of end x) (reach_after (right_of end x) xs)

abbrev pub reach_of : List Cell → ℕ
reach_of row = reach_after 0 row

-- Cells in this style that follow one another, and those of a row of which all but the first do so in the style of that.
abbrev pub FollowIn : Style → List Cell → Type 0
FollowIn s xs = AllByRecursion (λ x. x ≡ cell s x.byte) xs

abbrev pub IsRun : List Cell → Type 0
IsRun [] = ⊤
IsRun (x ∷ xs) = FollowIn x.style xs

-- Cells that begin in this style, or not at all.
abbrev pub BeginIn : Style → List Cell → Type 0
BeginIn s [] = ⊤
BeginIn s (x ∷ xs) = x.style ≡ s

-- ## Moves

-- How the place of the next character moves: to a dot of the printing area, by some dots, or to the next of these stops.
pub data Move : Type 0 where
  to : ℕ → Move
  right : ℕ → Move
  left : ℕ → Move
  stop : List ℕ → Move

abbrev pub next_stop : ℕ → List ℕ → Option ℕ
next_stop at [] = None
next_stop at (n ∷ ns) = if nat_lt at n then Some n else next_stop at ns

-- A place in a printing area of this width; a place outside is as before.
abbrev pub stay_within : ℕ → ℕ → ℕ → ℕ
stay_within area at n = if nat_le n area then n else at

-- Where the next character stands after a move, from where it would stand. What would leave the printing area moves nothing, and neither
-- does a stop that isn't there.
abbrev pub place_after : ℕ → ℕ → Move → ℕ
place_after area at (to n) = stay_within area at n
place_after area at (right n) = stay_within area at (at + n)
place_after area at (left n) = if nat_le n at then at - n else at
place_after area at (stop ns) = stay_within area at (unwrap_or (next_stop at ns) at)

-- The move of a command, with these tab stops. (Reference: HT, ESC $, ESC \\.)
abbrev pub relative_move : ℕ → Move
relative_move n = if nat_lt n 32768 then right n else left (65536 - n)

abbrev pub move_of : List ℕ → Command → Option Move
move_of ns kind.Tab = Some (stop ns)
move_of ns (kind.Position (position.Absolute, n)) = Some (to n)
move_of ns (kind.Position (position.Relative, n)) = Some (relative_move n)
move_of ns _ = None

-- ## Entries

-- A character in a style, or a move in a printing area of this width.
pub data Entry : Type 0 where
  put : Style → ℕ → Entry
  go : ℕ → Move → Entry

-- What entries have made: the cells, and where the next one stands, if it doesn't follow the last.
pub record Placed : Type 0 where
  pub cells : List Cell
  pub moved : Option ℕ

abbrev pub nothing_placed : Placed
nothing_placed = record { cells = []; moved = None }

-- Where the next cell would stand.
abbrev pub next_place : Placed → ℕ
next_place p = unwrap_or p.moved (end_of p.cells)

-- The next cell stands at this dot.
abbrev pub moved_to : Placed → ℕ → Placed
moved_to p n = record { cells = p.cells; moved = if n == end_of p.cells then None else Some n }

-- A cell that stands where the next one does.
abbrev pub placed_cell : Option ℕ → Cell → Cell
placed_cell moved x = record { byte = x.byte; style = x.style; moved = moved }

-- One more entry.
abbrev pub with_entry : Placed → Entry → Placed
with_entry p (put s b) = record { cells = p.cells ++ placed_cell p.moved (cell s b) ∷ []; moved = None }
with_entry p (go area m) = moved_to p (place_after area (next_place p) m)

abbrev pub with_entries : Placed → List Entry → Placed
with_entries p [] = p
with_entries p (e ∷ es) = with_entries (with_entry p e) es

-- The cells of a row of entries, and where the next one stands.
abbrev pub placed_row : List Entry → Placed
placed_row es = with_entries nothing_placed es

-- The entries of a command that comes after others, in lines of this width.
abbrev pub put_of : Style → Command → List Entry
put_of s c = map (put s) (characters c)

abbrev pub go_of : ℕ → List Command → Command → List Entry
go_of width before c = option_to_list (option_map (go (area_dots width (placing before))) (move_of (stops before) c))

abbrev pub entries_of : ℕ → List Command → Command → List Entry
entries_of width before c = put_of (style before) c ++ go_of width before c

-- Those of a command whose line no later command has printed or dropped.
abbrev pub entry_at : ℕ → List Command → Command → List Command → List Entry
entry_at width before c following = if ends_later (before ++ c ∷ []) following then [] else entries_of width before c

abbrev pub entries : ℕ → List Command → List Entry
entries width cs = over_places (entry_at width) [] cs

-- The characters of entries.
abbrev pub bytes_of_entry : Entry → List ℕ
bytes_of_entry (put s b) = b ∷ []
bytes_of_entry (go area m) = []
