-- The cells of all rows and of the line, without their places, are those that were typed.
use Rattle.std.proofs.Common.{◌≡◌, ◌≢◌, ℕ, List, [], ◌∷◌, ◌++◌, Option, None, Some, map, refl, sym, ◌∙◌, ap, append_assoc, append-nil, Bool, true, false, cond}
use Rattle.std.proofs.lemmas.Grind.{flat_map-append}
use Rattle.std.proofs.Math.Seq.{append_snoc}
use Rattle.escpos_command.specs.declared.command.Command.{Command}
use Rattle.escpos_command.specs.declared.command.Command.TheVariants.{Char, Position, LineFeed, Init, FeedLines, FeedUnits, Bars, Raster, GraphicsPrint, QrPrint, Cut, OldCut}
use Rattle.escpos_command.specs.Graphics.{StoredPicture}
use Rattle.escpos_command.specs.Text.{characters, is_some}
use Rattle.escpos_paper.specs.declared.cell.Cell.{Cell}
use Rattle.escpos_paper.specs.declared.item.Item.{Item}
use Rattle.escpos_paper.specs.declared.style.LineStyle.{LineStyle}
use Rattle.escpos_paper.specs.declared.style.QrStyle.{QrStyle}
use Rattle.escpos_command.specs.declared.parameter.position.PositionKind.TheVariants as position
use Rattle.std.proofs.lemmas.List.{map-append}
use Rattle.escpos_paper.specs.Cells.{Placed, cell, nothing_placed, placed_cell}
use Rattle.escpos_paper.specs.Rows.{line}
use Rattle.escpos_paper.specs.Printed.{row_of, row_and_feed, prints_graphics, prints_stored, printed}
use Rattle.escpos_paper.specs.Page.{Sheet}
use Rattle.escpos_paper.specs.Steps.{area_of, has_room, line_after, step_prints, with_next}
use Rattle.escpos_paper.specs.Styles.{style}
use Rattle.escpos_paper.proofs.OneMore.{over-snoc}
use Rattle.escpos_paper.proofs.Sheets.{placed-snoc, printed-snoc, sheet_of}
use Rattle.escpos_paper.specs.Typed.{typed}
use Rattle.escpos_plain.specs.Rows.{cells_on, row_cells, NoInit, unplaced}

-- ## Lines that are printed

cells_of_row : (lines : LineStyle) (row : List Cell) → row_cells (row_of lines row) ≡ map unplaced row
cells_of_row lines [] = refl
cells_of_row lines (x ∷ row) = append-nil (map unplaced (x ∷ row))

cells_of_row_and_feed : (lines : LineStyle) (row : List Cell) → row_cells (row_and_feed lines row) ≡ map unplaced row
cells_of_row_and_feed lines [] = refl
cells_of_row_and_feed lines (x ∷ row) = append-nil (map unplaced (x ∷ row))

-- A line that is printed before items without cells.
before_others : (items others : List Item) (row : List Cell) → row_cells items ≡ map unplaced row → row_cells others ≡ [] → row_cells (items ++ others) ++ [] ≡ map unplaced row ++ []
before_others items others row is none =
    ap (λ l. l ++ []) (flat_map-append cells_on items others ∙ ap (λ l. l ++ row_cells others) is ∙ ap (λ l. map unplaced row ++ l) none ∙ append-nil (map unplaced row))

-- ## One command

-- What one command prints of a line, and leaves of it.
at_character : (lines : LineStyle) (p : Placed) (x : Cell) (b : Bool)
    → row_cells (cond b [] (row_and_feed lines p.cells)) ++ map unplaced (cond b (with_next p x) (x ∷ [])) ≡ map unplaced p.cells ++ unplaced x ∷ []
at_character lines p x true = map-append unplaced p.cells (placed_cell p.moved x ∷ [])
at_character lines p x false = ap (λ l. l ++ unplaced x ∷ []) (cells_of_row_and_feed lines p.cells)

at_stored : (lines : LineStyle) (qr : QrStyle) (stored : Option (List ℕ)) (p : Placed)
    → row_cells (prints_stored lines qr stored p.cells) ++ map unplaced (cond (is_some stored) nothing_placed p).cells ≡ map unplaced p.cells ++ []
at_stored lines qr None p = sym (append-nil (map unplaced p.cells))
at_stored lines qr (Some bytes) p = before_others (row_and_feed lines p.cells) _ p.cells (cells_of_row_and_feed lines p.cells) refl

at_graphics : (lines : LineStyle) (stored : Option StoredPicture) (p : Placed)
    → row_cells (prints_graphics lines stored p.cells) ++ map unplaced (cond (is_some stored) nothing_placed p).cells ≡ map unplaced p.cells ++ []
at_graphics lines None p = sym (append-nil (map unplaced p.cells))
at_graphics lines (Some picture) p = before_others (row_and_feed lines p.cells) _ p.cells (cells_of_row_and_feed lines p.cells) refl

one_command : (s : Sheet) (c : Command) → c ≢ Init
    → row_cells (step_prints s.line_dots s.settings s.storage s.line c) ++ map unplaced (line_after s.line_dots s.settings s.stops s.storage s.line c).cells
    ≡ map unplaced s.line.cells ++ map (cell s.settings.text) (characters c)
one_command s (Char b) h = at_character s.settings.lines s.line (cell s.settings.text b) (has_room (area_of s.line_dots s.settings) s.line (cell s.settings.text b))
one_command s LineFeed h = before_others (row_of s.settings.lines s.line.cells) _ s.line.cells (cells_of_row s.settings.lines s.line.cells) refl
one_command s (FeedLines n) h = before_others (row_of s.settings.lines s.line.cells) _ s.line.cells (cells_of_row s.settings.lines s.line.cells) refl
one_command s (FeedUnits n) h = before_others (row_of s.settings.lines s.line.cells) _ s.line.cells (cells_of_row s.settings.lines s.line.cells) refl
one_command s (Bars bars) h = before_others (row_and_feed s.settings.lines s.line.cells) _ s.line.cells (cells_of_row_and_feed s.settings.lines s.line.cells) refl
one_command s (Raster raster) h = before_others (row_and_feed s.settings.lines s.line.cells) _ s.line.cells (cells_of_row_and_feed s.settings.lines s.line.cells) refl
one_command s (Cut how) h = before_others (row_and_feed s.settings.lines s.line.cells) _ s.line.cells (cells_of_row_and_feed s.settings.lines s.line.cells) refl
one_command s (OldCut b) h = before_others (row_and_feed s.settings.lines s.line.cells) _ s.line.cells (cells_of_row_and_feed s.settings.lines s.line.cells) refl
one_command s QrPrint h = at_stored s.settings.lines s.settings.codes s.storage.codes s.line
one_command s (GraphicsPrint fn) h = at_graphics s.settings.lines s.storage.graphics s.line
one_command s Init h = absurd (h refl)
one_command s (Position (position.Absolute, n)) h = sym (append-nil (map unplaced s.line.cells))
one_command s (Position (position.Relative, n)) h = sym (append-nil (map unplaced s.line.cells))
one_command s (Position (position.LeftMargin, n)) h = sym (append-nil (map unplaced s.line.cells))
one_command s (Position (position.AreaWidth, n)) h = sym (append-nil (map unplaced s.line.cells))
one_command s c h = sym (append-nil (map unplaced s.line.cells))

-- ## All commands

typed-snoc : (cs : List Command) (c : Command) → typed [] (cs ++ c ∷ []) ≡ typed [] cs ++ map (cell (style cs)) (characters c)
typed-snoc cs c =
    over-snoc (λ b d following. map (cell (style b)) (characters d)) (λ b d following. map (cell (style b)) (characters d)) [] cs c
    (λ b d following. refl)

-- The line without its places.
abbrev bare_line : ℕ → List Command → List Cell
bare_line w cs = map unplaced (line w cs)

one_more : (w : ℕ) (cs : List Command) (c : Command) → c ≢ Init → row_cells (printed w cs) ++ bare_line w cs ≡ typed [] cs
    → row_cells (printed w (cs ++ c ∷ [])) ++ bare_line w (cs ++ c ∷ []) ≡ typed [] (cs ++ c ∷ [])
one_more w cs c h is =
    let s = sheet_of w [] cs in
    let new = step_prints s.line_dots s.settings s.storage s.line c in
    let left = map unplaced (line_after s.line_dots s.settings s.stops s.storage s.line c).cells in
    ap (λ items. row_cells items ++ bare_line w (cs ++ c ∷ [])) (printed-snoc w cs c)
    ∙ ap (λ (p : Placed). row_cells (printed w cs ++ new) ++ map unplaced p.cells) (placed-snoc w cs c)
    ∙ ap (λ l. l ++ left) (flat_map-append cells_on (printed w cs) new)
    ∙ append_assoc (row_cells (printed w cs)) (row_cells new) left
    ∙ ap (λ l. row_cells (printed w cs) ++ l) (one_command s c h)
    ∙ sym (append_assoc (row_cells (printed w cs)) (bare_line w cs) (map (cell (style cs)) (characters c)))
    ∙ ap (λ l. l ++ map (cell (style cs)) (characters c)) is
    ∙ sym (typed-snoc cs c)

all_from : (w : ℕ) (cs more : List Command) → NoInit more → row_cells (printed w cs) ++ bare_line w cs ≡ typed [] cs
    → row_cells (printed w (cs ++ more)) ++ bare_line w (cs ++ more) ≡ typed [] (cs ++ more)
all_from w cs [] none is = rw append-nil is
all_from w cs (c ∷ more) none is =
    rw (← append_snoc cs c more) (all_from w (cs ++ c ∷ []) more none.1 (one_more w cs c none.0 is))

pub all_cells : (w : ℕ) (cs : List Command) → NoInit cs → row_cells (printed w cs) ++ map unplaced (line w cs) ≡ typed [] cs
all_cells w cs none = all_from w [] cs none refl
