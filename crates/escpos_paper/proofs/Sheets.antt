-- One more command takes the sheet of a list of commands to the sheet of the longer list.
use Rattle.std.proofs.Common.{◌≡◌, ℕ, List, [], ◌∷◌, ◌++◌, length, refl, sym, ◌∙◌, ap, append_assoc, append-nil, subst, Bool, true, false, cond}
use Rattle.std.specs.Prelude.{◌&&◌, ◌-◌, not, nat_lt, Option, None, Some}
use Rattle.std.proofs.Math.Seq.{append_snoc}
use Rattle.std.proofs.lemmas.Grind.{flat_map-append}
use Rattle.escpos_command.specs.declared.command.Command.{Command}
use Rattle.escpos_command.specs.declared.command.Command.TheVariants.{Char, LineFeed, Init, FeedLines, FeedUnits, Bars, Raster, QrPrint, GraphicsPrint, Cut, OldCut, Tab, Position, Set}
use Rattle.escpos_command.specs.declared.parameter.position.PositionKind.TheVariants as position
use Rattle.escpos_command.specs.declared.setting.SettingKind.TheVariants as sets
use Rattle.escpos_command.specs.Text.{text, ends_line, is_some}
use Rattle.escpos_paper.specs.declared.cell.Cell.{Cell}
use Rattle.escpos_paper.specs.declared.item.Item.{Item}
use Rattle.escpos_paper.specs.declared.style.Style.{Style}
use Rattle.escpos_paper.specs.Dots.{area_dots, lesser_width}
use Rattle.escpos_paper.specs.Styles.{acts_at_line_start, is_empty, placing, power_on_settings, set_after, sets_alignment, sets_area, sets_margin, stops, style, line_style, settings}
use Rattle.escpos_command.specs.Settings.{last_or, stored, stored_graphics}
use Rattle.escpos_paper.specs.Cells.{Entry, Move, Placed, bytes_of_entry, cell, entries, entries_of, go, nothing_placed, placed_row, put, relative_move, stop, to}
use Rattle.escpos_paper.specs.Rows.{area, fits, row_fits, rows, line, placed}
use Rattle.escpos_paper.specs.Printed.{prints, printed, row_and_feed}
use Rattle.escpos_paper.specs.Page.{Sheet}
use Rattle.escpos_paper.specs.Storage.{storage}
use Rattle.escpos_paper.specs.Steps.{has_room, moved_by, placing_after, with_cell, with_next, settings_after, line_after, step_prints, sheet_after, storage_after}
use Rattle.escpos_command.proofs.Settings.{graphics-snoc, stored-snoc}
use Rattle.escpos_paper.proofs.OneMore.{bytes_of_entries, entries-snoc, placing-snoc, settings-snoc, stops-snoc, over-snoc}
use Rattle.escpos_paper.proofs.Entries.{characters_in, empty_row, moves_fit, one_entry_fits, snoc_entry, some_character}
use Rattle.escpos_paper.proofs.Filled.{filled, filled_from}
use Rattle.escpos_paper.proofs.Cuts.{last-snoc, begins_row, last_characters, last_fits, lengthened, row_items}
use Rattle.escpos_paper.proofs.AllCuts.{rows_filled}

-- The last row that filling finds, as it is placed.
abbrev filled_row : ℕ → List Entry → List Entry
filled_row a es = last_or [] (filled a es)

placed_filled : (w : ℕ) (cs : List Command) → placed w cs ≡ placed_row (filled_row (area w cs) (entries w cs))
placed_filled w cs = ap (λ rs. placed_row (last_or [] rs)) (rows_filled w cs)

pub empty_line : (w : ℕ) (cs : List Command) → is_empty (line w cs) ≡ is_empty (text cs)
empty_line w cs =
    ap (λ (p : Placed). is_empty p.cells) (placed_filled w cs) ∙ empty_row (filled_row (area w cs) (entries w cs))
    ∙ last_characters (area w cs) (entries w cs) ∙ ap is_empty (bytes_of_entries w cs)

-- ## The printing area

-- What is set at the beginning of a line, by a command that sets something else.
kept_either : {X : Type 0} (b : Bool) (x : X) → cond b x x ≡ x
kept_either true x = refl
kept_either false x = refl

same_area : (w : ℕ) (cs : List Command) (c : Command) → area_dots w (placing_after (is_empty (text cs)) (placing cs) c) ≡ area w cs → area w (cs ++ c ∷ []) ≡ area w cs
same_area w cs c h = ap (area_dots w) (placing-snoc cs c) ∙ h

-- Of an attribute that a command doesn't set.
area_at_start : (w margin : ℕ) (width : Option ℕ) (b : Bool) → lesser_width (cond b width width) (w - cond b margin margin) ≡ lesser_width width (w - margin)
area_at_start w margin width true = refl
area_at_start w margin width false = refl

-- Commands that may change the printing area.
abbrev sets_width : Command → Bool
sets_width Init = true
sets_width (Position (position.LeftMargin, n)) = true
sets_width (Position (position.AreaWidth, n)) = true
sets_width _ = false

area_kept : (w : ℕ) (cs : List Command) (c : Command) → sets_width c ≡ false → area w (cs ++ c ∷ []) ≡ area w cs
area_kept w cs Init h = absurd cc
area_kept w cs (Position (position.LeftMargin, n)) h = absurd cc
area_kept w cs (Position (position.AreaWidth, n)) h = absurd cc
area_kept w cs (Set (sets.Align, p)) h = same_area w cs (Set (sets.Align, p)) (area_at_start w (placing cs).margin (placing cs).width (not (is_empty (text cs))))
area_kept w cs (Set (sets.UpsideDown, p)) h = same_area w cs (Set (sets.UpsideDown, p)) (area_at_start w (placing cs).margin (placing cs).width (not (is_empty (text cs))))
area_kept w cs c h = same_area w cs c refl

-- ## The line

placed_so : (w : ℕ) (cs : List Command) (c : Command) (es : List Entry) → sets_width c ≡ false → entries w (cs ++ c ∷ []) ≡ es
    → placed w (cs ++ c ∷ []) ≡ placed_row (filled_row (area w cs) es)
placed_so w cs c es h e =
    placed_filled w (cs ++ c ∷ []) ∙ ap (λ a. placed_row (filled_row a (entries w (cs ++ c ∷ [])))) (area_kept w cs c h)
    ∙ ap (λ xs. placed_row (filled_row (area w cs) xs)) e

-- A command that ends the line.
placed_ended : (w : ℕ) (cs : List Command) (c : Command) → entries w (cs ++ c ∷ []) ≡ [] → placed w (cs ++ c ∷ []) ≡ nothing_placed
placed_ended w cs c e = placed_filled w (cs ++ c ∷ []) ∙ ap (λ xs. placed_row (filled_row (area w (cs ++ c ∷ [])) xs)) e

-- A command that is no entry, and keeps the line.
entries_kept : (w : ℕ) (cs : List Command) (c : Command) → ends_line cs c ≡ false → entries_of w cs c ≡ [] → entries w (cs ++ c ∷ []) ≡ entries w cs
entries_kept w cs c h none =
    entries-snoc w cs c ∙ ap (λ b. cond b [] (entries w cs) ++ entries_of w cs c) h ∙ ap (λ t. entries w cs ++ t) none ∙ append-nil (entries w cs)

placed_kept : (w : ℕ) (cs : List Command) (c : Command) → sets_width c ≡ false → ends_line cs c ≡ false → entries_of w cs c ≡ [] → placed w (cs ++ c ∷ []) ≡ placed w cs
placed_kept w cs c a h none = placed_so w cs c (entries w cs) a (entries_kept w cs c h none) ∙ sym (placed_filled w cs)

-- A command that ends the line only if something is stored.
placed_at_print : (w : ℕ) (cs : List Command) (c : Command) (there : Bool) → sets_width c ≡ false → entries_of w cs c ≡ [] → ends_line cs c ≡ there
    → placed w (cs ++ c ∷ []) ≡ cond there nothing_placed (placed w cs)
placed_at_print w cs c true keeps none h = placed_ended w cs c (entries-snoc w cs c ∙ ap (λ b. cond b [] (entries w cs) ++ entries_of w cs c) h ∙ none)
placed_at_print w cs c false keeps none h = placed_kept w cs c keeps h none

-- A character.
abbrev pub with_character : Bool → Placed → Cell → Placed
with_character there p x = record { cells = cond there (with_next p x) (x ∷ []); moved = None }

placed_longer : (a : ℕ) (row : List Entry) (s : Style) (b : ℕ) (there : Bool) → row_fits a (row ++ put s b ∷ []) ≡ there
    → placed_row (lengthened a row (put s b)) ≡ with_character there (placed_row row) (cell s b)
placed_longer a row s b true h = ap (λ v. placed_row (cond v (row ++ put s b ∷ []) (put s b ∷ []))) h ∙ snoc_entry row (put s b)
placed_longer a row s b false h = ap (λ v. placed_row (cond v (row ++ put s b ∷ []) (put s b ∷ []))) h

room_there : (a : ℕ) (row : List Entry) (s : Style) (b : ℕ) → row_fits a (row ++ put s b ∷ []) ≡ has_room a (placed_row row) (cell s b)
room_there a row s b = ap (λ (p : Placed). fits a p.cells) (snoc_entry row (put s b))

placed_at_character : (w : ℕ) (cs : List Command) (b : ℕ) → placed w (cs ++ Char b ∷ []) ≡ with_cell (area w cs) (placed w cs) (cell (style cs) b)
placed_at_character w cs b =
    let a = area w cs in
    let row = filled_row a (entries w cs) in
    placed_so w cs (Char b) (entries w cs ++ put (style cs) b ∷ []) refl (entries-snoc w cs (Char b))
    ∙ ap placed_row (last-snoc a (entries w cs) (put (style cs) b))
    ∙ placed_longer a row (style cs) b (has_room a (placed_row row) (cell (style cs) b)) (room_there a row (style cs) b)
    ∙ ap (λ p. with_cell a p (cell (style cs) b)) (sym (placed_filled w cs))

-- A move.
placed_at_move : (w : ℕ) (cs : List Command) (c : Command) (m : Move) → sets_width c ≡ false → ends_line cs c ≡ false → entries_of w cs c ≡ go (area w cs) m ∷ []
    → placed w (cs ++ c ∷ []) ≡ moved_by (area w cs) (placed w cs) (Some m)
placed_at_move w cs c m keeps h e =
    let a = area w cs in
    let row = filled_row a (entries w cs) in
    placed_so w cs c (entries w cs ++ go a m ∷ []) keeps
    (entries-snoc w cs c ∙ ap (λ v. cond v [] (entries w cs) ++ entries_of w cs c) h ∙ ap (λ t. entries w cs ++ t) e)
    ∙ ap placed_row (last-snoc a (entries w cs) (go a m))
    ∙ ap (λ v. placed_row (cond v (row ++ go a m ∷ []) (go a m ∷ []))) (moves_fit a row a m (last_fits a (entries w cs)))
    ∙ snoc_entry row (go a m) ∙ ap (λ p. moved_by a p (Some m)) (sym (placed_filled w cs))

-- A margin, or the width of the printing area, counts where there is no character: then there is one row, whatever its width.
one_row_from : (a : ℕ) (row es : List Entry) → is_empty (characters_in (row ++ es)) ≡ true → row_fits a row ≡ true → last_or [] (filled_from a row es) ≡ row ++ es
one_row_from a row [] h k = sym (append-nil row)
one_row_from a row (put s b ∷ es) h k =
    absurd (let clash : true ≡ false = sym h ∙ ap is_empty (flat_map-append bytes_of_entry row (put s b ∷ es)) ∙ some_character (characters_in row) b (characters_in es) in cc)
one_row_from a row (go area m ∷ es) h k =
    ap (λ v. last_or [] (cond v (filled_from a (row ++ go area m ∷ []) es) (row ∷ filled_from a (go area m ∷ []) es))) (moves_fit a row area m k)
    ∙ one_row_from a (row ++ go area m ∷ []) es (subst (λ r. is_empty (characters_in r) ≡ true) (sym (append_snoc row (go area m) es)) h) (moves_fit a row area m k)
    ∙ append_snoc row (go area m) es

one_row : (a : ℕ) (es : List Entry) → is_empty (characters_in es) ≡ true → filled_row a es ≡ es
one_row a [] h = refl
one_row a (e ∷ es) h = one_row_from a (e ∷ []) es h (one_entry_fits a e)

-- With text in the line it is ignored.
placed_at_setter : (w : ℕ) (cs : List Command) (c : Command) (empty : Bool) → is_empty (text cs) ≡ empty → entries w (cs ++ c ∷ []) ≡ entries w cs
    → (empty ≡ false → area w (cs ++ c ∷ []) ≡ area w cs) → placed w (cs ++ c ∷ []) ≡ placed w cs
placed_at_setter w cs c true h e same =
    let none : is_empty (characters_in (entries w cs)) ≡ true = ap is_empty (bytes_of_entries w cs) ∙ h in
    placed_filled w (cs ++ c ∷ []) ∙ ap (λ xs. placed_row (filled_row (area w (cs ++ c ∷ [])) xs)) e
    ∙ ap placed_row (one_row (area w (cs ++ c ∷ [])) (entries w cs) none ∙ sym (one_row (area w cs) (entries w cs) none)) ∙ sym (placed_filled w cs)
placed_at_setter w cs c false h e same =
    placed_filled w (cs ++ c ∷ []) ∙ ap (λ xs. placed_row (filled_row (area w (cs ++ c ∷ [])) xs)) e
    ∙ ap (λ a. placed_row (filled_row a (entries w cs))) (same refl) ∙ sym (placed_filled w cs)

ignored : (w : ℕ) (cs : List Command) (c : Command) → acts_at_line_start c ≡ true → is_empty (text cs) ≡ false → area w (cs ++ c ∷ []) ≡ area w cs
ignored w cs c acts h = same_area w cs c (by_rule (acts_at_line_start c) (is_empty (text cs)) acts h)
  where
    by_rule : (u v : Bool) → u ≡ true → v ≡ false
        → area_dots w (record {
          side = cond (u && not v) (placing cs).side (set_after sets_alignment power_on_settings.lines.alignment.side (placing cs).side c);
          margin = cond (u && not v) (placing cs).margin (set_after sets_margin power_on_settings.lines.alignment.margin (placing cs).margin c);
          width = cond (u && not v) (placing cs).width (set_after sets_area power_on_settings.lines.alignment.width (placing cs).width c);
        }) ≡ area w cs
    by_rule true false e f = refl
    by_rule true true e f = absurd cc
    by_rule false v e f = absurd cc

pub placed-snoc : (w : ℕ) (cs : List Command) (c : Command) → placed w (cs ++ c ∷ []) ≡ line_after w (settings cs) (stops cs) (storage cs) (placed w cs) c
placed-snoc w cs (Char b) = placed_at_character w cs b
placed-snoc w cs Tab = placed_at_move w cs Tab (stop (stops cs)) refl refl refl
placed-snoc w cs (Position (position.Absolute, n)) = placed_at_move w cs (Position (position.Absolute, n)) (to n) refl refl refl
placed-snoc w cs (Position (position.Relative, n)) = placed_at_move w cs (Position (position.Relative, n)) (relative_move n) refl refl refl
placed-snoc w cs (Position (position.LeftMargin, n)) =
    let c = Position (position.LeftMargin, n) in
    placed_at_setter w cs c (is_empty (text cs)) refl (entries_kept w cs c refl refl) (ignored w cs c refl)
placed-snoc w cs (Position (position.AreaWidth, n)) =
    let c = Position (position.AreaWidth, n) in
    placed_at_setter w cs c (is_empty (text cs)) refl (entries_kept w cs c refl refl) (ignored w cs c refl)
placed-snoc w cs LineFeed = placed_ended w cs LineFeed (entries-snoc w cs LineFeed)
placed-snoc w cs (FeedLines n) = placed_ended w cs (FeedLines n) (entries-snoc w cs (FeedLines n))
placed-snoc w cs (FeedUnits n) = placed_ended w cs (FeedUnits n) (entries-snoc w cs (FeedUnits n))
placed-snoc w cs (Bars bars) = placed_ended w cs (Bars bars) (entries-snoc w cs (Bars bars))
placed-snoc w cs (Raster raster) = placed_ended w cs (Raster raster) (entries-snoc w cs (Raster raster))
placed-snoc w cs Init = placed_ended w cs Init (entries-snoc w cs Init)
placed-snoc w cs (Cut how) = placed_ended w cs (Cut how) (entries-snoc w cs (Cut how))
placed-snoc w cs (OldCut b) = placed_ended w cs (OldCut b) (entries-snoc w cs (OldCut b))
placed-snoc w cs QrPrint = placed_at_print w cs QrPrint (is_some (stored cs)) refl refl refl
placed-snoc w cs (GraphicsPrint fn) = placed_at_print w cs (GraphicsPrint fn) (is_some (stored_graphics cs)) refl refl refl
placed-snoc w cs c = placed_kept w cs c refl refl refl

-- ## The paper

pub prints_step : (w : ℕ) (cs : List Command) (c : Command) → prints w cs c ≡ step_prints w (settings cs) (storage cs) (placed w cs) c
prints_step w cs (Char b) =
    let a = area w cs in
    let es = entries w cs in
    let x = put (style cs) b in
    ap (λ found. cond (nat_lt (length (rows w cs)) (length found)) (row_and_feed (line_style cs) (line w cs)) [])
    (rows_filled w (cs ++ Char b ∷ []) ∙ ap (λ v. filled v (entries w (cs ++ Char b ∷ []))) (area_kept w cs (Char b) refl) ∙ ap (filled a) (entries-snoc w cs (Char b)))
    ∙ ap (λ found. cond (nat_lt (length found) (length (filled a (es ++ x ∷ [])))) (row_items (line_style cs) (last_or [] found)) []) (rows_filled w cs)
    ∙ begins_row a (line_style cs) es x
    ∙ ap (λ v. cond v [] (row_items (line_style cs) (filled_row a es))) (room_there a (filled_row a es) (style cs) b)
    ∙ ap (λ p. cond (has_room a p (cell (style cs) b)) [] (row_and_feed (line_style cs) p.cells)) (sym (placed_filled w cs))
prints_step w cs LineFeed = refl
prints_step w cs (FeedLines n) = refl
prints_step w cs (FeedUnits n) = refl
prints_step w cs (Bars bars) = refl
prints_step w cs (Raster raster) = refl
prints_step w cs (Cut how) = refl
prints_step w cs (OldCut b) = refl
prints_step w cs QrPrint = refl
prints_step w cs (GraphicsPrint fn) = refl
prints_step w cs c = refl

pub printed-snoc : (w : ℕ) (cs : List Command) (c : Command) → printed w (cs ++ c ∷ []) ≡ printed w cs ++ step_prints w (settings cs) (storage cs) (placed w cs) c
printed-snoc w cs c =
    over-snoc (λ before d following. prints w before d) (λ before d following. prints w before d) [] cs c (λ b d following. refl)
    ∙ ap (λ t. printed w cs ++ t) (prints_step w cs c)

-- ## The sheet

pub settings_step : (w : ℕ) (cs : List Command) (c : Command) → settings (cs ++ c ∷ []) ≡ settings_after (is_empty (line w cs)) (settings cs) c
settings_step w cs c = settings-snoc cs c ∙ ap (λ b. settings_after b (settings cs) c) (sym (empty_line w cs))

items_step : (w : ℕ) (kept : List Item) (cs : List Command) (c : Command)
    → kept ++ printed w (cs ++ c ∷ []) ≡ (kept ++ printed w cs) ++ step_prints w (settings cs) (storage cs) (placed w cs) c
items_step w kept cs c =
    ap (λ t. kept ++ t) (printed-snoc w cs c) ∙ sym (append_assoc kept (printed w cs) (step_prints w (settings cs) (storage cs) (placed w cs) c))

storage-snoc : (cs : List Command) (c : Command) → storage (cs ++ c ∷ []) ≡ storage_after (storage cs) c
storage-snoc cs c = cc (stored-snoc cs c, graphics-snoc cs c)

-- The sheet of a list of commands.
abbrev pub sheet_of : ℕ → List Item → List Command → Sheet
sheet_of w kept cs = record { line_dots = w; items = kept ++ printed w cs; settings = settings cs; storage = storage cs; stops = stops cs; line = placed w cs }

pub sheet-snoc : (w : ℕ) (kept : List Item) (cs : List Command) (c : Command) → sheet_of w kept (cs ++ c ∷ []) ≡ sheet_after (sheet_of w kept cs) c
sheet-snoc w kept cs c = cc (items_step w kept cs c, settings_step w cs c, storage-snoc cs c, stops-snoc cs c, placed-snoc w cs c)

-- So a step from the sheet of some commands leads to the sheet of one more.
pub sheet_step : (w : ℕ) (old new : Sheet) (kept : List Item) (cs : List Command) (c : Command)
    → new ≡ sheet_after old c → old ≡ sheet_of w kept cs → new ≡ sheet_of w kept (cs ++ c ∷ [])
sheet_step w old new kept cs c e is = e ∙ ap (λ s. sheet_after s c) is ∙ sym (sheet-snoc w kept cs c)
