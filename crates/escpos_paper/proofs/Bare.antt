-- A sheet whose items are torn off is one that commands leave, too.
--
-- Take the commands that led to the sheet, and leave out those that end a line, together with the line that they ended.
-- What sets something is kept, and so are the characters of the line that isn't printed yet; these print nothing. To end a
-- line, its characters must be left out: so beside the sheet without its items goes the one without its line, too. And graphics that
-- were printed aren't stored any more: so beside both go those without the graphics that are stored.
use Rattle.std.proofs.Common.{◌≡◌, ℕ, List, [], ◌∷◌, ◌++◌, refl, sym, ◌∙◌, ap, subst, append-nil, Bool, true, false, cond, None}
use Rattle.std.proofs.Math.Seq.{append_snoc}
use Rattle.escpos_command.specs.declared.command.Command.{Command}
use Rattle.escpos_command.specs.declared.command.Command.TheVariants.{Char, Tab, Position, LineFeed, Init, FeedLines, FeedUnits, Bars, Raster, Cut, OldCut, Set, QrPrint, GraphicsPrint, GraphicsStore}
use Rattle.escpos_command.specs.declared.setting.SettingKind.TheVariants as sets
use Rattle.escpos_command.specs.CommandTable.{IsCommand, AreCommands}
use Rattle.escpos_command.specs.Text.{is_some}
use Rattle.escpos_paper.specs.declared.item.Item.{Item}
use Rattle.escpos_paper.specs.declared.style.Settings.{Settings}
use Rattle.escpos_paper.specs.Styles.{is_empty}
use Rattle.escpos_paper.specs.Cells.{cell, nothing_placed}
use Rattle.escpos_command.specs.declared.parameter.position.PositionKind.TheVariants as position
use Rattle.escpos_paper.specs.Page.{Sheet}
use Rattle.escpos_paper.specs.Torn.{bare}
use Rattle.escpos_paper.specs.Steps.{area_of, has_room, settings_after, sheet_after}
use Rattle.escpos_paper.proofs.Sheets.{sheet_of, sheet-snoc, sheet_step, with_character}
use Rattle.escpos_paper.specs.Printed.{row_and_feed}
use Rattle.escpos_paper.proofs.Applied.{one_more}

-- Some commands leave just this, on paper that held nothing.
pub record IsLeft (w : ℕ) (s : Sheet) : Type 0 where
  pub commands : List Command
  pub in_range : AreCommands commands
  pub left : s ≡ sheet_of w [] commands

same_sheet : (w : ℕ) (s t : Sheet) → t ≡ s → IsLeft w s → IsLeft w t
same_sheet w s t e h = record { commands = h.commands; in_range = h.in_range; left = e ∙ h.left }

one_step : (w : ℕ) (s t : Sheet) (c : Command) → t ≡ sheet_after s c → IsCommand c → IsLeft w s → IsLeft w t
one_step w s t c e k h = record { commands = h.commands ++ c ∷ []; in_range = one_more h.commands c h.in_range k; left = sheet_step w s t [] h.commands c e h.left }

-- The sheet without its items and without its line.
abbrev blank : Sheet → Sheet
blank s = record s { items = []; line = nothing_placed }

abbrev IsQuiet : ℕ → Sheet → Type 0
IsQuiet w s = IsLeft w (bare s) × IsLeft w (blank s)

-- A command that ends the line, and changes no setting.
ends : (w : ℕ) (s : Sheet) (c : Command) → bare (sheet_after s c) ≡ blank s → IsQuiet w s → IsQuiet w (sheet_after s c)
ends w s c e q = (same_sheet w (blank s) (bare (sheet_after s c)) e q.1, same_sheet w (blank s) (blank (sheet_after s c)) (ap blank e) q.1)

-- A character that fits goes on with the line, and one that doesn't begins a new one.
puts : (w : ℕ) (s : Sheet) (b : ℕ) (fit : Bool) → has_room (area_of s.line_dots s.settings) s.line (cell s.settings.text b) ≡ fit → IsQuiet w s → IsCommand (Char b) → IsQuiet w (sheet_after s (Char b))
puts w s b true h q k = (
  one_step w (bare s) (bare (sheet_after s (Char b))) (Char b)
      (sym (ap (λ v. record (sheet_after (bare s) (Char b)) { items = cond v [] (row_and_feed s.settings.lines s.line.cells) }) h)) k q.0,
  same_sheet w (blank s) (blank (sheet_after s (Char b))) refl q.1,
)
puts w s b false h q k = (
  one_step w (blank s) (bare (sheet_after s (Char b))) (Char b)
      (ap (λ v. record (bare (sheet_after s (Char b))) { line = with_character v s.line (cell s.settings.text b) }) h) k q.1,
  same_sheet w (blank s) (blank (sheet_after s (Char b))) refl q.1,
)

-- The sheet with other settings, without its items and without its line.
abbrev with : Sheet → Settings → Sheet
with s settings = record s { items = []; settings = settings; line = nothing_placed }

-- What is set only at the beginning of a line counts where the line is empty.
acts : (w : ℕ) (s : Sheet) (c : Command) (empty : Bool) → is_empty s.line.cells ≡ empty
    → blank (sheet_after s c) ≡ with s (settings_after (is_empty s.line.cells) s.settings c)
    → sheet_after (blank s) c ≡ with s (settings_after true s.settings c) → settings_after false s.settings c ≡ s.settings
    → IsQuiet w s → IsCommand c → IsLeft w (blank (sheet_after s c))
acts w s c true h now there kept q k =
    one_step w (blank s) (blank (sheet_after s c)) c (now ∙ ap (λ v. with s (settings_after v s.settings c)) h ∙ sym there) k q.1
acts w s c false h now there kept q k =
    same_sheet w (blank s) (blank (sheet_after s c)) (now ∙ ap (λ v. with s (settings_after v s.settings c)) h ∙ ap (with s) kept) q.1

-- A print ends the line if something is stored; otherwise the line stays.
prints_or_not : (w : ℕ) (s t : Sheet) (there : Bool) → bare t ≡ record s { items = []; line = cond there nothing_placed s.line } → blank t ≡ blank s → IsQuiet w s → IsQuiet w t
prints_or_not w s t true e f q = (same_sheet w (blank s) (bare t) e q.1, same_sheet w (blank s) (blank t) f q.1)
prints_or_not w s t false e f q = (same_sheet w (bare s) (bare t) e q.0, same_sheet w (blank s) (blank t) f q.1)

-- The sheet without the graphics that are stored. A print leaves none, and isn't kept: so its store isn't either.
abbrev without_graphics : Sheet → Sheet
without_graphics s = record s { storage = record { codes = s.storage.codes; graphics = None } }

quiet_step : (w : ℕ) (s : Sheet) (c : Command) → IsQuiet w s → IsQuiet w (without_graphics s) → IsCommand c → IsQuiet w (sheet_after s c)
quiet_step w s (Char b) q u k = puts w s b (has_room (area_of s.line_dots s.settings) s.line (cell s.settings.text b)) refl q k
quiet_step w s LineFeed q u k = ends w s LineFeed refl q
quiet_step w s (FeedLines n) q u k = ends w s (FeedLines n) refl q
quiet_step w s (FeedUnits n) q u k = ends w s (FeedUnits n) refl q
quiet_step w s (Bars bars) q u k = ends w s (Bars bars) refl q
quiet_step w s (Raster raster) q u k = ends w s (Raster raster) refl q
quiet_step w s (Cut how) q u k = ends w s (Cut how) refl q
quiet_step w s (OldCut b) q u k = ends w s (OldCut b) refl q
quiet_step w s QrPrint q u k = prints_or_not w s (sheet_after s QrPrint) (is_some s.storage.codes) refl refl q
quiet_step w s (GraphicsPrint fn) q u k = prints_or_not w (without_graphics s) (sheet_after s (GraphicsPrint fn)) (is_some s.storage.graphics) refl refl u
quiet_step w s Init q u k = (one_step w (blank s) (bare (sheet_after s Init)) Init refl k q.1, one_step w (blank s) (blank (sheet_after s Init)) Init refl k q.1)
quiet_step w s (Set (sets.Align, p)) q u k =
    (one_step w (bare s) (bare (sheet_after s (Set (sets.Align, p)))) (Set (sets.Align, p)) refl k q.0, acts w s (Set (sets.Align, p)) (is_empty s.line.cells) refl refl refl refl q k)
quiet_step w s (Set (sets.UpsideDown, p)) q u k =
    (one_step w (bare s) (bare (sheet_after s (Set (sets.UpsideDown, p)))) (Set (sets.UpsideDown, p)) refl k q.0, acts w s (Set (sets.UpsideDown, p)) (is_empty s.line.cells) refl refl refl refl q k)
quiet_step w s Tab q u k =
    (one_step w (bare s) (bare (sheet_after s Tab)) Tab refl k q.0, same_sheet w (blank s) (blank (sheet_after s Tab)) refl q.1)
quiet_step w s (Position (position.Absolute, n)) q u k =
    let c = Position (position.Absolute, n) in
    (one_step w (bare s) (bare (sheet_after s c)) c refl k q.0, same_sheet w (blank s) (blank (sheet_after s c)) refl q.1)
quiet_step w s (Position (position.Relative, n)) q u k =
    let c = Position (position.Relative, n) in
    (one_step w (bare s) (bare (sheet_after s c)) c refl k q.0, same_sheet w (blank s) (blank (sheet_after s c)) refl q.1)
quiet_step w s (Position (position.LeftMargin, n)) q u k =
    let c = Position (position.LeftMargin, n) in
    (one_step w (bare s) (bare (sheet_after s c)) c refl k q.0, acts w s c (is_empty s.line.cells) refl refl refl refl q k)
quiet_step w s (Position (position.AreaWidth, n)) q u k =
    let c = Position (position.AreaWidth, n) in
    (one_step w (bare s) (bare (sheet_after s c)) c refl k q.0, acts w s c (is_empty s.line.cells) refl refl refl refl q k)
quiet_step w s c q u k =
    (one_step w (bare s) (bare (sheet_after s c)) c refl k q.0, one_step w (blank s) (blank (sheet_after s c)) c refl k q.1)

-- So it goes with the graphics that are stored, and without them.
abbrev AreQuiet : ℕ → Sheet → Type 0
AreQuiet w s = IsQuiet w s × IsQuiet w (without_graphics s)

both_step : (w : ℕ) (s : Sheet) (c : Command) → AreQuiet w s → IsCommand c → AreQuiet w (sheet_after s c)
both_step w s (GraphicsPrint fn) q k = let printed = quiet_step w s (GraphicsPrint fn) q.0 q.1 k in (printed, printed)
both_step w s (GraphicsStore p) q k = (quiet_step w s (GraphicsStore p) q.0 q.1 k, q.1)
both_step w s c q k = (quiet_step w s c q.0 q.1 k, quiet_step w (without_graphics s) c q.1 q.1 k)

quiet_from : (w : ℕ) (before cs : List Command) → AreQuiet w (sheet_of w [] before) → AreCommands cs → AreQuiet w (sheet_of w [] (before ++ cs))
quiet_from w before [] q k = subst (λ v. AreQuiet w (sheet_of w [] v)) (sym (append-nil before)) q
quiet_from w before (c ∷ cs) q k =
    subst (λ v. AreQuiet w (sheet_of w [] v)) (append_snoc before c cs)
    (quiet_from w (before ++ c ∷ []) cs (subst (AreQuiet w) (sym (sheet-snoc w [] before c)) (both_step w (sheet_of w [] before) c q k.0)) k.1)

nothing : (w : ℕ) → IsLeft w (sheet_of w [] [])
nothing w = record { commands = []; in_range = tt; left = refl }

pub bare_is_left : (w : ℕ) (s : Sheet) (kept : List Item) (cs : List Command) → AreCommands cs → s ≡ sheet_of w kept cs → IsLeft w (bare s)
bare_is_left w s kept cs k is = same_sheet w (bare (sheet_of w [] cs)) (bare s) (ap bare is) (quiet_from w [] cs ((nothing w, nothing w), (nothing w, nothing w)) k).0.0
