-- Commands of the second profile print items of the second profile.
use Rattle.std.proofs.Common.{◌≡◌, ℕ, List, [], ◌∷◌, ◌++◌, length, ap, sym, subst, refl, arith, Bool, true, false, cond, IsTrue}
use Rattle.std.specs.Prelude.{nat_le, nat_lt, None}
use Rattle.std.specs.List.{AllByRecursion}
use Rattle.std.proofs.lemmas.Bool.{leb-true}
use Rattle.std.proofs.lemmas.Bool.Decides.{nat_tests}
use Rattle.escpos_command.specs.declared.command.Command.{Command}
use Rattle.escpos_command.specs.declared.command.Command.TheVariants as kind
use Rattle.escpos_command.specs.declared.setting.SettingKind.TheVariants as sets
use Rattle.escpos_command.specs.EarlierProfiles.{in_profile, since, symbology_since}
use Rattle.escpos_command.specs.SettingTable.{table}
use Rattle.escpos_paper.specs.declared.cell.Cell.{Cell}
use Rattle.escpos_paper.specs.declared.item.Item.{Item}
use Rattle.escpos_paper.specs.declared.style.LineStyle.{LineStyle}
use Rattle.escpos_paper.specs.declared.style.Settings.{Settings}
use Rattle.escpos_paper.specs.declared.style.Style.{Style}
use Rattle.escpos_paper.specs.Cells.{Placed, cell, placed_cell}
use Rattle.escpos_paper.specs.ItemsText.{has_six_fields}
use Rattle.escpos_paper.specs.OverPlaces.{over_places}
use Rattle.escpos_paper.specs.Printed.{printed, prints, row_and_feed, row_of}
use Rattle.escpos_paper.specs.Rows.{line, placed, rows}
use Rattle.escpos_paper.specs.SecondPaper.{IsSecondCell, IsSecondItem, IsWholeLine}
use Rattle.escpos_paper.specs.Steps.{area_of, has_room, line_after, line_style_after}
use Rattle.escpos_paper.specs.Storage.{Storage, storage}
use Rattle.escpos_paper.specs.Styles.{is_empty, line_style, settings, stops, style, style_after}
use Rattle.escpos_paper.proofs.OneMore.{style-snoc}
use Rattle.escpos_paper.proofs.Sheets.{placed-snoc, settings_step}

abbrev AreSecond : List Item → Type 0
AreSecond items = AllByRecursion IsSecondItem items

abbrev AreCells : List Cell → Type 0
AreCells cells = AllByRecursion IsSecondCell cells

-- ## What the commands so far leave

record IsPlain (lines : LineStyle) : Type 0 where
  upright : lines.upside_down ≡ false
  default : lines.spacing ≡ None
  whole : IsWholeLine lines.alignment

-- A line of such cells, the next of which follows the last.
record IsSecondLine (p : Placed) : Type 0 where
  cells : AreCells p.cells
  follows : p.moved ≡ None

record IsSecond (w : ℕ) (cs : List Command) : Type 0 where
  six : IsTrue (has_six_fields (style cs))
  in_line : IsSecondLine (placed w cs)
  plain : IsPlain (line_style cs)

style_stays : (s : Style) (c : Command) → IsTrue (in_profile 2 c) → IsTrue (has_six_fields s) → IsTrue (has_six_fields (style_after s c))
unfolding table
style_stays s (kind.Set (sets.DoubleStrike, p)) k h = absurd cc
style_stays s (kind.Set (sets.CharacterSet, p)) k h = absurd cc
style_stays s (kind.Set (sets.CharacterSpacing, p)) k h = absurd cc
style_stays s (kind.Set (sets.Color, p)) k h = absurd cc
style_stays s (kind.Set (sets.Reverse, p)) k h = absurd cc
style_stays s (kind.Set (sets.Turned, p)) k h = absurd cc
style_stays s (kind.QrModel n) k h = absurd cc
style_stays s (kind.QrSize n) k h = absurd cc
style_stays s (kind.QrLevel n) k h = absurd cc
style_stays s (kind.QrStore bytes) k h = absurd cc
style_stays s kind.QrPrint k h = absurd cc
style_stays s kind.Init k h = refl
style_stays s c k h = h

and_one : (row : List Cell) (x : Cell) → AreCells row → IsSecondCell x → AreCells (row ++ x ∷ [])
and_one [] x h k = (k, tt)
and_one (y ∷ row) x h k = (h.0, and_one row x h.1 k)

with_one : (row : List Cell) (x y : Cell) (there : Bool) → AreCells row → IsSecondCell x → IsSecondCell y → AreCells (cond there (row ++ x ∷ []) (y ∷ []))
with_one row x y true h k l = and_one row x h k
with_one row x y false h k l = (l, tt)

line_stays : (w : ℕ) (s : Settings) (ns : List ℕ) (now : Storage) (p : Placed) (c : Command) → IsTrue (in_profile 2 c) → IsTrue (has_six_fields s.text) → IsSecondLine p
    → IsSecondLine (line_after w s ns now p c)
line_stays w s ns now p (kind.Char b) i h k = record {
  cells = with_one p.cells (placed_cell p.moved (cell s.text b)) (cell s.text b) (has_room (area_of w s) p (cell s.text b)) k.cells (h, k.follows) (h, refl);
  follows = refl;
}
line_stays w s ns now p kind.LineFeed i h k = record { cells = tt; follows = refl }
line_stays w s ns now p (kind.FeedLines n) i h k = record { cells = tt; follows = refl }
line_stays w s ns now p (kind.FeedUnits n) i h k = record { cells = tt; follows = refl }
line_stays w s ns now p kind.Init i h k = record { cells = tt; follows = refl }
line_stays w s ns now p (kind.Bars bars) i h k = record { cells = tt; follows = refl }
line_stays w s ns now p (kind.Raster raster) i h k = record { cells = tt; follows = refl }
line_stays w s ns now p (kind.Cut how) i h k = record { cells = tt; follows = refl }
line_stays w s ns now p (kind.OldCut b) i h k = absurd cc
line_stays w s ns now p kind.QrPrint i h k = absurd cc
line_stays w s ns now p (kind.GraphicsPrint fn) i h k = absurd cc
line_stays w s ns now p kind.Tab i h k = absurd cc
line_stays w s ns now p (kind.Position q) i h k = absurd cc
line_stays w s ns now p c i h k = k

lines_stay : (is_line_empty : Bool) (lines : LineStyle) (c : Command) → IsTrue (in_profile 2 c) → IsPlain lines → IsPlain (line_style_after is_line_empty lines c)
unfolding table
lines_stay e lines (kind.Set (sets.UpsideDown, p)) k h = absurd cc
lines_stay e lines (kind.Set (sets.LineSpacing, p)) k h = absurd cc
lines_stay e lines (kind.Set (sets.DefaultSpacing, p)) k h = absurd cc
lines_stay e lines (kind.QrModel n) k h = absurd cc
lines_stay e lines (kind.QrSize n) k h = absurd cc
lines_stay e lines (kind.QrLevel n) k h = absurd cc
lines_stay e lines (kind.QrStore bytes) k h = absurd cc
lines_stay e lines kind.QrPrint k h = absurd cc
lines_stay e lines (kind.Position p) k h = absurd cc
lines_stay e lines kind.Init k h = record { upright = refl; default = refl; whole = (refl, refl) }
lines_stay true lines c k h = record { upright = h.upright; default = h.default; whole = h.whole }
lines_stay false lines c k h = record { upright = h.upright; default = h.default; whole = h.whole }

one_further : (w : ℕ) (cs : List Command) (c : Command) → IsTrue (in_profile 2 c) → IsSecond w cs → IsSecond w (cs ++ c ∷ [])
one_further w cs c k h = record {
  six = subst (λ s. IsTrue (has_six_fields s)) (sym (style-snoc cs c)) (style_stays (style cs) c k h.six);
  in_line = subst IsSecondLine (sym (placed-snoc w cs c)) (line_stays w (settings cs) (stops cs) (storage cs) (placed w cs) c k h.six h.in_line);
  plain = subst IsPlain (sym (ap (λ (s : Settings). s.lines) (settings_step w cs c))) (lines_stay (is_empty (line w cs)) (line_style cs) c k h.plain);
}

-- ## What each prints

both : (some others : List Item) → AreSecond some → AreSecond others → AreSecond (some ++ others)
both [] others h k = k
both (x ∷ some) others h k = (h.0, both some others h.1 k)

row_is : (lines : LineStyle) (xs : List Cell) → IsPlain lines → AreCells xs → AreSecond (row_of lines xs)
row_is lines [] p h = tt
row_is lines (x ∷ xs) p h = ((p.upright, p.whole, h), tt)

row_with_feed : (lines : LineStyle) (xs : List Cell) → IsPlain lines → AreCells xs → AreSecond (row_and_feed lines xs)
row_with_feed lines [] p h = tt
row_with_feed lines (x ∷ xs) p h = ((p.upright, p.whole, h), (p.default, tt))

chosen : (b : Bool) (items : List Item) → AreSecond items → AreSecond (cond b items [])
chosen true items h = h
chosen false items h = tt

prints_second : (w : ℕ) (before : List Command) (c : Command) → IsTrue (in_profile 2 c) → IsSecond w before → AreSecond (prints w before c)
prints_second w before (kind.Char b) h s =
    chosen (nat_lt (length (rows w before)) (length (rows w (before ++ kind.Char b ∷ [])))) (row_and_feed (line_style before) (line w before))
    (row_with_feed (line_style before) (line w before) s.plain s.in_line.cells)
prints_second w before kind.LineFeed h s = both (row_of (line_style before) (line w before)) _ (row_is (line_style before) (line w before) s.plain s.in_line.cells) (s.plain.default, tt)
prints_second w before (kind.FeedLines n) h s = both (row_of (line_style before) (line w before)) _ (row_is (line_style before) (line w before) s.plain s.in_line.cells) (s.plain.default, tt)
prints_second w before (kind.FeedUnits n) h s = both (row_of (line_style before) (line w before)) _ (row_is (line_style before) (line w before) s.plain s.in_line.cells) (tt, tt)
prints_second w before (kind.Bars bars) h s = both (row_and_feed (line_style before) (line w before)) _ (row_with_feed (line_style before) (line w before) s.plain s.in_line.cells) ((s.plain.whole, leb-true (symbology_since bars.symbology) 2 h), tt)
prints_second w before (kind.Raster raster) h s = both (row_and_feed (line_style before) (line w before)) _ (row_with_feed (line_style before) (line w before) s.plain s.in_line.cells) (s.plain.whole, tt)
prints_second w before (kind.Cut cut) h s = both (row_and_feed (line_style before) (line w before)) _ (row_with_feed (line_style before) (line w before) s.plain s.in_line.cells) (tt, tt)
prints_second w before (kind.OldCut b) h s = absurd cc
prints_second w before (kind.QrModel n) h s = absurd cc
prints_second w before (kind.QrSize n) h s = absurd cc
prints_second w before (kind.QrLevel n) h s = absurd cc
prints_second w before (kind.QrStore bytes) h s = absurd cc
prints_second w before kind.QrPrint h s = absurd cc
prints_second w before (kind.GraphicsPrint fn) h s = absurd cc
prints_second w before c h s = tt

after : (w : ℕ) (before cs : List Command) → AllByRecursion (λ c. IsTrue (in_profile 2 c)) cs → IsSecond w before → AreSecond (over_places (λ b c following. prints w b c) before cs)
after w before [] h s = tt
after w before (c ∷ cs) h s = both (prints w before c) _ (prints_second w before c h.0 s) (after w (before ++ c ∷ []) cs h.1 (one_further w before c h.0 s))

pub second_items : (w : ℕ) (cs : List Command) → AllByRecursion (λ c. IsTrue (in_profile 2 c)) cs → AllByRecursion IsSecondItem (printed w cs)
second_items w cs h = after w [] cs h (record { six = refl; in_line = record { cells = tt; follows = refl }; plain = record { upright = refl; default = refl; whole = (refl, refl) } })

-- The commands of the first profile are of the second.
also_second : (c : Command) → IsTrue (in_profile 1 c) → IsTrue (in_profile 2 c)
also_second c h = no_later (since c) h
  where
    no_later : (s : ℕ) → nat_le s 1 ≡ true → nat_le s 2 ≡ true
    no_later s h = grind (arith, nat_tests, h)

all_second : (cs : List Command) → AllByRecursion (λ c. IsTrue (in_profile 1 c)) cs → AllByRecursion (λ c. IsTrue (in_profile 2 c)) cs
all_second [] h = tt
all_second (c ∷ cs) h = (also_second c h.0, all_second cs h.1)

pub items_of_first : (w : ℕ) (cs : List Command) → AllByRecursion (λ c. IsTrue (in_profile 1 c)) cs → AllByRecursion IsSecondItem (printed w cs)
items_of_first w cs h = second_items w cs (all_second cs h)
