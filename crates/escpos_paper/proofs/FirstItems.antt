-- Commands of the first profile print items of the first profile.
use Rattle.std.proofs.Common.{◌≡◌, ◌≤◌, ℕ, List, [], ◌∷◌, ◌++◌, length, refl, Bool, true, false, cond, arith, IsTrue}
use Rattle.std.specs.Prelude.{nat_le, nat_lt}
use Rattle.std.specs.List.{AllByRecursion}
use Rattle.std.proofs.lemmas.Bool.{leb-true}
use Rattle.std.proofs.lemmas.Bool.Decides.{nat_tests}
use Rattle.escpos_command.specs.declared.command.Command.{Command}
use Rattle.escpos_command.specs.declared.command.Command.TheVariants as kind
use Rattle.escpos_command.specs.EarlierProfiles.{in_profile, symbology_since}
use Rattle.escpos_paper.specs.declared.cell.Cell.{Cell}
use Rattle.escpos_paper.specs.declared.item.Item.{Item}
use Rattle.escpos_paper.specs.declared.style.LineStyle.{LineStyle}
use Rattle.escpos_paper.specs.FirstPaper.{IsFirstItem}
use Rattle.escpos_paper.specs.OverPlaces.{over_places}
use Rattle.escpos_paper.specs.Printed.{printed, prints, row_and_feed, row_of}
use Rattle.escpos_paper.specs.Rows.{line, rows}
use Rattle.escpos_paper.specs.Styles.{line_style}

abbrev AreFirst : List Item → Type 0
AreFirst items = AllByRecursion IsFirstItem items

both : (some others : List Item) → AreFirst some → AreFirst others → AreFirst (some ++ others)
both [] others h k = k
both (x ∷ some) others h k = (h.0, both some others h.1 k)

row_is : (lines : LineStyle) (xs : List Cell) → AreFirst (row_of lines xs)
row_is lines [] = tt
row_is lines (x ∷ xs) = (tt, tt)

row_with_feed : (lines : LineStyle) (xs : List Cell) → AreFirst (row_and_feed lines xs)
row_with_feed lines [] = tt
row_with_feed lines (x ∷ xs) = (tt, (tt, tt))

chosen : (b : Bool) (items : List Item) → AreFirst items → AreFirst (cond b items [])
chosen true items h = h
chosen false items h = tt

few_rows : (n : ℕ) (v : Bool) → nat_le n 2047 ≡ v → nat_le (cond v 1 2) 1 ≡ true → n ≤ 2047
few_rows n true e h = grind (arith, nat_tests, e)
few_rows n false e h = absurd cc

prints_first : (w : ℕ) (before : List Command) (c : Command) → IsTrue (in_profile 1 c) → AreFirst (prints w before c)
prints_first w before (kind.Char b) h = chosen (nat_lt (length (rows w before)) (length (rows w (before ++ kind.Char b ∷ [])))) (row_and_feed (line_style before) (line w before)) (row_with_feed (line_style before) (line w before))
prints_first w before kind.LineFeed h = both (row_of (line_style before) (line w before)) _ (row_is (line_style before) (line w before)) (tt, tt)
prints_first w before (kind.FeedLines n) h = both (row_of (line_style before) (line w before)) _ (row_is (line_style before) (line w before)) (tt, tt)
prints_first w before (kind.FeedUnits n) h = absurd cc
prints_first w before (kind.Bars bars) h = both (row_and_feed (line_style before) (line w before)) _ (row_with_feed (line_style before) (line w before)) (leb-true (symbology_since bars.symbology) 1 h, tt)
prints_first w before (kind.Raster raster) h = both (row_and_feed (line_style before) (line w before)) _ (row_with_feed (line_style before) (line w before)) (few_rows raster.height (nat_le raster.height 2047) refl h, tt)
prints_first w before (kind.Cut cut) h = both (row_and_feed (line_style before) (line w before)) _ (row_with_feed (line_style before) (line w before)) (tt, tt)
prints_first w before kind.Tab h = absurd cc
prints_first w before (kind.Position p) h = absurd cc
prints_first w before (kind.TabStops columns) h = absurd cc
prints_first w before kind.Return h = tt
prints_first w before kind.Init h = tt
prints_first w before (kind.Set s) h = tt
prints_first w before (kind.QrModel n) h = absurd cc
prints_first w before (kind.QrSize n) h = absurd cc
prints_first w before (kind.QrLevel n) h = absurd cc
prints_first w before (kind.QrStore bytes) h = absurd cc
prints_first w before kind.QrPrint h = absurd cc
prints_first w before (kind.GraphicsStore graphics) h = absurd cc
prints_first w before (kind.GraphicsPrint fn) h = absurd cc
prints_first w before (kind.Pulse pulse) h = absurd cc
prints_first w before (kind.AutomaticStatus n) h = absurd cc
prints_first w before (kind.OldCut b) h = absurd cc
prints_first w before (kind.Status n) h = tt
prints_first w before (kind.Mark id) h = tt

after : (w : ℕ) (before cs : List Command) → AllByRecursion (λ c. IsTrue (in_profile 1 c)) cs → AreFirst (over_places (λ b c following. prints w b c) before cs)
after w before [] h = tt
after w before (c ∷ cs) h = both (prints w before c) _ (prints_first w before c h.0) (after w (before ++ c ∷ []) cs h.1)

pub first_items : (w : ℕ) (cs : List Command) → AllByRecursion (λ c. IsTrue (in_profile 1 c)) cs → AllByRecursion IsFirstItem (printed w cs)
first_items w cs h = after w [] cs h
