-- Characters that fit on the line print nothing, and LF prints them.
use Rattle.std.proofs.Common.{◌≡◌, ℕ, List, [], ◌∷◌, ◌++◌, refl, sym, ap, ◌∙◌, append-nil, true, cond, Option, None}
use Rattle.std.specs.List.{AllByRecursion}
use Rattle.std.proofs.Math.Seq.{append_snoc}
use Rattle.escpos_command.specs.declared.command.Command.{Command}
use Rattle.escpos_command.specs.declared.command.Command.TheVariants.{Char, LineFeed, Set}
use Rattle.escpos_command.specs.declared.setting.SettingKind.TheVariants as sets
use Rattle.escpos_paper.specs.declared.item.Item.TheVariants.{Feed}
use Rattle.escpos_paper.specs.declared.style.Settings.{Settings}
use Rattle.escpos_paper.specs.Styles.{style, line_style}
use Rattle.escpos_paper.specs.declared.cell.Cell.{Cell}
use Rattle.escpos_paper.specs.declared.style.LineStyle.{LineStyle}
use Rattle.escpos_paper.specs.Dots.{area_dots}
use Rattle.escpos_paper.specs.Cells.{Placed, cell, placed_cell}
use Rattle.escpos_paper.specs.Rows.{area, fits, line, moved, placed}
use Rattle.escpos_paper.specs.Printed.{printed, row_of, row_and_feed}
use Rattle.escpos_paper.specs.Typed.{IsTyping, typed, GoesOnLine, from_place, place_then}
use Rattle.escpos_paper.proofs.Fits.{Follows, prefix_fits}
use Rattle.escpos_paper.proofs.Sheets.{placed-snoc, printed-snoc, settings_step, with_character}

-- The cells that are typed follow one another.
pub from_none : (before cs : List Command) → AllByRecursion IsTyping cs → from_place None (typed before cs) ≡ typed before cs
from_none before [] h = refl
from_none before (Char b ∷ cs) h = refl
from_none before (Set (sets.Table, p) ∷ cs) h = from_none (before ++ Set (sets.Table, p) ∷ []) cs h.1
from_none before (_ ∷ cs) h = absurd (h.0)

pub typed_follows : (before cs : List Command) → AllByRecursion IsTyping cs → AllByRecursion Follows (typed before cs)
typed_follows before [] h = tt
typed_follows before (Char b ∷ cs) h = (refl, typed_follows (before ++ Char b ∷ []) cs h.1)
typed_follows before (Set (sets.Table, p) ∷ cs) h = typed_follows (before ++ Set (sets.Table, p) ∷ []) cs h.1
typed_follows before (_ ∷ cs) h = absurd (h.0)

then_none : (xs : List Cell) → place_then None xs ≡ None
then_none [] = refl
then_none (x ∷ xs) = refl

-- A character that fits.
one_char : (w : ℕ) (before : List Command) (b : ℕ) → fits (area w before) (line w before ++ placed_cell (moved w before) (cell (style before) b) ∷ []) ≡ true → GoesOnLine w before (Char b ∷ [])
one_char w before b h =
    let x = cell (style before) b in
    let stands = placed-snoc w before (Char b) ∙ ap (λ v. with_character v (placed w before) x) h in
    record {
      prints_nothing =
          printed-snoc w before (Char b) ∙ ap (λ v. printed w before ++ cond v [] (row_and_feed (line_style before) (line w before))) h ∙ append-nil (printed w before);
      stands = ap (λ (p : Placed). p.cells) stands;
      then_moved = ap (λ (p : Placed). p.moved) stands;
      same_lines = ap (λ (s : Settings). s.lines) (settings_step w before (Char b));
    }

one_table : (w : ℕ) (before : List Command) (p : Option ℕ) → GoesOnLine w before (Set (sets.Table, p) ∷ [])
one_table w before p = record {
  prints_nothing = printed-snoc w before (Set (sets.Table, p)) ∙ append-nil (printed w before);
  stands = ap (λ (q : Placed). q.cells) (placed-snoc w before (Set (sets.Table, p))) ∙ sym (append-nil (line w before));
  then_moved = ap (λ (q : Placed). q.moved) (placed-snoc w before (Set (sets.Table, p)));
  same_lines = ap (λ (s : Settings). s.lines) (settings_step w before (Set (sets.Table, p)));
}

pub same_area : (w : ℕ) (before after : List Command) → line_style after ≡ line_style before → area w after ≡ area w before
same_area w before after e = ap (λ (s : LineStyle). area_dots w s.alignment) e

-- Any number of them.
pub typed_line : (w : ℕ) (before cs : List Command) → AllByRecursion IsTyping cs → fits (area w before) (line w before ++ from_place (moved w before) (typed before cs)) ≡ true → GoesOnLine w before cs
typed_line w before [] h fit = record {
  prints_nothing = ap (printed w) (append-nil before);
  stands = ap (line w) (append-nil before) ∙ sym (append-nil (line w before));
  then_moved = ap (moved w) (append-nil before);
  same_lines = ap line_style (append-nil before);
}
typed_line w before (Char b ∷ cs) h fit =
    let row = line w before in
    let x = placed_cell (moved w before) (cell (style before) b) in
    let now = before ++ Char b ∷ [] in
    let more = typed now cs in
    let one = one_char w before b (prefix_fits (area w before) row x more fit) in
    let whole = append_snoc before (Char b) cs in
    let there : from_place (moved w now) more ≡ more = ap (λ m. from_place m more) one.then_moved ∙ from_none now cs h.1 in
    let rest = typed_line w now cs h.1
    (ap (λ a. fits a (line w now ++ from_place (moved w now) more)) (same_area w before now one.same_lines)
    ∙ ap (λ r. fits (area w before) (line w now ++ r)) there
    ∙ ap (λ r. fits (area w before) (r ++ more)) one.stands ∙ ap (fits (area w before)) (append_snoc row x more) ∙ fit) in
    record {
      prints_nothing = ap (printed w) (sym whole) ∙ rest.prints_nothing ∙ one.prints_nothing;
      stands = ap (line w) (sym whole) ∙ rest.stands ∙ ap (λ r. line w now ++ r) there ∙ ap (λ r. r ++ more) one.stands ∙ append_snoc row x more;
      then_moved = ap (moved w) (sym whole) ∙ rest.then_moved ∙ ap (λ m. place_then m more) one.then_moved ∙ then_none more;
      same_lines = ap line_style (sym whole) ∙ rest.same_lines ∙ one.same_lines;
    }
typed_line w before (Set (sets.Table, p) ∷ cs) h fit =
    let row = line w before in
    let now = before ++ Set (sets.Table, p) ∷ [] in
    let more = typed now cs in
    let one = one_table w before p in
    let whole = append_snoc before (Set (sets.Table, p)) cs in
    let kept : line w now ≡ row = one.stands ∙ append-nil row in
    let there : from_place (moved w now) more ≡ from_place (moved w before) more = ap (λ m. from_place m more) one.then_moved in
    let rest = typed_line w now cs h.1
    (ap (λ a. fits a (line w now ++ from_place (moved w now) more)) (same_area w before now one.same_lines)
    ∙ ap (λ r. fits (area w before) (line w now ++ r)) there ∙ ap (λ r. fits (area w before) (r ++ from_place (moved w before) more)) kept ∙ fit) in
    record {
      prints_nothing = ap (printed w) (sym whole) ∙ rest.prints_nothing ∙ one.prints_nothing;
      stands = ap (line w) (sym whole) ∙ rest.stands ∙ ap (λ r. line w now ++ r) there ∙ ap (λ r. r ++ from_place (moved w before) more) kept;
      then_moved = ap (moved w) (sym whole) ∙ rest.then_moved ∙ ap (λ m. place_then m more) one.then_moved;
      same_lines = ap line_style (sym whole) ∙ rest.same_lines ∙ one.same_lines;
    }
typed_line w before (_ ∷ cs) h fit = absurd (h.0)

-- LF prints the line and its feed.
pub feed_prints : (w : ℕ) (cs : List Command) → printed w (cs ++ LineFeed ∷ []) ≡ printed w cs ++ (row_of (line_style cs) (line w cs) ++ Feed 1 (line_style cs).spacing ∷ [])
feed_prints w cs = printed-snoc w cs LineFeed

pub feed_empties : (w : ℕ) (cs : List Command) → line w (cs ++ LineFeed ∷ []) ≡ []
feed_empties w cs = ap (λ (p : Placed). p.cells) (placed-snoc w cs LineFeed)

pub feed_follows : (w : ℕ) (cs : List Command) → moved w (cs ++ LineFeed ∷ []) ≡ None
feed_follows w cs = ap (λ (p : Placed). p.moved) (placed-snoc w cs LineFeed)

pub feed_same_lines : (cs : List Command) → line_style (cs ++ LineFeed ∷ []) ≡ line_style cs
feed_same_lines cs = ap (λ (s : Settings). s.lines) (settings_step 0 cs LineFeed)
