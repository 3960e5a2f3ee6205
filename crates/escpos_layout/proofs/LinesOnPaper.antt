-- Lines on paper, one after another.
use Rattle.std.proofs.Common.{◌≡◌, ◌≢◌, ℕ, ◌≤◌, List, [], ◌∷◌, ◌++◌, All, None, Some, Ok, length, map, refl, sym, ap, subst, ◌∙◌, append-nil, append_assoc, true}
use Rattle.std.specs.Prelude.{IsTrue, flat_map}
use Rattle.std.specs.List.{AllByRecursion}
use Rattle.std.proofs.lemmas.List.{length-map}
use Rattle.escpos_command.specs.declared.command.Command.{Command}
use Rattle.escpos_command.specs.declared.command.Command.TheVariants.{LineFeed}
use Rattle.escpos_paper.specs.declared.cell.Cell.{Cell}
use Rattle.escpos_paper.specs.declared.item.Item.TheVariants.{Feed}
use Rattle.escpos_paper.specs.declared.style.Style.{Style}
use Rattle.escpos_paper.specs.Printed.{printed, row_of}
use Rattle.escpos_paper.specs.Rows.{area, fits, line, moved}
use Rattle.escpos_paper.specs.Styles.{style, line_style}
use Rattle.escpos_paper.specs.Typed.{IsTyping, typed, GoesOnLine, from_place}
use Rattle.escpos_paper.proofs.TypedLines.{from_none, same_area, typed_follows}
use Rattle.escpos_text.specs.declared.encoding.Encoding.{Encoding}
use Rattle.escpos_text.specs.Laws.{IsReadBack, read_back}
use Rattle.escpos_text.specs.SpelledTexts.{AreOfText}
use Rattle.escpos_text.specs.Writing.{written, table_after}
use Rattle.escpos_layout.specs.Columns.{columns_of}
use Rattle.escpos_layout.specs.OnPaper.{read_cell, Shows, ShowLines, line_items, PrintsLines, IsInForce}
use Rattle.escpos_layout.specs.Writing.{lines_written}
use Rattle.escpos_layout.proofs.CellsOfText.{StylesGrow, IsSet, are_typing, style_then, text_read, cells_in_style, row_fits}
use Rattle.escpos_layout.proofs.InRange.{first_line, no_line}
use Rattle.escpos_layout.proofs.Parts.{in_force_after, table_after-append}

-- The laws of the crates below that this stands on.
pub record LawsBelow : Type 0 where
  pub of_text : (encoding : Encoding) (text : List ℕ) (commands : List Command) → written encoding text ≡ Ok commands → AreOfText commands
  pub read : (encoding : Encoding) (text : List ℕ) (commands : List Command) → written encoding text ≡ Ok commands → IsReadBack encoding text commands
  pub one_each : (encoding : Encoding) (text : List ℕ) (commands : List Command) → written encoding text ≡ Ok commands
      → length (read_back encoding.set encoding.table commands) ≡ length text
  pub same : (encoding : Encoding) (text : List ℕ) (commands : List Command) → written encoding text ≡ Ok commands
      → encoding.replacement ≡ None → All (λ c. c ≢ 0xA0) text → read_back encoding.set encoding.table commands ≡ map (λ c. Some c) text
  pub grow : StylesGrow
  pub typed_text : (width : ℕ) (before cs : List Command) → AllByRecursion IsTyping cs
      → IsTrue (fits (area width before) (line width before ++ from_place (moved width before) (typed before cs))) → GoesOnLine width before cs
  pub feed_prints : (width : ℕ) (cs : List Command) → printed width (cs ++ LineFeed ∷ [])
      ≡ printed width cs ++ (row_of (line_style cs) (line width cs) ++ Feed 1 (line_style cs).spacing ∷ [])
  pub feed_empties : (width : ℕ) (cs : List Command) → line width (cs ++ LineFeed ∷ []) ≡ []
  pub feed_follows : (width : ℕ) (cs : List Command) → moved width (cs ++ LineFeed ∷ []) ≡ None
  pub feed_same_lines : (cs : List Command) → line_style (cs ++ LineFeed ∷ []) ≡ line_style cs

-- ## One line

-- The row of a line's text, if that was written where its encoding was in force.
shows : LawsBelow → (s : Style) (before : List Command) (e : Encoding) (text : List ℕ) (commands : List Command) → IsInForce before e → IsSet s before
    → written e text ≡ Ok commands → Shows e s text (typed before commands)
shows laws s before e text commands f is w =
    let of_text = laws.of_text e text commands w in
    let read : map read_cell (typed before commands) ≡ read_back e.set e.table commands =
    text_read laws.grow before commands of_text ∙ ap (λ n. read_back n (style before).table commands) (sym f.set) ∙ ap (λ n. read_back e.set n commands) (sym f.table) in
    record {
      commands = commands;
      are_written = w;
      one_each = sym (length-map (typed before commands) read_cell) ∙ ap length read ∙ laws.one_each e text commands w;
      in_style = cells_in_style laws.grow s before commands of_text is;
      cells = read;
      reads_back = laws.read e text commands w;
      exactly = λ none plain. read ∙ laws.same e text commands w none plain;
    }

-- What a text and LF leave.
record LinePrints (width : ℕ) (s : Style) (before text : List Command) : Type 0 where
  prints : printed width (before ++ (text ++ LineFeed ∷ [])) ≡ printed width before ++ line_items (line_style before) (typed before text)
  empties : line width (before ++ (text ++ LineFeed ∷ [])) ≡ []
  follows : moved width (before ++ (text ++ LineFeed ∷ [])) ≡ None
  same_lines : line_style (before ++ (text ++ LineFeed ∷ [])) ≡ line_style before
  then_set : style (before ++ (text ++ LineFeed ∷ [])) ≡ record (style before) { table = table_after (style before).table text }

line_prints : LawsBelow → (width : ℕ) (s : Style) (before text : List Command) → AreOfText text → line width before ≡ [] → moved width before ≡ None
    → fits (area width before) (typed before text) ≡ true → LinePrints width s before text
line_prints laws width s before text of_text none there fit =
    let whole : (before ++ text) ++ LineFeed ∷ [] ≡ before ++ (text ++ LineFeed ∷ []) = append_assoc before text (LineFeed ∷ []) in
    let placed : line width before ++ from_place (moved width before) (typed before text) ≡ typed before text =
    ap (λ r. r ++ from_place (moved width before) (typed before text)) none ∙ ap (λ m. from_place m (typed before text)) there ∙ from_none before text (are_typing text of_text) in
    let on = laws.typed_text width before text (are_typing text of_text) (ap (fits (area width before)) placed ∙ fit) in
    let row : line width (before ++ text) ≡ typed before text = on.stands ∙ placed in
    record {
      prints =
          ap (printed width) (sym whole) ∙ laws.feed_prints width (before ++ text)
          ∙ ap (λ items. items ++ line_items (line_style (before ++ text)) (line width (before ++ text))) on.prints_nothing
          ∙ ap (λ lines. printed width before ++ line_items lines (line width (before ++ text))) on.same_lines
          ∙ ap (λ r. printed width before ++ line_items (line_style before) r) row;
      empties = ap (line width) (sym whole) ∙ laws.feed_empties width (before ++ text);
      follows = ap (moved width) (sym whole) ∙ laws.feed_follows width (before ++ text);
      same_lines = ap line_style (sym whole) ∙ laws.feed_same_lines (before ++ text) ∙ on.same_lines;
      then_set = ap style (sym whole) ∙ laws.grow (before ++ text) LineFeed ∙ style_then laws.grow before text of_text;
    }

-- ## All lines

-- What lines print, where the commands have set this style, but for the table.
record Prints (width : ℕ) (s : Style) (before commands : List Command) (e : Encoding) (lines : List (List ℕ)) : Type 0 where
  rows : List (List Cell)
  prints : printed width (before ++ commands) ≡ printed width before ++ flat_map (line_items (line_style before)) rows
  show : ShowLines e s lines rows
  empties : line width (before ++ commands) ≡ []
  follows : moved width (before ++ commands) ≡ None
  same_lines : line_style (before ++ commands) ≡ line_style before
  same_style : style (before ++ commands) ≡ record s { table = table_after e.table commands }

nothing_prints : (width : ℕ) (s : Style) (before : List Command) (e : Encoding) → line width before ≡ [] → moved width before ≡ None → IsInForce before e → IsSet s before → Prints width s before [] e []
nothing_prints width s before e none there f is = record {
  rows = [];
  prints = ap (printed width) (append-nil before) ∙ sym (append-nil (printed width before));
  show = tt;
  empties = ap (line width) (append-nil before) ∙ none;
  follows = ap (moved width) (append-nil before) ∙ there;
  same_lines = ap line_style (append-nil before);
  same_style = ap style (append-nil before) ∙ is ∙ ap (λ n. record s { table = n }) (sym f.table);
}

more_prints : (width : ℕ) (s : Style) (before text rest : List Command) (e : Encoding) (first : List ℕ) (lines : List (List ℕ)) → LinePrints width s before text
    → (shown : Shows e s first (typed before text)) → shown.commands ≡ text
    → Prints width s (before ++ (text ++ LineFeed ∷ [])) rest (in_force_after e text) lines → Prints width s before (text ++ LineFeed ∷ rest) e (first ∷ lines)
more_prints width s before text rest e first lines p shown same more =
    let there : List Command = before ++ (text ++ LineFeed ∷ []) in
    let whole : there ++ rest ≡ before ++ (text ++ LineFeed ∷ rest) =
    append_assoc before (text ++ LineFeed ∷ []) rest ∙ ap (λ cs. before ++ cs) (append_assoc text (LineFeed ∷ []) rest) in
    let row = typed before text in
    record {
      rows = row ∷ more.rows;
      prints =
          ap (printed width) (sym whole) ∙ more.prints
          ∙ ap (λ items. items ++ flat_map (line_items (line_style there)) more.rows) p.prints
          ∙ ap (λ style. (printed width before ++ line_items (line_style before) row) ++ flat_map (line_items style) more.rows) p.same_lines
          ∙ append_assoc (printed width before) (line_items (line_style before) row) (flat_map (line_items (line_style before)) more.rows);
      show = (shown, subst (λ cs. ShowLines (in_force_after e cs) s lines more.rows) (sym same) more.show);
      empties = ap (line width) (sym whole) ∙ more.empties;
      follows = ap (moved width) (sym whole) ∙ more.follows;
      same_lines = ap line_style (sym whole) ∙ more.same_lines ∙ p.same_lines;
      same_style =
          ap style (sym whole) ∙ more.same_style ∙ ap (λ n. record s { table = n }) (sym (table_after-append text (LineFeed ∷ rest) e.table));
    }

lines_print : LawsBelow → (width : ℕ) (s : Style) (before : List Command) (e : Encoding) (lines : List (List ℕ)) (commands : List Command)
    → line width before ≡ [] → moved width before ≡ None → IsInForce before e → IsSet s before → AllByRecursion (λ text. length text ≤ columns_of (area width before) s) lines
    → lines_written e lines ≡ Ok commands → Prints width s before commands e lines
unfolding shows
lines_print laws width s before e [] commands none at f is few w =
    subst (λ cs. Prints width s before cs e []) (sym (no_line e commands w)) (nothing_prints width s before e none at f is)
lines_print laws width s before e (first ∷ lines) commands none at f is few w =
    let parts = first_line e first lines commands w in
    let text = parts.text in
    let of_text = laws.of_text e first text parts.text_written in
    let shown = shows laws s before e first text f is parts.text_written in
    let fit = row_fits (area width before) s (typed before text) shown.in_style (typed_follows before text (are_typing text of_text))
    (subst (λ n. n ≤ columns_of (area width before) s) (sym shown.one_each) few.0) in
    let p = line_prints laws width s before text of_text none at fit in
    let there : List Command = before ++ (text ++ LineFeed ∷ []) in
    let tables : table_after (style before).table text ≡ table_after e.table text = ap (λ n. table_after n text) (sym f.table) in
    let then_force : IsInForce there (in_force_after e text) = record {
      set = f.set ∙ sym (ap (λ (t : Style). t.character_set) p.then_set);
      table = sym tables ∙ sym (ap (λ (t : Style). t.table) p.then_set);
    } in
    let then_set : IsSet s there =
    p.then_set ∙ ap (λ (t : Style). record t { table = table_after (style before).table text }) is
    ∙ ap (λ n. record s { table = n }) (sym (ap (λ (t : Style). t.table) p.then_set)) in
    subst (λ cs. Prints width s before cs e (first ∷ lines)) (sym parts.joined)
    (more_prints width s before text parts.rest e first lines p shown refl
    (lines_print laws width s there (in_force_after e text) lines parts.rest p.empties p.follows then_force then_set
    (subst (λ a. AllByRecursion (λ line. length line ≤ columns_of a s) lines) (sym (same_area width before there p.same_lines)) few.1) parts.rest_written))

pub printed_lines : LawsBelow → (width : ℕ) (before : List Command) (e : Encoding) (lines : List (List ℕ)) (commands : List Command)
    → line width before ≡ [] → moved width before ≡ None → IsInForce before e → AllByRecursion (λ text. length text ≤ columns_of (area width before) (style before)) lines
    → lines_written e lines ≡ Ok commands → PrintsLines width before commands e lines
printed_lines laws width before e lines commands none at f few w =
    let p = lines_print laws width (style before) before e lines commands none at f refl few w in
    record {
      rows = p.rows;
      prints = p.prints;
      show = p.show;
      empties = p.empties;
      follows = p.follows;
      same_lines = p.same_lines;
      same_style = p.same_style;
    }
