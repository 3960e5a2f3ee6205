-- Wrapped texts, written line by line.
use Rattle.std.proofs.Common.{◌≡◌, ℕ, ◌+◌, ◌-◌, ◌≤◌, ◌<◌, List, [], ◌∷◌, ◌++◌, length, take, drop, map, refl, sym, ap, subst, ◌∙◌, append_assoc, arith, Result, Ok, Err}
use Rattle.std.proofs.lemmas.List.{append-nil, map-append, map-id, drop-drop, length-drop}
use Rattle.escpos_text.specs.declared.encoding.Encoding.{Encoding}
use Rattle.escpos_text.specs.declared.encoding.TextFault.{TextFault}
use Rattle.escpos_layout.specs.declared.breaking.Line.{Line}
use Rattle.escpos_layout.specs.declared.row.Side.{Side}
use Rattle.escpos_layout.specs.declared.row.Side.TheVariants.{Left, Right}
use Rattle.escpos_layout.specs.Begun.{IsLineOf, AreBegun, AreAllButLast, StopBeforeLast}
use Rattle.escpos_layout.specs.Layouts.{alone, together, joined_lines, pair}
use Rattle.escpos_layout.specs.Wrapping.{line_end, next_line, lines_within, wrap}
use Rattle.escpos_layout.specs.Writing.{lines_written, WritesAs, Stops, Ends}
use Rattle.escpos_layout.proofs.Breaks.{wrap-more, wrap-last}
use Rattle.escpos_layout.proofs.Parts.{no_lines, lines_end, lines_stop}

-- ## Lines of a text

pub is_line : (columns : ℕ) (text : List ℕ) (start : ℕ) (line : Line) → line.start ≡ start → line.end ≡ start + line_end columns (drop start text)
    → line.next ≡ start + next_line columns (drop start text) → (line.end ≤ line.next) × (line.next ≤ length text) → IsLineOf columns text line
is_line columns text start line e f g within =
    let chars : line.end - line.start ≡ line_end columns (drop start text) = omega (arith, e, f) in
    let all : line.next - line.start ≡ next_line columns (drop start text) = omega (arith, e, g) in
    record {
      in_text = within.0;
      in_rest = within.1;
      from_start = omega (arith, e, f);
      end = chars ∙ ap (λ n. line_end columns (drop n text)) (sym e);
      next = all ∙ ap (λ n. next_line columns (drop n text)) (sym e);
    }

-- The characters of a line.
abbrev pub line_text : List ℕ → Line → List ℕ
line_text text line = take (line.end - line.start) (drop line.start text)

pub first_line-more : (columns : ℕ) (text : List ℕ) (line : Line) → IsLineOf columns text line → 1 ≤ columns → line.next < length text
    → wrap columns (drop line.start text) ≡ line_text text line ∷ wrap columns (drop line.next text)
first_line-more columns text line is some more =
    let rest = drop line.start text in
    let next : line.start + next_line columns rest ≡ line.next = omega (arith, is.next, is.in_text, is.from_start) in
    let left = length-drop line.start text in
    wrap-more columns rest some (omega (arith, left, next, more))
    ∙ ap (λ n. take n rest ∷ wrap columns (drop (next_line columns rest) rest)) (sym is.end)
    ∙ ap (λ xs. line_text text line ∷ wrap columns xs) (drop-drop (next_line columns rest) line.start text ∙ ap (λ n. drop n text) next)

pub first_line-last : (columns : ℕ) (text : List ℕ) (line : Line) → IsLineOf columns text line → length text ≤ line.next
    → wrap columns (drop line.start text) ≡ line_text text line ∷ []
first_line-last columns text line is last =
    let rest = drop line.start text in
    let left = length-drop line.start text in
    wrap-last columns rest (omega (arith, left, is.next, last))
    ∙ ap (λ n. take n rest ∷ []) (sym is.end)

pub wrap-cons : (columns : ℕ) (text : List ℕ) → wrap columns text ≡ take (line_end columns text) text ∷ lines_within (length text) columns (drop (next_line columns text) text)
unfolding wrap
wrap-cons columns text = refl

-- ## Line by line

pub none_begun : (side : Side) (columns : ℕ) (text : List ℕ) (e : Encoding) (bytes : List ℕ) (line : Line) → line.start ≡ 0 → IsLineOf columns text line
    → AreBegun side columns text e bytes bytes e line
none_begun side columns text e bytes line start is = record {
  lines = [];
  are_first = ap (λ n. wrap columns (drop n text)) (sym start);
  are_written = no_lines e bytes;
  line_is = is;
}

-- One more line.
one_more : {A : Type 0} (side : Side) (columns : ℕ) (before now then : Encoding) (lines : List (List ℕ)) (line bytes more last : List ℕ) (r : Result A TextFault)
    → WritesAs (lines_written before (map (alone side columns) lines)) before bytes more now → Ends (lines_written now (alone side columns line ∷ [])) now more last then r
    → Ends (lines_written before (map (alone side columns) (lines ++ line ∷ []))) before bytes last then r
one_more side columns before now then lines line bytes more last r w v =
    subst (λ xs. Ends (lines_written before xs) before bytes last then r) (sym (map-append (alone side columns) lines (line ∷ [])))
    (lines_end before now then (map (alone side columns) lines) (alone side columns line ∷ []) bytes more last r w v)

first_with : (columns : ℕ) (text : List ℕ) (lines : List (List ℕ)) (line : Line) → wrap columns text ≡ lines ++ wrap columns (drop line.start text)
    → IsLineOf columns text line → 1 ≤ columns → line.next < length text → wrap columns text ≡ (lines ++ line_text text line ∷ []) ++ wrap columns (drop line.next text)
first_with columns text lines line e is some more =
    e ∙ ap (λ xs. lines ++ xs) (first_line-more columns text line is some more)
    ∙ sym (append_assoc lines (line_text text line ∷ []) (wrap columns (drop line.next text)))

pub begun_more : (side : Side) (columns : ℕ) (text : List ℕ) (before now then : Encoding) (bytes more last : List ℕ) (line next : Line)
    → AreBegun side columns text before bytes more now line → 1 ≤ columns → line.next < length text
    → WritesAs (lines_written now (alone side columns (line_text text line) ∷ [])) now more last then → next.start ≡ line.next → IsLineOf columns text next
    → AreBegun side columns text before bytes last then next
begun_more side columns text before now then bytes more last line next b some later w e is = record {
  lines = b.lines ++ line_text text line ∷ [];
  are_first =
      first_with columns text b.lines line b.are_first b.line_is some later
      ∙ ap (λ n. (b.lines ++ line_text text line ∷ []) ++ wrap columns (drop n text)) (sym e);
  are_written = one_more {A = Unit {0}} side columns before now then b.lines (line_text text line) bytes more last (Ok tt) b.are_written w;
  line_is = is;
}

pub begun_stops : (side : Side) (columns : ℕ) (text : List ℕ) (before now then : Encoding) (bytes more last : List ℕ) (line : Line) (fault : TextFault)
    → AreBegun side columns text before bytes more now line → 1 ≤ columns → line.next < length text
    → Stops (lines_written now (alone side columns (line_text text line) ∷ [])) now more last then fault
    → StopBeforeLast side columns text before bytes last then fault
begun_stops side columns text before now then bytes more last line fault b some later s =
    let rest = drop line.next text in
    record {
      lines = b.lines ++ line_text text line ∷ [];
      next = take (line_end columns rest) rest;
      others = lines_within (length rest) columns (drop (next_line columns rest) rest);
      are_first =
          first_with columns text b.lines line b.are_first b.line_is some later
          ∙ ap (λ xs. (b.lines ++ line_text text line ∷ []) ++ xs) (wrap-cons columns rest);
      stop = one_more {A = Unit {0}} side columns before now then b.lines (line_text text line) bytes more last (Err fault) b.are_written s;
    }

pub begun_last : (side : Side) (columns : ℕ) (text : List ℕ) (before now : Encoding) (bytes more : List ℕ) (line : Line)
    → AreBegun side columns text before bytes more now line → length text ≤ line.next → AreAllButLast side columns text before bytes more now line
begun_last side columns text before now bytes more line b last = record {
  lines = b.lines;
  are_first = b.are_first ∙ ap (λ xs. b.lines ++ xs) (first_line-last columns text line b.line_is last);
  are_written = b.are_written;
  in_order = b.line_is.from_start;
  in_text = omega (arith, b.line_is.in_text, b.line_is.in_rest);
}

-- ## All lines

pub all_end : {A : Type 0} (side : Side) (columns : ℕ) (text : List ℕ) (before now then : Encoding) (bytes more last : List ℕ) (line : Line) (r : Result A TextFault)
    → AreAllButLast side columns text before bytes more now line → Ends (lines_written now (alone side columns (line_text text line) ∷ [])) now more last then r
    → Ends (lines_written before (map (alone side columns) (wrap columns text))) before bytes last then r
all_end side columns text before now then bytes more last line r b v =
    subst (λ xs. Ends (lines_written before (map (alone side columns) xs)) before bytes last then r) (sym b.are_first)
    (one_more side columns before now then b.lines (line_text text line) bytes more last r b.are_written v)

pub all_stop : (side : Side) (columns : ℕ) (text : List ℕ) (before now : Encoding) (bytes more : List ℕ) (fault : TextFault)
    → StopBeforeLast side columns text before bytes more now fault → Stops (lines_written before (map (alone side columns) (wrap columns text))) before bytes more now fault
all_stop side columns text before now bytes more fault s =
    subst (λ xs. Stops (lines_written before xs) before bytes more now fault)
    (sym (ap (map (alone side columns)) s.are_first ∙ map-append (alone side columns) s.lines (s.next ∷ s.others)))
    (lines_stop before now (map (alone side columns) s.lines) (map (alone side columns) (s.next ∷ s.others)) bytes more fault s.stop)

-- ## Pairs

-- Lines on the left are as they are.
pub left_lines : (columns : ℕ) (lines : List (List ℕ)) → map (alone Left columns) lines ≡ lines
left_lines columns lines = map-id lines

-- Those before the last stand alone.
joined-begun : (columns : ℕ) (lines : List (List ℕ)) (left : List ℕ) (lefts rights : List (List ℕ))
    → joined_lines columns (lines ++ left ∷ lefts) rights ≡ lines ++ joined_lines columns (left ∷ lefts) rights
joined-begun columns [] left lefts rights = refl
joined-begun columns (line ∷ []) left lefts rights = refl
joined-begun columns (line ∷ next ∷ lines) left lefts rights = ap (λ xs. line ∷ xs) (joined-begun columns (next ∷ lines) left lefts rights)

pair-begun : (columns : ℕ) (text right : List ℕ) (lines : List (List ℕ)) (left : List ℕ) (lefts : List (List ℕ)) → wrap columns text ≡ lines ++ left ∷ lefts
    → pair columns text right ≡ map (alone Left columns) lines ++ joined_lines columns (left ∷ lefts) (wrap columns right)
unfolding pair
pair-begun columns text right lines left lefts e =
    ap (λ xs. joined_lines columns xs (wrap columns right)) e ∙ joined-begun columns lines left lefts (wrap columns right)
    ∙ ap (λ xs. xs ++ joined_lines columns (left ∷ lefts) (wrap columns right)) (sym (left_lines columns lines))

pub pair_ends : {A : Type 0} (columns : ℕ) (text right : List ℕ) (before now then : Encoding) (bytes more last : List ℕ) (line : Line) (r : Result A TextFault)
    → AreAllButLast Left columns text before bytes more now line
    → Ends (lines_written now (joined_lines columns (line_text text line ∷ []) (wrap columns right))) now more last then r
    → Ends (lines_written before (pair columns text right)) before bytes last then r
pair_ends columns text right before now then bytes more last line r b v =
    subst (λ xs. Ends (lines_written before xs) before bytes last then r) (sym (pair-begun columns text right b.lines (line_text text line) [] b.are_first))
    (lines_end before now then (map (alone Left columns) b.lines) (joined_lines columns (line_text text line ∷ []) (wrap columns right)) bytes more last r b.are_written v)

pub pair_stops : (columns : ℕ) (text right : List ℕ) (before now : Encoding) (bytes more : List ℕ) (fault : TextFault)
    → StopBeforeLast Left columns text before bytes more now fault → Stops (lines_written before (pair columns text right)) before bytes more now fault
pair_stops columns text right before now bytes more fault s =
    subst (λ xs. Stops (lines_written before xs) before bytes more now fault) (sym (pair-begun columns text right s.lines s.next s.others s.are_first))
    (lines_stop before now (map (alone Left columns) s.lines) (joined_lines columns (s.next ∷ s.others) (wrap columns right)) bytes more fault s.stop)

-- The first line of a text.
line_text-first : (text : List ℕ) (line : Line) → line.start ≡ 0 → line_text text line ≡ take line.end text
line_text-first text line e = ap (λ n. take (line.end - n) (drop n text)) e ∙ ap (λ n. take n text) (omega arith)

-- It stands together with the last on the left.
right-lines : (columns : ℕ) (left text : List ℕ) (line : Line) (others : List (List ℕ)) → line.start ≡ 0 → wrap columns (drop line.start text) ≡ line_text text line ∷ others
    → together columns left (take line.end text) ++ map (alone Right columns) others ≡ joined_lines columns (left ∷ []) (wrap columns text)
right-lines columns left text line others e all =
    ap (λ right. together columns left right ++ map (alone Right columns) others) (sym (line_text-first text line e))
    ∙ ap (joined_lines columns (left ∷ [])) (sym all ∙ ap (λ n. wrap columns (drop n text)) e)

pub right_ends : {A : Type 0} (columns : ℕ) (left text : List ℕ) (before now then : Encoding) (bytes more last : List ℕ) (line : Line) (r : Result A TextFault)
    → line.start ≡ 0 → IsLineOf columns text line → 1 ≤ columns → line.next < length text
    → WritesAs (lines_written before (together columns left (take line.end text))) before bytes more now
    → Ends (lines_written now (map (alone Right columns) (wrap columns (drop line.next text)))) now more last then r
    → Ends (lines_written before (joined_lines columns (left ∷ []) (wrap columns text))) before bytes last then r
right_ends columns left text before now then bytes more last line r e is some later w v =
    subst (λ xs. Ends (lines_written before xs) before bytes last then r)
    (right-lines columns left text line (wrap columns (drop line.next text)) e (first_line-more columns text line is some later))
    (lines_end before now then (together columns left (take line.end text)) (map (alone Right columns) (wrap columns (drop line.next text))) bytes more last r w v)

pub right_last : (columns : ℕ) (left text : List ℕ) (before now : Encoding) (bytes more : List ℕ) (line : Line)
    → line.start ≡ 0 → IsLineOf columns text line → length text ≤ line.next
    → WritesAs (lines_written before (together columns left (take line.end text))) before bytes more now
    → WritesAs (lines_written before (joined_lines columns (left ∷ []) (wrap columns text))) before bytes more now
right_last columns left text before now bytes more line e is last w =
    subst (λ xs. WritesAs (lines_written before xs) before bytes more now)
    (sym (append-nil (together columns left (take line.end text))) ∙ right-lines columns left text line [] e (first_line-last columns text line is last)) w

pub right_stops : (columns : ℕ) (left text : List ℕ) (before now : Encoding) (bytes more : List ℕ) (line : Line) (fault : TextFault)
    → line.start ≡ 0 → IsLineOf columns text line
    → Stops (lines_written before (together columns left (take line.end text))) before bytes more now fault
    → Stops (lines_written before (joined_lines columns (left ∷ []) (wrap columns text))) before bytes more now fault
right_stops columns left text before now bytes more line fault e is s =
    let rest = drop line.start text in
    let others = lines_within (length rest) columns (drop (next_line columns rest) rest) in
    subst (λ xs. Stops (lines_written before xs) before bytes more now fault)
    (right-lines columns left text line others e (wrap-cons columns rest ∙ ap (λ n. take n rest ∷ others) (sym is.end)))
    (lines_stop before now (together columns left (take line.end text)) (map (alone Right columns) others) bytes more fault s)
