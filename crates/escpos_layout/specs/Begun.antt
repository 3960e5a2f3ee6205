-- For private clauses and proofs: a wrapped text of which the first lines are written.
use Rattle.std.specs.Prelude.{◌≡◌, ℕ, ◌-◌, ◌≤◌, List, [], ◌∷◌, ◌++◌, length, map, take, drop, Result, Ok, Err}
use Rattle.escpos_text.specs.declared.encoding.Encoding.{Encoding}
use Rattle.escpos_text.specs.declared.encoding.TextFault.{TextFault}
use Rattle.escpos_layout.specs.declared.breaking.Line.{Line}
use Rattle.escpos_layout.specs.declared.row.Side.{Side}
use Rattle.escpos_layout.specs.Layouts.{alone}
use Rattle.escpos_layout.specs.Wrapping.{wrap, line_end, next_line}
use Rattle.escpos_layout.specs.Writing.{lines_written, WritesLines, Stops}

-- The line of a text that begins at a place.
pub record IsLineOf (columns : ℕ) (text : List ℕ) (line : Line) : Type 0 where
  pub in_text : line.end ≤ line.next
  pub in_rest : line.next ≤ length text
  pub from_start : line.start ≤ line.end
  pub end : line.end - line.start ≡ line_end columns (drop line.start text)
  pub next : line.next - line.start ≡ next_line columns (drop line.start text)

-- The lines before this one are written, each at its side.
pub record AreBegun (side : Side) (columns : ℕ) (text : List ℕ) (before : Encoding) (bytes more : List ℕ) (after : Encoding) (line : Line) : Type 0 where
  pub lines : List (List ℕ)
  pub are_first : wrap columns text ≡ lines ++ wrap columns (drop line.start text)
  pub are_written : WritesLines before (map (alone side columns) lines) bytes more after
  pub line_is : IsLineOf columns text line

-- All lines but the last are written, which is this one.
pub record AreAllButLast (side : Side) (columns : ℕ) (text : List ℕ) (before : Encoding) (bytes more : List ℕ) (after : Encoding) (line : Line) : Type 0 where
  pub lines : List (List ℕ)
  pub are_first : wrap columns text ≡ lines ++ take (line.end - line.start) (drop line.start text) ∷ []
  pub are_written : WritesLines before (map (alone side columns) lines) bytes more after
  pub in_order : line.start ≤ line.end
  pub in_text : line.end ≤ length text

-- Some lines were refused, of which the last wasn't one.
pub record StopBeforeLast (side : Side) (columns : ℕ) (text : List ℕ) (before : Encoding) (bytes more : List ℕ) (after : Encoding) (fault : TextFault) : Type 0 where
  pub lines : List (List ℕ)
  pub next : List ℕ
  pub others : List (List ℕ)
  pub are_first : wrap columns text ≡ lines ++ next ∷ others
  pub stop : Stops (lines_written before (map (alone side columns) lines)) before bytes more after fault

-- One or the other.
abbrev pub EndBeforeLast : Side → ℕ → List ℕ → Encoding → List ℕ → List ℕ → Encoding → Result Line TextFault → Type 0
EndBeforeLast side columns text before bytes more after (Ok line) = AreAllButLast side columns text before bytes more after line
EndBeforeLast side columns text before bytes more after (Err fault) = StopBeforeLast side columns text before bytes more after fault
