use Rattle.std.proofs.Common.{◌≡◌, ◌++◌, take, map, None}
use Rattle.escpos_paper.specs.Cells.{cell}
use Rattle.escpos_paper.proofs.cell.Cells.extend.Given as goal

-- The characters so far stand after the others, and the next cell is like the given one but for its byte.
abbrev pub invariant-loop-byte : goal.invariant-loop-byte
invariant-loop-byte l = record {
  so_far : l.self ≡ l.fn.self ++ map (cell l.like.style) (take l.byte-index l.text);
  style : l.next.style ≡ l.like.style;
  follows : l.next.moved ≡ None;
}
