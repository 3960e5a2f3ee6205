-- The rows so far are written, and those after them are left, however many are asked for.
use Rattle.std.proofs.Common.{ℕ, ◌≡◌, ◌+◌, ◌-◌, ◌*◌, ◌≤◌, ◌++◌, length, take}
use Rattle.escpos_picture.specs.ByteSpans.{inner_rows_text}
use Rattle.escpos_picture.specs.Rasters.{rows_of}
use Rattle.escpos_picture.proofs.short_row.append_equal_rows.Given as goal

abbrev pub invariant-loop-count : goal.invariant-loop-count
invariant-loop-count l = record {
  so_far : (n : ℕ) → take l.end l.bytes ++ inner_rows_text (rows_of l.x n l.rest) ≡ take l.len l.fn.bytes ++ inner_rows_text (rows_of l.x (n + l.count) l.dots);
  way : l.x * l.count + length l.rest ≡ length l.dots;
  few : l.count ≤ l.most;
  room : l.end ≤ length l.bytes;
}

abbrev pub decreases-loop-count : goal.decreases-loop-count
decreases-loop-count l = l.most - l.count
