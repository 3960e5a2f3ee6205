use Rattle.std.proofs.Common.{◌≡◌, ◌+◌, ◌++◌, length, map, take, drop, vec_len}
use Rattle.escpos_image.specs.Diffusion.{row_wants, whole_row, is_black, error}
use Rattle.escpos_image.proofs.diffusion.put_row.Given as goal

abbrev pub invariant-loop-i : goal.invariant-loop-i
invariant-loop-i l = record {
  dots : l.dots.items ++ map is_black (row_wants l.left l.above_left (drop l.i l.errors.items) (drop l.i l.grays))
      ≡ l.fn.dots.items ++ map is_black (whole_row l.fn.errors.items l.grays);
  errors : take l.i l.errors.items ++ map error (row_wants l.left l.above_left (drop l.i l.errors.items) (drop l.i l.grays))
      ≡ map error (whole_row l.fn.errors.items l.grays);
  counted : length l.dots.items ≡ length l.fn.dots.items + l.i;
  same_count : vec_len l.errors ≡ vec_len l.fn.errors;
}
