-- The bytes so far, and those that follow where they come after the last two, are all.
use Rattle.std.proofs.Common.{◌≡◌, ◌++◌, take, drop, vec_len}
use Rattle.escpos_image.specs.Blackening.{blackened_after, safe_dots}
use Rattle.escpos_image.proofs.blackening.blacken.Given as goal

abbrev pub invariant-loop-k : goal.invariant-loop-k
invariant-loop-k l = record {
  bytes : take l.k l.dots.items ++ blackened_after l.first l.second (drop l.k l.dots.items) ≡ safe_dots l.rows l.fn.dots.items;
  same_count : vec_len l.dots ≡ vec_len l.fn.dots;
}
