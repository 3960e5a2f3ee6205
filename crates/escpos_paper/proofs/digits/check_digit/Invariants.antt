-- The two sums of the digits so far.
use Rattle.std.proofs.Common.{◌≡◌, ◌%◌, take}
use Rattle.std.specs.Prelude.{reverse}
use Rattle.escpos_paper.specs.CheckDigit.{weighted}
use Rattle.escpos_paper.proofs.digits.check_digit.Given as goal

abbrev pub invariant-loop-byte : goal.invariant-loop-byte
invariant-loop-byte l = record {
  thrice : l.thrice ≡ weighted 3 1 (reverse (take l.byte-index l.digits)) % 10;
  once : l.once ≡ weighted 1 3 (reverse (take l.byte-index l.digits)) % 10;
}
