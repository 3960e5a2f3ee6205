-- What a call took comes after what was put before it; a call that took a byte has not failed.
use Rattle.std.proofs.Common.{◌≡◌, ℕ, ◌+◌, ◌-◌, ◌<◌, ◌≤◌, List, ◌++◌, false, true, arith, length, length-take, length-drop, take, drop, sym}
use Rattle.std.proofs.lemmas.List.{take_rest}
use Rattle.std.proofs.KnownBytes.{Appends-trans}
use lib.Seq.{take-add}
use Rattle.escpos_io.proofs.putting.put_all.Goals as goal

-- the bytes from i on are as many as in the code's range
length-range : (xs : List ℕ) (i : ℕ) → length (take (length xs - i) (drop i xs)) ≡ length xs - i
length-range xs i = simp (length-take, length-drop) (omega arith)

-- n more bytes after the first i
take-more : (xs : List ℕ) (i n : ℕ) → take i xs ++ take n (take (length xs - i) (drop i xs)) ≡ take (i + n) xs
take-more xs i n = rw (take_rest xs i) (sym (take-add i n xs))

pub loop-written-preserved : goal.loop-written-preserved
loop-written-preserved g c =
    let bytes = c.args.bytes.now in
    let before = c.loop-written.written in
    let taken = c.in-Ok.taken in
    let asked = length-range bytes before in
    let fits : taken ≤ length bytes - before = rw asked at c.in-Ok.ensures.within in
    let moved : 0 < taken = c.in-Ok.ensures.progress (rw asked (omega arith)) in
    record {
      within = omega arith;
      front = rw (← take-more bytes before taken)
          (Appends-trans _ _ _ _ _ c.loop-written.invariant.front c.in-Ok.ensures.bytes);
      not_failed = λ _ failed. let no : false ≡ true = c.in-Ok.ensures.failed.0 failed in cc;
      untouched = λ none. absurd (omega arith);
      stays_failed = λ failed.
          let first : before ≡ 0 = c.loop-written.invariant.stays_failed failed in
          let same = c.loop-written.invariant.untouched first in
          let no : false ≡ true = c.in-Ok.ensures.stays_failed (rw same failed) in cc;
    }
