-- What the whole call took is what it kept before, and then what the last pull took.
use Rattle.std.proofs.Common.{◌≡◌, ℕ, List, ◌++◌, arith, length-append, length-take, sym, append-nil}
use Rattle.std.proofs.KnownBytes.{Consumes-trans, Consumes-whole}
use Rattle.escpos_io.proofs.reading.read_to_end.Goals as goal

pub returns-in_err-taken-clause-at_most : goal.returns-in_err-taken-clause-at_most
returns-in_err-taken-clause-at_most g c =
    let (taken, few, consumed) = c.in_err-taken.ensures.at_most in
    (c.pieces.all.items ++ taken, rw length-append (omega (arith, c.pieces.all.ok.0)), Consumes-trans _ _ _ _ _ c.pieces.invariant.front consumed)

pub returns-then-taken-eq0-clause-whole : goal.returns-then-taken-eq0-clause-whole
returns-then-taken-eq0-clause-whole g c =
    let kept = c.pieces.all.items in
    let last = rw c.if-taken-eq0.true at c.in_ok-taken.ensures.bytes in
    Consumes-whole _ _ _ (λ (bytes : List ℕ). kept ≡ bytes)
    (Consumes-trans _ _ _ _ _ c.pieces.invariant.front last)
    (c.in_ok-taken.ensures.at_end c.if-taken-eq0.true)
    (sym (append-nil kept))

pub returns-in_err-extend_from_slice-clause-at_most : goal.returns-in_err-extend_from_slice-clause-at_most
returns-in_err-extend_from_slice-clause-at_most g c =
    let (taken, few, consumed) = c.in_ok-taken.ensures.at_most in
    (c.pieces.all.items ++ taken, rw length-append (omega (arith, c.pieces.all.ok.0)), Consumes-trans _ _ _ _ _ c.pieces.invariant.front consumed)

pub returns-in_err-extend_from_slice-clause-memory : goal.returns-in_err-extend_from_slice-clause-memory
returns-in_err-extend_from_slice-clause-memory g c = λ e.
    (c.pieces.all.items ++ _, rw (length-append, length-take) (omega (arith, c.pieces.all.ok.0, c.in_ok-taken.ensures.within)), Consumes-trans _ _ _ _ _ c.pieces.invariant.front c.in_ok-taken.ensures.bytes)
