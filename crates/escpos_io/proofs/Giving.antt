-- Bytes given to a gather by several calls: the laws that the module `laws` states.
use Rattle.std.proofs.Common.{◌≡◌, ℕ, ◌+◌, ◌<◌, ◌≤◌, ◌^◌, Bool, List, [], ◌++◌, length, Option, Result, Ok, Err, subst, append_assoc, append-nil, length-append, arith}
use Rattle.std.specs.Bool.{⊤}
use Rattle.std.specs.Result.{IfErr, IsErrAnd}
use Rattle.std.proofs.lemmas.Result.{err_from_is_err_and, IfErr-weaker, on_ok_weaker}
use Rattle.escpos_io.specs.declared.putting.Device.{Device}
use Rattle.escpos_io.specs.declared.pieces.TheConstants.{PIECE_BYTES}
use Rattle.escpos_io.specs.Gather.{Carries, Gathered, StopsIn}
use Rattle.escpos_io.specs.Giving.{IsGiven, IsPiecePut}
use Rattle.escpos_io.specs.Putting.{Passage, passage}
use Rattle.escpos_io.proofs.Carrying.{carries_appended, stops_in_front}

-- Two calls, one after another.
given_both : (result : Result ⊤ Device) (before between after : Option (List ℕ)) (failed_before failed_between failed_after : Bool)
    (old middle new : Gathered) (front more : List ℕ) → IsGiven (Ok tt) (passage before between failed_before failed_between) old middle front
    → IsGiven result (passage between after failed_between failed_after) middle new more
    → IsGiven result (passage before after failed_before failed_after) old new (front ++ more)
given_both result before between after failed_before failed_between failed_after old middle new front more f g = record {
  ok = on_ok_weaker result (λ h first total w. subst (Carries first after new) (append_assoc total front more) (h first (total ++ front) (f.ok first total w))) g.ok;
  err = IfErr-weaker result _ _ (λ device h first total rest w short.
      rw (← append_assoc total front more) (h first (total ++ front) rest (f.ok first total w) (rw (← append_assoc total front more) at short))) g.err;
  failed = g.failed;
  not_failed = on_ok_weaker result (λ h well. h (f.not_failed well)) g.not_failed;
}

pub given_in_turn : (result : Result ⊤ Device) (before between after : Option (List ℕ)) (failed_before failed_between failed_after : Bool)
    (old middle new : Gathered) (front more bytes : List ℕ) → IsGiven (Ok tt) (passage before between failed_before failed_between) old middle front
    → IsGiven result (passage between after failed_between failed_after) middle new more → bytes ≡ front ++ more
    → IsGiven result (passage before after failed_before failed_after) old new bytes
given_in_turn result before between after failed_before failed_between failed_after old middle new front more bytes f g e =
    rw e (given_both result before between after failed_before failed_between failed_after old middle new front more f g)

-- A call that failed stopped within any longer run of bytes too.
given_front : (device : Device) (sink : Passage) (old new : Gathered) (front more : List ℕ) → IsGiven (Err device) sink old new front
    → IsGiven (Err device) sink old new (front ++ more)
given_front device sink old new front more f = record {
  ok = tt;
  err = λ first total rest w short.
      let e : (total ++ (front ++ more)) ++ rest ≡ (total ++ front) ++ (more ++ rest) = simp append_assoc in
      rw e (f.err first total (more ++ rest) w (rw e at short));
  failed = f.failed;
  not_failed = tt;
}

pub given_in_the_front : (result : Result ⊤ Device) (device : Device) (sink : Passage) (old new : Gathered) (front more bytes : List ℕ)
    → IsErrAnd result (λ error. error ≡ device) → IsGiven (Err device) sink old new front → bytes ≡ front ++ more → IsGiven result sink old new bytes
given_in_the_front result device sink old new front more bytes r f e =
    let p = err_from_is_err_and result r in
    rw (p.1, p.2, e) (given_front device sink old new front more f)

-- Bytes appended to those that are kept back.
pub given_appended : (sink : Option (List ℕ)) (failed : Bool) (old new : Gathered) (bytes : List ℕ) → new.kept ≡ old.kept ++ bytes
    → new.written ≡ old.written → IsGiven (Ok tt) (passage sink sink failed failed) old new bytes
given_appended sink failed old new bytes k n = record {
  ok = λ first total w. carries_appended first sink old new total bytes w k n;
  err = tt;
  failed = tt;
  not_failed = λ well. well;
}

-- The first bytes of a piece are counted after those before the piece.
counted_after : (total front : List ℕ) → length front ≤ PIECE_BYTES → length total + PIECE_BYTES < 2 ^ 128 → length (total ++ front ++ []) < 2 ^ 128
counted_after total front few fits = rw (append-nil, length-append) (omega (arith, few, fits))

-- A sink that stopped within the first bytes of a piece stopped within these with any others after them, if the
-- first are few.
piece_stops : (result : Result ⊤ Device) (sink : Passage) (old new : Gathered) (front rest : List ℕ) → IsGiven result sink old new front
    → length front ≤ PIECE_BYTES → IfErr result (λ device. (first : Option (List ℕ)) (total more : List ℕ) → Carries first sink.before old total
    → length total + PIECE_BYTES < 2 ^ 128 → StopsIn first sink.after (total ++ (front ++ rest) ++ more) device.written)
piece_stops result sink old new front rest f few = IfErr-weaker result _ _ (λ device h first total more w fits.
    let e : (total ++ (front ++ rest)) ++ more ≡ (total ++ front ++ []) ++ (rest ++ more) = simp (append_assoc, append-nil) in
    rw e (stops_in_front first sink.after (total ++ front ++ []) (rest ++ more) device.written
    (h first total [] w (counted_after total front few fits)))) f.err

pub piece_put : (result : Result ⊤ Device) (sink : Passage) (old new : Gathered) (bytes : List ℕ) → IsGiven result sink old new bytes
    → length bytes ≤ PIECE_BYTES → IsPiecePut result sink old new bytes
piece_put result sink old new bytes f few = record {
  ok = f.ok;
  short = on_ok_weaker result (λ _. few) f.ok;
  err = rw append-nil at (piece_stops result sink old new bytes [] f few);
  failed = f.failed;
  not_failed = f.not_failed;
}

piece_front : (device : Device) (sink : Passage) (old new : Gathered) (front rest : List ℕ) → IsGiven (Err device) sink old new front
    → length front ≤ PIECE_BYTES → IsPiecePut (Err device) sink old new (front ++ rest)
piece_front device sink old new front rest f few = record {
  ok = tt;
  short = tt;
  err = piece_stops (Err device) sink old new front rest f few;
  failed = f.failed;
  not_failed = tt;
}

pub piece_stopped : (result : Result ⊤ Device) (device : Device) (sink : Passage) (old new : Gathered) (front rest bytes : List ℕ)
    → IsErrAnd result (λ error. error ≡ device) → IsGiven (Err device) sink old new front → length front ≤ PIECE_BYTES → bytes ≡ front ++ rest
    → IsPiecePut result sink old new bytes
piece_stopped result device sink old new front rest bytes r f few e =
    let p = err_from_is_err_and result r in
    rw (p.1, p.2, e) (piece_front device sink old new front rest f few)
