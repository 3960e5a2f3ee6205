use Rattle.std.proofs.Common.{◌≡◌, ℕ, List, set, ◌+◌, ◌*◌, ◌<◌, ◌≤◌, [], ◌∷◌, ◌++◌, length, drop, take, Ok, refl, sym, ◌∙◌, ap, arith, append_assoc, append-nil}
use Rattle.std.proofs.lemmas.List.{drop-set-lt, take_more_set, length-set}
use Rattle.hex.specs.Hex.{decode_of}
use Rattle.escpos_job_parts.specs.Hexadecimal.{digits_of}
use Rattle.escpos_job_parts.specs.DigitValues.{IsPair, value_of}
use Rattle.escpos_job_parts.proofs.DigitsKept.{Kept}
use Rattle.escpos_job_parts.proofs.DigitPairs.{none_ok, pair_err, pair_found, pair_ok, rest_same}
use Rattle.escpos_job_parts.proofs.hexadecimal.bytes_of.Goals as goal

-- The byte of the next two digits is written where all digits are read.
written_over : (first old text : List ℕ) (read after written byte : ℕ) → text ≡ old → read < after → after ≤ length text → IsPair byte (digits_of (drop read text)) (digits_of (drop after text))
    → Kept first old read written → Kept first (set old written byte) after (written + 1)
written_over first old text read after written byte same further ends is k =
    let pair = pair_found first old text read after byte k.kept same (omega (arith, further)) is in
    let rest = digits_of (drop after first) in
    let within : after ≤ length old = omega (arith, ends, ap length same) in
    let inside : written < length old = omega (arith, further, within, k.room) in
    record {
      kept = drop-set-lt after old written byte (omega (arith, further, k.room)) ∙ rest_same old first read after k.kept (omega (arith, further));
      whole = length-set old written byte ∙ k.whole;
      room = omega (arith, further, k.room);
      inside = omega (arith, length-set old written byte, within);
      bytes = λ out e.
          k.bytes ((value_of pair.high * 16 + value_of pair.low) ∷ out) (ap decode_of pair.first ∙ pair_ok pair.high pair.low rest out pair.high_is pair.low_is e)
          ∙ ap Ok (ap (λ b. take written old ++ b ∷ out) (sym pair.value) ∙ sym (ap (λ t. t ++ out) (take_more_set old written byte inside) ∙ append_assoc (take written old) (byte ∷ []) out));
      refused = λ e. k.refused (rw pair.first (pair_err pair.high pair.low rest e));
    }

pub loop-byte-preserved-in-Some : goal.loop-byte-preserved-in-Some
loop-byte-preserved-in-Some c =
    let found = c.in-Some.ensures in
    written_over c.args.text.items c.loop-byte.text.items c.deref.result.now c.loop-byte.read (c.loop-byte.read + 2) c.loop-byte.written c.in-Some.byte c.deref.ensures.value
    (omega arith) found.0 found.1 c.loop-byte.invariant

pub loop-byte-preserved : goal.loop-byte-preserved
loop-byte-preserved c =
    let found = rw c.in-Ok-Some.field-0-is at c.in-Ok-Some.ensures.byte in
    written_over c.args.text.items c.loop-byte.text.items c.deref-in-loop-byte.result.now c.loop-byte.read c.in-Ok-Some.after c.loop-byte.written c.in-Ok-Some.byte c.deref-in-loop-byte.ensures.value
    found.0 found.1 found.2 c.loop-byte.invariant

pub returns-clause-bytes : goal.returns-clause-bytes
returns-clause-bytes c =
    let none : digits_of (drop c.loop-byte.read c.args.text.items) ≡ []
    = ap digits_of (sym c.loop-byte.invariant.kept) ∙ ap (λ t. digits_of (drop c.loop-byte.read t)) (sym c.deref-in-loop-byte.ensures.value) ∙ rw c.in-Ok-None.field-0-is at c.in-Ok-None.ensures.none refl in
    c.loop-byte.invariant.bytes [] (ap decode_of none ∙ none_ok) ∙ ap Ok (append-nil _ ∙ sym c.truncate.ensures.items)
