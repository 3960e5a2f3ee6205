use Rattle.std.proofs.Common.{rules, Fits, w64, ℕ, List, ◌<◌, ◌≤◌, ◌≡◌, ◌+◌, ◌-◌, ◌++◌, length, length-take, length-drop, take, drop, refl, subst, arith, ◌∙◌, ap}
use Rattle.std.specs.Prelude.{slice_index}
use Rattle.escpos_command.specs.declared.command.Command.TheVariants.{Char, Set}
use Rattle.escpos_passed.specs.Reading.{text_tokens}
use Rattle.std.proofs.lemmas.List.{take-take}
use Rattle.escpos_passed.specs.declared.finding.Found.TheVariants.{Whole}
use Rattle.escpos_passed.specs.declared.table.Row.{Row}
use Rattle.escpos_passed.specs.Finding.{IsFound}
use Rattle.escpos_passed.specs.Table.{table, row_at, IsPassed, IsPassedBy}
use Rattle.escpos_passed.specs.Tokens.{taken, passed}
use Rattle.escpos_passed.proofs.Turns.{rest_length, all_taken, turn_reads, turn_more, turn_run, turn_done, turn_refused, turn_setting, turn_setting_refused, turn_text, turn_text_refused, turn_fault, turn_nothing, turn_part, turn_passed, turn_not_passed, turn_further, turn_small, place_of}
use Rattle.escpos_passed.proofs.reading.read_tokens.Goals as goal

pub returns-in-Err-clause-refused : goal.returns-in-Err-clause-refused
returns-in-Err-clause-refused g c =
    let text = c.characters-count.ensures in
    let last = c.in-Err.ensures.refused in
    let t = c.loop-at.invariant.turn in
    let bytes = c.args.bytes.now in
    let at = c.loop-at.at in
    let count = c.characters-count.result in
    let fits = rest_length bytes at count c.loop-at.invariant.inside text.count in
    let short = length-take (at + count - at) (drop at bytes) in
    let none = text.between (omega (arith, c.if-count-gt0.true)) in (
      last.0,
      at + (last.1 + 1),
      taken (Char (slice_index (drop at bytes) last.1)),
      (
        t.tokens ++ text_tokens (take last.1 (take (at + count - at) (drop at bytes))),
        turn_text_refused c.args.pass _ bytes c.loop-at.decoder at count (length bytes - at) (at + count - at) last.1 c.loop-at.start c.loop-at.passed fits (omega (arith, fits)) (omega arith)
            (omega (arith, last.2, short)) text.characters none t,
        last.3 _ t.tokens t.placed t.all_accepted,
      ),
      last.4,
    )

pub loop-at-preserved-then-count-gt0 : goal.loop-at-preserved-then-count-gt0
loop-at-preserved-then-count-gt0 g c =
    let text = c.characters-count.ensures in
    let bytes = c.args.bytes.now in
    let at = c.loop-at.at in
    let count = c.characters-count.result in
    let fits = rest_length bytes at count c.loop-at.invariant.inside text.count in
    record {
      turn =
          turn_text c.args.pass _ _ bytes c.loop-at.decoder at count (length bytes - at) (at + count - at) c.loop-at.start c.loop-at.passed _ fits (omega (arith, fits)) (omega arith)
          text.characters (text.between (omega (arith, c.if-count-gt0.true))) c.loop-at.invariant.turn
          (λ ts placed all. c.in_default.ensures.accepted _ ts placed all) refl;
      inside = fits;
    }

pub returns-in-Err-take-clause-refused : goal.returns-in-Err-take-clause-refused
returns-in-Err-take-clause-refused g c =
    let bytes = c.args.bytes.now in
    let at = c.loop-at.at in
    let found = c.in-Some.ensures.spelled in
    let fits = rest_length bytes at 3 c.loop-at.invariant.inside found.0 in (
      (c.loop-at.consumer, c.loop-at.output),
      at + 3,
      taken (Set c.in-Some.setting),
      turn_setting_refused c.args.pass _ bytes c.loop-at.decoder at 3 (length bytes - at) c.loop-at.start c.loop-at.passed (Set c.in-Some.setting) fits (omega (arith, fits)) c.in-Some.ensures.between c.loop-at.invariant.turn found.1,
      c.in-Err-take.ensures.refused,
    )

pub loop-at-preserved-in-Some : goal.loop-at-preserved-in-Some
loop-at-preserved-in-Some g c =
    let bytes = c.args.bytes.now in
    let at = c.loop-at.at in
    let found = c.in-Some.ensures.spelled in
    let fits = rest_length bytes at 3 c.loop-at.invariant.inside found.0 in
    record {
      turn =
          turn_setting c.args.pass _ _ bytes c.loop-at.decoder at 3 (length bytes - at) c.loop-at.start c.loop-at.passed _ (Set c.in-Some.setting) fits (omega (arith, fits)) c.in-Some.ensures.between c.loop-at.invariant.turn found.1
          (λ ts placed all. c.in_default-take.ensures.accepted _ ts placed all) refl;
      inside = fits;
    }

pub loop-at-preserved-in-Ok-More : goal.loop-at-preserved-in-Ok-More
loop-at-preserved-in-Ok-More g c =
    let step = rw c.in-Ok-More.field-0-is at c.in-Ok-More.ensures.step in
    let bytes = c.args.bytes.now in
    let at = c.loop-at.at in
    let fits = rest_length bytes (at + 1) c.push_dots-at.result (omega (arith, c.loop-at-test.true)) c.push_dots-at.ensures.count in
    let more = turn_more c.args.pass _ bytes c.loop-at.decoder c.push.new.self at c.loop-at.start c.loop-at.passed c.loop-at-test.true c.loop-at.invariant.turn step.0 step.1 in
    record {
      turn =
          turn_run c.args.pass _ bytes c.push.new.self c.push_dots-at.new.self (at + 1) c.push_dots-at.result (length bytes - (at + 1)) c.loop-at.start c.loop-at.passed
          fits (omega (arith, fits)) more c.push_dots-at.ensures.grown c.push_dots-at.ensures.stream;
      inside = fits;
    }

pub returns-in-Err-take-2-clause-refused : goal.returns-in-Err-take-2-clause-refused
returns-in-Err-take-2-clause-refused g c =
    let step = rw (c.in-Ok-Done.field-0-is, c.in-Ok-Done.command-is) at c.in-Ok-Done.ensures.step in (
      (c.loop-at.consumer, c.loop-at.output),
      c.loop-at.at + 1,
      taken c.in-Ok-Done.command,
      turn_refused c.args.pass _ c.args.bytes.now c.loop-at.decoder c.loop-at.at c.loop-at.start c.loop-at.passed c.in-Ok-Done.command c.loop-at-test.true c.loop-at.invariant.turn step.0,
      c.in-Err-take-2.ensures.refused,
    )

pub loop-at-preserved-in-Ok-Done : goal.loop-at-preserved-in-Ok-Done
loop-at-preserved-in-Ok-Done g c =
    let step = rw (c.in-Ok-Done.field-0-is, c.in-Ok-Done.command-is) at c.in-Ok-Done.ensures.step in
    record {
      turn =
          turn_done c.args.pass _ _ c.args.bytes.now c.loop-at.decoder c.push.new.self c.loop-at.at c.loop-at.start c.loop-at.passed _ c.in-Ok-Done.command c.loop-at-test.true c.loop-at.invariant.turn step.0 step.1
          (λ ts placed all. c.in_default-take-2.ensures.accepted _ ts placed all) refl;
      inside = omega (arith, c.loop-at-test.true);
    }

pub returns-in-Err-Memory-clause-stopped : goal.returns-in-Err-Memory-clause-stopped
returns-in-Err-Memory-clause-stopped g c =
    let t = c.loop-at.invariant.turn in
    (c.loop-at.at, t.tokens, c.loop-at.decoder, c.loop-at-test.true, turn_reads c.args.pass _ _ c.loop-at.decoder c.loop-at.start c.loop-at.passed t, t.all_accepted)

pub returns-then-not-pass-clause-stopped : goal.returns-then-not-pass-clause-stopped
returns-then-not-pass-clause-stopped g c =
    let on = rw c.in-Err-Fault.field-0-is at c.in-Err-Fault.ensures.stream in
    let t = c.loop-at.invariant.turn in
    (t.tokens, rw c.in-Err-Fault.why-is (turn_fault c.args.pass _ c.args.bytes.now c.loop-at.decoder c.loop-at.at c.loop-at.start c.loop-at.passed _ c.if-not-pass.true c.loop-at-test.true t on), t.all_accepted, t.counted)

pub returns-in-Nothing-clause-stopped : goal.returns-in-Nothing-clause-stopped
returns-in-Nothing-clause-stopped g c =
    let on = rw c.in-Err-Fault.field-0-is at c.in-Err-Fault.ensures.stream in
    let t = c.loop-at.invariant.turn in
    (t.tokens, rw c.in-Err-Fault.why-is (turn_nothing c.args.pass _ c.args.bytes.now c.loop-at.decoder c.loop-at.at c.loop-at.start c.loop-at.passed _ _ c.if-not-pass.false c.loop-at-test.true refl t on c.in-Nothing.ensures), t.all_accepted, t.counted)

pub returns-in-Part-clause-read : goal.returns-in-Part-clause-read
returns-in-Part-clause-read g c =
    turn_part c.args.pass _ c.args.bytes.now c.loop-at.decoder c.loop-at.at c.loop-at.start c.loop-at.passed _ c.if-not-pass.false c.loop-at-test.true refl c.loop-at.invariant.turn c.in-Part.ensures

pub returns-clause-read : goal.returns-clause-read
returns-clause-read g c =
    all_taken c.args.pass _ c.args.bytes.now c.loop-at.decoder c.loop-at.at c.loop-at.start c.loop-at.passed c.loop-at.invariant.inside c.loop-at-test.false c.loop-at.invariant.turn

-- The bytes of a command that is passed over, as they were found and as they are given.
run_is : (bytes : List ℕ) (start n : ℕ) → n ≤ length (take (length bytes - start) (drop start bytes)) → take n (take (length bytes - start) (drop start bytes)) ≡ take (start + n - start) (drop start bytes)
run_is bytes start n fits =
    take-take n (length bytes - start) (drop start bytes) (let short = length-take (length bytes - start) (drop start bytes) in omega (arith, fits)) ∙ ap (λ k. take k (drop start bytes)) (omega arith)

pub pass-requires : goal.pass-requires
pass-requires g c =
    let found = c.in-Whole.ensures in
    record { passed = subst (IsPassedBy c.in-Whole.row) (run_is c.args.bytes.now c.loop-at.start c.in-Whole.length found.3) found.4 }

passed_of : (r : Row) (bs : List ℕ) (i : ℕ) → i < length table → r ≡ row_at table i → IsPassedBy r bs → IsPassed bs
passed_of r bs i h e p = (i, h, subst (λ s. IsPassedBy s bs) e p)

-- The bytes of the command that was found, as they are given, and where they end.
run_given : (bytes : List ℕ) (start n : ℕ) → take (start + n - start) (drop start bytes) ≡ take n (drop start bytes)
run_given bytes start n = ap (λ k. take k (drop start bytes)) (omega arith)

run_passed : (r : Row) (bytes : List ℕ) (start n : ℕ) → IsFound (Whole r n) (take (length bytes - start) (drop start bytes)) → IsPassed (take n (drop start bytes))
run_passed r bytes start n f = subst IsPassed (run_is bytes start n f.3 ∙ run_given bytes start n) (passed_of r (take n (take (length bytes - start) (drop start bytes))) f.0 f.1 f.2 f.4)

run_by : (r : Row) (bytes : List ℕ) (start n : ℕ) (f : IsFound (Whole r n) (take (length bytes - start) (drop start bytes))) → IsPassedBy (row_at table f.0) (take (start + n - start) (drop start bytes))
run_by r bytes start n f = subst (λ s. IsPassedBy s (take (start + n - start) (drop start bytes))) f.2 (subst (IsPassedBy r) (run_is bytes start n f.3) f.4)

run_ends : (r : Row) (bytes : List ℕ) (at start n rest : ℕ) → at < length bytes → at ≡ start + rest → IsFound (Whole r n) (take (length bytes - start) (drop start bytes)) → start + n ≤ length bytes
run_ends r bytes at start n rest h place f =
    let short = length-take (length bytes - start) (drop start bytes) in
    let left = length-drop start bytes in
    omega (arith, f.3, h, place)

pub returns-in-Err-pass-clause-refused : goal.returns-in-Err-pass-clause-refused
returns-in-Err-pass-clause-refused g c =
    let bytes = c.args.bytes.now in
    let at = c.loop-at.at in
    let start = c.loop-at.start in
    let n = c.in-Whole.length in
    let t = c.loop-at.invariant.turn in
    let found = c.in-Whole.ensures in
    let place = place_of c.args.pass _ bytes c.loop-at.decoder at start c.loop-at.passed c.loop-at-test.true t in
    let ends = run_ends c.in-Whole.row bytes at start n (length c.loop-at.decoder) c.loop-at-test.true place found in
    let there = run_by c.in-Whole.row bytes start n found in (
      (c.loop-at.consumer, c.loop-at.output),
      start + n,
      passed found.0 (take (start + n - start) (drop start bytes)),
      turn_not_passed c.args.pass _ bytes c.loop-at.decoder (take (start + n - start) (drop start bytes)) at start c.loop-at.passed n found.0 c.if-not-pass.false c.loop-at-test.true ends t (run_given bytes start n) found.1 there,
      c.in-Err-pass.ensures.refused,
    )

pub loop-at-smaller : goal.loop-at-smaller
loop-at-smaller g c =
    let bytes = c.args.bytes.now in
    let at = c.loop-at.at in
    let start = c.loop-at.start in
    let n = c.in-Whole.length in
    let further = turn_further c.args.pass _ bytes c.loop-at.decoder at start c.loop-at.passed n c.loop-at-test.true c.loop-at.invariant.turn (run_passed c.in-Whole.row bytes start n c.in-Whole.ensures) in
    omega (arith, further, c.loop-at-test.true)

pub loop-at-preserved : goal.loop-at-preserved
loop-at-preserved g c =
    let bytes = c.args.bytes.now in
    let at = c.loop-at.at in
    let start = c.loop-at.start in
    let n = c.in-Whole.length in
    let t = c.loop-at.invariant.turn in
    let found = c.in-Whole.ensures in
    let step = rw c.in-Err-Fault.field-0-is at c.in-Err-Fault.ensures.step in
    let place = place_of c.args.pass _ bytes c.loop-at.decoder at start c.loop-at.passed c.loop-at-test.true t in
    let ends = run_ends c.in-Whole.row bytes at start n (length c.loop-at.decoder) c.loop-at-test.true place found in
    let there = run_by c.in-Whole.row bytes start n found in
    record {
      turn =
          turn_passed c.args.pass _ _ bytes c.loop-at.decoder c.push.new.self (take (start + n - start) (drop start bytes)) at start c.loop-at.passed n found.0 c.if-not-pass.false c.loop-at-test.true ends t (run_given bytes start n) found.1 there step.2
          (λ ts placed all. c.in_default-pass.ensures.accepted _ ts found.0 placed found.1 found.2 all);
      inside = ends;
    }

pub overflow_add-passed : goal.overflow_add-passed
overflow_add-passed g c =
    let small = turn_small c.args.pass _ c.args.bytes.now c.loop-at.decoder c.loop-at.at c.loop-at.start c.loop-at.passed c.loop-at.invariant.inside c.loop-at.invariant.turn in
    let long : Fits w64 (length c.args.bytes.now) = search rules in
    omega (arith, long, small, c.loop-at-test.true)
