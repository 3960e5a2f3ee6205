-- Byte after byte is taken, up to a status byte.
use Rattle.std.proofs.Common.{◌≡◌, ◌∙◌, ◌+◌, ◌++◌, ◌∷◌, [], Ok, length, sym, ap, subst, arith}
use Rattle.std.specs.Io.KnownBytes.{Consumes}
use Rattle.std.proofs.KnownBytes.{Consumes-kept, Consumes-trans}
use Rattle.escpos_tcp_jobs.proofs.PrinterStatusLemmas.{bad_next, passed_further, none_yet, one_byte, one_longer, passed_on, source_fails, told_next}
use Rattle.escpos_tcp_jobs.proofs.printer_status.next_status.Goals as goal

pub returns-in-Some-clause-told : goal.returns-in-Some-clause-told
returns-in-Some-clause-told g c =
    let so_far = c.loop-read.invariant.so_far in
    let kept = c.pull.auto.piece in
    let room = c.loop-read.invariant.room in
    let fits = c.in-Ok.ensures.within in
    let byte = one_byte c.pull.new.piece c.in-Ok.count _ (omega (arith, kept, room)) (omega (arith, fits, room)) c.if-count-eq0.false in
    let told = told_next so_far.0 c.loop-read.answers _ c.in-Some.status so_far.1 (c.take_byte.ensures.status c.in-Some.status (c.in_ok-status.was ∙ ap Ok c.in-Some.is)) in (
      (so_far.0 ++ c.loop-read.answers) ++ _ ∷ [],
      Consumes-trans (g.R.ByteIn.to_come c.args.reader.now) (g.R.ByteIn.to_come c.loop-read.reader) (g.R.ByteIn.to_come c.pull.new.self) _ _ so_far.2
          (subst (Consumes (g.R.ByteIn.to_come c.loop-read.reader) (g.R.ByteIn.to_come c.pull.new.self)) byte c.in-Ok.ensures.bytes),
      told,
    )

pub loop-read-preserved : goal.loop-read-preserved
loop-read-preserved g c =
    let so_far = c.loop-read.invariant.so_far in
    let kept = c.pull.auto.piece in
    let room = c.loop-read.invariant.room in
    let fits = c.in-Ok.ensures.within in
    let more = c.loop-read-test.true in
    let still : length c.pull.new.piece ≡ 1 = omega (arith, kept, room) in
    let byte = one_byte c.pull.new.piece c.in-Ok.count _ still (omega (arith, fits, room)) c.if-count-eq0.false in
    let passed = c.take_byte.ensures.passed (c.in_ok-status.was ∙ ap Ok c.in_default.is) in
    let on = passed_further so_far.0 c.loop-read.answers passed.0 c.take_byte.new.answers _ so_far.1 passed.1 passed.2 in
    record {
      room = still;
      so_far = (
        on.0,
        on.1,
        subst (Consumes (g.R.ByteIn.to_come c.args.reader.now) (g.R.ByteIn.to_come c.pull.new.self)) on.2
            (Consumes-trans (g.R.ByteIn.to_come c.args.reader.now) (g.R.ByteIn.to_come c.loop-read.reader) (g.R.ByteIn.to_come c.pull.new.self) _ _ so_far.2
            (subst (Consumes (g.R.ByteIn.to_come c.loop-read.reader) (g.R.ByteIn.to_come c.pull.new.self)) byte c.in-Ok.ensures.bytes)),
        ap length (sym on.2) ∙ one_longer so_far.0 c.loop-read.answers _ ∙ ap (λ n. n + 1) so_far.3,
      );
      half = c.take_byte.ensures.half (c.in_ok-status.was ∙ ap Ok c.in_default.is);
      within = omega (arith, more);
    }

pub returns-in_err-status-clause-fails : goal.returns-in_err-status-clause-fails
returns-in_err-status-clause-fails g c =
    let so_far = c.loop-read.invariant.so_far in
    let kept = c.pull.auto.piece in
    let room = c.loop-read.invariant.room in
    let fits = c.in-Ok.ensures.within in
    let same = so_far.3 in
    let more = c.loop-read-test.true in
    let byte = one_byte c.pull.new.piece c.in-Ok.count _ (omega (arith, kept, room)) (omega (arith, fits, room)) c.if-count-eq0.false in
    let bad = c.in_err-status.ensures.bad in
    passed_on _ c.from_residual.result c.in_err-status.field-0.0 c.from_residual.ensures.1 (
      (so_far.0 ++ c.loop-read.answers) ++ _ ∷ [],
      Consumes-trans (g.R.ByteIn.to_come c.args.reader.now) (g.R.ByteIn.to_come c.loop-read.reader) (g.R.ByteIn.to_come c.pull.new.self) _ _ so_far.2
          (subst (Consumes (g.R.ByteIn.to_come c.loop-read.reader) (g.R.ByteIn.to_come c.pull.new.self)) byte c.in-Ok.ensures.bytes),
      bad_next _ so_far.0 c.loop-read.answers _ bad.0 so_far.1 c.loop-read.invariant.half (omega (arith, same, more)) bad.1,
    )

pub returns-in-Err-clause-fails : goal.returns-in-Err-clause-fails
returns-in-Err-clause-fails g c =
    let so_far = c.loop-read.invariant.so_far in
    let same = so_far.3 in
    let more = c.loop-read-test.true in
    let none = none_yet so_far.0 c.loop-read.answers so_far.1 c.loop-read.invariant.half in (
      so_far.0 ++ c.loop-read.answers,
      Consumes-kept (g.R.ByteIn.to_come c.args.reader.now) (g.R.ByteIn.to_come c.loop-read.reader) (g.R.ByteIn.to_come c.pull.new.self) _ so_far.2 c.in-Err.ensures.bytes,
      source_fails c.of_reader.result (g.R.ByteIn.timed_out c.pull.new.self) _ c.of_reader.ensures.timed_out c.of_reader.ensures.other
          (c.loop-read.answers, none, omega (arith, same, more)),
    )

pub returns-clause-fails : goal.returns-clause-fails
returns-clause-fails g c =
    let so_far = c.loop-read.invariant.so_far in
    let same = so_far.3 in
    let ended = c.loop-read-test.false in
    let within = c.loop-read.invariant.within in
    let none = none_yet so_far.0 c.loop-read.answers so_far.1 c.loop-read.invariant.half in
    (so_far.0 ++ c.loop-read.answers, so_far.2, (c.loop-read.answers, none, omega (arith, same, ended, within)))
