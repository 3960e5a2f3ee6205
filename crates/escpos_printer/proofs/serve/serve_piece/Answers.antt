use Rattle.std.proofs.Common.{arith, ◌<◌, ◌+◌, sym, ◌∙◌, subst}
use Rattle.escpos_command.proofs.Readings.{joined, one_reading}
use Rattle.escpos_printer.specs.declared.printer.FeedStop.TheVariants as stop
use Rattle.escpos_printer.specs.Serves.{IsCarried, sent}
use Rattle.escpos_printer.specs.ServeSteps.{IsWithinPiece}
use Rattle.escpos_printer.proofs.Serving.{FedAt, passed_none, fed_at, broken, carried, go_on, some_taken, no_write_fault, within_piece}
use Rattle.escpos_printer.proofs.serve.serve_piece.Given as given
use Rattle.escpos_printer.proofs.serve.serve_piece.Goals as goal

pub loop-count-init : goal.loop-count-init
loop-count-init g c = record {
  inside = omega arith;
  passed = passed_none c.args.printer.now _ c.is_sound.ensures.rest c.requires.none;
  few = omega arith;
  not_failed = λ h. h;
}

pub returns-in-Err-clause-carried : goal.returns-in-Err-clause-carried
returns-in-Err-clause-carried g c =
    broken joined c.args.printer.now c.loop-count.printer c.feed-fed.new.self c.put_answers.new.printer c.args.piece.now _ _ _
    c.loop-count.consumed c.feed-fed.result.consumed c.loop-count.written c.in-Err.count c.feed-fed.result.stop c.loop-count.invariant.passed
    (fed_at c.loop-count.printer c.feed-fed.new.self c.args.piece.now c.loop-count.consumed c.feed-fed.result.consumed c.feed-fed.result.stop c.loop-count.invariant.inside c.feed-fed.ensures)
    c.in-Err.ensures.some
    (record { sheet = c.in-Err.ensures.same.0; half = c.in-Err.ensures.same.1; condition = c.in-Err.ensures.same.2; automatic = c.in-Err.ensures.same.3 })

-- the bytes that were taken before the answers were too many
full : (g : given.Over) (c : goal.In-AnswersFull g) → FedAt c.loop-count.printer c.args.piece.now c.loop-count.consumed c.feed-fed.result.consumed stop.AnswersFull c.feed-fed.new.self
full g c =
    subst (λ v. FedAt c.loop-count.printer c.args.piece.now c.loop-count.consumed c.feed-fed.result.consumed v c.feed-fed.new.self) c.in-AnswersFull.is
    (fed_at c.loop-count.printer c.feed-fed.new.self c.args.piece.now c.loop-count.consumed c.feed-fed.result.consumed c.feed-fed.result.stop c.loop-count.invariant.inside c.feed-fed.ensures)

some : (g : given.Over) (c : goal.In-AnswersFull g) → 0 < c.feed-fed.result.consumed
some g c =
    some_taken c.loop-count.printer c.feed-fed.new.self c.args.piece.now c.loop-count.consumed c.feed-fed.result.consumed one_reading
    c.loop-count.invariant.passed.ran.reads.rest_is c.loop-count.invariant.passed.out.none (full g c)

pub loop-count-smaller : goal.loop-count-smaller
loop-count-smaller g c = let within = (full g c).within in let more = some g c in omega (arith, within, more)

pub loop-count-preserved : goal.loop-count-preserved
loop-count-preserved g c =
    let fed = full g c in
    let more = some g c in
    let before = c.loop-count.invariant.few in
    let count = c.in-Ok.ensures.few in
    record {
      inside = fed.within;
      passed =
          go_on joined c.args.printer.now c.loop-count.printer c.feed-fed.new.self c.put_answers.new.printer c.args.piece.now _ _ _
          c.loop-count.consumed c.feed-fed.result.consumed c.loop-count.written c.in-Ok.count c.loop-count.invariant.passed fed c.in-Ok.ensures.all
          (record { sheet = c.in-Ok.ensures.same.0; half = c.in-Ok.ensures.same.1; condition = c.in-Ok.ensures.same.2; automatic = c.in-Ok.ensures.same.3 });
      few = omega (arith, more, before, count);
      not_failed = λ well. c.in-Ok.ensures.not_failed (c.loop-count.invariant.not_failed well);
    }

pub returns-in-loop-count : goal.returns-in-loop-count
returns-in-loop-count g c =
    let before = c.loop-count.invariant.few in
    let count = c.in-Ok.ensures.few in
    record {
      carried =
          subst (λ v. IsCarried c.args.printer.now c.args.piece.now (sent (g.W.ByteOut.written c.args.writer.now) (g.W.ByteOut.written c.put_answers.new.writer))
          (record { consumed = c.loop-count.consumed + c.feed-fed.result.consumed; written = c.loop-count.written + c.in-Ok.count; end = v }) c.put_answers.new.printer)
          (sym c.end_of.ensures)
          (carried joined c.args.printer.now c.loop-count.printer c.feed-fed.new.self c.put_answers.new.printer c.args.piece.now _ _ _
          c.loop-count.consumed c.feed-fed.result.consumed c.loop-count.written c.in-Ok.count c.feed-fed.result.stop c.in_default.not-AnswersFull c.loop-count.invariant.passed
          (fed_at c.loop-count.printer c.feed-fed.new.self c.args.piece.now c.loop-count.consumed c.feed-fed.result.consumed c.feed-fed.result.stop c.loop-count.invariant.inside c.feed-fed.ensures)
          c.in-Ok.ensures.all
          (record { sheet = c.in-Ok.ensures.same.0; half = c.in-Ok.ensures.same.1; condition = c.in-Ok.ensures.same.2; automatic = c.in-Ok.ensures.same.3 }));
      few = omega (arith, before, count);
      end = subst (λ v. IsWithinPiece v) (sym c.end_of.ensures) (within_piece c.feed-fed.result.stop);
      failed = λ e. absurd (no_write_fault c.feed-fed.result.stop (sym c.end_of.ensures ∙ e));
      not_failed = λ well ne. c.in-Ok.ensures.not_failed (c.loop-count.invariant.not_failed well);
    }
