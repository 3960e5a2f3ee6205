use Rattle.std.proofs.Common.{◌+◌, ◌-◌, ◌++◌, length, length-take, map, take, drop, refl, arith, ◌∙◌, ap, sym, add_assoc}
use Rattle.escpos_decode.proofs.Streams.{turn_more, turn_run, turn_done, turn_fault, turn_refused, length-rest}
use Rattle.std.specs.Prelude.{slice_index}
use Rattle.escpos_command.specs.declared.command.Command.TheVariants.{Char}
use Rattle.escpos_decode.proofs.TextRuns.{turn_text, turn_text_refused}
use Rattle.escpos_decode.proofs.reading.read_piece.Goals as goal

pub returns-in-Err-clause-refused : goal.returns-in-Err-clause-refused
returns-in-Err-clause-refused g c =
    let text = c.characters-count.ensures in
    let last = c.in-Err.ensures.refused in
    let t = c.loop-at.invariant.turn in
    let piece = c.args.piece.now in
    let at = c.loop-at.at in
    let count = c.characters-count.result in
    let fits = length-rest piece at count c.loop-at.invariant.inside text.count in
    let short = length-take (at + count - at) (drop at piece) in
    let between = text.between (omega (arith, c.if-count-gt0.true)) in (
      last.0,
      at + (last.1 + 1),
      Char (slice_index (drop at piece) last.1),
      (
        t.commands ++ map Char (take last.1 (take (at + count - at) (drop at piece))),
        turn_text_refused _ c.args.decoder.now piece c.loop-at.decoder at count (length piece - at) (at + count - at) last.1 c.loop-at.start (omega (arith, fits)) (omega arith)
            (omega (arith, last.2, short)) (omega (arith, last.2, short)) text.characters between t,
        last.3 _ t.commands t.placed t.all_accepted,
      ),
      last.4,
      between,
    )

pub loop-at-preserved-then-count-gt0 : goal.loop-at-preserved-then-count-gt0
loop-at-preserved-then-count-gt0 g c =
    let text = c.characters-count.ensures in
    let piece = c.args.piece.now in
    let at = c.loop-at.at in
    let count = c.characters-count.result in
    let fits = length-rest piece at count c.loop-at.invariant.inside text.count in
    record {
      turn =
          turn_text _ _ c.args.decoder.now piece c.loop-at.decoder at count (length piece - at) (at + count - at) c.loop-at.start _ fits (omega (arith, fits)) (omega arith)
          text.characters (text.between (omega (arith, c.if-count-gt0.true))) c.loop-at.invariant.turn
          (λ cs placed taken. c.in_default.ensures.accepted _ cs placed taken) (ap (λ n. n + (at + count)) c.pending_len-before.ensures.value);
      inside = fits;
    }

pub loop-at-preserved-in-Ok-More : goal.loop-at-preserved-in-Ok-More
loop-at-preserved-in-Ok-More g c =
    let on = rw c.in-Ok-More.field-0-is at c.in-Ok-More.ensures.stream in
    let fits = length-rest c.args.piece.now (c.loop-at.at + 1) c.push_dots-at.result (omega (arith, c.loop-at-test.true)) c.push_dots-at.ensures.count in
    let more = turn_more _ c.args.decoder.now c.args.piece.now c.loop-at.decoder c.push.new.self c.loop-at.at c.loop-at.start _ c.loop-at-test.true c.loop-at.invariant.turn on refl in
    record {
      turn =
          turn_run _ c.args.decoder.now c.args.piece.now c.push.new.self c.push_dots-at.new.self (c.loop-at.at + 1) c.push_dots-at.result (length c.args.piece.now - (c.loop-at.at + 1)) c.loop-at.start
          fits (omega (arith, fits)) more c.push_dots-at.ensures.stream;
      inside = fits;
    }

pub returns-in-Err-Fault-clause-stopped : goal.returns-in-Err-Fault-clause-stopped
returns-in-Err-Fault-clause-stopped g c =
    let on = rw c.in-Err-Fault.field-0-is at c.in-Err-Fault.ensures.stream in
    let step = rw c.in-Err-Fault.field-0-is at c.in-Err-Fault.ensures.step in
    turn_fault _ c.args.decoder.now c.args.piece.now c.loop-at.decoder _ c.loop-at.at c.loop-at.start _ c.loop-at-test.true c.loop-at.invariant.turn on step.2

pub returns-in-Err-take-clause-refused : goal.returns-in-Err-take-clause-refused
returns-in-Err-take-clause-refused g c =
    let on = rw (c.in-Ok-Done.field-0-is, c.in-Ok-Done.command-is) at c.in-Ok-Done.ensures.stream in
    let rest = (rw c.in-Ok-Done.field-0-is at c.in-Ok-Done.ensures.step).1 in (
      (c.loop-at.consumer, c.loop-at.output),
      c.loop-at.at + 1,
      c.in-Ok-Done.command,
      turn_refused _ c.args.decoder.now c.args.piece.now c.loop-at.decoder c.push.new.self c.loop-at.at c.loop-at.start c.in-Ok-Done.command c.loop-at-test.true c.loop-at.invariant.turn on rest,
      c.in-Err-take.ensures.refused,
      rest,
    )

pub loop-at-preserved : goal.loop-at-preserved
loop-at-preserved g c =
    let on = rw (c.in-Ok-Done.field-0-is, c.in-Ok-Done.command-is) at c.in-Ok-Done.ensures.stream in
    let rest = (rw c.in-Ok-Done.field-0-is at c.in-Ok-Done.ensures.step).1 in
    record {
      turn =
          turn_done _ _ c.args.decoder.now c.args.piece.now c.loop-at.decoder c.push.new.self c.loop-at.at c.loop-at.start _ c.in-Ok-Done.command c.loop-at-test.true c.loop-at.invariant.turn
          (λ cs taken placed. c.in_default-take.ensures.accepted _ cs placed taken) on rest (ap (λ n. n + (c.loop-at.at + 1)) c.pending_len-before.ensures.value ∙ sym (add_assoc _ c.loop-at.at 1));
      inside = omega (arith, c.loop-at-test.true);
    }
