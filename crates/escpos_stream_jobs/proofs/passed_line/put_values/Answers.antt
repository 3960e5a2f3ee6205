use Rattle.std.proofs.Common.{◌+◌, ◌++◌, [], Ok, Err, refl, sym, ◌∙◌, ap, append_assoc, append-nil, drop, get_or}
use Rattle.std.specs.Prelude.{flat_map}
use Rattle.std.proofs.lemmas.List.{at_drop_more, drop_all}
use Rattle.escpos_io.proofs.Giving.{given_appended, given_in_turn, given_in_the_front}
use Rattle.escpos_job_parts.specs.Lines.{byte_value}
use Rattle.escpos_stream_jobs.proofs.passed_line.put_values.Goals as goal

pub loop-byte-init : goal.loop-byte-init
loop-byte-init g c = record {
  done = [];
  given = given_appended _ _ _ _ _ (sym (append-nil c.args.gather.now.kept)) refl;
  whole_is = refl;
}

pub returns-in_err-room : goal.returns-in_err-room
returns-in_err-room g c =
    let l = c.loop-byte in
    let far = l.invariant in
    let stopped = given_in_turn (Err c.in_err-room.field-0.0) _ _ _ _ _ _ _ _ _ far.done [] far.done far.given c.in_err-room.ensures.given (sym (append-nil far.done)) in
    given_in_the_front c.from_residual.result c.in_err-room.field-0.0 _ _ _ far.done _ _ c.from_residual.ensures.1 stopped far.whole_is

pub loop-byte-preserved : goal.loop-byte-preserved
loop-byte-preserved g c =
    let l = c.loop-byte in
    let far = l.invariant in
    let byte = get_or c.args.bytes.now l.byte-index 0 in
    let left = drop (l.byte-index + 1) c.args.bytes.now in
    let next = at_drop_more (λ bs. far.done ++ flat_map byte_value bs) c.args.bytes.now l.byte-index 0 c.loop-byte-test.true in
    let roomed = given_in_turn (Ok tt) _ _ _ _ _ _ _ _ _ far.done [] far.done far.given c.in_ok-room.ensures.given (sym (append-nil far.done)) in
    let appended = given_appended _ _ _ _ (byte_value byte) c.append_digits_after.ensures.kept c.append_digits_after.ensures.same_count in
    record {
      done = far.done ++ byte_value byte;
      given = given_in_turn (Ok tt) _ _ _ _ _ _ _ _ _ far.done (byte_value byte) (far.done ++ byte_value byte) roomed appended refl;
      whole_is = far.whole_is ∙ next ∙ sym (append_assoc far.done (byte_value byte) (flat_map byte_value left));
    }

pub returns : goal.returns
returns g c =
    let l = c.loop-byte in
    let far = l.invariant in
    let none = drop_all l.byte-index c.args.bytes.now c.loop-byte-test.false in
    let all = far.whole_is ∙ ap (λ bs. far.done ++ flat_map byte_value bs) none ∙ append-nil far.done in
    given_in_turn (Ok tt) _ _ _ _ _ _ _ _ _ far.done [] _ far.given
    (given_appended (g.W.ByteOut.written l.writer) (g.W.ByteOut.failed l.writer) _ _ [] (sym (append-nil l.gather.kept)) refl) (all ∙ sym (append-nil far.done))
