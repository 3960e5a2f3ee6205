-- A call does what its two waits do.
use Rattle.std.proofs.Common.{◌≡◌, ◌++◌, [], max, length-append, refl, sym, ◌∙◌, ap, subst, arith}
use Rattle.std.specs.Option.{IsSome}
use Rattle.std.proofs.KnownBytes.{Appends-nil, Appends-trans, Consumes-nil, Consumes-trans}
use Rattle.std.proofs.Math.Nat.{le-max_right}
use Rattle.escpos_host.specs.Machine.{HostView, Down, Open, gone_down}
use Rattle.escpos_host.specs.Sends.{Call, Fails, opening_bytes, receipt_bytes}
use Rattle.escpos_host.proofs.Sending.{closed_from, first_marks, has_marks, is_sending, none_left, one_left, refused_opening, refused_receipt, same_some, started}
use Rattle.escpos_host.proofs.send.send_link.Goals as goal

pub returns-in-Err-clause-sends : goal.returns-in-Err-clause-sends
returns-in-Err-clause-sends g c =
    let call : Call = record { before = c.args.host.now; receipt = c.args.receipt; openings = max c.args.openings 1; most = c.args.max_bytes } in
    ([], [], Consumes-nil (g.R.ByteIn.to_come c.args.reader.now), Appends-nil (g.W.ByteOut.written c.args.writer.now), omega arith, (refl, refused_opening call c.in-Err.why c.open_link.new.host c.in-Err.ensures.refused))

pub returns-in-Err-await_opened-clause-sends : goal.returns-in-Err-await_opened-clause-sends
returns-in-Err-await_opened-clause-sends g c =
    let call : Call = record { before = c.args.host.now; receipt = c.args.receipt; openings = max c.args.openings 1; most = c.args.max_bytes } in
    let first = started call c.open_link.new.host c.drop_left.new.self c.in_default.ensures.opened.1 c.drop_left.ensures in
    let s = c.in-Err-await_opened.ensures.stops call first (first_marks call c.in_default.ensures.marks) refl in
    let gone = closed_from c.drop_left.new.self c.await_opened.new.host c.link_down.new.self _ first (c.in-Err-await_opened.ensures.lost call first) c.link_down.ensures.up c.link_down.ensures.down in
    (s.bytes, s.out, s.came, s.put, s.few, (refl, subst (Fails call c.in-Err-await_opened.why s.bytes s.out) (sym gone) (s.fails c.link_down.new.self.heard)))

pub returns-in-Err-submit-clause-sends : goal.returns-in-Err-submit-clause-sends
returns-in-Err-submit-clause-sends g c =
    let call : Call = record { before = c.args.host.now; receipt = c.args.receipt; openings = max c.args.openings 1; most = c.args.max_bytes } in
    let first = started call c.open_link.new.host c.drop_left.new.self c.in_default.ensures.opened.1 c.drop_left.ensures in
    let o = c.in-Ok.ensures.opens call first in
    let refused = c.in-Err-submit.ensures.refused in
    let phase = ap (λ (v : HostView). v.phase) refused.2 ∙ ap (λ (v : HostView). v.phase) o.same in
    let gone = c.link_down-in-Err-submit.ensures.up (λ e. let bad : Open [] ≡ Down = sym phase ∙ e in absurd cc) ∙ ap gone_down refused.2 in (
      o.bytes,
      opening_bytes call,
      o.came,
      o.put,
      omega (arith, c.in-Ok.ensures.within, o.read),
      (
        refused.1,
        refused_receipt call c.in-Err-submit.why c.await_opened.new.host c.link_down-in-Err-submit.new.self o.bytes o.half c.in_default.ensures.opened.0 (le-max_right c.args.openings 1)
            c.in_default.ensures.marks o.opened o.same refused.0 gone,
      ),
    )

pub unwrap-requires : goal.unwrap-requires
unwrap-requires g c =
    let call : Call = record { before = c.args.host.now; receipt = c.args.receipt; openings = max c.args.openings 1; most = c.args.max_bytes } in
    let first = started call c.open_link.new.host c.drop_left.new.self c.in_default.ensures.opened.1 c.drop_left.ensures in
    let o = c.in-Ok.ensures.opens call first in
    let sent = is_sending call o.half c.await_opened.new.host c.submit.new.self o.same c.in_default-submit.ensures.submitted in
    let gone = closed_from c.submit.new.self c.await_recorded.new.host c.link_down-in-Err-await_recorded.new.self _ sent (c.in-Err-await_recorded.ensures.lost call o.half c.await_opened.new.host.heard sent)
    c.link_down-in-Err-await_recorded.ensures.up c.link_down-in-Err-await_recorded.ensures.down in
    subst IsSome (sym (c.take_left.ensures.receipt ∙ one_left call o.half c.await_opened.new.host.heard c.link_down-in-Err-await_recorded.new.self gone)) refl

pub returns-in-Ok-await_recorded-clause-sends : goal.returns-in-Ok-await_recorded-clause-sends
returns-in-Ok-await_recorded-clause-sends g c =
    let call : Call = record { before = c.args.host.now; receipt = c.args.receipt; openings = max c.args.openings 1; most = c.args.max_bytes } in
    let first = started call c.open_link.new.host c.drop_left.new.self c.in_default.ensures.opened.1 c.drop_left.ensures in
    let o = c.in-Ok.ensures.opens call first in
    let sent = is_sending call o.half c.await_opened.new.host c.submit.new.self o.same c.in_default-submit.ensures.submitted in
    let d = c.in-Ok-await_recorded.ensures.closes call o.bytes o.half c.await_opened.new.host.heard sent o.opened in
    let few = d.few in
    let whole = length-append o.bytes d.bytes in (
      o.bytes ++ d.bytes,
      opening_bytes call ++ receipt_bytes call,
      Consumes-trans (g.R.ByteIn.to_come c.args.reader.now) (g.R.ByteIn.to_come c.await_opened.new.reader) (g.R.ByteIn.to_come c.await_recorded.new.reader) o.bytes d.bytes o.came d.came,
      Appends-trans (g.W.ByteOut.written c.args.writer.now) (g.W.ByteOut.written c.await_opened.new.writer) (g.W.ByteOut.written c.await_recorded.new.writer) (opening_bytes call) (receipt_bytes call)
          o.put d.put,
      omega (arith, c.in-Ok.ensures.within, o.read, few, whole),
      (c.in_default.ensures.opened.0, has_marks call o.half c.await_opened.new.host o.same c.in_default.ensures.marks c.in_default-submit.ensures.submitted.3, d.closed, refl, d.place, d.same),
    )

pub returns-in-Err-await_recorded-clause-sends : goal.returns-in-Err-await_recorded-clause-sends
returns-in-Err-await_recorded-clause-sends g c =
    let call : Call = record { before = c.args.host.now; receipt = c.args.receipt; openings = max c.args.openings 1; most = c.args.max_bytes } in
    let first = started call c.open_link.new.host c.drop_left.new.self c.in_default.ensures.opened.1 c.drop_left.ensures in
    let o = c.in-Ok.ensures.opens call first in
    let sent = is_sending call o.half c.await_opened.new.host c.submit.new.self o.same c.in_default-submit.ensures.submitted in
    let s = c.in-Err-await_recorded.ensures.stops call o.bytes o.half c.await_opened.new.host.heard sent o.opened (has_marks call o.half c.await_opened.new.host o.same c.in_default.ensures.marks c.in_default-submit.ensures.submitted.3) (omega (arith, c.in-Ok.ensures.within, o.read)) in
    let gone = closed_from c.submit.new.self c.await_recorded.new.host c.link_down-in-Err-await_recorded.new.self _ sent (c.in-Err-await_recorded.ensures.lost call o.half c.await_opened.new.host.heard sent)
    c.link_down-in-Err-await_recorded.ensures.up c.link_down-in-Err-await_recorded.ensures.down in
    let few = s.few in
    let whole = length-append o.bytes s.bytes in
    let left = none_left call o.half c.await_opened.new.host.heard c.link_down-in-Err-await_recorded.new.self c.take_left.new.self gone c.take_left.ensures.rest in (
      o.bytes ++ s.bytes,
      opening_bytes call ++ s.out,
      Consumes-trans (g.R.ByteIn.to_come c.args.reader.now) (g.R.ByteIn.to_come c.await_opened.new.reader) (g.R.ByteIn.to_come c.await_recorded.new.reader) o.bytes s.bytes o.came s.came,
      Appends-trans (g.W.ByteOut.written c.args.writer.now) (g.W.ByteOut.written c.await_opened.new.writer) (g.W.ByteOut.written c.await_recorded.new.writer) (opening_bytes call) s.out o.put s.put,
      omega (arith, c.in-Ok.ensures.within, o.read, few, whole),
      (same_some (sym c.unwrap.ensures ∙ c.take_left.ensures.receipt ∙ one_left call o.half c.await_opened.new.host.heard c.link_down-in-Err-await_recorded.new.self gone), subst (Fails call c.in-Err-await_recorded.why (o.bytes ++ s.bytes) (opening_bytes call ++ s.out)) (sym left) (s.fails c.take_left.new.self.heard)),
    )
