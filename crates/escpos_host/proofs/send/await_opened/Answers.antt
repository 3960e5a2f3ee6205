-- How the first wait of a call ends.
use Rattle.std.proofs.Common.{[], sym, ◌∙◌, ap, subst, inl}
use Rattle.std.specs.Io.KnownBytes.{Appends}
use Rattle.escpos_host.specs.Awaits.{Brought, Silent, with_heard, with_out}
use Rattle.escpos_host.specs.Machine.{HostView, gone_down}
use Rattle.escpos_host.specs.Sends.{IsCut}
use Rattle.escpos_host.proofs.Sending.{bad_behind, bad_first, cut_first, gone_behind, gone_first, if_err, lost_same, lost_up, opens_all, silent_first}
use Rattle.escpos_host.proofs.Dialling.{on_err}
use Rattle.escpos_command.proofs.AnswerReadings.{joined}
use Rattle.escpos_host.proofs.send.await_opened.Goals as goal

pub returns-in_err-put_out-clause-stops : goal.returns-in_err-put_out-clause-stops
returns-in_err-put_out-clause-stops g c =
    let e = c.in_err-put_out.ensures.some in
    if_err _ c.from_residual.result c.in_err-put_out.field-0.0 c.from_residual.ensures.1
    (λ call is marks all.
    cut_first call c.in_err-put_out.field-0.0 _ _ _ c.args.most e.0 c.in_err-put_out.ensures.why marks e.1 (subst (λ bs. IsCut bs e.0) (ap (λ (v : HostView). v.out) is) e.2))

pub returns-in_err-awaited-clause-stops : goal.returns-in_err-awaited-clause-stops
returns-in_err-awaited-clause-stops g c =
    if_err _ c.from_residual-in_err-awaited.result c.in_err-awaited.field-0.0 c.from_residual-in_err-awaited.ensures.1
    (λ call is marks all.
    silent_first call (g.R.ByteIn.to_come c.args.reader.now) (g.R.ByteIn.to_come c.await_event.new.reader) _ _ c.args.most c.in_err-awaited.field-0.0 c.await_event.new.host marks all c.in_err-awaited.ensures.silence
    (subst (Appends (g.W.ByteOut.written c.args.writer.now) (g.W.ByteOut.written c.put_out.new.writer)) (ap (λ (v : HostView). v.out) is) c.in_ok-put_out.ensures.all)
    (subst (λ h. Silent h (g.R.ByteIn.to_come c.args.reader.now) (g.R.ByteIn.to_come c.await_event.new.reader) c.args.most c.in_err-awaited.field-0.0 c.await_event.new.host) (c.in_ok-put_out.ensures.taken ∙ ap (λ v. with_out v []) is) c.in_err-awaited.ensures.silent))

pub returns-in_err-put_out-clause-lost : goal.returns-in_err-put_out-clause-lost
returns-in_err-put_out-clause-lost g c =
    on_err c.from_residual.result
    (λ call is.
    let same = c.in_err-put_out.ensures.some_taken in
    lost_same c.args.host.now c.put_out.new.host c.requires.up (ap (λ (v : HostView). v.phase) same) (ap gone_down same))

pub returns-in_err-awaited-clause-lost : goal.returns-in_err-awaited-clause-lost
returns-in_err-awaited-clause-lost g c =
    on_err c.from_residual-in_err-awaited.result
    (λ call is.
    let same = c.in_err-awaited.ensures.silent.same in
    let first = c.in_ok-put_out.ensures.taken in
    lost_up c.args.host.now c.await_event.new.host c.requires.up (ap (λ (v : HostView). v.phase) same ∙ ap (λ (v : HostView). v.phase) first) (ap gone_down same ∙ ap (λ v. with_heard (gone_down v) c.await_event.new.host.heard) first))

pub returns-in_default-clause-stops : goal.returns-in_default-clause-stops
returns-in_default-clause-stops g c = λ call is marks all.
    let put = subst (Appends (g.W.ByteOut.written c.args.writer.now) (g.W.ByteOut.written c.put_out.new.writer)) (ap (λ (v : HostView). v.out) is) c.in_ok-put_out.ensures.all in
    let brought =
    subst (λ h. Brought h (g.R.ByteIn.to_come c.args.reader.now) (g.R.ByteIn.to_come c.await_event.new.reader) c.await_event.new.piece c.in_ok-awaited.awaited c.await_event.new.host)
    (c.in_ok-put_out.ensures.taken ∙ ap (λ v. with_out v []) is) c.in_ok-awaited.ensures.brought in
    (bad_first call _ _ _ _ c.await_event.new.piece c.args.most c.in_ok-awaited.awaited c.await_event.new.host put c.in_ok-awaited.ensures.within c.in_default.not-Opened marks brought).0

pub returns-in_default-clause-lost : goal.returns-in_default-clause-lost
returns-in_default-clause-lost g c = λ call is.
    let brought =
    subst (λ h. Brought h (g.R.ByteIn.to_come c.args.reader.now) (g.R.ByteIn.to_come c.await_event.new.reader) c.await_event.new.piece c.in_ok-awaited.awaited c.await_event.new.host)
    (c.in_ok-put_out.ensures.taken ∙ ap (λ v. with_out v []) is) c.in_ok-awaited.ensures.brought in
    inl (gone_first call _ _ c.await_event.new.piece c.in_ok-awaited.awaited c.await_event.new.host c.in_default.not-Opened brought
    ∙ ap (λ v. with_heard (gone_down v) c.await_event.new.host.heard) (sym is))

pub returns-in-None-clause-opens : goal.returns-in-None-clause-opens
returns-in-None-clause-opens g c = λ call is.
    let put = subst (Appends (g.W.ByteOut.written c.args.writer.now) (g.W.ByteOut.written c.put_out.new.writer)) (ap (λ (v : HostView). v.out) is) c.in_ok-put_out.ensures.all in
    let brought =
    subst (λ h. Brought h (g.R.ByteIn.to_come c.args.reader.now) (g.R.ByteIn.to_come c.await_event.new.reader) c.await_event.new.piece c.in_ok-awaited.awaited c.await_event.new.host)
    (c.in_ok-put_out.ensures.taken ∙ ap (λ v. with_out v []) is) c.in_ok-awaited.ensures.brought in
    opens_all joined call _ _ _ _ c.await_event.new.piece c.hear.result.consumed c.in_ok-awaited.awaited c.hear.result.event c.await_event.new.host c.hear.new.host put c.in-Opened.is brought
    c.in-None.is c.hear.ensures

pub returns-in-None-clause-reader_well : goal.returns-in-None-clause-reader_well
returns-in-None-clause-reader_well g c = λ no other well. c.in_ok-awaited.ensures.not_failed (λ e. cc e) (λ e. cc e) well

pub returns-in_default-event-clause-stops : goal.returns-in_default-event-clause-stops
returns-in_default-event-clause-stops g c = λ call is marks all.
    let put = subst (Appends (g.W.ByteOut.written c.args.writer.now) (g.W.ByteOut.written c.put_out.new.writer)) (ap (λ (v : HostView). v.out) is) c.in_ok-put_out.ensures.all in
    let brought =
    subst (λ h. Brought h (g.R.ByteIn.to_come c.args.reader.now) (g.R.ByteIn.to_come c.await_event.new.reader) c.await_event.new.piece c.in_ok-awaited.awaited c.await_event.new.host)
    (c.in_ok-put_out.ensures.taken ∙ ap (λ v. with_out v []) is) c.in_ok-awaited.ensures.brought in
    (bad_behind joined call _ _ _ _ c.await_event.new.piece c.args.most c.hear.result.consumed c.in_ok-awaited.awaited c.hear.result.event c.await_event.new.host c.hear.new.host put
    c.in_ok-awaited.ensures.within c.in-Opened.is marks brought c.in_default-event.not-None c.hear.ensures).0

pub returns-in_default-event-clause-lost : goal.returns-in_default-event-clause-lost
returns-in_default-event-clause-lost g c = λ call is.
    let brought =
    subst (λ h. Brought h (g.R.ByteIn.to_come c.args.reader.now) (g.R.ByteIn.to_come c.await_event.new.reader) c.await_event.new.piece c.in_ok-awaited.awaited c.await_event.new.host)
    (c.in_ok-put_out.ensures.taken ∙ ap (λ v. with_out v []) is) c.in_ok-awaited.ensures.brought in
    inl (gone_behind joined call _ _ c.await_event.new.piece _ c.hear.result.consumed c.in_ok-awaited.awaited c.hear.result.event c.await_event.new.host c.hear.new.host c.in-Opened.is brought
    c.in_default-event.not-None c.hear.ensures ∙ ap (λ v. with_heard (gone_down v) c.hear.new.host.heard) (sym is))

pub returns-in_default-event-clause-reader_well : goal.returns-in_default-event-clause-reader_well
returns-in_default-event-clause-reader_well g c = λ no other well. c.in_ok-awaited.ensures.not_failed (λ e. cc e) (λ e. cc e) well

pub returns-in_default-clause-reader_well : goal.returns-in_default-clause-reader_well
returns-in_default-clause-reader_well g c = λ no other well. c.in_ok-awaited.ensures.not_failed (λ e. cc e) (λ e. cc e) well
