-- Each task is done as it says.
use Rattle.std.proofs.Common.{sym, ◌∙◌, ap, subst, inl, inr, refl, Err}
use Rattle.escpos_till_jobs.specs.Outputs.{output_of}
use Rattle.escpos_till_jobs.specs.Performing.{OfCancel, OfDeliver, OfList, OfQueue, OfQueueAgain, OfQueueRaw, OfRenew}
use Rattle.escpos_till_jobs.proofs.RawTasks.{refuses_raw}
use Rattle.escpos_till_jobs.proofs.Tasks.{refuses_for}
use Rattle.escpos_till_jobs.proofs.perform.perform_till.Goals as goal

pub returns-in-Ok-clause-queue : goal.returns-in-Ok-clause-queue
returns-in-Ok-clause-queue g c =
    subst (OfQueue _) (sym c.in-Queue.is)
    (inr (c.in-Ok.content, record { text = c.in-Ok.ensures.text; receipt = c.in-Ok.ensures.receipt; described = c.in-Ok.ensures.described }, _, c.do_at.result.0, c.do_at.ensures.does))

pub returns-in-Err-clause-queue : goal.returns-in-Err-clause-queue
returns-in-Err-clause-queue g c =
    subst (OfQueue _) (sym c.in-Queue.is)
    (inl (
      c.in-Err.fault,
      refl,
      refuses_for c.in-Err.fault c.in-Queue.options _ _ (output_of (g.W.ByteOut.written c.args.output.now) (g.W.ByteOut.failed c.args.output.now))
          (output_of (g.W.ByteOut.written c.refuse_input.new.output) (g.W.ByteOut.failed c.refuse_input.new.output)) _ (λ why same. c.read_content.ensures.refused why (c.in-Err.is ∙ ap Err same))
          (λ same. c.read_content.ensures.too_long (c.in-Err.is ∙ ap Err same)) (λ same. c.read_content.ensures.device (c.in-Err.is ∙ ap Err same)) (λ same. c.read_content.ensures.bytes (c.in-Err.is ∙ ap Err same))
          c.refuse_input.ensures.too_long c.refuse_input.ensures.refused c.refuse_input.ensures.memory
          (λ same. ((c.refuse_input.ensures.device same).0, ap (λ o. output_of (g.W.ByteOut.written o) (g.W.ByteOut.failed o)) (c.refuse_input.ensures.device same).1)),
    ))

pub returns-in-Err-read_raw-clause-queue_raw : goal.returns-in-Err-read_raw-clause-queue_raw
returns-in-Err-read_raw-clause-queue_raw g c =
    subst (OfQueueRaw _) (sym c.in-QueueRaw.is)
    (inl (
      c.in-Err-read_raw.fault,
      refl,
      refuses_raw c.in-Err-read_raw.fault c.in-QueueRaw.width _ _ (output_of (g.W.ByteOut.written c.args.output.now) (g.W.ByteOut.failed c.args.output.now))
          (output_of (g.W.ByteOut.written c.refuse_raw.new.output) (g.W.ByteOut.failed c.refuse_raw.new.output)) _ (λ why same. c.read_raw.ensures.refused why (c.in-Err-read_raw.is ∙ ap Err same))
          (λ same. c.read_raw.ensures.too_long (c.in-Err-read_raw.is ∙ ap Err same)) (λ same. c.read_raw.ensures.device (c.in-Err-read_raw.is ∙ ap Err same))
          (λ same. c.read_raw.ensures.as_they_are (c.in-Err-read_raw.is ∙ ap Err same)) c.refuse_raw.ensures.too_long c.refuse_raw.ensures.refused c.refuse_raw.ensures.memory
          (λ same. ((c.refuse_raw.ensures.device same).0, ap (λ o. output_of (g.W.ByteOut.written o) (g.W.ByteOut.failed o)) (c.refuse_raw.ensures.device same).1)),
    ))

pub returns-in-QueueAgain-clause-queue_again : goal.returns-in-QueueAgain-clause-queue_again
returns-in-QueueAgain-clause-queue_again g c = subst (OfQueueAgain _) (sym c.in-QueueAgain.is) (_, c.do_at-in-QueueAgain.result.0, c.do_at-in-QueueAgain.ensures.does)

pub returns-in-Deliver-clause-deliver : goal.returns-in-Deliver-clause-deliver
returns-in-Deliver-clause-deliver g c = subst (OfDeliver _) (sym c.in-Deliver.is) c.deliver_at.ensures.does

pub returns-in-Cancel-clause-cancel : goal.returns-in-Cancel-clause-cancel
returns-in-Cancel-clause-cancel g c = subst (OfCancel _) (sym c.in-Cancel.is) (_, c.do_at-in-Cancel.result.0, c.do_at-in-Cancel.ensures.does)

pub returns-in-List-clause-list : goal.returns-in-List-clause-list
returns-in-List-clause-list g c = subst (OfList _) (sym c.in-List.is) c.list_at.ensures.lists

pub returns-in-Renew-clause-renew : goal.returns-in-Renew-clause-renew
returns-in-Renew-clause-renew g c = subst (OfRenew _) (sym c.in-Renew.is) c.renew_ledger.ensures.renews
