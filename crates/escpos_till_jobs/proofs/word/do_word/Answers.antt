-- Each word does what it says.
use Rattle.std.proofs.Common.{sym, subst}
use Rattle.escpos_till_jobs.specs.Outputs.{output_of}
use Rattle.escpos_till_jobs.specs.Words.{WordDoes}
use Rattle.escpos_till_jobs.proofs.word.do_word.Goals as goal

pub returns-in-Queue-clause-does : goal.returns-in-Queue-clause-does
returns-in-Queue-clause-does g c =
    subst (λ w. WordDoes g.S.Store.faithful g.S.Store.holds g.S.Store.leaves g.S.Store.says g.L.PrinterLine.did w c.args.machine.now c.args.around.now
    (output_of (g.W.ByteOut.written c.args.output.now) (g.W.ByteOut.failed c.args.output.now)) c.queue_receipt.new.machine c.queue_receipt.new.around
    (output_of (g.W.ByteOut.written c.queue_receipt.new.output) (g.W.ByteOut.failed c.queue_receipt.new.output)) c.queue_receipt.result) (sym c.in-Queue.is) c.queue_receipt.ensures.queues

pub returns-in-Again-clause-does : goal.returns-in-Again-clause-does
returns-in-Again-clause-does g c =
    subst (λ w. WordDoes g.S.Store.faithful g.S.Store.holds g.S.Store.leaves g.S.Store.says g.L.PrinterLine.did w c.args.machine.now c.args.around.now
    (output_of (g.W.ByteOut.written c.args.output.now) (g.W.ByteOut.failed c.args.output.now)) c.queue_again.new.machine c.queue_again.new.around
    (output_of (g.W.ByteOut.written c.queue_again.new.output) (g.W.ByteOut.failed c.queue_again.new.output)) c.queue_again.result) (sym c.in-Again.is) c.queue_again.ensures.queues

pub returns-in-Deliver-clause-does : goal.returns-in-Deliver-clause-does
returns-in-Deliver-clause-does g c =
    subst (λ w. WordDoes g.S.Store.faithful g.S.Store.holds g.S.Store.leaves g.S.Store.says g.L.PrinterLine.did w c.args.machine.now c.args.around.now
    (output_of (g.W.ByteOut.written c.args.output.now) (g.W.ByteOut.failed c.args.output.now)) c.deliver_waiting.new.machine c.deliver_waiting.new.around
    (output_of (g.W.ByteOut.written c.deliver_waiting.new.output) (g.W.ByteOut.failed c.deliver_waiting.new.output)) c.deliver_waiting.result) (sym c.in-Deliver.is) c.deliver_waiting.ensures.delivers

pub returns-in-Cancel-clause-does : goal.returns-in-Cancel-clause-does
returns-in-Cancel-clause-does g c =
    subst (λ w. WordDoes g.S.Store.faithful g.S.Store.holds g.S.Store.leaves g.S.Store.says g.L.PrinterLine.did w c.args.machine.now c.args.around.now
    (output_of (g.W.ByteOut.written c.args.output.now) (g.W.ByteOut.failed c.args.output.now)) c.cancel_receipt.new.machine c.cancel_receipt.new.around
    (output_of (g.W.ByteOut.written c.cancel_receipt.new.output) (g.W.ByteOut.failed c.cancel_receipt.new.output)) c.cancel_receipt.result) (sym c.in-Cancel.is) c.cancel_receipt.ensures.cancels

pub returns-in-List-clause-does : goal.returns-in-List-clause-does
returns-in-List-clause-does g c =
    subst (λ w. WordDoes g.S.Store.faithful g.S.Store.holds g.S.Store.leaves g.S.Store.says g.L.PrinterLine.did w c.args.machine.now c.args.around.now
    (output_of (g.W.ByteOut.written c.args.output.now) (g.W.ByteOut.failed c.args.output.now)) c.list.new.machine c.list.new.around
    (output_of (g.W.ByteOut.written c.list.new.output) (g.W.ByteOut.failed c.list.new.output)) c.list.result) (sym c.in-List.is) c.list.ensures.lists
