-- What the entries that were read have of the receipt is taken, or there is nothing to take.
use Rattle.std.proofs.Common.{inl, inr, refl}
use Rattle.escpos_till_jobs.proofs.again.queue_again.Goals as goal

pub returns-in-Ok-content_again-clause-queues : goal.returns-in-Ok-content_again-clause-queues
returns-in-Ok-content_again-clause-queues g c =
    inr (
      c.in-Ok.entries.items,
      record { store = c.entries.new.self; line = c.args.around.now.line },
      record { was_faithful = c.entries.ensures.was_faithful; held = c.in-Ok.ensures.read; line = refl },
      inl (c.in-Ok-content_again.content, (rw c.deref.ensures.value at c.in-Ok-content_again.ensures.content.0), c.in-Ok-content_again.ensures.content.1, c.queue_receipt.ensures.queues),
    )

pub returns-in-Ok-clause-queues : goal.returns-in-Ok-clause-queues
returns-in-Ok-clause-queues g c =
    inr (
      c.in-Ok.entries.items,
      record { store = c.entries.new.self; line = c.args.around.now.line },
      record { was_faithful = c.entries.ensures.was_faithful; held = c.in-Ok.ensures.read; line = refl },
      inr (c.in-Err-content_again.why, (rw c.deref.ensures.value at c.in-Err-content_again.ensures.none), c.refuse_again.ensures.refuses, refl, refl),
    )
