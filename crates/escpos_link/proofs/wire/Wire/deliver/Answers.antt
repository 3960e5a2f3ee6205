use Rattle.std.proofs.Common.{refl, sym, subst}
use Rattle.escpos_link.specs.declared.event.Event.TheVariants as event
use Rattle.escpos_link.specs.EventTable.{IsRefused}
use Rattle.escpos_link.specs.Wire.{line_of}
use Rattle.escpos_link.proofs.Moving.{fewer_fed, some_fed}
use Rattle.escpos_link.proofs.wire.Wire.deliver.Goals as goal

pub returns-in-Memory-clause-refused : goal.returns-in-Memory-clause-refused
returns-in-Memory-clause-refused c = λ host.
    let e = c.feed_first-fed.ensures in
    subst (λ r. IsRefused (event.Deliver c.args.most) (line_of host c.args.self.now) r (line_of host c.feed_first-fed.new.self)) (sym c.out_of_memory.ensures)
    (record {
      reason = (refl, some_fed c.args.self.now.printer e.0 _ c.feed_first-fed.result.consumed c.feed_first-fed.result.stop c.in-Memory.is e.1);
      line = fewer_fed c.args.self.now c.feed_first-fed.new.self e.0 c.args.most c.feed_first-fed.result.consumed c.feed_first-fed.result.stop c.in-Memory.is e.1 e.2 host;
      receipt = refl;
    })
