use Rattle.std.proofs.Common.{[], refl, subst, take}
use Rattle.escpos_printer.specs.Feeds.{PrinterView, Took}
use Rattle.escpos_printer.proofs.Taking.{run_taken}
use Rattle.escpos_printer.proofs.printer.Printer.feed_dots.Goals as goal

pub invariant_of-self : goal.invariant_of-self
invariant_of-self c = (
  (c.push_dots.ensures.stream c.self.inside.decoder [] (record { commands = tt; whole = refl; rest_is = c.self.invariant.0 })).rest_is,
  c.self.invariant.1,
  c.self.invariant.2,
)

pub returns-clause-taken : goal.returns-clause-taken
returns-clause-taken c =
    subst
    (λ (v : PrinterView). Took v (take c.push_dots.result c.args.bytes.now) []
    (record { sheet = c.self.inside.page.sheet; half = c.push_dots.new.self; waiting = c.self.inside.waiting.items; condition = c.self.inside.condition; automatic = c.self.inside.reporting }))
    c.self.view_is
    (run_taken _ (take c.push_dots.result c.args.bytes.now) c.push_dots.new.self c.self.invariant.0 c.self.invariant.2 c.push_dots.ensures.stream)
