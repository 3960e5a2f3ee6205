use Rattle.std.proofs.Common.{subst, sym, ◌∙◌}
use Rattle.escpos_printer.specs.Blocks.{MayWait}
use Rattle.escpos_printer.proofs.Changes.{may_change}
use Rattle.escpos_printer.proofs.printer.Printer.set_condition.Goals as goal

pub invariant_of-self : goal.invariant_of-self
invariant_of-self c = (
  c.self.invariant.0,
  c.put_change.ensures.capacity ∙ c.self.invariant.1,
  subst MayWait (sym c.put_change.ensures.items) (may_change c.self.inside.reporting c.self.inside.condition c.args.condition c.self.inside.waiting.items c.self.invariant.2),
)
