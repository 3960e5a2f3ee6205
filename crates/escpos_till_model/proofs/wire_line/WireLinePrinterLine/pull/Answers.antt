use Rattle.std.proofs.Common.{◌∙◌, ap}
use Rattle.escpos_till_model.proofs.WireLines.{none_on}
use Rattle.escpos_till_model.proofs.wire_line.WireLinePrinterLine.pull.Goals as goal

pub invariant_of-self : goal.invariant_of-self
invariant_of-self c = λ not. ap (λ w. w.live) c.heard.ensures ∙ none_on c.self.inside.wire c.print.new.wire c.print.ensures (c.self.invariant not)
