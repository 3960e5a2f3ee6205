use Rattle.std.proofs.Common.{sym, ◌∙◌, ap}
use Rattle.escpos_receipt.proofs.LineStates.{text_line}
use Rattle.escpos_receipt.proofs.in_force.LineState.follow_text.Goals as goal

pub returns : goal.returns
returns c = ap (λ b. record c.args.self.now { in_line = b }) c.leaves_text-self.ensures ∙ sym (text_line c.args.self.now c.args.text.now c.in_order.ensures)
