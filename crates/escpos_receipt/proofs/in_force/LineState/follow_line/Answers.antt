use Rattle.std.proofs.Common.{sym}
use Rattle.escpos_receipt.proofs.LineStates.{text_then_feed}
use Rattle.escpos_receipt.proofs.in_force.LineState.follow_line.Goals as goal

pub returns : goal.returns
returns c = sym (text_then_feed c.args.self.now c.args.text.now c.in_order.ensures)
