use Rattle.escpos_till_model.proofs.WireLines.{handed_so}
use Rattle.escpos_till_model.proofs.wire_line.hand_over.Goals as goal

pub returns : goal.returns
returns c = handed_so c.args.wire.now c.hand_over.new.self c.hand_over.result c.hand_over.ensures.happened c.hand_over.ensures.refused
