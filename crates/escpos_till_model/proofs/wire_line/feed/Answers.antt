use Rattle.escpos_till_model.proofs.WireLines.{fed_so}
use Rattle.escpos_till_model.proofs.wire_line.feed.Goals as goal

pub returns : goal.returns
returns c = fed_so _ c.args.wire.now c.deliver.new.self c.deliver.result c.deliver.ensures.happened c.deliver.ensures.refused
