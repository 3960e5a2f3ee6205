use Rattle.escpos_till_model.proofs.TillWorlds.{crash_by}
use Rattle.escpos_till_model.proofs.parts.TillParts.crash.Goals as goal

pub returns : goal.returns
returns c = record {
  crashed =
      crash_by c.has_link-linked.result c.args.self.now _ c.hang_up_if.new.wire c.self.view_is c.requires c.has_link-linked.ensures.linked c.has_link-linked.ensures.none c.hang_up_if.ensures.gone
      c.hang_up_if.ensures.stays;
}
