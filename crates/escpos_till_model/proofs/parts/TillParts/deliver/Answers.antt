use Rattle.std.proofs.Common.{◌≡◌, None, Some, rules}
use Rattle.escpos_till.specs.Copy.{IsCopyText}
use Rattle.escpos_till_model.proofs.TillWorlds.{copied}
use Rattle.escpos_till_model.proofs.parts.TillParts.deliver.Goals as goal

pub returns-in-None-clause-happened : goal.returns-in-None-clause-happened
returns-in-None-clause-happened c =
    let same : c.args.copy.now ≡ None = search rules in
    copied _ c.args.openings c.args.most c.args.copy.now c.args.further None c.args.self.now c.deliver_as.new.self same tt c.deliver_as.ensures.happened

pub returns-in-Some-new-clause-happened : goal.returns-in-Some-new-clause-happened
returns-in-Some-new-clause-happened c =
    let text = c.in-Some-new.text in
    let same : c.args.copy.now ≡ Some text = search rules in
    let is : IsCopyText text = search rules in
    copied _ c.args.openings c.args.most c.args.copy.now c.args.further (Some text) c.args.self.now c.deliver_as-in-Some-new.new.self same is c.deliver_as-in-Some-new.ensures.happened
