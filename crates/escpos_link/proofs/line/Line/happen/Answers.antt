use Rattle.escpos_link.proofs.AtTheEnd.{done_seen, happened_seen, refused_seen}
use Rattle.escpos_link.proofs.line.Line.happen.Goals as goal

pub returns-in-Deliver-clause-happened : goal.returns-in-Deliver-clause-happened
returns-in-Deliver-clause-happened c =
    happened_seen _ _ c.self.inside.host c.self.inside.wire c.deliver.new.self c.args.self.now c.deliver.result c.in-Deliver.is c.self.view_is c.deliver.ensures.happened

pub returns-in-Deliver-clause-refused : goal.returns-in-Deliver-clause-refused
returns-in-Deliver-clause-refused c =
    refused_seen _ _ c.self.inside.host c.self.inside.wire c.deliver.new.self c.args.self.now c.deliver.result c.in-Deliver.is c.self.view_is c.deliver.ensures.refused

pub returns-in-HandOver-clause-happened : goal.returns-in-HandOver-clause-happened
returns-in-HandOver-clause-happened c =
    happened_seen _ _ c.self-in-HandOver.inside.host c.self-in-HandOver.inside.wire c.hand_over.new.self c.args.self.now c.hand_over.result c.in-HandOver.is c.self-in-HandOver.view_is
    c.hand_over.ensures.happened

pub returns-in-HandOver-clause-refused : goal.returns-in-HandOver-clause-refused
returns-in-HandOver-clause-refused c =
    refused_seen _ _ c.self-in-HandOver.inside.host c.self-in-HandOver.inside.wire c.hand_over.new.self c.args.self.now c.hand_over.result c.in-HandOver.is c.self-in-HandOver.view_is
    c.hand_over.ensures.refused

pub returns-in-SetCondition-clause-happened : goal.returns-in-SetCondition-clause-happened
returns-in-SetCondition-clause-happened c =
    done_seen _ _ c.self-in-SetCondition.inside.host c.self-in-SetCondition.inside.wire c.set_condition.new.self c.args.self.now c.in-SetCondition.is c.self-in-SetCondition.view_is
    c.set_condition.ensures
