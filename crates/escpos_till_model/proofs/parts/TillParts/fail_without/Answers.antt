use Rattle.std.proofs.Common.{rules}
use Rattle.escpos_till_model.specs.declared.event.Happening.TheVariants as event
use Rattle.escpos_till_model.specs.Instead.{KeepsEntry}
use Rattle.escpos_till_model.specs.World.{without_entry}
use Rattle.escpos_till_model.proofs.TillWorlds.{fails_in, not_asked_in}
use Rattle.escpos_till_model.proofs.parts.TillParts.fail_without.Goals as goal

pub returns-then-not-has_entry-clause-refused : goal.returns-then-not-has_entry-clause-refused
returns-then-not-has_entry-clause-refused c =
    let none : KeepsEntry c.in-Some.machine.stage → ⊥ = search rules in
    not_asked_in c.args.self.now _ c.in-Some.machine (event.FailWithout c.args.why) c.self.view_is c.in-Some.is none

pub returns-clause-happened : goal.returns-clause-happened
returns-clause-happened c =
    let (e, next, is) : KeepsEntry c.in-Some.machine.stage = search rules in
    fails_in without_entry c.args.self.now _ c.args.why c.in-Some.machine c.fail.new.machine c.fail.new.wire e next c.self.view_is c.requires c.in-Some.is is c.fail.ensures.unsure c.fail.ensures.sound
    c.fail.ensures.linked c.fail.ensures.no_link
