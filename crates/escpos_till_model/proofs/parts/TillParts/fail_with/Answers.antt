use Rattle.std.proofs.Common.{◌≡◌, ◌++◌, ◌∷◌, [], sym, subst, rules}
use Rattle.escpos_till.specs.Machine.{Unsure}
use Rattle.escpos_till_model.specs.declared.event.Happening.TheVariants as event
use Rattle.escpos_till_model.specs.World.{Stores, running, with_entry}
use Rattle.escpos_till_model.proofs.TillWorlds.{fails_in, unwanted_in}
use Rattle.escpos_till_model.proofs.parts.TillParts.fail_with.Goals as goal

pub returns-in-Err-clause-refused : goal.returns-in-Err-clause-refused
returns-in-Err-clause-refused c =
    unwanted_in c.in-Err.why c.args.self.now _ c.in-Some.machine (event.FailWith c.args.why) c.self.view_is c.in-Some.is (λ is. is) c.in-Err.ensures.refused

pub returns-clause-happened : goal.returns-clause-happened
returns-clause-happened c =
    let e = c.in-Ok.entry in
    let (next, is) = c.in-Ok.ensures.entry in
    let items : c.push.new.self.items ≡ c.self.inside.kept.items ++ e ∷ [] = search rules in
    subst (λ es. Stores (λ m after. Unsure m.stage c.args.why m after) with_entry c.args.self.now (running c.fail.new.machine es c.fail.new.wire c.self.inside.told.items)) (sym items)
    (fails_in with_entry c.args.self.now _ c.args.why c.in-Some.machine c.fail.new.machine c.fail.new.wire e next c.self.view_is c.requires c.in-Some.is is c.fail.ensures.unsure c.fail.ensures.sound
    c.fail.ensures.linked c.fail.ensures.no_link)
