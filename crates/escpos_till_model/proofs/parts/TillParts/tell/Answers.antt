use Rattle.std.proofs.Common.{◌≡◌, ◌++◌, ◌∷◌, [], sym, subst, rules}
use Rattle.escpos_till_model.specs.declared.event.Happening.TheVariants as event
use Rattle.escpos_till_model.specs.World.{Tells, running}
use Rattle.escpos_till_model.proofs.TillWorlds.{not_asked_in, tells_in}
use Rattle.escpos_till_model.proofs.parts.TillParts.tell.Goals as goal

pub returns-in_default-note_of-clause-refused : goal.returns-in_default-note_of-clause-refused
returns-in_default-note_of-clause-refused c =
    not_asked_in c.args.self.now _ c.in-Some.machine event.Tell c.self.view_is c.in-Some.is (λ is. c.in_default-note_of.ensures is.0 is.1)

pub returns-clause-happened : goal.returns-clause-happened
returns-clause-happened c =
    let n = c.in-Some-note_of.note in
    let items : c.push.new.self.items ≡ c.self.inside.told.items ++ n ∷ [] = search rules in
    subst (λ ns. Tells c.args.self.now (running c.told.new.self c.self.inside.kept.items c.self.inside.wire ns)) (sym items)
    (tells_in c.args.self.now _ c.in-Some.machine c.told.new.self n c.self.view_is c.in-Some.is c.in-Some-note_of.ensures c.told.ensures c.is_sound.ensures.host)
