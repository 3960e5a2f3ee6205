use Rattle.std.proofs.Common.{◌≡◌, ◌∙◌, ap, subst, rules}
use Rattle.escpos_link.specs.Wire.{given_up}
use Rattle.escpos_till.specs.Machine.{Came}
use Rattle.escpos_till_model.specs.declared.event.Happening.TheVariants as event
use Rattle.escpos_till_model.specs.Instead.{Talks}
use Rattle.escpos_till.specs.Machine.{IsLinked as Linked}
use Rattle.escpos_till_model.proofs.TillWorlds.{hears_in, not_asked_in}
use Rattle.escpos_till_model.proofs.parts.TillParts.hear.Goals as goal

pub returns-then-not-talks-clause-refused : goal.returns-then-not-talks-clause-refused
returns-then-not-talks-clause-refused c =
    let none : Talks c.in-Some.machine.stage → ⊥ = search rules in
    not_asked_in c.args.self.now _ c.in-Some.machine (event.Hear c.args.most) c.self.view_is c.in-Some.is none

pub returns-clause-happened : goal.returns-clause-happened
returns-clause-happened c =
    let after = c.came-consumed.new.self in
    let count = c.came-consumed.result in
    let (talk, talks) : Talks c.in-Some.machine.stage = search rules in
    let came = subst (λ bytes. Came c.in-Some.machine.stage bytes count c.in-Some.machine after) c.front.ensures c.came-consumed.ensures.came in
    let stays : Linked after.stage → c.hang_up_if.new.wire ≡ c.heard.new.self = λ l. search rules in
    let gone : (Linked after.stage → ⊥) → c.hang_up_if.new.wire ≡ given_up c.heard.new.self = λ n. search rules in
    hears_in c.args.self.now _ c.in-Some.machine after talk c.args.most count c.hang_up_if.new.wire c.self.view_is c.requires c.in-Some.is talks came c.is_sound.ensures.host
    (λ l. stays l ∙ c.heard.ensures) (λ n. gone n ∙ ap given_up c.heard.ensures)
