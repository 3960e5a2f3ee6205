use Rattle.std.proofs.Common.{◌≡◌, rules}
use Rattle.escpos_link.specs.Wire.{given_up}
use Rattle.escpos_till_model.specs.Instead.{Talks}
use Rattle.escpos_till_model.proofs.TillWorlds.{ends_in}
use Rattle.escpos_till_model.proofs.parts.TillParts.end.Goals as goal

pub returns-clause-happened : goal.returns-clause-happened
returns-clause-happened c =
    let gone : Talks c.in-Some.machine.stage → c.hang_up_if.new.wire ≡ given_up c.self.inside.wire = λ t. search rules in
    let stays : (Talks c.in-Some.machine.stage → ⊥) → c.hang_up_if.new.wire ≡ c.self.inside.wire = λ n. search rules in
    ends_in c.args.self.now _ c.in-Some.machine c.link_ended.new.self c.hang_up_if.new.wire c.args.why c.self.view_is c.requires c.in-Some.is c.link_ended.ensures c.is_sound.ensures.host
    (λ talk is. gone (talk, is)) (λ none. stays (λ t. none t.0 t.1))
