use Rattle.std.proofs.Common.{◌≡◌, ◌∙◌, inl, inr, refl, sym, ap, subst, rules}
use Rattle.escpos_host.specs.declared.send.SendFault.TheVariants as fault
use Rattle.escpos_link.specs.Wire.{given_up, with_bytes}
use Rattle.escpos_till_model.specs.declared.event.Happening.TheVariants as event
use Rattle.escpos_till_model.specs.Instead.{LeftByMemory, Talks}
use Rattle.escpos_till_model.specs.World.{Puts, running}
use Rattle.escpos_till_model.proofs.TillWorlds.{breaks_nothing, not_asked_in, puts_in}
use Rattle.escpos_till_model.proofs.parts.TillParts.put.Goals as goal

pub returns-then-not-talks-clause-refused : goal.returns-then-not-talks-clause-refused
returns-then-not-talks-clause-refused c =
    let none : Talks c.in-Some.machine.stage → ⊥ = search rules in
    not_asked_in c.args.self.now _ c.in-Some.machine (event.Put c.args.most) c.self.view_is c.in-Some.is none

pub returns-then-is_err-clause-refused : goal.returns-then-is_err-clause-refused
returns-then-is_err-clause-refused c =
    let (talk, talks) : Talks c.in-Some.machine.stage = search rules in
    let stays : c.put.new.self ≡ c.self.inside.wire = search rules in
    let wire : c.end.new.wire ≡ given_up c.self.inside.wire = c.end.ensures.wire ∙ ap given_up stays in
    subst (λ x. LeftByMemory (event.Put c.args.most) c.args.self.now (running c.end.new.machine c.self.inside.kept.items x c.self.inside.told.items)) (sym wire)
    (inr (inr (inl (
      c.args.most,
      refl,
      breaks_nothing c.args.self.now _ c.in-Some.machine c.taken_out.new.machine c.end.new.machine talk c.args.most fault.WriteFault c.self.view_is c.in-Some.is talks c.in-Ok.ensures.taken c.end.ensures.ended c.end.ensures.sound,
    ))))

pub returns-clause-happened : goal.returns-clause-happened
returns-clause-happened c =
    let (talk, talks) : Talks c.in-Some.machine.stage = search rules in
    let put_so : c.put.new.self ≡ with_bytes c.self.inside.wire c.deref.result.now = search rules in
    let wire = put_so ∙ ap (λ bytes. with_bytes c.self.inside.wire bytes) (c.deref.ensures.value ∙ c.in-Ok.ensures.bytes) in
    subst (λ x. Puts c.args.self.now c.args.most (running c.taken_out.new.machine c.self.inside.kept.items x c.self.inside.told.items)) (sym wire)
    (puts_in c.args.self.now _ c.in-Some.machine c.taken_out.new.machine talk c.args.most c.self.view_is c.in-Some.is talks c.in-Ok.ensures.taken c.taken_out.ensures.sound)
