use Rattle.std.proofs.Common.{◌≡◌, ◌∙◌, inl, inr, refl, sym, ap, subst, rules}
use Rattle.std.specs.Prelude.{length, min, take}
use Rattle.escpos_link.specs.Wire.{given_up, with_bytes}
use Rattle.escpos_till_model.specs.declared.event.Happening.TheVariants as event
use Rattle.escpos_till_model.specs.Instead.{LeftByMemory, Talks}
use Rattle.escpos_till_model.specs.World.{Breaks, running}
use Rattle.escpos_till_model.proofs.TillWorlds.{breaks_in, breaks_nothing, not_asked_in, taken_twice}
use Rattle.escpos_till_model.proofs.parts.TillParts.break_off.Goals as goal

pub returns-then-not-talks-clause-refused : goal.returns-then-not-talks-clause-refused
returns-then-not-talks-clause-refused c =
    let none : Talks c.in-Some.machine.stage → ⊥ = search rules in
    not_asked_in c.args.self.now _ c.in-Some.machine (event.Break c.args.most c.args.fewer c.args.why) c.self.view_is c.in-Some.is none

pub returns-then-is_err-clause-refused : goal.returns-then-is_err-clause-refused
returns-then-is_err-clause-refused c =
    let (talk, talks) : Talks c.in-Some.machine.stage = search rules in
    let stays : c.put.new.self ≡ c.self.inside.wire = search rules in
    let wire : c.end.new.wire ≡ given_up c.self.inside.wire = c.end.ensures.wire ∙ ap given_up stays in
    subst (λ x. LeftByMemory (event.Break c.args.most c.args.fewer c.args.why) c.args.self.now (running c.end.new.machine c.self.inside.kept.items x c.self.inside.told.items)) (sym wire)
    (inr (inr (inr (inl (
      c.args.most,
      c.args.fewer,
      c.args.why,
      refl,
      breaks_nothing c.args.self.now _ c.in-Some.machine c.taken_out.new.machine c.end.new.machine talk c.args.most c.args.why c.self.view_is c.in-Some.is talks c.in-Ok.ensures.taken c.end.ensures.ended c.end.ensures.sound,
    )))))

pub returns-clause-happened : goal.returns-clause-happened
returns-clause-happened c =
    let (talk, talks) : Talks c.in-Some.machine.stage = search rules in
    let put_so : c.put.new.self ≡ with_bytes c.self.inside.wire (take c.min-count.result c.deref.result.now) = search rules in
    let count : c.min-count.result ≡ min c.args.fewer (length c.in-Ok.out.items) = search rules in
    let bytes = ap (take c.min-count.result) c.deref.ensures.value ∙ taken_twice c.args.fewer c.args.most c.min-count.result c.in-Some.machine.host.out c.in-Ok.out.items c.in-Ok.ensures.bytes count in
    let wire = c.end-2.ensures.wire ∙ ap given_up (put_so ∙ ap (λ x. with_bytes c.self.inside.wire x) bytes) in
    subst (λ x. Breaks c.args.self.now c.args.most c.args.fewer c.args.why (running c.end-2.new.machine c.self.inside.kept.items x c.self.inside.told.items)) (sym wire)
    (breaks_in c.args.self.now _ c.in-Some.machine c.taken_out.new.machine c.end-2.new.machine talk c.args.most c.args.fewer c.args.why c.self.view_is c.in-Some.is talks c.in-Ok.ensures.taken c.end-2.ensures.ended
    c.end-2.ensures.sound)
