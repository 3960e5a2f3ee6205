use Rattle.std.proofs.Common.{◌≡◌, ◌≢◌, ℕ, inr, ◌++◌, ◌∷◌, [], refl, sym, subst, rules}
use Rattle.escpos_link.specs.Wire.{given_up, with_link}
use Rattle.escpos_till.specs.declared.entry.Entry.TheVariants as entry
use Rattle.escpos_till.specs.Machine.{IsLinked as Linked, Kept}
use Rattle.escpos_till_model.specs.declared.event.Happening.TheVariants as event
use Rattle.escpos_till_model.specs.Instead.{LeftByMemory, Talks}
use Rattle.escpos_till_model.specs.World.{Stores, running, with_entry}
use Rattle.escpos_till_model.proofs.TillWorlds.{idled_in, keeps_in, tried_in, unwanted_in}
use Rattle.escpos_till_model.proofs.parts.TillParts.keep.Goals as goal

pub returns-in-Err-clause-refused : goal.returns-in-Err-clause-refused
returns-in-Err-clause-refused c = unwanted_in c.in-Err.why c.args.self.now _ c.in-Some.machine event.Keep c.self.view_is c.in-Some.is (λ is. is) c.in-Err.ensures.refused

pub returns-then-not-opens-clause-happened : goal.returns-then-not-opens-clause-happened
returns-then-not-opens-clause-happened c =
    let e = c.in-Ok.entry in
    let (next, is) = c.in-Ok.ensures.entry in
    let items : c.push.new.self.items ≡ c.self.inside.kept.items ++ e ∷ [] = search rules in
    let other : (Linked c.in-Some.machine.stage → ⊥) → (number limit : ℕ) → e ≢ entry.Tried number limit = search rules in
    subst (λ es. Stores (λ m after. Kept m.stage m after) with_entry c.args.self.now (running c.keep.new.machine es c.keep.new.wire c.self.inside.told.items)) (sym items)
    (keeps_in c.args.self.now _ c.in-Some.machine c.keep.new.machine c.keep.new.wire e next c.self.view_is c.requires c.in-Some.is is other c.keep.ensures.kept c.keep.ensures.sound c.keep.ensures.ends
    c.keep.ensures.stays c.keep.ensures.no_link)

pub returns-in-Ok-true-clause-happened : goal.returns-in-Ok-true-clause-happened
returns-in-Ok-true-clause-happened c =
    let e = c.in-Ok.entry in
    let after = c.keep_try.new.machine in
    let (next, is) = c.in-Ok.ensures.entry in
    let items : c.push.new.self.items ≡ c.self.inside.kept.items ++ e ∷ [] = search rules in
    let (free, (number, limit, tried)) : (Linked c.in-Some.machine.stage → ⊥) × ((number : ℕ) × (limit : ℕ) × (e ≡ entry.Tried number limit)) = search rules in
    let kept : Kept c.in-Some.machine.stage c.in-Some.machine after = search rules in
    let (talk, talks) : Talks after.stage = search rules in
    let wire : c.keep_try.new.wire ≡ with_link c.self.inside.wire = search rules in
    subst (λ es. Stores (λ m x. Kept m.stage m x) with_entry c.args.self.now (running after es c.keep_try.new.wire c.self.inside.told.items)) (sym items)
    (subst (λ x. Stores (λ m y. Kept m.stage m y) with_entry c.args.self.now (running after (c.self.inside.kept.items ++ e ∷ []) x c.self.inside.told.items)) (sym wire)
    (tried_in c.args.self.now _ c.in-Some.machine after e next number limit c.self.view_is c.requires c.in-Some.is is free tried kept c.keep_try.ensures.sound talk talks))

pub returns-in-Ok-false-clause-refused : goal.returns-in-Ok-false-clause-refused
returns-in-Ok-false-clause-refused c =
    let e = c.in-Ok.entry in
    let after = c.keep_try.new.machine in
    let (next, is) = c.in-Ok.ensures.entry in
    let items : c.push.new.self.items ≡ c.self.inside.kept.items ++ e ∷ [] = search rules in
    let (free, (number, limit, tried)) : (Linked c.in-Some.machine.stage → ⊥) × ((number : ℕ) × (limit : ℕ) × (e ≡ entry.Tried number limit)) = search rules in
    let kept : Kept c.in-Some.machine.stage c.in-Some.machine after = search rules in
    let silent : Talks after.stage → ⊥ = search rules in
    let wire : c.keep_try.new.wire ≡ given_up (with_link c.self.inside.wire) = search rules in
    subst (λ es. LeftByMemory event.Keep c.args.self.now (running after es c.keep_try.new.wire c.self.inside.told.items)) (sym items)
    (subst (λ x. LeftByMemory event.Keep c.args.self.now (running after (c.self.inside.kept.items ++ e ∷ []) x c.self.inside.told.items)) (sym wire)
    (inr (inr (inr (inr (
      refl,
      idled_in c.args.self.now _ c.in-Some.machine after e next number limit c.self.view_is c.requires c.in-Some.is is free tried kept c.keep_try.ensures.sound (λ talk talks. silent (talk, talks)),
    ))))))
