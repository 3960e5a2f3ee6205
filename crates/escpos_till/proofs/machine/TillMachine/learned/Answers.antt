-- What a machine learns that was to keep an entry.
use Rattle.std.proofs.Common.{◌≡◌, ◌∙◌, ap, sym, subst}
use Rattle.std.specs.Prelude.{IfErr, OnOk}
use Rattle.escpos_till.specs.declared.stage.Stage.TheVariants as stage
use Rattle.escpos_till.specs.Learning.{FailsToLearn, IfKeeping, Learned, LearnsAll}
use Rattle.escpos_till.specs.Machine.{MachineView, at}
use Rattle.escpos_till.proofs.LearningLemmas.{either_way}
use Rattle.escpos_till.proofs.machine.TillMachine.learned.Goals as goal

pub returns-in-Keeping-clause-learned : goal.returns-in-Keeping-clause-learned
returns-in-Keeping-clause-learned c =
    let is : c.args.self.now.stage ≡ stage.Keeping c.in-Keeping.entry c.in-Keeping.then = ap (λ m. m.stage) (sym c.self.view_is) ∙ sym c.replace.ensures.value ∙ c.in-Keeping.is in
    let all = subst (λ (m : MachineView). OnOk c.learn.result (LearnsAll c.in-Keeping.then c.args.others.now (at m stage.AtRest) c.learn.new.self)) c.self.view_is c.learn.ensures.all in
    let fails = subst (λ (m : MachineView). IfErr c.learn.result (λ why. FailsToLearn c.in-Keeping.then c.args.others.now why (at m stage.AtRest) c.learn.new.self)) c.self.view_is c.learn.ensures.fails in
    subst (λ s. Learned s c.args.others.now c.args.self.now c.learn.new.self) (sym is) (either_way c.learn.result all fails)

pub returns-in-Keeping-clause-all : goal.returns-in-Keeping-clause-all
returns-in-Keeping-clause-all c =
    let is : c.args.self.now.stage ≡ stage.Keeping c.in-Keeping.entry c.in-Keeping.then = ap (λ m. m.stage) (sym c.self.view_is) ∙ sym c.replace.ensures.value ∙ c.in-Keeping.is in
    let all = subst (λ (m : MachineView). OnOk c.learn.result (LearnsAll c.in-Keeping.then c.args.others.now (at m stage.AtRest) c.learn.new.self)) c.self.view_is c.learn.ensures.all in
    subst (λ s. OnOk c.learn.result (IfKeeping s (λ next. LearnsAll next c.args.others.now c.args.self.now c.learn.new.self))) (sym is) all
