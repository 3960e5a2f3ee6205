-- By what the machine asks for.
use Rattle.std.specs.Prelude.{option_map}
use Rattle.std.proofs.Common.{rules, ◌≡◌, ◌∙◌, List, ap, refl, sym, subst}
use Rattle.escpos_till.specs.declared.driver.Turned.TheVariants as turned
use Rattle.escpos_till.specs.declared.note.TillNote.{TillNote}
use Rattle.escpos_till.specs.declared.entry.Entry.{Entry}
use Rattle.escpos_till.specs.declared.stage.Action.TheVariants as action
use Rattle.escpos_till.specs.declared.surroundings.Surroundings.{Surroundings}
use Rattle.escpos_till.specs.Appending.{IfDone, IfOthers}
use Rattle.escpos_till.specs.declared.store.StoreFault.{StoreFault}
use Rattle.escpos_till.specs.Driver.{Deed, IsTelling, Keeps, KeepsOne, Learns, Loses, Turns}
use Rattle.escpos_till.specs.Learning.{Learned}
use Rattle.escpos_till.specs.Machine.{Asks, MachineView, Unsure, entry_with, entry_with_at}
use Rattle.escpos_till.specs.Surroundings.{Did}
use Rattle.escpos_till.proofs.DriverLemmas.{asked_to_keep, asked_to_tell, may_go}
use Rattle.escpos_till.proofs.driver.act.Goals as goal
use Rattle.escpos_till.proofs.driver.act.Goals.{in-Append+in-Ok-Done, in-Append+in-Ok-Others, in-Append+in-Err, in-Connect, in-Put, in-Wait, in-HangUp}

pub returns-clause-turned : goal.returns-clause-turned
returns-clause-turned g c = λ done. elim c.match-asks.branch [
  | in-Append+in-Ok-Done w ↦
      let m : MachineView = c.args.machine.now in
      let (e, next, is) = asked_to_keep m m.stage (action.Append w.in-Append.entry) w.in-Append.ensures tt in
      let entry_is : w.in-Append.entry.now ≡ e = subst (λ s. Asks m s (action.Append w.in-Append.entry)) is w.in-Append.ensures in
      let with_is = w.asks_with-with.ensures ∙ ap entry_with_at is in
      let DoneBy : Deed → Surroundings g.row.S.Denot g.row.L.Denot → Type 0 = λ d a. Did g.S.Store.faithful g.S.Store.holds g.S.Store.leaves g.S.Store.says g.L.PrinterLine.did c.args.around.now d a in
      let did = subst (λ it. IfDone it (DoneBy (Keeps w.in-Append.entry.now (option_map (λ r. r.now) w.asks_with-with.result)) w.append.new.self)) w.in-Ok-Done.field-0-is w.in-Ok-Done.ensures.keeps in (
        Keeps e (entry_with next),
        λ said. said,
        subst (λ after. KeepsOne m e after (entry_with next)) (sym w.machine-is) (w.kept.ensures e next is),
        subst (DoneBy (Keeps e (entry_with next))) (sym w.around-is) (subst (λ f. DoneBy (Keeps e f) w.append.new.self) with_is (subst (λ x. DoneBy (Keeps x (option_map (λ r. r.now) w.asks_with-with.result)) w.append.new.self) entry_is did)),
      )
  | in-Append+in-Ok-Others w ↦
      let m : MachineView = c.args.machine.now in
      let others : List Entry = w.in-Ok-Others.others.items in
      let (e, next, is) = asked_to_keep m m.stage (action.Append w.in-Append.entry) w.in-Append.ensures tt in
      let DoneBy : List Entry → Surroundings g.row.S.Denot g.row.L.Denot → Type 0 = λ es a. Did g.S.Store.faithful g.S.Store.holds g.S.Store.leaves g.S.Store.says g.L.PrinterLine.did c.args.around.now (Learns es) a in
      let learned = subst (λ v. Learned m.stage v m w.learned.new.self) w.deref.ensures.value w.learned.ensures.learned in (
        Learns others,
        λ said. said,
        (e, next, is, subst (Learned m.stage others m) (sym w.machine-is) learned),
        subst (DoneBy others) (sym w.around-is) (subst (λ it. IfOthers it (λ es. DoneBy es w.append.new.self)) w.in-Ok-Others.field-0-is w.in-Ok-Others.ensures.learns),
      )
  | in-Append+in-Err w ↦
      let m : MachineView = c.args.machine.now in
      let (e, next, is) = asked_to_keep m m.stage (action.Append w.in-Append.entry) w.in-Append.ensures tt in
      let entry_is : w.in-Append.entry.now ≡ e = subst (λ s. Asks m s (action.Append w.in-Append.entry)) is w.in-Append.ensures in
      let with_is = w.asks_with-with.ensures ∙ ap entry_with_at is in
      let DoneBy : Deed → Surroundings g.row.S.Denot g.row.L.Denot → Type 0 = λ d a. Did g.S.Store.faithful g.S.Store.holds g.S.Store.leaves g.S.Store.says g.L.PrinterLine.did c.args.around.now d a in
      let why : StoreFault = w.in-Err.why in (
        Loses e (entry_with next) why,
        λ said. said,
        (next, is, may_go (entry_with next) next refl, subst (Unsure m.stage why m) (sym w.machine-is) w.appended.ensures.unsure),
        subst (DoneBy (Loses e (entry_with next) why)) (sym w.around-is)
            (subst (λ f. DoneBy (Loses e f why) w.append.new.self) with_is (subst (λ x. DoneBy (Loses x (option_map (λ r. r.now) w.asks_with-with.result) why) w.append.new.self) entry_is w.in-Err.ensures.loses)),
      )
  | in-Connect w ↦ search rules
  | in-Put w ↦ search rules
  | in-Wait w ↦ search rules
  | in-HangUp w ↦ search rules
]

same_told : (x n : TillNote) → turned.Tells x ≡ turned.Tells n → x ≡ n
same_told x n is = cc is

pub returns-in-Tell-clause-tells : goal.returns-in-Tell-clause-tells
returns-in-Tell-clause-tells g c = λ n is.
    let asks = subst (Asks c.args.machine.now c.args.machine.now.stage) c.in-Tell.is c.asks.ensures in
    let Done : Deed → Type 0 = λ d. Did g.S.Store.faithful g.S.Store.holds g.S.Store.leaves g.S.Store.says g.L.PrinterLine.did c.args.around.now d c.args.around.now in
    subst (λ x. (d : Deed) × IsTelling d x × Turns c.args.machine.now d c.told.new.self × Done d) (same_told c.in-Tell.note n is)
    (asked_to_tell Done c.tells.ensures.told c.tells.ensures.paused c.tells.ensures.confirmed c.args.machine.now.stage c.args.machine.now c.told.new.self c.in-Tell.note refl asks c.is_sound.ensures.note c.told.ensures)
