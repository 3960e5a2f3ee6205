-- What came of a call that was driven.
use Rattle.escpos_till.specs.declared.note.TillRefusal.{TillRefusal}
use Rattle.escpos_till.specs.Driver.{Call, Calls, Deed}
use Rattle.escpos_till.specs.Machine.{MachineView}
use Rattle.escpos_till_jobs.specs.declared.outcome.Outcome.{Outcome}
use Rattle.escpos_till_jobs.specs.declared.outcome.Outcome.TheVariants as outcome
use Rattle.escpos_till_jobs.specs.Outcomes.{Becomes, Follows}

-- What followed a call is what came of it.
pub became : {D : Type 0} (did : D → Deed → D → Type 0) (Refuses : TillRefusal → Type 0) (m asked : MachineView) (old : D) (call : Call) (o : Outcome) (after : MachineView) (new : D)
    → Calls m call asked → Follows did asked old o after new → Becomes did Refuses m old call o after new
became did Refuses m asked old call (outcome.Refused why) after new calls follows = absurd follows
became did Refuses m asked old call (outcome.Told n) after new calls follows = record { asked = asked; calls = calls; runs = follows }
became did Refuses m asked old call outcome.GivenUp after new calls follows = record { asked = asked; calls = calls; runs = follows }
