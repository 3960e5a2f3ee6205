use Rattle.std.proofs.Common.{subst}
use Rattle.escpos_till_model.specs.World.{HasCome}
use Rattle.escpos_till_model.proofs.till.Till.is_sound.Goals as goal

pub returns-clause-queued : goal.returns-clause-queued
returns-clause-queued c = λ number among.
    let come = subst HasCome c.self.view_is c.self.invariant in
    c.what_is_recorded_stands.ensures.queued come.first c.args.self.now come.happenings number come.begins come.runs among

pub returns-clause-recorded : goal.returns-clause-recorded
returns-clause-recorded c = λ number among.
    let come = subst HasCome c.self.view_is c.self.invariant in
    c.what_is_recorded_stands.ensures.recorded come.first c.args.self.now come.happenings number come.begins come.runs among

pub returns-clause-cancelled : goal.returns-clause-cancelled
returns-clause-cancelled c = λ number tried among.
    let come = subst HasCome c.self.view_is c.self.invariant in
    c.what_is_recorded_stands.ensures.cancelled come.first c.args.self.now come.happenings number tried come.begins come.runs among
