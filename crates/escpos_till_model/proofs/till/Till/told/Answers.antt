use Rattle.escpos_till_model.proofs.till.Till.told.Goals as goal

pub returns-clause-queued : goal.returns-clause-queued
returns-clause-queued c = c.is_sound.ensures.queued
