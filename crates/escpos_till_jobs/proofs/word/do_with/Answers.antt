-- The word was done with the machine of the ledger.
use Rattle.std.proofs.Common.{inr}
use Rattle.escpos_till_jobs.proofs.word.do_with.Goals as goal

pub returns-in-Ok-clause-does : goal.returns-in-Ok-clause-does
returns-in-Ok-clause-does g c =
    inr (c.in-Ok.machine, c.do_word.new.machine, c.open_machine.new.store, c.in-Ok.ensures.opens, c.open_machine.ensures.was_faithful, c.do_word.ensures.does)
