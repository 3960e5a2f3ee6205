-- The states are found over the store that was opened, which is closed before they are printed.
use Rattle.std.proofs.Common.{inr}
use Rattle.escpos_till_jobs.proofs.perform.list_at.Goals as goal

pub returns-in-Ok-found-clause-lists : goal.returns-in-Ok-found-clause-lists
returns-in-Ok-found-clause-lists g c =
    let found = c.in-Ok-found.ensures.found in (
      _,
      c.find_states-found.new.around.line,
      inr (
        c.in-Ok.store,
        c.find_states-found.new.around.store,
        c.open.new.self,
        c.in-Ok.ensures,
        inr (found.0, c.in-Ok-found.machine, found.1, found.2, found.3, record { instead = c.in-Ok-found.instead; raises = found.4; lists = c.list_unless.ensures.lists }),
        c.close.ensures,
      ),
    )
