use Rattle.std.proofs.Common.{[], sym, subst}
use Rattle.escpos_link.specs.Trusted.{IsFitting}
use Rattle.escpos_link.proofs.AfterPutting.{unmarked}
use Rattle.escpos_link.proofs.event.Event.fits.Goals as goal

pub returns-in-Submit : goal.returns-in-Submit
returns-in-Submit c = subst IsFitting (sym c.in-Submit.is) (unmarked [] _ c.commands.ensures.whole.in_place, c.commands.ensures.in_range)
