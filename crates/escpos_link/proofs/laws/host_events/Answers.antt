use Rattle.std.proofs.Common.{refl, arith}
use Rattle.escpos_link.proofs.AtTheEnd.{cut_off, heard_on, hung_up_by}
use Rattle.escpos_link.proofs.laws.host_events.Goals as goal

pub returns-clause-put : goal.returns-clause-put
returns-clause-put c = λ h w count within. (count, refl, omega (arith, within), refl)

pub returns-clause-heard : goal.returns-clause-heard
returns-clause-heard c = heard_on

pub returns-clause-cut_off : goal.returns-clause-cut_off
returns-clause-cut_off c = cut_off

pub returns-clause-hung_up : goal.returns-clause-hung_up
returns-clause-hung_up c = hung_up_by
