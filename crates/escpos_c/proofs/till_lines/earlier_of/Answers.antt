-- A key is read where there is one.
use Rattle.escpos_c.proofs.TillLineLemmas.{earlier_found, no_earlier_found}
use Rattle.escpos_c.proofs.till_lines.earlier_of.Goals as goal

pub returns-in-Some : goal.returns-in-Some
returns-in-Some c = earlier_found c.args.number c.args.bytes.now c.in-Some.key c.in-Some.ensures

pub returns-in-None : goal.returns-in-None
returns-in-None c = no_earlier_found c.args.number c.args.bytes.now c.in-None.ensures
