-- A key is read where there is one.
use Rattle.escpos_c.proofs.TillLineLemmas.{key_found, no_key_found}
use Rattle.escpos_c.proofs.till_lines.key_in.Goals as goal

pub returns-in-Some : goal.returns-in-Some
returns-in-Some c = key_found c.args.bytes.now c.in-Some.key c.in-Some.ensures

pub returns-in-None : goal.returns-in-None
returns-in-None c = no_key_found c.args.bytes.now c.in-None.ensures
