use Rattle.escpos_c.proofs.TillLineLemmas.{read_back}
use Rattle.escpos_c.proofs.till_lines.line_read_back.Goals as goal

pub returns : goal.returns
returns c = read_back
