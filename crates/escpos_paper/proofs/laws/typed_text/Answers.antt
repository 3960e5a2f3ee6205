use Rattle.escpos_paper.proofs.TypedLines.{typed_line}
use Rattle.escpos_paper.proofs.laws.typed_text.Goals as goal

pub returns : goal.returns
returns c = typed_line
