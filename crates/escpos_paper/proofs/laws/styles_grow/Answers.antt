use Rattle.escpos_paper.proofs.OneMore.{style-snoc}
use Rattle.escpos_paper.proofs.laws.styles_grow.Goals as goal

pub returns : goal.returns
returns c = style-snoc
