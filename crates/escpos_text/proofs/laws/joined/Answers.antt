use Rattle.escpos_text.proofs.TextLaws.{written-append}
use Rattle.escpos_text.proofs.laws.joined.Goals as goal

pub returns : goal.returns
returns c = written-append
