use Rattle.escpos_text.proofs.PlainWriting.{ascii-read}
use Rattle.escpos_text.proofs.laws.ascii.Goals as goal

pub returns : goal.returns
returns c = ascii-read
