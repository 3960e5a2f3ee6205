use Rattle.escpos_picture.proofs.Escaping.{text_escaped}
use Rattle.escpos_picture.proofs.laws.text_is_escaped.Goals as goal

pub returns : goal.returns
returns c = text_escaped
