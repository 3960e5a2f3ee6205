use Rattle.escpos_text.proofs.TextLaws.{is_lean}
use Rattle.escpos_text.proofs.laws.lean.Goals as goal

pub returns : goal.returns
returns c = is_lean
