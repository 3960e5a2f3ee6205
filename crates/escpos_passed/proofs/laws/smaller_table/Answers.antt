use Rattle.escpos_passed.proofs.TokenLaws.{as_tokens}
use Rattle.escpos_passed.proofs.laws.smaller_table.Goals as goal

pub returns : goal.returns
returns c = as_tokens
