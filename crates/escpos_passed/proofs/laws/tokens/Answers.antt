use Rattle.escpos_passed.proofs.TokenLaws as laws
use Rattle.escpos_passed.proofs.laws.tokens.Goals as goal

pub returns-clause-one_token : goal.returns-clause-one_token
returns-clause-one_token c = laws.one_token

pub returns-clause-no_prefix : goal.returns-clause-no_prefix
returns-clause-no_prefix c = laws.no_token_prefix
