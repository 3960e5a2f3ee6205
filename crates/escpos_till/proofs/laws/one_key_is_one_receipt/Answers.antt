-- By the lemmas on keys.
use Rattle.escpos_till.proofs.KeyLemmas.{key_taken, one_key, one_receipt}
use Rattle.escpos_till.proofs.laws.one_key_is_one_receipt.Goals as goal

pub returns-clause-one_receipt : goal.returns-clause-one_receipt
returns-clause-one_receipt c = one_receipt

pub returns-clause-one_key : goal.returns-clause-one_key
returns-clause-one_key c = one_key

pub returns-clause-taken : goal.returns-clause-taken
returns-clause-taken c = key_taken
