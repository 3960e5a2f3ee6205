-- The law is a lemma; a machine's book is that of its entries.
use Rattle.escpos_till_model.proofs.Accounts.{all_ended, each_is_kept, first_among, none_after}
use Rattle.escpos_till_model.proofs.laws.each_is_kept.Goals as goal

pub returns-clause-kept : goal.returns-clause-kept
returns-clause-kept c = each_is_kept

pub returns-clause-ended : goal.returns-clause-ended
returns-clause-ended c = none_after

pub returns-clause-nothing_waits : goal.returns-clause-nothing_waits
returns-clause-nothing_waits c = λ m entries openings ledger book (rest, none) receipt among. all_ended entries ledger (none entries book) receipt among

pub returns-clause-delivers : goal.returns-clause-delivers
returns-clause-delivers c = λ m asked entries openings most copy further book it.
    let due = it.next.first entries book in
    (due.content, first_among _ _ due.first.first)
