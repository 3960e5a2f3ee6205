-- All of them are taken into account, after none.
use Rattle.std.proofs.Common.{◌≡◌, [], Err, ap}
use Rattle.escpos_till.specs.declared.book.NoBook.TheVariants as none
use Rattle.escpos_till.proofs.EntryLemmas.{empty_ledger}
use Rattle.escpos_till.proofs.LearningLemmas.{followed, ledger_of}
use Rattle.escpos_till.proofs.book.Book.of.Goals as goal

pub take_in-requires : goal.take_in-requires
take_in-requires c = ([], c.new-book.ensures, empty_ledger)

pub returns-in-Ok-clause-book : goal.returns-in-Ok-clause-book
returns-in-Ok-clause-book c = (c.in-Ok.ensures.all [] c.new-book.ensures empty_ledger).1

pub returns-in-Ok-clause-ledger : goal.returns-in-Ok-clause-ledger
returns-in-Ok-clause-ledger c = ledger_of [] c.args.entries.now empty_ledger (c.in-Ok.ensures.all [] c.new-book.ensures empty_ledger).0

pub returns-in-Err-clause-damaged : goal.returns-in-Err-clause-damaged
returns-in-Err-clause-damaged c = λ is ledger.
    let same : c.in-Err.why ≡ none.Damaged = cc is in
    c.in-Err.ensures.damaged (ap Err same) [] c.new-book.ensures empty_ledger (followed [] c.args.entries.now ledger)
