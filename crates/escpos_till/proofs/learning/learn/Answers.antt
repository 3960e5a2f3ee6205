-- Room for more leaves the book that of all entries.
use Rattle.std.proofs.Common.{◌++◌}
use Rattle.escpos_till.specs.Learning.{NotesAll}
use Rattle.escpos_till.proofs.LearningLemmas.{on_ok}
use Rattle.escpos_till.proofs.learning.learn.Goals as goal

pub returns-in-Ok-clause-all : goal.returns-in-Ok-clause-all
returns-in-Ok-clause-all c =
    on_ok c.room_for_more.result (NotesAll c.args.book.now c.args.others.now c.room_for_more.new.book)
    (λ entries book ledger.
    let (follow, noted) = c.in-Ok.ensures.all entries book ledger in
    (follow, c.room_for_more.ensures.same (entries ++ c.args.others.now) noted))
