-- So far the first of the entries are taken into account, each of which may follow.
use Rattle.std.proofs.Common.{◌++◌, List, take}
use Rattle.escpos_till.specs.declared.entry.Entry.{Entry}
use Rattle.escpos_till.specs.Book.{IsBookOf}
use Rattle.escpos_till.specs.Entries.{IsLedger}
use Rattle.escpos_till.specs.Learning.{FollowAll}
use Rattle.escpos_till.proofs.book.Book.take_in.Given as goal

abbrev pub invariant-loop-entry : goal.invariant-loop-entry
invariant-loop-entry l = record {
  so_far : (entries : List Entry) → IsBookOf l.fn.self entries → IsLedger entries
      → FollowAll entries (take l.entry-index l.more) × IsBookOf l.self (entries ++ take l.entry-index l.more) × IsLedger (entries ++ take l.entry-index l.more);
}
