-- The machine of the ledger that a store has.
use Rattle.std.specs.Prelude.{List}
use Rattle.escpos_till.specs.declared.entry.Entry.{Entry}
use Rattle.escpos_till.specs.Book.{IsBookOf}
use Rattle.escpos_till.specs.Entries.{IsLedger}
use Rattle.escpos_till.specs.Machine.{IsStarted, MachineView}

-- It is a new machine, of the entries that the store holds.
pub record Opens {S : Type 0} (faithful : S → Type 0) (holds : S → List Entry → Type 0) (store : S) (m : MachineView) (after : S) : Type 0 where
  pub started : IsStarted m
  pub entries : List Entry
  pub book : IsBookOf m.book entries
  pub ledger : IsLedger entries
  pub held : faithful after → holds store entries
  pub holds_still : faithful after → holds after entries
