-- The entries of a till's ledger as a text: their lines, one after another.
use Rattle.std.specs.Prelude.{ℕ, ◌≡◌, ◌≢◌, ◌+◌, ◌<◌, ◌⊎◌, None, Some, List, [], ◌∷◌, ◌++◌, length, take, drop}
use Rattle.memchr.specs.Find.{IsFirstByte, is_byte}
use Rattle.escpos_command.specs.declared.bytes.TheConstants.{LF}
use Rattle.escpos_till.specs.declared.entry.Entry.{Entry}
use Rattle.escpos_till.specs.Book.{IsBookOf}
use Rattle.escpos_till.specs.Entries.{IsLedger}
use Rattle.escpos_till.specs.Machine.{IsStarted, MachineView}
use Rattle.escpos_c.specs.TillLines.{ended_line, entry_in}

-- The first line of the text, up to its first LF, is this entry; this stands after it.
abbrev pub BeginsWith : List ℕ → Entry → List ℕ → Type 0
BeginsWith text e rest =
    (end : ℕ) × IsFirstByte (is_byte LF) text (Some end) × (entry_in (take end text) ≡ Some e) × (rest ≡ drop (end + 1) text)

-- The text begins with lines that are these entries; this stands after them.
abbrev pub Says : List ℕ → List Entry → List ℕ → Type 0
Says text [] rest = text ≡ rest
Says text (e ∷ entries) rest = (more : List ℕ) × BeginsWith text e more × Says more entries rest

-- What stands before the first LF is the line of no entry, or there is no LF.
abbrev pub IsNoLine : List ℕ → Type 0
IsNoLine text = (end : ℕ) → IsFirstByte (is_byte LF) text (Some end) → entry_in (take end text) ≡ None

-- The lines of some entries, one after another.
abbrev pub lines_of : List Entry → List ℕ
lines_of [] = []
lines_of (e ∷ entries) = ended_line e ++ lines_of entries

-- The whole text is the lines of these entries, and the machine is new and knows them.
pub record IsMachineOf (text : List ℕ) (machine : MachineView) : Type 0 where
  pub entries : List Entry
  pub says : Says text entries []
  pub ledger : IsLedger entries
  pub book : IsBookOf machine.book entries
  pub started : IsStarted machine

-- The line at this place, counted from 0, is at fault: it is the line of no entry, or of one that may not come after those before it,
-- which are a ledger.
pub record IsDamagedAt (text : List ℕ) (at : ℕ) : Type 0 where
  pub entries : List Entry
  pub rest : List ℕ
  pub says : Says text entries rest
  pub fault : ((at ≡ length entries) × IsLedger entries × (rest ≢ []) × IsNoLine rest)
      ⊎ ((at < length entries) × IsLedger (take at entries) × ¬ IsLedger (take (at + 1) entries))
