-- How lines are written: the text of each, and LF after it.
use Rattle.std.specs.Prelude.{◌≡◌, ℕ, List, [], ◌∷◌, ◌++◌, Result, Ok, Err}
use Rattle.escpos_command.specs.declared.command.Command.{Command}
use Rattle.escpos_command.specs.declared.command.Command.TheVariants as kind
use Rattle.escpos_command.specs.CommandTable.{spell}
use Rattle.escpos_text.specs.declared.encoding.Encoding.{Encoding}
use Rattle.escpos_text.specs.declared.encoding.TextFault.{TextFault}
use Rattle.escpos_text.specs.Writing.{◌>>=◌, written, table_after, IsRefused}

-- The commands of lines, or why their first bad character is refused. A line begins with the table that the one before it left.
unfoldable pub lines_written : Encoding → List (List ℕ) → Result (List Command) TextFault
lines_written encoding [] = Ok []
lines_written encoding (line ∷ lines) = do
  commands ← written encoding line
  rest ← lines_written (record encoding { table = table_after encoding.table commands }) lines
  Ok (commands ++ kind.LineFeed ∷ rest)

-- These commands were written after some bytes, spelled; and their last table is in force then.
pub record WritesAs (what : Result (List Command) TextFault) (before : Encoding) (bytes more : List ℕ) (after : Encoding) : Type 0 where
  pub commands : List Command
  pub are_written : what ≡ Ok commands
  pub are_spelled : more ≡ bytes ++ spell commands
  pub in_force : after ≡ record before { table = table_after before.table commands }

-- These lines were written.
abbrev pub WritesLines : Encoding → List (List ℕ) → List ℕ → List ℕ → Encoding → Type 0
WritesLines before lines bytes more after = WritesAs (lines_written before lines) before bytes more after

-- For private clauses: writing stopped at a fault. Some bytes may stand there, and another table may be in force.
pub record Stops (what : Result (List Command) TextFault) (before : Encoding) (bytes more : List ℕ) (after : Encoding) (fault : TextFault) : Type 0 where
  pub refused : IsRefused what fault
  pub begun : (some : List ℕ) × (more ≡ bytes ++ some)
  pub but_for_table : (table : ℕ) × (after ≡ record before { table = table })

-- For private clauses: one or the other, as a call answers.
abbrev pub Ends : {A : Type 0} → Result (List Command) TextFault → Encoding → List ℕ → List ℕ → Encoding → Result A TextFault → Type 0
Ends what before bytes more after (Ok _) = WritesAs what before bytes more after
Ends what before bytes more after (Err fault) = Stops what before bytes more after fault
