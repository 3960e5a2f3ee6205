-- What `check` prints: a line for each token, and always a last line.
use Rattle.std.specs.Prelude.{ℕ, ◌+◌, Bool, List, [], ◌∷◌, ◌++◌, drop, length, codes, decimal, flat_map, refl}
use Rattle.escpos_command.specs.CommandTable.{row}
use Rattle.escpos_command.specs.declared.bytes.TheConstants.{LF}
use Rattle.escpos_passed.specs.declared.table.Row.{Row}
use Rattle.escpos_passed.specs.Names.{name_of, named}
use Rattle.escpos_passed.specs.Table.{table, row_at}
use Rattle.escpos_passed.specs.Tokens.{Token, taken, passed}
use Rattle.escpos_job_parts.specs.declared.form.Form.{Form}
use Rattle.escpos_job_parts.specs.Lines.{byte_value, command_line, end_line}
use Rattle.escpos_job_parts.specs.Ending.{JobEnd}
use Rattle.escpos_stream_jobs.specs.Report.{Shape, Runs}

-- The line of a command that is passed over: the number of bytes before it, the Reference's name, and the bytes after those that the name
-- stands for.
abbrev pub passed_front : ℕ → Row → List ℕ
passed_front place r = decimal place ++ codes " passed " ++ name_of r.prefix

abbrev pub passed_line : ℕ → Row → List ℕ → List ℕ
passed_line place r bs = passed_front place r ++ flat_map byte_value (drop (named r.prefix) bs) ++ LF ∷ []

-- The lines of tokens, the first of which has this many bytes before it.
abbrev pub token_lines : ℕ → List Token → List ℕ
token_lines place [] = []
token_lines place (taken c ∷ ts) = command_line place c ++ token_lines (place + length (row c)) ts
token_lines place (passed i bs ∷ ts) = passed_line place (row_at table i) bs ++ token_lines (place + length bs) ts

abbrev pub listing_shape : Shape
listing_shape = record { gives = token_lines 0; closing = λ n. []; last = end_line; starts_empty = refl }

-- What `check` does with its input, a stream in this form, where it passes over commands or not.
abbrev pub Checks : Form → Bool → JobEnd → List ℕ → Type 0
Checks form pass o input = Runs listing_shape form pass o input
