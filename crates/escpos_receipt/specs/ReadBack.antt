-- What is printed reads as what was written: the strings of a receipt's text, and the cells that their commands print.
use Rattle.std.specs.Prelude.{ℕ, ◌≡◌, ◌≢◌, ◌⊎◌, List, [], ◌∷◌, ◌++◌, All, map, chars, Option, Some, None}
use Rattle.unicode_normalization.specs.Forms.{nfc}
use Rattle.serde_json.specs.Data.{Data, array}
use Rattle.serde_json.specs.Find.{as_str}
use Rattle.serde_json.specs.View.{items_of}
use Rattle.escpos_command.specs.declared.command.Command.{Command}
use Rattle.escpos_command.specs.declared.command.Command.TheVariants as kind
use Rattle.escpos_paper.specs.Typed.{typed}
use Rattle.escpos_text.specs.declared.encoding.Encoding.{Encoding}
use Rattle.escpos_text.specs.Laws.{IsReadBack, read_back}
use Rattle.escpos_layout.specs.OnPaper.{PrintsLines, read_cell}
use Rattle.escpos_receipt.specs.declared.member.Member.{Member}
use Rattle.escpos_receipt.specs.declared.member.Member.TheVariants.{Text, Line}
use Rattle.escpos_receipt.specs.declared.options.ReceiptOptions.{ReceiptOptions}
use Rattle.escpos_receipt.specs.Describes.{IsJson}
use Rattle.escpos_receipt.specs.declared.in_force.LineState.{LineState}
use Rattle.escpos_receipt.specs.Entries.{columns_in, encoding_for, line_ended, line_state, lines_of, member_of}
use Rattle.escpos_receipt.specs.Whole.{has_text}

-- The string of a text or a line.
abbrev pub string_in : Option (Member × Data) → Option (List ℕ)
string_in None = None
string_in (Some (Text, v)) = as_str v
string_in (Some (Line, v)) = as_str v
string_in (Some m) = None

abbrev pub string_of : Data → Option (List ℕ)
string_of d = string_in (member_of d)

-- The commands, which come after these, print a text where this encoding is in force: their cells read back as the text, one cell
-- for each of its characters; with no replacement, and no U+00A0 in the text, as exactly the text. A line feed may end them.
pub record Prints (e : Encoding) (before commands : List Command) (text : List ℕ) : Type 0 where
  pub written : List Command
  pub ends : (commands ≡ written) ⊎ (commands ≡ written ++ kind.LineFeed ∷ [])
  pub cells : map read_cell (typed before commands) ≡ read_back e.set e.table written
  pub reads_back : IsReadBack e text written
  pub exactly : e.replacement ≡ None → All (λ c. c ≢ 0xA0) text → map read_cell (typed before commands) ≡ map (λ c. Some c) text

-- The lines of a layout, where a line is like this; none for any other entry.
abbrev pub lines_in : LineState → Option (Member × Data) → Option (List (List ℕ))
lines_in l None = None
lines_in l (Some m) = lines_of (columns_in l) m.0 m.1

abbrev pub lines_at : LineState → Data → Option (List (List ℕ))
lines_at l d = lines_in l (member_of d)

-- The commands, which come after these, print the lines of a layout, each as one row; text that was in the line is printed first.
pub record LaysOut (options : ReceiptOptions) (before part : List Command) (e : Encoding) (lines : List (List ℕ)) : Type 0 where
  pub commands : List Command
  pub ended : part ≡ line_ended (has_text before) ++ commands
  pub prints : PrintsLines options.width (before ++ line_ended (has_text before)) commands e lines

-- The same of each string and each layout among entries that come after others: what its entry gives prints the string's composed
-- form, or the layout's lines. Any other entry prints no character.
abbrev pub PrintStrings : ReceiptOptions → List Data → List Command → List Data → List Command → Type 0
PrintStrings options earlier before [] cs = cs ≡ []
PrintStrings options earlier before (d ∷ ds) cs =
    (part : List Command) × (more : List Command) × (cs ≡ part ++ more)
    × ((string : List ℕ) → string_of d ≡ Some string → Prints (encoding_for options earlier before) before part (nfc (chars string)))
    × ((lines : List (List ℕ)) → lines_at (line_state options before) d ≡ Some lines → LaysOut options before part (encoding_for options earlier before) lines)
    × (string_of d ≡ None → lines_at (line_state options before) d ≡ None → typed before part ≡ [])
    × PrintStrings options (earlier ++ d ∷ []) (before ++ part) ds more

-- The strings of the text are printed as they are written.
abbrev pub PrintsAsWritten : ReceiptOptions → List ℕ → List Command → Type 0
PrintsAsWritten options bytes cs =
    (entries : List Data) × IsJson bytes (array (items_of entries)) × PrintStrings options [] [] entries cs
