-- The note on a barcode whose content has a wrong check digit.
use Rattle.std.specs.Prelude.{ℕ, ◌-◌, ◌==◌, ◌&&◌, ◌||◌, not, Bool, false, List, [], ◌∷◌, ◌++◌, length, take, slice_index, Option, None, Some, codes, decimal, if◌then◌else◌}
use Rattle.escpos_command.specs.declared.bytes.TheConstants.{LF}
use Rattle.escpos_command.specs.declared.command.Command.{Command}
use Rattle.escpos_command.specs.declared.command.Command.TheVariants as kind
use Rattle.escpos_command.specs.declared.bars.Symbology.{Symbology}
use Rattle.escpos_command.specs.declared.bars.Symbology.TheVariants.{UpcA, UpcE, Ean13, Ean8}
use Rattle.escpos_command.specs.Barcodes.{Barcode}
use Rattle.escpos_paper.specs.CheckDigit.{checked_digits, digit, digit_value}
use Rattle.escpos_job_parts.specs.declared.notes.WrongDigit.{WrongDigit}

-- A content of this many bytes ends with its check digit.
abbrev pub has_check_digit : Symbology → ℕ → Bool
has_check_digit UpcA n = n == 12
has_check_digit UpcE n = n == 8 || n == 12
has_check_digit Ean13 n = n == 13
has_check_digit Ean8 n = n == 8
has_check_digit symbology n = false

-- The check digit that a content ends with, and the one that the digits before it have.
abbrev pub given_digit : List ℕ → ℕ
given_digit content = digit_value (slice_index content (length content - 1))

abbrev pub right_digit : Symbology → List ℕ → ℕ
right_digit symbology content = digit (checked_digits symbology (take (length content - 1) content))

-- The two, if they differ.
abbrev pub wrong_digit : Barcode → Option WrongDigit
wrong_digit bars =
    if has_check_digit bars.symbology (length bars.content) && not (given_digit bars.content == right_digit bars.symbology bars.content)
    then Some (record { given = given_digit bars.content; right = right_digit bars.symbology bars.content })
    else None

abbrev pub note_line : ℕ → Option WrongDigit → List ℕ
note_line place None = []
note_line place (Some wrong) =
    codes "note " ++ decimal place ++ codes " check digit " ++ decimal wrong.given ++ codes ", right " ++ decimal wrong.right ++ LF ∷ []

-- The note on a command that has this many bytes before it.
abbrev pub note_of : ℕ → Command → List ℕ
note_of place (kind.Bars bars) = note_line place (wrong_digit bars)
note_of place _ = []
