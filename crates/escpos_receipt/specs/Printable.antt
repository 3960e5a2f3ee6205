-- Which barcodes and QR codes a printer leaves out: those that have no bars or no version, or that are wider than the line. (Profile.)
use Rattle.std.specs.Prelude.{ℕ, ◌≡◌, ◌*◌, Bool, false, IsTrue, not, nat_le, is_some, List, ◌∷◌, ◌++◌, length, Option, None, Some}
use Rattle.escpos_command.specs.declared.command.Command.{Command}
use Rattle.escpos_command.specs.declared.command.Command.TheVariants as kind
use Rattle.escpos_command.specs.declared.parameter.choices.Correction.{Correction}
use Rattle.escpos_command.specs.Barcodes.{Barcode}
use Rattle.escpos_command.specs.Settings.{stored}
use Rattle.escpos_paper.specs.declared.style.Settings.{Settings}
use Rattle.escpos_paper.specs.CheckDigit.{added_digit}
use Rattle.escpos_paper.specs.Styles.{bar_style, qr_style}
use Rattle.escpos_barcode.specs.Drawn.{drawn, with_added}
use Rattle.escpos_barcode.specs.QrSizes.{qr_modules}

-- The settings that decide it: the module width of barcodes, the size of a module and the level of error correction of QR codes, and
-- the data that is stored for these.
pub record CodeSettings : Type 0 where
  pub module_width : ℕ
  pub size : ℕ
  pub correction : Correction
  pub stored : Option (List ℕ)

-- Those of all settings, with the data that is stored.
abbrev pub code_settings_in : Settings → Option (List ℕ) → CodeSettings
code_settings_in s data_now = record { module_width = s.bars.module_width; size = s.codes.size; correction = s.codes.correction; stored = data_now }

-- Those in force after the commands.
abbrev pub code_settings : List Command → CodeSettings
code_settings cs = record {
  module_width = (bar_style cs).module_width;
  size = (qr_style cs).size;
  correction = (qr_style cs).correction;
  stored = stored cs;
}

-- A barcode with modules of this width has bars that fit on a line of so many dots, with its check digit.
abbrev pub has_bars : ℕ → ℕ → Barcode → Bool
has_bars width module_width bars = is_some (drawn width bars.symbology module_width (with_added bars.content (added_digit bars.symbology bars.content)))

-- There is a QR code, and a side of so many modules of this size fits on the line.
abbrev pub has_side : ℕ → ℕ → Option ℕ → Bool
has_side width size None = false
has_side width size (Some modules) = nat_le (size * modules) width

-- A QR code of data that is stored, if any is, is larger than the line or any QR code. Where none is stored, nothing is to be printed.
abbrev pub is_stored_left_out : ℕ → ℕ → Correction → Option (List ℕ) → Bool
is_stored_left_out width size level None = false
is_stored_left_out width size level (Some content) = not (has_side width size (qr_modules level content))

-- In these settings, a printer with lines of so many dots leaves out the code that the command would print.
abbrev pub is_left_out : ℕ → CodeSettings → Command → Bool
is_left_out width s (kind.Bars bars) = not (has_bars width s.module_width bars)
is_left_out width s kind.QrPrint = is_stored_left_out width s.size s.correction s.stored
is_left_out width s c = false

-- It leaves out none of the codes of these commands.
abbrev pub IsPrintable : ℕ → List Command → Type 0
IsPrintable width cs =
    (before : List Command) (c : Command) (following : List Command) → cs ≡ before ++ c ∷ following → is_left_out width (code_settings before) c ≡ false

-- The first that it leaves out is the one of the command at this place, counted from 0.
pub record IsFirstLeftOut (width : ℕ) (cs : List Command) (at : ℕ) : Type 0 where
  pub before : List Command
  pub command : Command
  pub following : List Command
  pub split : cs ≡ before ++ command ∷ following
  pub place : length before ≡ at
  pub left_out : IsTrue (is_left_out width (code_settings before) command)
  pub earlier : IsPrintable width before
