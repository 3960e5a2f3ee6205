-- The bytes of a text as it is sent: characters with their code tables, and line feeds. Only private clauses and proofs use these
-- definitions.
use Rattle.std.specs.Prelude.{ℕ, ◌≡◌, ◌==◌, ◌≤◌, ◌<◌, zero, suc, Bool, true, false, List, [], ◌∷◌, if◌then◌else◌, Some}
use Rattle.escpos_command.specs.declared.bytes.TheConstants.{ESC, LF}
use Rattle.escpos_command.specs.declared.command.Command.{Command}
use Rattle.escpos_command.specs.declared.command.Command.TheVariants as kind
use Rattle.escpos_command.specs.declared.setting.SettingKind.TheVariants as sets
use Rattle.escpos_command.specs.CommandTable.{spell, set_to}
use Rattle.escpos_text.specs.SpelledTexts.{BeginsWithChar}
use Rattle.escpos_receipt.specs.declared.spelled_text.TextBytes.{TextBytes}
use Rattle.escpos_receipt.specs.declared.spelled_text.TextBytes.TheVariants.{Given, Made}

abbrev pub bytes_in : TextBytes → List ℕ
bytes_in (Given bytes) = bytes.now
bytes_in (Made bytes) = bytes.items

-- The commands of these bytes, where this many bytes of an ESC t are still to come: two after ESC, and then its table.
abbrev pub commands_from : ℕ → List ℕ → List Command
commands_from missing [] = []
commands_from zero (b ∷ bs) =
    if b == ESC then commands_from 2 bs
    else (if b == LF then kind.LineFeed else kind.Char b) ∷ commands_from 0 bs
commands_from (suc zero) (n ∷ bs) = set_to sets.Table n ∷ commands_from 0 bs
commands_from (suc (suc missing)) (b ∷ bs) = commands_from 1 bs

-- ESC t n selects a table, LF ends a line, and any other byte is a character.
unfoldable pub lines_commands : List ℕ → List Command
lines_commands bytes = commands_from 0 bytes

-- Characters, tables only before a character, and line feeds.
abbrev pub AreOfLines : List Command → Type 0
AreOfLines [] = Unit {0}
AreOfLines (kind.Char b ∷ commands) = (0x20 ≤ b) × (b < 256) × AreOfLines commands
AreOfLines (kind.Set (sets.Table, Some n) ∷ commands) = BeginsWithChar commands × AreOfLines commands
AreOfLines (kind.LineFeed ∷ commands) = AreOfLines commands
AreOfLines (_ ∷ commands) = ⊥

-- The bytes spell such commands.
abbrev pub IsTextBytes : List ℕ → Type 0
IsTextBytes bytes = (bytes ≡ spell (lines_commands bytes)) × AreOfLines (lines_commands bytes)

-- Whether there is text in the line after such commands, by whether there was some before them.
abbrev pub text_left : Bool → List Command → Bool
text_left in_line [] = in_line
text_left in_line (kind.Char b ∷ commands) = text_left true commands
text_left in_line (kind.LineFeed ∷ commands) = text_left false commands
text_left in_line (_ ∷ commands) = text_left in_line commands
