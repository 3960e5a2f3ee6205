-- The commands that the bytes of a written text spell.
use Rattle.std.specs.Prelude.{ℕ, ◌==◌, ◌≤◌, ◌<◌, zero, suc, List, [], ◌∷◌, if◌then◌else◌, Some}
use Rattle.escpos_command.specs.declared.bytes.TheConstants.{ESC}
use Rattle.escpos_command.specs.declared.command.Command.{Command}
use Rattle.escpos_command.specs.declared.command.Command.TheVariants as kind
use Rattle.escpos_command.specs.CommandTable.{set_to}
use Rattle.escpos_command.specs.declared.setting.SettingKind.TheVariants as sets

-- The commands of these bytes, where this many bytes of an ESC t are still to come: two after ESC, and then its table.
abbrev pub commands_from : ℕ → List ℕ → List Command
commands_from missing [] = []
commands_from zero (b ∷ bs) = if b == ESC then commands_from 2 bs else kind.Char b ∷ commands_from 0 bs
commands_from (suc zero) (n ∷ bs) = set_to sets.Table n ∷ commands_from 0 bs
commands_from (suc (suc missing)) (b ∷ bs) = commands_from 1 bs

-- ESC t n selects a table, and any other byte is a character.
unfoldable pub text_commands : List ℕ → List Command
text_commands bytes = commands_from 0 bytes

-- The commands of a text: characters, and a table only before a character.
abbrev pub BeginsWithChar : List Command → Type 0
BeginsWithChar [] = ⊥
BeginsWithChar (kind.Char b ∷ commands) = Unit {0}
BeginsWithChar (_ ∷ commands) = ⊥

abbrev pub AreOfText : List Command → Type 0
AreOfText [] = Unit {0}
AreOfText (kind.Char b ∷ commands) = (0x20 ≤ b) × (b < 256) × AreOfText commands
AreOfText (kind.Set (sets.Table, Some n) ∷ commands) = BeginsWithChar commands × AreOfText commands
AreOfText (_ ∷ commands) = ⊥
