-- The line that comes before a receipt which may be on the paper already.
use Rattle.std.specs.Prelude.{ℕ, Bool, ◌&&◌, ◌<◌, ◌≤◌, nat_le, Option, Some, None, nat_lt, if◌then◌else◌, List, [], ◌∷◌, ◌++◌, length, map}
use Rattle.std.specs.List.{AllPass}
use Rattle.escpos_command.specs.declared.command.Command.{Command}
use Rattle.escpos_command.specs.declared.command.Command.TheVariants as kind
use Rattle.escpos_command.specs.CommandTable.{set_to}
use Rattle.escpos_command.specs.declared.setting.SettingKind.TheVariants as sets
use Rattle.escpos_till.specs.declared.copy.TheConstants.{COPY_CHARACTERS}

-- A character that such a line may have, 20 to 7E hexadecimal.
abbrev pub is_copy_character : ℕ → Bool
is_copy_character b = nat_le 0x20 b && nat_le b 0x7E

-- The text of such a line.
pub record IsCopyText (text : List ℕ) : Type 0 where
  pub some : 0 < length text
  pub short : length text ≤ COPY_CHARACTERS
  pub plain : AllPass is_copy_character text

-- A line with this text, centred and emphasised; then emphasis is off and lines are at the left, as after Init.
abbrev pub copy_line : List ℕ → List Command
copy_line text =
    set_to sets.Align 1 ∷ set_to sets.Emphasis 1 ∷ (map kind.Char text ++ kind.LineFeed ∷ set_to sets.Emphasis 0 ∷ set_to sets.Align 0 ∷ [])

-- What is sent of a receipt that was tried so often: if it was, and there is such a text, the line comes before it.
abbrev pub sent_of : Option (List ℕ) → ℕ → List Command → List Command
sent_of None tried commands = commands
sent_of (Some text) tried commands = if nat_lt 0 tried then copy_line text ++ commands else commands
