-- How a text is written: each character as a byte and, where another code table has to be in force for it, ESC t before it.
use Rattle.std.specs.Prelude.{◌≡◌, ℕ, ◌==◌, nat_lt, List, [], ◌∷◌, ◌++◌, Option, Some, None, option_map, option_to_list, ok_or, Result, Ok, Err, fold, if◌then◌else◌}
use Rattle.escpos_command.specs.declared.command.Command.{Command}
use Rattle.escpos_command.specs.declared.command.Command.TheVariants as kind
use Rattle.escpos_command.specs.SettingTable.{value}
use Rattle.escpos_command.specs.declared.setting.SettingKind.TheVariants as sets
use Rattle.escpos_command.specs.CommandTable.{spell, set_to}
use Rattle.escpos_text.specs.declared.encoding.Encoding.{Encoding}
use Rattle.escpos_text.specs.declared.encoding.TextFault.{TextFault}
use Rattle.escpos_text.specs.declared.encoding.TextFault.TheVariants.{Control, NoCharacter, Memory}
use Rattle.escpos_text.specs.declared.placing.Place.{Place}
use Rattle.escpos_text.specs.Reading.{byte_for}

-- The first answer that a question has along a list.
abbrev pub or_else : {B : Type 0} → Option B → Option B → Option B
or_else None other = other
or_else (Some x) other = Some x

abbrev pub first_answer : {A B : Type 0} → (A → Option B) → List A → Option B
first_answer ask [] = None
first_answer ask (x ∷ xs) = or_else (ask x) (first_answer ask xs)

-- Where a table has a character: at its lowest byte.
abbrev pub place_in : ℕ → ℕ → ℕ → Option Place
place_in set c table = option_map (λ byte. record { table = table; byte = byte }) (byte_for set table c)

-- The first of these tables that has it.
unfoldable pub place_among : ℕ → List ℕ → ℕ → Option Place
place_among set tables c = first_answer (place_in set c) tables

-- The table in force comes before those of the choice.
abbrev pub in_reach : Encoding → List ℕ
in_reach encoding = encoding.table ∷ encoding.choice

-- What is shown for a character: itself; otherwise a space if it is U+00A0; otherwise the replacement.
abbrev pub shown_for : Encoding → ℕ → List ℕ
shown_for encoding c = c ∷ (if c == 0xA0 then 0x20 ∷ [] else []) ++ option_to_list encoding.replacement

-- Where what is shown for a character stands.
unfoldable pub place_for : Encoding → ℕ → Option Place
place_for encoding c = first_answer (place_among encoding.set (in_reach encoding)) (shown_for encoding c)

-- A control code of ASCII is refused, and so is a character of which nothing can be shown.
unfoldable pub placed : Encoding → ℕ → Result Place TextFault
placed encoding c = if nat_lt c 0x20 then Err (Control c) else ok_or (place_for encoding c) (NoCharacter c)

-- The byte, with ESC t before it if its table isn't in force.
abbrev pub commands_for : ℕ → Place → List Command
commands_for table place = (if place.table == table then [] else set_to sets.Table place.table ∷ []) ++ kind.Char place.byte ∷ []

-- The commands of a text, or why its first bad character is refused.
infixl 10 ◌>>=◌
abbrev pub ◌>>=◌ : {A B : Type 0} → Result A TextFault → (A → Result B TextFault) → Result B TextFault
(Ok x) >>= next = next x
(Err fault) >>= next = Err fault

unfoldable pub written : Encoding → List ℕ → Result (List Command) TextFault
written encoding [] = Ok []
written encoding (c ∷ cs) = do
  place ← placed encoding c
  rest ← written (record encoding { table = place.table }) cs
  Ok (commands_for encoding.table place ++ rest)

-- The code table in force after commands.
abbrev pub after_command : ℕ → Command → ℕ
after_command table (kind.Set (sets.Table, p)) = value p
after_command table _ = table

abbrev pub table_after : ℕ → List Command → ℕ
table_after table commands = fold after_command table commands

-- A text of these characters was written after some bytes: its commands, spelled; and their last table is in force then.
pub record Writes (before : Encoding) (cs : List ℕ) (bytes more : List ℕ) (after : Encoding) : Type 0 where
  pub commands : List Command
  pub are_written : written before cs ≡ Ok commands
  pub are_spelled : more ≡ bytes ++ spell commands
  pub in_force : after ≡ record before { table = table_after before.table commands }

-- The same of one character.
pub record WritesOne (before : Encoding) (c : ℕ) (bytes more : List ℕ) (after : Encoding) : Type 0 where
  pub place : Place
  pub stands : placed before c ≡ Ok place
  pub are_spelled : more ≡ bytes ++ spell (commands_for before.table place)
  pub in_force : after ≡ record before { table = place.table }

-- The fault is the one that the text has, unless it is out of memory.
abbrev pub IsRefused : {A : Type 0} → Result A TextFault → TextFault → Type 0
IsRefused what (Control c) = what ≡ Err (Control c)
IsRefused what (NoCharacter c) = what ≡ Err (NoCharacter c)
IsRefused what Memory = Unit {0}
