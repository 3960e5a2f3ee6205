-- What the laws say of written texts.
use Rattle.std.specs.Prelude.{◌≡◌, ◌⊎◌, ℕ, ◌<◌, List, [], ◌∷◌, ◌++◌, length, slice_index, All, Option, Some, None, Result, Ok}
use Rattle.escpos_command.specs.declared.command.Command.{Command}
use Rattle.escpos_command.specs.declared.command.Command.TheVariants as kind
use Rattle.escpos_command.specs.SettingTable.{value}
use Rattle.escpos_command.specs.declared.setting.SettingKind.TheVariants as sets
use Rattle.escpos_text.specs.declared.encoding.Encoding.{Encoding}
use Rattle.escpos_text.specs.declared.encoding.TextFault.{TextFault}
use Rattle.escpos_text.specs.Reading.{reads, byte_for}
use Rattle.escpos_text.specs.Writing.{in_reach, shown_for, ◌>>=◌, written, table_after}

-- What commands print, read back: for each character what its byte reads as, by the set and the table in force then.
abbrev pub read_back : ℕ → ℕ → List Command → List (Option ℕ)
read_back set table [] = []
read_back set table (kind.Char b ∷ commands) = reads set table b ∷ read_back set table commands
read_back set table (kind.Set (sets.Table, p) ∷ commands) = read_back set (value p) commands
read_back set table (kind.Set (sets.CharacterSet, p) ∷ commands) = read_back (value p) table commands
read_back set table (_ ∷ commands) = read_back set table commands

-- None of these tables has a character.
abbrev pub Lack : ℕ → List ℕ → ℕ → Type 0
Lack set tables c = All (λ table. byte_for set table c ≡ None) tables

-- What is shown for a character is itself; if no table in reach has it, a space for U+00A0, or the replacement.
abbrev pub IsShownFor : Encoding → ℕ → ℕ → Type 0
IsShownFor encoding c shown =
    (shown ≡ c)
    ⊎ (Lack encoding.set (in_reach encoding) c × (((c ≡ 0xA0) × (shown ≡ 0x20)) ⊎ (encoding.replacement ≡ Some shown)))

-- The commands read back as the text: those of its first character as what is shown for it, and so the rest, with the table that
-- is in force then.
abbrev pub IsReadBack : Encoding → List ℕ → List Command → Type 0
IsReadBack encoding [] commands = commands ≡ []
IsReadBack encoding (c ∷ cs) commands =
    (shown : ℕ) × (first rest : List Command) × (commands ≡ first ++ rest)
    × (read_back encoding.set encoding.table first ≡ Some shown ∷ [])
    × IsShownFor encoding c shown
    × IsReadBack (record encoding { table = table_after encoding.table first }) cs rest

-- The first of these tables that has a character is the one with this number.
abbrev pub IsFirstWith : ℕ → List ℕ → ℕ → ℕ → Type 0
IsFirstWith set tables c number =
    (i : ℕ) × (i < length tables) × (slice_index tables i ≡ number) × ((j : ℕ) → j < i → byte_for set (slice_index tables j) c ≡ None)

-- ESC t is wanted: a character follows that the table in force doesn't have, and the table is the first of the choice that has it.
abbrev pub IsWanted : Encoding → ℕ → List Command → Type 0
IsWanted encoding number [] = ⊥
IsWanted encoding number (kind.Char b ∷ commands) =
    (shown : ℕ) × (reads encoding.set number b ≡ Some shown)
    × (byte_for encoding.set encoding.table shown ≡ None)
    × IsFirstWith encoding.set encoding.choice shown number
IsWanted encoding number (_ ∷ commands) = ⊥

abbrev pub IsLean : Encoding → List Command → Type 0
IsLean encoding [] = Unit {0}
IsLean encoding (kind.Set (sets.Table, p) ∷ commands) = IsWanted encoding (value p) commands × IsLean (record encoding { table = value p }) commands
IsLean encoding (_ ∷ commands) = IsLean encoding commands

-- Nothing that may be shown for a character is in a table in reach.
abbrev pub NothingShows : Encoding → ℕ → Type 0
NothingShows encoding c = All (λ shown. Lack encoding.set (in_reach encoding) shown) (shown_for encoding c)

-- A text is refused at a character: what stands before it is written, and something holds of what is in force there.
abbrev pub IsRefusedAt : Encoding → List ℕ → ℕ → (Encoding → Type 0) → Type 0
IsRefusedAt encoding text c why =
    (before after : List ℕ) × (commands : List Command) × (text ≡ before ++ c ∷ after)
    × (written encoding before ≡ Ok commands)
    × why (record encoding { table = table_after encoding.table commands })

-- A text, and after it another, with the table that is in force then.
abbrev pub one_after_another : Encoding → List ℕ → List ℕ → Result (List Command) TextFault
one_after_another encoding text more = do
  some ← written encoding text
  others ← written (record encoding { table = table_after encoding.table some }) more
  Ok (some ++ others)
