-- Worked rows, from the published tables and the Reference's character sets, computed from the definitions alone.
use Rattle.std.proofs.Common.{◌≡◌, [], ◌∷◌, refl, Some, None, Ok, Err}
use Rattle.std.specs.Prelude.{codes, map}
use Rattle.unicode_normalization.specs.Forms.{nfc}
use Rattle.unicode_normalization.proofs.Computing.{unicode_normalization}
use Rattle.escpos_command.specs.declared.command.Command.TheVariants.{Char}
use Rattle.escpos_command.specs.SettingTable.{table}
use Rattle.escpos_command.specs.declared.setting.SettingKind.TheVariants as sets
use Rattle.escpos_command.specs.CommandTable.{spell, set_to}
use Rattle.escpos_text.specs.declared.encoding.Encoding.{Encoding}
use Rattle.escpos_text.specs.declared.encoding.TextFault.TheVariants.{Control, NoCharacter}
use Rattle.escpos_text.specs.CodeTables.{code_tables, characters_of}
use Rattle.escpos_text.specs.CharacterSets.{exchanged_bytes, character_sets, characters_in}
use Rattle.escpos_text.specs.Reading.{reads_low, reads_high, reads, byte_for}
use Rattle.escpos_text.specs.Choices.{usual_tables}
use Rattle.escpos_text.specs.Writing.{place_among, place_for, placed, written, table_after}
use Rattle.escpos_text.specs.SpelledTexts.{text_commands}
use Rattle.escpos_text.specs.Laws.{read_back}

-- ## What bytes read as

-- # is a pound sign in the set of the UK, a peseta in Spain's, and in no set above 17.
pounds : map (λ set. reads set 0 0x23) (0 ∷ 3 ∷ 7 ∷ 17 ∷ 18 ∷ []) ≡ Some 0x23 ∷ Some 0xA3 ∷ Some 0x20A7 ∷ Some 0x23 ∷ None ∷ []
unfolding reads reads_low exchanged_bytes characters_in character_sets
pounds = refl

-- All twelve in Germany's set; other bytes are as they are.
german : map (reads 2 0) (codes "a#$@[\\]^`{|}~Z") ≡ map (λ c. Some c) (codes "a#$§ÄÖÜ^`äöüßZ")
unfolding reads reads_low exchanged_bytes characters_in character_sets
german = refl

-- Control codes and 7F are no characters.
no_characters : map (reads 0 0) (0x00 ∷ 0x0A ∷ 0x1F ∷ 0x7F ∷ []) ≡ None ∷ None ∷ None ∷ None ∷ []
unfolding reads reads_low exchanged_bytes
no_characters = refl

-- The byte D5 by tables 0, 2, 19, 16, 17, 1, 15 and 6, which isn't known; 81 is open in table 16.
by_tables : map (λ table. reads 0 table 0xD5) (0 ∷ 2 ∷ 19 ∷ 16 ∷ 17 ∷ 1 ∷ 15 ∷ 6 ∷ [])
    ≡ Some 0x2552 ∷ Some 0x131 ∷ Some 0x20AC ∷ Some 0xD5 ∷ Some 0x2552 ∷ Some 0xFF95 ∷ Some 0x3A5 ∷ None ∷ []
unfolding reads reads_high characters_of code_tables
by_tables = refl

left_open : reads 0 16 0x81 ≡ None
unfolding reads reads_high characters_of code_tables
left_open = refl

-- ## Which byte prints a character

-- Ä is 8E in table 0, and 5B where the set has it.
umlauts : map (λ set. byte_for set 0 0xC4) (0 ∷ 2 ∷ []) ≡ Some 0x8E ∷ Some 0x5B ∷ []
unfolding byte_for reads reads_low reads_high exchanged_bytes characters_in character_sets characters_of code_tables
umlauts = refl

-- [ isn't printed in that set.
no_bracket : byte_for 2 0 0x5B ≡ None
unfolding byte_for reads reads_low reads_high exchanged_bytes characters_in character_sets characters_of code_tables
no_bracket = refl

-- ## Texts

fresh : Encoding
fresh = record { set = 0; table = 0; choice = usual_tables; replacement = None }

-- What PC437 has needs no table.
cafe : written fresh (codes "Café") ≡ Ok (map Char (0x43 ∷ 0x61 ∷ 0x66 ∷ 0x82 ∷ []))
unfolding fresh byte_for reads reads_low reads_high exchanged_bytes characters_in character_sets characters_of code_tables place_among place_for placed written
cafe = refl

-- The euro sign is in PC858, which stays in force: its é is that of PC437, and its ß, too.
euro : written fresh (codes "5 €é") ≡ Ok (Char 0x35 ∷ Char 0x20 ∷ set_to sets.Table 19 ∷ Char 0xD5 ∷ Char 0x82 ∷ [])
unfolding fresh byte_for reads reads_low reads_high exchanged_bytes characters_in character_sets characters_of code_tables place_among place_for placed written
euro = refl

-- A letter and an accent after it are one character.
composed : nfc (0x65 ∷ 0x301 ∷ []) ≡ 0xE9 ∷ []
unfolding unicode_normalization
composed = refl

-- Polish by PC852, and then Russian by PC866.
several : written fresh (codes "Łé5П") ≡ Ok (set_to sets.Table 18 ∷ Char 0x9D ∷ Char 0x82 ∷ Char 0x35 ∷ set_to sets.Table 17 ∷ Char 0x8F ∷ [])
unfolding fresh byte_for reads reads_low reads_high exchanged_bytes characters_in character_sets characters_of code_tables place_among place_for placed written
several = refl

-- U+00A0 is FF in PC437, and a space where Katakana is all that there is.
no_break : written fresh (0xA0 ∷ []) ≡ Ok (Char 0xFF ∷ [])
unfolding fresh byte_for reads reads_low reads_high exchanged_bytes characters_in character_sets characters_of code_tables place_among place_for placed written
no_break = refl

no_break_space : written (record fresh { table = 1; choice = 1 ∷ [] }) (0xA0 ∷ []) ≡ Ok (Char 0x20 ∷ [])
unfolding fresh byte_for reads reads_low reads_high exchanged_bytes characters_in character_sets characters_of code_tables place_among place_for placed written
no_break_space = refl

-- In Germany's set Ä is 5B, with no table, and [ is refused.
in_set : written (record fresh { set = 2 }) (codes "aÄ") ≡ Ok (Char 0x61 ∷ Char 0x5B ∷ [])
unfolding fresh byte_for reads reads_low reads_high exchanged_bytes characters_in character_sets characters_of code_tables place_among place_for placed written
in_set = refl

bracket_refused : written (record fresh { set = 2; choice = 16 ∷ [] }) (codes "a[") ≡ Err (NoCharacter 0x5B)
unfolding fresh byte_for reads reads_low reads_high exchanged_bytes characters_in character_sets characters_of code_tables place_among place_for placed written
bracket_refused = refl

-- Characters that no table has: the first decides, also before a control code; a control code is never replaced.
refused : written (record fresh { choice = 19 ∷ 16 ∷ [] }) (codes "a漢\n字") ≡ Err (NoCharacter 0x6F22)
unfolding fresh byte_for reads reads_low reads_high exchanged_bytes characters_in character_sets characters_of code_tables place_among place_for placed written
refused = refl

replaced : written (record fresh { choice = 19 ∷ 16 ∷ []; replacement = Some 0x3F }) (codes "a漢字") ≡ Ok (map Char (codes "a??"))
unfolding fresh byte_for reads reads_low reads_high exchanged_bytes characters_in character_sets characters_of code_tables place_among place_for placed written
replaced = refl

control : written (record fresh { choice = 19 ∷ 16 ∷ []; replacement = Some 0x3F }) (codes "漢\n字") ≡ Err (Control 0x0A)
unfolding fresh byte_for reads reads_low reads_high exchanged_bytes characters_in character_sets characters_of code_tables place_among place_for placed written
control = refl

-- ## The bytes of a text

spelled : spell (set_to sets.Table 18 ∷ Char 0x9D ∷ Char 0x35 ∷ []) ≡ 0x1B ∷ 0x74 ∷ 0x12 ∷ 0x9D ∷ 0x35 ∷ []
unfolding table
spelled = refl

-- A table of the number of ESC is read as a number.
read_again : text_commands (0x1B ∷ 0x74 ∷ 0x1B ∷ 0x9D ∷ 0x35 ∷ []) ≡ set_to sets.Table 27 ∷ Char 0x9D ∷ Char 0x35 ∷ []
unfolding text_commands
read_again = refl

-- A set counts, too, where commands are read back.
sets_read_back : read_back 0 0 (Char 0x23 ∷ set_to sets.CharacterSet 3 ∷ Char 0x23 ∷ set_to sets.Table 19 ∷ Char 0xD5 ∷ []) ≡ Some 0x23 ∷ Some 0xA3 ∷ Some 0x20AC ∷ []
unfolding reads reads_low reads_high exchanged_bytes characters_in character_sets characters_of code_tables
sets_read_back = refl

last_table : table_after 0 (Char 0x23 ∷ set_to sets.Table 18 ∷ Char 0x9D ∷ set_to sets.Table 17 ∷ Char 0x8F ∷ []) ≡ 17
last_table = refl
