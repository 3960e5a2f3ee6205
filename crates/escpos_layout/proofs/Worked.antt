-- Worked rows, computed from the definitions alone.
use Rattle.std.proofs.Common.{◌≡◌, ℕ, [], ◌∷◌, refl, None, Ok, Err}
use Rattle.std.specs.Prelude.{codes}
use Rattle.escpos_command.specs.declared.command.Command.TheVariants.{Char, LineFeed}
use Rattle.escpos_command.specs.CommandTable.{set_to}
use Rattle.escpos_command.specs.declared.setting.SettingKind.TheVariants as sets
use Rattle.escpos_command.specs.declared.parameter.choices.FontFace.{FontFace}
use Rattle.escpos_command.specs.declared.parameter.choices.FontFace.TheVariants.{A, B}
use Rattle.escpos_paper.specs.declared.style.Style.{Style}
use Rattle.escpos_paper.specs.Styles.{power_on}
use Rattle.escpos_text.specs.declared.encoding.Encoding.{Encoding}
use Rattle.escpos_text.specs.declared.encoding.TextFault.TheVariants.{NoCharacter}
use Rattle.escpos_text.specs.CodeTables.{code_tables, characters_of}
use Rattle.escpos_text.specs.CharacterSets.{exchanged_bytes, character_sets, characters_in}
use Rattle.escpos_text.specs.Reading.{reads_low, reads_high, reads, byte_for}
use Rattle.escpos_text.specs.Choices.{usual_tables}
use Rattle.escpos_text.specs.Writing.{place_among, place_for, placed, written}
use Rattle.escpos_layout.specs.declared.row.Side.TheVariants.{Left, Right}
use Rattle.escpos_layout.specs.Columns.{columns_of}
use Rattle.escpos_layout.specs.Wrapping.{line_end, next_line, wrap}
use Rattle.escpos_layout.specs.Layouts.{row, pair, with_blanks, rule}
use Rattle.escpos_layout.specs.Writing.{lines_written}

-- ## How many characters a line has

abbrev sized : FontFace → ℕ → Style
sized font width = record power_on { font = font; width = width }

-- 512 dots have 42 characters of font A and 56 of font B, and half as many at twice the width; 384 dots have 32 of font A.
columns : columns_of 512 (sized A 1) ∷ columns_of 512 (sized B 1) ∷ columns_of 512 (sized A 2) ∷ columns_of 384 (sized A 1) ∷ [] ≡ 42 ∷ 56 ∷ 21 ∷ 32 ∷ []
columns = refl

-- A character wider than the line has a row of its own.
wide_character : columns_of 50 (sized A 8) ∷ columns_of 1 (sized B 1) ∷ [] ≡ 1 ∷ 1 ∷ []
wide_character = refl

-- ## Wrapped text

short : wrap 10 (codes "a  b") ≡ codes "a  b" ∷ []
unfolding wrap line_end next_line
short = refl

empty : wrap 10 [] ≡ [] ∷ []
unfolding wrap line_end next_line
empty = refl

-- A line is broken as late as it can be; the blanks there aren't printed, also at the end of a text.
broken : wrap 10 (codes "Schwarzer  Tee, 100 g") ≡ codes "Schwarzer" ∷ codes "Tee, 100 g" ∷ []
unfolding wrap line_end next_line
broken = refl

full : wrap 4 (codes "abcd efgh ij") ≡ codes "abcd" ∷ codes "efgh" ∷ codes "ij" ∷ []
unfolding wrap line_end next_line
full = refl

blanks_at_end : wrap 4 (codes "ab    ") ≡ codes "ab" ∷ []
unfolding wrap line_end next_line
blanks_at_end = refl

-- Blanks at the beginning of a text are printed, unless the line is broken there.
indented : wrap 6 (codes "  a b c d") ≡ codes "  a b" ∷ codes "c d" ∷ []
unfolding wrap line_end next_line
indented = refl

indented_word : wrap 4 (codes "  abcd") ≡ [] ∷ codes "abcd" ∷ []
unfolding wrap line_end next_line
indented_word = refl

only_blanks : wrap 2 (codes "     ") ≡ [] ∷ []
unfolding wrap line_end next_line
only_blanks = refl

-- A word that is longer than a line begins on its own line and is cut.
cut_word : wrap 4 (codes "a bcdefghij kl") ≡ codes "a" ∷ codes "bcde" ∷ codes "fghi" ∷ codes "j kl" ∷ []
unfolding wrap line_end next_line
cut_word = refl

one_column : wrap 1 (codes "ab c") ≡ codes "a" ∷ codes "b" ∷ codes "c" ∷ []
unfolding wrap line_end next_line
one_column = refl

-- ## Pairs

side_by_side : pair 10 (codes "Tee") (codes "4,20") ≡ codes "Tee   4,20" ∷ []
unfolding pair wrap line_end next_line
side_by_side = refl

-- One blank between them is enough.
one_blank : pair 8 (codes "Tee") (codes "4,20") ≡ codes "Tee 4,20" ∷ []
unfolding pair wrap line_end next_line
one_blank = refl

no_blank : pair 7 (codes "Tee") (codes "4,20") ≡ codes "Tee" ∷ codes "   4,20" ∷ []
unfolding pair wrap line_end next_line
no_blank = refl

-- The last line on the left has room for the text on the right, or hasn't.
after_lines : pair 10 (codes "Schwarzer Tee") (codes "4,20") ≡ codes "Schwarzer" ∷ codes "Tee   4,20" ∷ []
unfolding pair wrap line_end next_line
after_lines = refl

below_lines : pair 10 (codes "Schwarzer Kaffee") (codes "14,20") ≡ codes "Schwarzer" ∷ codes "Kaffee" ∷ codes "     14,20" ∷ []
unfolding pair wrap line_end next_line
below_lines = refl

-- The text on the right has lines, too; each ends at the line's end.
long_right : pair 8 (codes "Tee") (codes "ab cdef gh") ≡ codes "Tee" ∷ codes " ab cdef" ∷ codes "      gh" ∷ []
unfolding pair wrap line_end next_line
long_right = refl

no_left : pair 6 [] (codes "ab") ≡ codes "    ab" ∷ []
unfolding pair wrap line_end next_line
no_left = refl

no_right : pair 6 (codes "ab") [] ≡ codes "ab" ∷ []
unfolding pair wrap line_end next_line
no_right = refl

neither : pair 6 [] [] ≡ [] ∷ []
unfolding pair wrap line_end next_line
neither = refl

no_right_full : pair 2 (codes "ab") [] ≡ codes "ab" ∷ []
unfolding pair wrap line_end next_line
no_right_full = refl

-- ## Fields and rules

placed_left : with_blanks Left 2 (codes "ab") ≡ codes "ab  "
placed_left = refl

placed_right : with_blanks Right 2 (codes "ab") ≡ codes "  ab"
placed_right = refl

three_fields : row (record { text = codes "Kaffee"; width = 4; side = Left } ∷ record { text = codes "2"; width = 3; side = Right } ∷ record { text = codes "ab"; width = 3; side = Left } ∷ [])
    ≡ codes "Kaff  2ab "
three_fields = refl

dashes : rule 5 0x2D ≡ codes "-----"
dashes = refl

-- ## Commands

fresh : Encoding
fresh = record { set = 0; table = 0; choice = usual_tables; replacement = None }

-- The table that a line selects is in force in the next.
two_lines : lines_written fresh (codes "5€" ∷ codes "€" ∷ []) ≡ Ok (Char 0x35 ∷ set_to sets.Table 19 ∷ Char 0xD5 ∷ LineFeed ∷ Char 0xD5 ∷ LineFeed ∷ [])
unfolding fresh byte_for reads reads_low reads_high exchanged_bytes characters_in character_sets characters_of code_tables place_among place_for placed written lines_written
two_lines = refl

empty_line : lines_written fresh ([] ∷ []) ≡ Ok (LineFeed ∷ [])
unfolding written lines_written
empty_line = refl

-- The first bad character of the lines decides.
refused : lines_written (record fresh { choice = 19 ∷ 16 ∷ [] }) (codes "a" ∷ codes "b漢" ∷ codes "字" ∷ []) ≡ Err (NoCharacter 0x6F22)
unfolding fresh byte_for reads reads_low reads_high exchanged_bytes characters_in character_sets characters_of code_tables place_among place_for placed written lines_written
refused = refl
