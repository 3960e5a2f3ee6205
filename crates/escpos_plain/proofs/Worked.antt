-- Worked rows, computed from the definitions alone.
use Rattle.std.proofs.Common.{◌≡◌, [], ◌∷◌, ◌++◌, refl, true, false}
use Rattle.std.specs.Prelude.{None, codes}
use Rattle.std.specs.Fmt.{digits}
use Rattle.escpos_command.specs.declared.parameter.choices.Alignment.TheVariants.{Left, Right}
use Rattle.escpos_paper.specs.declared.style.Placing.{Placing}
use Rattle.escpos_paper.specs.declared.item.Item.TheVariants.{Row, Feed, Cut}
use Rattle.escpos_paper.specs.Cells.{cell}
use Rattle.escpos_paper.specs.Styles.{power_on}
use Rattle.escpos_text.specs.CharacterSets.{exchanged_bytes, character_sets, characters_in}
use Rattle.escpos_text.specs.CodeTables.{code_tables, characters_of}
use Rattle.escpos_text.specs.Reading.{reads, reads_high, reads_low}
use Rattle.escpos_plain.specs.PlainText.{plain_items_text, plain_words}
use Rattle.escpos_plain.specs.Rows.{row_cells}

abbrev left : Placing
left = record { side = Left; margin = 0; width = None }

abbrev right : Placing
right = record { side = Right; margin = 0; width = None }

-- A euro sign by table 19, a 4, and an Ä by the set of Germany.
euro : plain_words (Row left false (cell (record power_on { table = 19 }) 0xD5 ∷ cell power_on 0x34 ∷ cell (record power_on { character_set = 2 }) 0x5B ∷ []))
    ≡ codes "row left " ++ 0xE2 ∷ 0x82 ∷ 0xAC ∷ 0x34 ∷ 0xC3 ∷ 0x84 ∷ []
unfolding reads reads_high reads_low characters_of code_tables exchanged_bytes characters_in character_sets lib.Utf8.encode
euro = refl

-- A byte that no table of the printer's is known to print, and a row that is upside down.
unknown_byte : plain_words (Row right true (cell (record power_on { table = 6 }) 0xD5 ∷ [])) ≡ codes "row right upside " ++ 0xEF ∷ 0xBF ∷ 0xBD ∷ []
unfolding reads reads_high characters_of code_tables lib.Utf8.encode
unknown_byte = refl

-- Items without cells are as in the other text.
others : plain_items_text (Feed 1 None ∷ Cut false None ∷ []) ≡ codes "feed 1\ncut full\n"
unfolding digits
others = refl

-- The cells of the rows, over a feed.
cells_of_rows : row_cells (Row left false (cell power_on 0x41 ∷ []) ∷ Feed 1 None ∷ Row left false (cell power_on 0x42 ∷ []) ∷ []) ≡ cell power_on 0x41 ∷ cell power_on 0x42 ∷ []
cells_of_rows = refl
