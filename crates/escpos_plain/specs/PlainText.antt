-- The paper as plain text: one line for each item, that of a row in the characters that it shows.
use Rattle.std.specs.Prelude.{ℕ, Bool, List, [], ◌∷◌, ◌++◌, codes, encode_utf8, flat_map}
use Rattle.std.specs.Option.{unwrap_or}
use Rattle.escpos_command.specs.declared.bytes.TheConstants.{LF}
use Rattle.escpos_paper.specs.declared.style.Placing.{Placing}
use Rattle.escpos_paper.specs.declared.cell.Cell.{Cell}
use Rattle.escpos_paper.specs.declared.item.Item.{Item}
use Rattle.escpos_paper.specs.declared.item.Item.TheVariants.{Row}
use Rattle.escpos_paper.specs.ItemsText.{align_name, upside_text, words}
use Rattle.escpos_layout.specs.OnPaper.{read_cell}

-- What stands for a character that isn't known.
abbrev pub unknown : ℕ
unknown = 0xFFFD

-- The character that a cell shows.
abbrev pub shown : Cell → ℕ
shown x = unwrap_or (read_cell x) unknown

-- The characters of cells in UTF-8.
abbrev pub plain_cells : List Cell → List ℕ
plain_cells cells = flat_map (λ x. encode_utf8 (shown x)) cells

-- What comes before the cells of a row: how it is aligned, and whether it is upside down.
abbrev pub row_start : Placing → Bool → List ℕ
row_start align upside_down = codes "row " ++ align_name align.side ++ codes " " ++ upside_text upside_down

-- The line of an item, without its end. Only that of a row differs from the line in the other text.
abbrev pub plain_words : Item → List ℕ
plain_words (Row align upside_down cells) = row_start align upside_down ++ plain_cells cells
plain_words item = words item

abbrev pub plain_text : Item → List ℕ
plain_text item = plain_words item ++ LF ∷ []

abbrev pub plain_items_text : List Item → List ℕ
plain_items_text items = flat_map plain_text items
