-- The cells of the rows on paper, and what they show of a receipt's strings.
use Rattle.std.specs.Prelude.{ℕ, ◌≡◌, ◌≢◌, List, [], flat_map, filter_map, map, chars, All, Bool, true, false, Option, Some, None}
use Rattle.std.specs.List.{AllByRecursion}
use Rattle.unicode_normalization.specs.Forms.{nfc}
use Rattle.serde_json.specs.Data.{Data, array}
use Rattle.serde_json.specs.View.{items_of}
use Rattle.escpos_command.specs.declared.command.Command.{Command}
use Rattle.escpos_command.specs.declared.command.Command.TheVariants.{Init}
use Rattle.escpos_paper.specs.declared.cell.Cell.{Cell}
use Rattle.escpos_paper.specs.declared.item.Item.{Item}
use Rattle.escpos_paper.specs.declared.item.Item.TheVariants.{Row}
use Rattle.escpos_paper.specs.Cells.{cell}
use Rattle.escpos_receipt.specs.Describes.{IsJson}
use Rattle.escpos_layout.specs.OnPaper.{read_cell}
use Rattle.escpos_receipt.specs.declared.member.Member.{Member}
use Rattle.escpos_receipt.specs.declared.member.Member.TheVariants as has
use Rattle.escpos_receipt.specs.Entries.{member_of}
use Rattle.escpos_receipt.specs.ReadBack.{string_of}

-- A cell without its place.
abbrev pub unplaced : Cell → Cell
unplaced x = cell x.style x.byte

-- The cells of an item without their places: those of a row, and none of any other item.
abbrev pub cells_on : Item → List Cell
cells_on (Row align upside_down cells) = map unplaced cells
cells_on item = []

-- The cells of all rows, one after another.
abbrev pub row_cells : List Item → List Cell
row_cells items = flat_map cells_on items

-- None of the commands is an Init, which drops the line.
abbrev pub NoInit : List Command → Type 0
NoInit cs = AllByRecursion (λ c. c ≢ Init) cs

-- The composed form of each string among these entries, one after another.
abbrev pub all_strings : List Data → List ℕ
all_strings entries = flat_map (λ string. nfc (chars string)) (filter_map string_of entries)

-- Whether an entry is a layout, whose lines have blanks that stand in no string.
abbrev pub is_layout_member : Option (Member × Data) → Bool
is_layout_member None = false
is_layout_member (Some (has.Pair, v)) = true
is_layout_member (Some (has.Row, v)) = true
is_layout_member (Some (has.Rule, v)) = true
is_layout_member (Some (has.Wrap, v)) = true
is_layout_member (Some m) = false

abbrev pub is_layout : Data → Bool
is_layout d = is_layout_member (member_of d)

abbrev pub NoLayout : List Data → Type 0
NoLayout ds = AllByRecursion (λ d. is_layout d ≡ false) ds

-- The rows show the strings of a receipt's text: if there is no layout, their characters, one after another, are those of the strings.
abbrev pub ShowsStrings : List ℕ → List Item → Type 0
ShowsStrings text items =
    (entries : List Data) × IsJson text (array (items_of entries))
    × (NoLayout entries → All (λ c. c ≢ 0xA0) (all_strings entries) → map read_cell (row_cells items) ≡ map (λ c. Some c) (all_strings entries))
