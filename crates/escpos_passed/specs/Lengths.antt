-- How many bytes follow the prefix of a command that is passed over, as its first bytes tell.
use Rattle.std.proofs.Common.{zero, suc}
use Rattle.std.specs.Prelude.{ℕ, ◌+◌, ◌-◌, ◌*◌, ◌==◌, nat_lt, List, [], ◌∷◌, length, take, drop, slice_index, if◌then◌else◌, Option, None, Some}
use Rattle.std.specs.Option.{option_map, option_and_then}
use Rattle.escpos_passed.specs.declared.table.Number.{Number}
use Rattle.escpos_passed.specs.declared.table.Number.TheVariants as number
use Rattle.escpos_passed.specs.declared.table.Counted.{Counted}
use Rattle.escpos_passed.specs.declared.table.Form.{Form}
use Rattle.escpos_passed.specs.declared.table.Form.TheVariants as form

abbrev pub number_in : Number → List ℕ → ℕ
number_in (number.Byte at) bs = slice_index bs at
number_in (number.Word at) bs = slice_index bs at + 256 * slice_index bs (at + 1)

-- A further factor of a length: 1 where there is none.
abbrev pub factor : Option Number → List ℕ → ℕ
factor None bs = 1
factor (Some n) bs = number_in n bs

-- The length of the data that these bytes tell.
abbrev pub data_length : Counted → List ℕ → ℕ
data_length c bs = c.unit * number_in c.number bs * factor c.again bs

-- Some bytes that tell the length of data, and the data.
abbrev pub told_length : ℕ → (List ℕ → ℕ) → List ℕ → Option ℕ
told_length before tell bs = if nat_lt (length bs) before then None else Some (before + tell (take before bs))

abbrev pub counted_length : Counted → List ℕ → Option ℕ
counted_length c bs = told_length c.before (data_length c) bs

-- The number that the four bytes from a place on are.
abbrev pub long_in : ℕ → List ℕ → ℕ
long_in at bs = slice_index bs at + 256 * slice_index bs (at + 1) + 65536 * slice_index bs (at + 2) + 16777216 * slice_index bs (at + 3)

abbrev pub long_length : ℕ → ℕ → ℕ → List ℕ → Option ℕ
long_length before at less bs = told_length before (λ told. long_in at told - less) bs

-- Up to and with the last of this many bytes of one value.
abbrev pub length_until : ℕ → ℕ → List ℕ → Option ℕ
length_until end zero bs = Some 0
length_until end (suc n) [] = None
length_until end (suc n) (b ∷ bs) = option_map suc (if b == end then length_until end n bs else length_until end (suc n) bs)

-- So many parts of one kind, one after another.
abbrev pub repeated_length : Counted → ℕ → List ℕ → Option ℕ
repeated_length c zero bs = Some 0
repeated_length c (suc n) bs = option_and_then (λ k. option_map (λ m. k + m) (repeated_length c n (drop k bs))) (counted_length c bs)

-- A picture of FS q: its size in bytes of eight dots, across and down.
abbrev pub one_picture : Counted
one_picture = record {
  before = 4;
  number = number.Word 0;
  again = Some (number.Word 2);
  unit = 8;
}

-- A character of ESC &, y bytes high.
abbrev pub one_character : ℕ → Counted
one_character y = record {
  before = 1;
  number = number.Byte 0;
  again = None;
  unit = y;
}

abbrev pub pictures_length : List ℕ → Option ℕ
pictures_length [] = None
pictures_length (n ∷ bs) = option_map (λ m. 1 + m) (repeated_length one_picture n bs)

abbrev pub characters_length : List ℕ → Option ℕ
characters_length [] = None
characters_length (y ∷ []) = None
characters_length (y ∷ first ∷ []) = None
characters_length (y ∷ first ∷ last ∷ bs) = option_map (λ m. 3 + m) (repeated_length (one_character y) (last + 1 - first) bs)

-- How many bytes there are, of which these are the first; nothing where these don't tell.
abbrev pub whole_length : Form → List ℕ → Option ℕ
whole_length (form.Fixed n) bs = Some n
whole_length (form.Until end times) bs = length_until end times bs
whole_length (form.Counted c) bs = counted_length c bs
whole_length (form.Long before at less) bs = long_length before at less bs
whole_length form.Pictures bs = pictures_length bs
whole_length form.Characters bs = characters_length bs
