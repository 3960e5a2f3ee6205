-- Raw bitmaps are read row by row.
use Rattle.std.proofs.Common.{◌≡◌, ℕ, zero, suc, ◌+◌, ◌-◌, ◌*◌, ◌<◌, ◌≤◌, Bool, false, List, ◌∷◌, ◌++◌, length, map, take, drop, Ok, refl, sym, ap, ◌∙◌, append_assoc, arith}
use Rattle.std.proofs.Math.Seq.{take-add}
use Rattle.std.proofs.lemmas.Nat.{mul-add-lt}
use Rattle.std.proofs.lemmas.List.{drop-drop, drop_at, length-take, length-drop, take_all, map-append}
use Rattle.std.proofs.lemmas.List.FromFn.{length-map-range_with_len}
use Rattle.escpos_image.specs.declared.header.Format.TheVariants.{RawBitmap}
use Rattle.escpos_image.specs.declared.header.Layout.TheVariants.{Bits}
use Rattle.escpos_image.specs.declared.header.Header.{Header}
use Rattle.escpos_image.specs.declared.scan.Number.{Number}
use Rattle.escpos_image.specs.DotRows.{DotRows, IsDotRows}
use Rattle.escpos_image.specs.Grays.{grays_of}
use Rattle.escpos_image.specs.Pictures.{after, dots_at, picture_of}
use Rattle.escpos_image.specs.Packing.{row_bytes, packed_byte, row_of, row_packed, packed_row, packed_rows}
use Rattle.escpos_image.specs.Format.{IsRawBitmap, dot_gray}
use Rattle.escpos_image.proofs.Fields.{IsReadField, first_field, field_after, read_size, read_start, read_header, read_format}
use Rattle.escpos_image.proofs.RawPictures.{IsRead, whole_picture}
use Rattle.escpos_image.proofs.Bitmaps.{IsOfBitmap, whole_row_is_read}

length_of_row : (p : DotRows) (j : ℕ) → IsDotRows p → j < p.height → length (row_of p j) ≡ p.width
length_of_row p j whole inside =
    let within = mul-add-lt j p.width (p.width - 1) p.height inside (omega (arith, whole.wide)) in
    length-take p.width (drop (j * p.width) p.dots) ∙ omega (arith, length-drop (j * p.width) p.dots, whole.whole, whole.wide)

row_of_its_length : (p : DotRows) (j : ℕ) → length (row_of p j) ≡ p.width → packed_row p j ≡ row_packed (row_of p j) (row_bytes (length (row_of p j)))
unfolding packed_row
row_of_its_length p j long = ap (λ n. row_packed (row_of p j) (row_bytes n)) (sym long)

-- The dots from a row on.
abbrev dots_from : DotRows → ℕ → List Bool
dots_from p j = drop (j * p.width) p.dots

one_more_row : (p : DotRows) (first rows : ℕ) → map dot_gray (row_of p first) ++ map dot_gray (take (p.width * rows) (dots_from p (first + 1))) ≡ map dot_gray (take (p.width * suc rows) (dots_from p first))
one_more_row p first rows =
    let n : p.width + p.width * rows ≡ p.width * suc rows = omega arith in
    let next : first * p.width + p.width ≡ (first + 1) * p.width = omega arith in
    let rest : drop p.width (dots_from p first) ≡ dots_from p (first + 1) = drop-drop p.width (first * p.width) p.dots ∙ ap (λ k. drop k p.dots) next in
    sym (map-append dot_gray (row_of p first) (take (p.width * rows) (dots_from p (first + 1))))
    ∙ ap (λ xs. map dot_gray (row_of p first ++ take (p.width * rows) xs)) (sym rest)
    ∙ ap (map dot_gray) (sym (take-add p.width (p.width * rows) (dots_from p first)))
    ∙ ap (λ k. map dot_gray (take k (dots_from p first))) n

rows_are_read : (rows : ℕ) (p : DotRows) (header : Header) (bytes : List ℕ) (first place : ℕ) (more : List ℕ) → IsDotRows p → IsOfBitmap header p.width → first + rows ≤ p.height → drop place bytes ≡ packed_rows p first rows ++ more → dots_at header bytes (p.width * rows) place 0 ≡ Ok (map dot_gray (take (p.width * rows) (dots_from p first)))
rows_are_read zero p header bytes first place more whole h few there =
    let n : p.width * 0 ≡ 0 = omega arith in
    ap (λ k. dots_at header bytes k place 0) n ∙ sym (ap (λ k. Ok (map dot_gray (take k (dots_from p first)))) n)
rows_are_read (suc rows) p header bytes first place more whole h few there =
    let row = row_of p first in
    let long : length row ≡ p.width = length_of_row p first whole (omega arith) in
    let some : 1 ≤ length row = omega (arith, whole.wide) in
    let n : p.width * suc rows ≡ length row + p.width * rows = omega arith in
    let count = row_bytes (length row) in
    let packed = row_packed row count in
    let rest = packed_rows p (first + 1) rows ++ more in
    let here : drop place bytes ≡ packed ++ rest =
    there ∙ append_assoc (packed_row p first) (packed_rows p (first + 1) rows) more ∙ ap (λ xs. xs ++ rest) (row_of_its_length p first long) in
    let below : drop (place + count) bytes ≡ rest =
    sym (drop-drop count place bytes) ∙ ap (drop count) here ∙ drop_at packed rest count (length-map-range_with_len (packed_byte row) 0 count) in
    let of_row : IsOfBitmap header (length row) = record { layout = h.layout; colour = h.colour; maximum = h.maximum; wide = h.wide ∙ sym long } in
    ap (λ k. dots_at header bytes k place 0) n ∙ whole_row_is_read header bytes place (p.width * rows) row rest some of_row here
    ∙ ap (after (map dot_gray row)) (rows_are_read rows p header bytes (first + 1) (place + count) more whole h (omega arith) below)
    ∙ ap Ok (one_more_row p first rows)

abbrev bitmap_header : ℕ → ℕ → ℕ → Header
bitmap_header width height start = record { layout = Bits; is_colour = false; width = width; height = height; maximum = 1; start = start }

abbrev number : ℕ → ℕ → ℕ → Number
number start end value = record { start = start; end = end; value = value }

fields_are_read : (bytes : List ℕ) (width height : ℕ) (rows : List ℕ) (raw : IsRawBitmap bytes width height rows) (w : IsReadField bytes 2 width raw.after_width) (h : IsReadField bytes w.end height (raw.blank ∷ (rows ++ raw.more))) → (start : ℕ) × IsRead bytes (bitmap_header width height start) rows
fields_are_read bytes width height rows raw w h = (
  h.end + 1,
  record {
    is = read_header bytes RawBitmap (number w.start w.end width) (number h.start h.end height) (number h.end h.end 1) (h.end + 1)
        (read_format bytes 0x34 raw.after_magic RawBitmap raw.magic refl)
        (read_size bytes 2 (number w.start w.end width) w.reads raw.has_width.positive raw.has_width.small)
        (read_size bytes w.end (number h.start h.end height) h.reads raw.has_height.positive raw.has_height.small)
        refl
        (read_start RawBitmap bytes h.end raw.blank (rows ++ raw.more) refl h.rest raw.is_blank);
    more = raw.more;
    there = sym (drop-drop 1 h.end bytes) ∙ ap (drop 1) h.rest;
  },
)

after_width : (bytes : List ℕ) (width height : ℕ) (rows : List ℕ) (raw : IsRawBitmap bytes width height rows) → IsReadField bytes 2 width raw.after_width → (start : ℕ) × IsRead bytes (bitmap_header width height start) rows
after_width bytes width height rows raw w =
    fields_are_read bytes width height rows raw w (field_after bytes 2 width raw.after_width w height (raw.blank ∷ (rows ++ raw.more)) raw.has_height)

bitmap_is_read : (bytes : List ℕ) (width height : ℕ) (rows : List ℕ) → IsRawBitmap bytes width height rows → (start : ℕ) × IsRead bytes (bitmap_header width height start) rows
bitmap_is_read bytes width height rows raw =
    after_width bytes width height rows raw (first_field bytes 0x34 raw.after_magic width raw.after_width raw.magic raw.has_width)

pub raw_bitmap_is_read : (bytes : List ℕ) (p : DotRows) → IsDotRows p → IsRawBitmap bytes p.width p.height (packed_rows p 0 p.height) → picture_of bytes ≡ Ok (grays_of p.width p.height (map dot_gray p.dots))
raw_bitmap_is_read bytes p whole raw =
    let read = bitmap_is_read bytes p.width p.height (packed_rows p 0 p.height) raw in
    let header = bitmap_header p.width p.height read.0 in
    let of_bitmap : IsOfBitmap header p.width = record { layout = refl; colour = refl; maximum = refl; wide = refl } in
    let start : 0 * p.width ≡ 0 = omega arith in
    whole_picture bytes header (map dot_gray p.dots) read.1.is
    (rows_are_read p.height p header bytes 0 read.0 read.1.more whole of_bitmap (omega arith) read.1.there
    ∙ ap (λ k. Ok (map dot_gray (take (p.width * p.height) (drop k p.dots)))) start
    ∙ ap (λ xs. Ok (map dot_gray xs)) (take_all (p.width * p.height) p.dots (omega (arith, whole.whole))))
