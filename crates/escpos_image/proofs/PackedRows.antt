-- Bytes of rows: each dot is its bit, every row has its bytes, and bands have all rows.
use Rattle.std.proofs.Common.{◌≡◌, ℕ, zero, suc, ◌+◌, ◌-◌, ◌*◌, ◌/◌, ◌%◌, ◌^◌, ◌<◌, ◌≤◌, min, Bool, true, false, List, ◌++◌, length, flat_map, get_or, cond, sym, ap, ◌∙◌, append_assoc, length-append, arith}
use Rattle.std.specs.List.{range_with_len}
use Rattle.std.proofs.lemmas.List.FromFn.{length-map-range_with_len}
use Rattle.escpos_command.specs.declared.raster.TheConstants.{HIGHEST}
use Rattle.escpos_image.specs.DotRows.{DotRows}
use Rattle.escpos_image.specs.Samples.{bit_of}
use Rattle.escpos_image.specs.Packing.{bit, packed_byte, packed_row, packed_rows, row_bytes, row_of}
use Rattle.escpos_image.specs.Entries.{band_count, band_rows}
use Rattle.escpos_image.proofs.Ranges.{flat_map_front}

abbrev black : Bool → ℕ
black b = cond b 1 0

one_bit : (b : Bool) → black b ≤ 1
one_bit true = omega arith
one_bit false = omega arith

place_0 : (b0 b1 b2 b3 b4 b5 b6 b7 : ℕ) → b0 ≤ 1 → b1 ≤ 1 → b2 ≤ 1 → b3 ≤ 1 → b4 ≤ 1 → b5 ≤ 1 → b6 ≤ 1 → b7 ≤ 1 → (128 * b0 + 64 * b1 + 32 * b2 + 16 * b3 + 8 * b4 + 4 * b5 + 2 * b6 + b7) / 128 % 2 ≡ b0
place_0 b0 b1 b2 b3 b4 b5 b6 b7 h0 h1 h2 h3 h4 h5 h6 h7 = omega arith

place_1 : (b0 b1 b2 b3 b4 b5 b6 b7 : ℕ) → b0 ≤ 1 → b1 ≤ 1 → b2 ≤ 1 → b3 ≤ 1 → b4 ≤ 1 → b5 ≤ 1 → b6 ≤ 1 → b7 ≤ 1 → (128 * b0 + 64 * b1 + 32 * b2 + 16 * b3 + 8 * b4 + 4 * b5 + 2 * b6 + b7) / 64 % 2 ≡ b1
place_1 b0 b1 b2 b3 b4 b5 b6 b7 h0 h1 h2 h3 h4 h5 h6 h7 = omega arith

place_2 : (b0 b1 b2 b3 b4 b5 b6 b7 : ℕ) → b0 ≤ 1 → b1 ≤ 1 → b2 ≤ 1 → b3 ≤ 1 → b4 ≤ 1 → b5 ≤ 1 → b6 ≤ 1 → b7 ≤ 1 → (128 * b0 + 64 * b1 + 32 * b2 + 16 * b3 + 8 * b4 + 4 * b5 + 2 * b6 + b7) / 32 % 2 ≡ b2
place_2 b0 b1 b2 b3 b4 b5 b6 b7 h0 h1 h2 h3 h4 h5 h6 h7 = omega arith

place_3 : (b0 b1 b2 b3 b4 b5 b6 b7 : ℕ) → b0 ≤ 1 → b1 ≤ 1 → b2 ≤ 1 → b3 ≤ 1 → b4 ≤ 1 → b5 ≤ 1 → b6 ≤ 1 → b7 ≤ 1 → (128 * b0 + 64 * b1 + 32 * b2 + 16 * b3 + 8 * b4 + 4 * b5 + 2 * b6 + b7) / 16 % 2 ≡ b3
place_3 b0 b1 b2 b3 b4 b5 b6 b7 h0 h1 h2 h3 h4 h5 h6 h7 = omega arith

place_4 : (b0 b1 b2 b3 b4 b5 b6 b7 : ℕ) → b0 ≤ 1 → b1 ≤ 1 → b2 ≤ 1 → b3 ≤ 1 → b4 ≤ 1 → b5 ≤ 1 → b6 ≤ 1 → b7 ≤ 1 → (128 * b0 + 64 * b1 + 32 * b2 + 16 * b3 + 8 * b4 + 4 * b5 + 2 * b6 + b7) / 8 % 2 ≡ b4
place_4 b0 b1 b2 b3 b4 b5 b6 b7 h0 h1 h2 h3 h4 h5 h6 h7 = omega arith

place_5 : (b0 b1 b2 b3 b4 b5 b6 b7 : ℕ) → b0 ≤ 1 → b1 ≤ 1 → b2 ≤ 1 → b3 ≤ 1 → b4 ≤ 1 → b5 ≤ 1 → b6 ≤ 1 → b7 ≤ 1 → (128 * b0 + 64 * b1 + 32 * b2 + 16 * b3 + 8 * b4 + 4 * b5 + 2 * b6 + b7) / 4 % 2 ≡ b5
place_5 b0 b1 b2 b3 b4 b5 b6 b7 h0 h1 h2 h3 h4 h5 h6 h7 = omega arith

place_6 : (b0 b1 b2 b3 b4 b5 b6 b7 : ℕ) → b0 ≤ 1 → b1 ≤ 1 → b2 ≤ 1 → b3 ≤ 1 → b4 ≤ 1 → b5 ≤ 1 → b6 ≤ 1 → b7 ≤ 1 → (128 * b0 + 64 * b1 + 32 * b2 + 16 * b3 + 8 * b4 + 4 * b5 + 2 * b6 + b7) / 2 % 2 ≡ b6
place_6 b0 b1 b2 b3 b4 b5 b6 b7 h0 h1 h2 h3 h4 h5 h6 h7 = omega arith

place_7 : (b0 b1 b2 b3 b4 b5 b6 b7 : ℕ) → b0 ≤ 1 → b1 ≤ 1 → b2 ≤ 1 → b3 ≤ 1 → b4 ≤ 1 → b5 ≤ 1 → b6 ≤ 1 → b7 ≤ 1 → (128 * b0 + 64 * b1 + 32 * b2 + 16 * b3 + 8 * b4 + 4 * b5 + 2 * b6 + b7) / 1 % 2 ≡ b7
place_7 b0 b1 b2 b3 b4 b5 b6 b7 h0 h1 h2 h3 h4 h5 h6 h7 = omega arith

small : (row : List Bool) (i : ℕ) → bit row i ≤ 1
small row i = one_bit (get_or row i false)

at_place : (row : List Bool) (k r : ℕ) → r < 8 → packed_byte row k / 2 ^ (7 - r) % 2 ≡ bit row (8 * k + r)
unfolding packed_byte
at_place row k zero inside =
    place_0 (bit row (8 * k)) (bit row (8 * k + 1)) (bit row (8 * k + 2)) (bit row (8 * k + 3)) (bit row (8 * k + 4)) (bit row (8 * k + 5)) (bit row (8 * k + 6)) (bit row (8 * k + 7)) (small row (8 * k)) (small row (8 * k + 1)) (small row (8 * k + 2)) (small row (8 * k + 3)) (small row (8 * k + 4)) (small row (8 * k + 5)) (small row (8 * k + 6)) (small row (8 * k + 7)) ∙ ap (bit row) (omega arith)
at_place row k (suc zero) inside =
    place_1 (bit row (8 * k)) (bit row (8 * k + 1)) (bit row (8 * k + 2)) (bit row (8 * k + 3)) (bit row (8 * k + 4)) (bit row (8 * k + 5)) (bit row (8 * k + 6)) (bit row (8 * k + 7)) (small row (8 * k)) (small row (8 * k + 1)) (small row (8 * k + 2)) (small row (8 * k + 3)) (small row (8 * k + 4)) (small row (8 * k + 5)) (small row (8 * k + 6)) (small row (8 * k + 7))
at_place row k (suc (suc zero)) inside =
    place_2 (bit row (8 * k)) (bit row (8 * k + 1)) (bit row (8 * k + 2)) (bit row (8 * k + 3)) (bit row (8 * k + 4)) (bit row (8 * k + 5)) (bit row (8 * k + 6)) (bit row (8 * k + 7)) (small row (8 * k)) (small row (8 * k + 1)) (small row (8 * k + 2)) (small row (8 * k + 3)) (small row (8 * k + 4)) (small row (8 * k + 5)) (small row (8 * k + 6)) (small row (8 * k + 7))
at_place row k (suc (suc (suc zero))) inside =
    place_3 (bit row (8 * k)) (bit row (8 * k + 1)) (bit row (8 * k + 2)) (bit row (8 * k + 3)) (bit row (8 * k + 4)) (bit row (8 * k + 5)) (bit row (8 * k + 6)) (bit row (8 * k + 7)) (small row (8 * k)) (small row (8 * k + 1)) (small row (8 * k + 2)) (small row (8 * k + 3)) (small row (8 * k + 4)) (small row (8 * k + 5)) (small row (8 * k + 6)) (small row (8 * k + 7))
at_place row k (suc (suc (suc (suc zero)))) inside =
    place_4 (bit row (8 * k)) (bit row (8 * k + 1)) (bit row (8 * k + 2)) (bit row (8 * k + 3)) (bit row (8 * k + 4)) (bit row (8 * k + 5)) (bit row (8 * k + 6)) (bit row (8 * k + 7)) (small row (8 * k)) (small row (8 * k + 1)) (small row (8 * k + 2)) (small row (8 * k + 3)) (small row (8 * k + 4)) (small row (8 * k + 5)) (small row (8 * k + 6)) (small row (8 * k + 7))
at_place row k (suc (suc (suc (suc (suc zero))))) inside =
    place_5 (bit row (8 * k)) (bit row (8 * k + 1)) (bit row (8 * k + 2)) (bit row (8 * k + 3)) (bit row (8 * k + 4)) (bit row (8 * k + 5)) (bit row (8 * k + 6)) (bit row (8 * k + 7)) (small row (8 * k)) (small row (8 * k + 1)) (small row (8 * k + 2)) (small row (8 * k + 3)) (small row (8 * k + 4)) (small row (8 * k + 5)) (small row (8 * k + 6)) (small row (8 * k + 7))
at_place row k (suc (suc (suc (suc (suc (suc zero)))))) inside =
    place_6 (bit row (8 * k)) (bit row (8 * k + 1)) (bit row (8 * k + 2)) (bit row (8 * k + 3)) (bit row (8 * k + 4)) (bit row (8 * k + 5)) (bit row (8 * k + 6)) (bit row (8 * k + 7)) (small row (8 * k)) (small row (8 * k + 1)) (small row (8 * k + 2)) (small row (8 * k + 3)) (small row (8 * k + 4)) (small row (8 * k + 5)) (small row (8 * k + 6)) (small row (8 * k + 7))
at_place row k (suc (suc (suc (suc (suc (suc (suc zero))))))) inside =
    place_7 (bit row (8 * k)) (bit row (8 * k + 1)) (bit row (8 * k + 2)) (bit row (8 * k + 3)) (bit row (8 * k + 4)) (bit row (8 * k + 5)) (bit row (8 * k + 6)) (bit row (8 * k + 7)) (small row (8 * k)) (small row (8 * k + 1)) (small row (8 * k + 2)) (small row (8 * k + 3)) (small row (8 * k + 4)) (small row (8 * k + 5)) (small row (8 * k + 6)) (small row (8 * k + 7))
at_place row k (suc (suc (suc (suc (suc (suc (suc (suc r)))))))) inside = absurd (omega arith)

pub dot_is_bit : (row : List Bool) (i : ℕ) → bit_of (packed_byte row (i / 8)) i ≡ bit row i
dot_is_bit row i = at_place row (i / 8) (i % 8) (omega arith) ∙ ap (bit row) (omega arith)

length_row : (p : DotRows) (j : ℕ) → length (packed_row p j) ≡ row_bytes p.width
unfolding packed_row
length_row p j = length-map-range_with_len (packed_byte (row_of p j)) 0 (row_bytes p.width)

pub length_rows : (p : DotRows) (first rows : ℕ) → length (packed_rows p first rows) ≡ row_bytes p.width * rows
length_rows p first zero = omega arith
length_rows p first (suc rows) =
    length-append (packed_row p first) (packed_rows p (first + 1) rows)
    ∙ omega (arith, length_row p first, length_rows p (first + 1) rows)

rows_join : (p : DotRows) (first rows more : ℕ) → packed_rows p first rows ++ packed_rows p (first + rows) more ≡ packed_rows p first (rows + more)
rows_join p first zero more = let a : first + 0 ≡ first = omega arith in let b : more ≡ 0 + more = omega arith in ap (λ k. packed_rows p k more) a ∙ ap (packed_rows p first) b
rows_join p first (suc rows) more =
    let a : first + suc rows ≡ first + 1 + rows = omega arith in
    let b : suc rows + more ≡ suc (rows + more) = omega arith in
    append_assoc (packed_row p first) (packed_rows p (first + 1) rows) (packed_rows p (first + suc rows) more)
    ∙ ap (λ k. packed_row p first ++ (packed_rows p (first + 1) rows ++ packed_rows p k more)) a
    ∙ ap (λ bytes. packed_row p first ++ bytes) (rows_join p (first + 1) rows more) ∙ ap (packed_rows p first) (sym b)

abbrev band : DotRows → ℕ → List ℕ
band p b = packed_rows p (b * HIGHEST) (band_rows p.height b)

-- The first bands have the first rows.
front_bands : (p : DotRows) (count : ℕ) → count ≤ band_count p.height → flat_map (band p) (range_with_len 0 count) ≡ packed_rows p 0 (min p.height (count * HIGHEST))
front_bands p zero h = let e : 0 ≡ min p.height (0 * HIGHEST) = omega arith in ap (packed_rows p 0) e
front_bands p (suc count) h =
    let n : suc count ≡ count + 1 = omega arith in
    let before : min p.height (count * HIGHEST) ≡ count * HIGHEST = omega arith in
    let here : count * HIGHEST ≡ 0 + count * HIGHEST = omega arith in
    let after : count * HIGHEST + band_rows p.height count ≡ min p.height (suc count * HIGHEST) = omega arith in
    ap (λ k. flat_map (band p) (range_with_len 0 k)) n ∙ sym (flat_map_front (band p) count)
    ∙ ap (λ bytes. bytes ++ band p count) (front_bands p count (omega arith) ∙ ap (packed_rows p 0) before)
    ∙ ap (λ k. packed_rows p 0 (count * HIGHEST) ++ packed_rows p k (band_rows p.height count)) here
    ∙ rows_join p 0 (count * HIGHEST) (band_rows p.height count) ∙ ap (packed_rows p 0) after

pub all_bands : (p : DotRows) → flat_map (band p) (range_with_len 0 (band_count p.height)) ≡ packed_rows p 0 p.height
all_bands p =
    let e : min p.height (band_count p.height * HIGHEST) ≡ p.height = omega arith in
    front_bands p (band_count p.height) (omega arith) ∙ ap (packed_rows p 0) e
