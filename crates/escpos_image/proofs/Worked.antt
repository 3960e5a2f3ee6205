-- Small pictures, worked through the definitions.
use Rattle.std.specs.Prelude.{◌≡◌, ◌++◌, true, false, [], ◌∷◌, Some, None, Ok, Err, codes, refl}
use Rattle.std.specs.Fmt.{digits}
use Rattle.hex.specs.Hex.{encode_with}
use Rattle.escpos_image.specs.declared.fault.ImageFault.TheVariants.{NotPicture, BadHeader, BadSize, BadMaximum, BadSample, CutShort}
use Rattle.escpos_image.specs.Grays.{grays_of}
use Rattle.escpos_image.specs.DotRows.{dot_rows}
use Rattle.escpos_image.specs.Samples.{sample_at, dot_at}
use Rattle.escpos_image.specs.Pictures.{picture_of}
use Rattle.escpos_image.specs.Scaling.{mean, scaled_row, scaled}
use Rattle.escpos_image.specs.Diffusion.{row_wants, diffused_rows}
use Rattle.escpos_image.specs.Shading.{diffused, shaded}
use Rattle.escpos_image.specs.Packing.{packed_byte, packed_row}
use Rattle.escpos_image.specs.Entries.{raster_entry, entry_line, entries_text}

-- ## Reading

plain_bitmap : picture_of (codes "P1\n# a\n3 2\n101\n0 1 #b\n0") ≡ Ok (grays_of 3 2 (0 ∷ 255 ∷ 0 ∷ 255 ∷ 0 ∷ 255 ∷ []))
unfolding picture_of dot_at sample_at
plain_bitmap = refl

plain_gray : picture_of (codes "P2 3 1 15 0\n15 7\n") ≡ Ok (grays_of 3 1 (0 ∷ 255 ∷ 119 ∷ []))
unfolding picture_of dot_at sample_at
plain_gray = refl

plain_colour : picture_of (codes "P3 2 1 255 255 0 0  0 255 0") ≡ Ok (grays_of 2 1 (76 ∷ 149 ∷ []))
unfolding picture_of dot_at sample_at
plain_colour = refl

raw_bitmap : picture_of (codes "P4\n10 2\n" ++ 0x80 ∷ 0x40 ∷ 0x01 ∷ 0xFF ∷ []) ≡ Ok (grays_of 10 2 (0 ∷ 255 ∷ 255 ∷ 255 ∷ 255 ∷ 255 ∷ 255 ∷ 255 ∷ 255 ∷ 0 ∷ 255 ∷ 255 ∷ 255 ∷ 255 ∷ 255 ∷ 255 ∷ 255 ∷ 0 ∷ 0 ∷ 0 ∷ []))
unfolding picture_of dot_at sample_at
raw_bitmap = refl

raw_gray : picture_of (codes "P5#c\r2 2 255 " ++ 0x00 ∷ 0x0A ∷ 0xFF ∷ 0x80 ∷ []) ≡ Ok (grays_of 2 2 (0 ∷ 10 ∷ 255 ∷ 128 ∷ []))
unfolding picture_of dot_at sample_at
raw_gray = refl

two_bytes : picture_of (codes "P5 1 2 65535\n" ++ 0x80 ∷ 0x00 ∷ 0xFF ∷ 0xFF ∷ []) ≡ Ok (grays_of 1 2 (127 ∷ 255 ∷ []))
unfolding picture_of dot_at sample_at
two_bytes = refl

raw_colour : picture_of (codes "P6 1 2 255\n" ++ 0x00 ∷ 0x00 ∷ 0xFF ∷ 0xFF ∷ 0xFF ∷ 0xFF ∷ []) ≡ Ok (grays_of 1 2 (29 ∷ 255 ∷ []))
unfolding picture_of dot_at sample_at
raw_colour = refl

what_follows : picture_of (codes "P5 1 1 255\n" ++ 0x07 ∷ codes " and more") ≡ Ok (grays_of 1 1 (7 ∷ []))
unfolding picture_of dot_at sample_at
what_follows = refl

no_picture : picture_of (codes "P7 1 1 ") ≡ Err NotPicture
unfolding picture_of
no_picture = refl

no_gap : picture_of (codes "P11 1 0") ≡ Err (BadHeader 2)
unfolding picture_of
no_gap = refl

no_end_of_comment : picture_of (codes "P1 # no end") ≡ Err (CutShort 11)
unfolding picture_of
no_end_of_comment = refl

no_number : picture_of (codes "P1 3 x2 ") ≡ Err (BadHeader 5)
unfolding picture_of
no_number = refl

no_rows : picture_of (codes "P1 1 65536 ") ≡ Err (BadSize 5)
unfolding picture_of
no_rows = refl

no_light : picture_of (codes "P2 1 1 0 0") ≡ Err (BadMaximum 7)
unfolding picture_of
no_light = refl

too_light : picture_of (codes "P2 2 1 9 9 10") ≡ Err (BadSample 11)
unfolding picture_of dot_at sample_at
too_light = refl

no_last_byte : picture_of (codes "P6 1 1 65535 " ++ 0x00 ∷ 0x00 ∷ 0x00 ∷ 0x00 ∷ 0x00 ∷ []) ≡ Err (CutShort 18)
unfolding picture_of dot_at sample_at
no_last_byte = refl

-- ## Scaling

-- Boxes of one column and of two.
two_of_three : scaled (grays_of 3 1 (10 ∷ 20 ∷ 30 ∷ [])) 2 ≡ grays_of 2 1 (10 ∷ 25 ∷ [])
unfolding scaled scaled_row mean
two_of_three = refl

one_of_four : scaled (grays_of 2 2 (1 ∷ 2 ∷ 3 ∷ 5 ∷ [])) 1 ≡ grays_of 1 1 (2 ∷ [])
unfolding scaled scaled_row mean
one_of_four = refl

no_wider : scaled (grays_of 3 1 (10 ∷ 20 ∷ 30 ∷ [])) 3 ≡ grays_of 3 1 (10 ∷ 20 ∷ 30 ∷ [])
unfolding scaled
no_wider = refl

-- ## Dots

by_threshold : shaded (Some 128) (grays_of 4 1 (127 ∷ 128 ∷ 0 ∷ 255 ∷ [])) ≡ dot_rows 4 1 (true ∷ false ∷ true ∷ false ∷ [])
unfolding shaded
by_threshold = refl

-- By hand: the first dot of 100 is black, so that 7/16 of 100 make the next one 143, which is white, and 112 too light.
by_diffusion : shaded None (grays_of 4 2 (100 ∷ 100 ∷ 100 ∷ 100 ∷ 100 ∷ 100 ∷ 100 ∷ 100 ∷ [])) ≡ dot_rows 4 2 (true ∷ false ∷ true ∷ true ∷ true ∷ false ∷ true ∷ false ∷ [])
unfolding shaded diffused diffused_rows row_wants
by_diffusion = refl

-- ## Entries

one_entry : entries_text (dot_rows 9 2 (true ∷ false ∷ false ∷ false ∷ false ∷ false ∷ false ∷ false ∷ true ∷ false ∷ true ∷ false ∷ false ∷ false ∷ false ∷ false ∷ false ∷ false ∷ [])) ≡ codes "{\"raster\":{\"scale\":\"normal\",\"x\":2,\"y\":2,\"dots\":\"80804000\"}}\n"
unfolding entries_text entry_line raster_entry packed_row packed_byte digits encode_with
one_entry = refl
