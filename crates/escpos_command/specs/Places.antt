-- Places of faults: the reason for which a byte is refused follows from the bytes of its command before it.
use Rattle.std.specs.Prelude.{ℕ, Bool, List, [], ◌∷◌, ◌==◌, ◌&&◌, ◌||◌, length, nat_le, if◌then◌else◌, codes}
use Rattle.escpos_command.specs.declared.bytes.TheConstants.{ESC, GS}
use Rattle.escpos_command.specs.declared.fault.FaultReason.{FaultReason}
use Rattle.escpos_command.specs.declared.fault.FaultReason.TheVariants.{UnknownByte, UnknownCommand, BadParameter, BadBarcode, BadSize}

-- GS k begins a barcode, and GS v a raster.
abbrev pub begins_barcode : ℕ → ℕ → Bool
begins_barcode b letter = b == GS && letter == 0x6B

abbrev pub begins_raster : ℕ → ℕ → Bool
begins_raster b letter = b == GS && letter == 0x76

-- GS (, GS 8, GS v and ESC c take a second letter.
abbrev pub has_second_letter : ℕ → ℕ → Bool
has_second_letter b letter = b == GS && (letter == 0x28 || letter == 0x38) || begins_raster b letter || b == ESC && letter == 0x63

-- GS ( k begins a function of QR codes, GS ( L one of graphics, and GS 8 L one of graphics whose length has four bytes.
abbrev pub begins_qr : ℕ → ℕ → ℕ → Bool
begins_qr b letter third = b == GS && letter == 0x28 && third == 0x6B

abbrev pub begins_graphics : ℕ → ℕ → ℕ → Bool
begins_graphics b letter third = b == GS && letter == 0x28 && third == 0x4C

abbrev pub begins_long_graphics : ℕ → ℕ → ℕ → Bool
begins_long_graphics b letter third = b == GS && letter == 0x38 && third == 0x4C

-- After the length such a function has two further letters: cn and fn, or m and fn. Of the bytes of the length one stands before bs.
abbrev pub names_function : ℕ → ℕ → ℕ → List ℕ → Bool
names_function b letter third bs =
    (begins_qr b letter third || begins_graphics b letter third) && (length bs == 1 || length bs == 2)
    || begins_long_graphics b letter third && (length bs == 3 || length bs == 4)

-- The size of graphics follows the colour. No byte of their dots is refused.
abbrev pub follows_color : ℕ → ℕ → ℕ → List ℕ → Bool
follows_color b letter third bs =
    begins_graphics b letter third && nat_le 7 (length bs) || begins_long_graphics b letter third && nat_le 9 (length bs)

-- The reason for a byte that follows a half command, or begins a command.
abbrev pub reason_after : List ℕ → FaultReason
-- the first byte of a command
reason_after [] = UnknownByte
-- the letter after DLE, ESC, FS or GS
reason_after (b ∷ []) = UnknownCommand
-- the second letter after GS (, GS 8, GS v or ESC c, or a parameter
reason_after (b ∷ letter ∷ []) = if has_second_letter b letter then UnknownCommand else BadParameter
-- the length or the content of a barcode; the scale of a raster; or a later parameter, a fixed byte of a mark or its id
reason_after (b ∷ letter ∷ third ∷ []) = if begins_barcode b letter then BadBarcode else BadParameter
-- the content of a barcode; the size of a raster; the letters of a function; the size of graphics; or as above
reason_after (b ∷ letter ∷ third ∷ fourth ∷ bs) =
    if begins_barcode b letter then BadBarcode
    else if begins_raster b letter then BadSize
    else if names_function b letter third bs then UnknownCommand
    else if follows_color b letter third bs then BadSize
    else BadParameter

-- The numbers that programs print.
abbrev pub reason_number : FaultReason → ℕ
reason_number UnknownByte = 1
reason_number UnknownCommand = 2
reason_number BadParameter = 3
reason_number BadBarcode = 4
reason_number BadSize = 5

-- The names that programs print.
abbrev pub reason_name : FaultReason → List ℕ
reason_name UnknownByte = codes "UnknownByte"
reason_name UnknownCommand = codes "UnknownCommand"
reason_name BadParameter = codes "BadParameter"
reason_name BadBarcode = codes "BadBarcode"
reason_name BadSize = codes "BadSize"
