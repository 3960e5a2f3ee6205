-- How large a QR code is that holds a content. (ISO/IEC 18004, model 2: 6.3, 7.4, tables 3 and 7.)
use Rattle.std.specs.Prelude.{ℕ, ◌+◌, ◌*◌, ◌/◌, ◌%◌, ◌==◌, ◌&&◌, ◌||◌, Bool, nat_le, nat_lt, List, [], ◌∷◌, length, Option, None, Some, if◌then◌else◌}
use Rattle.std.specs.List.{list_all}
use Rattle.escpos_command.specs.Barcodes.{is_digit}
use Rattle.escpos_command.specs.declared.parameter.choices.Correction.{Correction}
use Rattle.escpos_command.specs.declared.parameter.choices.Correction.TheVariants.{L, M, Q, H}
use Rattle.escpos_barcode.specs.declared.qr.Packing.{Packing}
use Rattle.escpos_barcode.specs.declared.qr.Packing.TheVariants.{Digits, Alphanumeric, Bytes}

-- The characters of the alphanumeric packing: digits, capitals, space and $ % * + - . / :
abbrev pub is_alphanumeric : ℕ → Bool
is_alphanumeric b =
    is_digit b || nat_le 0x41 b && nat_le b 0x5A || b == 0x20 || b == 0x24 || b == 0x25 || b == 0x2A || b == 0x2B || b == 0x2D
    || b == 0x2E || b == 0x2F || b == 0x3A

-- All characters of a content are packed in one way, the one that takes the fewest bits.
abbrev pub packing_of : List ℕ → Packing
packing_of content =
    if list_all is_digit content then Digits else if list_all is_alphanumeric content then Alphanumeric else Bytes

-- The bits that n characters take: three digits in ten, two alphanumeric characters in eleven, a byte in eight. One digit that is left
-- over takes four and two take seven; one alphanumeric character takes six.
abbrev pub data_bits : Packing → ℕ → ℕ
data_bits Digits n = 10 * (n / 3) + (if n % 3 == 0 then 0 else 3 * (n % 3) + 1)
data_bits Alphanumeric n = 11 * (n / 2) + 6 * (n % 2)
data_bits Bytes n = 8 * n

-- The bits that the number of characters takes in a version.
abbrev pub count_bits : Packing → ℕ → ℕ
count_bits Digits version = if nat_lt version 10 then 10 else if nat_lt version 27 then 12 else 14
count_bits Alphanumeric version = if nat_lt version 10 then 9 else if nat_lt version 27 then 11 else 13
count_bits Bytes version = if nat_lt version 10 then 8 else 16

-- All bits of n characters in a version: four say how they are packed.
abbrev pub needed_bits : Packing → ℕ → ℕ → ℕ
needed_bits packing n version = 4 + count_bits packing version + data_bits packing n

-- The bytes for data in the versions 1 to 40, by the level of error correction.
unfoldable pub data_bytes : Correction → List ℕ
data_bytes L =
    19 ∷ 34 ∷ 55 ∷ 80 ∷ 108 ∷ 136 ∷ 156 ∷ 194 ∷ 232 ∷ 274 ∷ 324 ∷ 370 ∷ 428 ∷ 461 ∷ 523 ∷ 589 ∷ 647 ∷ 721 ∷ 795 ∷ 861 ∷ 932 ∷
    1006 ∷ 1094 ∷ 1174 ∷ 1276 ∷ 1370 ∷ 1468 ∷ 1531 ∷ 1631 ∷ 1735 ∷ 1843 ∷ 1955 ∷ 2071 ∷ 2191 ∷ 2306 ∷ 2434 ∷ 2566 ∷ 2702 ∷
    2812 ∷ 2956 ∷ []
data_bytes M =
    16 ∷ 28 ∷ 44 ∷ 64 ∷ 86 ∷ 108 ∷ 124 ∷ 154 ∷ 182 ∷ 216 ∷ 254 ∷ 290 ∷ 334 ∷ 365 ∷ 415 ∷ 453 ∷ 507 ∷ 563 ∷ 627 ∷ 669 ∷ 714 ∷
    782 ∷ 860 ∷ 914 ∷ 1000 ∷ 1062 ∷ 1128 ∷ 1193 ∷ 1267 ∷ 1373 ∷ 1455 ∷ 1541 ∷ 1631 ∷ 1725 ∷ 1812 ∷ 1914 ∷ 1992 ∷ 2102 ∷ 2216 ∷
    2334 ∷ []
data_bytes Q =
    13 ∷ 22 ∷ 34 ∷ 48 ∷ 62 ∷ 76 ∷ 88 ∷ 110 ∷ 132 ∷ 154 ∷ 180 ∷ 206 ∷ 244 ∷ 261 ∷ 295 ∷ 325 ∷ 367 ∷ 397 ∷ 445 ∷ 485 ∷ 512 ∷
    568 ∷ 614 ∷ 664 ∷ 718 ∷ 754 ∷ 808 ∷ 871 ∷ 911 ∷ 985 ∷ 1033 ∷ 1115 ∷ 1171 ∷ 1231 ∷ 1286 ∷ 1354 ∷ 1426 ∷ 1502 ∷ 1582 ∷
    1666 ∷ []
data_bytes H =
    9 ∷ 16 ∷ 26 ∷ 36 ∷ 46 ∷ 60 ∷ 66 ∷ 86 ∷ 100 ∷ 122 ∷ 140 ∷ 158 ∷ 180 ∷ 197 ∷ 223 ∷ 253 ∷ 283 ∷ 313 ∷ 341 ∷ 385 ∷ 406 ∷ 442 ∷
    464 ∷ 514 ∷ 538 ∷ 596 ∷ 628 ∷ 661 ∷ 701 ∷ 745 ∷ 793 ∷ 845 ∷ 901 ∷ 961 ∷ 986 ∷ 1054 ∷ 1096 ∷ 1142 ∷ 1222 ∷ 1276 ∷ []

-- The first version that holds n characters, of those from this one on that have so many bytes.
abbrev pub first_that_holds : Packing → ℕ → ℕ → List ℕ → Option ℕ
first_that_holds packing n version [] = None
first_that_holds packing n version (bytes ∷ more) =
    if nat_le (needed_bits packing n version) (8 * bytes) then Some version else first_that_holds packing n (version + 1) more

-- The smallest version that holds a content; none holds one that is too long.
abbrev pub version_of : Correction → List ℕ → Option ℕ
version_of level content = first_that_holds (packing_of content) (length content) 1 (data_bytes level)

-- The modules along each side of a version: 21 in version 1, and 4 more in each that follows.
abbrev pub side_of : Option ℕ → Option ℕ
side_of None = None
side_of (Some version) = Some (17 + 4 * version)

-- The modules along each side of the smallest QR code that holds a content.
abbrev pub qr_modules : Correction → List ℕ → Option ℕ
qr_modules level content = side_of (version_of level content)
