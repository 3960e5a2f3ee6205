-- The code tables of Windows, and KZ-1048, which is made like them.
-- Each has the characters of the bytes 80 to FF as Unicode or their maker publishes them, and 0 where a place is open.
use Rattle.std.specs.Prelude.{ℕ, List, codes, ◌++◌, ◌∷◌, [], replicate}
use Rattle.std.specs.List.{range_with_len}

-- Table 16, WPC1252 (Western Europe).
abbrev pub wpc1252 : List ℕ
wpc1252 =
    codes "€" ++ 0 ∷ codes "‚ƒ„…†‡ˆ‰Š‹Œ" ++ 0 ∷ codes "Ž" ++ 0 ∷ 0 ∷ codes "‘’“”•–—˜™š›œ" ++ 0 ∷ codes "žŸ"
    ++ 0xA0 ∷ codes "¡¢£¤¥¦§¨©ª«¬" ++ 0xAD ∷ codes "®¯°±²³´µ¶·¸¹º»¼½¾¿"
    ++ codes "ÀÁÂÃÄÅÆÇÈÉÊËÌÍÎÏÐÑÒÓÔÕÖ×ØÙÚÛÜÝÞß"
    ++ codes "àáâãäåæçèéêëìíîïðñòóôõö÷øùúûüýþÿ"

-- Table 45, WPC1250 (Central Europe).
abbrev pub wpc1250 : List ℕ
wpc1250 =
    codes "€" ++ 0 ∷ codes "‚" ++ 0 ∷ codes "„…†‡" ++ 0 ∷ codes "‰Š‹ŚŤŽŹ" ++ 0 ∷ codes "‘’“”•–—" ++ 0 ∷ codes "™š›śťžź"
    ++ 0xA0 ∷ codes "ˇ˘Ł¤Ą¦§¨©Ş«¬" ++ 0xAD ∷ codes "®Ż°±˛ł´µ¶·¸ąş»Ľ˝ľż"
    ++ codes "ŔÁÂĂÄĹĆÇČÉĘËĚÍÎĎĐŃŇÓÔŐÖ×ŘŮÚŰÜÝŢß"
    ++ codes "ŕáâăäĺćçčéęëěíîďđńňóôőö÷řůúűüýţ˙"

-- Table 46, WPC1251 (Cyrillic).
abbrev pub wpc1251 : List ℕ
wpc1251 =
    codes "ЂЃ‚ѓ„…†‡€‰Љ‹ЊЌЋЏђ‘’“”•–—" ++ 0 ∷ codes "™љ›њќћџ"
    ++ 0xA0 ∷ codes "ЎўЈ¤Ґ¦§Ё©Є«¬" ++ 0xAD ∷ codes "®Ї°±Ііґµ¶·ё№є»јЅѕї"
    ++ codes "АБВГДЕЖЗИЙКЛМНОПРСТУФХЦЧШЩЪЫЬЭЮЯ"
    ++ codes "абвгдежзийклмнопрстуфхцчшщъыьэюя"

-- Table 47, WPC1253 (Greek).
abbrev pub wpc1253 : List ℕ
wpc1253 =
    codes "€" ++ 0 ∷ codes "‚ƒ„…†‡" ++ 0 ∷ codes "‰" ++ 0 ∷ codes "‹" ++ replicate 5 0 ++ codes "‘’“”•–—" ++ 0
    ∷ codes "™" ++ 0 ∷ codes "›" ++ replicate 4 0
    ++ 0xA0 ∷ codes "΅Ά£¤¥¦§¨©" ++ 0 ∷ codes "«¬" ++ 0xAD ∷ codes "®―°±²³΄µ¶·ΈΉΊ»Ό½ΎΏ"
    ++ codes "ΐΑΒΓΔΕΖΗΘΙΚΛΜΝΞΟΠΡ" ++ 0 ∷ codes "ΣΤΥΦΧΨΩΪΫάέήί"
    ++ codes "ΰαβγδεζηθικλμνξοπρςστυφχψωϊϋόύώ" ++ 0 ∷ []

-- Table 48, WPC1254 (Turkish).
abbrev pub wpc1254 : List ℕ
wpc1254 =
    codes "€" ++ 0 ∷ codes "‚ƒ„…†‡ˆ‰Š‹Œ" ++ replicate 4 0 ++ codes "‘’“”•–—˜™š›œ" ++ 0 ∷ 0 ∷ codes "Ÿ"
    ++ 0xA0 ∷ codes "¡¢£¤¥¦§¨©ª«¬" ++ 0xAD ∷ codes "®¯°±²³´µ¶·¸¹º»¼½¾¿"
    ++ codes "ÀÁÂÃÄÅÆÇÈÉÊËÌÍÎÏĞÑÒÓÔÕÖ×ØÙÚÛÜİŞß"
    ++ codes "àáâãäåæçèéêëìíîïğñòóôõö÷øùúûüışÿ"

-- Table 49, WPC1255 (Hebrew).
abbrev pub wpc1255 : List ℕ
wpc1255 =
    codes "€" ++ 0 ∷ codes "‚ƒ„…†‡ˆ‰" ++ 0 ∷ codes "‹" ++ replicate 5 0 ++ codes "‘’“”•–—˜™" ++ 0 ∷ codes "›"
    ++ replicate 4 0
    ++ 0xA0 ∷ codes "¡¢£₪¥¦§¨©×«¬" ++ 0xAD ∷ codes "®¯°±²³´µ¶·¸¹÷»¼½¾¿"
    ++ range_with_len 0x5B0 10 ++ 0 ∷ range_with_len 0x5BB 9 ++ range_with_len 0x5F0 5 ++ replicate 7 0
    ++ range_with_len 0x5D0 27 ++ 0 ∷ 0 ∷ 0x200E ∷ 0x200F ∷ 0 ∷ []

-- Table 50, WPC1256 (Arabic).
abbrev pub wpc1256 : List ℕ
wpc1256 =
    codes "€" ++ 0x67E ∷ codes "‚ƒ„…†‡ˆ‰" ++ 0x679 ∷ codes "‹Œ" ++ 0x686 ∷ 0x698 ∷ 0x688 ∷ 0x6AF ∷ codes "‘’“”•–—"
    ++ 0x6A9 ∷ codes "™" ++ 0x691 ∷ codes "›œ" ++ 0x200C ∷ 0x200D ∷ 0x6BA ∷ []
    ++ 0xA0 ∷ codes "،¢£¤¥¦§¨©" ++ 0x6BE ∷ codes "«¬" ++ 0xAD ∷ codes "®¯°±²³´µ¶·¸¹" ++ 0x61B ∷ codes "»¼½¾" ++ 0x61F ∷ []
    ++ 0x6C1 ∷ range_with_len 0x621 22 ++ codes "×" ++ range_with_len 0x637 4 ++ range_with_len 0x640 4
    ++ codes "à" ++ 0x644 ∷ codes "â" ++ range_with_len 0x645 4 ++ codes "çèéêë" ++ 0x649 ∷ 0x64A ∷ codes "îï"
    ++ range_with_len 0x64B 4 ++ codes "ô" ++ 0x64F ∷ 0x650 ∷ codes "÷" ++ 0x651 ∷ codes "ù" ++ 0x652 ∷ codes "ûü"
    ++ 0x200E ∷ 0x200F ∷ 0x6D2 ∷ []

-- Table 51, WPC1257 (Baltic).
abbrev pub wpc1257 : List ℕ
wpc1257 =
    codes "€" ++ 0 ∷ codes "‚" ++ 0 ∷ codes "„…†‡" ++ 0 ∷ codes "‰" ++ 0 ∷ codes "‹" ++ 0 ∷ codes "¨ˇ¸" ++ 0
    ∷ codes "‘’“”•–—" ++ 0 ∷ codes "™" ++ 0 ∷ codes "›" ++ 0 ∷ codes "¯˛" ++ 0 ∷ []
    ++ 0xA0 ∷ 0 ∷ codes "¢£¤" ++ 0 ∷ codes "¦§Ø©Ŗ«¬" ++ 0xAD ∷ codes "®Æ°±²³´µ¶·ø¹ŗ»¼½¾æ"
    ++ codes "ĄĮĀĆÄÅĘĒČÉŹĖĢĶĪĻŠŃŅÓŌÕÖ×ŲŁŚŪÜŻŽß"
    ++ codes "ąįāćäåęēčéźėģķīļšńņóōõö÷ųłśūüżž˙"

-- Table 52, WPC1258 (Vietnamese).
abbrev pub wpc1258 : List ℕ
wpc1258 =
    codes "€" ++ 0 ∷ codes "‚ƒ„…†‡ˆ‰" ++ 0 ∷ codes "‹Œ" ++ replicate 4 0 ++ codes "‘’“”•–—˜™" ++ 0 ∷ codes "›œ" ++ 0 ∷ 0
    ∷ codes "Ÿ"
    ++ 0xA0 ∷ codes "¡¢£¤¥¦§¨©ª«¬" ++ 0xAD ∷ codes "®¯°±²³´µ¶·¸¹º»¼½¾¿"
    ++ codes "ÀÁÂĂÄÅÆÇÈÉÊË" ++ 0x300 ∷ codes "ÍÎÏĐÑ" ++ 0x309 ∷ codes "ÓÔƠÖ×ØÙÚÛÜƯ" ++ 0x303 ∷ codes "ß"
    ++ codes "àáâăäåæçèéêë" ++ 0x301 ∷ codes "íîïđñ" ++ 0x323 ∷ codes "óôơö÷øùúûüư₫ÿ"

-- Table 53, KZ-1048 (Kazakh).
abbrev pub kz1048 : List ℕ
kz1048 =
    codes "ЂЃ‚ѓ„…†‡€‰Љ‹ЊҚҺЏђ‘’“”•–—" ++ 0 ∷ codes "™љ›њқһџ"
    ++ 0xA0 ∷ codes "ҰұӘ¤Ө¦§Ё©Ғ«¬" ++ 0xAD ∷ codes "®Ү°±Ііөµ¶·ё№ғ»әҢңү"
    ++ codes "АБВГДЕЖЗИЙКЛМНОПРСТУФХЦЧШЩЪЫЬЭЮЯ"
    ++ codes "абвгдежзийклмнопрстуфхцчшщъыьэюя"
