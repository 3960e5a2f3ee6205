-- The code tables of ISO 8859. The control codes that ISO has at 80 to 9F are no printed characters: these places are open.
-- Each has the characters of the bytes 80 to FF as Unicode or their maker publishes them, and 0 where a place is open.
use Rattle.std.specs.Prelude.{ℕ, List, codes, ◌++◌, ◌∷◌, [], replicate}

-- Table 15, ISO8859-7 (Greek).
abbrev pub iso8859_7 : List ℕ
iso8859_7 =
    replicate 32 0
    ++ 0xA0 ∷ codes "‘’£€₯¦§¨©ͺ«¬" ++ 0xAD ∷ 0 ∷ codes "―°±²³΄΅Ά·ΈΉΊ»Ό½ΎΏ"
    ++ codes "ΐΑΒΓΔΕΖΗΘΙΚΛΜΝΞΟΠΡ" ++ 0 ∷ codes "ΣΤΥΦΧΨΩΪΫάέήί"
    ++ codes "ΰαβγδεζηθικλμνξοπρςστυφχψωϊϋόύώ" ++ 0 ∷ []

-- Table 39, ISO8859-2 (Central Europe).
abbrev pub iso8859_2 : List ℕ
iso8859_2 =
    replicate 32 0
    ++ 0xA0 ∷ codes "Ą˘Ł¤ĽŚ§¨ŠŞŤŹ" ++ 0xAD ∷ codes "ŽŻ°ą˛ł´ľśˇ¸šşťź˝žż"
    ++ codes "ŔÁÂĂÄĹĆÇČÉĘËĚÍÎĎĐŃŇÓÔŐÖ×ŘŮÚŰÜÝŢß"
    ++ codes "ŕáâăäĺćçčéęëěíîďđńňóôőö÷řůúűüýţ˙"

-- Table 40, ISO8859-15 (Western Europe with the euro sign).
abbrev pub iso8859_15 : List ℕ
iso8859_15 =
    replicate 32 0
    ++ 0xA0 ∷ codes "¡¢£€¥Š§š©ª«¬" ++ 0xAD ∷ codes "®¯°±²³Žµ¶·ž¹º»ŒœŸ¿"
    ++ codes "ÀÁÂÃÄÅÆÇÈÉÊËÌÍÎÏÐÑÒÓÔÕÖ×ØÙÚÛÜÝÞß"
    ++ codes "àáâãäåæçèéêëìíîïðñòóôõö÷øùúûüýþÿ"
