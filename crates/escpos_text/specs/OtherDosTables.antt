-- The code tables of DOS for the rest of Europe and for Hebrew and Arabic.
-- Each has the characters of the bytes 80 to FF as Unicode or their maker publishes them, and 0 where a place is open.
use Rattle.std.specs.Prelude.{ℕ, List, codes, ◌++◌, ◌∷◌, [], replicate}
use Rattle.std.specs.List.{range_with_len}

-- Table 13, PC857 (Turkish).
abbrev pub pc857 : List ℕ
pc857 =
    codes "ÇüéâäàåçêëèïîıÄÅÉæÆôöòûùİÖÜø£ØŞş"
    ++ codes "áíóúñÑĞğ¿®¬½¼¡«»░▒▓│┤ÁÂÀ©╣║╗╝¢¥┐"
    ++ codes "└┴┬├─┼ãÃ╚╔╩╦╠═╬¤ºªÊËÈ" ++ 0 ∷ codes "ÍÎÏ┘┌█▄¦Ì▀"
    ++ codes "ÓßÔÒõÕµ" ++ 0 ∷ codes "×ÚÛÙìÿ¯´" ++ 0xAD ∷ codes "±" ++ 0 ∷ codes "¾¶§÷¸°¨·¹³²■" ++ 0xA0 ∷ []

-- Table 14, PC737 (Greek).
abbrev pub pc737 : List ℕ
pc737 =
    codes "ΑΒΓΔΕΖΗΘΙΚΛΜΝΞΟΠΡΣΤΥΦΧΨΩαβγδεζηθ"
    ++ codes "ικλμνξοπρσςτυφχψ░▒▓│┤╡╢╖╕╣║╗╝╜╛┐"
    ++ codes "└┴┬├─┼╞╟╚╔╩╦╠═╬╧╨╤╥╙╘╒╓╫╪┘┌█▄▌▐▀"
    ++ codes "ωάέήϊίόύϋώΆΈΉΊΌΎΏ±≥≤ΪΫ÷≈°∙·√ⁿ²■" ++ 0xA0 ∷ []

-- Table 17, PC866 (Cyrillic).
abbrev pub pc866 : List ℕ
pc866 =
    codes "АБВГДЕЖЗИЙКЛМНОПРСТУФХЦЧШЩЪЫЬЭЮЯ"
    ++ codes "абвгдежзийклмноп░▒▓│┤╡╢╖╕╣║╗╝╜╛┐"
    ++ codes "└┴┬├─┼╞╟╚╔╩╦╠═╬╧╨╤╥╙╘╒╓╫╪┘┌█▄▌▐▀"
    ++ codes "рстуфхцчшщъыьэюяЁёЄєЇїЎў°∙·√№¤■" ++ 0xA0 ∷ []

-- Table 18, PC852 (Central Europe).
abbrev pub pc852 : List ℕ
pc852 =
    codes "ÇüéâäůćçłëŐőîŹÄĆÉĹĺôöĽľŚśÖÜŤťŁ×č"
    ++ codes "áíóúĄąŽžĘę¬źČş«»░▒▓│┤ÁÂĚŞ╣║╗╝Żż┐"
    ++ codes "└┴┬├─┼Ăă╚╔╩╦╠═╬¤đĐĎËďŇÍÎě┘┌█▄ŢŮ▀"
    ++ codes "ÓßÔŃńňŠšŔÚŕŰýÝţ´" ++ 0xAD ∷ codes "˝˛ˇ˘§÷¸°¨˙űŘř■" ++ 0xA0 ∷ []

-- Table 32, PC720 (Arabic).
abbrev pub pc720 : List ℕ
pc720 =
    0 ∷ 0 ∷ codes "éâ" ++ 0 ∷ codes "à" ++ 0 ∷ codes "çêëèïî" ++ replicate 4 0 ++ 0x651 ∷ 0x652 ∷ codes "ô¤" ++ 0x640
    ∷ codes "ûù" ++ range_with_len 0x621 4 ++ codes "£" ++ range_with_len 0x625 3
    ++ range_with_len 0x628 14 ++ codes "«»░▒▓│┤╡╢╖╕╣║╗╝╜╛┐"
    ++ codes "└┴┬├─┼╞╟╚╔╩╦╠═╬╧╨╤╥╙╘╒╓╫╪┘┌█▄▌▐▀"
    ++ range_with_len 0x636 5 ++ 0x641 ∷ codes "µ" ++ range_with_len 0x642 9 ++ codes "≡" ++ range_with_len 0x64B 6
    ++ codes "≈°∙·√ⁿ²■" ++ 0xA0 ∷ []

-- Table 33, WPC775 (Baltic).
abbrev pub wpc775 : List ℕ
wpc775 =
    codes "ĆüéāäģåćłēŖŗīŹÄÅÉæÆōöĢ¢ŚśÖÜø£Ø×¤"
    ++ codes "ĀĪóŻżź”¦©®¬½¼Ł«»░▒▓│┤ĄČĘĖ╣║╗╝ĮŠ┐"
    ++ codes "└┴┬├─┼ŲŪ╚╔╩╦╠═╬Žąčęėįšųūž┘┌█▄▌▐▀"
    ++ codes "ÓßŌŃõÕµńĶķĻļņĒŅ’" ++ 0xAD ∷ codes "±“¾¶§÷„°∙·¹³²■" ++ 0xA0 ∷ []

-- Table 34, PC855 (Cyrillic).
abbrev pub pc855 : List ℕ
pc855 =
    codes "ђЂѓЃёЁєЄѕЅіІїЇјЈљЉњЊћЋќЌўЎџЏюЮъЪ"
    ++ codes "аАбБцЦдДеЕфФгГ«»░▒▓│┤хХиИ╣║╗╝йЙ┐"
    ++ codes "└┴┬├─┼кК╚╔╩╦╠═╬¤лЛмМнНоОп┘┌█▄Пя▀"
    ++ codes "ЯрРсСтТуУжЖвВьЬ№" ++ 0xAD ∷ codes "ыЫзЗшШэЭщЩчЧ§■" ++ 0xA0 ∷ []

-- Table 36, PC862 (Hebrew).
abbrev pub pc862 : List ℕ
pc862 =
    range_with_len 0x5D0 27 ++ codes "¢£¥₧ƒ"
    ++ codes "áíóúñÑªº¿⌐¬½¼¡«»░▒▓│┤╡╢╖╕╣║╗╝╜╛┐"
    ++ codes "└┴┬├─┼╞╟╚╔╩╦╠═╬╧╨╤╥╙╘╒╓╫╪┘┌█▄▌▐▀"
    ++ codes "αßΓπΣσµτΦΘΩδ∞φε∩≡±≥≤⌠⌡÷≈°∙·√ⁿ²■" ++ 0xA0 ∷ []

-- Table 37, PC864 (Arabic).
abbrev pub pc864 : List ℕ
pc864 =
    codes "°·∙√▒─│┼┤┬├┴┐┌└┘β∞φ±½¼≈«»" ++ 0xFEF7 ∷ 0xFEF8 ∷ 0 ∷ 0 ∷ 0xFEFB ∷ 0xFEFC ∷ 0 ∷ []
    ++ 0xA0 ∷ 0xAD ∷ 0xFE82 ∷ codes "£¤" ++ 0xFE84 ∷ 0 ∷ 0 ∷ 0xFE8E ∷ 0xFE8F ∷ 0xFE95 ∷ 0xFE99 ∷ codes "،" ++ 0xFE9D
    ∷ 0xFEA1 ∷ 0xFEA5 ∷ range_with_len 0x660 10 ++ 0xFED1 ∷ 0x61B ∷ 0xFEB1 ∷ 0xFEB5 ∷ 0xFEB9 ∷ 0x61F ∷ []
    ++ codes "¢" ++ 0xFE80 ∷ 0xFE81 ∷ 0xFE83 ∷ 0xFE85 ∷ 0xFECA ∷ 0xFE8B ∷ 0xFE8D ∷ 0xFE91 ∷ 0xFE93 ∷ 0xFE97 ∷ 0xFE9B
    ∷ 0xFE9F ∷ 0xFEA3 ∷ 0xFEA7 ∷ 0xFEA9 ∷ 0xFEAB ∷ 0xFEAD ∷ 0xFEAF ∷ 0xFEB3 ∷ 0xFEB7 ∷ 0xFEBB ∷ 0xFEBF ∷ 0xFEC1 ∷ 0xFEC5
    ∷ 0xFECB ∷ 0xFECF ∷ codes "¦¬÷×" ++ 0xFEC9 ∷ []
    ++ 0x640 ∷ 0xFED3 ∷ 0xFED7 ∷ 0xFEDB ∷ 0xFEDF ∷ 0xFEE3 ∷ 0xFEE7 ∷ 0xFEEB ∷ 0xFEED ∷ 0xFEEF ∷ 0xFEF3 ∷ 0xFEBD ∷ 0xFECC
    ∷ 0xFECE ∷ 0xFECD ∷ 0xFEE1 ∷ 0xFE7D ∷ 0x651 ∷ 0xFEE5 ∷ 0xFEE9 ∷ 0xFEEC ∷ 0xFEF0 ∷ 0xFEF2 ∷ 0xFED0 ∷ 0xFED5 ∷ 0xFEF5
    ∷ 0xFEF6 ∷ 0xFEDD ∷ 0xFED9 ∷ 0xFEF1 ∷ codes "■" ++ 0 ∷ []

-- Table 38, PC869 (Greek).
abbrev pub pc869 : List ℕ
pc869 =
    replicate 6 0 ++ codes "Ά" ++ 0 ∷ codes "·¬¦‘’Έ―ΉΊΪΌ" ++ 0 ∷ 0 ∷ codes "ΎΫ©Ώ²³ά£έήί"
    ++ codes "ϊΐόύΑΒΓΔΕΖΗ½ΘΙ«»░▒▓│┤ΚΛΜΝ╣║╗╝ΞΟ┐"
    ++ codes "└┴┬├─┼ΠΡ╚╔╩╦╠═╬ΣΤΥΦΧΨΩαβγ┘┌█▄δε▀"
    ++ codes "ζηθικλμνξοπρσςτ΄" ++ 0xAD ∷ codes "±υφχ§ψ΅°¨ωϋΰώ■" ++ 0xA0 ∷ []

-- Table 44, PC1125 (Ukrainian).
abbrev pub pc1125 : List ℕ
pc1125 =
    codes "АБВГДЕЖЗИЙКЛМНОПРСТУФХЦЧШЩЪЫЬЭЮЯ"
    ++ codes "абвгдежзийклмноп░▒▓│┤╡╢╖╕╣║╗╝╜╛┐"
    ++ codes "└┴┬├─┼╞╟╚╔╩╦╠═╬╧╨╤╥╙╘╒╓╫╪┘┌█▄▌▐▀"
    ++ codes "рстуфхцчшщъыьэюяЁёҐґЄєІіЇї·√№¤■" ++ 0xA0 ∷ []
