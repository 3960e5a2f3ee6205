-- The code tables of DOS for Western Europe and America.
-- Each has the characters of the bytes 80 to FF as Unicode or their maker publishes them, and 0 where a place is open.
use Rattle.std.specs.Prelude.{ℕ, List, codes, ◌++◌, ◌∷◌, []}

-- Table 0, PC437 (USA, standard Europe).
abbrev pub pc437 : List ℕ
pc437 =
    codes "ÇüéâäàåçêëèïîìÄÅÉæÆôöòûùÿÖÜ¢£¥₧ƒ"
    ++ codes "áíóúñÑªº¿⌐¬½¼¡«»░▒▓│┤╡╢╖╕╣║╗╝╜╛┐"
    ++ codes "└┴┬├─┼╞╟╚╔╩╦╠═╬╧╨╤╥╙╘╒╓╫╪┘┌█▄▌▐▀"
    ++ codes "αßΓπΣσµτΦΘΩδ∞φε∩≡±≥≤⌠⌡÷≈°∙·√ⁿ²■" ++ 0xA0 ∷ []

-- Table 2, PC850 (multilingual).
abbrev pub pc850 : List ℕ
pc850 =
    codes "ÇüéâäàåçêëèïîìÄÅÉæÆôöòûùÿÖÜø£Ø×ƒ"
    ++ codes "áíóúñÑªº¿®¬½¼¡«»░▒▓│┤ÁÂÀ©╣║╗╝¢¥┐"
    ++ codes "└┴┬├─┼ãÃ╚╔╩╦╠═╬¤ðÐÊËÈıÍÎÏ┘┌█▄¦Ì▀"
    ++ codes "ÓßÔÒõÕµþÞÚÛÙýÝ¯´" ++ 0xAD ∷ codes "±‗¾¶§÷¸°¨·¹³²■" ++ 0xA0 ∷ []

-- Table 3, PC860 (Portuguese).
abbrev pub pc860 : List ℕ
pc860 =
    codes "ÇüéâãàÁçêÊèÍÔìÃÂÉÀÈôõòÚùÌÕÜ¢£Ù₧Ó"
    ++ codes "áíóúñÑªº¿Ò¬½¼¡«»░▒▓│┤╡╢╖╕╣║╗╝╜╛┐"
    ++ codes "└┴┬├─┼╞╟╚╔╩╦╠═╬╧╨╤╥╙╘╒╓╫╪┘┌█▄▌▐▀"
    ++ codes "αßΓπΣσµτΦΘΩδ∞φε∩≡±≥≤⌠⌡÷≈°∙·√ⁿ²■" ++ 0xA0 ∷ []

-- Table 4, PC863 (Canadian French).
abbrev pub pc863 : List ℕ
pc863 =
    codes "ÇüéâÂà¶çêëèïî‗À§ÉÈÊôËÏûù¤ÔÜ¢£ÙÛƒ"
    ++ codes "¦´óú¨¸³¯Î⌐¬½¼¾«»░▒▓│┤╡╢╖╕╣║╗╝╜╛┐"
    ++ codes "└┴┬├─┼╞╟╚╔╩╦╠═╬╧╨╤╥╙╘╒╓╫╪┘┌█▄▌▐▀"
    ++ codes "αßΓπΣσµτΦΘΩδ∞φε∩≡±≥≤⌠⌡÷≈°∙·√ⁿ²■" ++ 0xA0 ∷ []

-- Table 5, PC865 (Nordic).
abbrev pub pc865 : List ℕ
pc865 =
    codes "ÇüéâäàåçêëèïîìÄÅÉæÆôöòûùÿÖÜø£Ø₧ƒ"
    ++ codes "áíóúñÑªº¿⌐¬½¼¡«¤░▒▓│┤╡╢╖╕╣║╗╝╜╛┐"
    ++ codes "└┴┬├─┼╞╟╚╔╩╦╠═╬╧╨╤╥╙╘╒╓╫╪┘┌█▄▌▐▀"
    ++ codes "αßΓπΣσµτΦΘΩδ∞φε∩≡±≥≤⌠⌡÷≈°∙·√ⁿ²■" ++ 0xA0 ∷ []

-- Table 19, PC858 (multilingual with the euro sign).
abbrev pub pc858 : List ℕ
pc858 =
    codes "ÇüéâäàåçêëèïîìÄÅÉæÆôöòûùÿÖÜø£Ø×ƒ"
    ++ codes "áíóúñÑªº¿®¬½¼¡«»░▒▓│┤ÁÂÀ©╣║╗╝¢¥┐"
    ++ codes "└┴┬├─┼ãÃ╚╔╩╦╠═╬¤ðÐÊËÈ€ÍÎÏ┘┌█▄¦Ì▀"
    ++ codes "ÓßÔÒõÕµþÞÚÛÙýÝ¯´" ++ 0xAD ∷ codes "±‗¾¶§÷¸°¨·¹³²■" ++ 0xA0 ∷ []

-- Table 35, PC861 (Icelandic).
abbrev pub pc861 : List ℕ
pc861 =
    codes "ÇüéâäàåçêëèÐðÞÄÅÉæÆôöþûÝýÖÜø£Ø₧ƒ"
    ++ codes "áíóúÁÍÓÚ¿⌐¬½¼¡«»░▒▓│┤╡╢╖╕╣║╗╝╜╛┐"
    ++ codes "└┴┬├─┼╞╟╚╔╩╦╠═╬╧╨╤╥╙╘╒╓╫╪┘┌█▄▌▐▀"
    ++ codes "αßΓπΣσµτΦΘΩδ∞φε∩≡±≥≤⌠⌡÷≈°∙·√ⁿ²■" ++ 0xA0 ∷ []
