-- Why commands aren't a receipt and why a text gives none: the numbers, names and places of these refusals, as programs
-- print them.
use Rattle.std.specs.Prelude.{ℕ, List, Option, Some, None, codes}
use Rattle.escpos_receipt.specs.declared.json.JsonFault.{JsonFault}
use Rattle.escpos_receipt.specs.declared.json.JsonFault.TheVariants.{NotWhole, NotJson, BadShape, ControlByte, NoCharacter, NotPrintable}
use Rattle.escpos_receipt.specs.declared.receipt.ReceiptFault.{ReceiptFault}
use Rattle.escpos_receipt.specs.declared.receipt.ReceiptFault.TheVariants.{Empty, Forbidden, TextLeft, MidLine, RealTime}

abbrev pub receipt_number : ReceiptFault → ℕ
receipt_number Empty = 1
receipt_number (Forbidden at) = 2
receipt_number TextLeft = 3
receipt_number (MidLine at) = 4
receipt_number (RealTime at) = 9

abbrev pub receipt_name : ReceiptFault → List ℕ
receipt_name Empty = codes "Empty"
receipt_name (Forbidden at) = codes "Forbidden"
receipt_name TextLeft = codes "TextLeft"
receipt_name (MidLine at) = codes "MidLine"
receipt_name (RealTime at) = codes "RealTime"

-- The place of the command, counted from 0.
abbrev pub receipt_place : ReceiptFault → Option ℕ
receipt_place Empty = None
receipt_place (Forbidden at) = Some at
receipt_place TextLeft = None
receipt_place (MidLine at) = Some at
receipt_place (RealTime at) = Some at

abbrev pub json_number : JsonFault → ℕ
json_number (NotWhole why) = receipt_number why
json_number NotJson = 5
json_number (BadShape at) = 6
json_number (ControlByte at) = 7
json_number (NoCharacter at c) = 8
json_number (NotPrintable at) = 10

abbrev pub json_name : JsonFault → List ℕ
json_name (NotWhole why) = receipt_name why
json_name NotJson = codes "NotJson"
json_name (BadShape at) = codes "BadShape"
json_name (ControlByte at) = codes "ControlByte"
json_name (NoCharacter at c) = codes "NoCharacter"
json_name (NotPrintable at) = codes "NotPrintable"

-- The place of the command or the entry, counted from 0.
abbrev pub json_place : JsonFault → Option ℕ
json_place (NotWhole why) = receipt_place why
json_place NotJson = None
json_place (BadShape at) = Some at
json_place (ControlByte at) = Some at
json_place (NoCharacter at c) = Some at
json_place (NotPrintable at) = Some at

-- The character that no code table has.
abbrev pub json_character : JsonFault → Option ℕ
json_character (NoCharacter at c) = Some c
json_character _ = None
