-- Why a stream is no receipt: the numbers, names and places of these refusals, as programs print them.
use Rattle.std.specs.Prelude.{ℕ, ◌+◌, List, Option, Some, codes}
use Rattle.escpos_command.specs.Places.{reason_name, reason_number}
use Rattle.escpos_receipt.specs.Refusals.{receipt_name, receipt_number, receipt_place}
use Rattle.escpos_stream.specs.declared.fault.StreamFault.{StreamFault}
use Rattle.escpos_stream.specs.declared.fault.StreamFault.TheVariants.{CutShort, NotPrintable, NotWhole, Refused}

abbrev pub stream_number : StreamFault → ℕ
stream_number (Refused at why) = 20 + reason_number why
stream_number (CutShort at) = 26
stream_number (NotWhole why) = receipt_number why
stream_number (NotPrintable at) = 10

abbrev pub stream_name : StreamFault → List ℕ
stream_name (Refused at why) = reason_name why
stream_name (CutShort at) = codes "CutShort"
stream_name (NotWhole why) = receipt_name why
stream_name (NotPrintable at) = codes "NotPrintable"

-- The place of the byte, counted from 0.
abbrev pub stream_place : StreamFault → Option ℕ
stream_place (Refused at why) = Some at
stream_place (CutShort at) = Some at
stream_place (NotWhole why) = receipt_place why
stream_place (NotPrintable at) = Some at
