-- The names of a link's ends, as programs print them.
use Rattle.std.specs.Prelude.{ℕ, List, codes}
use Rattle.escpos_printer.specs.declared.serve.LinkEnd.{LinkEnd}
use Rattle.escpos_printer.specs.declared.serve.LinkEnd.TheVariants.{Ended, TooLong, Fault, Offline, ReadFault, WriteFault, Memory}

abbrev pub end_name : LinkEnd → List ℕ
end_name Ended = codes "Ended"
end_name TooLong = codes "TooLong"
end_name (Fault why) = codes "Fault"
end_name Offline = codes "Offline"
end_name ReadFault = codes "ReadFault"
end_name WriteFault = codes "WriteFault"
end_name Memory = codes "Memory"
