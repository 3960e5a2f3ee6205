-- The numbers that C sees.
use Rattle.std.specs.Prelude.{ℤ, pos}
use Rattle.escpos_c.specs.declared.call_status.CallStatus.{CallStatus}
use Rattle.escpos_c.specs.declared.call_status.CallStatus.TheVariants.{Good, Refused, Empty, Memory, Short, TooLong}

abbrev pub number_of_status : CallStatus → ℤ
number_of_status Good = pos 0
number_of_status Refused = pos 1
number_of_status Empty = pos 2
number_of_status Memory = pos 4
number_of_status Short = pos 5
number_of_status TooLong = pos 6
