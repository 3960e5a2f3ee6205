-- The bytes that are left rise from the last one seen exactly where all do.
use Rattle.std.proofs.Common.{◌≡◌, drop}
use Rattle.escpos_command.specs.Parameters.{rises_from}
use Rattle.escpos_command.proofs.parameter.position.rises_from.Given as goal

abbrev pub invariant-loop-byte : goal.invariant-loop-byte
invariant-loop-byte l = rises_from l.before l.bytes ≡ rises_from l.last (drop l.byte-index l.bytes)
