-- What the contracts say of an `Outgoing`.
use Rattle.std.specs.Prelude.{Bool, true, false, Option, None, Some}
use Rattle.escpos_io.specs.Cause.{is_time_out}
use Rattle.escpos_io.specs.declared.cause.Cause.{Cause}
use Rattle.escpos_io.specs.declared.outgoing.Outgoing.{Outgoing}

-- the writer inside
abbrev pub writer_of : {W : Type 0} → Outgoing W → W
writer_of sink = sink.writer

-- a sink with this cause of a failure, if any, has failed
abbrev pub has_failed_of : Option Cause → Bool
has_failed_of None = false
has_failed_of (Some why) = true

-- a sink with this cause of a failure, if any, has waited as long as it may
abbrev pub has_timed_out_of : Option Cause → Bool
has_timed_out_of None = false
has_timed_out_of (Some why) = is_time_out why

-- a call of `put` has failed
abbrev pub has_failed : {W : Type 0} → Outgoing W → Bool
has_failed sink = has_failed_of sink.failed

-- the writer had waited as long as it may
abbrev pub has_timed_out : {W : Type 0} → Outgoing W → Bool
has_timed_out sink = has_timed_out_of sink.failed
