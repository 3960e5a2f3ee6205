-- Why a device has failed.
use Rattle.std.specs.Prelude.{Bool, true, false}
use Rattle.std.specs.declared.io.ErrorKind.{ErrorKind}
use Rattle.std.specs.declared.io.ErrorKind.TheVariants as kind
use Rattle.escpos_io.specs.declared.cause.Cause.{Cause}
use Rattle.escpos_io.specs.declared.cause.Cause.TheVariants.{Fault, TimedOut}

-- the cause that an error of this kind tells: how a wait with a limit ends is told by two kinds
abbrev pub cause_of : ErrorKind → Cause
cause_of kind.WouldBlock = TimedOut
cause_of kind.TimedOut = TimedOut
cause_of _ = Fault

-- the device had waited as long as it may
abbrev pub is_time_out : Cause → Bool
is_time_out Fault = false
is_time_out TimedOut = true
