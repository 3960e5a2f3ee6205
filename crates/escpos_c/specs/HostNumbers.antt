-- The numbers in which C is told of a host.
use Rattle.std.specs.Prelude.{ℕ, ◌≡◌, ◌≢◌, ◌+◌, ◌<◌, ◌⊎◌, List, min, Result, Ok, Err}
use Rattle.std.specs.Int.{from_be_bytes, w32}
use Rattle.escpos_command.specs.Digits.{mark_count, mark_of}
use Rattle.escpos_host.specs.declared.host.HostError.{HostError}
use Rattle.escpos_host.specs.declared.host.HostError.TheVariants as error
use Rattle.escpos_host.specs.declared.host.HostEvent.{HostEvent}
use Rattle.escpos_host.specs.declared.host.HostEvent.TheVariants as event
use Rattle.escpos_host.specs.declared.host.HostState.{HostState}
use Rattle.escpos_host.specs.declared.host.HostState.TheVariants as state
use Rattle.escpos_host.specs.Machine.{error_number}
use Rattle.escpos_c.specs.declared.call_status.CallStatus.{CallStatus}
use Rattle.escpos_c.specs.declared.call_status.CallStatus.TheVariants as call
use Rattle.escpos_c.specs.declared.refusal.TheConstants.{NO_REASON}

abbrev pub state_number : HostState → ℕ
state_number state.Down = 0
state_number state.Opening = 1
state_number state.Ready = 2
state_number state.Sending = 3

abbrev pub event_kind : HostEvent → ℕ
event_kind event.None = 0
event_kind event.Opened = 1
event_kind (event.Recorded number) = 2
event_kind (event.Status byte) = 3
event_kind (event.BadAnswer place) = 4
event_kind (event.Late id) = 5
event_kind (event.Condition block) = 6

-- The greatest number that C can be told.
abbrev pub greatest : ℕ
greatest = 18446744073709551615

-- The number of the mark with this id; 0, which closes no receipt, where no mark has it.
abbrev pub IsMarkNumber : List ℕ → ℕ → Type 0
IsMarkNumber id number = ((number < mark_count) × (mark_of number ≡ id)) ⊎ (((n : ℕ) → n < mark_count → mark_of n ≢ id) × (number ≡ 0))

-- The record's number, after those of before; the status byte; the place of the bad answer; the mark's number; or the bytes
-- of the block as one number, the first highest.
abbrev pub IsEventNumber : ℕ → HostEvent → ℕ → Type 0
IsEventNumber before event.None told = told ≡ 0
IsEventNumber before event.Opened told = told ≡ 0
IsEventNumber before (event.Recorded number) told = told ≡ min (before + number) greatest
IsEventNumber before (event.Status byte) told = told ≡ byte
IsEventNumber before (event.BadAnswer place) told = told ≡ place
IsEventNumber before (event.Late id) told = IsMarkNumber id told
IsEventNumber before (event.Condition block) told = told ≡ from_be_bytes w32 block

-- A refusal has the host's number for its reason; out of memory has a status of its own, and no reason.
abbrev pub refusal_status : HostError → CallStatus
refusal_status error.Memory = call.Memory
refusal_status _ = call.Refused

abbrev pub refusal_reason : HostError → ℕ
refusal_reason error.Memory = NO_REASON
refusal_reason why = error_number why

-- What the caller is told where the host's call ended so.
abbrev pub told_status : Result (Unit {0}) HostError → CallStatus
told_status (Ok done) = call.Good
told_status (Err why) = refusal_status why

abbrev pub told_reason : Result (Unit {0}) HostError → ℕ
told_reason (Ok done) = NO_REASON
told_reason (Err why) = refusal_reason why
