-- What the progress of a source means.
use Rattle.std.specs.Prelude.{ℕ, Bool, true, false, List, [], Option, None, Some, ◌≤◌}
use Rattle.escpos_io.specs.Cause.{is_time_out}
use Rattle.escpos_io.specs.declared.source.Progress.{Progress}
use Rattle.escpos_io.specs.declared.source.Progress.TheVariants.{Open, Ended, Failed}

-- a source with this progress has failed
abbrev pub has_failed_of : Progress → Bool
has_failed_of Open = false
has_failed_of Ended = false
has_failed_of (Failed why) = true

-- a source with this progress has waited as long as it may
abbrev pub has_timed_out_of : Progress → Bool
has_timed_out_of Open = false
has_timed_out_of Ended = false
has_timed_out_of (Failed why) = is_time_out why

-- a source with this progress has ended
abbrev pub has_ended_of : Progress → Bool
has_ended_of Open = false
has_ended_of Ended = true
has_ended_of (Failed why) = false

-- what a source gives from now on, where its device has `left` to come, if known: after its end it gives nothing
abbrev pub bytes_to_come : Progress → Option (List ℕ) → Option (List ℕ)
bytes_to_come Open left = left
bytes_to_come Ended left = Some []
bytes_to_come (Failed why) left = left

-- call number `call` must fail, where all calls from a given one on do
abbrev pub IsDue : Option ℕ → ℕ → Type 0
IsDue None call = ⊥
IsDue (Some from_call) call = from_call ≤ call
