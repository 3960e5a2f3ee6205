-- What the contracts say of a `MemoryIn` and a `MemoryOut`.
use Rattle.std.specs.Prelude.{ℕ, Bool, false, ◌-◌, List, take, drop, length, max, Option, Some}
use Rattle.escpos_io.specs.declared.memory_in.MemoryIn.{MemoryIn}
use Rattle.escpos_io.specs.declared.memory_out.MemoryOut.{MemoryOut}
use Rattle.escpos_io.specs.Source.{has_failed_of, has_ended_of, bytes_to_come}

-- the bytes of the slice that no pull has given yet
abbrev pub bytes_left : MemoryIn → List ℕ
bytes_left source = source.left.now

-- what a `MemoryIn` gives from now on
abbrev pub to_come_of : MemoryIn → Option (List ℕ)
to_come_of source = bytes_to_come source.progress (Some source.left.now)

-- a call of `pull` has failed
abbrev pub has_failed : MemoryIn → Bool
has_failed source = has_failed_of source.progress

-- a call of `pull` has found the end
abbrev pub has_ended : MemoryIn → Bool
has_ended source = has_ended_of source.progress

-- how many calls of `pull` there were
abbrev pub pull_count_of : MemoryIn → ℕ
pull_count_of source = source.pulls

-- the most bytes that one pull gives
abbrev pub most_per_pull : MemoryIn → ℕ
most_per_pull source = max source.most 1

-- the call of `pull` from which on each call fails
abbrev pub pull_failing_from : MemoryIn → Option ℕ
pull_failing_from source = source.from_call

-- the bytes put so far
abbrev pub written_bytes : MemoryOut → List ℕ
written_bytes sink = take sink.len sink.room.now

-- what the slice has after the bytes put so far
abbrev pub unwritten_bytes : MemoryOut → List ℕ
unwritten_bytes sink = drop sink.len sink.room.now

-- how many more bytes the slice has room for
abbrev pub room_left : MemoryOut → ℕ
room_left sink = length sink.room.now - sink.len

-- the most bytes that one put takes
abbrev pub most_per_put : MemoryOut → ℕ
most_per_put sink = max sink.most 1

-- the call of `put` from which on each call fails
abbrev pub put_failing_from : MemoryOut → Option ℕ
put_failing_from sink = sink.from_call

-- how many calls of `put` there were
abbrev pub put_count : MemoryOut → ℕ
put_count sink = sink.puts

-- memory never waits
abbrev pub has_timed_out : {Device : Type 0} → Device → Bool
has_timed_out device = false
