-- What the contracts say of an `Incoming`.
use Rattle.std.specs.Prelude.{ℕ, Bool, List, Option}
use Rattle.escpos_io.specs.declared.incoming.Incoming.{Incoming}
use Rattle.escpos_io.specs.Source.{has_failed_of, has_ended_of, has_timed_out_of, bytes_to_come}

-- the reader inside
abbrev pub reader_of : {R : Type 0} → Incoming R → R
reader_of source = source.reader

-- what it gives from now on, where `remaining` gives what its reader has left
abbrev pub to_come_of : {R : Type 0} → (R → Option (List ℕ)) → Incoming R → Option (List ℕ)
to_come_of remaining source = bytes_to_come source.progress (remaining source.reader)

-- a call of `pull` has failed
abbrev pub has_failed : {R : Type 0} → Incoming R → Bool
has_failed source = has_failed_of source.progress

-- the reader had waited as long as it may
abbrev pub has_timed_out : {R : Type 0} → Incoming R → Bool
has_timed_out source = has_timed_out_of source.progress

-- a call of `pull` has found the end
abbrev pub has_ended : {R : Type 0} → Incoming R → Bool
has_ended source = has_ended_of source.progress

-- how many calls of `pull` there were
abbrev pub pull_count_of : {R : Type 0} → Incoming R → ℕ
pull_count_of source = source.pulls
