-- The exit status of a run.
use Rattle.std.specs.Prelude.{ℕ}
use Rattle.escpos_job_parts.specs.declared.status.Status.{Status}
use Rattle.escpos_job_parts.specs.declared.status.Status.TheVariants.{Good, Refused, Usage, Device, Memory}

-- the exit status of a run
abbrev pub status_code : Status → ℕ
status_code Good = 0
status_code Refused = 1
status_code Usage = 2
status_code Device = 3
status_code Memory = 4
