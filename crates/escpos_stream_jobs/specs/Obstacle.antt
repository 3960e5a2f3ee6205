-- The two obstacles of a job are different. Only private clauses, invariants and proofs use these definitions.
use Rattle.std.specs.Prelude.{◌≡◌}
use Rattle.std.proofs.Common.{sym}
use Rattle.escpos_stream_jobs.specs.declared.job.Obstacle.TheVariants.{Memory, Device}

pub memory_is_no_device : Memory ≡ Device → ⊥
memory_is_no_device e = cc

pub device_is_no_memory : Device ≡ Memory → ⊥
device_is_no_memory e = memory_is_no_device (sym e)
