-- A network whose waits end.
use Rattle.std.specs.Prelude.{ℕ, ◌≡◌, ◌*◌}
use Rattle.std.specs.Duration.{as_nanos}
use Rattle.escpos_addresses.specs.declared.wait.Within.{Within}

-- It is this network, with waits of at most so many seconds.
pub record IsWithin {N : Type 0} (net : N) (seconds : ℕ) (w : Within N) : Type 0 where
  pub inner : w.net.now ≡ net
  pub time : as_nanos w.time ≡ seconds * 1_000_000_000
