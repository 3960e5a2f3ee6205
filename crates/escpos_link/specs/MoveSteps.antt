-- How far bytes have moved out of a host. Only private clauses, invariants and proofs use these definitions.
use Rattle.std.specs.Prelude.{ℕ, ◌≡◌, List, take, Option}
use Rattle.escpos_host.specs.Machine.{HostView, taken_out}
use Rattle.escpos_link.specs.EventTable.{put_on}

-- The same for the host and the live link alone.
abbrev pub HasMoved : HostView → Option (List ℕ) → ℕ → HostView → Option (List ℕ) → Type 0
HasMoved host live n after on = (after ≡ taken_out host n) × (on ≡ put_on live (take n host.out))
