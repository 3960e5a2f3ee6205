-- Values that are given one after another.
use Rattle.std.proofs.Common.{◌≡◌, ℕ, List, ◌++◌, Ok}
use Rattle.std.specs.Prelude.{flat_map}
use Rattle.escpos_io.specs.Gather.{Gathered}
use Rattle.escpos_io.specs.Giving.{IsGiven}
use Rattle.escpos_io.specs.Putting.{Passage}
use Rattle.escpos_job_parts.specs.Lines.{byte_value}

-- Some are given, and these are left.
pub record ValuesPut (sink : Passage) (old new : Gathered) (left whole : List ℕ) : Type 0 where
  pub done : List ℕ
  pub given : IsGiven (Ok tt) sink old new done
  pub whole_is : whole ≡ done ++ flat_map byte_value left
