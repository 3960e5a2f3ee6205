-- The model of a `SpanBuffer`: the text that waits in it.
use Rattle.std.specs.Prelude.{◌≡◌, ℕ, List, ◌++◌, Result, OnOk, ⊤}
use Rattle.escpos_io.specs.declared.putting.Device.{Device}
use Rattle.escpos_io.specs.Gather.{Gathered}
use Rattle.escpos_io.specs.Giving.{IsGiven}
use Rattle.escpos_io.specs.Putting.{Passage}

pub record Waiting : Type 0 where
  pub text : List ℕ

-- What waited before and this text after it, together, were given up to somewhere; what is left of them waits afterwards, unless the
-- sink has failed. Only private clauses and proofs use this definition.
pub record IsGivenInPart (result : Result ⊤ Device) (sink : Passage) (old new : Gathered) (before after text : List ℕ) : Type 0 where
  pub done : List ℕ
  pub left : List ℕ
  pub given : IsGiven result sink old new done
  pub whole : before ++ text ≡ done ++ left
  pub waits : OnOk result (left ≡ after)
