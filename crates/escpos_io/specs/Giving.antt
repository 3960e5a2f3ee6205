-- What a call does that gives bytes to a `Gather`.
use Rattle.std.specs.Prelude.{ℕ, ◌+◌, ◌<◌, ◌≤◌, ◌^◌, List, ◌++◌, length, Option, Result, OnOk, IfErr, IsTrue, ⊤}
use Rattle.escpos_io.specs.declared.putting.Device.{Device}
use Rattle.escpos_io.specs.declared.pieces.TheConstants.{PIECE_BYTES}
use Rattle.escpos_io.specs.Gather.{Carries, Gathered, StopsIn}
use Rattle.escpos_io.specs.Putting.{Passage}

-- Either the gather was given these bytes after all that it was given before, and the sink has not failed unless it
-- had before; or the sink has failed, and of all bytes ever given, with any `more` after them, it took exactly the
-- first `written`, where these are few enough to be counted.
pub record IsGiven (result : Result ⊤ Device) (sink : Passage) (old new : Gathered) (bytes : List ℕ) : Type 0 where
  pub ok : OnOk result ((first : Option (List ℕ)) (total : List ℕ) →
      Carries first sink.before old total → Carries first sink.after new (total ++ bytes))
  pub err : IfErr result (λ device. (first : Option (List ℕ)) (total more : List ℕ) →
      Carries first sink.before old total → length (total ++ bytes ++ more) < 2 ^ 128 →
      StopsIn first sink.after (total ++ bytes ++ more) device.written)
  pub failed : IfErr result (λ device. IsTrue sink.has_failed)
  pub not_failed : OnOk result (¬ IsTrue sink.had_failed → ¬ IsTrue sink.has_failed)

-- Either the gather was given the bytes of a piece, `PIECE_BYTES` at most, and the sink has not failed unless it
-- had before; or the sink has failed, and of all bytes ever given, with any `more` after them, it took exactly the
-- first `written`, where those before the piece, and `PIECE_BYTES` more, are few enough to be counted.
pub record IsPiecePut (result : Result ⊤ Device) (sink : Passage) (old new : Gathered) (bytes : List ℕ) : Type 0 where
  pub ok : OnOk result ((first : Option (List ℕ)) (total : List ℕ) →
      Carries first sink.before old total → Carries first sink.after new (total ++ bytes))
  pub short : OnOk result (length bytes ≤ PIECE_BYTES)
  pub err : IfErr result (λ device. (first : Option (List ℕ)) (total more : List ℕ) →
      Carries first sink.before old total → length total + PIECE_BYTES < 2 ^ 128 →
      StopsIn first sink.after (total ++ bytes ++ more) device.written)
  pub failed : IfErr result (λ device. IsTrue sink.has_failed)
  pub not_failed : OnOk result (¬ IsTrue sink.had_failed → ¬ IsTrue sink.has_failed)
