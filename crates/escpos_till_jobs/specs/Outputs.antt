-- What is known of the output of a word.
use Rattle.std.specs.Prelude.{ℕ, Bool, Option, List, IsTrue}
use Rattle.std.specs.Io.KnownBytes.{Appends}
use Rattle.escpos_job_parts.specs.declared.status.Status.{Status}
use Rattle.escpos_job_parts.specs.Ending.{JobEnd, job_end}

-- The bytes that an output has taken, where it can name them, and whether it has failed.
pub record Output : Type 0 where
  pub written : Option (List ℕ)
  pub failed : Bool

abbrev pub output_of : Option (List ℕ) → Bool → Output
output_of written failed = record { written = written; failed = failed }

-- How a job ended whose output was this before, with that output and this status.
abbrev pub ended : Output → Output → Status → JobEnd
ended before after status = job_end before.written after.written after.failed status

-- A text was put on it, and that didn't fail.
pub record Took (before : Output) (text : List ℕ) (after : Output) : Type 0 where
  pub put : Appends before.written after.written text
  pub well : (¬ IsTrue before.failed) → ¬ IsTrue after.failed
