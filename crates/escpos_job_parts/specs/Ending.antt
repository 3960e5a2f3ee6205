-- How a job ended, and the texts that all jobs may print.
use Rattle.std.specs.Prelude.{ℕ, Bool, ◌≡◌, ◌≢◌, ◌⊎◌, ◌+◌, ◌≤◌, List, Option, IsTrue, codes}
use Rattle.std.specs.Io.KnownBytes.{Appends}
use Rattle.escpos_job_parts.specs.declared.input.TheConstants.{INPUT_LIMIT}
use Rattle.escpos_job_parts.specs.declared.status.Status.{Status}
use Rattle.escpos_job_parts.specs.declared.status.Status.TheVariants.{Good, Refused, Usage, Device, Memory}

-- The bytes that the sink had taken before the job and has taken after it, where it can name them; whether it has failed;
-- and the status that the job returns.
pub record JobEnd : Type 0 where
  pub before : Option (List ℕ)
  pub after : Option (List ℕ)
  pub failed : Bool
  pub status : Status

abbrev pub job_end : Option (List ℕ) → Option (List ℕ) → Bool → Status → JobEnd
job_end before after failed status = record { before = before; after = after; failed = failed; status = status }

-- The text was printed, and nothing else.
abbrev pub Puts : JobEnd → List ℕ → Type 0
Puts o text = Appends o.before o.after text

-- The text was printed and the status is the one that is wanted, or the sink has failed.
pub record PrintsText (o : JobEnd) (text : List ℕ) (wanted : Status) : Type 0 where
  pub ends : (o.status ≡ wanted) ⊎ ((o.status ≡ Device) × IsTrue o.failed)
  pub out : o.status ≢ Device → Puts o text

-- The same where a failure of another device gives the status of a failed sink, too: the text was printed all the same.
abbrev pub Tells : JobEnd → List ℕ → Status → Type 0
Tells o text wanted = ((o.status ≡ wanted) × Puts o text) ⊎ ((o.status ≡ Device) × IsTrue o.failed)

-- The last line when memory runs out.
abbrev pub memory_line : List ℕ
memory_line = codes "memory\n"

-- What the program does with input that it can't read as bytes: one line is printed, this one or, if an allocation fails,
-- the one that says so.
pub record RefusesInput (o : JobEnd) (line : List ℕ) : Type 0 where
  pub never_good : o.status ≢ Good
  pub refusal : o.status ≡ Refused → Puts o line
  pub memory : o.status ≡ Memory → Puts o memory_line

-- Good if no half command is left, otherwise refused.
abbrev pub StatusFits : Status → ℕ → Type 0
StatusFits status half = ((status ≡ Good) × (half ≡ 0)) ⊎ ((status ≡ Refused) × (half ≢ 0))

-- What a status says of a job's devices, whatever they are: whether the source has failed, and how often it was pulled
-- before the job and after it; whether the sink had failed before and has failed after it. `Device` comes only where one of
-- them has failed, and no other status where the source has failed, or the sink in this job; `Usage` never comes; and the
-- source is pulled at most once more than the limit has bytes.
pub record IsFair (status : Status) (source_failed : Bool) (sink : Bool × Bool) (pulls : ℕ × ℕ) : Type 0 where
  pub device : status ≡ Device → IsTrue source_failed ⊎ IsTrue sink.1
  pub not_hidden : status ≢ Device → ¬ IsTrue sink.0 → ¬ IsTrue sink.1
  pub all_read : status ≢ Device → ¬ IsTrue source_failed
  pub never_usage : status ≢ Usage
  pub few_pulls : pulls.1 ≤ pulls.0 + INPUT_LIMIT + 1
