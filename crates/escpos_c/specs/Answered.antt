-- What becomes of a job's text. Only private clauses and proofs use this definition.
use Rattle.std.specs.Prelude.{ℕ, Bool, true, false, ◌≡◌, List}
use Rattle.escpos_job_parts.specs.declared.status.Status.{Status}
use Rattle.escpos_job_parts.specs.declared.status.Status.TheVariants as job
use Rattle.escpos_c.specs.declared.call_status.CallStatus.{CallStatus}
use Rattle.escpos_c.specs.declared.call_status.CallStatus.TheVariants as call
use Rattle.escpos_c.specs.Buffer.{Given}

-- Where the job was good or refused its text is given with that status; otherwise memory ran out, and the buffer is as it was.
abbrev pub AnsweredWith : Status → List ℕ → CallStatus → List ℕ → List ℕ → ℕ → Type 0
AnsweredWith job.Good text status before after written = Given call.Good text status before after written
AnsweredWith job.Refused text status before after written = Given call.Refused text status before after written
AnsweredWith _ text status before after written = (status ≡ call.Memory) × (written ≡ 0) × (after ≡ before)

-- How a call ends whose text isn't whole: it would be too long, or memory ran out.
abbrev pub cut_short : Bool → CallStatus
cut_short true = call.TooLong
cut_short false = call.Memory

-- The same for a text with a limit: where it isn't whole, the buffer is as it was.
abbrev pub AnsweredWithin : Status → Bool → List ℕ → CallStatus → List ℕ → List ℕ → ℕ → Type 0
AnsweredWithin job.Good too_long text status before after written = Given call.Good text status before after written
AnsweredWithin job.Refused too_long text status before after written = Given call.Refused text status before after written
AnsweredWithin _ too_long text status before after written = (status ≡ cut_short too_long) × (written ≡ 0) × (after ≡ before)
