-- What a job prints for a byte stream, and its exit status. A listing and a paper have one shape: what the commands give,
-- then the last line.
use Rattle.std.specs.Prelude.{ℕ, ◌≡◌, ◌<◌, ◌≤◌, ◌⊎◌, ◌==◌, Bool, List, [], ◌∷◌, ◌++◌, length, take, codes, decimal, if◌then◌else◌, IsErr, Ok}
use Rattle.escpos_command.specs.declared.bytes.TheConstants.{LF}
use Rattle.escpos_command.specs.declared.fault.FaultReason.{FaultReason}
use Rattle.escpos_passed.specs.Tokens.{Token, passed_count, ReadsWith, FaultWith}
use Rattle.escpos_job_parts.specs.declared.form.Form.{Form}
use Rattle.escpos_job_parts.specs.declared.input.TheConstants.{INPUT_LIMIT}
use Rattle.escpos_job_parts.specs.declared.status.Status.{Status}
use Rattle.escpos_job_parts.specs.declared.status.Status.TheVariants.{Good, Refused, Memory}
use Rattle.escpos_job_parts.specs.Input.{stream_of}
use Rattle.escpos_job_parts.specs.LastText.{last_text}
use Rattle.escpos_job_parts.specs.Lines.{fault_line}
use Rattle.escpos_stream_jobs.specs.declared.job.Closing.{Closing}
use Rattle.escpos_job_parts.specs.Ending.{JobEnd, Puts, RefusesInput, memory_line}

-- What distinguishes the text of one job from that of another: what tokens give (no token gives nothing), what is said of those that
-- are passed over, and the last line where this many bytes are read and this many of them are the start of a token.
pub record Shape : Type 0 where
  pub gives : List Token → List ℕ
  pub closing : ℕ → List ℕ
  pub last : ℕ → ℕ → List ℕ
  pub starts_empty : gives [] ≡ []

-- How many commands were passed over, where it is some.
abbrev pub passed_text : ℕ → List ℕ
passed_text n = if n == 0 then [] else codes "passed " ++ decimal n ++ LF ∷ []

abbrev pub closing_text : Closing → List ℕ
closing_text closing = passed_text closing.passed ++ last_text closing.last

-- The text of a byte list, read with or without passing over: what its tokens give, what is said of those that are passed over, and the
-- last line. There is one, since a byte list has exactly one reading or one fault.
abbrev pub IsText : Shape → Bool → List ℕ → List ℕ → Type 0
IsText shape pass bytes text =
    ((ts : List Token) × (rest : List ℕ) × ReadsWith pass bytes ts rest × (text ≡ shape.gives ts ++ (shape.closing (passed_count ts) ++ shape.last (length bytes) (length rest))))
    ⊎ ((ts : List Token) × (place : ℕ) × (why : FaultReason) × FaultWith pass bytes ts place why × (text ≡ shape.gives ts ++ (shape.closing (passed_count ts) ++ fault_line place why)))

-- What is printed when memory runs out: what the tokens of some prefix of the bytes give, nothing if the bytes couldn't
-- even be read, then the line that says so.
abbrev pub IsCutShort : Shape → Bool → List ℕ → List ℕ → Type 0
IsCutShort shape pass bytes text = (k : ℕ) × (ts : List Token) × (rest : List ℕ) × ReadsWith pass (take k bytes) ts rest × (text ≡ shape.gives ts ++ memory_line)

-- The bytes are read with nothing left.
abbrev pub IsAllRead : Bool → List ℕ → Type 0
IsAllRead pass bytes = (ts : List Token) × ReadsWith pass bytes ts []

-- The status is that of content: good or refused.
abbrev pub IsOfContent : Status → Type 0
IsOfContent status = (status ≡ Good) ⊎ (status ≡ Refused)

-- What a job does with these bytes, of which `is_text` tells the text, and `is_short` what is printed where an allocation fails:
-- their text is printed, and the status is good exactly if all is read.
pub record ReportsAs (pass : Bool) (is_text is_short : List ℕ → List ℕ → Type 0) (o : JobEnd) (bytes : List ℕ) : Type 0 where
  pub text : IsOfContent o.status → (text : List ℕ) × is_text bytes text × Puts o text
  pub good : o.status ≡ Good → IsAllRead pass bytes
  pub refused : o.status ≡ Refused → IsAllRead pass bytes → ⊥
  pub memory : o.status ≡ Memory → (text : List ℕ) × is_short bytes text × Puts o text

-- The same for a job of this shape.
abbrev pub Reports : Shape → Bool → JobEnd → List ℕ → Type 0
Reports shape pass o bytes = ReportsAs pass (IsText shape pass) (IsCutShort shape pass) o bytes

-- What a job does with its input in this form: too long, not hexadecimal, or bytes, of which `reports` tells the rest.
pub record RunsAs (reports : JobEnd → List ℕ → Type 0) (form : Form) (o : JobEnd) (input : List ℕ) : Type 0 where
  pub too_long : INPUT_LIMIT < length input → RefusesInput o (codes "refused input\n")
  pub not_hexadecimal : length input ≤ INPUT_LIMIT → IsErr (stream_of form input) → RefusesInput o (codes "refused hex\n")
  pub short : (bytes : List ℕ) → length input ≤ INPUT_LIMIT → stream_of form input ≡ Ok bytes → reports o bytes

abbrev pub Runs : Shape → Form → Bool → JobEnd → List ℕ → Type 0
Runs shape form pass o input = RunsAs (Reports shape pass) form o input
