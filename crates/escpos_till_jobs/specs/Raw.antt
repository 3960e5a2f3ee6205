-- What `queue --raw` does: a stream of bytes, as another library makes it, is taken as a receipt.
use Rattle.std.specs.Prelude.{ℕ, Bool, ◌≡◌, ◌⊎◌, ◌<◌, ◌≤◌, List, [], ◌∷◌, ◌++◌, Option, codes, decimal, length, IfSome, IsTrue}
use Rattle.escpos_command.specs.declared.bytes.TheConstants.{LF}
use Rattle.escpos_job_parts.specs.declared.input.TheConstants.{INPUT_LIMIT}
use Rattle.escpos_job_parts.specs.declared.input.InputFault.TheVariants as input
use Rattle.escpos_job_parts.specs.declared.lines.TheConstants.{SPACE}
use Rattle.escpos_job_parts.specs.declared.status.Status.{Status}
use Rattle.escpos_job_parts.specs.declared.status.Status.TheVariants.{Device, Memory, Refused}
use Rattle.escpos_job_parts.specs.Ending.{PrintsText, memory_line}
use Rattle.escpos_job_parts.specs.Refusal.{place_text}
use Rattle.escpos_stream.specs.declared.fault.StreamError.TheVariants as error
use Rattle.escpos_stream.specs.declared.fault.StreamFault.{StreamFault}
use Rattle.escpos_stream.specs.Refusals.{stream_name, stream_number, stream_place}
use Rattle.escpos_stream.specs.Streams.{IsStreamFault}
use Rattle.escpos_till.specs.declared.entry.Content.{Content}
use Rattle.escpos_till.specs.Contents.{GivesReceipt, StreamIsReceipt, content_of_stream}
use Rattle.escpos_till.specs.Driver.{Deed}
use Rattle.escpos_till_jobs.specs.declared.raw.NoStream.{NoStream}
use Rattle.escpos_till_jobs.specs.declared.raw.NoStream.TheVariants as none
use Rattle.escpos_till_jobs.specs.declared.word.Word.TheVariants as word
use Rattle.escpos_till_jobs.specs.Outputs.{Output, ended}
use Rattle.escpos_till_jobs.specs.Words.{InLedger, Place}

-- The refusal's number, its name, and the place of the byte.
abbrev pub stream_line : StreamFault → List ℕ
stream_line fault = codes "refused " ++ decimal (stream_number fault) ++ SPACE ∷ [] ++ stream_name fault ++ place_text (stream_place fault) ++ LF ∷ []

-- The input, where it can be known, is a receipt on lines of this width.
pub record ReadsRaw (width : ℕ) (came : Option (List ℕ)) (content : Content) : Type 0 where
  pub stream : IfSome came (λ bytes. (length bytes ≤ INPUT_LIMIT) × (content ≡ content_of_stream width bytes) × StreamIsReceipt width bytes)
  pub receipt : GivesReceipt content

-- Why it is none, and what is printed; where the input itself has failed, nothing is.
abbrev pub RefusesRaw : NoStream → ℕ → Option (List ℕ) → Bool → Output → Output → Status → Type 0
RefusesRaw (none.Input input.TooLong) width came failed before end status = IfSome came (λ bytes. INPUT_LIMIT < length bytes) × PrintsText (ended before end status) (codes "refused input\n") Refused
RefusesRaw (none.Input input.Device) width came failed before end status = IsTrue failed × (status ≡ Device) × (end ≡ before)
RefusesRaw (none.Input input.Memory) width came failed before end status = PrintsText (ended before end status) memory_line Memory
RefusesRaw (none.Input input.NotHexadecimal) width came failed before end status = ⊥
RefusesRaw (none.Stream (error.Refused why)) width came failed before end status =
    IfSome came (λ bytes. (length bytes ≤ INPUT_LIMIT) × IsStreamFault width why bytes) × PrintsText (ended before end status) (stream_line why) Refused
RefusesRaw (none.Stream error.Memory) width came failed before end status = PrintsText (ended before end status) memory_line Memory

-- A stream is read as a receipt, and taken into the ledger at the path, with the key that it comes with; or it is refused, and no ledger is opened.
abbrev pub QueuesRawAt : {F S L : Type 0} → Place F S → (L → Deed → L → Type 0) → Option (List ℕ) → Bool → F → Output → F → Output → Status → List ℕ → ℕ → Option (List ℕ) → Type 0
QueuesRawAt {F} {S} {L} p did came failed ledgers before after end status path width key =
    ((fault : NoStream) × (after ≡ ledgers) × RefusesRaw fault width came failed before end status)
    ⊎ ((content : Content) × ReadsRaw width came content × (line new : L) × InLedger p did path (word.Queue content key) ledgers line before after new end status)
