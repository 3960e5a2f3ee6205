-- What the calls that take a stream of bytes, as another library makes it, answer.
use Rattle.std.specs.Prelude.{ℕ, ℤ, pos, ◌≡◌, ◌⊎◌, ◌<◌, ◌≤◌, List, Option, Some, None, length}
use Rattle.escpos_command.specs.declared.command.Command.{Command}
use Rattle.escpos_receipt.specs.Whole.{Whole}
use Rattle.escpos_stream.specs.declared.fault.StreamFault.{StreamFault}
use Rattle.escpos_stream.specs.Refusals.{stream_number, stream_place}
use Rattle.escpos_stream.specs.Streams.{IsStreamFault, StreamGives}
use Rattle.escpos_job_parts.specs.declared.input.TheConstants.{INPUT_LIMIT}
use Rattle.escpos_till.specs.Contents.{content_of_stream}
use Rattle.escpos_till.specs.Machine.{Queues, RefusesAny, SameEntries}
use Rattle.escpos_host.specs.Machine.{RefusesSubmit}
use Rattle.escpos_c.specs.declared.host_core.HostCore.{HostCore}
use Rattle.escpos_c.specs.declared.no_receipt.NoReceipt.{NoReceipt}
use Rattle.escpos_c.specs.declared.no_receipt.NoReceipt.TheVariants as none
use Rattle.escpos_c.specs.declared.refusal.TheConstants.{BAD_OPTIONS, NO_REASON, NO_PLACE, TOO_LONG}
use Rattle.escpos_c.specs.declared.till_core.TillCore.{TillCore}
use Rattle.escpos_c.specs.declared.till_numbers.Told.{Told}
use Rattle.escpos_c.specs.EncodeCalls.{place_number}
use Rattle.escpos_c.specs.HostCalls.{Called, Submits}
use Rattle.escpos_c.specs.TillCalls.{TillCalled}
use Rattle.escpos_c.specs.TillNumbers.{nothing_told}

-- The stream, which isn't too long, gives this receipt.
abbrev pub GivesRaw : List ℕ → List Command → Type 0
GivesRaw stream cs = (length stream ≤ INPUT_LIMIT) × StreamGives stream cs × Whole cs

-- Why it is none on lines of this width, as C sees it: it is too long, or the number and the place of its fault.
abbrev pub IsRawRefusal : ℕ → List ℕ → ℕ → ℕ → Type 0
IsRawRefusal width stream reason at =
    ((INPUT_LIMIT < length stream) × (reason ≡ TOO_LONG) × (at ≡ NO_PLACE))
    ⊎ ((length stream ≤ INPUT_LIMIT) × (why : StreamFault) × IsStreamFault width why stream × (reason ≡ stream_number why) × (at ≡ place_number (stream_place why)))

-- The same, or out of memory. Only private clauses use this definition.
abbrev pub IsRawReason : ℕ → NoReceipt → List ℕ → Type 0
IsRawReason width (none.Refused refusal) stream = IsRawRefusal width stream refusal.reason refusal.at
IsRawReason width none.Memory stream = Unit {0}

-- The receipt of the stream is submitted, or the host refuses it; or it is none, and the host isn't asked; or memory ran out over it.
abbrev pub SubmitsRaw : ℕ → List ℕ → ℤ → ℕ → ℕ → ℕ → HostCore → HostCore → Type 0
SubmitsRaw width stream status reason fault at old new =
    ((receipt : List Command) × GivesRaw stream receipt × Called (Submits receipt) RefusesSubmit status reason old new × (fault ≡ NO_REASON) × (at ≡ NO_PLACE))
    ⊎ ((status ≡ pos 1) × (reason ≡ NO_REASON) × IsRawRefusal width stream fault at × (new ≡ old))
    ⊎ ((status ≡ pos 4) × (reason ≡ NO_REASON) × (fault ≡ NO_REASON) × (at ≡ NO_PLACE) × (new ≡ old))

-- The same, where the width may be out of range: then it is refused, whatever the stream is, and the host isn't asked.
abbrev pub SubmitsRawAt : Option ℕ → List ℕ → ℤ → ℕ → ℕ → ℕ → HostCore → HostCore → Type 0
SubmitsRawAt None stream status reason fault at old new =
    (status ≡ pos 1) × (reason ≡ NO_REASON) × (fault ≡ BAD_OPTIONS) × (at ≡ NO_PLACE) × (new ≡ old)
SubmitsRawAt (Some width) stream status reason fault at old new = SubmitsRaw width stream status reason fault at old new

-- The receipt of the stream is taken, or the machine refuses it; or it is none, and the machine isn't asked; or memory ran out over it.
abbrev pub QueuesRaw : ℕ → List ℕ → ℤ → Told → TillCore → TillCore → Type 0
QueuesRaw width stream status told old new =
    ((receipt : List Command) × GivesRaw stream receipt × TillCalled (λ m after. Queues m (content_of_stream width stream) None after) RefusesAny SameEntries status told old new)
    ⊎ ((status ≡ pos 1) × (told.reason ≡ NO_REASON) × IsRawRefusal width stream told.fault told.at × (told.next ≡ 0) × (new ≡ old))
    ⊎ ((status ≡ pos 4) × (told ≡ nothing_told) × (new ≡ old))

-- The same, where the width may be out of range: then it is refused, whatever the stream is, and the machine isn't asked.
abbrev pub QueuesRawAt : Option ℕ → List ℕ → ℤ → Told → TillCore → TillCore → Type 0
QueuesRawAt None stream status told old new =
    (status ≡ pos 1) × (told.reason ≡ NO_REASON) × (told.fault ≡ BAD_OPTIONS) × (told.at ≡ NO_PLACE) × (told.next ≡ 0) × (new ≡ old)
QueuesRawAt (Some width) stream status told old new = QueuesRaw width stream status told old new
