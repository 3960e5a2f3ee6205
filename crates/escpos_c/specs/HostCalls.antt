-- What the calls of a host answer. Each does what the call of escpos_host does that it stands for.
use Rattle.std.specs.Prelude.{ℕ, ℤ, pos, ◌≡◌, ◌≢◌, ◌⊎◌, ◌<◌, min, List, [], ◌++◌, length, take, drop, Option, Some, None, IsTrue}
use Rattle.escpos_command.specs.declared.command.Command.{Command}
use Rattle.escpos_command.specs.Parameters.{is_status_kind}
use Rattle.escpos_host.specs.declared.host.HostError.{HostError}
use Rattle.escpos_host.specs.declared.host.HostEvent.{HostEvent}
use Rattle.escpos_host.specs.declared.host.HostEvent.TheVariants as event
use Rattle.escpos_host.specs.Heard.{IsHeard}
use Rattle.escpos_host.specs.Machine.{HostView, InFlight, Down, Open, HasMark, IsOpening, RefusesAsk, RefusesSubmit, asked, gone_down, linked, most_in_flight, nudged, submitted, taken_out}
use Rattle.escpos_receipt.specs.declared.options.ReceiptOptions.{ReceiptOptions}
use Rattle.escpos_c.specs.declared.host_core.HostCore.{HostCore}
use Rattle.escpos_c.specs.declared.refusal.TheConstants.{BAD_OPTIONS, NO_KIND, NO_REASON, NO_PLACE}
use Rattle.escpos_c.specs.EncodeCalls.{GivesReceipt, IsRefusal}
use Rattle.escpos_c.specs.HostNumbers.{IsEventNumber, event_kind, refusal_reason, refusal_status}
use Rattle.escpos_c.specs.Status.{number_of_status}

-- The handle holds a host that is new, with this number for its next mark, after this many records.
abbrev pub IsNew : Option HostCore → ℕ → ℕ → Type 0
IsNew None first before = ⊥
IsNew (Some core) first before =
    (core.host ≡ record { phase = Down; out = []; half = []; next = first; heard = 0; records = []; left = [] }) × (core.before ≡ before)

-- The call was refused for this reason, and the host is as it was.
abbrev pub IsRefused : (HostError → HostView → Type 0) → HostCore → HostCore → ℤ → ℕ → Type 0
IsRefused refuses old new status reason =
    (why : HostError) × refuses why old.host × (new.host ≡ old.host)
    × (status ≡ number_of_status (refusal_status why)) × (reason ≡ refusal_reason why)

-- The call did this, or it was refused.
abbrev pub Called : (HostView → HostView → Type 0) → (HostError → HostView → Type 0) → ℤ → ℕ → HostCore → HostCore → Type 0
Called does refuses status reason old new =
    (new.before ≡ old.before)
    × (((status ≡ pos 0) × (reason ≡ NO_REASON) × does old.host new.host) ⊎ IsRefused refuses old new status reason)

abbrev pub LinksUp : HostView → HostView → Type 0
LinksUp h after = (h.phase ≡ Down) × HasMark h × (after ≡ linked h)

abbrev pub Nudges : HostView → HostView → Type 0
Nudges h after = IsOpening h.phase × HasMark h × (after ≡ nudged h)

abbrev pub Asks : ℕ → HostView → HostView → Type 0
Asks kind h after = (h.phase ≡ Open []) × (after ≡ asked h kind)

-- A status request of a kind that there is, or a refusal.
abbrev pub AsksKind : ℕ → ℤ → ℕ → HostCore → HostCore → Type 0
AsksKind kind status reason old new =
    (IsTrue (is_status_kind kind) × Called (Asks kind) RefusesAsk status reason old new)
    ⊎ ((IsTrue (is_status_kind kind) → ⊥) × (status ≡ pos 1) × (reason ≡ NO_KIND) × (new ≡ old))

abbrev pub LinksDown : HostView → HostView → Type 0
LinksDown h after = (h.phase ≢ Down → after ≡ gone_down h) × (h.phase ≡ Down → after ≡ h)

abbrev pub Submits : List Command → HostView → HostView → Type 0
Submits receipt h after =
    (flight : List InFlight) × (h.phase ≡ Open flight) × (length flight < most_in_flight) × HasMark h × (after ≡ submitted h flight receipt)

-- What is answered to a text that is to be submitted: the receipt that it describes with these options is submitted, or the host
-- refuses it; or the text gives no receipt, and the host isn't asked; or memory ran out over the text.
abbrev pub SubmitsText : ReceiptOptions → List ℕ → ℤ → ℕ → ℕ → ℕ → HostCore → HostCore → Type 0
SubmitsText options json status reason fault at old new =
    ((receipt : List Command) × GivesReceipt options json receipt × Called (Submits receipt) RefusesSubmit status reason old new × (fault ≡ NO_REASON) × (at ≡ NO_PLACE))
    ⊎ ((status ≡ pos 1) × (reason ≡ NO_REASON) × IsRefusal options json fault at × (new ≡ old))
    ⊎ ((status ≡ pos 4) × (reason ≡ NO_REASON) × (fault ≡ NO_REASON) × (at ≡ NO_PLACE) × (new ≡ old))

-- The same, where the options may be out of range: then it is refused, whatever the text is, and the host isn't asked.
abbrev pub SubmitsTextWith : Option ReceiptOptions → List ℕ → ℤ → ℕ → ℕ → ℕ → HostCore → HostCore → Type 0
SubmitsTextWith None json status reason fault at old new =
    (status ≡ pos 1) × (reason ≡ NO_REASON) × (fault ≡ BAD_OPTIONS) × (at ≡ NO_PLACE) × (new ≡ old)
SubmitsTextWith (Some options) json status reason fault at old new = SubmitsText options json status reason fault at old new

-- The first bytes are at the start of the buffer, as many as there are and fit.
abbrev pub TakesOut : List ℕ → List ℕ → ℕ → HostCore → HostCore → Type 0
TakesOut before after count old new =
    (new.before ≡ old.before) × (count ≡ min (length before) (length old.host.out))
    × (after ≡ take count old.host.out ++ drop count before) × (new.host ≡ taken_out old.host count)

-- Answers were heard up to the first event, which is told by its kind and its number.
abbrev pub HearsBytes : List ℕ → ℕ → ℕ → ℕ → HostCore → HostCore → Type 0
HearsBytes bytes consumed kind number old new =
    (new.before ≡ old.before)
    × ((e : HostEvent) × (kind ≡ event_kind e) × IsEventNumber old.before e number
    × (old.host.phase ≡ Down → (consumed ≡ length bytes) × (e ≡ event.None) × (new.host ≡ old.host))
    × (old.host.phase ≢ Down → IsHeard old.host bytes consumed e new.host))
