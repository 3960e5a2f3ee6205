-- What the calls of a till answer. Each does what the call of escpos_till's machine does that it stands for.
use Rattle.std.specs.Prelude.{false, ℕ, ℤ, pos, ◌≡◌, ◌≢◌, ◌⊎◌, min, List, [], ◌∷◌, ◌++◌, length, take, drop, Option, Some, None}
use Rattle.escpos_command.specs.declared.command.Command.{Command}
use Rattle.escpos_host.specs.declared.send.SendFault.{SendFault}
use Rattle.escpos_receipt.specs.declared.options.ReceiptOptions.{ReceiptOptions}
use Rattle.escpos_till.specs.declared.entry.Entry.{Entry}
use Rattle.escpos_till.specs.declared.stage.Action.{Action}
use Rattle.escpos_till.specs.declared.stage.Stage.{Stage}
use Rattle.escpos_till.specs.declared.stage.Stage.TheVariants as stage
use Rattle.escpos_till.specs.declared.stage.Talk.{Talk}
use Rattle.escpos_till.specs.declared.note.TillRefusal.{TillRefusal}
use Rattle.escpos_till.specs.declared.store.StoreFault.TheVariants as store
use Rattle.escpos_till.specs.Contents.{content_with}
use Rattle.escpos_till.specs.Copy.{IsCopyText}
use Rattle.escpos_till.specs.Keys.{IsKey}
use Rattle.escpos_till.specs.Machine.{Asks, Cancels, Delivers, Ended, Kept, MachineView, Queues, Raises, RefusesAny, RefusesCancel, RefusesDeliver, RefusesRaise, SameEntries, Unsure, connected, not_connected, put, told}
use Rattle.escpos_c.specs.declared.call_status.CallStatus.{CallStatus}
use Rattle.escpos_c.specs.declared.call_status.CallStatus.TheVariants as call
use Rattle.escpos_c.specs.declared.refusal.TheConstants.{BAD_OPTIONS, NO_REASON, NO_PLACE}
use Rattle.escpos_c.specs.declared.till_core.TillCore.{TillCore}
use Rattle.escpos_c.specs.declared.till_numbers.Asked.{Asked}
use Rattle.escpos_c.specs.declared.till_numbers.Told.{Told}
use Rattle.escpos_c.specs.declared.till_numbers.TheConstants.{BAD_COPY, BAD_KEY, DAMAGED, NOT_TAKEN}
use Rattle.escpos_c.specs.Buffer.{Given, GivesNone}
use Rattle.escpos_c.specs.EncodeCalls.{GivesReceipt, IsRefusal}
use Rattle.escpos_c.specs.Status.{number_of_status}
use Rattle.escpos_c.specs.TillLines.{ended_line}
use Rattle.escpos_c.specs.TillNumbers.{asked_of, fault_of, nothing_told, refused_for, till_status, told_of}
use Rattle.escpos_c.specs.TillTexts.{IsDamagedAt, IsMachineOf}

-- ## Calls that make one

-- The handle holds a machine of the entries that the text is the lines of.
abbrev pub HoldsEntries : Option TillCore → List ℕ → Type 0
HoldsEntries None text = ⊥
HoldsEntries (Some core) text = IsMachineOf text core.machine

-- A machine is made of the lines; or one of them is at fault, and its place is told; or memory ran out. The handle is as it was then.
abbrev pub Opens : List ℕ → ℤ → ℕ → ℕ → Option TillCore → Option TillCore → Type 0
Opens text status reason at old new =
    ((status ≡ pos 0) × (reason ≡ NO_REASON) × (at ≡ NO_PLACE) × HoldsEntries new text)
    ⊎ ((status ≡ pos 1) × (reason ≡ DAMAGED) × IsDamagedAt text at × (new ≡ old))
    ⊎ ((status ≡ pos 4) × (reason ≡ NO_REASON) × (at ≡ NO_PLACE) × (new ≡ old))

-- ## Calls of one at rest

-- The call did this; or the machine refuses it for such a reason, and is as this says.
abbrev pub TillCalled : (MachineView → MachineView → Type 0) → (MachineView → TillRefusal → Type 0) → (MachineView → MachineView → Type 0) → ℤ → Told → TillCore → TillCore → Type 0
TillCalled does refuses keeps status told old new =
    ((status ≡ pos 0) × (told ≡ nothing_told) × does old.machine new.machine)
    ⊎ ((why : TillRefusal) × refuses old.machine why × keeps old.machine new.machine
    × (status ≡ number_of_status (till_status why)) × (told ≡ told_of why))

abbrev pub Same : MachineView → MachineView → Type 0
Same m after = after ≡ m

-- The receipt that a text describes is taken, with this key or with none, or the machine refuses it; or the text gives no receipt, and the
-- machine isn't asked; or memory ran out over the text.
abbrev pub QueuesText : ReceiptOptions → List ℕ → Option (List ℕ) → ℤ → Told → TillCore → TillCore → Type 0
QueuesText options json key status told old new =
    ((receipt : List Command) × GivesReceipt options json receipt
    × TillCalled (λ m after. Queues m (content_with options json) key after) RefusesAny SameEntries status told old new)
    ⊎ ((status ≡ pos 1) × (told.reason ≡ NO_REASON) × IsRefusal options json told.fault told.at × (told.next ≡ 0) × (new ≡ old))
    ⊎ ((status ≡ pos 4) × (told ≡ nothing_told) × (new ≡ old))

-- The same, where the options may be out of range: then it is refused, whatever the text is, and the machine isn't asked.
abbrev pub QueuesTextWith : Option ReceiptOptions → List ℕ → Option (List ℕ) → ℤ → Told → TillCore → TillCore → Type 0
QueuesTextWith None json key status told old new =
    (status ≡ pos 1) × (told.reason ≡ NO_REASON) × (told.fault ≡ BAD_OPTIONS) × (told.at ≡ NO_PLACE) × (told.next ≡ 0) × (new ≡ old)
QueuesTextWith (Some options) json key status told old new = QueuesText options json key status told old new

-- The same with this key; or these bytes are no key, and the machine isn't asked.
abbrev pub QueuesKeyed : Option ReceiptOptions → List ℕ → List ℕ → ℤ → Told → TillCore → TillCore → Type 0
QueuesKeyed options json key status told old new =
    (IsKey key × QueuesTextWith options json (Some key) status told old new)
    ⊎ ((¬ IsKey key) × (status ≡ pos 1) × (told ≡ refused_for BAD_KEY) × (new ≡ old))

abbrev pub RaisesTo : ℕ → ℤ → Told → TillCore → TillCore → Type 0
RaisesTo first = TillCalled (λ m after. Raises m first after) (λ m why. RefusesRaise m first why) Same

-- The receipt with this number is cancelled, or the machine refuses to; or the number is 0, which no receipt has, and the machine isn't asked.
abbrev pub CancelsNumber : ℕ → ℤ → Told → TillCore → TillCore → Type 0
CancelsNumber number status told old new =
    TillCalled (λ m after. Cancels m number after) (λ m why. RefusesCancel m number why) Same status told old new
    ⊎ ((number ≡ 0) × (status ≡ pos 1) × (told ≡ refused_for NOT_TAKEN) × (new ≡ old))

-- No bytes are no text of a copy.
abbrev pub copy_of : List ℕ → Option (List ℕ)
copy_of [] = None
copy_of (b ∷ copy) = Some (b ∷ copy)

-- The first receipt that waits is delivered, or the machine refuses to; or the text of a copy is none, and the machine isn't asked.
abbrev pub DeliversCopy : ℕ → List ℕ → ℕ → ℤ → Told → TillCore → TillCore → Type 0
DeliversCopy openings copy most status told old new =
    TillCalled (λ m after. Delivers m openings most (copy_of copy) false after) (λ m why. RefusesDeliver m openings why) SameEntries status told old new
    ⊎ ((copy ≢ []) × ¬ IsCopyText copy × (status ≡ pos 1) × (told ≡ refused_for BAD_COPY) × (new ≡ old))

-- ## What it asks for

-- This is told of what the machine asks for.
abbrev pub TellsAsk : MachineView → Asked → Type 0
TellsAsk m asked = (a : Action) × Asks m m.stage a × (asked ≡ asked_of a)

-- The line of an entry is given; or the buffer is too short for it, or memory ran out.
abbrev pub GivesLine : Entry → ℤ → List ℕ → List ℕ → ℕ → Type 0
GivesLine e status before after written =
    (ended : CallStatus) × (status ≡ number_of_status ended)
    × (Given call.Good (ended_line e) ended before after written ⊎ ((ended ≡ call.Memory) × (written ≡ 0) × (after ≡ before)))

-- Where an entry is to be kept, its line is given. Elsewhere the call is refused.
abbrev pub GivesEntry : Stage → ℤ → List ℕ → List ℕ → ℕ → Type 0
GivesEntry (stage.Keeping e next) status before after written = GivesLine e status before after written
GivesEntry _ status before after written = GivesNone status before after written

-- ## What it is told

-- The entry that it asked for is kept, or isn't known to be.
abbrev pub TakesAppended : Type 0 → MachineView → MachineView → Type 0
TakesAppended kept m after = (kept → Kept m.stage m after) × (¬ kept → Unsure m.stage store.Failed m after)

-- There is a link, or there is none.
abbrev pub TakesConnected : Type 0 → MachineView → MachineView → Type 0
TakesConnected is m after = (is → after ≡ connected m.stage m) × (¬ is → after ≡ not_connected m.stage m)

-- The first bytes that are to be put are at the start of the buffer, as many as there are and fit; where none are to be put, none.
pub record TakesOutOf (before after : List ℕ) (count : ℕ) (m left : MachineView) : Type 0 where
  pub taken : left ≡ put m.stage count m
  pub copied : after ≡ take count m.host.out ++ drop count before
  pub talking : (talk : Talk) → m.stage ≡ stage.Talking talk → count ≡ min (length before) (length m.host.out)
  pub none : ((talk : Talk) → m.stage ≢ stage.Talking talk) → count ≡ 0

-- The link has ended for a reason that there is; any other is refused.
abbrev pub TakesEnd : ℕ → ℤ → TillCore → TillCore → Type 0
TakesEnd why status old new =
    ((fault : SendFault) × (fault_of why ≡ Some fault) × (status ≡ pos 0) × Ended old.machine.stage fault old.machine new.machine)
    ⊎ ((fault_of why ≡ None) × (status ≡ pos 1) × (new ≡ old))
