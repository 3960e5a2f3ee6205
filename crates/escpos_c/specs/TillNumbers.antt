-- The numbers in which C is told of a till.
use Rattle.std.specs.Prelude.{ℕ, ◌+◌, ◌==◌, nat_le, Option, Some, None, List, ◌-◌, slice_get, if◌then◌else◌}
use Rattle.escpos_host.specs.declared.send.SendFault.{SendFault}
use Rattle.escpos_host.specs.declared.send.SendFault.TheVariants as fault
use Rattle.escpos_host.specs.Machine.{error_number}
use Rattle.escpos_receipt.specs.Refusals.{json_number, json_place}
use Rattle.escpos_till.specs.declared.stage.Action.{Action}
use Rattle.escpos_till.specs.declared.stage.Action.TheVariants as action
use Rattle.escpos_till.specs.declared.note.TillNote.{TillNote}
use Rattle.escpos_till.specs.declared.note.TillNote.TheVariants as note
use Rattle.escpos_till.specs.declared.pause.Pause.{Pause}
use Rattle.escpos_till.specs.declared.pause.Pause.TheVariants as pause
use Rattle.escpos_till.specs.declared.note.TillRefusal.{TillRefusal}
use Rattle.escpos_till.specs.declared.note.TillRefusal.TheVariants as refusal
use Rattle.escpos_till.specs.declared.state.ReceiptState.{ReceiptState}
use Rattle.escpos_till.specs.declared.state.ReceiptState.TheVariants as state
use Rattle.escpos_till.specs.declared.store.StoreFault.{StoreFault}
use Rattle.escpos_till.specs.declared.store.StoreFault.TheVariants as store
use Rattle.escpos_c.specs.declared.call_status.CallStatus.{CallStatus}
use Rattle.escpos_c.specs.declared.call_status.CallStatus.TheVariants as call
use Rattle.escpos_c.specs.declared.refusal.TheConstants.{NO_REASON, NO_PLACE}
use Rattle.escpos_c.specs.declared.till_numbers.Asked.{Asked}
use Rattle.escpos_c.specs.declared.till_numbers.Standing.{Standing}
use Rattle.escpos_c.specs.declared.till_numbers.Told.{Told}
use Rattle.escpos_c.specs.declared.till_numbers.TheConstants.{NOT_TAKEN}
use Rattle.escpos_c.specs.EncodeCalls.{place_number}

-- ## What it asks for

-- Why a receipt isn't known to be printed. What a host refused has its number and 10.
abbrev pub fault_number : SendFault → ℕ
fault_number fault.Ended = 1
fault_number fault.ReadFault = 2
fault_number fault.WriteFault = 3
fault_number fault.TimedOut = 4
fault_number fault.TooLong = 5
fault_number fault.BadAnswer = 6
fault_number (fault.Refused why) = 10 + error_number why

-- Why an entry may not be kept.
abbrev pub store_number : StoreFault → ℕ
store_number store.Memory = 21
store_number store.Failed = 22

abbrev pub pause_number : Pause → ℕ
pause_number pause.PaperEnded = 31
pause_number pause.CoverOpen = 32
pause_number pause.Offline = 33

abbrev pub only : ℕ → Asked
only ask = record { ask = ask; note = 0; fault = NO_REASON; number = 0 }

abbrev pub telling : ℕ → ℕ → ℕ → Asked
telling kind why number = record { ask = 6; note = kind; fault = why; number = number }

abbrev pub note_asked : TillNote → Asked
note_asked (note.Queued number) = telling 1 NO_REASON number
note_asked note.Raised = telling 2 NO_REASON 0
note_asked (note.Recorded number) = telling 3 NO_REASON number
note_asked (note.NoLink number) = telling 4 NO_REASON number
note_asked (note.Waiting number why) = telling 5 (fault_number why) number
note_asked (note.NotKept why) = telling 6 (store_number why) 0
note_asked (note.Cancelled number tried) = telling 7 NO_REASON number
note_asked (note.Paused number why) = telling 8 (pause_number why) number
note_asked (note.StillPaused number why) = telling 9 (pause_number why) number

abbrev pub asked_of : Action → Asked
asked_of action.Nothing = only 0
asked_of (action.Append e) = only 1
asked_of action.Connect = only 2
asked_of action.Put = only 3
asked_of (action.Wait most) = record { ask = 4; note = 0; fault = NO_REASON; number = most }
asked_of action.HangUp = only 5
asked_of (action.Tell n) = note_asked n

-- Why a link is said to have ended.
abbrev pub fault_of : ℕ → Option SendFault
fault_of why =
    if why == 1 then Some fault.Ended
    else if why == 2 then Some fault.ReadFault
    else if why == 3 then Some fault.WriteFault
    else if why == 4 then Some fault.TimedOut
    else None

-- ## What it refuses

-- A refusal is told by its reason; a receipt's by that and the number and place of its fault; a mark number's by that and the next number, or the last that is allowed.
abbrev pub refused_for : ℕ → Told
refused_for reason = record { reason = reason; fault = NO_REASON; at = NO_PLACE; next = 0 }

abbrev pub nothing_told : Told
nothing_told = refused_for NO_REASON

abbrev pub told_of : TillRefusal → Told
told_of refusal.Busy = refused_for 1
told_of refusal.Failed = refused_for 2
told_of refusal.Memory = nothing_told
told_of refusal.NothingWaits = refused_for 3
told_of (refusal.NoReceipt number why) = record { reason = 4; fault = json_number why; at = place_number (json_place why); next = 0 }
told_of (refusal.MarksUsedUp number) = refused_for 5
told_of (refusal.MarkReused next) = record { reason = 6; fault = NO_REASON; at = NO_PLACE; next = next }
told_of (refusal.MarkTooHigh last) = record { reason = 9; fault = NO_REASON; at = NO_PLACE; next = last }
told_of (refusal.NotTaken number) = refused_for NOT_TAKEN
told_of (refusal.Earlier number) = refused_for 14
told_of (refusal.Recorded number) = refused_for 11
told_of (refusal.Cancelled number) = refused_for 12

abbrev pub till_status : TillRefusal → CallStatus
till_status refusal.Memory = call.Memory
till_status _ = call.Refused

-- ## Where its receipts stand

abbrev pub standing_at : Option ReceiptState → Standing
standing_at None = record { kind = 0; number = 0 }
standing_at (Some (state.Waiting tried)) = record { kind = 1; number = tried }
standing_at (Some (state.Recorded place)) = record { kind = 2; number = place }
standing_at (Some (state.Cancelled tried)) = record { kind = 3; number = tried }

-- Where the receipt of this number stands, if there is one: receipts are numbered from 1, or from the number after the last one of an older ledger.
abbrev pub standing_of : ℕ → List ReceiptState → ℕ → Standing
standing_of earlier states number = if nat_le number earlier then standing_at None else standing_at (slice_get states (number - (1 + earlier)))
