-- What happens in a world that is the view of what a till is made of, one after another, from a new till on.
use Rattle.std.proofs.Common.{ℕ, ◌≡◌, ◌≤◌, ◌≢◌, ◌⊎◌, inl, inr, Option, Some, None, List, [], ◌∷◌, ◌++◌, length, take, refl, sym, ◌∙◌, ap, subst, append-nil, append_assoc, arith}
use Rattle.escpos_command.specs.declared.command.Command.{Command}
use Rattle.escpos_host.specs.declared.send.SendFault.{SendFault}
use Rattle.escpos_host.specs.Machine.{Down, IsSound}
use Rattle.escpos_link.specs.declared.event.Event.{Event}
use Rattle.escpos_link.specs.declared.event.Note.{Note}
use Rattle.escpos_link.specs.declared.event.Event.TheVariants as line
use Rattle.escpos_link.specs.declared.event.Refused.{Refused}
use Rattle.escpos_link.specs.EventTable.{put_on}
use Rattle.escpos_link.specs.Wire.{AfterOnWire, IsRefusedOnWire, WireView, given_up, heard_from, line_of, wire_of, with_bytes, with_link}
use Rattle.escpos_till.specs.Delivers.{fresh}
use Rattle.escpos_till.specs.declared.entry.Entry.{Entry}
use Rattle.escpos_till.specs.declared.entry.Entry.TheVariants as entry
use Rattle.escpos_till.specs.declared.stage.Stage.{Stage}
use Rattle.escpos_till.specs.declared.stage.Stage.TheVariants as stage
use Rattle.escpos_till.specs.declared.stage.Talk.{Talk}
use Rattle.escpos_till.specs.declared.stage.Then.{Then}
use Rattle.escpos_till.specs.declared.note.TillNote.{TillNote}
use Rattle.escpos_till.specs.declared.store.StoreFault.{StoreFault}
use Rattle.escpos_till.specs.Machine.{Came, Delivers, Ended, IsStarted, Kept, MachineView, SameEntries, SendsReceipt, Unsure, put, told}
use Rattle.escpos_till_model.specs.Known.{IsWorld}
use Rattle.escpos_till.specs.Machine.{IsLinked as Linked}
use Rattle.escpos_till.specs.Further.{IsText}
use Rattle.escpos_till_model.specs.World.{Begins, Breaks, Calls, Crashes, FitsLine, GoesOnWire, HasCome, Happens, Hears, Idles, Puts, Runs, Starts, Stores, Tells, World, is_printer_event, running, with_entry, with_wire}
use Rattle.escpos_till_model.specs.declared.event.Happening.{Happening}
use Rattle.escpos_till_model.specs.declared.event.Happening.TheVariants as event
use Rattle.escpos_till_model.specs.declared.event.NotPossible.{NotPossible}
use Rattle.escpos_till_model.specs.declared.event.NotPossible.TheVariants as why
use Rattle.escpos_till_model.specs.Instead.{Instead, IsFor, IsUnwanted, KeepsEntry, LeftByMemory, Ran}
use Rattle.escpos_till.specs.Book.{IsBookOf}
use Rattle.escpos_command.specs.CommandTable.{AreCommands}
use Rattle.escpos_receipt.specs.Whole.{Whole}
use Rattle.escpos_link.specs.Trusted.{IsFitting, IsTrusted}
use Rattle.escpos_till_model.proofs.WorldStore.{down_of}
use Rattle.escpos_till_model.proofs.HostHears.{take_front}
use Rattle.std.proofs.Common.{Result, Ok, Err, IfErr}
use Rattle.std.specs.Prelude.{Bool, OnOk, IsTrue, min, true, false}
use Rattle.std.proofs.Math.Nat.{min-le_left, min-le_right}
use Rattle.std.proofs.lemmas.List.{length-take-le}
use Rattle.escpos_host.specs.declared.send.SendFault.TheVariants as fault
use Rattle.escpos_link.specs.Line.{IsLine}
use Rattle.escpos_till.specs.Entries.{heard, IsLedger, next_free}
use Rattle.escpos_till.proofs.EntryLemmas.{empty_ledger}
use Rattle.escpos_till_model.specs.Late.{IsHeardBy, LateAnswers}
use Rattle.escpos_till_model.specs.Receipts.{Among, AreReceipts, Extends}
use Rattle.escpos_till_model.proofs.EntryFacts.{among_nothing}
use Rattle.escpos_till_model.proofs.Worlds.{entries_last, entries_stay, more_entries, same_entries}
use Rattle.escpos_till_model.proofs.LinesKept.{none_given_up}
use Rattle.escpos_till_model.proofs.TillHappens.{called, ends, fails, fed_fewer, hears_so, is_down, is_up, keeps_other, linked_or_not, tells, tried_idle, tried_up}

-- ## Worlds that are the view of what a till is made of

pub same_but : (m after : MachineView) → after ≡ m → SameEntries m after
same_but m after same =
    record { host = ap (λ v. v.host) same; stage = ap (λ v. v.stage) same; book = λ entries is. subst (λ v. IsBookOf v.book entries) (sym same) is }

pub refuses_in : (w v : World) (m : MachineView) → v ≡ w → v.machine ≡ Some m → IsSound m.host → Calls SameEntries w w
refuses_in w v m view was sound =
    subst (λ x. Calls SameEntries x x) view
    (subst (λ o. Calls SameEntries v (record { machine = o; kept = v.kept; wire = v.wire; told = v.told })) (sym was) (called SameEntries v m m was (same_but m m refl) sound refl))

pub starts_in : (w v : World) (m : MachineView) → v ≡ w → v.machine ≡ None → IsStarted m → IsBookOf m.book v.kept → IsSound m.host → Starts w (running m v.kept v.wire v.told)
starts_in w v m view none started book sound =
    subst (λ x. Starts x (running m v.kept v.wire v.told)) view (record { m = m; off = none; started = started; book = book; sound = sound; is = refl })

pub tells_in : (w v : World) (m after : MachineView) (n : TillNote) → v ≡ w → v.machine ≡ Some m → m.stage ≡ stage.Telling n → after ≡ told m.stage m → IsSound after.host
    → Tells w (running after v.kept v.wire (v.told ++ n ∷ []))
tells_in w v m after n view was is same sound = subst (λ x. Tells x (running after v.kept v.wire (v.told ++ n ∷ []))) view (tells v m after n was is same sound)

pub stays_in : (w v : World) (m : MachineView) → v ≡ w → v.machine ≡ Some m → running m v.kept v.wire v.told ≡ w
stays_in w v m view was = ap (λ o. record { machine = o; kept = v.kept; wire = v.wire; told = v.told }) (sym was) ∙ view

pub not_asked_in : (w v : World) (m : MachineView) (e : Happening) → v ≡ w → v.machine ≡ Some m → (IsFor e m.stage → ⊥) → Instead why.NotAsked e w (running m v.kept v.wire v.told)
not_asked_in w v m e view was none = ((m, ap (λ x. x.machine) (sym view) ∙ was, none), stays_in w v m view was)

pub unwanted_in : (cause : NotPossible) (w v : World) (m : MachineView) (e : Happening) → v ≡ w → v.machine ≡ Some m → (IsFor e m.stage → KeepsEntry m.stage) → IsUnwanted cause m.stage
    → Instead cause e w (running m v.kept v.wire v.told)
unwanted_in why.NotAsked w v m e view was for is = not_asked_in w v m e view was (λ x. is (for x))
unwanted_in why.Memory w v m e view was for is = inl (stays_in w v m view was)
unwanted_in why.SwitchedOff w v m e view was for is = absurd is
unwanted_in why.SwitchedOn w v m e view was for is = absurd is
unwanted_in why.Linked w v m e view was for is = absurd is
unwanted_in why.NotCopyText w v m e view was for is = absurd is
unwanted_in why.NotAtPrinter w v m e view was for is = absurd is
unwanted_in why.Alone w v m e view was for is = absurd is
unwanted_in why.OneByOne w v m e view was for is = absurd is
unwanted_in (why.Machine cause) w v m e view was for is = absurd is

pub fits_by : ((receipt : List Command) → Whole receipt → AreCommands receipt → IsFitting (line.Submit receipt)) → (s : Stage) → SendsReceipt s → FitsLine s
fits_by fitting (stage.Connecting due) sends = record { fits = fitting due.receipt sends.1 sends.0; no_real_time = sends.1.no_real_time }
fits_by fitting stage.AtRest sends = tt
fits_by fitting (stage.Keeping e next) sends = tt
fits_by fitting (stage.Talking talk) sends = tt
fits_by fitting (stage.HangingUp n) sends = tt
fits_by fitting (stage.Telling n) sends = tt
fits_by fitting stage.Failed sends = tt

pub fails_in : (has : List Entry → Entry → List Entry) (w v : World) (why : StoreFault) (m after : MachineView) (wire : WireView) (e : Entry) (next : Then) → v ≡ w → IsWorld w
    → v.machine ≡ Some m → m.stage ≡ stage.Keeping e next → Unsure m.stage why m after → IsSound after.host → (Linked m.stage → wire ≡ given_up v.wire)
    → ((Linked m.stage → ⊥) → wire ≡ v.wire) → Stores (λ x y. Unsure x.stage why x y) has w (running after (has v.kept e) wire v.told)
fails_in has w v why m after wire e next view known was is unsure sound gone stays =
    subst (λ x. Stores (λ a b. Unsure a.stage why a b) has x (running after (has v.kept e) wire v.told)) view
    (fails has v why m after wire e next (subst IsWorld (sym view) known) was is unsure sound gone stays)

pub ends_in : (w v : World) (m after : MachineView) (wire : WireView) (why : SendFault) → v ≡ w → IsWorld w → v.machine ≡ Some m → Ended m.stage why m after → IsSound after.host
    → ((talk : Talk) → m.stage ≡ stage.Talking talk → wire ≡ given_up v.wire) → (((talk : Talk) → m.stage ≢ stage.Talking talk) → wire ≡ v.wire)
    → Calls (λ x y. Ended x.stage why x y) w (running after v.kept wire v.told)
ends_in w v m after wire why view known was ended sound gone stays =
    subst (λ x. Calls (λ a b. Ended a.stage why a b) x (running after v.kept wire v.told)) view
    (ends v m after wire why (subst IsWorld (sym view) known) was ended sound gone stays)

pub hears_in : (w v : World) (m after : MachineView) (talk : Talk) (most consumed : ℕ) (wire : WireView) → v ≡ w → IsWorld w → v.machine ≡ Some m → m.stage ≡ stage.Talking talk
    → Came m.stage (take most v.wire.coming) consumed m after → IsSound after.host → (Linked after.stage → wire ≡ heard_from v.wire consumed)
    → ((Linked after.stage → ⊥) → wire ≡ given_up (heard_from v.wire consumed)) → Hears w most (running after v.kept wire v.told)
hears_in w v m after talk most consumed wire view known was talks came sound stays gone =
    subst (λ x. Hears x most (running after v.kept wire v.told)) view
    (hears_so v m after talk most consumed wire (subst IsWorld (sym view) known) was talks came sound stays gone)

-- Bytes are put.
pub puts_in : (w v : World) (m after : MachineView) (talk : Talk) (most : ℕ) → v ≡ w → v.machine ≡ Some m → m.stage ≡ stage.Talking talk
    → after ≡ put m.stage (min most (length m.host.out)) m → IsSound after.host
    → Puts w most (running after v.kept (with_bytes v.wire (take (min most (length m.host.out)) m.host.out)) v.told)
puts_in w v m after talk most view was talks is sound =
    let count : ℕ = min most (length m.host.out) in
    subst (λ x. Puts x most (running after v.kept (with_bytes v.wire (take count m.host.out)) v.told)) view (record {
      m = m;
      talk = talk;
      count = count;
      was = was;
      talks = talks;
      count_is = refl;
      sound = subst (λ x. IsSound x.host) is sound;
      is = ap (λ x. running x v.kept (with_bytes v.wire (take count m.host.out)) v.told) is;
    })

pub breaks_in : (w v : World) (m mid after : MachineView) (talk : Talk) (most fewer : ℕ) (cause : SendFault) → v ≡ w → v.machine ≡ Some m → m.stage ≡ stage.Talking talk
    → mid ≡ put m.stage (min most (length m.host.out)) m → Ended mid.stage cause mid after → IsSound after.host
    → Breaks w most fewer cause (running after v.kept (given_up (with_bytes v.wire (take (min fewer (min most (length m.host.out))) m.host.out))) v.told)
breaks_in w v m mid after talk most fewer cause view was talks is ended sound =
    let taken : ℕ = min most (length m.host.out) in
    let count : ℕ = min fewer taken in
    let same : (put m.stage taken m).stage ≡ m.stage = ap (λ s. (put s taken m).stage) talks ∙ sym talks in
    let at : Ended (put m.stage taken m).stage cause (put m.stage taken m) after = subst (λ x. Ended x.stage cause x after) is ended in
    subst (λ x. Breaks x most fewer cause (running after v.kept (given_up (with_bytes v.wire (take count m.host.out))) v.told)) view (record {
      m = m;
      after = after;
      talk = talk;
      taken = taken;
      count = count;
      was = was;
      talks = talks;
      taken_is = refl;
      count_is = refl;
      ended = subst (λ s. Ended s cause (put m.stage taken m) after) same at;
      sound = sound;
      is = refl;
    })

-- Bytes of bytes that were taken out.
pub taken_twice : (fewer most count : ℕ) (out items : List ℕ) → items ≡ take (min most (length out)) out → count ≡ min fewer (length items)
    → take count items ≡ take (min fewer (min most (length out))) out
taken_twice fewer most count out items is count_is =
    let n : ℕ = min most (length out) in
    let long : length items ≡ n = ap length is ∙ length-take-le n out (min-le_right most (length out)) in
    let same : count ≡ min fewer n = count_is ∙ ap (min fewer) long in
    ap (take count) is ∙ take_front count n out (omega (arith, same, min-le_right fewer n)) ∙ ap (λ k. take k out) same

put_nothing : (live : Option (List ℕ)) → put_on live [] ≡ live
put_nothing None = refl
put_nothing (Some bytes) = ap Some (append-nil bytes)

-- Nothing is put.
pub nothing_put : (w : WireView) (n : ℕ) (out : List ℕ) → with_bytes w (take (min 0 n) out) ≡ w
nothing_put w n out =
    let none : min 0 n ≡ 0 = omega (arith, min-le_left 0 n) in
    ap (λ k. with_bytes w (take k out)) none ∙ ap (λ l. record { printer = w.printer; ended = w.ended; live = l; coming = w.coming }) (put_nothing w.live)

pub breaks_nothing : (w v : World) (m mid after : MachineView) (talk : Talk) (most : ℕ) (cause : SendFault) → v ≡ w → v.machine ≡ Some m → m.stage ≡ stage.Talking talk
    → mid ≡ put m.stage (min most (length m.host.out)) m → Ended mid.stage cause mid after → IsSound after.host
    → Breaks w most 0 cause (running after v.kept (given_up v.wire) v.told)
breaks_nothing w v m mid after talk most cause view was talks is ended sound =
    subst (λ x. Breaks w most 0 cause (running after v.kept (given_up x) v.told)) (nothing_put v.wire (min most (length m.host.out)) m.host.out)
    (breaks_in w v m mid after talk most 0 cause view was talks is ended sound)

pub crashes_in : (w v : World) (wire : WireView) → v ≡ w → IsWorld w → ((m : MachineView) → v.machine ≡ Some m → Linked m.stage → wire ≡ given_up v.wire)
    → (((m : MachineView) → v.machine ≡ Some m → Linked m.stage → ⊥) → wire ≡ v.wire) → Crashes w (record { machine = None; kept = v.kept; wire = wire; told = v.told })
crashes_in w v wire view known gone stays =
    let so : IsWorld v = subst IsWorld (sym view) known in
    let up : (m : MachineView) → v.machine ≡ Some m → m.host.phase ≢ Down → Linked m.stage =
    λ m was up. elim (linked_or_not m.stage) [ inl l ↦ l | inr none ↦ absurd (up (is_down v m so was none)) ] in
    subst (λ x. Crashes x (record { machine = None; kept = v.kept; wire = wire; told = v.told })) view (record {
      wire = wire;
      no_link = λ down. stays (λ m was l. is_up v m so was l (down m was));
      link = λ m was linked. gone m was (up m was linked);
      is = refl;
    })

pub idles_in : (w v : World) → v ≡ w → IsWorld w → ((m : MachineView) → v.machine ≡ Some m → Linked m.stage → ⊥)
    → Idles w (record { machine = v.machine; kept = v.kept; wire = given_up (with_link v.wire); told = v.told })
idles_in w v view known none =
    let so : IsWorld v = subst IsWorld (sym view) known in
    subst (λ x. Idles x (with_wire v (given_up (with_link v.wire)))) view (record { none = λ m was. is_down v m so was (none m was); is = refl })

-- A world whose host has no link has no live one.
pub not_live : (w : World) → IsWorld w → ((m : MachineView) → w.machine ≡ Some m → m.host.phase ≡ Down) → w.wire.live ≡ None
not_live w known down = known.line.down (down_of w.machine known.host known.host_is down)

pub linked_in : (w v : World) (m : MachineView) → v ≡ w → IsWorld w → v.machine ≡ Some m → Linked m.stage → (x : MachineView) × (w.machine ≡ Some x) × (x.host.phase ≢ Down)
linked_in w v m view known was l = (m, ap (λ x. x.machine) (sym view) ∙ was, is_up v m (subst IsWorld (sym view) known) was l)

pub goes_in : (e : Event) (w v : World) (wire : WireView) (effect : Note) → v ≡ w → is_printer_event e ≡ true → AfterOnWire e v.wire effect wire → GoesOnWire e w (with_wire v wire)
goes_in e w v wire effect view at happened =
    subst (λ x. GoesOnWire e x (with_wire v wire)) view (record { at_printer = at; wire = wire; effect = effect; happened = happened; is = refl })

pub fed_in : (w v : World) (most : ℕ) (refused : Refused) (wire : WireView) → v ≡ w → IsRefusedOnWire (line.Deliver most) v.wire refused wire
    → LeftByMemory (event.OnWire (line.Deliver most)) w (with_wire v wire)
fed_in w v most refused wire view is =
    let (fewer, less, fed) = fed_fewer v most refused wire is in
    inr (inl (most, fewer, refl, less, subst (λ x. GoesOnWire (line.Deliver fewer) x (with_wire v wire)) view fed))

-- An answer that can't go on its way leaves all as it was.
pub handed_in : (w v : World) (refused : Refused) (wire : WireView) → v ≡ w → IsRefusedOnWire line.HandOver v.wire refused wire → with_wire v wire ≡ w
handed_in w v refused wire view is = ap (λ l. with_wire v (wire_of l)) (is (fresh 0 0)).line ∙ view

pub crash_by : (b : Bool) (w v : World) (wire : WireView) → v ≡ w → IsWorld w → (IsTrue b → (m : MachineView) × (w.machine ≡ Some m) × Linked m.stage)
    → (¬ IsTrue b → (m : MachineView) → w.machine ≡ Some m → Linked m.stage → ⊥) → (IsTrue b → wire ≡ given_up v.wire) → (¬ IsTrue b → wire ≡ v.wire)
    → Crashes w (record { machine = None; kept = v.kept; wire = wire; told = v.told })
crash_by true w v wire view known linked none gone stays =
    crashes_in w v wire view known (λ m was l. gone refl) (λ free. let (m, was, l) = linked refl in absurd (free m (ap (λ x. x.machine) view ∙ was) l))
crash_by false w v wire view known linked none gone stays =
    crashes_in w v wire view known (λ m was l. absurd (none (λ e. cc e) m (ap (λ x. x.machine) (sym view) ∙ was) l)) (λ free. stays (λ e. cc e))

pub copied : {X Y : Type 0} (r : Result X Y) (openings most : ℕ) (copy : Option (List ℕ)) (further : Bool) (given : Option (List ℕ)) (w new : World) → copy ≡ given → IsText given
    → OnOk r (Calls (λ m after. Delivers m openings most given further after × FitsLine after.stage) w new)
    → OnOk r (IsText copy × Calls (λ m after. Delivers m openings most copy further after × FitsLine after.stage) w new)
copied (Ok x) openings most copy further given w new same is called_so =
    subst (λ c. IsText c × Calls (λ m after. Delivers m openings most c further after × FitsLine after.stage) w new) (sym same) (is, called_so)
copied (Err y) openings most copy further given w new same is called_so = tt

pub keeps_in : (w v : World) (m after : MachineView) (wire : WireView) (e : Entry) (next : Then) → v ≡ w → IsWorld w → v.machine ≡ Some m → m.stage ≡ stage.Keeping e next
    → ((Linked m.stage → ⊥) → (number limit : ℕ) → e ≢ entry.Tried number limit) → Kept m.stage m after → IsSound after.host
    → (Linked m.stage → (Linked after.stage → ⊥) → wire ≡ given_up v.wire) → (Linked after.stage → wire ≡ v.wire) → ((Linked m.stage → ⊥) → wire ≡ v.wire)
    → Stores (λ x y. Kept x.stage x y) with_entry w (running after (v.kept ++ e ∷ []) wire v.told)
keeps_in w v m after wire e next view known was is other kept sound gone on stays =
    subst (λ x. Stores (λ a b. Kept a.stage a b) with_entry x (running after (v.kept ++ e ∷ []) wire v.told)) view
    (keeps_other v m after wire e next (subst IsWorld (sym view) known) was is other kept sound gone on stays)

pub tried_in : (w v : World) (m after : MachineView) (e : Entry) (next : Then) (number limit : ℕ) → v ≡ w → IsWorld w → v.machine ≡ Some m → m.stage ≡ stage.Keeping e next
    → (Linked m.stage → ⊥) → e ≡ entry.Tried number limit → Kept m.stage m after → IsSound after.host → (talk : Talk) → after.stage ≡ stage.Talking talk
    → Stores (λ x y. Kept x.stage x y) with_entry w (running after (v.kept ++ e ∷ []) (with_link v.wire) v.told)
tried_in w v m after e next number limit view known was is free tried kept sound talk talks =
    subst (λ x. Stores (λ a b. Kept a.stage a b) with_entry x (running after (v.kept ++ e ∷ []) (with_link v.wire) v.told)) view
    (tried_up v m after e next number limit (subst IsWorld (sym view) known) was is free tried kept sound talk talks)

pub idled_in : (w v : World) (m after : MachineView) (e : Entry) (next : Then) (number limit : ℕ) → v ≡ w → IsWorld w → v.machine ≡ Some m → m.stage ≡ stage.Keeping e next
    → (Linked m.stage → ⊥) → e ≡ entry.Tried number limit → Kept m.stage m after → IsSound after.host → ((talk : Talk) → after.stage ≢ stage.Talking talk)
    → Runs w (event.Idle ∷ event.Keep ∷ []) (running after (v.kept ++ e ∷ []) (given_up (with_link v.wire)) v.told)
idled_in w v m after e next number limit view known was is free tried kept sound silent =
    subst (λ x. Runs x (event.Idle ∷ event.Keep ∷ []) (running after (v.kept ++ e ∷ []) (given_up (with_link v.wire)) v.told)) view
    (tried_idle v m after e next number limit (subst IsWorld (sym view) known) was is free tried kept sound silent)

-- ## One after another

pub runs_more : (a b c : World) (es fs : List Happening) → Runs a es b → Runs b fs c → Runs a (es ++ fs) c
runs_more a b c [] fs same more = subst (λ x. Runs x fs c) same more
runs_more a b c (e ∷ es) fs (mid, happened, later) more = (mid, happened, runs_more mid b c es fs later more)

-- What happens instead is a run, too.
pub instead_runs : (cause : NotPossible) (e : Happening) (w new : World) → Instead cause e w new → (es : List Happening) × Runs w es new
instead_runs why.SwitchedOff e w new (needs, is, same) = ([], same)
instead_runs why.SwitchedOn e w new (start, is, same) = ([], same)
instead_runs why.Linked e w new (idle, is, same) = ([], same)
instead_runs why.NotAsked e w new (is, same) = ([], same)
instead_runs why.NotCopyText e w new (is, same) = ([], same)
instead_runs why.NotAtPrinter e w new (is, same) = ([], same)
instead_runs why.Alone e w new (is, same) = ([], same)
instead_runs why.OneByOne e w new (is, same) = ([], same)
instead_runs (why.Machine cause) e w new refuses = (event.Refuse ∷ [], (new, refuses, refl))
instead_runs why.Memory e w new (inl same) = ([], same)
instead_runs why.Memory e w new (inr (inl (most, fewer, is, less, fed))) = (event.OnWire (line.Deliver fewer) ∷ [], (new, fed, refl))
instead_runs why.Memory e w new (inr (inr (inl (most, is, broke)))) = (event.Break most 0 fault.WriteFault ∷ [], (new, broke, refl))
instead_runs why.Memory e w new (inr (inr (inr (inl (most, fewer, cause, is, broke))))) = (event.Break most 0 cause ∷ [], (new, broke, refl))
instead_runs why.Memory e w new (inr (inr (inr (inr (is, runs))))) = (event.Idle ∷ event.Keep ∷ [], runs)

pub comes_on : (w new : World) (es : List Happening) → HasCome w → Runs w es new → HasCome new
comes_on w new es come runs =
    record { first = come.first; happenings = come.happenings ++ es; begins = come.begins; runs = runs_more come.first w new come.happenings es come.runs runs }

pub come_by : {X : Type 0} (w new : World) (e : Happening) (r : Result X NotPossible) → HasCome w → OnOk r (Happens w e new) → IfErr r (λ cause. Instead cause e w new) → HasCome new
come_by w new e (Ok x) come happened refused = comes_on w new (e ∷ []) come (new, happened, refl)
come_by w new e (Err cause) come happened refused = let (es, runs) = instead_runs cause e w new refused in comes_on w new es come runs

pub ran_more : (a b c : World) (es : List Happening) (e : Happening) → Ran a es b → Happens b e c ⊎ ((cause : NotPossible) × Instead cause e b c) → Ran a (es ++ e ∷ []) c
ran_more a b c [] e same one = subst (λ x. Ran x (e ∷ []) c) same (c, one, refl)
ran_more a b c (d ∷ es) e (mid, first, later) one = (mid, first, ran_more mid b c es e later one)

pub either : {X : Type 0} (w new : World) (e : Happening) (r : Result X NotPossible) → OnOk r (Happens w e new) → IfErr r (λ cause. Instead cause e w new)
    → Happens w e new ⊎ ((cause : NotPossible) × Instead cause e w new)
either w new e (Ok x) happened refused = inl happened
either w new e (Err cause) happened refused = inr (cause, refused)

pub ran_extends : (w new : World) (es : List Happening) → Ran w es new → Extends w.kept new.kept
ran_extends w new [] same = same_entries w.kept new.kept (ap (λ v. v.kept) same)
ran_extends w new (e ∷ es) (mid, inl happened, later) = more_entries w.kept mid.kept new.kept (entries_stay w mid e happened) (ran_extends mid new es later)
ran_extends w new (e ∷ es) (mid, inr (cause, left), later) =
    let (ds, runs) = instead_runs cause e w mid left in
    more_entries w.kept mid.kept new.kept (entries_last w mid ds runs) (ran_extends mid new es later)

-- The first ones have come, and these are left.
pub record SoFar (events left : List Happening) (w now : World) : Type 0 where
  pub done : List Happening
  pub events_are : events ≡ done ++ left
  pub ran : Ran w done now

pub goes_so_far : {X : Type 0} (events left later : List Happening) (w now new : World) (e : Happening) (r : Result X NotPossible) → left ≡ e ∷ later → OnOk r (Happens now e new)
    → IfErr r (λ cause. Instead cause e now new) → SoFar events left w now → SoFar events later w new
goes_so_far events left later w now new e r is happened refused s = record {
  done = s.done ++ e ∷ [];
  events_are = s.events_are ∙ ap (λ l. s.done ++ l) is ∙ sym (append_assoc s.done (e ∷ []) later);
  ran = ran_more w now new s.done e s.ran (either now new e r happened refused);
}

pub all_came : (events left : List Happening) (w now : World) → left ≡ [] → SoFar events left w now → Ran w events now
all_came events left w now none s = subst (λ es. Ran w es now) (sym (s.events_are ∙ ap (λ l. s.done ++ l) none ∙ append-nil s.done)) s.ran

-- ## A new till

pub new_begins : (w : World) → w.machine ≡ None → w.kept ≡ [] → w.told ≡ [] → IsLine (line_of (fresh 0 0) w.wire) → IsTrusted (line_of (fresh 0 0) w.wire) → Begins w
new_begins w off kept notes is_line trusted = record {
  off = off;
  ledger = subst IsLedger (sym kept) empty_ledger;
  line = line_of (fresh 0 0) w.wire;
  is_line = is_line;
  trusted = trusted;
  receipts = subst (λ es. AreReceipts es []) (sym kept) tt;
  late = subst (λ es. LateAnswers es [] (line_of (fresh 0 0) w.wire)) (sym kept)
      (record { first = λ number closing waits has. absurd has; promise = λ number closing waits has. absurd has });
  next = omega arith;
  knows = subst (λ es. IsHeardBy es (fresh 0 0)) (sym kept) (inl (omega arith));
  most = subst (λ es. heard es ≤ next_free es) (sym kept) (omega arith);
  wire_is = sym (none_given_up (fresh 0 0) w.wire refl is_line);
  told = λ n among. absurd (among_nothing n (subst (λ ns. Among n ns) notes among));
}
