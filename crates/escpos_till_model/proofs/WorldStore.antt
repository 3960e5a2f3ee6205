-- What holds of every world holds after what a store does, after bytes are put, and after what happens without the machine.
use Rattle.std.proofs.Common.{ℕ, suc, ◌≡◌, ◌≢◌, ◌+◌, ◌-◌, ◌≤◌, ◌-◌, inl, inr, Option, Some, None, List, [], ◌∷◌, ◌++◌, length, take, refl, sym, ◌∙◌, ap, subst, append-nil, append_assoc, arith}
use Rattle.std.specs.Prelude.{true, false}
use Rattle.std.proofs.Math.Nat.{min-le_right}
use Rattle.escpos_host.specs.declared.send.SendFault.{SendFault}
use Rattle.escpos_command.specs.declared.command.Command.{Command}
use Rattle.escpos_host.specs.Counted.{id_of}
use Rattle.escpos_host.specs.Earlier.{with_earlier}
use Rattle.escpos_host.specs.Machine.{HostView, InFlight, Phase, Down, Opening, Open, IsSound, closed_by, gone_down, in_flight, most_in_flight, receipts_of, taken_out, unanswered}
use Rattle.escpos_link.specs.declared.event.Event.{Event}
use Rattle.escpos_link.specs.declared.event.Event.TheVariants as event
use Rattle.escpos_link.specs.declared.event.Note.TheVariants as note
use Rattle.escpos_link.specs.EventTable.{hung_up}
use Rattle.escpos_link.specs.Resumed.{resumed_from}
use Rattle.escpos_link.specs.Line.{LineView}
use Rattle.escpos_link.specs.Promising.{PutsOther}
use Rattle.escpos_link.specs.Trusted.{IsFitting}
use Rattle.escpos_link.specs.Wire.{WireView, given_up, line_of, with_bytes, with_link}
use Rattle.escpos_link.proofs.AtTheEnd.{hung_up_by, idle_kept, idle_trusted}
use Rattle.escpos_link.proofs.Keeping.{off_link_kept}
use Rattle.escpos_host.proofs.Earlier.{earlier_sound}
use Rattle.escpos_till.specs.declared.entry.Content.{Content}
use Rattle.escpos_till.specs.declared.entry.Entry.{Entry}
use Rattle.escpos_till.specs.declared.stage.Stage.TheVariants as stage
use Rattle.escpos_till.specs.Book.{IsBookOf}
use Rattle.escpos_till.specs.Entries.{IsLedger, MayFollow, cancelled, earlier, heard, next_free, record_of, recorded}
use Rattle.escpos_till.specs.declared.entry.Entry.TheVariants as entry
use Rattle.escpos_till.specs.declared.stage.Due.{Due}
use Rattle.escpos_till.specs.declared.stage.Talk.{Talk}
use Rattle.escpos_till.specs.declared.stage.Then.{Then}
use Rattle.escpos_till.specs.declared.note.TillNote.{TillNote}
use Rattle.escpos_till.specs.declared.note.TillNote.TheVariants as note_kind
use Rattle.escpos_till.specs.declared.store.StoreFault.{StoreFault}
use Rattle.escpos_till.specs.declared.stage.Then.TheVariants as then
use Rattle.escpos_till.specs.Delivers.{fresh, marks_taken}
use Rattle.escpos_till.specs.Tries.{tries}
use Rattle.escpos_till.specs.Machine.{Drops, Ended, MachineView, Suits, Unsure, entry_with, lost, put}
use Rattle.escpos_till.proofs.EntryLemmas.{last_grows}
use Rattle.escpos_till_model.proofs.Accounts.{times_stay}
use Rattle.escpos_till_model.proofs.EntryFacts.{among_more, cancelled_append, recorded_append, zip_length}
use Rattle.escpos_till_model.proofs.GoesOn.{GoesOn, taken_on}
use Rattle.escpos_till_model.proofs.Keeping.{anew, entry_keeps, front_of, gone_keeps, hung_next, on_keeps, record_keeps}
use Rattle.escpos_till_model.specs.Receipts.{Among, IsReceiptOf}
use Rattle.escpos_till_model.specs.Kept.{Hand, Keeps}
use Rattle.escpos_till_model.specs.Known.{Accounted, BookMayLag, Holds, IsHostOf, IsToKeep, IsToRecord, IsToSend, IsToSendNext, IsWorld}
use Rattle.escpos_till_model.specs.Late.{HasJustBegun, LateAnswers}
use Rattle.escpos_till_model.specs.World.{Breaks, Crashes, GoesOnWire, Idles, IsSo, Puts, Starts, Stores, StoresBoth, Wired, World, is_printer_event, off, running, with_entry, with_wire, without_entry}
use Rattle.escpos_till_model.proofs.HeardLemmas.{IsPlain, MayKnow, idle_at, mark_within, may_know}
use Rattle.escpos_till_model.proofs.LateLemmas.{has_tried, late_fresh, late_host, late_idle, late_more, late_on, late_recorded, late_tried}
use Rattle.escpos_till_model.proofs.LinesKept.{LineLaws, Right, goes, down_or_up, none_given_up, drops_right, drops_hung}
use Rattle.escpos_till_model.proofs.WorldCalls.{ended_so, AreSo, Parts, whole, parts, let_go, gone_account, gone_begun}

-- ## A host that has sent nothing

pub anew_is : (earlier : List (List Command)) (h : HostView) (kept : List Entry) (hand : Option Hand) (f hd : ℕ) → (k : Keeps kept hand (with_earlier earlier h))
    → anew (with_earlier earlier h) f (length (recorded kept)) hd ≡ with_earlier k.receipts (idle_at f hd)
anew_is earlier h kept hand f hd k =
    let count : ℕ = length (recorded kept) in
    ap (λ rs. record { phase = Down; out = []; half = []; next = f; heard = hd; records = rs; left = [] })
    (ap (take count) k.records ∙ front_of count k.receipts k.answered (zip_length (IsReceiptOf kept) (recorded kept) k.receipts k.are) ∙ sym (append-nil k.receipts))

pub anew_right : LineLaws → (l : LineView) (f count hd : ℕ) → l.host.next ≤ f → MayKnow l.host f hd → Right l → Right (resumed_from l f count hd)
anew_right laws l f count hd within (inl known) right = record {
  line = off_link_kept l (anew l.host f count hd) right.line refl refl;
  trusted = (laws.trust.resumes_from l f count hd within known right.trusted).0;
}
anew_right laws l f count hd within (inr (answered, most)) right = record {
  line = off_link_kept l (anew l.host f count hd) right.line refl refl;
  trusted = (laws.trust.resumes_answered l f count hd answered most right.trusted).0;
}

-- Whatever it was before, it goes on with the receipts that are recorded.
pub fresh_right : LineLaws → (earlier : List (List Command)) (h : HostView) (w : WireView) (kept : List Entry) (hand : Option Hand) (f hd : ℕ) → h.phase ≡ Down
    → Right (line_of (with_earlier earlier h) w) → (k : Keeps kept hand (with_earlier earlier h)) → h.next ≤ f → MayKnow h f hd → Right (line_of (with_earlier k.receipts (idle_at f hd)) w)
fresh_right laws earlier h w kept hand f hd down right k within may =
    let count : ℕ = length (recorded kept) in
    let before : HostView = with_earlier earlier h in
    let host = anew_is earlier h kept hand f hd k in
    let wire : given_up w ≡ w = none_given_up before w down right.line in
    let resumed_right : Right (line_of (anew before f count hd) (given_up w)) = anew_right laws (line_of before w) f count hd within may right in
    subst (λ v. Right (line_of (with_earlier k.receipts (idle_at f hd)) v)) wire (subst (λ v. Right (line_of v (given_up w))) host resumed_right)

-- A host that goes on so knows what the entries say.
abbrev pub fresh_keeps : (earlier : List (List Command)) (h : HostView) (kept : List Entry) (hand : Option Hand) (f hd : ℕ) → (k : Keeps kept hand (with_earlier earlier h)) → f ≤ next_free kept
    → heard kept ≤ hd → hd ≤ f → Keeps kept None (with_earlier k.receipts (idle_at f hd))
fresh_keeps earlier h kept hand f hd k within known below = record {
  ledger = k.ledger;
  receipts = k.receipts;
  are = k.are;
  answered = [];
  records = refl;
  next = within;
  in_hand = refl;
  knows = inl known;
  most = k.most;
  since = below;
}

pub fresh_begun : (f hd : ℕ) → HasJustBegun (idle_at f hd)
fresh_begun f hd first is = let bad : Down ≡ Opening first = is in absurd cc

-- The host of a new machine.
pub fresh_is : (f hd : ℕ) → hd ≤ f → fresh f hd ≡ idle_at f hd
fresh_is f hd below = ap (idle_at f) (omega (arith, below))

pub started : LineLaws → (w new : World) → IsWorld w → Starts w new → IsWorld new
started laws w new known starts =
    let down : known.host.phase ≡ Down = subst (λ x. IsHostOf x known.host) starts.off known.host_is in
    let next : starts.m.book.next ≡ next_free w.kept = starts.book.next in
    let a = known.account in
    let rs = a.keeps.receipts in
    let f : ℕ = next_free w.kept in
    let hd : ℕ = heard w.kept in
    let host : starts.m.host ≡ idle_at f hd = starts.started.host ∙ ap (λ n. fresh n starts.m.book.heard) next ∙ ap (fresh f) starts.book.heard ∙ fresh_is f hd a.keeps.most in
    let right = fresh_right laws known.earlier known.host w.wire w.kept known.hand f hd down (record { line = known.line; trusted = known.trusted }) a.keeps
    a.keeps.next (may_know w.kept (with_earlier known.earlier known.host) f a.keeps.knows a.keeps.most) in
    let account : Accounted w.kept None (with_earlier rs (idle_at f hd)) w.wire = record {
      keeps = fresh_keeps known.earlier known.host w.kept known.hand f hd a.keeps (omega arith) (omega arith) a.keeps.most;
      late = late_fresh w.kept rs known.earlier rs known.host w.wire f hd known.sound down a.late;
    } in
    subst IsWorld (sym starts.is) (whole starts.m w.kept w.wire w.told known.told (record {
      earlier = rs;
      sound = starts.sound;
      right = subst (λ h. Right (line_of (with_earlier rs h) w.wire)) (sym host) right;
      hand = None;
      account = subst (λ h. Accounted w.kept None (with_earlier rs h) w.wire) (sym host) account;
      begun = subst HasJustBegun (sym host) (fresh_begun f hd);
      book = λ live. starts.book;
      holds = subst (λ s. Holds w.kept None (with_earlier rs starts.m.host) s) (sym starts.started.stage) refl;
    }))

-- What was told is so with one more entry.
pub so_grows : (kept : List Entry) (e : Entry) (n : TillNote) → MayFollow kept e → IsSo kept n → IsSo (kept ++ e ∷ []) n
so_grows kept e (note_kind.Queued number) follows (some, within) =
    (some, omega (arith, within, last_grows kept (e ∷ [])))
so_grows kept e note_kind.Raised follows so = so
so_grows kept e (note_kind.Recorded number) follows so =
    subst (λ ns. Among number ns) (sym (recorded_append kept (e ∷ []))) (among_more number (recorded kept) (recorded (e ∷ [])) so)
so_grows kept e (note_kind.Cancelled number tried) follows (among, times) = (
  subst (λ ns. Among number ns) (sym (cancelled_append kept (e ∷ []))) (among_more number (cancelled kept) (cancelled (e ∷ [])) among),
  times_stay kept e number follows among ∙ times,
)
so_grows kept e (note_kind.NoLink number) follows so = so
so_grows kept e (note_kind.Waiting number why) follows so = so
so_grows kept e (note_kind.Paused number why) follows so = so
so_grows kept e (note_kind.StillPaused number why) follows so = so
so_grows kept e (note_kind.NotKept why) follows so = so

pub so_later : (kept : List Entry) (e : Entry) (notes : List TillNote) → MayFollow kept e → AreSo kept notes → AreSo (kept ++ e ∷ []) notes
so_later kept e notes follows so n among = so_grows kept e n follows (so n among)

-- ## On the wire, and off

pub fits_wire : (e : Event) → is_printer_event e ≡ true → IsFitting e
fits_wire event.LinkUp at_printer = tt
fits_wire event.LinkUpReporting at_printer = tt
fits_wire event.Nudge at_printer = tt
fits_wire (event.Submit receipt) at_printer = absurd (let bad : false ≡ true = at_printer in cc)
fits_wire (event.Ask kind) at_printer = absurd (let bad : false ≡ true = at_printer in cc)
fits_wire event.AskReports at_printer = tt
fits_wire (event.HostRestart first) at_printer = tt
fits_wire (event.Move k) at_printer = tt
fits_wire (event.Deliver k) at_printer = tt
fits_wire event.HandOver at_printer = tt
fits_wire (event.Answer k) at_printer = tt
fits_wire event.PrinterLeaves at_printer = tt
fits_wire event.PrinterRestart at_printer = tt
fits_wire event.HostDrops at_printer = tt
fits_wire (event.SetCondition condition) at_printer = tt

-- Nothing is put out at the printer's end.
pub puts_none : (e : Event) (h : HostView) (id : List ℕ) → is_printer_event e ≡ true → PutsOther e h id
puts_none event.LinkUp h id at_printer = absurd (let bad : false ≡ true = at_printer in cc)
puts_none event.LinkUpReporting h id at_printer = absurd (let bad : false ≡ true = at_printer in cc)
puts_none event.Nudge h id at_printer = absurd (let bad : false ≡ true = at_printer in cc)
puts_none (event.Submit receipt) h id at_printer = absurd (let bad : false ≡ true = at_printer in cc)
puts_none (event.Ask kind) h id at_printer = tt
puts_none event.AskReports h id at_printer = tt
puts_none (event.HostRestart first) h id at_printer = tt
puts_none (event.Move k) h id at_printer = tt
puts_none (event.Deliver k) h id at_printer = tt
puts_none event.HandOver h id at_printer = tt
puts_none (event.Answer k) h id at_printer = tt
puts_none event.PrinterLeaves h id at_printer = tt
puts_none event.PrinterRestart h id at_printer = tt
puts_none event.HostDrops h id at_printer = tt
puts_none (event.SetCondition condition) h id at_printer = tt

-- Another wire, where all else stays.
pub rewired : (w : World) (wire : WireView) → (known : IsWorld w) → Right (line_of (with_earlier known.earlier known.host) wire)
    → LateAnswers w.kept known.account.keeps.receipts (line_of (with_earlier known.earlier known.host) wire) → IsWorld (with_wire w wire)
rewired w wire known right late = record {
  earlier = known.earlier;
  host = known.host;
  host_is = known.host_is;
  sound = known.sound;
  line = right.line;
  trusted = right.trusted;
  hand = known.hand;
  account = record { keeps = known.account.keeps; late = late };
  begun = known.begun;
  machine = known.machine;
  told = known.told;
}

pub on_wire : LineLaws → (w new : World) (e : Event) → IsWorld w → GoesOnWire e w new → IsWorld new
on_wire laws w new e known v =
    let before : HostView = with_earlier known.earlier known.host in
    let right : Right (line_of before w.wire) = record { line = known.line; trusted = known.trusted } in
    let sound = earlier_sound known.earlier known.host known.sound in
    subst IsWorld (sym v.is) (rewired w v.wire known
    (goes laws e (line_of before w.wire) (line_of before v.wire) v.effect (fits_wire e v.at_printer) sound right (v.happened before))
    (late_on laws w.kept known.account.keeps.receipts e (line_of before w.wire) (line_of before v.wire) v.effect (fits_wire e v.at_printer) sound right (v.happened before)
    (λ number closing has few. puts_none e before (id_of closing) v.at_printer) known.account.late))

pub down_of : (machine : Option MachineView) (h : HostView) → IsHostOf machine h → ((m : MachineView) → machine ≡ Some m → m.host.phase ≡ Down) → h.phase ≡ Down
down_of None h is none = is
down_of (Some m) h is none = ap (λ v. v.phase) is ∙ none m refl

pub idled : LineLaws → (w new : World) → IsWorld w → Idles w new → IsWorld new
idled laws w new known idles =
    let down = down_of w.machine known.host known.host_is idles.none in
    let before : HostView = with_earlier known.earlier known.host in
    subst IsWorld (sym idles.is) (rewired w (given_up (with_link w.wire)) known (record {
      line = idle_kept before w.wire down known.line;
      trusted = (idle_trusted before w.wire down known.line known.trusted).0;
    })
    (late_idle laws w.kept known.account.keeps.receipts before w.wire down (record { line = known.line; trusted = known.trusted }) known.account.late))

few_flying : (flight : List InFlight) → length (receipts_of flight) ≡ length flight
few_flying [] = refl
few_flying (p ∷ flight) = ap suc (few_flying flight)

few_unanswered : (phase : Phase) (left : List InFlight) → length (in_flight phase) ≤ most_in_flight → length left ≤ most_in_flight → length (unanswered phase left) ≤ most_in_flight
few_unanswered Down left few few_left = few_left
few_unanswered (Opening first) left few few_left = few_left
few_unanswered (Open flight) left few few_left = let all = few_flying flight in omega (arith, all, few)

pub sound_gone : (h : HostView) → IsSound h → IsSound (gone_down h)
sound_gone h sound = record { quiet = λ down. (refl, refl); few = omega arith; few_left = few_unanswered h.phase h.left sound.few sound.few_left; half = inl refl }

pub off_world : LineLaws → (w : World) (wire : WireView) (h : HostView) → (known : IsWorld w) → Drops known.host h → IsSound h → Wired known.host h w.wire wire → h.phase ≡ Down
    → IsWorld (off w wire)
off_world laws w wire h known drops sound wired down =
    let was : Right (line_of (with_earlier known.earlier known.host) w.wire) = record { line = known.line; trusted = known.trusted } in
    let right = drops_right laws known.earlier known.host h w.wire wire known.sound drops wired was in
    record {
      earlier = known.earlier;
      host = h;
      host_is = down;
      sound = sound;
      line = right.line;
      trusted = right.trusted;
      hand = None;
      account = gone_account laws known.earlier known.host h w.kept known.hand w.wire wire known.sound drops wired was known.account;
      begun = gone_begun known.host h drops;
      machine = refl;
      told = known.told;
    }

pub still_down : (machine : Option MachineView) (h : HostView) → IsHostOf machine h → h.phase ≡ Down → (m : MachineView) → machine ≡ Some m → m.host.phase ≡ Down
still_down machine h is down m same = let here : h ≡ m.host = subst (λ x. IsHostOf x h) same is in ap (λ v. v.phase) (sym here) ∙ down

pub linked_machine : (machine : Option MachineView) (h : HostView) → IsHostOf machine h → h.phase ≢ Down → (m : MachineView) × (machine ≡ Some m) × (m.host.phase ≢ Down)
linked_machine None h is up = absurd (up is)
linked_machine (Some m) h is up = (m, refl, λ down. up (ap (λ v. v.phase) is ∙ down))

pub crashed : LineLaws → (w new : World) → IsWorld w → Crashes w new → IsWorld new
crashed laws w new known crashes = subst IsWorld (sym crashes.is) (elim (down_or_up known.host.phase) [
  | inl down ↦
      off_world laws w crashes.wire known.host known (λ d. refl, λ up. absurd (up down)) known.sound
      (record {
        stays_down = λ a b. crashes.no_link (still_down w.machine known.host known.host_is down);
        goes_up = λ a up. absurd (up down);
        stays_up = λ up b. absurd (up down);
        goes_down = λ up b. absurd (up down);
      }) down
  | inr up ↦
      let (m, is, linked) = linked_machine w.machine known.host known.host_is up in
      off_world laws w crashes.wire (gone_down known.host) known (λ down. absurd (up down), λ u. refl) (sound_gone known.host known.sound)
      (record {
        stays_down = λ down b. absurd (up down);
        goes_up = λ down b. absurd (up down);
        stays_up = λ a b. absurd (b refl);
        goes_down = λ a b. crashes.link m is linked;
      }) refl
])

-- ## Bytes are put

pub sound_taken : (h : HostView) (n : ℕ) → h.phase ≢ Down → IsSound h → IsSound (taken_out h n)
sound_taken h n up sound = record { quiet = λ down. absurd (up down); few = sound.few; few_left = sound.few_left; half = sound.half }

-- The first bytes that were to be put are on the wire.
pub moved_right : LineLaws → (earlier : List (List Command)) (h : HostView) (w : WireView) (count : ℕ) → count ≤ length h.out → IsSound h → Right (line_of (with_earlier earlier h) w)
    → Right (line_of (with_earlier earlier (taken_out h count)) (with_bytes w (take count h.out)))
moved_right laws earlier h w count within sound right =
    goes laws (event.Move count) (line_of (with_earlier earlier h) w) (line_of (with_earlier earlier (taken_out h count)) (with_bytes w (take count h.out))) (note.Moved count) tt
    (earlier_sound earlier h sound) right (count, refl, omega (arith, within), refl)

pub moved_late : LineLaws → (kept : List Entry) (rs earlier : List (List Command)) (h : HostView) (w : WireView) (count : ℕ) → count ≤ length h.out → IsSound h
    → Right (line_of (with_earlier earlier h) w) → LateAnswers kept rs (line_of (with_earlier earlier h) w)
    → LateAnswers kept rs (line_of (with_earlier earlier (taken_out h count)) (with_bytes w (take count h.out)))
moved_late laws kept rs earlier h w count within sound right late =
    late_on laws kept rs (event.Move count) (line_of (with_earlier earlier h) w) (line_of (with_earlier earlier (taken_out h count)) (with_bytes w (take count h.out))) (note.Moved count) tt
    (earlier_sound earlier h sound) right (count, refl, omega (arith, within), refl) (λ number closing has few. tt) late

pub moved_on : (earlier : List (List Command)) (h : HostView) (w : WireView) (count : ℕ) → count ≤ length h.out → GoesOn (with_earlier earlier h) (with_earlier earlier (taken_out h count))
moved_on earlier h w count within = taken_on (with_earlier earlier h) count

pub talking_book : (m : MachineView) (kept : List Entry) (w : WireView) (talk : Talk) → m.stage ≡ stage.Talking talk → Parts m kept w → IsBookOf m.book kept
talking_book m kept w talk is p = p.book (λ lost. subst BookMayLag is lost)

pub talking_holds : (m : MachineView) (kept : List Entry) (w : WireView) (talk : Talk) → m.stage ≡ stage.Talking talk → (p : Parts m kept w)
    → Holds kept p.hand (with_earlier p.earlier m.host) (stage.Talking talk)
talking_holds m kept w talk is p = subst (λ s. Holds kept p.hand (with_earlier p.earlier m.host) s) is p.holds

pub puts : LineLaws → (w new : World) (most : ℕ) → IsWorld w → Puts w most new → IsWorld new
puts laws w new most known v =
    let count : ℕ = v.count in
    let within : count ≤ length v.m.host.out = omega (arith, v.count_is, min-le_right most (length v.m.host.out)) in
    let p = parts w v.m v.was known in
    let h : HostView = v.m.host in
    let holds = talking_holds v.m w.kept w.wire v.talk v.talks p in
    let after : MachineView = put (stage.Talking v.talk) count v.m in
    let is : put v.m.stage count v.m ≡ after = ap (λ s. put s count v.m) v.talks in
    let world : World = running after w.kept (with_bytes w.wire (take count h.out)) w.told in
    let same : new ≡ world = v.is ∙ ap (λ m. running m w.kept (with_bytes w.wire (take count h.out)) w.told) is in
    subst IsWorld (sym same) (whole after w.kept (with_bytes w.wire (take count h.out)) w.told known.told (record {
      earlier = p.earlier;
      sound = subst (λ m. IsSound m.host) is v.sound;
      right = moved_right laws p.earlier h w.wire count within p.sound p.right;
      hand = p.hand;
      account = record {
        keeps = on_keeps w.kept p.hand (with_earlier p.earlier h) (with_earlier p.earlier (taken_out h count)) (moved_on p.earlier h w.wire count within)
            (record { since = p.account.keeps.since; rose = omega arith }) p.account.keeps;
        late = moved_late laws w.kept p.account.keeps.receipts p.earlier h w.wire count within p.sound p.right p.account.late;
      };
      begun = p.begun;
      book = λ live. talking_book v.m w.kept w.wire v.talk v.talks p;
      holds = holds;
    }))

-- Not all of them were: the link has ended.
pub breaks : LineLaws → (w new : World) (most fewer : ℕ) (why : SendFault) → IsWorld w → Breaks w most fewer why new → IsWorld new
breaks laws w new most fewer why known v =
    let taken : ℕ = v.taken in
    let count : ℕ = v.count in
    let within : count ≤ length v.m.host.out = omega (arith, v.count_is, v.taken_is, min-le_right fewer taken, min-le_right most (length v.m.host.out)) in
    let p = parts w v.m v.was known in
    let h : HostView = v.m.host in
    let (held, hand_is, number, receipt, follows, records, up, reserved, news, known_so) = talking_holds v.m w.kept w.wire v.talk v.talks p in
    let ended : Ended (stage.Talking v.talk) why (put (stage.Talking v.talk) taken v.m) v.after = subst (λ s. Ended s why (put s taken v.m) v.after) v.talks v.ended in
    let (drops, book, now) = ended in
    let gone : v.after.host ≡ gone_down h = drops.1 up in
    let wire : WireView = with_bytes w.wire (take count h.out) in
    let put_right = moved_right laws p.earlier h w.wire count within p.sound p.right in
    let off = hung_up_by (with_earlier p.earlier (taken_out h count)) (with_earlier p.earlier (gone_down h)) wire (λ u. refl) (λ down. absurd (up down)) in
    let taken_sound = earlier_sound p.earlier (taken_out h count) (sound_taken h count up p.sound) in
    let off_right = goes laws event.HostDrops (line_of (with_earlier p.earlier (taken_out h count)) wire) (line_of (with_earlier p.earlier (gone_down h)) (given_up wire)) note.Done tt
    taken_sound put_right off in
    let a = p.account in
    let rs = a.keeps.receipts in
    let off_late = late_on laws w.kept rs event.HostDrops (line_of (with_earlier p.earlier (taken_out h count)) wire) (line_of (with_earlier p.earlier (gone_down h)) (given_up wire)) note.Done tt
    taken_sound put_right off (λ number closing has few. tt) (moved_late laws w.kept rs p.earlier h w.wire count within p.sound p.right a.late) in
    let hung = drops_hung p.earlier h v.after.host (λ down. absurd (up down), λ u. gone) in
    subst IsWorld (sym v.is) (whole v.after w.kept (given_up wire) w.told known.told (record {
      earlier = p.earlier;
      sound = v.sound;
      right = subst (λ x. Right (line_of (with_earlier p.earlier x) (given_up wire))) (sym gone) off_right;
      hand = None;
      account = subst (λ x. Accounted w.kept None x (given_up wire)) (sym hung) (record {
        keeps = gone_keeps w.kept p.hand (with_earlier p.earlier h) a.keeps;
        late = subst (λ x. LateAnswers w.kept rs (line_of x (given_up wire))) hung
            (subst (λ x. LateAnswers w.kept rs (line_of (with_earlier p.earlier x) (given_up wire))) (sym gone) off_late);
      });
      begun = gone_begun h v.after.host (λ down. absurd (up down), λ u. gone);
      book = λ live. subst (λ b. IsBookOf b w.kept) (sym book) (talking_book v.m w.kept w.wire v.talk v.talks p);
      holds = subst (λ s. Holds w.kept None (with_earlier p.earlier v.after.host) s) (sym now) (refl, ended_so w.kept v.talk.number why v.talk.paused.why);
    }))

-- ## An entry is to be kept

-- What the store's failure leaves: nothing is in hand, and what the machine knows may not be all.
pub lost_lags : (next : Then) (why : StoreFault) → BookMayLag (lost next why)
lost_lags then.Queued why = tt
lost_lags (then.Take content) why = tt
lost_lags then.Raised why = tt
lost_lags (then.Cancelled number tried) why = tt
lost_lags (then.Send due) why = tt
lost_lags (then.Recorded number) why = tt
lost_lags (then.GoOn number tried due) why = tt
lost_lags (then.SendNext number due) why = tt

pub lost_holds : (next : Then) (why : StoreFault) (kept : List Entry) (h : HostView) → Holds kept None h (lost next why)
lost_holds then.Queued why kept h = (refl, tt)
lost_holds (then.Take content) why kept h = (refl, tt)
lost_holds then.Raised why kept h = (refl, tt)
lost_holds (then.Cancelled number tried) why kept h = (refl, tt)
lost_holds (then.Send due) why kept h = (refl, tt)
lost_holds (then.Recorded number) why kept h = (refl, tt)
lost_holds (then.GoOn number tried due) why kept h = (refl, tt)
lost_holds (then.SendNext number due) why kept h = (refl, tt)

-- The entries with one more are accounted for, if it records nothing.
pub more_account : LineLaws → (kept : List Entry) (e : Entry) (hand : Option Hand) (h : HostView) (w : WireView) → IsPlain e → record_of e ≡ None → tries (e ∷ []) ≡ [] → MayFollow kept e
    → Accounted kept hand h w → Accounted (kept ++ e ∷ []) hand h w
more_account laws kept e hand h w plain none untried follows a =
    record { keeps = entry_keeps kept e hand h plain none follows a.keeps; late = late_more kept e a.keeps.receipts (line_of h w) a.keeps.ledger untried a.late }

-- The same where it says that a receipt is tried, at a host that goes on with what the entries say.
pub tried_late : LineLaws → (kept : List Entry) (records : List (List Command)) (w : WireView) (due : Due) → Right (line_of (with_earlier records (idle_at (next_free kept) (heard kept))) w) → IsLedger kept
    → IsToSend kept due → LateAnswers kept records (line_of (with_earlier records (idle_at (next_free kept) (heard kept))) w)
    → LateAnswers (kept ++ entry.Tried due.number (next_free kept + marks_taken due.openings) ∷ []) records (line_of (with_earlier records (idle_at (next_free kept) (heard kept))) w)
tried_late laws kept records w due right ledger send late =
    let limit = next_free kept + marks_taken due.openings in
    let l : LineView = line_of (with_earlier records (idle_at (next_free kept) (heard kept))) w in
    let more = send.follows.1 in
    let few = send.follows.2 in
    late_tried kept due.number limit records due.receipt l ledger send.follows send.first send.receipt
    (laws.promise.made l records (closed_by due.receipt (limit - 1)) (limit - 1) right.trusted (omega (arith, more)) (omega (arith, more, few)) refl) late

-- And at the host that was there, which has no link.
pub tried_down : LineLaws → (kept : List Entry) (hand : Option Hand) (earlier : List (List Command)) (h : HostView) (w : WireView) (due : Due) → IsSound h → h.phase ≡ Down
    → Right (line_of (with_earlier earlier h) w) → (k : Keeps kept hand (with_earlier earlier h)) → IsToSend kept due
    → LateAnswers kept k.receipts (line_of (with_earlier earlier h) w)
    → LateAnswers (kept ++ entry.Tried due.number (next_free kept + marks_taken due.openings) ∷ []) k.receipts (line_of (with_earlier earlier h) w)
tried_down laws kept hand earlier h w due sound down right k send late =
    let f : ℕ = next_free kept in
    let hd : ℕ = heard kept in
    let idle_right = fresh_right laws earlier h w kept hand f hd down right k k.next (may_know kept (with_earlier earlier h) f k.knows k.most) in
    late_host (kept ++ entry.Tried due.number (f + marks_taken due.openings) ∷ []) k.receipts (with_earlier k.receipts (idle_at f hd)) (with_earlier earlier h) w
    (sound.quiet down).1 (sound.quiet down).0
    (tried_late laws kept k.receipts w due idle_right k.ledger send (late_fresh kept k.receipts earlier k.receipts h w f hd sound down late))

-- The same of the next receipt, which is sent over the link that there is.
pub next_late : LineLaws → (kept : List Entry) (hand : Option Hand) (h : HostView) (w : WireView) (due : Due) (tried : Entry) → Right (line_of h w) → (k : Keeps kept hand h) → IsToSendNext kept h due tried
    → LateAnswers kept k.receipts (line_of h w) → LateAnswers (kept ++ entry.Tried due.number (next_free kept + 1) ∷ []) k.receipts (line_of h w)
next_late laws kept hand h w due tried right k send late =
    let limit : ℕ = next_free kept + 1 in
    let within = mark_within kept h (next_free kept) k.knows send.within (omega (arith, send.marks)) in
    late_tried kept due.number limit k.receipts due.receipt (line_of h w) k.ledger (subst (MayFollow kept) send.tried_is send.follows) send.first send.receipt
    (laws.promise.made (line_of h w) k.receipts (closed_by due.receipt (limit - 1)) (limit - 1) right.trusted (omega (arith, k.next)) (omega (arith, within)) refl) late

-- An entry that comes before that of a receipt says neither a record nor a try.
pub first_records_none : (e : Entry) (content : Content) → Suits (then.Take content) e → record_of e ≡ None
first_records_none (entry.Key key) content suits = refl
first_records_none (entry.Raised next hd) content suits = refl
first_records_none (entry.Queued c) content suits = absurd suits
first_records_none (entry.Tried n next) content suits = absurd suits
first_records_none (entry.Recorded n hd) content suits = absurd suits
first_records_none (entry.Cancelled n) content suits = absurd suits
first_records_none (entry.Renewed last hd) content suits = absurd suits
first_records_none (entry.Earlier k key) content suits = absurd suits

pub first_tries_none : (e : Entry) (content : Content) → Suits (then.Take content) e → tries (e ∷ []) ≡ []
first_tries_none (entry.Key key) content suits = refl
first_tries_none (entry.Raised next hd) content suits = refl
first_tries_none (entry.Queued c) content suits = absurd suits
first_tries_none (entry.Tried n next) content suits = absurd suits
first_tries_none (entry.Recorded n hd) content suits = absurd suits
first_tries_none (entry.Cancelled n) content suits = absurd suits
first_tries_none (entry.Renewed last hd) content suits = absurd suits
first_tries_none (entry.Earlier k key) content suits = absurd suits

pub first_plain : (e : Entry) (content : Content) → Suits (then.Take content) e → IsPlain e
first_plain (entry.Key key) content suits = tt
first_plain (entry.Raised next hd) content suits = tt
first_plain (entry.Queued c) content suits = absurd suits
first_plain (entry.Tried n next) content suits = absurd suits
first_plain (entry.Recorded n hd) content suits = absurd suits
first_plain (entry.Cancelled n) content suits = absurd suits
first_plain (entry.Renewed last hd) content suits = absurd suits
first_plain (entry.Earlier k key) content suits = absurd suits

-- A receipt that is answered is recorded, and its host has given its link up.
recorded_account : LineLaws → (kept : List Entry) (e : Entry) (number : ℕ) (hand : Option Hand) (earlier : List (List Command)) (h h' : HostView) (w new : WireView)
    → Accounted kept hand (with_earlier earlier h) w → MayFollow kept e → IsToRecord kept hand (with_earlier earlier h) e number → Drops h h'
    → Accounted (kept ++ e ∷ []) None (with_earlier earlier h') new
recorded_account laws kept e number hand earlier h h' w new a follows (held, hand_is, same, (hd, recorded_is, some_heard, heard_so), more, up) drops =
    let is : e ≡ entry.Recorded held.number hd = recorded_is ∙ ap (λ k. entry.Recorded k hd) (sym same) in
    let b : Accounted kept (Some held) (with_earlier earlier h) w = subst (λ v. Accounted kept v (with_earlier earlier h) w) hand_is a in
    let reserved = b.keeps.in_hand.reserved in
    let so : MayFollow kept (entry.Recorded held.number hd) = subst (MayFollow kept) is follows in
    let hung = drops_hung earlier h h' drops in
    subst (λ v. Accounted (kept ++ e ∷ []) None v new) (sym hung)
    (subst (λ x. Accounted (kept ++ x ∷ []) None (hung_up h.phase (with_earlier earlier h)) new) (sym is) (record {
      keeps = record_keeps kept held hd (with_earlier earlier h) so some_heard heard_so more b.keeps;
      late = late_recorded kept held.number hd (held.limit - 1) b.keeps.receipts (line_of (with_earlier earlier h) w) _ (line_of (hung_up h.phase (with_earlier earlier h)) new) b.keeps.ledger so.0
          (has_tried kept reserved.before reserved.following held.number held.limit reserved.entries_are) b.late;
    }))

down_in_hand : (kept : List Entry) (hand : Option Hand) (h : HostView) → hand ≡ None → Keeps kept hand h → h.phase ≡ Down
down_in_hand kept None h none k = k.in_hand
down_in_hand kept (Some held) h none k = absurd (let bad : Some held ≡ None = none in cc)

-- The entries with that one are kept by a host that has given its link up.
pub stored_account : LineLaws → (kept : List Entry) (e : Entry) (next : Then) (hand : Option Hand) (earlier : List (List Command)) (h h' : HostView) (w new : WireView) → IsSound h
    → Wired h h' w new → Right (line_of (with_earlier earlier h) w) → Accounted kept hand (with_earlier earlier h) w
    → MayFollow kept e → IsToKeep kept hand (with_earlier earlier h) e next → Drops h h' → Accounted (kept ++ e ∷ []) None (with_earlier earlier h') new
stored_account laws kept e then.Queued hand earlier h h' w new sound wired right a follows (none, content, is) drops =
    gone_account laws earlier h h' (kept ++ e ∷ []) hand w new sound drops wired right
    (more_account laws kept e hand (with_earlier earlier h) w (subst IsPlain (sym is) tt) (ap record_of is) (ap (λ x. tries (x ∷ [])) is) follows a)
stored_account laws kept e (then.Take content) hand earlier h h' w new sound wired right a follows (none, suits) drops =
    gone_account laws earlier h h' (kept ++ e ∷ []) hand w new sound drops wired right
    (more_account laws kept e hand (with_earlier earlier h) w (first_plain e content suits) (first_records_none e content suits) (first_tries_none e content suits) follows a)
stored_account laws kept e then.Raised hand earlier h h' w new sound wired right a follows (none, first, hd, is) drops =
    gone_account laws earlier h h' (kept ++ e ∷ []) hand w new sound drops wired right
    (more_account laws kept e hand (with_earlier earlier h) w (subst IsPlain (sym is) tt) (ap record_of is) (ap (λ x. tries (x ∷ [])) is) follows a)
stored_account laws kept e (then.Cancelled number tried) hand earlier h h' w new sound wired right a follows (none, is, times) drops =
    gone_account laws earlier h h' (kept ++ e ∷ []) hand w new sound drops wired right
    (more_account laws kept e hand (with_earlier earlier h) w (subst IsPlain (sym is) tt) (ap record_of is) (ap (λ x. tries (x ∷ [])) is) follows a)
stored_account laws kept e (then.Send due) hand earlier h h' w new sound wired right a follows (none, send, is) drops =
    gone_account laws earlier h h' (kept ++ e ∷ []) hand w new sound drops wired right (record {
      keeps = entry_keeps kept e hand (with_earlier earlier h) (subst IsPlain (sym is) tt) (ap record_of is) follows a.keeps;
      late = subst (λ x. LateAnswers (kept ++ x ∷ []) a.keeps.receipts (line_of (with_earlier earlier h) w)) (sym is)
          (tried_down laws kept hand earlier h w due sound (down_in_hand kept hand (with_earlier earlier h) none a.keeps) right a.keeps send a.late);
    })
stored_account laws kept e (then.Recorded number) hand earlier h h' w new sound wired right a follows to_record drops =
    recorded_account laws kept e number hand earlier h h' w new a follows to_record drops
stored_account laws kept e (then.GoOn number tried due) hand earlier h h' w new sound wired right a follows (to_record, next) drops =
    recorded_account laws kept e number hand earlier h h' w new a follows to_record drops
stored_account laws kept e (then.SendNext number due) hand earlier h h' w new sound wired right a follows (held, hand_is, all, send, so) drops =
    gone_account laws earlier h h' (kept ++ e ∷ []) hand w new sound drops wired right (record {
      keeps = entry_keeps kept e hand (with_earlier earlier h) (subst IsPlain (sym send.tried_is) tt) (ap record_of send.tried_is) follows a.keeps;
      late = subst (λ x. LateAnswers (kept ++ x ∷ []) a.keeps.receipts (line_of (with_earlier earlier h) w)) (sym send.tried_is)
          (next_late laws kept hand (with_earlier earlier h) w due e right a.keeps send a.late);
    })

pub failed_with : LineLaws → (w new : World) (why : StoreFault) → IsWorld w → Stores (λ m after. Unsure m.stage why m after) with_entry w new → IsWorld new
failed_with laws w new why known v =
    let moves = v.moves in
    let p = parts w moves.m moves.was known in
    let (is, unsure) = moves.goes in
    let (drops, book, now) = subst (λ s. Unsure s why moves.m moves.after) is unsure in
    let (follows, to_keep) = subst (λ s. Holds w.kept p.hand (with_earlier p.earlier moves.m.host) s) is p.holds in
    subst IsWorld (sym moves.is) (whole moves.after (w.kept ++ v.entry ∷ []) moves.wire w.told (so_later w.kept v.entry w.told follows known.told) (record {
      earlier = p.earlier;
      sound = moves.sound;
      right = drops_right laws p.earlier moves.m.host moves.after.host w.wire moves.wire p.sound drops moves.wired p.right;
      hand = None;
      account = stored_account laws w.kept v.entry v.next p.hand p.earlier moves.m.host moves.after.host w.wire moves.wire p.sound moves.wired p.right p.account follows to_keep drops;
      begun = gone_begun moves.m.host moves.after.host drops;
      book = λ live. absurd (live (subst BookMayLag (sym now) (lost_lags v.next why)));
      holds = subst (λ s. Holds (w.kept ++ v.entry ∷ []) None (with_earlier p.earlier moves.after.host) s) (sym now)
          (lost_holds v.next why (w.kept ++ v.entry ∷ []) (with_earlier p.earlier moves.after.host));
    }))

-- The store has both of the entries that are to be kept together.
both_account : LineLaws → (kept : List Entry) (e f : Entry) (next : Then) (hand : Option Hand) (earlier : List (List Command)) (h h' : HostView) (w new : WireView) → IsSound h
    → Wired h h' w new → (p : Right (line_of (with_earlier earlier h) w)) → Right (line_of (with_earlier earlier h') new) → Accounted kept hand (with_earlier earlier h) w
    → MayFollow kept e → IsToKeep kept hand (with_earlier earlier h) e next → entry_with next ≡ Some f → Drops h h'
    → Accounted (kept ++ e ∷ f ∷ []) None (with_earlier earlier h') new × MayFollow (kept ++ e ∷ []) f
both_account laws kept e f (then.GoOn number tried due) hand earlier h h' w new sound wired right gone a follows (to_record, send) with drops =
    let same : tried ≡ f = (let both : Some tried ≡ Some f = with in cc) in
    let more : List Entry = kept ++ e ∷ [] in
    let first : Accounted more None (with_earlier earlier h') new = recorded_account laws kept e number hand earlier h h' w new a follows to_record drops in
    let limit : ℕ = next_free more + 1 in
    let this : Entry = entry.Tried due.number limit in
    let may : MayFollow more this = subst (MayFollow more) send.tried_is send.follows in
    let next : h'.next ≡ h.next = ap (λ v. v.next) (drops_hung earlier h h' drops) ∙ hung_next h.phase (with_earlier earlier h) in
    let within = mark_within more (with_earlier earlier h') (next_free more) first.keeps.knows send.within (omega (arith, next, send.marks)) in
    let late : LateAnswers (more ++ this ∷ []) first.keeps.receipts (line_of (with_earlier earlier h') new) =
    late_tried more due.number limit first.keeps.receipts due.receipt (line_of (with_earlier earlier h') new) first.keeps.ledger may send.first send.receipt
    (laws.promise.made (line_of (with_earlier earlier h') new) first.keeps.receipts (closed_by due.receipt (limit - 1)) (limit - 1) gone.trusted
    (omega (arith, first.keeps.next)) (omega (arith, within)) refl) first.late in
    let both : Accounted (more ++ this ∷ []) None (with_earlier earlier h') new = record { keeps = entry_keeps more this None (with_earlier earlier h') tt refl may first.keeps; late = late } in (
      subst (λ es. Accounted es None (with_earlier earlier h') new) (append_assoc kept (e ∷ []) (f ∷ []))
          (subst (λ x. Accounted (more ++ x ∷ []) None (with_earlier earlier h') new) (sym send.tried_is ∙ same) both),
      subst (MayFollow more) same send.follows,
    )
both_account laws kept e f then.Queued hand earlier h h' w new sound wired right gone a follows keep with drops = absurd (let bad : None ≡ Some f = with in cc)
both_account laws kept e f (then.Take content) hand earlier h h' w new sound wired right gone a follows keep with drops = absurd (let bad : None ≡ Some f = with in cc)
both_account laws kept e f then.Raised hand earlier h h' w new sound wired right gone a follows keep with drops = absurd (let bad : None ≡ Some f = with in cc)
both_account laws kept e f (then.Cancelled number tried) hand earlier h h' w new sound wired right gone a follows keep with drops = absurd (let bad : None ≡ Some f = with in cc)
both_account laws kept e f (then.Send due) hand earlier h h' w new sound wired right gone a follows keep with drops = absurd (let bad : None ≡ Some f = with in cc)
both_account laws kept e f (then.Recorded number) hand earlier h h' w new sound wired right gone a follows keep with drops = absurd (let bad : None ≡ Some f = with in cc)
both_account laws kept e f (then.SendNext number due) hand earlier h h' w new sound wired right gone a follows keep with drops = absurd (let bad : None ≡ Some f = with in cc)

pub failed_with_both : LineLaws → (w new : World) (why : StoreFault) → IsWorld w → StoresBoth (λ m after. Unsure m.stage why m after) w new → IsWorld new
failed_with_both laws w new why known v =
    let moves = v.moves in
    let p = parts w moves.m moves.was known in
    let (is, unsure) = moves.goes in
    let (drops, book, now) = subst (λ s. Unsure s why moves.m moves.after) is unsure in
    let (follows, to_keep) = subst (λ s. Holds w.kept p.hand (with_earlier p.earlier moves.m.host) s) is p.holds in
    let right = drops_right laws p.earlier moves.m.host moves.after.host w.wire moves.wire p.sound drops moves.wired p.right in
    let more : List Entry = w.kept ++ v.entry ∷ v.second ∷ [] in
    let (account, may) = both_account laws w.kept v.entry v.second v.next p.hand p.earlier moves.m.host moves.after.host w.wire moves.wire p.sound moves.wired p.right right p.account follows to_keep v.with drops in
    let told : AreSo more w.told =
    subst (λ es. AreSo es w.told) (append_assoc w.kept (v.entry ∷ []) (v.second ∷ []))
    (so_later (w.kept ++ v.entry ∷ []) v.second w.told may (so_later w.kept v.entry w.told follows known.told)) in
    subst IsWorld (sym moves.is) (whole moves.after more moves.wire w.told told (record {
      earlier = p.earlier;
      sound = moves.sound;
      right = right;
      hand = None;
      account = account;
      begun = gone_begun moves.m.host moves.after.host drops;
      book = λ live. absurd (live (subst BookMayLag (sym now) (lost_lags v.next why)));
      holds = subst (λ s. Holds more None (with_earlier p.earlier moves.after.host) s) (sym now) (lost_holds v.next why more (with_earlier p.earlier moves.after.host));
    }))

pub failed_without : LineLaws → (w new : World) (why : StoreFault) → IsWorld w → Stores (λ m after. Unsure m.stage why m after) without_entry w new → IsWorld new
failed_without laws w new why known v =
    let moves = v.moves in
    let p = parts w moves.m moves.was known in
    let (is, unsure) = moves.goes in
    let (drops, book, now) = subst (λ s. Unsure s why moves.m moves.after) is unsure in
    subst IsWorld (sym moves.is) (whole moves.after w.kept moves.wire w.told known.told
    (let_go laws moves.m moves.after w.kept w.wire moves.wire p drops moves.sound moves.wired
    (λ live. absurd (live (subst BookMayLag (sym now) (lost_lags v.next why))))
    (subst (λ s. Holds w.kept None (with_earlier p.earlier moves.after.host) s) (sym now) (lost_holds v.next why w.kept (with_earlier p.earlier moves.after.host)))))
