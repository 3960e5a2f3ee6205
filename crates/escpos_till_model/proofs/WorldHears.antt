-- What holds of every world holds after its machine has heard answers.
use Rattle.std.proofs.Common.{ℕ, zero, suc, ◌≡◌, ◌≢◌, ◌+◌, ◌-◌, ◌<◌, ◌≤◌, ◌⊎◌, inl, inr, Option, Some, None, List, [], ◌∷◌, ◌++◌, length, take, refl, sym, ◌∙◌, ap, subst, append-nil, length-append, arith}
use Rattle.std.specs.Prelude.{map}
use Rattle.escpos_command.specs.declared.command.Command.{Command}
use Rattle.escpos_host.specs.declared.send.SendFault.{SendFault}
use Rattle.escpos_host.specs.Counted.{id_of}
use Rattle.escpos_host.specs.Earlier.{with_earlier}
use Rattle.escpos_host.specs.Machine.{HostView, Down, Opening, Open, IsSound, in_flight, submitted, HasMark, InFlight, closed_by, limit_from, reports_asked}
use Rattle.escpos_host.specs.declared.host.HostEvent.{HostEvent}
use Rattle.escpos_host.specs.declared.host.HostEvent.TheVariants as heard
use Rattle.escpos_host.specs.Earlier.{shifted}
use Rattle.escpos_host.specs.Heard.{EndsLink, last_of}
use Rattle.std.proofs.lemmas.Bool.{cases_lt}
use Rattle.escpos_link.specs.declared.event.Event.TheVariants as event
use Rattle.escpos_link.specs.declared.event.Note.TheVariants as note
use Rattle.escpos_link.specs.EventTable.{After}
use Rattle.escpos_link.specs.Line.{LineView}
use Rattle.escpos_link.specs.Promised.{Promised}
use Rattle.escpos_link.specs.Trusted.{IsFitting, IsTrusted}
use Rattle.escpos_link.specs.Ways.{flight_of}
use Rattle.escpos_link.specs.Stands.{Stands}
use Rattle.escpos_link.specs.Wire.{WireView, heard_from, line_of}
use Rattle.escpos_host.proofs.Earlier.{earlier_sound, last_shifted}
use Rattle.escpos_host.proofs.Recording.{keeps, told}
use Rattle.escpos_till.specs.declared.entry.Entry.{Entry}
use Rattle.escpos_till.specs.declared.stage.Stage.TheVariants as stage
use Rattle.escpos_till.specs.Book.{IsBookOf}
use Rattle.escpos_till.specs.declared.book.Book.{Book}
use Rattle.escpos_till.specs.Entries.{IsLedger, MayFollow, Waits, next_free, recorded}
use Rattle.escpos_till.specs.Entries.{heard as heard_in}
use Rattle.escpos_till.specs.Tries.{ClosesTry, HasTry, tries}
use Rattle.escpos_till.specs.declared.further.Further.{Further}
use Rattle.escpos_till.specs.declared.stage.Due.{Due}
use Rattle.escpos_till.specs.declared.note.TillNote.{TillNote}
use Rattle.escpos_till.specs.Further.{GoesFurther, IsAfter, heard_by}
use Rattle.escpos_till.proofs.EntryLemmas.{heard-snoc, next_after_recorded}
use Rattle.escpos_till.proofs.MachineLemmas.{said_least}
use Rattle.escpos_till.specs.declared.entry.Entry.TheVariants as entry
use Rattle.escpos_till.specs.declared.stage.Talk.{Talk}
use Rattle.escpos_till.specs.declared.note.TillNote.TheVariants as note_kind
use Rattle.escpos_till.specs.Machine.{Came, Drops, GoesOn as MachineGoesOn, MachineView, Sends, Submits, Turns as MachineTurns, printed, with_left, with_pause, with_sent}
use Rattle.escpos_till_model.proofs.GoesOn.{answered_on}
use Rattle.escpos_till_model.proofs.EntryFacts.{zip_length}
use Rattle.escpos_till_model.proofs.Keeping.{asked_keeps, nothing_before, on_keeps, submitted_keeps}
use Rattle.escpos_till_model.proofs.HeardLemmas.{Rose, heard_rises, heard_same_host, since_gone}
use Rattle.escpos_till_model.proofs.LateLemmas.{are_below, are_near, first_is_least, has_tried, late_host, late_on, other_mark, which_try}
use Rattle.escpos_till_model.specs.Kept.{Hand, IsSent, Reserves}
use Rattle.escpos_till_model.specs.Known.{Accounted, Holds, IsToRecord, IsToSendNext, IsWorld}
use Rattle.escpos_till_model.specs.Late.{HasJustBegun, LateAnswers}
use Rattle.escpos_till_model.specs.Receipts.{IsReceiptOf}
use Rattle.escpos_till_model.specs.World.{Hears, IsSendable, IsSo, Wired, World}
use Rattle.escpos_till_model.proofs.LinesKept.{LineLaws, Right, goes, same_wire, drops_right}
use Rattle.escpos_till_model.proofs.WorldCalls.{Parts, due_receipt, gone_account, gone_begun, whole, parts}
use Rattle.escpos_till_model.proofs.WorldStore.{talking_book, talking_holds}
use Rattle.escpos_till_model.proofs.HostHears.{Grew, IsSome, StillOpening, grew, heard_after, heard_begun, heard_one, in_turn, some_heard}

record_follows : (kept : List Entry) (b : Book) (h : HostView) (number : ℕ) → IsBookOf b kept → MayFollow kept (entry.Recorded number 0) → MayFollow kept (entry.Recorded number (heard_by b h))
record_follows kept b h number book (waits, tried, least) = (waits, tried, omega (arith, book.next))

tried_some : (kept : List Entry) (number closing : ℕ) → IsLedger kept → HasTry (tries kept) number closing → 0 < next_free kept
tried_some kept number closing ledger has = let below = (are_below kept ledger number closing has).0 in omega (arith, below)

-- If the event is an answer to the closing mark of a try of a receipt that waits, that receipt stands after these.
abbrev pub Shows : List Entry → List (List Command) → WireView → HostEvent → Type 0
Shows kept receipts w e =
    (number closing : ℕ) → Waits kept number → HasTry (tries kept) number closing → heard_in kept ≤ closing → e ≡ heard.Late (id_of closing)
    → (receipt : List Command) × IsReceiptOf kept number receipt × Stands w.printer.sheet.line_dots (receipts ++ receipt ∷ []) w.printer.sheet.items

-- The account after an event, with what that shows.
pub record HeardSo (kept : List Entry) (hand : Option Hand) (h : HostView) (w : WireView) (e : HostEvent) : Type 0 where
  pub account : Accounted kept hand h w
  pub shows : Shows kept account.keeps.receipts w e

-- A machine that hears an answer: what it is of, and what its host has become.
pub record Heard (m after : MachineView) (kept : List Entry) (w wire : WireView) (talk : Talk) (consumed : ℕ) (host : HostView) (e : HostEvent) : Type 0 where
  pub earlier : List (List Command)
  pub held : Hand
  pub number : held.number ≡ talk.number
  pub receipt : held.receipt ≡ talk.receipt
  pub follows : MayFollow kept (entry.Recorded talk.number 0)
  pub reserved : (receipt : List Command) → talk.receipt ≡ Some receipt → (host.next < held.limit) × IsSendable receipt
  pub news : (number : ℕ) → talk.recorded ≡ Some number → IsSo kept (note_kind.Recorded number)
  pub known : heard_in kept ≤ host.heard
  pub sound : IsSound host
  pub up : host.phase ≢ Down
  pub right : Right (line_of (with_earlier earlier host) w)
  pub so : HeardSo kept (Some held) (with_earlier earlier host) w e
  pub begun : HasJustBegun host
  pub opening : StillOpening e host
  pub book : IsBookOf after.book kept
  pub after_sound : IsSound after.host
  pub wired : Wired host after.host w wire

-- Nothing was recorded so far.
abbrev pub Unrecorded : List Entry → List (List Command) → HostView → Type 0
Unrecorded kept earlier host = length (earlier ++ host.records) ≡ length (recorded kept)

-- The talk is over.
pub over_so : LineLaws → (m after : MachineView) (kept : List Entry) (w wire : WireView) (talk : Talk) (consumed : ℕ) (host : HostView) (e : HostEvent) → (x : Heard m after kept w wire talk consumed host e)
    → Drops host after.host → (n : TillNote) → IsSo kept n → after.stage ≡ stage.HangingUp n → Parts after kept wire
over_so laws m after kept w wire talk consumed host e x drops n so now = record {
  earlier = x.earlier;
  sound = x.after_sound;
  right = drops_right laws x.earlier host after.host w wire x.sound drops x.wired x.right;
  hand = None;
  account = gone_account laws x.earlier host after.host kept (Some x.held) w wire x.sound drops x.wired x.right x.so.account;
  begun = gone_begun host after.host drops;
  book = λ live. x.book;
  holds = subst (λ s. Holds kept None (with_earlier x.earlier after.host) s) (sym now) (refl, so);
}

pub over : LineLaws → (m after : MachineView) (kept : List Entry) (w wire : WireView) (talk : Talk) (consumed : ℕ) (host : HostView) (e : HostEvent) (why : SendFault) → (x : Heard m after kept w wire talk consumed host e)
    → Drops host after.host → (n : ℕ) → after.stage ≡ stage.HangingUp (note_kind.Waiting n why) → Parts after kept wire
over laws m after kept w wire talk consumed host e why x drops n now = over_so laws m after kept w wire talk consumed host e x drops (note_kind.Waiting n why) tt now

-- The talk goes on, with the host as it is.
pub onward : (m after : MachineView) (kept : List Entry) (w wire : WireView) (talk : Talk) (consumed left : ℕ) (host : HostView) (e : HostEvent) → (x : Heard m after kept w wire talk consumed host e)
    → Unrecorded kept x.earlier host → after.host ≡ host → (later : Talk) → later.number ≡ talk.number → later.receipt ≡ talk.receipt → later.recorded ≡ talk.recorded → after.stage ≡ stage.Talking later → Parts after kept wire
onward m after kept w wire talk consumed left host e x none same later number receipt news now =
    let stays : wire ≡ w = same_wire host after.host w wire same x.wired in
    record {
      earlier = x.earlier;
      sound = x.after_sound;
      right = subst (λ v. Right (line_of (with_earlier x.earlier after.host) v)) (sym stays) (subst (λ h. Right (line_of (with_earlier x.earlier h) w)) (sym same) x.right);
      hand = Some x.held;
      account = subst (λ v. Accounted kept (Some x.held) (with_earlier x.earlier after.host) v) (sym stays)
          (subst (λ h. Accounted kept (Some x.held) (with_earlier x.earlier h) w) (sym same) x.so.account);
      begun = subst HasJustBegun (sym same) x.begun;
      book = λ live. x.book;
      holds = subst (λ s. Holds kept (Some x.held) (with_earlier x.earlier after.host) s) (sym now)
          (subst (λ h. Holds kept (Some x.held) (with_earlier x.earlier h) (stage.Talking later)) (sym same) (
            x.held,
            refl,
            x.number ∙ sym number,
            x.receipt ∙ sym receipt,
            subst (λ n. MayFollow kept (entry.Recorded n 0)) (sym number) x.follows,
            none,
            x.up,
            (λ r is. x.reserved r (sym receipt ∙ is)),
            (λ n is. x.news n (sym news ∙ is)),
            x.known,
          ));
    }

-- The same for a talk that differs in what the printer has told.
pub goes_on_as : LineLaws → (m after : MachineView) (kept : List Entry) (w wire : WireView) (talk later : Talk) (consumed left : ℕ) (host : HostView) (e : HostEvent) → (x : Heard m after kept w wire talk consumed host e)
    → Unrecorded kept x.earlier host → later.number ≡ talk.number → later.receipt ≡ talk.receipt → later.recorded ≡ talk.recorded → MachineGoesOn later left host after.host after.stage → Parts after kept wire
goes_on_as laws m after kept w wire talk later consumed zero host e x none number receipt news so = over laws m after kept w wire talk consumed host e _ x so.0 later.number so.1
goes_on_as laws m after kept w wire talk later consumed (suc left) host e x none number receipt news so =
    onward m after kept w wire talk consumed (suc left) host e x none so.0 (with_left later (suc left)) number receipt news so.1

pub goes_on_parts : LineLaws → (m after : MachineView) (kept : List Entry) (w wire : WireView) (talk : Talk) (consumed left : ℕ) (host : HostView) (e : HostEvent) → (x : Heard m after kept w wire talk consumed host e)
    → Unrecorded kept x.earlier host → MachineGoesOn talk left host after.host after.stage → Parts after kept wire
goes_on_parts laws m after kept w wire talk consumed left host e x none so = goes_on_as laws m after kept w wire talk talk consumed left host e x none refl refl refl so

-- What was submitted is the try in hand, closed by the last of its numbers.
own_try : (kept : List Entry) (hand : Hand) (k : ℕ) (number closing : ℕ) → IsLedger kept → (r : Reserves kept hand.number k hand.limit) → k < hand.limit → HasTry (tries kept) number closing
    → closing ≡ k → number ≡ hand.number
own_try kept hand k number closing ledger r below has same =
    elim ((which_try kept r.before r.following hand.number hand.limit ledger r.entries_are).0 number closing has) [
      | inl earlier ↦ absurd (let from = r.from in omega (arith, same, earlier, from))
      | inr (inl (own, last)) ↦ own
      | inr (inr later) ↦ absurd (omega (arith, same, below, later))
    ]

no_flight : (flight : List InFlight) (answered some : List (List Command)) → some ≡ in_flight (Open flight) → answered ++ some ≡ [] → flight ≡ []
no_flight [] answered some is none = refl
no_flight (f ∷ fs) [] some is none = absurd (let bad : in_flight (Open (f ∷ fs)) ≡ [] = sym is ∙ none in cc)
no_flight (f ∷ fs) (a ∷ others) some is none = absurd (let bad : a ∷ (others ++ some) ≡ [] = none in cc)

-- A late answer proves the same after the receipt is submitted: it is the only one in flight, and its mark is its try's alone.
submitted_late : LineLaws → (kept : List Entry) (hand : Hand) (h : HostView) (w : WireView) (receipt : List Command) (flight : List InFlight) → IsSound h → Right (line_of h w)
    → Right (line_of (submitted h flight receipt) w) → After (event.Submit receipt) (line_of h w) note.Done (line_of (submitted h flight receipt) w) → IsFitting (event.Submit receipt)
    → hand.receipt ≡ Some receipt → h.phase ≡ Open flight → HasMark h → h.next < hand.limit → heard_in kept ≤ h.heard → (a : Accounted kept (Some hand) h w)
    → LateAnswers kept a.keeps.receipts (line_of (submitted h flight receipt) w)
submitted_late laws kept hand h w receipt flight sound right new_right happened fits has phase mark within known a =
    let l : LineView = line_of h w in
    let after : LineView = line_of (submitted h flight receipt) w in
    let rs = a.keeps.receipts in
    let sent : IsSent kept hand.number (Some receipt) (a.keeps.answered ++ in_flight h.phase) =
    subst (λ (r : Option (List Command)). IsSent kept hand.number r (a.keeps.answered ++ in_flight h.phase)) has a.keeps.in_hand.sent in
    let p : InFlight = closed_by receipt h.next in
    let alone : Open (flight ++ p ∷ []) ≡ Open (p ∷ []) = ap (λ f. Open (f ++ p ∷ [])) (no_flight flight a.keeps.answered (in_flight h.phase) (ap in_flight phase) sent.1) in
    let none : a.keeps.answered ≡ [] = nothing_before a.keeps.answered (in_flight h.phase) sent.1 in
    let records : h.records ≡ rs = a.keeps.records ∙ ap (λ v. rs ++ v) none ∙ append-nil rs in
    let own : Promised rs p after = subst (λ v. Promised v p after) records (laws.promise.in_flight after p new_right.trusted alone) in
    record {
      first = a.late.first;
      promise = λ number closing waits tried past.
          let (other, is, promised) = a.late.promise number closing waits tried past in
          let reserved = a.keeps.in_hand.reserved in
          let near = are_near kept a.keeps.ledger in
          let own_near = near hand.number (hand.limit - 1) (has_tried kept reserved.before reserved.following hand.number hand.limit reserved.entries_are) in
          let others_near = near number closing tried in
          let least = since_gone h a.keeps.since in
          let stays : id_of h.next ≢ id_of closing → (r : List Command) × IsReceiptOf kept number r × Promised rs (closed_by r closing) after =
          λ differs. (
            other,
            is,
            laws.promise.stays (event.Submit receipt) l after note.Done rs (closed_by other closing) fits sound right.line happened right.trusted differs promised,
          ) in
          elim (cases_lt closing h.next) [
            | inl less ↦ stays (λ same. other_mark laws closing h.next less (omega (arith, within, own_near, past)) (sym same))
            | inr more ↦ elim (cases_lt h.next closing) [
              | inl greater ↦ stays (other_mark laws h.next closing greater (omega (arith, others_near, known, least)))
              | inr fewer ↦
                  let same : closing ≡ h.next = omega (arith, more, fewer) in
                  let number_is = own_try kept hand h.next number closing a.keeps.ledger a.keeps.in_hand.reserved within tried same in (
                    receipt,
                    subst (λ n. IsReceiptOf kept n receipt) (sym number_is) sent.0,
                    subst (λ n. Promised rs (closed_by receipt n) after) (sym same) own,
                  )
            ]
          ];
    }

asked_sound : (h : HostView) → h.phase ≡ Open [] → IsSound h → IsSound (reports_asked h)
asked_sound h ready sound = record {
  quiet = λ down. absurd (let bad : Open [] ≡ Down = sym ready ∙ down in cc);
  few = sound.few;
  few_left = sound.few_left;
  half = sound.half;
}

-- The receipt goes to the host, after a request for automatic status.
pub given : LineLaws → (m after : MachineView) (kept : List Entry) (w wire : WireView) (talk : Talk) (consumed left : ℕ) (host : HostView) (e : HostEvent) (receipt : List Command)
    → (x : Heard m after kept w wire talk consumed host e) → Unrecorded kept x.earlier host → talk.receipt ≡ Some receipt → Sends receipt host after.host
    → after.stage ≡ stage.Talking (with_sent talk left) → Parts after kept wire
given laws m after kept w wire talk consumed left host e receipt x none has (phase, mark, same) now =
    let before : HostView = with_earlier x.earlier host in
    let asked : HostView = reports_asked before in
    let hand : Hand = record { number = x.held.number; receipt = None; limit = x.held.limit } in
    let (within, sendable) = x.reserved receipt has in
    let fits = sendable.fits in
    let up : after.host.phase ≢ Down = λ down. let bad : Open (closed_by receipt host.next ∷ []) ≡ Down = ap (λ v. v.phase) (sym same) ∙ down in cc in
    let stays : wire ≡ w = x.wired.stays_up x.up up in
    let sound = earlier_sound x.earlier host x.sound in
    let asks : After event.AskReports (line_of before w) note.Done (line_of asked w) = (refl, phase, refl) in
    let ready = goes laws event.AskReports (line_of before w) (line_of asked w) note.Done tt sound x.right asks in
    let first : Accounted kept (Some x.held) asked w = record {
      keeps = asked_keeps kept x.held before x.so.account.keeps;
      late = late_on laws kept x.so.account.keeps.receipts event.AskReports (line_of before w) (line_of asked w) note.Done tt sound x.right asks (λ number closing waits few. tt) x.so.account.late;
    } in
    let then_sound = asked_sound before phase sound in
    let happened : After (event.Submit receipt) (line_of asked w) note.Done (line_of (submitted asked [] receipt) w) = ([], refl, phase, omega arith, mark, refl) in
    let right = goes laws (event.Submit receipt) (line_of asked w) (line_of (submitted asked [] receipt) w) note.Done fits then_sound ready happened in
    let known_later : heard_in kept ≤ after.host.heard = omega (arith, x.known, ap (λ v. v.heard) same) in
    let account : Accounted kept (Some hand) (submitted asked [] receipt) w = record {
      keeps = submitted_keeps kept x.held asked [] receipt (x.receipt ∙ has) phase within x.known first.keeps;
      late = submitted_late laws kept x.held asked w receipt [] then_sound ready right happened fits (x.receipt ∙ has) phase mark within x.known first;
    } in
    record {
      earlier = x.earlier;
      sound = x.after_sound;
      right = subst (λ v. Right (line_of (with_earlier x.earlier after.host) v)) (sym stays) (subst (λ h. Right (line_of (with_earlier x.earlier h) w)) (sym same) right);
      hand = Some hand;
      account = subst (λ v. Accounted kept (Some hand) (with_earlier x.earlier after.host) v) (sym stays)
          (subst (λ h. Accounted kept (Some hand) (with_earlier x.earlier h) w) (sym same) account);
      begun = λ first opening.
          absurd (let bad : Open (closed_by receipt host.next ∷ []) ≡ Opening first = ap (λ v. v.phase) (sym same) ∙ opening in cc);
      book = λ live. x.book;
      holds = subst (λ s. Holds kept (Some hand) (with_earlier x.earlier after.host) s) (sym now)
          (hand, refl, x.number, refl, x.follows, ap (λ h. length (x.earlier ++ h.records)) same ∙ none, up, (λ r is. absurd (let bad : None ≡ Some r = is in cc)), x.news, known_later);
    }

pub submits_parts : LineLaws → (m after : MachineView) (kept : List Entry) (w wire : WireView) (talk : Talk) (consumed left : ℕ) (host : HostView) (e : HostEvent) (receipt : Option (List Command))
    → (x : Heard m after kept w wire talk consumed host e) → Unrecorded kept x.earlier host → talk.receipt ≡ receipt → Submits talk receipt left host after.host after.stage → Parts after kept wire
submits_parts laws m after kept w wire talk consumed (suc left) host e (Some receipt) x none has (inl (sends, now)) =
    given laws m after kept w wire talk consumed (suc left) host e receipt x none has sends now
submits_parts laws m after kept w wire talk consumed (suc left) host e (Some receipt) x none has (inr (why, refuses, drops, now)) = over laws m after kept w wire talk consumed host e _ x drops talk.number now
submits_parts laws m after kept w wire talk consumed zero host e (Some receipt) x none has so = goes_on_parts laws m after kept w wire talk consumed zero host e x none so
submits_parts laws m after kept w wire talk consumed left host e None x none has so = goes_on_parts laws m after kept w wire talk consumed left host e x none so

-- A receipt that an answer to an older mark shows to stand is answered, as one in flight would be.
late_parts : LineLaws → (m after : MachineView) (kept : List Entry) (w wire : WireView) (talk : Talk) (consumed left : ℕ) (host : HostView) (id : List ℕ)
    → (x : Heard m after kept w wire talk consumed host (heard.Late id)) → Unrecorded kept x.earlier host → ClosesTry (tries kept) (heard_in kept) host.heard talk.number id → after.host ≡ host
    → (b : Book) → IsBookOf b kept → after.stage ≡ printed b talk.number host → Parts after kept wire
late_parts laws m after kept w wire talk consumed left host id x none (closing, past, before, mark, has) same b book now =
    let a = x.so.account in
    let rs = a.keeps.receipts in
    let (receipt, is, stand) = x.so.shows talk.number closing x.follows.0 has past (ap heard.Late (sym mark)) in
    let (first, opening) = x.opening in
    let begun = x.begun first opening in
    let nothing : host.records ≡ [] = begun.0 in
    let earlier : List (List Command) = rs ++ receipt ∷ [] in
    let all : earlier ++ host.records ≡ earlier = ap (λ v. earlier ++ v) nothing ∙ append-nil earlier in
    let l : LineView = line_of (with_earlier x.earlier host) w in
    let right : Right (line_of (with_earlier earlier host) w) = record {
      line = record { down = x.right.line.down; alone = x.right.line.alone; quiet = x.right.line.quiet; whole = x.right.line.whole; fitting = x.right.line.fitting };
      trusted = subst (λ left. IsTrusted (line_of (record { phase = host.phase; out = host.out; half = host.half; next = host.next; heard = host.heard; records = earlier ++ host.records; left = left }) w))
          (sym begun.1)
          (laws.promise.recorded l (earlier ++ host.records) x.right.trusted (ap flight_of opening)
          (subst (λ v. Stands w.printer.sheet.line_dots v w.printer.sheet.items) (sym all) stand));
    } in
    let hand : Hand = record { number = x.held.number; receipt = None; limit = x.held.limit } in
    let own = a.keeps.in_hand in
    let account : Accounted kept (Some hand) (with_earlier earlier host) w = record {
      keeps = record {
        ledger = a.keeps.ledger;
        receipts = rs;
        are = a.keeps.are;
        answered = receipt ∷ [];
        records = all;
        next = a.keeps.next;
        in_hand = record {
          reserved = own.reserved;
          below = own.below;
          sent = (receipt, subst (λ n. IsReceiptOf kept n receipt) (sym x.number) is, inr (ap (λ v. receipt ∷ in_flight v) opening));
        };
        knows = heard_same_host kept (with_earlier x.earlier host) (with_earlier earlier host) refl refl a.keeps.knows;
        most = a.keeps.most;
        since = a.keeps.since;
      };
      late = late_host kept rs (with_earlier x.earlier host) (with_earlier earlier host) w refl refl a.late;
    } in
    let stays : wire ≡ w = same_wire host after.host w wire same x.wired in
    let count = zip_length (IsReceiptOf kept) (recorded kept) rs a.keeps.are in
    let one_more : length (recorded kept) < length (earlier ++ host.records) = omega (arith, count, ap length all, length-append rs (receipt ∷ [])) in
    record {
      earlier = earlier;
      sound = x.after_sound;
      right = subst (λ v. Right (line_of (with_earlier earlier after.host) v)) (sym stays) (subst (λ h. Right (line_of (with_earlier earlier h) w)) (sym same) right);
      hand = Some hand;
      account = subst (λ v. Accounted kept (Some hand) (with_earlier earlier after.host) v) (sym stays)
          (subst (λ h. Accounted kept (Some hand) (with_earlier earlier h) w) (sym same) account);
      begun = subst HasJustBegun (sym same) x.begun;
      book = λ live. x.book;
      holds = subst (λ s. Holds kept (Some hand) (with_earlier earlier after.host) s) (sym now)
          (subst (λ h. Holds kept (Some hand) (with_earlier earlier h) (printed b talk.number host)) (sym same)
          (record_follows kept b host talk.number book x.follows, (hand, refl, x.number, (heard_by b host, refl, omega (arith, before, book.next, tried_some kept talk.number closing a.keeps.ledger has), omega arith), one_more, x.up)));
    }

-- The receipt in flight is answered: that is to be kept, and perhaps with it that the next one is tried.
answered_parts : (m after : MachineView) (kept : List Entry) (w wire : WireView) (talk : Talk) (consumed : ℕ) (host : HostView) (place : ℕ)
    → (x : Heard m after kept w wire talk consumed host (heard.Recorded place)) → after.host ≡ host
    → Holds kept (Some x.held) (with_earlier x.earlier host) after.stage → Parts after kept wire
answered_parts m after kept w wire talk consumed host place x same holds =
    let stays : wire ≡ w = same_wire host after.host w wire same x.wired in
    record {
      earlier = x.earlier;
      sound = x.after_sound;
      right = subst (λ v. Right (line_of (with_earlier x.earlier after.host) v)) (sym stays) (subst (λ h. Right (line_of (with_earlier x.earlier h) w)) (sym same) x.right);
      hand = Some x.held;
      account = subst (λ v. Accounted kept (Some x.held) (with_earlier x.earlier after.host) v) (sym stays)
          (subst (λ h. Accounted kept (Some x.held) (with_earlier x.earlier h) w) (sym same) x.so.account);
      begun = subst HasJustBegun (sym same) x.begun;
      book = λ live. x.book;
      holds = subst (λ h. Holds kept (Some x.held) (with_earlier x.earlier h) after.stage) (sym same) holds;
    }

-- What may be sent over the same link.
pub to_send_next : LineLaws → (kept : List Entry) (b : Book) (number : ℕ) (further : Option Further) (earlier : List (List Command)) (host : HostView) (due : Due) → IsBookOf b kept
    → MayFollow kept (entry.Recorded number (heard_by b host)) → IsAfter b number further host due
    → IsToSendNext (kept ++ entry.Recorded number (heard_by b host) ∷ []) (with_earlier earlier host) due (entry.Tried due.number (b.next + 1))
to_send_next laws kept b number further earlier host due book follows after =
    let hd : ℕ = heard_by b host in
    let more : List Entry = kept ++ entry.Recorded number hd ∷ [] in
    let is = after.next kept book follows in
    let waits = after.waits kept book follows in
    let free : next_free more ≡ b.next = next_after_recorded kept number hd ∙ sym book.next in
    let within : b.next < limit_from (heard_in more) = omega (arith, after.within, heard-snoc kept (entry.Recorded number hd), said_least kept number hd) in
    record {
      receipt = due_receipt more after.how.copy due.number due.receipt after.text is;
      fits = record { fits = laws.fitting due.receipt after.whole after.commands; no_real_time = after.whole.no_real_time };
      tried_is = ap (λ n. entry.Tried due.number (n + 1)) (sym free);
      follows = (waits, omega (arith, free), omega (arith, free, within));
      first = first_is_least more due.number is.tried is.content is.first;
      within = omega (arith, free, within);
      link = after.link;
      quiet = after.quiet;
      marks = after.marks ∙ sym free;
    }

recorded_parts : LineLaws → (m after : MachineView) (kept : List Entry) (w wire : WireView) (talk : Talk) (consumed : ℕ) (host : HostView) (place : ℕ) (b : Book)
    (old : List (List Command)) → IsBookOf b kept → (x : Heard m after kept w wire talk consumed host (heard.Recorded place)) → length (x.earlier ++ old) ≡ length (recorded kept)
    → length old < length host.records → 0 < host.heard → after.host ≡ host → (after.stage ≡ printed b talk.number host) ⊎ GoesFurther b talk.number talk.further host after.stage → Parts after kept wire
recorded_parts laws m after kept w wire talk consumed host place b old book x count more some same goes =
    let one_more : length (recorded kept) < length (x.earlier ++ host.records) = omega (arith, count, more, length-append x.earlier old, length-append x.earlier host.records) in
    let a = x.so.account in
    let reserved = a.keeps.in_hand.reserved in
    let own = has_tried kept reserved.before reserved.following x.held.number x.held.limit reserved.entries_are in
    let hd : ℕ = heard_by b host in
    let follows = record_follows kept b host talk.number book x.follows in
    let to_record : IsToRecord kept (Some x.held) (with_earlier x.earlier host) (entry.Recorded talk.number hd) talk.number =
    (x.held, refl, x.number, (hd, refl, omega (arith, some, book.next, tried_some kept x.held.number (x.held.limit - 1) a.keeps.ledger own), omega arith), one_more, x.up) in
    elim goes [
      | inl now ↦
          answered_parts m after kept w wire talk consumed host place x same
          (subst (λ s. Holds kept (Some x.held) (with_earlier x.earlier host) s) (sym now) (follows, to_record))
      | inr on ↦
          answered_parts m after kept w wire talk consumed host place x same
          (subst (λ s. Holds kept (Some x.held) (with_earlier x.earlier host) s) (sym on.stage_is)
          (follows, (to_record, to_send_next laws kept b talk.number talk.further x.earlier host on.due book follows on.after)))
    ]

pub turned_parts : LineLaws → (m after : MachineView) (kept : List Entry) (w wire : WireView) (talk : Talk) (consumed left : ℕ) (host : HostView) (e : HostEvent) (b : Book)
    (old : List (List Command)) → IsBookOf b kept
    → (x : Heard m after kept w wire talk consumed host e) → length (x.earlier ++ old) ≡ length (recorded kept) → Grew e old host.records → IsSome e host → (EndsLink e → ⊥)
    → MachineTurns b e talk left host after.host after.stage → Parts after kept wire
turned_parts laws m after kept w wire talk consumed left host heard.None b old book x count more some on so =
    goes_on_parts laws m after kept w wire talk consumed left host heard.None x (ap (λ rs. length (x.earlier ++ rs)) more ∙ count) so
turned_parts laws m after kept w wire talk consumed left host (heard.Status byte) b old book x count more some on so =
    goes_on_parts laws m after kept w wire talk consumed left host (heard.Status byte) x (ap (λ rs. length (x.earlier ++ rs)) more ∙ count) so
turned_parts laws m after kept w wire talk consumed left host (heard.Condition block) b old book x count more some on (p, told, so) =
    goes_on_as laws m after kept w wire talk (with_pause talk p) consumed left host (heard.Condition block) x (ap (λ rs. length (x.earlier ++ rs)) more ∙ count) refl refl refl so
turned_parts laws m after kept w wire talk consumed left host (heard.Late id) b old book x count more some on (inl (closes, same, now)) =
    late_parts laws m after kept w wire talk consumed left host id x (ap (λ rs. length (x.earlier ++ rs)) more ∙ count) (subst (λ hd. ClosesTry (tries kept) hd host.heard talk.number id) book.heard
    (subst (λ ts. ClosesTry ts b.heard host.heard talk.number id) book.tries closes)) same b book now
turned_parts laws m after kept w wire talk consumed left host (heard.Late id) b old book x count more some on (inr (other, so)) =
    goes_on_parts laws m after kept w wire talk consumed left host (heard.Late id) x (ap (λ rs. length (x.earlier ++ rs)) more ∙ count) so
turned_parts laws m after kept w wire talk consumed left host heard.Opened b old book x count more some on so =
    submits_parts laws m after kept w wire talk consumed left host heard.Opened talk.receipt x (ap (λ rs. length (x.earlier ++ rs)) more ∙ count) refl so
turned_parts laws m after kept w wire talk consumed left host (heard.Recorded place) b old book x count more some on (same, goes) =
    recorded_parts laws m after kept w wire talk consumed host place b old book x count more some same goes
turned_parts laws m after kept w wire talk consumed left host (heard.BadAnswer place) b old book x count more some on so = absurd (on tt)

pub hears : LineLaws → (w new : World) (most : ℕ) → IsWorld w → Hears w most new → IsWorld new
hears laws w new most known v =
    let p = parts w v.m v.was known in
    let (held, hand_is, number, receipt, follows, records, up, reserved, news, known_before) = talking_holds v.m w.kept w.wire v.talk v.talks p in
    let (e, host, hears_one, turns, book, all) = subst (λ s. Came s (take most w.wire.coming) v.consumed v.m v.after) v.talks v.came in
    let is_heard = hears_one.1 up in
    let on = in_turn laws p.earlier v.m.host host w.wire most v.consumed e up p.right is_heard in
    let one = heard_one v.m.host host w.wire.coming most v.consumed e up p.sound is_heard on in
    let middle : WireView = heard_from w.wire v.consumed in
    let happened = heard_after p.earlier v.m.host host w.wire v.consumed e one on in
    let right = goes laws (event.Answer v.consumed) (line_of (with_earlier p.earlier v.m.host) w.wire) (line_of (with_earlier p.earlier host) middle) _ tt
    (earlier_sound p.earlier v.m.host p.sound) p.right happened in
    let went = answered_on v.consumed (line_of (with_earlier p.earlier v.m.host) w.wire) (line_of (with_earlier p.earlier host) middle) _ (λ first opening. (p.begun first opening).1) happened in
    let before : LineView = line_of (with_earlier p.earlier v.m.host) w.wire in
    let sound = earlier_sound p.earlier v.m.host p.sound in
    let last : last_of (map (shifted (length p.earlier)) one.events) ≡ shifted (length p.earlier) e =
    last_shifted (length p.earlier) one.events ∙ ap (shifted (length p.earlier)) one.last in
    let rose = heard_rises v.m.host host (take most w.wire.coming) v.consumed e (λ first opening. (p.begun first opening).1) p.account.keeps.since is_heard in
    let rose_so : Rose (with_earlier p.earlier v.m.host) (with_earlier p.earlier host) = record { since = rose.since; rose = rose.rose } in
    let so : HeardSo w.kept p.hand (with_earlier p.earlier host) middle e = record {
      account = record {
        keeps = on_keeps w.kept p.hand (with_earlier p.earlier v.m.host) (with_earlier p.earlier host) went rose_so p.account.keeps;
        late = late_on laws w.kept p.account.keeps.receipts (event.Answer v.consumed) before (line_of (with_earlier p.earlier host) middle) _ tt sound p.right happened
            (λ number closing has past. tt) p.account.late;
      };
      shows = λ number closing waits has past late.
          let (receipt, is, promised) = p.account.late.promise number closing waits has past in
          let told : note.Heard v.consumed (last_of (map (shifted (length p.earlier)) one.events)) ≡ note.Heard v.consumed (heard.Late (id_of closing)) =
          ap (note.Heard v.consumed) (last ∙ ap (shifted (length p.earlier)) late) in (
            receipt,
            is,
            laws.promise.late before (line_of (with_earlier p.earlier host) middle) v.consumed v.consumed (id_of closing) p.account.keeps.receipts
                (closed_by receipt closing) p.right.line p.right.trusted
                (subst (λ n. After (event.Answer v.consumed) before n (line_of (with_earlier p.earlier host) middle)) told happened) refl promised,
          );
    } in
    let begun = heard_begun v.m.host host (take most w.wire.coming) v.consumed e is_heard on p.begun in
    let x : Heard v.m v.after w.kept middle v.wire v.talk v.consumed host e = record {
      earlier = p.earlier;
      held = held;
      number = number;
      receipt = receipt;
      follows = follows;
      reserved = λ r is. let had = reserved r is in (omega (arith, went.next, had.0), had.1);
      news = news;
      known = omega (arith, known_before, rose.rose);
      sound = one.sound;
      up = one.up;
      right = right;
      so = subst (λ x. HeardSo w.kept x (with_earlier p.earlier host) middle e) hand_is so;
      begun = begun.0;
      opening = begun.1;
      book = subst (λ b. IsBookOf b w.kept) (sym book) (talking_book v.m w.kept w.wire v.talk v.talks p);
      after_sound = v.sound;
      wired = record {
        stays_down = λ down b. absurd (one.up down);
        goes_up = λ down b. absurd (one.up down);
        stays_up = λ a b. v.wired.stays_up up b;
        goes_down = λ a b. v.wired.goes_down up b;
      };
    } in
    subst IsWorld (sym v.is) (whole v.after w.kept v.wire w.told known.told
    (turned_parts laws v.m v.after w.kept middle v.wire v.talk v.consumed (v.talk.left - v.consumed) host e v.m.book v.m.host.records
    (talking_book v.m w.kept w.wire v.talk v.talks p) x records
    (grew v.m.host host (take most w.wire.coming) v.consumed e is_heard on) (some_heard v.m.host host (take most w.wire.coming) v.consumed e is_heard) on turns))
