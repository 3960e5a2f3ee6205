-- What holds of every world holds after an entry is kept: with it what the machine is to do then, a link that is opened or a receipt that
-- goes over the link that there is.
use Rattle.std.proofs.Common.{ℕ, zero, suc, ◌≡◌, ◌≢◌, ◌+◌, ◌-◌, ◌<◌, ◌≤◌, ◌-◌, ◌⊎◌, inl, inr, max, Some, None, List, [], ◌∷◌, ◌++◌, length, refl, sym, ◌∙◌, ap, subst, append-nil, arith}
use Rattle.std.specs.Prelude.{true}
use Rattle.std.proofs.Math.Nat.{le-max_right}
use Rattle.escpos_command.specs.declared.command.Command.{Command}
use Rattle.escpos_host.specs.Counted.{id_of}
use Rattle.escpos_host.specs.Earlier.{with_earlier}
use Rattle.escpos_host.specs.Machine.{HostView, Phase, Down, Opening, Open, IsSound, in_flight, limit_from, linked_reporting, most_in_flight, nudged}
use Rattle.escpos_host.specs.declared.host.HostError.{HostError}
use Rattle.escpos_host.specs.declared.host.HostError.TheVariants as error
use Rattle.escpos_host.specs.Awaits.{RefusesOpening, dialled_reporting}
use Rattle.escpos_host.proofs.Dialling.{dialled_first, dialled_more}
use Rattle.escpos_link.specs.declared.event.Event.TheVariants as event
use Rattle.escpos_link.specs.declared.event.Note.TheVariants as note
use Rattle.escpos_link.specs.Wire.{WireView, line_of, with_link}
use Rattle.escpos_host.proofs.Earlier.{earlier_sound}
use Rattle.escpos_till.specs.declared.book.Book.{Book}
use Rattle.escpos_till.specs.declared.entry.Content.{Content}
use Rattle.escpos_till.specs.declared.entry.Entry.{Entry}
use Rattle.escpos_till.specs.declared.stage.Stage.TheVariants as stage
use Rattle.escpos_till.specs.Book.{IsBookOf}
use Rattle.escpos_till.specs.Entries.{IsLedger, MayFollow, cancelled, earlier, heard, last_number, next_free, record_of, recorded, states, taken, times_tried}
use Rattle.escpos_till.specs.declared.entry.Entry.TheVariants as entry
use Rattle.escpos_till.specs.declared.stage.Due.{Due}
use Rattle.escpos_till.specs.declared.stage.Then.{Then}
use Rattle.escpos_till.specs.declared.note.TillNote.TheVariants as note_kind
use Rattle.escpos_till.specs.declared.stage.Then.TheVariants as then
use Rattle.escpos_till.specs.Delivers.{fresh, marks_taken}
use Rattle.escpos_till.specs.Tries.{HasTry, tries}
use Rattle.escpos_till.specs.Machine.{Follows, Kept, MachineView, Opens, SendsNext, first_talk}
use Rattle.escpos_till.specs.Pauses.{not_paused}
use Rattle.escpos_till.specs.declared.stage.Talk.{Talk}
use Rattle.escpos_host.specs.declared.host.HostEvent.TheVariants as host_event
use Rattle.escpos_till.proofs.EntryLemmas.{heard_same, last-states, next_after_tried, some_state}
use Rattle.escpos_till.proofs.MachineLemmas.{waits_tried}
use Rattle.escpos_till_model.proofs.Accounts.{same_times}
use Rattle.escpos_till_model.proofs.EntryFacts.{cancelled_append, recorded_append, recorded_same, zip_length}
use Rattle.escpos_till_model.proofs.Keeping.{anew, entry_keeps, linked_reporting_keeps, next_keeps, nudged_keeps, record_stays, take_keeps}
use Rattle.escpos_till_model.specs.Receipts.{Among, IsReceiptOf}
use Rattle.escpos_till_model.specs.Kept.{Hand}
use Rattle.escpos_till_model.specs.Known.{Accounted, BookMayLag, Holds, IsToKeep, IsWorld}
use Rattle.escpos_till_model.specs.Late.{HasJustBegun, LateAnswers}
use Rattle.escpos_till_model.specs.World.{IsSendable, IsSo, Stores, Wired, World, with_entry}
use Rattle.escpos_till_model.proofs.HeardLemmas.{IsPlain, idle_at, known_at, may_know}
use Rattle.escpos_till_model.proofs.LateLemmas.{are_below, has_last, has_tried, late_fresh, late_host, late_on, late_recorded, other_mark}
use Rattle.escpos_till_model.proofs.WorldHears.{Heard, given, over_so}
use Rattle.escpos_till_model.proofs.LinesKept.{LineLaws, Right, goes, same_wire, drops_right}
use Rattle.escpos_till_model.proofs.WorldCalls.{Parts, whole, parts, gone_begun}
use Rattle.escpos_till_model.proofs.WorldStore.{first_plain, first_records_none, first_tries_none, fresh_begun, fresh_is, fresh_keeps, fresh_right, more_account, next_late, anew_is, so_grows, so_later, stored_account, tried_down}

-- ## An entry is kept

-- A host that has sent nothing puts its opening marks out.
pub record Dialled (kept : List Entry) (hand : Hand) (receipts : List (List Command)) (h : HostView) (w : WireView) : Type 0 where
  pub right : Right (line_of (with_earlier receipts h) w)
  pub account : Accounted kept (Some hand) (with_earlier receipts h) w
  pub sound : IsSound h

pub dialled_sound : (h : HostView) (first : ℕ) → h.phase ≡ Opening first → h.left ≡ [] → h.half ≡ [] → IsSound h
dialled_sound h first is left half = record {
  quiet = λ down. absurd (let bad : Opening first ≡ Down = sym is ∙ down in cc);
  few_left = subst (λ ps. length ps ≤ most_in_flight) (sym left) (omega arith);
  few = subst (λ (p : Phase). length (in_flight p) ≤ most_in_flight) (sym is) (omega arith);
  half = inl half;
}

-- The closing marks of the tries are below this number, or the last one below the limit.
abbrev pub AreApart : List Entry → ℕ → ℕ → Type 0
AreApart kept f limit = (number closing : ℕ) → HasTry (tries kept) number closing → (closing < f) ⊎ (closing ≡ limit - 1)

-- So a mark with a number between is another one.
pub apart : LineLaws → (kept : List Entry) (f limit n : ℕ) → AreApart kept f limit → heard kept ≤ f → f ≤ n → n + 1 < limit → limit ≤ limit_from (heard kept) → (number closing : ℕ)
    → HasTry (tries kept) number closing → heard kept ≤ closing → id_of n ≢ id_of closing
apart laws kept f limit n are most from below within number closing has known = elim (are number closing has) [
  | inl less ↦ λ same. other_mark laws closing n (omega (arith, less, from)) (omega (arith, below, within, known)) (sym same)
  | inr last ↦ other_mark laws n closing (omega (arith, last, below)) (omega (arith, last, within, most, from, below))
]

pub dials : LineLaws → (kept : List Entry) (hand : Hand) (receipts : List (List Command)) (w : WireView) (f c : ℕ) → f + (c + 1) < hand.limit → hand.limit ≤ limit_from (heard kept)
    → heard kept ≤ f → AreApart kept f hand.limit → Right (line_of (with_earlier receipts (idle_at f (heard kept))) w)
    → Accounted kept (Some hand) (with_earlier receipts (idle_at f (heard kept))) w → IsSound (idle_at f (heard kept))
    → Dialled kept hand receipts (dialled_reporting (idle_at f (heard kept)) (c + 1)) (with_link w)
dials laws kept hand receipts w f zero below within most are right a sound =
    let idle : HostView = idle_at f (heard kept) in
    subst (λ h. Dialled kept hand receipts h (with_link w)) (dialled_first true idle) (record {
      right = goes laws event.LinkUpReporting (line_of (with_earlier receipts idle) w) (line_of (with_earlier receipts (linked_reporting idle)) (with_link w)) note.Done tt
          (earlier_sound receipts idle sound) right (refl, refl, omega (arith, below, within), refl);
      account = record {
        keeps = linked_reporting_keeps kept hand (with_earlier receipts idle) refl (omega (arith, below)) (omega arith) a.keeps;
        late = late_on laws kept a.keeps.receipts event.LinkUpReporting (line_of (with_earlier receipts idle) w) (line_of (with_earlier receipts (linked_reporting idle)) (with_link w)) note.Done tt
            (earlier_sound receipts idle sound) right (refl, refl, omega (arith, below, within), refl)
            (λ number closing has known. apart laws kept f hand.limit f are most (omega arith) (omega (arith, below)) within number closing has known) a.late;
      };
      sound = dialled_sound (linked_reporting idle) f refl refl refl;
    })
dials laws kept hand receipts w f (suc c) below within most are right a sound =
    let d = dials laws kept hand receipts w f c (omega (arith, below)) within most are right a sound in
    let idle : HostView = idle_at f (heard kept) in
    let h : HostView = dialled_reporting idle (c + 1) in
    let more : nudged h ≡ dialled_reporting idle (suc c + 1) = dialled_more true idle (c + 1) ∙ ap (dialled_reporting idle) (omega arith) in
    subst (λ h. Dialled kept hand receipts h (with_link w)) more (record {
      right = goes laws event.Nudge (line_of (with_earlier receipts h) (with_link w)) (line_of (with_earlier receipts (nudged h)) (with_link w)) note.Done tt
          (earlier_sound receipts h d.sound) d.right (refl, tt, omega (arith, below, within), refl);
      account = record {
        keeps = nudged_keeps kept hand (with_earlier receipts h) f refl (omega (arith, below)) (omega arith) d.account.keeps;
        late = late_on laws kept d.account.keeps.receipts event.Nudge (line_of (with_earlier receipts h) (with_link w)) (line_of (with_earlier receipts (nudged h)) (with_link w)) note.Done tt
            (earlier_sound receipts h d.sound) d.right (refl, tt, omega (arith, below, within), refl)
            (λ number closing has known. apart laws kept f hand.limit (f + (c + 1)) are most (omega arith) (omega (arith, below)) within number closing has known) d.account.late;
      };
      sound = dialled_sound (nudged h) f refl refl refl;
    })

pub fresh_sound : (f hd : ℕ) → IsSound (idle_at f hd)
fresh_sound f hd = record { quiet = λ down. (refl, refl); few = omega arith; few_left = omega arith; half = inl refl }

-- A host that couldn't put them out has no link, and has used some numbers.
pub refused_host : (why : HostError) (f hd k : ℕ) (h : HostView) → RefusesOpening why (idle_at f hd) k h → (g : ℕ) × (h ≡ idle_at g hd) × (f ≤ g) × (g ≤ f + k)
refused_host error.AlreadyUp f hd k h (up, same) = absurd (up refl)
refused_host error.MarksUsedUp f hd k h (down, inl none) = (f, none.1, omega arith, omega arith)
refused_host error.MarksUsedUp f hd k h (down, inr (used, some, few, last, same)) = (f + used, same, omega arith, omega (arith, few))
refused_host error.Memory f hd k h (down, left, inl same) = (f, same, omega arith, omega arith)
refused_host error.Memory f hd k h (down, left, inr (used, some, few, last, same)) = (f + used, same, omega arith, omega (arith, few))
refused_host error.NotReady f hd k h none = absurd none
refused_host error.InFlightFull f hd k h none = absurd none

pub max_is : (n : ℕ) → (c : ℕ) × (max n 1 ≡ c + 1)
max_is n = (max n 1 - 1, omega (arith, le-max_right n 1))

-- The marks of a new try are above those that closed others.
pub tried_apart : (kept : List Entry) (n limit : ℕ) → IsLedger kept → AreApart (kept ++ entry.Tried n limit ∷ []) (next_free kept) limit
tried_apart kept n limit ledger number closing has = elim (has_last kept (entry.Tried n limit) number closing has) [
  | inl before ↦ inl (are_below kept ledger number closing before).0
  | inr (inl (same, last)) ↦ inr (sym last)
  | inr (inr none) ↦ absurd none
]

same_number : (a b : ℕ) → Some a ≡ Some b → a ≡ b
same_number a b same = cc

pub same_receipt : (a b : List Command) → Some a ≡ Some b → a ≡ b
same_receipt a b same = cc

-- The receipt is sent: the entry that says that it is tried is kept.
pub sent_parts : LineLaws → (m after : MachineView) (kept : List Entry) (w new : WireView) (e : Entry) (due : Due) → (p : Parts m kept w) → IsBookOf m.book kept
    → MayFollow kept e → IsToKeep kept p.hand (with_earlier p.earlier m.host) e (then.Send due) → Opens due m.book.next after.book.heard after.host after.stage → IsBookOf after.book (kept ++ e ∷ [])
    → IsSound after.host → Wired m.host after.host w new → Parts after (kept ++ e ∷ []) new
sent_parts laws m after kept w new e due p book follows (none, send, is) (inl (host, now)) known sound wired =
    let f : ℕ = next_free kept in
    let limit : ℕ = f + marks_taken due.openings in
    let hand : Hand = record { number = due.number; receipt = Some due.receipt; limit = limit } in
    let more : List Entry = kept ++ entry.Tried due.number limit ∷ [] in
    let a : Accounted kept None (with_earlier p.earlier m.host) w = subst (λ v. Accounted kept v (with_earlier p.earlier m.host) w) none p.account in
    let keeps = a.keeps in
    let down : m.host.phase ≡ Down = keeps.in_hand in
    let hd : ℕ = heard kept in
    let idle : HostView = idle_at f (heard more) in
    let same_heard : heard more ≡ hd = heard_same kept (entry.Tried due.number limit) refl in
    let right_so = fresh_right laws p.earlier m.host w kept None f hd down p.right keeps keeps.next (may_know kept (with_earlier p.earlier m.host) f keeps.knows keeps.most) in
    let right : Right (line_of (with_earlier keeps.receipts idle) w) = subst (λ k. Right (line_of (with_earlier keeps.receipts (idle_at f k)) w)) (sym same_heard) right_so in
    let before : HostView = with_earlier p.earlier m.host in
    let resumed : HostView = anew before f (length (recorded kept)) hd in
    let taken : Accounted more (Some hand) resumed w = record {
      keeps = take_keeps kept before due.number limit due.receipt send.follows send.receipt keeps;
      late = late_host more keeps.receipts before resumed w (sym (p.sound.quiet down).1) (sym (p.sound.quiet down).0)
          (tried_down laws kept None p.earlier m.host w due p.sound down p.right keeps send a.late);
    } in
    let taken_so : Accounted more (Some hand) (with_earlier keeps.receipts idle) w =
    subst (λ k. Accounted more (Some hand) (with_earlier keeps.receipts (idle_at f k)) w) (sym same_heard)
    (subst (λ v. Accounted more (Some hand) v w) (anew_is p.earlier m.host kept None f hd keeps) taken) in
    let (c, count) = max_is due.openings in
    let d = dials laws more hand keeps.receipts w f c (omega (arith, count)) (omega (arith, send.within, same_heard)) (omega (arith, keeps.most, same_heard))
    (tried_apart kept due.number limit keeps.ledger) right taken_so (fresh_sound f (heard more)) in
    let kept_heard : after.book.heard ≡ heard more = known.heard ∙ ap (λ x. heard (kept ++ x ∷ [])) is in
    let at_wire : after.host ≡ dialled_reporting idle (c + 1) =
    host ∙ ap (λ n. dialled_reporting (fresh n after.book.heard) (max due.openings 1)) book.next ∙ ap (λ k. dialled_reporting (fresh f k) (max due.openings 1)) kept_heard
    ∙ ap (λ v. dialled_reporting v (max due.openings 1)) (fresh_is f (heard more) (omega (arith, keeps.most, same_heard))) ∙ ap (dialled_reporting idle) count in
    let up : after.host.phase ≢ Down = λ gone. let bad : Opening f ≡ Down = ap (λ v. v.phase) (sym at_wire) ∙ gone in cc in
    let linked_up : new ≡ with_link w = wired.goes_up down up in
    let waits = waits_tried kept due.number limit send.follows.0 in
    let tried : MayFollow more (entry.Recorded due.number 0) = (waits.0, waits.1, omega arith) in
    let same_records : recorded more ≡ recorded kept = recorded_same kept (entry.Tried due.number limit) refl in
    let counts : length (keeps.receipts ++ []) ≡ length (recorded more) =
    ap length (append-nil keeps.receipts) ∙ sym (zip_length (IsReceiptOf kept) (recorded kept) keeps.receipts keeps.are) ∙ ap length (sym same_records) in
    let holds : Holds more (Some hand) (with_earlier keeps.receipts (dialled_reporting idle (c + 1))) (stage.Talking (first_talk due)) = (
      hand,
      refl,
      refl,
      refl,
      tried,
      counts,
      (λ gone. let bad : Opening f ≡ Down = gone in cc),
      (λ receipt is. (omega (arith, count), subst IsSendable (same_receipt due.receipt receipt is) send.fits)),
      (λ number is. absurd (let bad : None ≡ Some number = is in cc)),
      omega arith,
    ) in
    subst (λ x. Parts after (kept ++ x ∷ []) new) (sym is) (record {
      earlier = keeps.receipts;
      sound = sound;
      right = subst (λ v. Right (line_of (with_earlier keeps.receipts after.host) v)) (sym linked_up)
          (subst (λ h. Right (line_of (with_earlier keeps.receipts h) (with_link w))) (sym at_wire) d.right);
      hand = Some hand;
      account = subst (λ v. Accounted more (Some hand) (with_earlier keeps.receipts after.host) v) (sym linked_up)
          (subst (λ h. Accounted more (Some hand) (with_earlier keeps.receipts h) (with_link w)) (sym at_wire) d.account);
      begun = λ first opening. (ap (λ v. v.records) at_wire, ap (λ v. v.left) at_wire);
      book = λ live. subst (λ x. IsBookOf after.book (kept ++ x ∷ [])) is known;
      holds = subst (λ s. Holds more (Some hand) (with_earlier keeps.receipts after.host) s) (sym now)
          (subst (λ h. Holds more (Some hand) (with_earlier keeps.receipts h) (stage.Talking (first_talk due))) (sym at_wire) holds);
    })
sent_parts laws m after kept w new e due p book follows (none, send, is) (inr (why, refuses, now)) known sound wired =
    let f : ℕ = next_free kept in
    let limit : ℕ = f + marks_taken due.openings in
    let a : Accounted kept None (with_earlier p.earlier m.host) w = subst (λ v. Accounted kept v (with_earlier p.earlier m.host) w) none p.account in
    let keeps = a.keeps in
    let down : m.host.phase ≡ Down = keeps.in_hand in
    let hd : ℕ = heard kept in
    let same_heard : heard (kept ++ e ∷ []) ≡ hd = ap (λ x. heard (kept ++ x ∷ [])) is ∙ heard_same kept (entry.Tried due.number limit) refl in
    let idle_so : fresh m.book.next after.book.heard ≡ idle_at f hd =
    ap (λ n. fresh n after.book.heard) book.next ∙ ap (fresh f) (known.heard ∙ same_heard) ∙ fresh_is f hd keeps.most in
    let (g, host, from, to) = refused_host why f hd (max due.openings 1) after.host (subst (λ v. RefusesOpening why v (max due.openings 1) after.host) idle_so refuses) in
    let grown = entry_keeps kept e None (with_earlier p.earlier m.host) (subst IsPlain (sym is) tt) (ap record_of is) follows keeps in
    let may = may_know kept (with_earlier p.earlier m.host) g keeps.knows (omega (arith, keeps.most, from)) in
    let right = fresh_right laws p.earlier m.host w (kept ++ e ∷ []) None g hd down p.right grown (omega (arith, keeps.next, from)) may in
    let last : next_free (kept ++ e ∷ []) ≡ limit = ap (λ x. next_free (kept ++ x ∷ [])) is ∙ next_after_tried kept due.number limit in
    let kept_so = fresh_keeps p.earlier m.host (kept ++ e ∷ []) None g hd grown (omega (arith, last, to)) (omega (arith, same_heard)) (omega (arith, keeps.most, from)) in
    let stays : new ≡ w = wired.stays_down down (ap (λ v. v.phase) host) in
    let account : Accounted (kept ++ e ∷ []) None (with_earlier grown.receipts (idle_at g hd)) w = record {
      keeps = kept_so;
      late = late_fresh (kept ++ e ∷ []) keeps.receipts p.earlier grown.receipts m.host w g hd p.sound down
          (subst (λ x. LateAnswers (kept ++ x ∷ []) keeps.receipts (line_of (with_earlier p.earlier m.host) w)) (sym is)
          (tried_down laws kept None p.earlier m.host w due p.sound down p.right keeps send a.late));
    } in
    record {
      earlier = grown.receipts;
      sound = sound;
      right = subst (λ v. Right (line_of (with_earlier grown.receipts after.host) v)) (sym stays) (subst (λ h. Right (line_of (with_earlier grown.receipts h) w)) (sym host) right);
      hand = None;
      account = subst (λ v. Accounted (kept ++ e ∷ []) None (with_earlier grown.receipts after.host) v) (sym stays)
          (subst (λ h. Accounted (kept ++ e ∷ []) None (with_earlier grown.receipts h) w) (sym host) account);
      begun = subst HasJustBegun (sym host) (fresh_begun g hd);
      book = λ live. known;
      holds = subst (λ s. Holds (kept ++ e ∷ []) None (with_earlier grown.receipts after.host) s) (sym now) (refl, tt);
    }

pub quietly_kept : LineLaws → (m after : MachineView) (kept : List Entry) (w new : WireView) (e : Entry) → (p : Parts m kept w) → MayFollow kept e → p.hand ≡ None → IsPlain e → record_of e ≡ None
    → tries (e ∷ []) ≡ [] → after.host ≡ m.host
    → IsSound after.host → Wired m.host after.host w new → IsBookOf after.book (kept ++ e ∷ []) → Holds (kept ++ e ∷ []) p.hand (with_earlier p.earlier m.host) after.stage
    → Parts after (kept ++ e ∷ []) new
quietly_kept laws m after kept w new e p follows none plain other untried same sound wired known holds =
    let wire : new ≡ w = same_wire m.host after.host w new same wired in
    record {
      earlier = p.earlier;
      sound = sound;
      right = subst (λ v. Right (line_of (with_earlier p.earlier after.host) v)) (sym wire) (subst (λ h. Right (line_of (with_earlier p.earlier h) w)) (sym same) p.right);
      hand = p.hand;
      account = subst (λ v. Accounted (kept ++ e ∷ []) p.hand (with_earlier p.earlier after.host) v) (sym wire)
          (subst (λ h. Accounted (kept ++ e ∷ []) p.hand (with_earlier p.earlier h) w) (sym same) (more_account laws kept e p.hand (with_earlier p.earlier m.host) w plain other untried follows p.account));
      begun = subst HasJustBegun (sym same) p.begun;
      book = λ live. known;
      holds = subst (λ h. Holds (kept ++ e ∷ []) p.hand (with_earlier p.earlier h) after.stage) (sym same) holds;
    }

-- The receipt that was taken last has the number of all that were taken.
pub queued_so : (b : Book) (es before : List Entry) (content : Content) (number : ℕ) → IsBookOf b es → es ≡ before ++ entry.Queued content ∷ [] → number ≡ b.earlier + length b.states.items
    → IsSo es (note_kind.Queued number)
queued_so b es before content number book is same =
    let all : length b.states.items ≡ length (states es) = ap length book.states in
    let counts : earlier es + length (states es) ≡ last_number es = last-states es in
    let some : 0 < length (states es) = some_state es before content is in
    (omega (arith, same, all, some), omega (arith, same, all, counts, book.earlier))

pub recorded_so : (kept : List Entry) (number hd : ℕ) → Among number (recorded (kept ++ entry.Recorded number hd ∷ []))
recorded_so kept number hd = (recorded kept, [], recorded_append kept (entry.Recorded number hd ∷ []))

pub cancelled_so : (kept : List Entry) (number tried : ℕ) → times_tried kept number ≡ tried → IsSo (kept ++ entry.Cancelled number ∷ []) (note_kind.Cancelled number tried)
cancelled_so kept number tried times = (
  (cancelled kept, [], cancelled_append kept (entry.Cancelled number ∷ [])),
  same_times kept (entry.Cancelled number) number refl ∙ times,
)

-- A receipt is recorded, and the next one is to be tried over the same link.
going_parts : LineLaws → (m after : MachineView) (kept : List Entry) (w new : WireView) (e : Entry) (number : ℕ) (tried : Entry) (due : Due) → (p : Parts m kept w) → MayFollow kept e
    → IsToKeep kept p.hand (with_earlier p.earlier m.host) e (then.GoOn number tried due) → after.host ≡ m.host → after.stage ≡ stage.Keeping tried (then.SendNext number due)
    → IsBookOf after.book (kept ++ e ∷ []) → IsSound after.host → Wired m.host after.host w new → Parts after (kept ++ e ∷ []) new
going_parts laws m after kept w new e number tried due p follows ((held, hand_is, same, (hd, recorded_is, some_heard, heard_so), more, up), send) host now known sound wired =
    let before : HostView = with_earlier p.earlier m.host in
    let is : e ≡ entry.Recorded held.number hd = recorded_is ∙ ap (λ k. entry.Recorded k hd) (sym same) in
    let left : Hand = record { number = held.number; receipt = None; limit = held.limit } in
    let b : Accounted kept (Some held) before w = subst (λ v. Accounted kept v before w) hand_is p.account in
    let reserved = b.keeps.in_hand.reserved in
    let so : MayFollow kept (entry.Recorded held.number hd) = subst (MayFollow kept) is follows in
    let longer : List Entry = kept ++ entry.Recorded held.number hd ∷ [] in
    let account : Accounted longer (Some left) before w = record {
      keeps = record_stays kept held hd before so some_heard heard_so more send.link b.keeps;
      late = late_recorded kept held.number hd (held.limit - 1) b.keeps.receipts (line_of before w) _ (line_of before w) b.keeps.ledger so.0
          (has_tried kept reserved.before reserved.following held.number held.limit reserved.entries_are) b.late;
    } in
    let account_so : Accounted (kept ++ e ∷ []) (Some left) before w = subst (λ x. Accounted (kept ++ x ∷ []) (Some left) before w) (sym is) account in
    let count = zip_length (IsReceiptOf longer) (recorded longer) account.keeps.receipts account.keeps.are in
    let all : length before.records ≡ length (recorded (kept ++ e ∷ [])) =
    ap length account.keeps.records ∙ ap length (append-nil account.keeps.receipts) ∙ sym count ∙ ap (λ x. length (recorded (kept ++ x ∷ []))) (sym is) in
    let wire : new ≡ w = same_wire m.host after.host w new host wired in
    record {
      earlier = p.earlier;
      sound = sound;
      right = subst (λ v. Right (line_of (with_earlier p.earlier after.host) v)) (sym wire) (subst (λ h. Right (line_of (with_earlier p.earlier h) w)) (sym host) p.right);
      hand = Some left;
      account = subst (λ v. Accounted (kept ++ e ∷ []) (Some left) (with_earlier p.earlier after.host) v) (sym wire)
          (subst (λ h. Accounted (kept ++ e ∷ []) (Some left) (with_earlier p.earlier h) w) (sym host) account_so);
      begun = subst HasJustBegun (sym host) p.begun;
      book = λ live. known;
      holds = subst (λ s. Holds (kept ++ e ∷ []) (Some left) (with_earlier p.earlier after.host) s) (sym now)
          (subst (λ h. Holds (kept ++ e ∷ []) (Some left) (with_earlier p.earlier h) (stage.Keeping tried (then.SendNext number due))) (sym host)
          (send.follows, (left, refl, all, send, subst (λ x. Among number (recorded (kept ++ x ∷ []))) (sym recorded_is) (recorded_so kept number hd))));
    }

-- The next receipt is tried, and given to the host, over the link that there is.
next_parts : LineLaws → (m after : MachineView) (kept : List Entry) (w new : WireView) (e : Entry) (number : ℕ) (due : Due) → (p : Parts m kept w) → MayFollow kept e
    → IsToKeep kept p.hand (with_earlier p.earlier m.host) e (then.SendNext number due) → SendsNext number due m.host after.host after.stage
    → IsBookOf after.book (kept ++ e ∷ []) → IsSound after.host → Wired m.host after.host w new → Parts after (kept ++ e ∷ []) new
next_parts laws m after kept w new e number due p follows (held, hand_is, all, send, so) sends known sound wired =
    let before : HostView = with_earlier p.earlier m.host in
    let limit : ℕ = next_free kept + 1 in
    let more : List Entry = kept ++ entry.Tried due.number limit ∷ [] in
    let hand : Hand = record { number = due.number; receipt = Some due.receipt; limit = limit } in
    let b : Accounted kept (Some held) before w = subst (λ v. Accounted kept v before w) hand_is p.account in
    let may : MayFollow kept (entry.Tried due.number limit) = subst (MayFollow kept) send.tried_is follows in
    let account : Accounted more (Some hand) before w = record {
      keeps = next_keeps kept held before due.number due.receipt may send.receipt send.link send.marks all b.keeps;
      late = next_late laws kept (Some held) before w due e p.right b.keeps send b.late;
    } in
    let up : m.host.phase ≢ Down = λ down. let bad : Open [] ≡ Down = sym send.link ∙ down in cc in
    let same_records : recorded more ≡ recorded kept = recorded_same kept (entry.Tried due.number limit) refl in
    let told : IsSo more (note_kind.Recorded number) = so_grows kept (entry.Tried due.number limit) (note_kind.Recorded number) may so in
    let talk : Talk = record { number = due.number; receipt = Some due.receipt; left = due.most; paused = not_paused; further = due.further; recorded = Some number } in
    let waits = waits_tried kept due.number limit may.0 in
    let x : Heard m after more w new talk 0 m.host host_event.Opened = record {
      earlier = p.earlier;
      held = hand;
      number = refl;
      receipt = refl;
      follows = (waits.0, waits.1, omega arith);
      reserved = λ receipt is. (omega (arith, send.marks), subst IsSendable (same_receipt due.receipt receipt is) send.fits);
      news = λ n is. subst (λ k. IsSo more (note_kind.Recorded k)) (same_number number n is) told;
      known = omega (arith, heard_same kept (entry.Tried due.number limit) refl, known_at kept before b.keeps.knows b.keeps.most send.marks);
      sound = p.sound;
      up = up;
      right = p.right;
      so = record { account = account; shows = λ n closing waits has past late. absurd (let bad : host_event.Opened ≡ host_event.Late (id_of closing) = late in cc) };
      begun = p.begun;
      opening = tt;
      book = subst (λ t. IsBookOf after.book (kept ++ t ∷ [])) send.tried_is known;
      after_sound = sound;
      wired = wired;
    } in
    subst (λ t. Parts after (kept ++ t ∷ []) new) (sym send.tried_is) (elim sends [
      | inl (given_so, now) ↦ given laws m after more w new talk 0 due.most m.host host_event.Opened due.receipt x (all ∙ ap length (sym same_records)) refl given_so now
      | inr (why, refuses, drops, now) ↦ over_so laws m after more w new talk 0 m.host host_event.Opened x drops (note_kind.Recorded number) told now
    ])

pub kept_parts : LineLaws → (m after : MachineView) (kept : List Entry) (w new : WireView) (e : Entry) (next : Then) → (p : Parts m kept w) → IsBookOf m.book kept
    → MayFollow kept e → IsToKeep kept p.hand (with_earlier p.earlier m.host) e next → Follows next m.host m.book.next after.book after.host after.stage → IsBookOf after.book (kept ++ e ∷ [])
    → IsSound after.host → Wired m.host after.host w new → Parts after (kept ++ e ∷ []) new
kept_parts laws m after kept w new e then.Queued p book follows (none, content, entry_is) (number, is, host, now) known sound wired =
    quietly_kept laws m after kept w new e p follows none (subst IsPlain (sym entry_is) tt) (ap record_of entry_is) (ap (λ x. tries (x ∷ [])) entry_is) host sound wired known
    (subst (λ s. Holds (kept ++ e ∷ []) p.hand (with_earlier p.earlier m.host) s) (sym now)
    (none, queued_so after.book (kept ++ e ∷ []) kept content number known (ap (λ x. kept ++ x ∷ []) entry_is) is))
kept_parts laws m after kept w new e (then.Take content) p book follows (none, suits) (host, now) known sound wired =
    quietly_kept laws m after kept w new e p follows none (first_plain e content suits) (first_records_none e content suits) (first_tries_none e content suits) host sound wired known
    (subst (λ s. Holds (kept ++ e ∷ []) p.hand (with_earlier p.earlier m.host) s) (sym now) (tt, (none, content, refl)))
kept_parts laws m after kept w new e then.Raised p book follows (none, first, hd, entry_is) (host, now) known sound wired =
    quietly_kept laws m after kept w new e p follows none (subst IsPlain (sym entry_is) tt) (ap record_of entry_is) (ap (λ x. tries (x ∷ [])) entry_is) host sound wired known
    (subst (λ s. Holds (kept ++ e ∷ []) p.hand (with_earlier p.earlier m.host) s) (sym now) (none, tt))
kept_parts laws m after kept w new e (then.Cancelled number tried) p book follows (none, entry_is, times) (host, now) known sound wired =
    quietly_kept laws m after kept w new e p follows none (subst IsPlain (sym entry_is) tt) (ap record_of entry_is) (ap (λ x. tries (x ∷ [])) entry_is) host sound wired known
    (subst (λ s. Holds (kept ++ e ∷ []) p.hand (with_earlier p.earlier m.host) s) (sym now)
    (none, subst (λ x. IsSo (kept ++ x ∷ []) (note_kind.Cancelled number tried)) (sym entry_is) (cancelled_so kept number tried times)))
kept_parts laws m after kept w new e (then.Send due) p book follows to_keep opens known sound wired = sent_parts laws m after kept w new e due p book follows to_keep opens known sound wired
kept_parts laws m after kept w new e (then.GoOn number tried due) p book follows to_keep (host, now) known sound wired =
    going_parts laws m after kept w new e number tried due p follows to_keep host now known sound wired
kept_parts laws m after kept w new e (then.SendNext number due) p book follows to_keep sends known sound wired = next_parts laws m after kept w new e number due p follows to_keep sends known sound wired
kept_parts laws m after kept w new e (then.Recorded number) p book follows to_keep (drops, now) known sound wired = record {
  earlier = p.earlier;
  sound = sound;
  right = drops_right laws p.earlier m.host after.host w new p.sound drops wired p.right;
  hand = None;
  account = stored_account laws kept e (then.Recorded number) p.hand p.earlier m.host after.host w new p.sound wired p.right p.account follows to_keep drops;
  begun = gone_begun m.host after.host drops;
  book = λ live. known;
  holds = subst (λ s. Holds (kept ++ e ∷ []) None (with_earlier p.earlier after.host) s) (sym now)
      (refl, subst (λ x. Among number (recorded (kept ++ x ∷ []))) (sym to_keep.3.1) (recorded_so kept number to_keep.3.0));
}

pub kept_world : LineLaws → (w new : World) → IsWorld w → Stores (λ m after. Kept m.stage m after) with_entry w new → IsWorld new
kept_world laws w new known v =
    let moves = v.moves in
    let p = parts w moves.m moves.was known in
    let (is, kept_so) = moves.goes in
    let (notes, so) = subst (λ s. Kept s moves.m moves.after) is kept_so in
    let (follows, to_keep) = subst (λ s. Holds w.kept p.hand (with_earlier p.earlier moves.m.host) s) is p.holds in
    let book : IsBookOf moves.m.book w.kept = p.book (λ lost. subst BookMayLag is lost) in
    subst IsWorld (sym moves.is) (whole moves.after (w.kept ++ v.entry ∷ []) moves.wire w.told (so_later w.kept v.entry w.told follows known.told)
    (kept_parts laws moves.m moves.after w.kept w.wire moves.wire v.entry v.next p book follows to_keep so (notes w.kept book p.account.keeps.ledger follows) moves.sound moves.wired))
