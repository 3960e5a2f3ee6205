-- The four ways of a line when the host hears an answer.
use Rattle.std.proofs.Common.{◌≡◌, ◌≢◌, ◌<◌, ◌≤◌, ◌+◌, inl, inr, ℕ, List, [], ◌∷◌, ◌++◌, Option, Some, None, refl, sym, ◌∙◌, ap, subst, arith}
use Rattle.std.proofs.lemmas.Bool.{cases_lt}
use Rattle.escpos_command.specs.declared.answer.Answer.{Answer}
use Rattle.escpos_command.specs.declared.answer.Answer.TheVariants as answer
use Rattle.escpos_command.specs.declared.command.Command.{Command}
use Rattle.escpos_command.specs.Digits.{mark_count}
use Rattle.escpos_host.specs.Counted.{id_of}
use Rattle.escpos_command.specs.Grammar.{Reads}
use Rattle.escpos_paper.specs.Page.{Sheet}
use Rattle.escpos_host.specs.declared.host.HostEvent.{HostEvent}
use Rattle.escpos_host.specs.declared.host.HostEvent.TheVariants as event
use Rattle.escpos_host.specs.Heard.{EndsLink, IgnoresMark, IsClosing, IsFirstWith, IsMarkFrom, IsNumberOf, IsToldLate, Turns, heard_late, recorded, recorded_late}
use Rattle.escpos_host.specs.Machine.{HostView, InFlight, Phase, Down, Opening, Open, receipts_of}
use Rattle.escpos_host.proofs.Recording.{is_closing, oldest_has}
use Rattle.escpos_link.specs.Stands.{Stands}
use Rattle.escpos_link.specs.Ways.{AreApart, Course, IsSince, Owed, Row, Way, answered_marks, flight_of}
use Rattle.escpos_link.proofs.Claiming.{Popped, course_from, course_turn, owed_from, owed_turn}
use Rattle.escpos_link.proofs.Links.{given_within}
use Rattle.escpos_link.proofs.Numbers.{OfNumbers, not_opening, one_number, row_within}
use Rattle.escpos_link.proofs.Promising.{recorded_way}
use Rattle.escpos_link.proofs.Turning.{Turned}

-- ## Where the host may hear its own marks

-- What an answer leaves of what is claimed of records and receipts in flight, and of numbers from one on.
pub record Told (P : ℕ → List (List Command) → List InFlight → Type 0) (h after : HostView) (e : HostEvent) : Type 0 where
  pub on : EndsLink e → ⊥
  pub up : after.phase ≢ Down
  pub half : after.half ≡ h.half
  pub out : after.out ≡ h.out
  pub next : after.next ≡ h.next
  pub apart : AreApart after.heard h.next
  pub since : IsSince after.phase after.heard
  pub holds : P after.heard after.records (flight_of after.phase)

-- What is said of numbers from one on is said from a lower one on.
abbrev pub Lowers : (ℕ → List (List Command) → List InFlight → Type 0) → Type 0
Lowers P = (m n : ℕ) (rs : List (List Command)) (f : List InFlight) → m ≤ n → P n rs f → P m rs f

cons_nil : {X : Type 0} (x : X) (xs : List X) → [] ≡ x ∷ xs → ⊥
cons_nil x xs e = cc e

same_mark : (id other : List ℕ) → answer.Mark id ≡ answer.Mark other → id ≡ other
same_mark id other e = cc e

no_mark : (id : List ℕ) (b : ℕ) → answer.Mark id ≡ answer.Status b → ⊥
no_mark id b e = cc e

no_status : (id : List ℕ) (b : ℕ) → answer.Status b ≡ answer.Mark id → ⊥
no_status id b e = cc e

no_block : (id block : List ℕ) → answer.Condition block ≡ answer.Mark id → ⊥
no_block id block e = cc e

open_up : (flight : List InFlight) → Open flight ≡ Down → ⊥
open_up flight e = cc e

-- The host is as it was.
unchanged : (P : ℕ → List (List Command) → List InFlight → Type 0) (h after : HostView) (e : HostEvent) → (EndsLink e → ⊥) → h.phase ≢ Down → after ≡ h
    → AreApart h.heard h.next → IsSince h.phase h.heard → P h.heard h.records (flight_of h.phase) → Told P h after e
unchanged P h after e on up same apart since holds = record {
  on = on;
  up = λ is_down. up (sym (ap (λ (v : HostView). v.phase) same) ∙ is_down);
  half = ap (λ (v : HostView). v.half) same;
  out = ap (λ (v : HostView). v.out) same;
  next = ap (λ (v : HostView). v.next) same;
  apart = subst (λ (v : HostView). AreApart v.heard h.next) (sym same) apart;
  since = subst (λ (v : HostView). IsSince v.phase v.heard) (sym same) since;
  holds = subst (λ (v : HostView). P v.heard v.records (flight_of v.phase)) (sym same) holds;
}

-- Ignored marks aren't among those in flight.
ignored_stale : (phase : Phase) (next : ℕ) (id : List ℕ) (q : InFlight) (ps : List InFlight) → IgnoresMark phase next id → flight_of phase ≡ q ∷ ps → q.mark ≡ id → ⊥
ignored_stale Down next id q ps ignored is mark = ignored
ignored_stale (Opening first) next id q ps ignored is mark = cons_nil q ps is
ignored_stale (Open flight) next id q ps ignored is mark = ignored (subst (λ v. IsClosing 0 v id) (sym is) (inl (omega arith, mark)))

-- What an answer to a mark does, where it records no receipt that is left.
abbrev pub FlightTurns : HostView → List ℕ → HostEvent → HostView → Type 0
FlightTurns h id (event.Recorded n) after =
    (flight : List InFlight) × (before : List InFlight) × (last : InFlight) × (others : List InFlight) × (h.phase ≡ Open flight) × IsFirstWith 0 id flight before last others
    × (after ≡ recorded h before last others)
FlightTurns h id e after = Turns h (answer.Mark id) e after

-- The oldest receipt in flight is recorded.
oldest_told : (P : ℕ → List (List Command) → List InFlight → Type 0) (h after : HostView) (id : List ℕ) (n : ℕ) (flight before : List InFlight) (last : InFlight) (others : List InFlight)
    (q : InFlight) (qs : List InFlight) → h.phase ≡ Open flight → flight ≡ q ∷ qs → q.mark ≡ id → IsFirstWith 0 id flight before last others
    → after ≡ recorded h before last others → AreApart h.heard h.next → h.heard ≤ q.number → P (q.number + 1) (h.records ++ q.receipt ∷ []) qs → Told P h after (event.Recorded n)
oldest_told P h after id n flight before last others q qs sending is mark f same apart least holds =
    let one = oldest_has q qs 0 id before others last (omega arith) mark (subst (λ v. IsFirstWith 0 id v before last others) is f) in
    let now : after ≡ recorded h [] q qs = same ∙ ap (λ v. recorded h v last others) one.0 ∙ ap (λ v. recorded h [] v others) one.1 ∙ ap (recorded h [] q) one.2 in
    let far : AreApart (q.number + 1) h.next = omega (arith, apart, least) in
    record {
      on = λ ends. ends;
      up = λ is_down. open_up qs (sym (ap (λ (v : HostView). v.phase) now) ∙ is_down);
      half = ap (λ (v : HostView). v.half) now;
      out = ap (λ (v : HostView). v.out) now;
      next = ap (λ (v : HostView). v.next) now;
      apart = subst (λ (v : HostView). AreApart v.heard h.next) (sym now) far;
      since = subst (λ (v : HostView). IsSince v.phase v.heard) (sym now) tt;
      holds = subst (λ (v : HostView). P v.heard v.records (flight_of v.phase)) (sym now) holds;
    }

-- ## Which mark it is

-- The opening mark that is answered is the mark of the row.
opening_is : OfNumbers → (heard next first n m : ℕ) (id : List ℕ) → AreApart heard next → heard ≤ first → heard ≤ n → n < next → id_of n ≡ id → IsNumberOf first next id m → m ≡ n
opening_is of heard next first n m id apart since least below mark (from, within, few, is) =
    one_number of heard next m n apart (omega (arith, since, from)) within least below (is ∙ sym mark)

-- The mark of an older link that is answered is the mark of the row.
late_is : OfNumbers → (heard first n m : ℕ) (id : List ℕ) → heard ≤ n → n < heard + mark_count → id_of n ≡ id → IsNumberOf heard first id m → m ≡ n
late_is of heard first n m id least near mark (from, within, few, is) =
    let apart : AreApart heard (heard + mark_count) = omega arith in one_number of heard (heard + mark_count) m n apart from few least near (is ∙ sym mark)

-- The mark of the row is one of an older link, if it is no opening mark.
is_older : (heard next first n : ℕ) (id : List ℕ) → AreApart heard next → heard ≤ first → n < next → id_of n ≡ id → (IsMarkFrom first next id → ⊥) → n < first
is_older heard next first n id apart since below mark other = elim (cases_lt n first) [
  | inl less ↦ less
  | inr more ↦ absurd (other (n, (more, below, omega (arith, below, apart, since), mark)))
]

-- So it is told as that one.
older_late : OfNumbers → (h after : HostView) (first n : ℕ) (id : List ℕ) → AreApart h.heard h.next → h.heard ≤ first → h.heard ≤ n → n < h.next → id_of n ≡ id
    → (IsMarkFrom first h.next id → ⊥) → IsToldLate h first id after → (n < first) × (after ≡ heard_late h n)
older_late of h after first n id apart since least below mark other (inl (m, number, same)) =
    let less = is_older h.heard h.next first n id apart since below mark other in
    (less, same ∙ ap (heard_late h) (late_is of h.heard first n m id least (omega (arith, below, apart)) mark number))
older_late of h after first n id apart since least below mark other (inr (none, same)) =
    let less = is_older h.heard h.next first n id apart since below mark other in
    absurd (none (n, (least, less, omega (arith, below, apart), mark)))

-- ## An answer to a mark

opening_since : (phase : Phase) (first heard : ℕ) → phase ≡ Opening first → IsSince phase heard → heard ≤ first
opening_since phase first heard is since = subst (λ p. IsSince p heard) is since

mark_told : OfNumbers → (P : ℕ → List (List Command) → List InFlight → Type 0) (h after : HostView) (id : List ℕ) (e : HostEvent) → Lowers P → AreApart h.heard h.next → IsSince h.phase h.heard
    → h.phase ≢ Down → Popped P h.heard h.next h.records (flight_of h.phase) id → FlightTurns h id e after → Told P h after e
mark_told of P h after id event.None lowers apart since up (inl (n, least, below, mark, stale, holds)) (ignored, same) =
    unchanged P h after event.None (λ ends. ends) up same apart since (lowers h.heard (n + 1) h.records (flight_of h.phase) (omega (arith, least)) holds)
mark_told of P h after id event.None lowers apart since up (inr (q, ps, is, mark, least, holds)) (ignored, same) = absurd (ignored_stale h.phase h.next id q ps ignored is mark)
mark_told of P h after id event.Opened lowers apart since up (inl (n, least, below, mark, stale, holds)) (first, m, other, opening, is, number, same) =
    let before = opening_since h.phase first h.heard opening since in
    let one = opening_is of h.heard h.next first n m id apart before least below mark (subst (λ v. IsNumberOf first h.next v m) (sym (same_mark id other is)) number) in
    let far : AreApart (m + 1) h.next = omega (arith, apart, least, one) in
    record {
      on = λ ends. ends;
      up = λ is_down. open_up [] (sym (ap (λ (v : HostView). v.phase) same) ∙ is_down);
      half = ap (λ (v : HostView). v.half) same;
      out = ap (λ (v : HostView). v.out) same;
      next = ap (λ (v : HostView). v.next) same;
      apart = subst (λ (v : HostView). AreApart v.heard h.next) (sym same) far;
      since = subst (λ (v : HostView). IsSince v.phase v.heard) (sym same) tt;
      holds = subst (λ (v : HostView). P v.heard v.records (flight_of v.phase)) (sym same)
          (subst (λ k. P (k + 1) h.records []) (sym one) (subst (λ v. P (n + 1) h.records (flight_of v)) opening holds));
    }
mark_told of P h after id event.Opened lowers apart since up (inr (q, ps, flight, mark, least, holds)) (first, m, other, opening, is, number, same) =
    absurd (cons_nil q ps (sym (ap flight_of opening) ∙ flight))
mark_told of P h after id (event.Recorded k) lowers apart since up (inl (n, least, below, is, stale, holds)) (flight, before, last, others, sending, f, same) =
    absurd (stale (subst (λ v. IsClosing 0 (flight_of v) id) (sym sending) (subst (λ v. IsClosing 0 v id) (sym f.all_are) (is_closing 0 id before last others (omega arith) f.mark))))
mark_told of P h after id (event.Recorded k) lowers apart since up (inr (q, qs, is, mark, least, holds)) (flight, before, last, others, sending, f, same) =
    oldest_told P h after id k flight before last others q qs sending (sym (ap flight_of sending) ∙ is) mark f same apart least holds
mark_told of P h after id (event.Late late) lowers apart since up (inl (n, least, below, mark, stale, holds)) (first, opening, is, other, unleft, told) =
    let same_id = same_mark id late is in
    let before = opening_since h.phase first h.heard opening since in
    let late_told = subst (λ v. IsToldLate h first v after) (sym same_id) told in
    let o = older_late of h after first n id apart before least below mark (subst (λ v. IsMarkFrom first h.next v → ⊥) (sym same_id) other) late_told in
    let less = o.0 in
    let far : AreApart (n + 1) h.next = omega (arith, apart, least) in
    let still : n + 1 ≤ first = omega (arith, less) in
    let same = o.1 in
    record {
      on = λ ends. ends;
      up = λ is_down. up (sym (ap (λ (v : HostView). v.phase) same) ∙ is_down);
      half = ap (λ (v : HostView). v.half) same;
      out = ap (λ (v : HostView). v.out) same;
      next = ap (λ (v : HostView). v.next) same;
      apart = subst (λ (v : HostView). AreApart v.heard h.next) (sym same) far;
      since = subst (λ (v : HostView). IsSince v.phase v.heard) (sym same) (subst (λ p. IsSince p (n + 1)) (sym opening) still);
      holds = subst (λ (v : HostView). P v.heard v.records (flight_of v.phase)) (sym same) holds;
    }
mark_told of P h after id (event.Late late) lowers apart since up (inr (q, ps, flight, mark, least, holds)) (first, opening, is, other, unleft, told) =
    absurd (cons_nil q ps (sym (ap flight_of opening) ∙ flight))
mark_told of P h after id (event.Status b) lowers apart since up popped (is, same) = absurd (no_mark id b is)
mark_told of P h after id (event.Condition block) lowers apart since up popped (is, same) = absurd (no_block id block (sym is))
mark_told of P h after id (event.BadAnswer place) lowers apart since up popped turns = absurd turns

-- ## A status, and where the host may hear only marks of older links

status_told : (h after : HostView) (b : ℕ) (e : HostEvent) → Turns h (answer.Status b) e after → (EndsLink e → ⊥) × (after ≡ h)
status_told h after b event.None (ignored, same) = absurd ignored
status_told h after b event.Opened (first, n, id, opening, is, one, same) = absurd (no_status id b is)
status_told h after b (event.Recorded n) (id, is, records) = absurd (no_status id b is)
status_told h after b (event.Late id) (first, opening, is, other, unleft, same) = absurd (no_status id b is)
status_told h after b (event.Status c) (is, same) = (λ ends. ends, same)
status_told h after b (event.Condition block) (is, same) = (λ ends. ends, same)
status_told h after b (event.BadAnswer place) turns = absurd turns

block_told : (h after : HostView) (block : List ℕ) (e : HostEvent) → Turns h (answer.Condition block) e after → (EndsLink e → ⊥) × (after ≡ h)
block_told h after block event.None (ignored, same) = absurd ignored
block_told h after block event.Opened (first, n, id, opening, is, one, same) = absurd (no_block id block is)
block_told h after block (event.Recorded n) (id, is, records) = absurd (no_block id block is)
block_told h after block (event.Late id) (first, opening, is, other, unleft, same) = absurd (no_block id block is)
block_told h after block (event.Status c) (is, same) = (λ ends. ends, same)
block_told h after block (event.Condition other) (is, same) = (λ ends. ends, same)
block_told h after block (event.BadAnswer place) turns = absurd turns

first_is : (a b : ℕ) → Opening a ≡ Opening b → a ≡ b
first_is a b e = cc e

not_open : (first : ℕ) (phase : Phase) (flight : List InFlight) → phase ≡ Opening first → phase ≡ Open flight → ⊥
not_open first phase flight is also = let bad : Opening first ≡ Open flight = sym is ∙ also in cc

older_told : OfNumbers → (h after : HostView) (id : List ℕ) (first n : ℕ) (e : HostEvent) → h.phase ≡ Opening first → AreApart h.heard h.next → h.heard ≤ n → n < first → first ≤ h.next
    → id_of n ≡ id → FlightTurns h id e after → (EndsLink e → ⊥) × (after ≡ heard_late h n)
older_told of h after id first n event.None opening apart least less within mark (ignored, same) = absurd (subst (λ p. IgnoresMark p h.next id) opening ignored)
older_told of h after id first n event.Opened opening apart least less within mark (also, m, other, phase, is, number, same) =
    let begun : also ≡ first = first_is also first (sym phase ∙ opening) in
    absurd (not_opening of first h.next n m id less (omega (arith, apart, least)) mark
    (subst (λ v. IsNumberOf v h.next id m) begun (subst (λ v. IsNumberOf also h.next v m) (sym (same_mark id other is)) number)))
older_told of h after id first n (event.Recorded k) opening apart least less within mark (flight, before, last, others, sending, f, same) = absurd (not_open first h.phase flight opening sending)
older_told of h after id first n (event.Late late) opening apart least less within mark (also, phase, is, other, unleft, told) =
    let begun : also ≡ first = first_is also first (sym phase ∙ opening) in
    let same_id = same_mark id late is in
    let late_told = subst (λ v. IsToldLate h first v after) (sym same_id) (subst (λ v. IsToldLate h v late after) begun told) in
    let none = subst (λ v. IsMarkFrom first h.next v → ⊥) (sym same_id) (subst (λ v. IsMarkFrom v h.next late → ⊥) begun other) in
    (λ ends. ends, (older_late of h after first n id apart (omega (arith, least, less)) least (omega (arith, less, within)) mark none late_told).1)
older_told of h after id first n (event.Status b) opening apart least less within mark (is, same) = absurd (no_mark id b is)
older_told of h after id first n (event.Condition block) opening apart least less within mark (is, same) = absurd (no_block id block (sym is))
older_told of h after id first n (event.BadAnswer place) opening apart least less within mark turns = absurd turns

-- ## The four ways

abbrev pub InWay : ℕ → Sheet → List ℕ → List (List ℕ) → Option (List ℕ) → List Answer → Phase → List ℕ → ℕ → ℕ → List (List Command) → List InFlight → List Answer → Type 0
InWay width sheet half ended live waiting phase out next heard records left answers = Way width phase out next heard records sheet half ended live (answered_marks (answers ++ waiting))

stays : (width : ℕ) (sheet : Sheet) (half : List ℕ) (ended : List (List ℕ)) (live : Option (List ℕ)) (waiting : List Answer) (h now after : HostView) (others : List Answer)
    (e : HostEvent) → (EndsLink e → ⊥) → h.phase ≢ Down → now.phase ≡ h.phase → now.half ≡ h.half → after ≡ now
    → InWay width sheet half ended live waiting now.phase now.out now.next now.heard now.records now.left others
    → Turned (InWay width sheet half ended live waiting) h after others e
stays width sheet half ended live waiting h now after others e on up phase still same w = record {
  on = on;
  up = λ is_down. up (sym (ap (λ (v : HostView). v.phase) same ∙ phase) ∙ is_down);
  half = ap (λ (v : HostView). v.half) same ∙ still;
  holds = subst (λ (v : HostView). InWay width sheet half ended live waiting v.phase v.out v.next v.heard v.records v.left others) (sym same) w;
}

mark_way : (width : ℕ) → OfNumbers → (sheet : Sheet) (half : List ℕ) (ended : List (List ℕ)) (live : Option (List ℕ)) (waiting : List Answer) (h after : HostView)
    (id : List ℕ) (others : List Answer) (e : HostEvent) → h.phase ≢ Down → InWay width sheet half ended live waiting h.phase h.out h.next h.heard h.records h.left (answer.Mark id ∷ others)
    → FlightTurns h id e after → Turned (InWay width sheet half ended live waiting) h after others e
mark_way width of sheet half ended None waiting h after id others e up (inl w) turns =
    let rest = answered_marks (others ++ waiting) in
    let t = mark_told of (λ k rs f. Owed width k rs f h.next sheet.items rest) h after id e (λ m n rs f less o. owed_from width m n rs f h.next sheet.items rest less o) w.apart w.since up
    (owed_turn width h.heard of h.records (flight_of h.phase) h.next sheet.items id rest w.apart w.owed) turns in
    record {
      on = t.on;
      up = t.up;
      half = t.half;
      holds = inl (record {
        up = t.up;
        only = w.only;
        apart = subst (AreApart after.heard) (sym t.next) t.apart;
        since = t.since;
        owed = subst (λ n. Owed width after.heard after.records (flight_of after.phase) n sheet.items rest) (sym t.next) t.holds;
      });
    }
mark_way width of sheet half ended None waiting h after id others e up (inr w) turns = absurd (up w.down)
mark_way width of sheet half ended (Some bytes) waiting h after id others e up (inl w) turns =
    let rest = answered_marks (others ++ waiting) in
    let t = mark_told of (λ k rs f. Course width k rs f h.next w.kept w.ran rest w.due) h after id e
    (λ m n rs f less c. course_from width m n rs f h.next w.kept w.ran rest w.due less c) w.apart w.since up
    (course_turn width h.heard of h.records (flight_of h.phase) h.next w.kept w.ran id rest w.due w.apart w.course) turns in
    record {
      on = t.on;
      up = t.up;
      half = t.half;
      holds = inl (record {
        up = t.up;
        only = w.only;
        apart = subst (AreApart after.heard) (sym t.next) t.apart;
        since = t.since;
        kept = w.kept;
        ran = w.ran;
        due = w.due;
        sheet_is = w.sheet_is;
        aligned = subst (λ v. Reads (half ++ (bytes ++ v)) w.due []) (sym t.out) w.aligned;
        course = subst (λ n. Course width after.heard after.records (flight_of after.phase) n w.kept w.ran rest w.due) (sym t.next) t.holds;
      });
    }
mark_way width of sheet half ended (Some bytes) waiting h after id others e up (inr w) turns =
    let (n, least, mark, rest) = w.known in
    let reach = row_within (n + 1) w.reach (answered_marks (others ++ waiting)) rest in
    let last = given_within w.reach w.first half ended w.given_up in
    let less : n < w.first = omega (arith, reach, last) in
    let apart = w.apart in
    let t = older_told of h after id w.first n e w.opening apart least less w.within mark turns in
    stays width sheet half ended (Some bytes) waiting h (heard_late h n) after others e t.0 up refl refl t.1 (inr (record {
      first = w.first;
      opening = w.opening;
      within = w.within;
      apart = omega (arith, apart, least);
      stands = w.stands;
      reach = w.reach;
      known = rest;
      given_up = w.given_up;
      newest = w.newest;
    }))

-- ## Receipts that are left

-- While no opening mark is answered an answer to a mark leaves the line on its way: it is this one.
heard_way : (width : ℕ) → OfNumbers → (phase : Phase) (out : List ℕ) (next heard : ℕ) (records : List (List Command)) (sheet : Sheet) (half : List ℕ) (ended : List (List ℕ))
    (live : Option (List ℕ)) (id : List ℕ) (rest : List (List ℕ)) (first n : ℕ) → phase ≡ Opening first → (IsMarkFrom first next id → ⊥) → heard ≤ n → n < next → id_of n ≡ id
    → Way width phase out next heard records sheet half ended live (id ∷ rest) → Way width phase out next (n + 1) records sheet half ended live rest
heard_way width of phase out next heard records sheet half ended None id rest first n is other least below mark (inl w) =
    elim (owed_turn width heard of records (flight_of phase) next sheet.items id rest w.apart w.owed) [
      | inl (m, from, within, same, stale, owed) ↦
          let apart = w.apart in
          let one = one_number of heard next m n apart from within least below (same ∙ sym mark) in
          let since = opening_since phase first heard is w.since in
          let less = is_older heard next first n id apart since below mark other in
          let still : n + 1 ≤ first = omega (arith, less) in
          inl (record {
            up = w.up;
            only = w.only;
            apart = omega (arith, apart, least);
            since = subst (λ p. IsSince p (n + 1)) (sym is) still;
            owed = subst (λ k. Owed width (k + 1) records (flight_of phase) next sheet.items rest) one owed;
          })
      | inr (q, ps, flight, same, from, owed) ↦ absurd (cons_nil q ps (sym (ap flight_of is) ∙ flight))
    ]
heard_way width of phase out next heard records sheet half ended None id rest first n is other least below mark (inr w) =
    absurd (let bad : Opening first ≡ Down = sym is ∙ w.down in cc)
heard_way width of phase out next heard records sheet half ended (Some bytes) id rest first n is other least below mark (inl w) =
    elim (course_turn width heard of records (flight_of phase) next w.kept w.ran id rest w.due w.apart w.course) [
      | inl (m, from, within, same, stale, course) ↦
          let apart = w.apart in
          let one = one_number of heard next m n apart from within least below (same ∙ sym mark) in
          let since = opening_since phase first heard is w.since in
          let less = is_older heard next first n id apart since below mark other in
          let still : n + 1 ≤ first = omega (arith, less) in
          inl (record {
            up = w.up;
            only = w.only;
            apart = omega (arith, apart, least);
            since = subst (λ p. IsSince p (n + 1)) (sym is) still;
            kept = w.kept;
            ran = w.ran;
            due = w.due;
            sheet_is = w.sheet_is;
            aligned = w.aligned;
            course = subst (λ k. Course width (k + 1) records (flight_of phase) next w.kept w.ran rest w.due) one course;
          })
      | inr (q, ps, flight, same, from, course) ↦ absurd (cons_nil q ps (sym (ap flight_of is) ∙ flight))
    ]
heard_way width of phase out next heard records sheet half ended (Some bytes) id rest first n is other least below mark (inr w) =
    let (m, from, same, row) = w.known in
    let apart = w.apart in
    let reach = row_within (m + 1) w.reach rest row in
    let last = given_within w.reach w.first half ended w.given_up in
    let within = w.within in
    let one = one_number of heard next m n apart from (omega (arith, reach, last, within)) least below (same ∙ sym mark) in
    inr (record {
      first = w.first;
      opening = w.opening;
      within = within;
      apart = omega (arith, apart, least);
      stands = w.stands;
      reach = w.reach;
      known = subst (λ k. Row (k + 1) w.reach rest) one row;
      given_up = w.given_up;
      newest = w.newest;
    })

-- The receipts that are recorded stand, and the closing mark of the last one has a number that was used.
abbrev pub LateStands : ℕ → Sheet → HostView → List ℕ → Type 0
LateStands width sheet h id =
    (first : ℕ) (before : List InFlight) (last : InFlight) (others : List InFlight) → h.phase ≡ Opening first → h.left ≡ before ++ last ∷ others → h.heard ≤ last.number → last.mark ≡ id
    → Stands width (h.records ++ receipts_of (before ++ last ∷ [])) sheet.items × (last.number < h.next) × (id_of last.number ≡ id)

late_way : (width : ℕ) → OfNumbers → (sheet : Sheet) (half : List ℕ) (ended : List (List ℕ)) (live : Option (List ℕ)) (waiting : List Answer) (h after : HostView)
    (id : List ℕ) (others : List Answer) (n first : ℕ) (before : List InFlight) (last : InFlight) (rest : List InFlight) → h.phase ≡ Opening first → (IsMarkFrom first h.next id → ⊥)
    → IsFirstWith h.heard id h.left before last rest → LateStands width sheet h id → after ≡ recorded_late h before last rest
    → InWay width sheet half ended live waiting h.phase h.out h.next h.heard h.records h.left (answer.Mark id ∷ others) → Turned (InWay width sheet half ended live waiting) h after others (event.Recorded n)
late_way width of sheet half ended live waiting h after id others n first before last rest is other f stand same w =
    let marks = answered_marks (others ++ waiting) in
    let s = stand first before last rest is f.all_are f.is_out f.mark in
    let on = heard_way width of h.phase h.out h.next h.heard h.records sheet half ended live id marks first last.number is other f.is_out s.1 s.2 w in
    let now = recorded_way width h.phase h.out h.next (last.number + 1) h.records (h.records ++ receipts_of (before ++ last ∷ [])) sheet half ended live marks (ap flight_of is) s.0 on in
    record {
      on = λ ends. ends;
      up = λ is_down. let bad : Opening first ≡ Down = sym is ∙ sym (ap (λ (v : HostView). v.phase) same) ∙ is_down in cc;
      half = ap (λ (v : HostView). v.half) same;
      holds = subst (λ (v : HostView). InWay width sheet half ended live waiting v.phase v.out v.next v.heard v.records v.left others) (sym same) now;
    }

-- An answer to a mark: one that records receipts that are left, or another.
mark_turns : (width : ℕ) → OfNumbers → (sheet : Sheet) (half : List ℕ) (ended : List (List ℕ)) (live : Option (List ℕ)) (waiting : List Answer) (h after : HostView)
    (id : List ℕ) (others : List Answer) (e : HostEvent) → h.phase ≢ Down → LateStands width sheet h id
    → InWay width sheet half ended live waiting h.phase h.out h.next h.heard h.records h.left (answer.Mark id ∷ others)
    → Turns h (answer.Mark id) e after → Turned (InWay width sheet half ended live waiting) h after others e
mark_turns width of sheet half ended live waiting h after id others event.None up stand w turns = mark_way width of sheet half ended live waiting h after id others event.None up w turns
mark_turns width of sheet half ended live waiting h after id others event.Opened up stand w turns = mark_way width of sheet half ended live waiting h after id others event.Opened up w turns
mark_turns width of sheet half ended live waiting h after id others (event.Recorded n) up stand w (also, is, r) =
    let same_id : also ≡ id = sym (same_mark id also is) in
    elim r.way [
      | inl (flight, sending, f, same) ↦
          mark_way width of sheet half ended live waiting h after id others (event.Recorded n) up w
          (flight, r.before, r.last, r.others, sending, subst (λ v. IsFirstWith 0 v flight r.before r.last r.others) same_id f, same)
      | inr (first, opening, other, f, same) ↦
          late_way width of sheet half ended live waiting h after id others n first r.before r.last r.others opening
          (subst (λ v. IsMarkFrom first h.next v → ⊥) same_id other) (subst (λ v. IsFirstWith h.heard v h.left r.before r.last r.others) same_id f) stand same w
    ]
mark_turns width of sheet half ended live waiting h after id others (event.Late late) up stand w turns =
    mark_way width of sheet half ended live waiting h after id others (event.Late late) up w turns
mark_turns width of sheet half ended live waiting h after id others (event.Status b) up stand w turns = mark_way width of sheet half ended live waiting h after id others (event.Status b) up w turns
mark_turns width of sheet half ended live waiting h after id others (event.Condition block) up stand w turns =
    mark_way width of sheet half ended live waiting h after id others (event.Condition block) up w turns
mark_turns width of sheet half ended live waiting h after id others (event.BadAnswer place) up stand w turns = absurd turns

-- An answer to a mark records receipts that are left only if they stand.
abbrev pub StandsFor : ℕ → Sheet → HostView → Answer → Type 0
StandsFor width sheet h (answer.Mark id) = LateStands width sheet h id
StandsFor width sheet h a = Unit {0}

pub turn_way : (width : ℕ) → OfNumbers → (sheet : Sheet) (half : List ℕ) (ended : List (List ℕ)) (live : Option (List ℕ)) (waiting : List Answer) (h after : HostView)
    (a : Answer) (others : List Answer) (e : HostEvent) → h.phase ≢ Down → StandsFor width sheet h a
    → InWay width sheet half ended live waiting h.phase h.out h.next h.heard h.records h.left (a ∷ others)
    → Turns h a e after → Turned (InWay width sheet half ended live waiting) h after others e
turn_way width of sheet half ended live waiting h after (answer.Status b) others e up stand w turns =
    let t = status_told h after b e turns in stays width sheet half ended live waiting h h after others e t.0 up refl refl t.1 w
turn_way width of sheet half ended live waiting h after (answer.Condition block) others e up stand w turns =
    let t = block_told h after block e turns in stays width sheet half ended live waiting h h after others e t.0 up refl refl t.1 w
turn_way width of sheet half ended live waiting h after (answer.Mark id) others e up stand w turns =
    mark_turns width of sheet half ended live waiting h after id others e up stand w turns
