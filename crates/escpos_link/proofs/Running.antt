-- Events that happened one after another.
use Rattle.std.proofs.Common.{inl, inr, None, ◌≡◌, ◌+◌, ℕ, List, [], ◌∷◌, ◌++◌, length, take, true, false, Some, Result, Ok, Err, IfErr, refl, sym, ◌∙◌, ap, subst, append_assoc, append-nil, length-append, arith}
use Rattle.std.specs.Prelude.{◌<◌, ◌≤◌, slice_get, is_err, IfOk, OnOk, OnErr}
use Rattle.escpos_command.specs.declared.command.Command.{Command}
use Rattle.escpos_host.specs.declared.host.HostError.TheVariants as error
use Rattle.escpos_host.specs.declared.host.HostState.TheVariants as state
use Rattle.escpos_host.specs.Machine.{HasMark, Phase, Down, Opening, Open, state_of}
use Rattle.escpos_link.specs.declared.event.Event.TheVariants as event
use Rattle.escpos_link.specs.declared.event.Refusal.{Refusal}
use Rattle.escpos_link.specs.declared.event.Refusal.TheVariants as refusal
use Rattle.escpos_link.specs.declared.event.Event.{Event}
use Rattle.escpos_link.specs.declared.event.Note.{Note}
use Rattle.escpos_link.specs.declared.event.Refused.{Refused}
use Rattle.escpos_link.specs.declared.sim.RunStop.{RunStop}
use Rattle.escpos_link.specs.EventTable.{IsRefused, Refuses}
use Rattle.escpos_link.specs.Line.{LineView}
use Rattle.escpos_link.specs.Steps.{Happened, Happens, IsStopped, StopsIn}
use Rattle.escpos_link.specs.Straight.{StoppedStraight, exchange, opening}

pub one_more : (before : List Event) (l now after : LineView) (e : Event) (n : Note) → Happened l before now → Happens e now n after → Happened l (before ++ e ∷ []) after
one_more [] l now after e n same happens = (n, after, subst (λ v. Happens e v n after) same happens, refl)
one_more (f ∷ before) l now after e n (m, next, first, rest) happens = (m, next, first, one_more before next now after e n rest happens)

pub joined : (before later : List Event) (l now after : LineView) → Happened l before now → Happened now later after → Happened l (before ++ later) after
joined [] later l now after same rest = subst (λ v. Happened v later after) same rest
joined (f ∷ before) later l now after (m, next, first, some) rest = (m, next, first, joined before later next now after some rest)

-- Of all events those that are left haven't happened, and the others have.
pub record SoFar (l : LineView) (all left : List Event) (now : LineView) : Type 0 where
  pub before : List Event
  pub split : all ≡ before ++ left
  pub happened : Happened l before now

pub begin : (l : LineView) (all : List Event) → SoFar l all all l
begin l all = record { before = []; split = refl; happened = refl }

pub go_on : (l now after : LineView) (all left later : List Event) (e : Event) (n : Note) → SoFar l all left now → left ≡ e ∷ later → Happens e now n after → SoFar l all later after
go_on l now after all left later e n s first happens = record {
  before = s.before ++ e ∷ [];
  split = s.split ∙ ap (λ v. s.before ++ v) first ∙ sym (append_assoc s.before (e ∷ []) later);
  happened = one_more s.before l now after e n s.happened happens;
}

pub all_done : (l now : LineView) (all left : List Event) → SoFar l all left now → left ≡ [] → Happened l all now
all_done l now all left s none = subst (λ es. Happened l es now) (sym (s.split ∙ ap (λ v. s.before ++ v) none ∙ append-nil s.before)) s.happened

at_end : (before later : List Event) (e : Event) → slice_get (before ++ e ∷ later) (length before) ≡ Some e
at_end [] later e = refl
at_end (f ∷ before) later e = at_end before later e

up_to : (before later : List Event) → take (length before) (before ++ later) ≡ before
up_to [] later = refl
up_to (f ∷ before) later = ap (λ v. f ∷ v) (up_to before later)

pub stopped : (l now after : LineView) (all left later : List Event) (e : Event) (stop : RunStop) → SoFar l all left now → left ≡ e ∷ later → stop.done + length later + 1 ≡ length all
    → IsRefused e now stop.refused after → IsStopped l all stop after
stopped l now after all left later e stop s first count refused =
    let split : all ≡ s.before ++ e ∷ later = s.split ∙ ap (λ v. s.before ++ v) first in
    let done : stop.done ≡ length s.before = omega (arith, count, ap length split, length-append s.before (e ∷ later)) in
    record {
      event = e;
      before = now;
      next = ap (slice_get all) done ∙ ap (λ es. slice_get es (length s.before)) split ∙ at_end s.before later e;
      happened = subst (λ es. Happened l es now) (sym (ap (λ k. take k all) done ∙ ap (take (length s.before)) split ∙ up_to s.before (e ∷ later))) s.happened;
      refused = refused;
    }

-- ## Refusals

pub on_ok : {A B : Type 0} {P : Type 0} (r : Result A B) → is_err r ≡ false → OnOk r P → P
on_ok (Ok a) is h = h
on_ok (Err b) bad h = absurd cc

-- Of the events of an exchange only those that move bytes may be refused, and only because an allocation failed.
pub no_answer_refused : (k : ℕ) (l : LineView) (refused : Refused) (after : LineView) → IsRefused (event.Answer k) l refused after → ⊥
no_answer_refused k l refused after is = is.reason

-- A link is opened where there is none, and there is a mark: it is refused only out of memory.
pub opens : (l : LineView) → l.host.phase ≡ Down → HasMark l.host → (why : Refusal) → Refuses event.LinkUp l why → why ≡ refusal.Memory
opens l is_down few why (error.NotReady, is, refuses) = absurd refuses
opens l is_down few why (error.MarksUsedUp, is, refuses) = absurd (omega (arith, few, refuses.1))
opens l is_down few why (error.AlreadyUp, is, refuses) = absurd (refuses is_down)
opens l is_down few why (error.Memory, is, refuses) = is
opens l is_down few why (error.InFlightFull, is, refuses) = absurd refuses

-- The same for a receipt, where the host is ready.
pub submits : (l : LineView) (receipt : List Command) → l.host.phase ≡ Open [] → HasMark l.host → (why : Refusal) → Refuses (event.Submit receipt) l why → why ≡ refusal.Memory
submits l receipt ready few why (error.NotReady, is, refuses) = absurd (refuses [] ready)
submits l receipt ready few why (error.MarksUsedUp, is, (flight, phase, some, used)) = absurd (omega (arith, few, used))
submits l receipt ready few why (error.AlreadyUp, is, refuses) = absurd refuses
submits l receipt ready few why (error.Memory, is, refuses) = is
submits l receipt ready few why (error.InFlightFull, is, (flight, phase, full)) =
    let none : flight ≡ [] = cc (sym phase ∙ ready) in absurd (omega (arith, full, ap length none))

-- What is known of a result that is an error, and of one that isn't.
pub of_err : {A B : Type 0} {P : B → Type 0} (r : Result A B) → is_err r ≡ true → IfErr r P → (x : B) × P x
of_err (Ok a) bad h = absurd cc
of_err (Err b) is h = (b, h)

pub of_ok : {A B : Type 0} {P : A → Type 0} (r : Result A B) → is_err r ≡ false → IfOk r P → (x : A) × P x
of_ok (Ok a) is h = (a, h)
of_ok (Err b) bad h = absurd cc

-- The first of some events happened, and the next one was refused.
pub stops_at : (l before after : LineView) (done others : List Event) (e : Event) (refused : Refused) → Happened l done before
    → ((why : Refusal) → Refuses e before why → why ≡ refusal.Memory) → IsRefused e before refused after → StopsIn (done ++ e ∷ others) l after
stops_at l before after done others e refused happened memory is =
    record {
      done = done;
      event = e;
      others = others;
      before = before;
      split = refl;
      happened = happened;
      refused = subst (Refuses e before) (memory refused.why is.reason) is.reason;
      memory = memory;
      leaves = is.line;
    }

-- The same after other events.
pub stops_later : (l now after : LineView) (before events : List Event) → Happened l before now → StopsIn events now after → StopsIn (before ++ events) l after
stops_later l now after before events happened s = record {
  done = before ++ s.done;
  event = s.event;
  others = s.others;
  before = s.before;
  split = ap (λ v. before ++ v) s.split ∙ sym (append_assoc before s.done (s.event ∷ s.others));
  happened = joined before s.done l now s.before happened s.happened;
  refused = s.refused;
  memory = s.memory;
  leaves = s.leaves;
}

-- The same where more events were to follow.
pub stops_before : (l after : LineView) (events more : List Event) → StopsIn events l after → StopsIn (events ++ more) l after
stops_before l after events more s = record {
  done = s.done;
  event = s.event;
  others = s.others ++ more;
  before = s.before;
  split = ap (λ v. v ++ more) s.split ∙ append_assoc s.done (s.event ∷ s.others) more;
  happened = s.happened;
  refused = s.refused;
  memory = s.memory;
  leaves = s.leaves;
}

pub on_err : {A B : Type 0} {P Q : Type 0} (r : Result A B) → OnErr r P → (P → Q) → OnErr r Q
on_err (Ok a) h f = tt
on_err (Err b) h f = f h

pub err_is : {A B : Type 0} {P : Type 0} (r : Result A B) → is_err r ≡ true → OnErr r P → P
err_is (Ok a) bad h = absurd cc
err_is (Err b) is h = h

pub is_down : (p : Phase) → state_of p ≡ state.Down → p ≡ Down
is_down Down e = refl
is_down (Opening first) e = cc e
is_down (Open []) e = cc e
is_down (Open (q ∷ qs)) e = cc e

-- ## Stops on the straight way

pub stopped_opening : (l after : LineView) (receipt : List Command) → StopsIn (opening l.host.phase) l after → StoppedStraight l receipt (Some receipt) after
unfolding stops_before
stopped_opening l after receipt s =
    let few : length s.done ≤ length (opening l.host.phase) = omega (arith, ap length s.split, length-append s.done (s.event ∷ s.others)) in
    record { stops = stops_before l after (opening l.host.phase) (event.Submit receipt ∷ exchange) s; receipt_back = inl (refl, few) }

pub stopped_submitting : (l m after : LineView) (receipt : List Command) (refused : Refused) → Happened l (opening l.host.phase) m → m.host.phase ≡ Open [] → HasMark m.host
    → IsRefused (event.Submit receipt) m refused after → StoppedStraight l receipt refused.receipt after
unfolding stops_at
stopped_submitting l m after receipt refused opened ready few is =
    let same : length (opening l.host.phase) ≤ length (opening l.host.phase) = omega arith in
    record { stops = stops_at l m after (opening l.host.phase) exchange (event.Submit receipt) refused opened (submits m receipt ready few) is; receipt_back = inl (is.receipt, same) }

pub stopped_sending : (l m k after : LineView) (receipt : List Command) (n : Note) → Happened l (opening l.host.phase) m → Happens (event.Submit receipt) m n k → StopsIn exchange k after
    → StoppedStraight l receipt None after
unfolding stops_later
stopped_sending l m k after receipt n opened submitted s =
    let first = opening l.host.phase in
    let before = one_more first l m k (event.Submit receipt) n opened submitted in
    let stops = stops_later l k after (first ++ event.Submit receipt ∷ []) exchange before s in
    let more : length first < length ((first ++ event.Submit receipt ∷ []) ++ s.done) =
    omega (arith, length-append (first ++ event.Submit receipt ∷ []) s.done, length-append first (event.Submit receipt ∷ [])) in
    record {
      stops = record {
        done = stops.done;
        event = stops.event;
        others = stops.others;
        before = stops.before;
        split = sym (append_assoc first (event.Submit receipt ∷ []) exchange) ∙ stops.split;
        happened = stops.happened;
        refused = stops.refused;
        memory = stops.memory;
        leaves = stops.leaves;
      };
      receipt_back = inr (refl, more);
    }
