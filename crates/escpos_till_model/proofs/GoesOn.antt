-- Where bytes are taken out, or answers are heard by a host of whose older links nothing is left: receipts in flight are recorded, in order, or
-- lost with their link; nothing else is recorded, and no mark number is used.
use Rattle.std.proofs.Common.{ℕ, ◌≡◌, inl, inr, List, [], ◌∷◌, ◌++◌, refl, sym, ◌∙◌, ap, subst, append-nil, append_assoc}
use Rattle.escpos_command.specs.declared.answer.Answer.{Answer}
use Rattle.escpos_command.specs.declared.command.Command.{Command}
use Rattle.escpos_host.specs.declared.host.HostEvent.{HostEvent}
use Rattle.escpos_host.specs.declared.host.HostEvent.TheVariants as heard
use Rattle.escpos_host.specs.Heard.{Grows, HearsAll, HearsByte, HearsInTurn, IsHeard, Misfits, Turns, last_of, opened, recorded, with_half}
use Rattle.escpos_host.specs.Machine.{HostView, InFlight, Phase, Down, Opening, Open, gone_down, in_flight, receipts_of, taken_out}
use Rattle.escpos_host.proofs.Recording.{Told, none_has, told}
use Rattle.escpos_link.specs.declared.event.Event.TheVariants as event
use Rattle.escpos_link.specs.declared.event.Note.{Note}
use Rattle.escpos_link.specs.EventTable.{After, heard_to}
use Rattle.escpos_link.specs.Line.{LineView}
use Rattle.escpos_link.proofs.Promising.{receipts_join}

-- While the host opens its link nothing is left of an older one.
abbrev pub NothingLeft : HostView → Type 0
NothingLeft h = (first : ℕ) → h.phase ≡ Opening first → h.left ≡ []

-- Of the receipts in flight the first ones are recorded, and the last ones are lost.
pub record GoesOn (h after : HostView) : Type 0 where
  pub grown : List (List Command)
  pub lost : List (List Command)
  pub records : after.records ≡ h.records ++ grown
  pub flight : in_flight h.phase ≡ grown ++ (in_flight after.phase ++ lost)
  pub next : after.next ≡ h.next
  pub down : h.phase ≡ Down → after.phase ≡ Down

stays : (h : HostView) → GoesOn h h
stays h = record {
  grown = [];
  lost = [];
  records = sym (append-nil h.records);
  flight = sym (append-nil (in_flight h.phase));
  next = refl;
  down = λ e. e;
}

pub stays_same : (h after : HostView) → after ≡ h → GoesOn h after
stays_same h after same = subst (GoesOn h) (sym same) (stays h)

regroup : (a b c d e : List (List Command)) → a ++ ((b ++ (c ++ d)) ++ e) ≡ (a ++ b) ++ (c ++ (d ++ e))
regroup a b c d e = simp append_assoc

then_on : (a b c : HostView) → GoesOn a b → GoesOn b c → GoesOn a c
then_on a b c x y = record {
  grown = x.grown ++ y.grown;
  lost = y.lost ++ x.lost;
  records = y.records ∙ ap (λ rs. rs ++ y.grown) x.records ∙ append_assoc a.records x.grown y.grown;
  flight = x.flight ∙ ap (λ f. x.grown ++ (f ++ x.lost)) y.flight ∙ regroup x.grown y.grown (in_flight c.phase) y.lost x.lost;
  next = y.next ∙ x.next;
  down = λ e. y.down (x.down e);
}

pub goes_down : (h : HostView) → GoesOn h (gone_down h)
goes_down h = record {
  grown = [];
  lost = in_flight h.phase;
  records = sym (append-nil h.records);
  flight = refl;
  next = refl;
  down = λ e. refl;
}

-- ## Answers

opening_is_up : (phase : Phase) (first : ℕ) → phase ≡ Opening first → phase ≡ Down → ⊥
opening_is_up phase first is e = let bad : Opening first ≡ Down = sym is ∙ e in cc

open_is_up : (phase : Phase) (flight : List InFlight) → phase ≡ Open flight → phase ≡ Down → ⊥
open_is_up phase flight is e = let bad : Open flight ≡ Down = sym is ∙ e in cc

is_opened : (h : HostView) (first n : ℕ) → h.phase ≡ Opening first → GoesOn h (opened h n)
is_opened h first n is = record {
  grown = [];
  lost = [];
  records = sym (append-nil h.records);
  flight = ap in_flight is;
  next = refl;
  down = λ e. absurd (opening_is_up h.phase first is e);
}

is_recorded : (h : HostView) (before : List InFlight) (p : InFlight) (ps : List InFlight) → h.phase ≡ Open (before ++ p ∷ ps) → GoesOn h (recorded h before p ps)
is_recorded h before p ps is = record {
  grown = receipts_of (before ++ p ∷ []);
  lost = [];
  records = refl;
  flight = ap in_flight (is ∙ ap Open (sym (append_assoc before (p ∷ []) ps))) ∙ receipts_join (before ++ p ∷ []) ps
      ∙ ap (λ rs. receipts_of (before ++ p ∷ []) ++ rs) (sym (append-nil (in_flight (Open ps))));
  next = refl;
  down = λ e. absurd (open_is_up h.phase (before ++ p ∷ ps) is e);
}

-- An answer to a mark of an older link is told.
told_on : (h after : HostView) → Told h after → GoesOn h after
told_on h after t = record {
  grown = [];
  lost = [];
  records = t.records ∙ sym (append-nil h.records);
  flight = ap in_flight (sym t.phase) ∙ sym (append-nil (in_flight after.phase));
  next = t.keeps.next;
  down = λ e. t.phase ∙ e;
}

opening_is_open : (first : ℕ) (flight : List InFlight) → Open flight ≡ Opening first → ⊥
opening_is_open first flight e = cc e

turned : (h after : HostView) (a : Answer) (e : HostEvent) → NothingLeft h → Turns h a e after → GoesOn h after × NothingLeft after
turned h after a heard.None nothing (ignored, same) = (stays_same h after same, subst NothingLeft (sym same) nothing)
turned h after a heard.Opened nothing (first, n, id, is, answer, mark, same) =
    (subst (GoesOn h) (sym same) (is_opened h first n is), subst NothingLeft (sym same) (λ other opening. absurd (opening_is_open other [] opening)))
turned h after a (heard.Recorded number) nothing (id, answer, r) = elim r.way [
  | inl (flight, is, f, same) ↦ (
    subst (GoesOn h) (sym same) (is_recorded h r.before r.last r.others (is ∙ ap Open f.all_are)),
    subst NothingLeft (sym same) (λ other opening. absurd (opening_is_open other r.others opening)),
  )
  | inr (first, is, older, f, same) ↦ absurd (none_has r.before r.others r.last (sym (nothing first is) ∙ f.all_are))
]
turned h after a (heard.Status byte) nothing (answer, same) = (stays_same h after same, subst NothingLeft (sym same) nothing)
turned h after a (heard.Condition block) nothing (answer, same) = (stays_same h after same, subst NothingLeft (sym same) nothing)
turned h after a (heard.Late id) nothing (first, is, answer, other, unleft, late) =
    let t = told h after first id is late in (told_on h after t, λ other opening. t.left ∙ nothing other (sym t.phase ∙ opening))
turned h after a (heard.BadAnswer place) nothing turns = absurd turns

with_half_on : (h : HostView) (half : List ℕ) → GoesOn h (with_half h half)
with_half_on h half = record {
  grown = [];
  lost = [];
  records = sym (append-nil h.records);
  flight = sym (append-nil (in_flight h.phase));
  next = refl;
  down = λ e. e;
}

grows_on : (h after : HostView) (byte : ℕ) (e : HostEvent) → Grows h byte e after → GoesOn h after
grows_on h after byte heard.None (same, half) = subst (GoesOn h) (sym same) (with_half_on h (h.half ++ byte ∷ []))
grows_on h after byte heard.Opened grows = absurd grows
grows_on h after byte (heard.Recorded number) grows = absurd grows
grows_on h after byte (heard.Status b) grows = absurd grows
grows_on h after byte (heard.Condition b) grows = absurd grows
grows_on h after byte (heard.Late id) grows = absurd grows
grows_on h after byte (heard.BadAnswer place) grows = absurd grows

grows_left : (h after : HostView) (byte : ℕ) (e : HostEvent) → NothingLeft h → Grows h byte e after → NothingLeft after
grows_left h after byte heard.None nothing (same, half) = subst NothingLeft (sym same) nothing
grows_left h after byte heard.Opened nothing grows = absurd grows
grows_left h after byte (heard.Recorded number) nothing grows = absurd grows
grows_left h after byte (heard.Status b) nothing grows = absurd grows
grows_left h after byte (heard.Condition b) nothing grows = absurd grows
grows_left h after byte (heard.Late id) nothing grows = absurd grows
grows_left h after byte (heard.BadAnswer place) nothing grows = absurd grows

down_left : (h : HostView) → NothingLeft (gone_down h)
down_left h first opening = absurd (let bad : Down ≡ Opening first = opening in cc)

misfits_left : (h after : HostView) (byte at : ℕ) (e : HostEvent) → Misfits h byte at e after → NothingLeft after
misfits_left h after byte at heard.None misfits = absurd misfits
misfits_left h after byte at heard.Opened misfits = absurd misfits
misfits_left h after byte at (heard.Recorded number) misfits = absurd misfits
misfits_left h after byte at (heard.Status b) misfits = absurd misfits
misfits_left h after byte at (heard.Condition b) misfits = absurd misfits
misfits_left h after byte at (heard.Late id) misfits = absurd misfits
misfits_left h after byte at (heard.BadAnswer place) (is, viable, same) = subst NothingLeft (sym same) (down_left h)

misfits_on : (h after : HostView) (byte at : ℕ) (e : HostEvent) → Misfits h byte at e after → GoesOn h after
misfits_on h after byte at heard.None misfits = absurd misfits
misfits_on h after byte at heard.Opened misfits = absurd misfits
misfits_on h after byte at (heard.Recorded number) misfits = absurd misfits
misfits_on h after byte at (heard.Status b) misfits = absurd misfits
misfits_on h after byte at (heard.Condition b) misfits = absurd misfits
misfits_on h after byte at (heard.Late id) misfits = absurd misfits
misfits_on h after byte at (heard.BadAnswer place) (is, viable, same) = subst (GoesOn h) (sym same) (goes_down h)

byte_on : (h after : HostView) (byte at : ℕ) (e : HostEvent) → NothingLeft h → HearsByte h byte at e after → GoesOn h after × NothingLeft after
byte_on h after byte at e nothing (inl grows) = (grows_on h after byte e grows, grows_left h after byte e nothing grows)
byte_on h after byte at e nothing (inr (inl misfits)) = (misfits_on h after byte at e misfits, misfits_left h after byte at e misfits)
byte_on h after byte at e nothing (inr (inr (a, spelled, turns))) =
    let t = turned (with_half h []) after a e nothing turns in (then_on h (with_half h []) after (with_half_on h []) t.0, t.1)

heard_on : (h after : HostView) (bytes : List ℕ) (count : ℕ) (e : HostEvent) → NothingLeft h → IsHeard h bytes count e after → GoesOn h after × NothingLeft after
heard_on h after bytes count e nothing (inl (none, all, passed, same)) =
    (subst (GoesOn h) (sym same) (with_half_on h after.half), subst NothingLeft (sym same) nothing)
heard_on h after bytes count e nothing (inr (at, half, within, some, is_count, passed, heard)) =
    let b = byte_on (with_half h half) after _ at e nothing heard in (then_on h (with_half h half) after (with_half_on h half) b.0, b.1)

in_turn_on : (events : List HostEvent) (h after : HostView) (bytes : List ℕ) (consumed : ℕ) → NothingLeft h → HearsInTurn h bytes events consumed after → GoesOn h after
in_turn_on [] h after bytes consumed nothing one = (heard_on h after bytes consumed heard.None nothing one).0
in_turn_on (e ∷ es) h after bytes consumed nothing (count, next, some, one, inl (ends, none, same_count, same)) =
    subst (GoesOn h) (sym same) (heard_on h next bytes count e nothing one).0
in_turn_on (e ∷ es) h after bytes consumed nothing (count, next, some, one, inr (on, (rest, sum, others))) =
    let first = heard_on h next bytes count e nothing one in then_on h next after first.0 (in_turn_on es next after _ rest first.1 others)

all_on : (h after : HostView) (bytes : List ℕ) (events : List HostEvent) (consumed : ℕ) → NothingLeft h → HearsAll h bytes events consumed after → GoesOn h after
all_on h after bytes events consumed nothing (inl (is_down, none, all, same)) = stays_same h after same
all_on h after bytes events consumed nothing (inr (up, heard)) = in_turn_on events h after bytes consumed nothing heard

-- ## Events

-- Bytes are taken out.
pub taken_on : (h : HostView) (n : ℕ) → GoesOn h (taken_out h n)
taken_on h n = record {
  grown = [];
  lost = [];
  records = sym (append-nil h.records);
  flight = sym (append-nil (in_flight h.phase));
  next = refl;
  down = λ e. e;
}

heard_host : (e : HostEvent) (l : LineView) (consumed : ℕ) (host : HostView) → (heard_to e l consumed host).host ≡ host
heard_host heard.None l consumed host = refl
heard_host heard.Opened l consumed host = refl
heard_host (heard.Recorded number) l consumed host = refl
heard_host (heard.Status byte) l consumed host = refl
heard_host (heard.Condition block) l consumed host = refl
heard_host (heard.Late id) l consumed host = refl
heard_host (heard.BadAnswer at) l consumed host = refl

-- Answers are heard.
pub answered_on : (most : ℕ) (l after : LineView) (n : Note) → NothingLeft l.host → After (event.Answer most) l n after → GoesOn l.host after.host
answered_on most l after n nothing (events, consumed, host, note, hears, same) =
    let is : after.host ≡ host = ap (λ (v : LineView). v.host) same ∙ heard_host (last_of events) l consumed host in
    subst (GoesOn l.host) (sym is) (all_on l.host host _ events consumed nothing hears)
