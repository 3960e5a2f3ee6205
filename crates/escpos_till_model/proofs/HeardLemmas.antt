-- What a ledger says of marks that can't be answered any more stays so when an entry is added, and when its host hears answers.
use Rattle.std.proofs.Common.{ℕ, zero, suc, ◌≡◌, ◌+◌, ◌<◌, ◌≤◌, ◌⊎◌, inl, inr, None, List, [], ◌∷◌, ◌++◌, refl, sym, ◌∙◌, ap, subst, arith}
use Rattle.escpos_command.specs.declared.answer.Answer.{Answer}
use Rattle.escpos_host.specs.declared.host.HostEvent.{HostEvent}
use Rattle.escpos_host.specs.declared.host.HostEvent.TheVariants as event
use Rattle.escpos_host.specs.Heard.{Grows, HearsByte, IsHeard, Misfits, Turns, with_half}
use Rattle.escpos_command.specs.declared.command.Command.{Command}
use Rattle.escpos_command.specs.Digits.{mark_count}
use Rattle.escpos_host.specs.Machine.{HostView, InFlight, Phase, Down, Opening, Open, closed_by, limit_from}
use Rattle.escpos_host.proofs.Recording.{none_has}
use Rattle.escpos_link.specs.Ways.{Rising}
use Rattle.escpos_link.proofs.Numbers.{rising_add, rising_within}
use Rattle.escpos_till.specs.declared.entry.Entry.{Entry}
use Rattle.escpos_till.specs.declared.entry.Entry.TheVariants.{Queued, Tried, Recorded, Raised, Cancelled, Key, Renewed, Earlier}
use Rattle.escpos_till.specs.Entries.{MayFollow, heard, heard_said, next_free}
use Rattle.escpos_till.proofs.EntryLemmas.{heard-snoc, heard_same, next_after_cancelled, next_after_earlier, next_after_key, next_after_queued, next_after_raised, next_after_recorded, next_after_tried}
use Rattle.escpos_till_model.proofs.GoesOn.{NothingLeft}
use Rattle.escpos_till_model.specs.Kept.{IsSince}
use Rattle.escpos_till_model.specs.Late.{IsHeardBy}

-- ## A host without a link

-- A host that has put nothing out: its first mark will have this number, and no mark below the other one can be answered any more.
abbrev pub idle_at : ℕ → ℕ → HostView
idle_at next heard = record { phase = Down; out = []; half = []; next = next; heard = heard; records = []; left = [] }

-- ## One more entry

-- An entry that a till adds, or another one that takes receipts: it says of no older ledger, and doesn't record.
abbrev pub IsPlain : Entry → Type 0
IsPlain (Queued content) = Unit {0}
IsPlain (Tried number next) = Unit {0}
IsPlain (Recorded number hd) = ⊥
IsPlain (Raised next hd) = Unit {0}
IsPlain (Cancelled number) = Unit {0}
IsPlain (Key key) = Unit {0}
IsPlain (Renewed last hd) = ⊥
IsPlain (Earlier number key) = Unit {0}

same_heard : (es : List Entry) (e : Entry) (h : HostView) → heard_said es e ≡ 0 → IsHeardBy es h → IsHeardBy (es ++ e ∷ []) h
same_heard es e h says (inl known) = inl (omega (arith, heard_same es e says, known))
same_heard es e h says (inr (answered, past)) = inr (answered, omega (arith, heard_same es e says, past))

-- Where the next number is raised with all that is heard, the host has no mark that may be answered.
raised_heard : (es : List Entry) (next hd : ℕ) (h : HostView) → MayFollow es (Raised next hd) → h.next ≤ next_free es → IsHeardBy es h → IsHeardBy (es ++ Raised next hd ∷ []) h
raised_heard es next hd h (least, inl none) below heard_by = same_heard es (Raised next hd) h none heard_by
raised_heard es next hd h (least, inr (all, answered)) below (inl known) =
    inr (omega (arith, below, answered, known), omega (arith, heard-snoc es (Raised next hd), below, answered))
raised_heard es next hd h (least, inr (all, answered)) below (inr (none, past)) = inr (none, omega (arith, heard-snoc es (Raised next hd), past))

pub heard_more : (es : List Entry) (e : Entry) (h : HostView) → IsPlain e → MayFollow es e → h.next ≤ next_free es → IsHeardBy es h → IsHeardBy (es ++ e ∷ []) h
heard_more es (Queued content) h plain follows below known = same_heard es (Queued content) h refl known
heard_more es (Tried number next) h plain follows below known = same_heard es (Tried number next) h refl known
heard_more es (Recorded number hd) h plain follows below known = absurd plain
heard_more es (Raised next hd) h plain follows below known = raised_heard es next hd h follows below known
heard_more es (Cancelled number) h plain follows below known = same_heard es (Cancelled number) h refl known
heard_more es (Key key) h plain follows below known = same_heard es (Key key) h refl known
heard_more es (Renewed last hd) h plain follows below known = absurd plain
heard_more es (Earlier number key) h plain follows below known = same_heard es (Earlier number key) h refl known

-- A record says what its host has heard.
said_of : (es : List Entry) (number hd : ℕ) → 0 < hd → heard_said es (Recorded number hd) ≡ hd
said_of es number zero some = absurd (omega (arith, some))
said_of es number (suc hd) some = refl

pub heard_recorded : (es : List Entry) (number hd : ℕ) (h : HostView) → 0 < hd → hd ≤ h.heard → IsHeardBy es h → IsHeardBy (es ++ Recorded number hd ∷ []) h
heard_recorded es number hd h some within (inl known) = inl (omega (arith, heard-snoc es (Recorded number hd), said_of es number hd some, within, known))
heard_recorded es number hd h some within (inr (answered, past)) = inr (answered, omega (arith, heard-snoc es (Recorded number hd), past))

pub most_more : (es : List Entry) (e : Entry) → IsPlain e → MayFollow es e → heard es ≤ next_free es → heard (es ++ e ∷ []) ≤ next_free (es ++ e ∷ [])
most_more es (Queued content) plain follows most = omega (arith, heard_same es (Queued content) refl, next_after_queued es content, most)
most_more es (Tried number next) plain follows most = omega (arith, heard_same es (Tried number next) refl, next_after_tried es number next, follows.1, most)
most_more es (Recorded number hd) plain follows most = absurd plain
most_more es (Raised next hd) plain (least, inl none) most = omega (arith, heard_same es (Raised next hd) none, next_after_raised es next hd, least, most)
most_more es (Raised next hd) plain (least, inr (all, answered)) most = omega (arith, heard-snoc es (Raised next hd), next_after_raised es next hd, least, all, most)
most_more es (Cancelled number) plain follows most = omega (arith, heard_same es (Cancelled number) refl, next_after_cancelled es number, most)
most_more es (Key key) plain follows most = omega (arith, heard_same es (Key key) refl, next_after_key es key, most)
most_more es (Renewed last hd) plain follows most = absurd plain
most_more es (Earlier number key) plain follows most = omega (arith, heard_same es (Earlier number key) refl, next_after_earlier es number key, most)

pub most_recorded : (es : List Entry) (number hd : ℕ) → 0 < hd → MayFollow es (Recorded number hd) → heard es ≤ next_free es
    → heard (es ++ Recorded number hd ∷ []) ≤ next_free (es ++ Recorded number hd ∷ [])
most_recorded es number hd some follows most =
    omega (arith, heard-snoc es (Recorded number hd), said_of es number hd some, next_after_recorded es number hd, follows.2, most)

-- Another host with the same numbers.
pub heard_same_host : (es : List Entry) (h other : HostView) → other.next ≡ h.next → other.heard ≡ h.heard → IsHeardBy es h → IsHeardBy es other
heard_same_host es h other next same (inl known) = inl (omega (arith, same, known))
heard_same_host es h other next same (inr (answered, past)) = inr (omega (arith, next, same, answered), omega (arith, next, past))

-- One that has heard more.
pub heard_on : (es : List Entry) (h after : HostView) → after.next ≡ h.next → h.heard ≤ after.heard → IsHeardBy es h → IsHeardBy es after
heard_on es h after next rose (inl known) = inl (omega (arith, rose, known))
heard_on es h after next rose (inr (answered, past)) = inr (omega (arith, next, rose, answered), omega (arith, next, past))

-- Where the host has used all numbers below the next one, it knows all that is said.
pub known_at : (es : List Entry) (h : HostView) → IsHeardBy es h → heard es ≤ next_free es → h.next ≡ next_free es → heard es ≤ h.heard
known_at es h (inl known) most marks = known
known_at es h (inr (answered, past)) most marks = omega (arith, answered, most, marks)

-- A mark that may be put after all those of the host is fewer numbers from what the host has heard than there are ids.
pub mark_within : (es : List Entry) (h : HostView) (n : ℕ) → IsHeardBy es h → n < limit_from (heard es) → n ≤ h.next → n < h.heard + mark_count
mark_within es h n (inl known) within next = omega (arith, known, within)
mark_within es h n (inr (answered, past)) within next = omega (arith, answered, next)

-- ## A host that goes on with what the entries say

-- What it needs for that: the old one knows it, or all of its marks are answered.
abbrev pub MayKnow : HostView → ℕ → ℕ → Type 0
MayKnow h f hd = (hd ≤ h.heard) ⊎ ((h.next ≤ h.heard) × (hd ≤ f))

pub may_know : (es : List Entry) (h : HostView) (f : ℕ) → IsHeardBy es h → heard es ≤ f → MayKnow h f (heard es)
may_know es h f (inl known) most = inl known
may_know es h f (inr (answered, past)) most = inr (answered, most)

-- ## Answers are heard

-- What is heard doesn't fall.
pub record Rose (h after : HostView) : Type 0 where
  pub since : IsSince after.phase after.heard after.next
  pub rose : h.heard ≤ after.heard

rising_past : (base next : ℕ) (before : List InFlight) (p : InFlight) (ps : List InFlight) → Rising base (before ++ p ∷ ps) next → (base ≤ p.number) × Rising (p.number + 1) ps next
rising_past base next [] p ps (from, is, r) = (from, r)
rising_past base next (q ∷ before) p ps (from, is, r) =
    let (least, others) = rising_past (q.number + 1) next before p ps r in (omega (arith, from, least), others)

since_in : (phase : Phase) (h : HostView) → h.phase ≡ phase → IsSince h.phase h.heard h.next → IsSince phase h.heard h.next
since_in phase h is since = subst (λ p. IsSince p h.heard h.next) is since

stays : (h after : HostView) → after ≡ h → IsSince h.phase h.heard h.next → Rose h after
stays h after same since = subst (Rose h) (sym same) (record { since = since; rose = omega arith })

turned : (h after : HostView) (a : Answer) (e : HostEvent) → NothingLeft h → IsSince h.phase h.heard h.next → Turns h a e after → Rose h after
turned h after a event.None nothing since (ignored, same) = stays h after same since
turned h after a event.Opened nothing since (first, n, id, is, answer, (from, below, few, mark), same) =
    let at : (h.heard ≤ first) × (first ≤ h.next) = since_in (Opening first) h is since in
    subst (Rose h) (sym same) (record { since = omega (arith, below); rose = omega (arith, at.0, from) })
turned h after a (event.Recorded number) nothing since (id, answer, r) = elim r.way [
  | inl (flight, is, f, same) ↦
      let rising : Rising h.heard (r.before ++ r.last ∷ r.others) h.next = subst (λ ps. Rising h.heard ps h.next) f.all_are (since_in (Open flight) h is since) in
      let (least, others) = rising_past h.heard h.next r.before r.last r.others rising in
      subst (Rose h) (sym same) (record { since = others; rose = omega (arith, least) })
  | inr (first, is, older, f, same) ↦ absurd (none_has r.before r.others r.last (sym (nothing first is) ∙ f.all_are))
]
turned h after a (event.Status byte) nothing since (answer, same) = stays h after same since
turned h after a (event.Condition block) nothing since (answer, same) = stays h after same since
turned h after a (event.Late id) nothing since (first, is, answer, other, unleft, inl (n, (from, below, few, mark), same)) =
    let at : (h.heard ≤ first) × (first ≤ h.next) = since_in (Opening first) h is since in
    subst (Rose h) (sym same) (record { since = subst (λ p. IsSince p (n + 1) h.next) (sym is) (omega (arith, below), at.1); rose = omega (arith, from) })
turned h after a (event.Late id) nothing since (first, is, answer, other, unleft, inr (none, same)) = stays h after same since
turned h after a (event.BadAnswer place) nothing since turns = absurd turns

gone : (phase : Phase) (heard next : ℕ) → IsSince phase heard next → heard ≤ next
gone Down heard next since = since
gone (Opening first) heard next (from, to) = omega (arith, from, to)
gone (Open flight) heard next rising = rising_within heard next flight rising

pub since_gone : (h : HostView) → IsSince h.phase h.heard h.next → h.heard ≤ h.next
since_gone h since = gone h.phase h.heard h.next since

-- The host puts marks out.
pub since_nudged : (h : HostView) (first : ℕ) → h.phase ≡ Opening first → IsSince h.phase h.heard h.next → IsSince h.phase h.heard (h.next + 1)
since_nudged h first opening since =
    let at : (h.heard ≤ first) × (first ≤ h.next) = since_in (Opening first) h opening since in
    subst (λ p. IsSince p h.heard (h.next + 1)) (sym opening) (at.0, omega (arith, at.1))

pub since_submitted : (h : HostView) (flight : List InFlight) (receipt : List Command) → h.phase ≡ Open flight → IsSince h.phase h.heard h.next
    → IsSince (Open (flight ++ closed_by receipt h.next ∷ [])) h.heard (h.next + 1)
since_submitted h flight receipt is since = rising_add h.heard h.next flight (closed_by receipt h.next) refl refl (since_in (Open flight) h is since)

grows : (h after : HostView) (byte : ℕ) (e : HostEvent) → IsSince h.phase h.heard h.next → Grows h byte e after → Rose h after
grows h after byte event.None since (same, half) = subst (Rose h) (sym same) (record { since = since; rose = omega arith })
grows h after byte event.Opened since none = absurd none
grows h after byte (event.Recorded number) since none = absurd none
grows h after byte (event.Status b) since none = absurd none
grows h after byte (event.Condition b) since none = absurd none
grows h after byte (event.Late id) since none = absurd none
grows h after byte (event.BadAnswer place) since none = absurd none

misfits : (h after : HostView) (byte at : ℕ) (e : HostEvent) → IsSince h.phase h.heard h.next → Misfits h byte at e after → Rose h after
misfits h after byte at event.None since none = absurd none
misfits h after byte at event.Opened since none = absurd none
misfits h after byte at (event.Recorded number) since none = absurd none
misfits h after byte at (event.Status b) since none = absurd none
misfits h after byte at (event.Condition b) since none = absurd none
misfits h after byte at (event.Late id) since none = absurd none
misfits h after byte at (event.BadAnswer place) since (is, viable, same) = subst (Rose h) (sym same) (record { since = since_gone h since; rose = omega arith })

by_byte : (h after : HostView) (byte at : ℕ) (e : HostEvent) → NothingLeft h → IsSince h.phase h.heard h.next → HearsByte h byte at e after → Rose h after
by_byte h after byte at e nothing since (inl grow) = grows h after byte e since grow
by_byte h after byte at e nothing since (inr (inl misfit)) = misfits h after byte at e since misfit
by_byte h after byte at e nothing since (inr (inr (a, spelled, turns))) =
    let t = turned (with_half h []) after a e nothing since turns in
    record { since = t.since; rose = t.rose }

pub heard_rises : (h after : HostView) (bytes : List ℕ) (count : ℕ) (e : HostEvent) → NothingLeft h → IsSince h.phase h.heard h.next → IsHeard h bytes count e after → Rose h after
heard_rises h after bytes count e nothing since (inl (none, all, passed, same)) = subst (Rose h) (sym same) (record { since = since; rose = omega arith })
heard_rises h after bytes count e nothing since (inr (at, half, within, some, is_count, passed, byte)) =
    let b = by_byte (with_half h half) after _ at e nothing since byte in
    record { since = b.since; rose = b.rose }

-- A mark was answered.
recorded_some : (h after : HostView) (a : Answer) (number : ℕ) → Turns h a (event.Recorded number) after → 0 < after.heard
recorded_some h after a number (id, answer, r) = elim r.way [
  | inl (flight, is, f, same) ↦ let at : after.heard ≡ r.last.number + 1 = ap (λ v. v.heard) same in omega (arith, at)
  | inr (first, is, older, f, same) ↦ let at : after.heard ≡ r.last.number + 1 = ap (λ v. v.heard) same in omega (arith, at)
]

pub record_heard : (h after : HostView) (bytes : List ℕ) (count number : ℕ) → IsHeard h bytes count (event.Recorded number) after → 0 < after.heard
record_heard h after bytes count number (inl (none, all, passed, same)) = absurd (let bad : event.Recorded number ≡ event.None = none in cc)
record_heard h after bytes count number (inr (at, half, within, some, is_count, passed, inl grow)) = absurd grow
record_heard h after bytes count number (inr (at, half, within, some, is_count, passed, inr (inl misfit))) = absurd misfit
record_heard h after bytes count number (inr (at, half, within, some, is_count, passed, inr (inr (a, spelled, turns)))) =
    recorded_some (with_half (with_half h half) []) after a number turns
