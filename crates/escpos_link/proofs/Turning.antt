-- Hearing bytes of whole answers is hearing the answers, one after another: what holds for a host and the answers to come,
-- and goes on from answer to answer, holds after the host has heard any part of their bytes. And none of them ends its
-- link.
use Rattle.std.proofs.Common.{◌≡◌, ◌≢◌, ◌⊎◌, ◌<◌, ◌≤◌, ◌+◌, inl, inr, ℕ, List, [], ◌∷◌, ◌++◌, length, take, drop, refl, sym, ◌∙◌, ap, subst, append_assoc, append-nil, length-drop, take-append-drop, arith, IsTrue}
use Rattle.std.specs.Prelude.{slice_index}
use Rattle.std.specs.List.{AllByRecursion}
use Rattle.std.proofs.lemmas.List.{take_more}
use Rattle.escpos_command.specs.declared.answer.Answer.{Answer}
use Rattle.escpos_command.specs.declared.answer.Answer.TheVariants as answer
use Rattle.escpos_command.specs.declared.command.Command.{Command}
use Rattle.escpos_command.specs.Blocks.{is_block}
use Rattle.escpos_command.specs.Answers.{AnswerSpells, HalfAnswer, Hears, ViableAnswer, answer_bytes, is_answer, spell_answers}
use Rattle.escpos_host.specs.declared.host.HostEvent.{HostEvent}
use Rattle.escpos_host.specs.declared.host.HostEvent.TheVariants as event
use Rattle.escpos_host.specs.Heard.{EndsLink, Grows, HearsByte, HearsInTurn, Ignores, IsHeard, Misfits, Passed, Turns, last_of, taken_at, with_half}
use Rattle.escpos_host.specs.Machine.{HostView, InFlight, Phase, Down}
use Rattle.escpos_link.proofs.Aligning.{fronts, nothing_first, nothing_last}

-- What the layers below say of answers.
pub record OfAnswers : Type 0 where
  pub no_prefix : (a b : Answer) (bs more : List ℕ) → AnswerSpells a bs → AnswerSpells b (bs ++ more) → more ≡ []
  pub joined : (a b : List ℕ) (some others : List Answer) (r s : List ℕ) → Hears a some r → Hears (r ++ b) others s → Hears (a ++ b) (some ++ others) s
  pub cut : (a b : List ℕ) (all some : List Answer) (r : List ℕ) → Hears (a ++ b) all [] → Hears a some r
      → (others : List Answer) × (all ≡ some ++ others) × Hears (r ++ b) others []

abbrev pub Holding : Type 1
Holding = Phase → List ℕ → ℕ → ℕ → List (List Command) → List InFlight → List Answer → Type 0

-- What a host keeps from answer to answer.
pub record Turned (P : Holding) (h after : HostView) (others : List Answer) (e : HostEvent) : Type 0 where
  pub on : EndsLink e → ⊥
  pub up : after.phase ≢ Down
  pub half : after.half ≡ h.half
  pub holds : P after.phase after.out after.next after.heard after.records after.left others

abbrev pub Turner : Holding → Type 0
Turner P = (h after : HostView) (a : Answer) (others : List Answer) (e : HostEvent) → h.phase ≢ Down → P h.phase h.out h.next h.heard h.records h.left (a ∷ others)
    → Turns h a e after → Turned P h after others e

-- A host that is up, its half answer and the bytes to come, which are answers, and for which it holds.
pub record Goes (P : Holding) (h : HostView) (bytes : List ℕ) : Type 0 where
  pub up : h.phase ≢ Down
  pub answers : List Answer
  pub hears : Hears (h.half ++ bytes) answers []
  pub holds : P h.phase h.out h.next h.heard h.records h.left answers

-- ## Bytes of answers fit

no_block : (block w : List ℕ) → IsTrue (is_block block) → block ++ w ≡ [] → ⊥
no_block [] w known e = cc known
no_block (b ∷ block) w known e = cc e

pub no_bytes : (a : Answer) (w : List ℕ) → IsTrue (is_answer a) → answer_bytes a ++ w ≡ [] → ⊥
no_bytes (answer.Status b) w known e = cc e
no_bytes (answer.Mark id) w known e = cc e
no_bytes (answer.Condition block) w known e = no_block block w known e

-- No answer begins what is left of an answer.
not_begun : OfAnswers → (half : List ℕ) (a : Answer) (w : List ℕ) → (half ≡ []) ⊎ HalfAnswer half → IsTrue (is_answer a) → half ≡ answer_bytes a ++ w → ⊥
not_begun below half a w (inl none) ok is = no_bytes a w ok (sym is ∙ none)
not_begun below half a w (inr h) ok is =
    let v = h.viable in
    let long = subst (AnswerSpells v.0) (ap (λ xs. xs ++ v.1) is ∙ append_assoc (answer_bytes a) w v.1) v.2 in
    let none = nothing_first w v.1 (below.no_prefix a v.0 (answer_bytes a) (w ++ v.1) (record { in_range = ok; in_table = refl }) long) in
    h.no_answer a (record { in_range = ok; in_table = is ∙ ap (λ xs. answer_bytes a ++ xs) none ∙ append-nil (answer_bytes a) })

one_end : (w : List ℕ) (b z : ℕ) (zs : List ℕ) → b ∷ [] ≡ w ++ z ∷ zs → w ≡ []
one_end [] b z zs e = refl
one_end (x ∷ []) b z zs e = absurd cc
one_end (x ∷ y ∷ w) b z zs e = absurd cc

too_long : OfAnswers → (half : List ℕ) (b : ℕ) (a : Answer) (z : ℕ) (zs : List ℕ) → (half ≡ []) ⊎ HalfAnswer half → IsTrue (is_answer a)
    → half ++ b ∷ [] ≡ answer_bytes a ++ z ∷ zs → ⊥
too_long below half b a z zs rest ok is = elim (fronts half (b ∷ []) (answer_bytes a) (z ∷ zs) is) [
  | inl (w, whole, last) ↦
      not_begun below half a [] rest ok
      (sym (append-nil half) ∙ ap (λ v. half ++ v) (sym (one_end w b z zs last)) ∙ sym whole ∙ sym (append-nil (answer_bytes a)))
  | inr (w, front, after) ↦ not_begun below half a w rest ok front
]

may_be : OfAnswers → (half : List ℕ) (b : ℕ) (a : Answer) (y : List ℕ) → (half ≡ []) ⊎ HalfAnswer half → IsTrue (is_answer a)
    → half ++ b ∷ [] ≡ answer_bytes a ++ y → ViableAnswer (half ++ b ∷ [])
may_be below half b a [] rest ok is =
    (a, [], record { in_range = ok; in_table = append-nil (half ++ b ∷ []) ∙ is ∙ append-nil (answer_bytes a) })
may_be below half b a (z ∷ zs) rest ok is = absurd (too_long below half b a z zs rest ok is)

fits : OfAnswers → (half : List ℕ) (b : ℕ) (tail : List ℕ) (answers : List Answer) → (half ≡ []) ⊎ HalfAnswer half → Hears (half ++ b ∷ tail) answers []
    → ViableAnswer (half ++ b ∷ [])
fits below half b tail [] rest hears = absurd (let bad = nothing_last half (b ∷ tail) hears.whole in cc)
fits below half b tail (a ∷ answers) rest hears =
    let all : (half ++ b ∷ []) ++ tail ≡ answer_bytes a ++ (spell_answers answers ++ []) =
    append_assoc half (b ∷ []) tail ∙ hears.whole ∙ append_assoc (answer_bytes a) (spell_answers answers) [] in
    elim (fronts (half ++ b ∷ []) tail (answer_bytes a) (spell_answers answers ++ []) all) [
      | inl (y, is, after) ↦ (a, y, record { in_range = hears.in_range.0; in_table = sym is })
      | inr (y, is, after) ↦ may_be below half b a y rest hears.in_range.0 is
    ]

-- ## One event

-- The bytes before an event, the byte that brought it, and those after it.
around : (bytes : List ℕ) (at : ℕ) → at < length bytes → bytes ≡ take at bytes ++ (slice_index bytes at ∷ []) ++ drop (at + 1) bytes
around bytes at within =
    sym (take-append-drop (at + 1) bytes) ∙ ap (λ v. v ++ drop (at + 1) bytes) (take_more bytes at 0 within)

passed_by : (P : Holding) → Turner P → (h : HostView) (ignored others : List Answer) → h.phase ≢ Down → AllByRecursion (Ignores h.phase h.next) ignored
    → P h.phase h.out h.next h.heard h.records h.left (ignored ++ others) → P h.phase h.out h.next h.heard h.records h.left others
passed_by P turner h [] others up each holds = holds
passed_by P turner h (a ∷ ignored) others up each holds =
    passed_by P turner h ignored others up each.1 (turner h h a (ignored ++ others) event.None up holds (each.0, refl)).holds

-- All of a piece passed.
all_passed : (P : Holding) → OfAnswers → Turner P → (h after : HostView) (bytes more : List ℕ) → Goes P h (bytes ++ more) → Passed h bytes after.half
    → after ≡ with_half h after.half → Goes P after more
all_passed P below turner h after bytes more g passed same =
    let c = below.cut (h.half ++ bytes) more g.answers passed.ignored after.half (subst (λ v. Hears v g.answers []) (sym (append_assoc h.half bytes more)) g.hears) passed.hears in
    let holds = passed_by P turner h passed.ignored c.0 g.up passed.each (subst (P h.phase h.out h.next h.heard h.records h.left) c.1 g.holds) in
    record {
      up = λ is_down. g.up (sym (ap (λ (v : HostView). v.phase) same) ∙ is_down);
      answers = c.0;
      hears = c.2;
      holds = subst (λ (v : HostView). P v.phase v.out v.next v.heard v.records v.left c.0) (sym same) holds;
    }

no_growth : (h after : HostView) (byte : ℕ) (e : HostEvent) → e ≢ event.None → Grows h byte e after → ⊥
no_growth h after byte event.None some grows = some refl
no_growth h after byte event.Opened some grows = grows
no_growth h after byte (event.Recorded number) some grows = grows
no_growth h after byte (event.Status b) some grows = grows
no_growth h after byte (event.Condition block) some grows = grows
no_growth h after byte (event.Late id) some grows = grows
no_growth h after byte (event.BadAnswer place) some grows = grows

no_misfit : (h after : HostView) (byte at : ℕ) (e : HostEvent) → ViableAnswer (h.half ++ byte ∷ []) → Misfits h byte at e after → ⊥
no_misfit h after byte at event.None viable misfit = misfit
no_misfit h after byte at event.Opened viable misfit = misfit
no_misfit h after byte at (event.Recorded number) viable misfit = misfit
no_misfit h after byte at (event.Status b) viable misfit = misfit
no_misfit h after byte at (event.Condition block) viable misfit = misfit
no_misfit h after byte at (event.Late id) viable misfit = misfit
no_misfit h after byte at (event.BadAnswer place) viable (here, bad, same) = bad viable

counted : (e : HostEvent) (at : ℕ) → (EndsLink e → ⊥) → taken_at e at ≡ at + 1
counted event.None at on = refl
counted event.Opened at on = refl
counted (event.Recorded number) at on = refl
counted (event.Status byte) at on = refl
counted (event.Condition block) at on = refl
counted (event.Late id) at on = refl
counted (event.BadAnswer place) at on = absurd (on tt)

pub record After (P : Holding) (next : HostView) (bytes more : List ℕ) (count : ℕ) (e : HostEvent) : Type 0 where
  pub on : EndsLink e → ⊥
  pub few : count ≤ length bytes
  pub goes : Goes P next (drop count bytes ++ more)

by_answer : (P : Holding) → OfAnswers → Turner P → (h next : HostView) (bytes more half : List ℕ) (at : ℕ) (e : HostEvent) (a : Answer) (others : List Answer)
    → h.phase ≢ Down → at < length bytes → P h.phase h.out h.next h.heard h.records h.left others → Hears (half ++ slice_index bytes at ∷ (drop (at + 1) bytes ++ more)) others []
    → AnswerSpells a (half ++ slice_index bytes at ∷ []) → Turns (with_half (with_half h half) []) a e next → After P next bytes more (taken_at e at) e
by_answer P below turner h next bytes more half at e a others up within holds hears spelled turns =
    let b = slice_index bytes at in
    let tail = drop (at + 1) bytes ++ more in
    let one : Hears (half ++ b ∷ []) (a ∷ []) [] =
    record { in_range = (spelled.in_range, tt); whole = spelled.in_table ∙ sym (append-nil (spell_answers (a ∷ [])) ∙ append-nil (answer_bytes a)); rest_is = inl refl } in
    let c = below.cut (half ++ b ∷ []) tail others (a ∷ []) [] (subst (λ v. Hears v others []) (sym (append_assoc half (b ∷ []) tail)) hears) one in
    let t = turner (with_half (with_half h half) []) next a c.0 e up (subst (P h.phase h.out h.next h.heard h.records h.left) c.1 holds) turns in
    let count = counted e at t.on in
    record {
      on = t.on;
      few = omega (arith, count, within);
      goes = record {
        up = t.up;
        answers = c.0;
        hears = subst (λ k. Hears (next.half ++ (drop k bytes ++ more)) c.0 []) (sym count) (subst (λ v. Hears (v ++ tail) c.0 []) (sym t.half) c.2);
        holds = t.holds;
      };
    }

by_byte : (P : Holding) → OfAnswers → Turner P → (h next : HostView) (bytes more half : List ℕ) (at : ℕ) (e : HostEvent) (others : List Answer) → h.phase ≢ Down
    → at < length bytes → e ≢ event.None → (half ≡ []) ⊎ HalfAnswer half → P h.phase h.out h.next h.heard h.records h.left others
    → Hears (half ++ slice_index bytes at ∷ (drop (at + 1) bytes ++ more)) others [] → HearsByte (with_half h half) (slice_index bytes at) at e next
    → After P next bytes more (taken_at e at) e
by_byte P below turner h next bytes more half at e others up within some rest holds hears (inl grows) = absurd (no_growth (with_half h half) next _ e some grows)
by_byte P below turner h next bytes more half at e others up within some rest holds hears (inr (inl misfit)) =
    absurd (no_misfit (with_half h half) next (slice_index bytes at) at e (fits below half (slice_index bytes at) (drop (at + 1) bytes ++ more) others rest hears) misfit)
by_byte P below turner h next bytes more half at e others up within some rest holds hears (inr (inr (a, spelled, turns))) =
    by_answer P below turner h next bytes more half at e a others up within holds hears spelled turns

pub one_heard : (P : Holding) → OfAnswers → Turner P → (h next : HostView) (bytes more : List ℕ) (count : ℕ) (e : HostEvent) → e ≢ event.None
    → Goes P h (bytes ++ more) → IsHeard h bytes count e next → After P next bytes more count e
one_heard P below turner h next bytes more count e some g (inl (none, all, passed, same)) = absurd (some none)
one_heard P below turner h next bytes more count e some g (inr (at, half, within, also, is_count, passed, heard)) =
    let front = take at bytes in
    let b = slice_index bytes at in
    let back = drop (at + 1) bytes in
    let split : h.half ++ (bytes ++ more) ≡ (h.half ++ front) ++ (b ∷ (back ++ more)) =
    ap (λ v. h.half ++ (v ++ more)) (around bytes at within)
    ∙ ap (λ v. h.half ++ v) (append_assoc (front ++ b ∷ []) back more ∙ append_assoc front (b ∷ []) (back ++ more))
    ∙ sym (append_assoc h.half front (b ∷ (back ++ more))) in
    let c = below.cut (h.half ++ front) (b ∷ (back ++ more)) g.answers passed.ignored half (subst (λ v. Hears v g.answers []) split g.hears) passed.hears in
    let holds = passed_by P turner h passed.ignored c.0 g.up passed.each (subst (P h.phase h.out h.next h.heard h.records h.left) c.1 g.holds) in
    subst (λ k. After P next bytes more k e) (sym is_count)
    (by_byte P below turner h next bytes more half at e c.0 g.up within some passed.hears.rest_is holds c.2 heard)

-- The answer that brought an event, those before it, which are ignored, and those after it.
pub record ByOne (P : Holding) (h next : HostView) (bytes : List ℕ) (e : HostEvent) (g : Goes P h bytes) : Type 0 where
  pub before : List Answer
  pub answer : Answer
  pub others : List Answer
  pub split : g.answers ≡ before ++ answer ∷ others
  pub at : ℕ
  pub half : List ℕ
  pub turns : Turns (with_half (with_half h half) []) answer e next

pub by_one : (P : Holding) → OfAnswers → (h next : HostView) (bytes more : List ℕ) (count : ℕ) (e : HostEvent) → e ≢ event.None → (g : Goes P h (bytes ++ more))
    → IsHeard h bytes count e next → ByOne P h next (bytes ++ more) e g
by_one P below h next bytes more count e some g (inl (none, all, passed, same)) = absurd (some none)
by_one P below h next bytes more count e some g (inr (at, half, within, also, is_count, passed, heard)) =
    let front = take at bytes in
    let b = slice_index bytes at in
    let back = drop (at + 1) bytes in
    let split : h.half ++ (bytes ++ more) ≡ (h.half ++ front) ++ (b ∷ (back ++ more)) =
    ap (λ v. h.half ++ (v ++ more)) (around bytes at within)
    ∙ ap (λ v. h.half ++ v) (append_assoc (front ++ b ∷ []) back more ∙ append_assoc front (b ∷ []) (back ++ more))
    ∙ sym (append_assoc h.half front (b ∷ (back ++ more))) in
    let c = below.cut (h.half ++ front) (b ∷ (back ++ more)) g.answers passed.ignored half (subst (λ v. Hears v g.answers []) split g.hears) passed.hears in
    elim heard [
      | inl grows ↦ absurd (no_growth (with_half h half) next b e some grows)
      | inr (inl misfit) ↦ absurd (no_misfit (with_half h half) next b at e (fits below half b (back ++ more) c.0 passed.hears.rest_is c.2) misfit)
      | inr (inr (a, spelled, turns)) ↦
          let one : Hears (half ++ b ∷ []) (a ∷ []) [] =
          record { in_range = (spelled.in_range, tt); whole = spelled.in_table ∙ sym (append-nil (spell_answers (a ∷ [])) ∙ append-nil (answer_bytes a)); rest_is = inl refl } in
          let d = below.cut (half ++ b ∷ []) (back ++ more) c.0 (a ∷ []) [] (subst (λ v. Hears v c.0 []) (sym (append_assoc half (b ∷ []) (back ++ more))) c.2) one in
          record {
            before = passed.ignored;
            answer = a;
            others = d.0;
            split = c.1 ∙ ap (λ v. passed.ignored ++ v) d.1;
            at = at;
            half = half;
            turns = turns;
          }
    ]

-- ## Event after event

pub record Heard (P : Holding) (after : HostView) (bytes more : List ℕ) (consumed : ℕ) (events : List HostEvent) : Type 0 where
  pub on : EndsLink (last_of events) → ⊥
  pub all : consumed ≡ length bytes
  pub goes : Goes P after more

last_on : (e : HostEvent) (es : List HostEvent) → (EndsLink e → ⊥) → (EndsLink (last_of es) → ⊥) → EndsLink (last_of (e ∷ es)) → ⊥
last_on e [] on later = on
last_on e (f ∷ es) on later = later

pub heard_in_turn : (P : Holding) → OfAnswers → Turner P → (events : List HostEvent) (h after : HostView) (bytes more : List ℕ) (consumed : ℕ)
    → Goes P h (bytes ++ more) → HearsInTurn h bytes events consumed after → Heard P after bytes more consumed events
heard_in_turn P below turner [] h after bytes more consumed g (inl (none, all, passed, same)) =
    record { on = λ ends. ends; all = all; goes = all_passed P below turner h after bytes more g passed same }
heard_in_turn P below turner [] h after bytes more consumed g (inr (at, half, within, some, is_count, passed, heard)) = absurd (some refl)
heard_in_turn P below turner (e ∷ es) h after bytes more consumed g (count, next, some, heard, inl (ends, none, same_count, same)) =
    let one = one_heard P below turner h next bytes more count e some g heard in absurd (one.on ends)
heard_in_turn P below turner (e ∷ es) h after bytes more consumed g (count, next, some, heard, inr (on, (rest, sum, others))) =
    let one = one_heard P below turner h next bytes more count e some g heard in
    let last = heard_in_turn P below turner es next after (drop count bytes) more rest one.goes others in
    record {
      on = last_on e es one.on last.on;
      all = omega (arith, one.few, sum, last.all, length-drop count bytes);
      goes = last.goes;
    }
