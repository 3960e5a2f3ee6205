-- What is left of whole answers when a host has heard some of their bytes, event after event.
use Rattle.std.proofs.Common.{◌≡◌, ◌≢◌, ◌⊎◌, ◌<◌, ◌≤◌, ◌+◌, inl, inr, ℕ, List, [], ◌∷◌, ◌++◌, length, take, drop, refl, sym, ◌∙◌, ap, subst, append_assoc, length-drop, take-append-drop, arith}
use Rattle.std.specs.Prelude.{slice_index}
use Rattle.std.proofs.lemmas.List.{take_more}
use Rattle.escpos_command.specs.declared.answer.Answer.{Answer}
use Rattle.escpos_command.specs.Answers.{AnswerSpells, AreWholeAnswers, Hears}
use Rattle.escpos_host.specs.declared.host.HostEvent.{HostEvent}
use Rattle.escpos_host.specs.declared.host.HostEvent.TheVariants as event
use Rattle.escpos_host.specs.Heard.{EndsLink, GoesOn, Grows, HearsAll, HearsByte, HearsInTurn, IsHeard, IsOff, Misfits, Passed, Turns, last_of, taken_at, with_half}
use Rattle.escpos_host.specs.Machine.{HostView, Down, Open, gone_down}
use Rattle.escpos_host.proofs.Passing.{Joined, whole_heard}
use Rattle.escpos_host.proofs.Recording.{keeps, told}

-- Whole answers may be cut anywhere.
abbrev pub Cut : Type 0
Cut = (a b : List ℕ) (all some : List Answer) (r : List ℕ) → Hears (a ++ b) all [] → Hears a some r
    → (others : List Answer) × (all ≡ some ++ others) × Hears (r ++ b) others []

rest_whole : Cut → (a b r : List ℕ) (some : List Answer) → AreWholeAnswers (a ++ b) → Hears a some r → AreWholeAnswers (r ++ b)
rest_whole cut a b r some (all, whole) h = let c = cut a b all some r whole h in (c.0, c.2)

-- A host that is off its link.
pub record Off (h : HostView) : Type 0 where
  pub phase : h.phase ≡ Down
  pub half : h.half ≡ []

off_by : (h after : HostView) → after ≡ gone_down h → Off after
off_by h after same = record { phase = ap (λ (v : HostView). v.phase) same; half = ap (λ (v : HostView). v.half) same }

-- A host that is up: its half answer and these bytes are whole answers.
pub record Up (h : HostView) (bytes : List ℕ) : Type 0 where
  pub up : h.phase ≢ Down
  pub whole : AreWholeAnswers (h.half ++ bytes)

-- ## One event

-- An answer that brought an event leaves no half answer; it may end the link.
pub turned : (h after : HostView) (a : Answer) (e : HostEvent) → h.phase ≢ Down → h.half ≡ [] → Turns h a e after
    → (EndsLink e × Off after) ⊎ ((EndsLink e → ⊥) × (after.phase ≢ Down) × (after.half ≡ []))
turned h after a event.None up half (ignored, same) =
    inr (λ ends. ends, λ is_down. up (sym (ap (λ (v : HostView). v.phase) same) ∙ is_down), ap (λ (v : HostView). v.half) same ∙ half)
turned h after a event.Opened up half (first, n, id, phase, is, opening, same) =
    inr (λ ends. ends, λ is_down. let bad : Open [] ≡ Down = sym (ap (λ (v : HostView). v.phase) same) ∙ is_down in cc, ap (λ (v : HostView). v.half) same ∙ half)
turned h after a (event.Recorded number) up half (id, is, r) = let k = keeps h after id number r in inr (λ ends. ends, k.up, k.half ∙ half)
turned h after a (event.Late id) up half (first, phase, is, other, unleft, late) =
    let k = (told h after first id phase late).keeps in inr (λ ends. ends, k.up, k.half ∙ half)
turned h after a (event.Status byte) up half (is, same) =
    inr (λ ends. ends, λ is_down. up (sym (ap (λ (v : HostView). v.phase) same) ∙ is_down), ap (λ (v : HostView). v.half) same ∙ half)
turned h after a (event.Condition block) up half (is, same) =
    inr (λ ends. ends, λ is_down. up (sym (ap (λ (v : HostView). v.phase) same) ∙ is_down), ap (λ (v : HostView). v.half) same ∙ half)
turned h after a (event.BadAnswer place) up half turns = absurd turns

-- What one event leaves of a piece and the bytes after it.
abbrev pub Left : HostEvent → ℕ → HostView → List ℕ → List ℕ → Type 0
Left e count after bytes more =
    (EndsLink e × Off after) ⊎ ((EndsLink e → ⊥) × (count ≤ length bytes) × Up after (drop count bytes ++ more))

-- The bytes before an event, the byte that brought it, and those after it.
around : (bytes : List ℕ) (at : ℕ) → at < length bytes → bytes ≡ take at bytes ++ (slice_index bytes at ∷ []) ++ drop (at + 1) bytes
around bytes at within =
    sym (take-append-drop (at + 1) bytes) ∙ ap (λ v. v ++ drop (at + 1) bytes) (take_more bytes at 0 within)

-- After the answer that brought an event, the bytes after it are whole answers.
after_one : Joined → Cut → (h : HostView) (bytes more half : List ℕ) (at : ℕ) (a : Answer) → at < length bytes → AreWholeAnswers (h.half ++ (bytes ++ more))
    → Passed h (take at bytes) half → AnswerSpells a (half ++ slice_index bytes at ∷ []) → AreWholeAnswers (drop (at + 1) bytes ++ more)
after_one joined cut h bytes more half at a within whole passed spelled =
    let front = take at bytes in
    let byte = slice_index bytes at in
    let back = drop (at + 1) bytes in
    let split : h.half ++ (bytes ++ more) ≡ ((h.half ++ front) ++ byte ∷ []) ++ (back ++ more) =
    ap (λ v. h.half ++ (v ++ more)) (around bytes at within)
    ∙ ap (λ v. h.half ++ v) (append_assoc (front ++ byte ∷ []) back more ∙ append_assoc front (byte ∷ []) (back ++ more))
    ∙ sym (append_assoc h.half front ((byte ∷ []) ++ (back ++ more))) ∙ sym (append_assoc (h.half ++ front) (byte ∷ []) (back ++ more)) in
    let heard = joined (h.half ++ front) (byte ∷ []) passed.ignored (a ∷ []) half [] passed.hears (whole_heard (half ++ byte ∷ []) a spelled) in
    rest_whole cut ((h.half ++ front) ++ byte ∷ []) (back ++ more) [] (passed.ignored ++ a ∷ []) (subst AreWholeAnswers split whole) heard

pub counted : (e : HostEvent) (at : ℕ) → (EndsLink e → ⊥) → taken_at e at ≡ at + 1
counted event.None at on = refl
counted event.Opened at on = refl
counted (event.Recorded number) at on = refl
counted (event.Late id) at on = refl
counted (event.Status byte) at on = refl
counted (event.Condition block) at on = refl
counted (event.BadAnswer place) at on = absurd (on tt)

-- A byte that continues a half answer brings no event; one that fits none ends the link.
pub no_growth : (h after : HostView) (byte : ℕ) (e : HostEvent) → e ≢ event.None → Grows h byte e after → ⊥
no_growth h after byte event.None some grows = some refl
no_growth h after byte event.Opened some grows = grows
no_growth h after byte (event.Recorded number) some grows = grows
no_growth h after byte (event.Late id) some grows = grows
no_growth h after byte (event.Status b) some grows = grows
no_growth h after byte (event.Condition block) some grows = grows
no_growth h after byte (event.BadAnswer place) some grows = grows

misfit_ends : (h after : HostView) (byte at : ℕ) (e : HostEvent) → Misfits h byte at e after → EndsLink e × Off after
misfit_ends h after byte at event.None misfit = absurd misfit
misfit_ends h after byte at event.Opened misfit = absurd misfit
misfit_ends h after byte at (event.Recorded number) misfit = absurd misfit
misfit_ends h after byte at (event.Late id) misfit = absurd misfit
misfit_ends h after byte at (event.Status b) misfit = absurd misfit
misfit_ends h after byte at (event.Condition block) misfit = absurd misfit
misfit_ends h after byte at (event.BadAnswer place) (here, bad, same) = (tt, off_by h after same)

-- An answer that brought an event.
by_answer : (h after : HostView) (bytes more half : List ℕ) (at : ℕ) (e : HostEvent) (a : Answer) → h.phase ≢ Down → at < length bytes
    → AreWholeAnswers (drop (at + 1) bytes ++ more) → Turns (with_half (with_half h half) []) a e after → Left e (taken_at e at) after bytes more
by_answer h after bytes more half at e a up within whole turns = elim (turned (with_half (with_half h half) []) after a e up refl turns) [
  | inl (ends, off) ↦ inl (ends, off)
  | inr (on, still, none) ↦
      let count = counted e at on in
      inr (
        on,
        omega (arith, count, within),
        record {
          up = still;
          whole = subst (λ k. AreWholeAnswers (after.half ++ (drop k bytes ++ more))) (sym count) (subst (λ half. AreWholeAnswers (half ++ (drop (at + 1) bytes ++ more))) (sym none) whole);
        },
      )
]

-- The byte that brought an event.
by_byte : Joined → Cut → (h after : HostView) (bytes more half : List ℕ) (at : ℕ) (e : HostEvent) → h.phase ≢ Down → at < length bytes → e ≢ event.None
    → AreWholeAnswers (h.half ++ (bytes ++ more)) → Passed h (take at bytes) half → HearsByte (with_half h half) (slice_index bytes at) at e after
    → Left e (taken_at e at) after bytes more
by_byte joined cut h after bytes more half at e up within some whole passed (inl grows) = absurd (no_growth (with_half h half) after _ e some grows)
by_byte joined cut h after bytes more half at e up within some whole passed (inr (inl misfit)) = inl (misfit_ends (with_half h half) after _ at e misfit)
by_byte joined cut h after bytes more half at e up within some whole passed (inr (inr (a, spelled, turns))) =
    by_answer h after bytes more half at e a up within (after_one joined cut h bytes more half at a within whole passed spelled) turns

-- What is left when all of a piece passed without an event, and when there was one.
passed_all : Cut → (h after : HostView) (bytes more : List ℕ) → h.phase ≢ Down → AreWholeAnswers (h.half ++ (bytes ++ more)) → Passed h bytes after.half
    → after ≡ with_half h after.half → Up after more
passed_all cut h after bytes more up whole passed same = record {
  up = λ is_down. up (sym (ap (λ (v : HostView). v.phase) same) ∙ is_down);
  whole = rest_whole cut (h.half ++ bytes) more after.half passed.ignored (subst AreWholeAnswers (sym (append_assoc h.half bytes more)) whole) passed.hears;
}

one_event : Joined → Cut → (h after : HostView) (bytes more : List ℕ) (count : ℕ) (e : HostEvent) → h.phase ≢ Down → e ≢ event.None
    → AreWholeAnswers (h.half ++ (bytes ++ more)) → IsHeard h bytes count e after → Left e count after bytes more
one_event joined cut h after bytes more count e up some whole (inl (none, all, passed, same)) = absurd (some none)
one_event joined cut h after bytes more count e up some whole (inr (at, half, within, event_is, is_count, passed, heard)) =
    subst (λ k. Left e k after bytes more) (sym is_count) (by_byte joined cut h after bytes more half at e up within some whole passed heard)

no_event : Cut → (h after : HostView) (bytes more : List ℕ) (count : ℕ) → h.phase ≢ Down → AreWholeAnswers (h.half ++ (bytes ++ more))
    → IsHeard h bytes count event.None after → (count ≡ length bytes) × Up after more
no_event cut h after bytes more count up whole (inl (none, all, passed, same)) = (all, passed_all cut h after bytes more up whole passed same)
no_event cut h after bytes more count up whole (inr (at, half, within, some, is_count, passed, heard)) = absurd (some refl)

-- ## Event after event

-- What all of a piece leaves: the host is off its link, by the last event; or it took the whole piece and goes on.
abbrev pub AllLeft : List HostEvent → ℕ → HostView → List ℕ → List ℕ → Type 0
AllLeft events consumed after bytes more =
    (EndsLink (last_of events) × Off after) ⊎ ((EndsLink (last_of events) → ⊥) × (consumed ≡ length bytes) × Up after more)

-- How the events after one go on.
abbrev pub Later : HostEvent → List HostEvent → HostView → HostView → List ℕ → ℕ → ℕ → Type 0
Later e es next after bytes count consumed =
    (EndsLink e × (es ≡ []) × (consumed ≡ count) × (after ≡ next))
    ⊎ ((EndsLink e → ⊥) × ((rest : ℕ) × (consumed ≡ count + rest) × HearsInTurn next (drop count bytes) es rest after))

-- What is left by the events after one, where that one ended nothing.
abbrev Onward : List HostEvent → HostView → HostView → List ℕ → List ℕ → Type 0
Onward es next after bytes more = (rest : ℕ) → Up next (bytes ++ more) → HearsInTurn next bytes es rest after → AllLeft es rest after bytes more

joined_count : (bytes : List ℕ) (count consumed rest : ℕ) → count ≤ length bytes → consumed ≡ count + rest → rest ≡ length (drop count bytes) → consumed ≡ length bytes
joined_count bytes count consumed rest few sum left = omega (arith, few, sum, left, length-drop count bytes)

more_in_turn : (e : HostEvent) (es : List HostEvent) (next after : HostView) (bytes more : List ℕ) (count consumed : ℕ) → Left e count next bytes more
    → Later e es next after bytes count consumed → Onward es next after (drop count bytes) more → AllLeft (e ∷ es) consumed after bytes more
more_in_turn e [] next after bytes more count consumed (inl (ends, off)) (inl (also, none, same_count, same)) onward = inl (ends, subst Off (sym same) off)
more_in_turn e (f ∷ es) next after bytes more count consumed (inl (ends, off)) (inl (also, none, same_count, same)) onward = absurd (cc none)
more_in_turn e es next after bytes more count consumed (inl (ends, off)) (inr (on, later)) onward = absurd (on ends)
more_in_turn e es next after bytes more count consumed (inr (on, few, goes)) (inl (ends, none, same_count, same)) onward = absurd (on ends)
more_in_turn e [] next after bytes more count consumed (inr (on, few, goes)) (inr (also, (rest, sum, heard))) onward = elim (onward rest goes heard) [
  | inl (ends, off) ↦ absurd ends
  | inr (none, all, last) ↦ inr (on, joined_count bytes count consumed rest few sum all, last)
]
more_in_turn e (f ∷ es) next after bytes more count consumed (inr (on, few, goes)) (inr (also, (rest, sum, heard))) onward = elim (onward rest goes heard) [
  | inl (ends, off) ↦ inl (ends, off)
  | inr (none, all, last) ↦ inr (none, joined_count bytes count consumed rest few sum all, last)
]

pub in_turn : Joined → Cut → (events : List HostEvent) (h after : HostView) (bytes more : List ℕ) (consumed : ℕ) → Up h (bytes ++ more)
    → HearsInTurn h bytes events consumed after → AllLeft events consumed after bytes more
in_turn joined cut [] h after bytes more consumed goes heard =
    let on = no_event cut h after bytes more consumed goes.up goes.whole heard in inr (λ ends. ends, on.0, on.1)
in_turn joined cut (e ∷ es) h after bytes more consumed goes (count, next, some, heard, later) =
    more_in_turn e es next after bytes more count consumed (one_event joined cut h next bytes more count e goes.up some goes.whole heard) later
    (λ rest on more_heard. in_turn joined cut es next after (drop count bytes) more rest on more_heard)

pub whole_answers : Joined → Cut → (h after : HostView) (bytes more : List ℕ) (events : List HostEvent) (consumed : ℕ) → h.phase ≢ Down
    → AreWholeAnswers (h.half ++ (bytes ++ more)) → HearsAll h bytes events consumed after → IsOff events after ⊎ GoesOn bytes more events consumed after
whole_answers joined cut h after bytes more events consumed up whole (inl (is_down, none, all, same)) = absurd (up is_down)
whole_answers joined cut h after bytes more events consumed up whole (inr (also, heard)) =
    elim (in_turn joined cut events h after bytes more consumed (record { up = up; whole = whole }) heard) [
      | inl (ends, off) ↦ inl (record { ends = ends; phase = off.phase; half = off.half })
      | inr (on, all, goes) ↦ inr (record { on = on; all = all; up = goes.up; whole = goes.whole })
    ]

-- ## One event, whatever the bytes are

still_up : (h after : HostView) (half : List ℕ) (byte at : ℕ) (e : HostEvent) → h.phase ≢ Down → e ≢ event.None → (EndsLink e → ⊥)
    → HearsByte (with_half h half) byte at e after → after.phase ≢ Down
still_up h after half byte at e up some on (inl grows) = absurd (no_growth (with_half h half) after byte e some grows)
still_up h after half byte at e up some on (inr (inl misfit)) = absurd (on (misfit_ends (with_half h half) after byte at e misfit).0)
still_up h after half byte at e up some on (inr (inr (a, spelled, turns))) = elim (turned (with_half (with_half h half) []) after a e up refl turns) [
  | inl (ends, off) ↦ absurd (on ends)
  | inr (also, still, none) ↦ still
]

pub one_step : (h after : HostView) (bytes : List ℕ) (count : ℕ) (e : HostEvent) → h.phase ≢ Down → (EndsLink e → ⊥) → IsHeard h bytes count e after
    → (count ≤ length bytes) × (after.phase ≢ Down) × (e ≢ event.None → 0 < count)
one_step h after bytes count e up on (inl (none, all, passed, same)) = (
  omega (arith, all),
  λ is_down. up (sym (ap (λ (v : HostView). v.phase) same) ∙ is_down),
  λ some. absurd (some none),
)
one_step h after bytes count e up on (inr (at, half, within, some, is_count, passed, heard)) =
    let one = counted e at on in (
      omega (arith, is_count, one, within),
      still_up h after half (slice_index bytes at) at e up some on heard,
      λ also. omega (arith, is_count, one),
    )
