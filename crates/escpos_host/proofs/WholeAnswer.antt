-- A host that has no half answer hears all the bytes of one answer.
use Rattle.std.proofs.Common.{◌≡◌, ◌≢◌, ◌<◌, ◌+◌, inl, inr, ℕ, List, [], ◌∷◌, ◌++◌, length, take, drop, refl, sym, ◌∙◌, ap, subst, append-nil, append_assoc, length-append, length-take, take-append-drop, arith, IsTrue}
use Rattle.std.specs.Prelude.{slice_index}
use Rattle.std.specs.List.{AllByRecursion}
use Rattle.std.proofs.lemmas.List.{drop_all, drop_more}
use Rattle.escpos_command.specs.declared.answer.Answer.{Answer}
use Rattle.escpos_command.specs.Answers.{AnswerSpells, Hears, answer_bytes, is_answer, spell_answers}
use Rattle.escpos_host.specs.declared.host.HostEvent.{HostEvent}
use Rattle.escpos_host.specs.declared.host.HostEvent.TheVariants as event
use Rattle.escpos_host.specs.Heard.{EndsLink, HearsAll, HearsByte, HearsInTurn, Ignores, IsHeard, Passed, Turns, last_of, taken_at, with_half}
use Rattle.escpos_host.specs.Machine.{HostView, Down}
use Rattle.escpos_host.proofs.EventsInTurn.{Later, counted, no_growth, turned}
use Rattle.escpos_host.proofs.Passing.{whole_heard}

-- What the laws of answers say.
pub record Laws : Type 0 where
  pub cut : (a b : List ℕ) (all some : List Answer) (r : List ℕ) → Hears (a ++ b) all [] → Hears a some r
      → (others : List Answer) × (all ≡ some ++ others) × Hears (r ++ b) others []
  pub one_hearing : (bs : List ℕ) (some others : List Answer) (x y : List ℕ) → Hears bs some x → Hears bs others y → (some ≡ others) × (x ≡ y)
  pub one_answer : (a b : Answer) (bs : List ℕ) → AnswerSpells a bs → AnswerSpells b bs → a ≡ b
  pub no_prefix : (a b : Answer) (bs more : List ℕ) → AnswerSpells a bs → AnswerSpells b (bs ++ more) → more ≡ []

spells : (a : Answer) → IsTrue (is_answer a) → AnswerSpells a (answer_bytes a)
spells a known = record { in_range = known; in_table = refl }

-- An empty half answer changes nothing.
same_half : (h after : HostView) (half : List ℕ) → h.half ≡ [] → half ≡ [] → after ≡ with_half h half → after ≡ h
same_half h after half none also same = same ∙ ap (with_half h) (also ∙ sym none)

-- ## No event

passed_one : Laws → (h after : HostView) (a : Answer) → h.half ≡ [] → IsTrue (is_answer a) → Passed h (answer_bytes a) after.half → after ≡ with_half h after.half
    → Ignores h.phase h.next a × (after ≡ h)
passed_one laws h after a none known passed same =
    let hears : Hears (answer_bytes a) passed.ignored after.half = subst (λ half. Hears (half ++ answer_bytes a) passed.ignored after.half) none passed.hears in
    let one = laws.one_hearing (answer_bytes a) passed.ignored (a ∷ []) after.half [] hears (whole_heard (answer_bytes a) a (spells a known)) in
    ((subst (AllByRecursion (Ignores h.phase h.next)) one.0 passed.each).0, same_half h after after.half none one.1 same)

-- ## An event

alone : (x y : Answer) (xs ys : List Answer) → x ∷ [] ≡ xs ++ (y ∷ ys) → xs ≡ []
alone x y [] ys e = refl
alone x y (z ∷ xs) ys e = absurd (omega (arith, ap length e, length-append xs (y ∷ ys)))

none_of : (a : Answer) (byte : ℕ) (half rest : List ℕ) (some others : List Answer) → a ∷ [] ≡ some ++ others → Hears (half ++ (byte ∷ rest)) others [] → some ≡ []
none_of a byte half rest some [] split hears = absurd (omega (arith, ap length hears.whole, length-append half (byte ∷ rest)))
none_of a byte half rest some (b ∷ others) split hears = alone a b some others split

-- Where some byte of the answer is the next one, no answer came before it.
none_before : Laws → (a : Answer) (front rest half : List ℕ) (byte : ℕ) (some : List Answer) → IsTrue (is_answer a) → answer_bytes a ≡ front ++ (byte ∷ rest)
    → Hears front some half → some ≡ []
none_before laws a front rest half byte some known split heard =
    let whole : Hears (front ++ (byte ∷ rest)) (a ∷ []) [] = subst (λ bs. Hears bs (a ∷ []) []) split (whole_heard (answer_bytes a) a (spells a known)) in
    let cut = laws.cut front (byte ∷ rest) (a ∷ []) some half whole heard in
    none_of a byte half rest some cut.0 cut.1 cut.2

-- The bytes before the one that brought an event are the half answer then.
record Inside (a : Answer) (half : List ℕ) (byte : ℕ) (at : ℕ) : Type 0 where
  pub rest : List ℕ
  pub split : answer_bytes a ≡ (half ++ byte ∷ []) ++ rest
  pub place : length half ≡ at

inside : Laws → (h : HostView) (a : Answer) (half : List ℕ) (at : ℕ) → h.half ≡ [] → IsTrue (is_answer a) → at < length (answer_bytes a)
    → Passed h (take at (answer_bytes a)) half → Inside a half (slice_index (answer_bytes a) at) at
inside laws h a half at none known within passed =
    let bytes = answer_bytes a in
    let front = take at bytes in
    let byte = slice_index bytes at in
    let rest = drop (at + 1) bytes in
    let split : bytes ≡ front ++ (byte ∷ rest) = sym (take-append-drop at bytes) ∙ ap (λ v. front ++ v) (drop_more bytes at 0 within) in
    let heard : Hears front passed.ignored half = subst (λ x. Hears (x ++ front) passed.ignored half) none passed.hears in
    let no_one = none_before laws a front rest half byte passed.ignored known split heard in
    let front_is : front ≡ half = heard.whole ∙ ap (λ xs. spell_answers xs ++ half) no_one in
    record {
      rest = rest;
      split = split ∙ ap (λ v. v ++ (byte ∷ rest)) front_is ∙ sym (append_assoc half (byte ∷ []) rest);
      place = omega (arith, ap length front_is, within, length-take at bytes);
    }

-- The whole answer is what brought the event, and its last byte is the place of it.
pub record Brought (h : HostView) (a : Answer) (consumed : ℕ) (e : HostEvent) (after : HostView) : Type 0 where
  pub at : ℕ
  pub last : at + 1 ≡ length (answer_bytes a)
  pub count : consumed ≡ taken_at e at
  pub turns : Turns h a e after

by_byte : Laws → (h after : HostView) (a : Answer) (half : List ℕ) (byte at consumed : ℕ) (e : HostEvent) → h.half ≡ [] → IsTrue (is_answer a) → e ≢ event.None
    → Inside a half byte at → consumed ≡ taken_at e at → HearsByte (with_half h half) byte at e after → Brought h a consumed e after
by_byte laws h after a half byte at consumed e none known some place count (inl grows) = absurd (no_growth (with_half h half) after byte e some grows)
by_byte laws h after a half byte at consumed event.None none known some place count (inr (inl misfit)) = absurd misfit
by_byte laws h after a half byte at consumed event.Opened none known some place count (inr (inl misfit)) = absurd misfit
by_byte laws h after a half byte at consumed (event.Recorded n) none known some place count (inr (inl misfit)) = absurd misfit
by_byte laws h after a half byte at consumed (event.Late id) none known some place count (inr (inl misfit)) = absurd misfit
by_byte laws h after a half byte at consumed (event.Status b) none known some place count (inr (inl misfit)) = absurd misfit
by_byte laws h after a half byte at consumed (event.Condition block) none known some place count (inr (inl misfit)) = absurd misfit
by_byte laws h after a half byte at consumed (event.BadAnswer p) none known some place count (inr (inl (here, bad, same))) =
    absurd (bad (a, place.rest, record { in_range = known; in_table = sym place.split }))
by_byte laws h after a half byte at consumed e none known some place count (inr (inr (b, spelled, turns))) =
    let nothing = laws.no_prefix b a (half ++ byte ∷ []) place.rest spelled (record { in_range = known; in_table = sym place.split }) in
    let whole : answer_bytes a ≡ half ++ byte ∷ [] = place.split ∙ ap (λ v. (half ++ byte ∷ []) ++ v) nothing ∙ append-nil (half ++ byte ∷ []) in
    let same : b ≡ a = laws.one_answer b a (half ++ byte ∷ []) spelled (record { in_range = known; in_table = sym whole }) in
    let back : with_half (with_half h half) [] ≡ h = ap (with_half h) (sym none) in
    record {
      at = at;
      last = omega (arith, ap length whole, length-append half (byte ∷ []), place.place);
      count = count;
      turns = subst (λ v. Turns v a e after) back (subst (λ x. Turns (with_half (with_half h half) []) x e after) same turns);
    }

-- ## One answer in turn

-- A host without a half answer that hears nothing stays as it is.
heard_none : Laws → (h after : HostView) (consumed : ℕ) → h.half ≡ [] → IsHeard h [] consumed event.None after → after ≡ h
heard_none laws h after consumed none (inl (no_event, all, passed, same)) =
    let hears : Hears [] passed.ignored after.half = subst (λ x. Hears (x ++ []) passed.ignored after.half) none passed.hears in
    let one = laws.one_hearing [] passed.ignored [] after.half [] hears (record { in_range = tt; whole = refl; rest_is = inl refl }) in
    same_half h after after.half none one.1 same
heard_none laws h after consumed none (inr (at, half, within, some, is_count, passed, heard)) = absurd (some refl)

-- A host hears nothing in no bytes.
heard_some : (h after : HostView) (consumed : ℕ) (e : HostEvent) → e ≢ event.None → IsHeard h [] consumed e after → ⊥
heard_some h after consumed e some (inl (no_event, all, passed, same)) = some no_event
heard_some h after consumed e some (inr (at, half, within, also, is_count, passed, heard)) = omega (arith, within)

first_brought : Laws → (h next : HostView) (a : Answer) (count : ℕ) (e : HostEvent) → h.half ≡ [] → IsTrue (is_answer a) → e ≢ event.None
    → IsHeard h (answer_bytes a) count e next → Brought h a count e next
first_brought laws h next a count e none known some (inl (no_event, all, passed, same)) = absurd (some no_event)
first_brought laws h next a count e none known some (inr (at, half, within, also, is_count, passed, heard)) =
    by_byte laws h next a half (slice_index (answer_bytes a) at) at count e none known some (inside laws h a half at none known within passed) is_count heard

-- After it nothing is left.
nothing_left : (h next : HostView) (a : Answer) (count : ℕ) (e : HostEvent) → (EndsLink e → ⊥) → Brought h a count e next → drop count (answer_bytes a) ≡ []
nothing_left h next a count e on b = drop_all count (answer_bytes a) (omega (arith, b.count, counted e b.at on, b.last))

no_half : (h next : HostView) (a : Answer) (count : ℕ) (e : HostEvent) → h.phase ≢ Down → h.half ≡ [] → (EndsLink e → ⊥) → Brought h a count e next → next.half ≡ []
no_half h next a count e up none on b = elim (turned h next a e up none b.turns) [
  | inl (ends, off) ↦ absurd (on ends)
  | inr (also, still, half) ↦ half
]

finish : Laws → (h next after : HostView) (a : Answer) (e : HostEvent) (es : List HostEvent) (count consumed : ℕ) → h.phase ≢ Down → h.half ≡ []
    → Brought h a count e next → Later e es next after (answer_bytes a) count consumed → Turns h a (last_of (e ∷ es)) after
finish laws h next after a e [] count consumed up none b (inl (ends, is, sum, same)) = subst (λ v. Turns h a e v) (sym same) b.turns
finish laws h next after a e (f ∷ es) count consumed up none b (inl (ends, is, sum, same)) = absurd (cc is)
finish laws h next after a e [] count consumed up none b (inr (on, (rest, sum, heard))) =
    let left = nothing_left h next a count e on b in
    let same = heard_none laws next after rest (no_half h next a count e up none on b) (subst (λ bs. IsHeard next bs rest event.None after) left heard) in
    subst (λ v. Turns h a e v) (sym same) b.turns
finish laws h next after a e (f ∷ es) count consumed up none b (inr (on, (rest, sum, (k, mid, some, heard, later)))) =
    absurd (heard_some next mid k f some (subst (λ bs. IsHeard next bs k f mid) (nothing_left h next a count e on b) heard))

one_in_turn : Laws → (h after : HostView) (a : Answer) (events : List HostEvent) (consumed : ℕ) → h.phase ≢ Down → h.half ≡ [] → IsTrue (is_answer a)
    → HearsInTurn h (answer_bytes a) events consumed after → Turns h a (last_of events) after
one_in_turn laws h after a [] consumed up none known (inl (no_event, all, passed, same)) = passed_one laws h after a none known passed same
one_in_turn laws h after a [] consumed up none known (inr (at, half, within, some, is_count, passed, heard)) = absurd (some refl)
one_in_turn laws h after a (e ∷ es) consumed up none known (count, next, some, heard, later) =
    finish laws h next after a e es count consumed up none (first_brought laws h next a count e none known some heard) later

pub one_answer_heard : Laws → (h after : HostView) (a : Answer) (events : List HostEvent) (consumed : ℕ) → h.phase ≢ Down → h.half ≡ [] → IsTrue (is_answer a)
    → HearsAll h (answer_bytes a) events consumed after → Turns h a (last_of events) after
one_answer_heard laws h after a events consumed up none known (inl (is_down, no_events, all, same)) = absurd (up is_down)
one_answer_heard laws h after a events consumed up none known (inr (also, heard)) = one_in_turn laws h after a events consumed up none known heard
