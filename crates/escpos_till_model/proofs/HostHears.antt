-- A host that hears bytes stays sound, and what it has recorded grows by what they answer.
use Rattle.std.proofs.Common.{ℕ, zero, suc, ◌≡◌, ◌≢◌, ◌+◌, ◌-◌, ◌<◌, ◌≤◌, ◌⊎◌, inl, inr, List, [], ◌∷◌, ◌++◌, length, take, drop, refl, sym, ◌∙◌, ap, subst, append-nil, length-append, arith}
use Rattle.std.specs.Prelude.{map, slice_index}
use Rattle.escpos_command.specs.declared.command.Command.{Command}
use Rattle.escpos_host.specs.Earlier.{with_earlier}
use Rattle.escpos_host.specs.Machine.{HostView, Phase, Down, Opening, Open, IsSound, in_flight, most_in_flight, receipts_of, InFlight}
use Rattle.escpos_command.specs.declared.answer.Answer.{Answer}
use Rattle.escpos_command.specs.Answers.{HalfAnswer}
use Rattle.escpos_host.specs.declared.host.HostEvent.{HostEvent}
use Rattle.escpos_host.specs.declared.host.HostEvent.TheVariants as heard
use Rattle.escpos_host.specs.Earlier.{shifted}
use Rattle.escpos_host.specs.Heard.{EndsLink, Grows, HearsAll, HearsByte, IsHeard, IsToldLate, Misfits, Passed, RecordsUpTo, Turns, last_of, taken_at, with_half}
use Rattle.std.proofs.lemmas.List.{get_or-take, length-take-le}
use Rattle.escpos_link.specs.declared.event.Event.TheVariants as event
use Rattle.escpos_link.specs.declared.event.Note.TheVariants as note
use Rattle.escpos_link.specs.EventTable.{After}
use Rattle.escpos_link.specs.Wire.{WireView, heard_from, line_of}
use Rattle.escpos_link.proofs.AtTheEnd.{heard_on}
use Rattle.escpos_host.proofs.Earlier.{earlier_hears, ends_shifted, last_shifted}
use Rattle.escpos_host.proofs.Recording.{keeps, none_has, told}
use Rattle.escpos_link.proofs.Promising.{receipts_join}
use Rattle.escpos_till_model.proofs.HeardLemmas.{record_heard}
use Rattle.escpos_till_model.specs.Late.{HasJustBegun}
use Rattle.escpos_till_model.proofs.LinesKept.{LineLaws, Right}
use Rattle.escpos_till_model.proofs.WorldCalls.{whole}

-- ## Answers are heard

pub take_front : {X : Type 0} (k n : ℕ) (xs : List X) → k ≤ n → take k (take n xs) ≡ take k xs
take_front zero n xs l = refl
take_front (suc k) zero xs l = absurd (omega (arith, l))
take_front (suc k) (suc n) [] l = refl
take_front (suc k) (suc n) (x ∷ xs) l = ap (λ v. x ∷ v) (take_front k n xs (omega (arith, l)))

pub drop_front : {X : Type 0} (n : ℕ) (xs : List X) → drop n (take n xs) ≡ []
drop_front zero xs = refl
drop_front (suc n) [] = refl
drop_front (suc n) (x ∷ xs) = drop_front n xs

pub length_front : {X : Type 0} (n : ℕ) (xs : List X) → length (take n xs) ≤ n
length_front zero xs = omega arith
length_front (suc n) [] = omega arith
length_front (suc n) (x ∷ xs) = omega (arith, length_front n xs)

pub take_whole : {X : Type 0} (n : ℕ) (xs : List X) → take (length (take n xs)) xs ≡ take n xs
take_whole zero xs = refl
take_whole (suc n) [] = refl
take_whole (suc n) (x ∷ xs) = ap (λ v. x ∷ v) (take_whole n xs)

few_after : (before : List InFlight) (last : InFlight) (others : List InFlight) (n : ℕ) → length (before ++ last ∷ others) ≤ n → length others ≤ n
few_after before last others n few = omega (arith, few, length-append before (last ∷ others))

few_receipts_after : (before : List InFlight) (last : InFlight) (others : List InFlight) (n : ℕ) → length (receipts_of (before ++ last ∷ others)) ≤ n → length (receipts_of others) ≤ n
few_receipts_after before last others n few =
    omega (arith, few, ap length (receipts_join before (last ∷ others)), length-append (receipts_of before) (last.receipt ∷ receipts_of others))

-- A host that has recorded receipts is as sound as before.
sound_recorded : (h after : HostView) (id : List ℕ) (number : ℕ) → h.half ≡ [] → h.phase ≢ Down → IsSound h → RecordsUpTo h id number after → IsSound after
sound_recorded h after id number half up sound r = elim r.way [
  | inl (flight, phase, f, same) ↦ subst IsSound (sym same) (record {
    quiet = λ down. absurd (let bad : Open r.others ≡ Down = down in cc);
    few = few_receipts_after r.before r.last r.others most_in_flight (subst (λ (v : Phase). length (in_flight v) ≤ most_in_flight) (phase ∙ ap Open f.all_are) sound.few);
    few_left = sound.few_left;
    half = inl half;
  })
  | inr (first, phase, other, f, same) ↦ subst IsSound (sym same) (record {
    quiet = λ down. absurd (up down);
    few = sound.few;
    few_left = few_after r.before r.last r.others most_in_flight (subst (λ ps. length ps ≤ most_in_flight) f.all_are sound.few_left);
    half = inl half;
  })
]

sound_told : (h after : HostView) (first : ℕ) (id : List ℕ) → h.half ≡ [] → h.phase ≢ Down → IsSound h → h.phase ≡ Opening first → IsToldLate h first id after → IsSound after
sound_told h after first id half up sound phase (inl (n, number, same)) =
    subst IsSound (sym same) (record { quiet = λ down. absurd (up down); few = sound.few; few_left = sound.few_left; half = inl half })
sound_told h after first id half up sound phase (inr (none, same)) = subst IsSound (sym same) sound

-- After an event no half answer is left, and the host is as sound as before.
pub sound_turned : (h after : HostView) (a : Answer) (e : HostEvent) → h.half ≡ [] → h.phase ≢ Down → IsSound h → Turns h a e after → (EndsLink e → ⊥) → e ≢ heard.None
    → (after.half ≡ []) × IsSound after × (after.phase ≢ Down)
sound_turned h after a heard.None half up sound t on some = absurd (some refl)
sound_turned h after a heard.Opened half up sound (first, n, id, phase, is, mark, same) on some = (
  ap (λ v. v.half) same ∙ half,
  subst IsSound (sym same) (record { quiet = λ down. absurd (let bad : Open [] ≡ Down = down in cc); few = omega arith; few_left = sound.few_left; half = inl half }),
  λ down. let bad : Open [] ≡ Down = ap (λ v. v.phase) (sym same) ∙ down in cc,
)
sound_turned h after a (heard.Recorded number) half up sound (id, is, r) on some =
    let kept = keeps h after id number r in (kept.half ∙ half, sound_recorded h after id number half up sound r, kept.up)
sound_turned h after a (heard.Status byte) half up sound (is, same) on some =
    (ap (λ v. v.half) same ∙ half, subst IsSound (sym same) sound, λ down. up (ap (λ v. v.phase) (sym same) ∙ down))
sound_turned h after a (heard.Condition block) half up sound (is, same) on some =
    (ap (λ v. v.half) same ∙ half, subst IsSound (sym same) sound, λ down. up (ap (λ v. v.phase) (sym same) ∙ down))
sound_turned h after a (heard.Late id) half up sound (first, phase, is, other, unleft, late) on some =
    let t = told h after first id phase late in (t.keeps.half ∙ half, sound_told h after first id half up sound phase late, t.keeps.up)
sound_turned h after a (heard.BadAnswer place) half up sound t on some = absurd t

pub sound_half : (h : HostView) (half : List ℕ) → h.phase ≢ Down → IsSound h → (half ≡ []) ⊎ HalfAnswer half → IsSound (with_half h half)
sound_half h half up sound rest = record { quiet = λ down. absurd (up down); few = sound.few; few_left = sound.few_left; half = rest }

pub no_growth : (h : HostView) (byte : ℕ) (e : HostEvent) (after : HostView) → e ≢ heard.None → Grows h byte e after → ⊥
no_growth h byte heard.None after some g = some refl
no_growth h byte heard.Opened after some g = g
no_growth h byte (heard.Recorded number) after some g = g
no_growth h byte (heard.Status b) after some g = g
no_growth h byte (heard.Condition b) after some g = g
no_growth h byte (heard.Late id) after some g = g
no_growth h byte (heard.BadAnswer place) after some g = g

pub no_misfit : (h : HostView) (byte at : ℕ) (e : HostEvent) (after : HostView) → (EndsLink e → ⊥) → Misfits h byte at e after → ⊥
no_misfit h byte at heard.None after on m = m
no_misfit h byte at heard.Opened after on m = m
no_misfit h byte at (heard.Recorded number) after on m = m
no_misfit h byte at (heard.Status b) after on m = m
no_misfit h byte at (heard.Condition b) after on m = m
no_misfit h byte at (heard.Late id) after on m = m
no_misfit h byte at (heard.BadAnswer place) after on m = on tt

pub sound_byte : (h after : HostView) (byte at : ℕ) (e : HostEvent) → h.phase ≢ Down → IsSound h → HearsByte h byte at e after → (EndsLink e → ⊥) → e ≢ heard.None
    → (after.half ≡ []) × IsSound after × (after.phase ≢ Down)
sound_byte h after byte at e up sound (inl g) on some = absurd (no_growth h byte e after some g)
sound_byte h after byte at e up sound (inr (inl m)) on some = absurd (no_misfit h byte at e after on m)
sound_byte h after byte at e up sound (inr (inr (a, spells, turns))) on some =
    sound_turned (with_half h []) after a e refl up (sound_half h [] up sound (inl refl)) turns on some

pub taken_one : (e : HostEvent) (at : ℕ) → (EndsLink e → ⊥) → taken_at e at ≡ at + 1
taken_one heard.None at on = refl
taken_one heard.Opened at on = refl
taken_one (heard.Recorded number) at on = refl
taken_one (heard.Status byte) at on = refl
taken_one (heard.Condition block) at on = refl
taken_one (heard.Late id) at on = refl
taken_one (heard.BadAnswer place) at on = absurd (on tt)

-- What was heard up to the first event: it is an event of the line, and leaves a sound host with a link.
pub record HeardOne (h : HostView) (coming : List ℕ) (consumed : ℕ) (e : HostEvent) (after : HostView) : Type 0 where
  pub events : List HostEvent
  pub hears : HearsAll h (take consumed coming) events consumed after
  pub last : last_of events ≡ e
  pub sound : IsSound after
  pub up : after.phase ≢ Down

pub passed_nothing : (h : HostView) → h.half ≡ [] → Passed h [] h.half
passed_nothing h none = record { ignored = []; hears = record { in_range = tt; whole = append-nil h.half; rest_is = inl none }; each = tt }

pub none_or_some : (e : HostEvent) → (e ≡ heard.None) ⊎ (e ≢ heard.None)
none_or_some heard.None = inl refl
none_or_some heard.Opened = inr (λ same. cc same)
none_or_some (heard.Recorded number) = inr (λ same. cc same)
none_or_some (heard.Status byte) = inr (λ same. cc same)
none_or_some (heard.Condition block) = inr (λ same. cc same)
none_or_some (heard.Late id) = inr (λ same. cc same)
none_or_some (heard.BadAnswer place) = inr (λ same. cc same)

pub heard_one : (h after : HostView) (coming : List ℕ) (most consumed : ℕ) (e : HostEvent) → h.phase ≢ Down → IsSound h → IsHeard h (take most coming) consumed e after → (EndsLink e → ⊥)
    → HeardOne h coming consumed e after
heard_one h after coming most consumed e up sound (inl (none, all, passed, same)) on =
    let whole : take consumed coming ≡ take most coming = ap (λ n. take n coming) all ∙ take_whole most coming in
    record {
      events = [];
      hears = inr (up, subst (λ bs. IsHeard h bs consumed heard.None after) (sym whole) (inl (refl, all, passed, same)));
      last = sym none;
      sound = subst IsSound (sym same) (sound_half h after.half up sound passed.hears.rest_is);
      up = λ down. up (ap (λ v. v.phase) (sym same) ∙ down);
    }
heard_one h after coming most consumed e up sound (inr (at, half, within, some, count, passed, byte)) on =
    let one : consumed ≡ at + 1 = count ∙ taken_one e at on in
    let few : length (take most coming) ≤ most = length_front most coming in
    let bytes : List ℕ = take most coming in
    let piece : List ℕ = take consumed coming in
    let front : take at piece ≡ take at bytes =
    take_front at consumed coming (omega (arith, one)) ∙ sym (take_front at most coming (omega (arith, within, few))) in
    let same_byte : slice_index piece at ≡ slice_index bytes at =
    get_or-take consumed coming at 0 (omega (arith, one)) ∙ sym (get_or-take most coming at 0 (omega (arith, within, few))) in
    let long : consumed ≤ length bytes = omega (arith, one, within) in
    let same_piece : take consumed bytes ≡ piece = take_front consumed most coming (omega (arith, long, few)) in
    let inside : at < length piece = omega (arith, one, ap length same_piece, length-take-le consumed bytes long) in
    let turned = sound_byte (with_half h half) after (slice_index bytes at) at e up (sound_half h half up sound passed.hears.rest_is) byte on some in
    let heard_so : IsHeard h piece consumed e after =
    inr (at, half, inside, some, count, subst (λ bs. Passed h bs half) (sym front) passed, subst (λ b. HearsByte (with_half h half) b at e after) (sym same_byte) byte) in
    let rest : IsHeard after (drop consumed piece) 0 heard.None after =
    subst (λ bs. IsHeard after bs 0 heard.None after) (sym (drop_front consumed coming)) (inl (refl, refl, passed_nothing after turned.0, refl)) in
    record {
      events = e ∷ [];
      hears = inr (up, (consumed, after, some, heard_so, inr (on, (0, omega arith, rest))));
      last = refl;
      sound = turned.1;
      up = turned.2;
    }

-- No byte ends the link of a till.
pub in_turn : LineLaws → (earlier : List (List Command)) (h after : HostView) (w : WireView) (most consumed : ℕ) (e : HostEvent) → h.phase ≢ Down
    → Right (line_of (with_earlier earlier h) w) → IsHeard h (take most w.coming) consumed e after → EndsLink e → ⊥
in_turn laws earlier h after w most consumed e up right hears ends =
    let bad : e ≢ heard.None = λ none. subst EndsLink none ends in
    let all : HearsAll h (take most w.coming) (e ∷ []) consumed after = inr (up, (consumed, after, bad, hears, inl (ends, refl, refl, refl))) in
    laws.turn (with_earlier earlier h) (with_earlier earlier after) w most consumed (map (shifted (length earlier)) (e ∷ [])) right.line right.trusted
    (earlier_hears earlier h after (take most w.coming) (e ∷ []) consumed all) ((ends_shifted (length earlier) e).0 ends)

-- The line's event.
pub heard_after : (earlier : List (List Command)) (h after : HostView) (w : WireView) (consumed : ℕ) (e : HostEvent) → (one : HeardOne h w.coming consumed e after) → (EndsLink e → ⊥)
    → After (event.Answer consumed) (line_of (with_earlier earlier h) w)
    (note.Heard consumed (last_of (map (shifted (length earlier)) one.events))) (line_of (with_earlier earlier after) (heard_from w consumed))
heard_after earlier h after w consumed e one on =
    let last : last_of (map (shifted (length earlier)) one.events) ≡ shifted (length earlier) e = last_shifted (length earlier) one.events ∙ ap (shifted (length earlier)) one.last in
    heard_on (with_earlier earlier h) (with_earlier earlier after) w consumed consumed (map (shifted (length earlier)) one.events)
    (earlier_hears earlier h after (take consumed w.coming) one.events consumed one.hears)
    (λ ends. on ((ends_shifted (length earlier) e).1 (subst EndsLink last ends)))

-- What hearing does to the records.
abbrev pub Grew : HostEvent → List (List Command) → List (List Command) → Type 0
Grew (heard.Recorded number) old new = length old < length new
Grew e old new = new ≡ old

longer : (old new : List (List Command)) (before : List InFlight) (last : InFlight) → new ≡ old ++ receipts_of (before ++ last ∷ []) → length old < length new
longer old new before last is =
    omega (arith, ap length is, length-append old (receipts_of (before ++ last ∷ [])), ap length (receipts_join before (last ∷ [])), length-append (receipts_of before) (last.receipt ∷ []))

pub grew_turned : (h after : HostView) (a : Answer) (e : HostEvent) → Turns h a e after → (EndsLink e → ⊥) → Grew e h.records after.records
grew_turned h after a heard.None (ignores, same) on = ap (λ v. v.records) same
grew_turned h after a heard.Opened (first, n, id, phase, is, mark, same) on = ap (λ v. v.records) same
grew_turned h after a (heard.Recorded number) (id, is, r) on = elim r.way [
  | inl (flight, phase, f, same) ↦ longer h.records after.records r.before r.last (ap (λ v. v.records) same)
  | inr (first, phase, other, f, same) ↦ longer h.records after.records r.before r.last (ap (λ v. v.records) same)
]
grew_turned h after a (heard.Status byte) (is, same) on = ap (λ v. v.records) same
grew_turned h after a (heard.Condition block) (is, same) on = ap (λ v. v.records) same
grew_turned h after a (heard.Late id) (first, phase, is, other, unleft, late) on = (told h after first id phase late).records
grew_turned h after a (heard.BadAnswer place) t on = absurd t

pub grew_byte : (h after : HostView) (byte at : ℕ) (e : HostEvent) → HearsByte h byte at e after → (EndsLink e → ⊥) → e ≢ heard.None → Grew e h.records after.records
grew_byte h after byte at e (inl g) on some = absurd (no_growth h byte e after some g)
grew_byte h after byte at e (inr (inl m)) on some = absurd (no_misfit h byte at e after on m)
grew_byte h after byte at e (inr (inr (a, spells, turns))) on some = grew_turned (with_half h []) after a e turns on

pub grew : (h after : HostView) (bytes : List ℕ) (consumed : ℕ) (e : HostEvent) → IsHeard h bytes consumed e after → (EndsLink e → ⊥) → Grew e h.records after.records
grew h after bytes consumed e (inl (none, all, passed, same)) on =
    subst (λ x. Grew x h.records after.records) (sym none) (ap (λ v. v.records) same)
grew h after bytes consumed e (inr (at, half, within, some, count, passed, byte)) on = grew_byte (with_half h half) after (slice_index bytes at) at e byte on some

-- An answer to a mark of an older link comes while a link is being opened.
abbrev pub StillOpening : HostEvent → HostView → Type 0
StillOpening (heard.Late id) h = (first : ℕ) × (h.phase ≡ Opening first)
StillOpening e h = Unit {0}

-- A host that is opening its first link has recorded nothing yet, and is still opening it if the event says so.
pub begun_turned : (h after : HostView) (a : Answer) (e : HostEvent) → Turns h a e after → (EndsLink e → ⊥) → HasJustBegun h → HasJustBegun after × StillOpening e after
begun_turned h after a heard.None (ignores, same) on begun = (subst HasJustBegun (sym same) begun, tt)
begun_turned h after a heard.Opened (first, n, id, phase, is, mark, same) on begun =
    (λ f opening. absurd (let bad : Open [] ≡ Opening f = ap (λ v. v.phase) (sym same) ∙ opening in cc), tt)
begun_turned h after a (heard.Recorded number) (id, is, r) on begun = elim r.way [
  | inl (flight, phase, f, same) ↦ (λ first opening. absurd (let bad : Open r.others ≡ Opening first = ap (λ v. v.phase) (sym same) ∙ opening in cc), tt)
  | inr (first, phase, other, f, same) ↦ absurd (none_has r.before r.others r.last (sym (begun first phase).1 ∙ f.all_are))
]
begun_turned h after a (heard.Status byte) (is, same) on begun = (subst HasJustBegun (sym same) begun, tt)
begun_turned h after a (heard.Condition block) (is, same) on begun = (subst HasJustBegun (sym same) begun, tt)
begun_turned h after a (heard.Late id) (first, phase, is, other, unleft, late) on begun =
    let t = told h after first id phase late in (
      λ f opening. let nothing = begun f (sym t.phase ∙ opening) in (t.records ∙ nothing.0, t.left ∙ nothing.1),
      (first, t.phase ∙ phase),
    )
begun_turned h after a (heard.BadAnswer place) t on begun = absurd t

pub begun_byte : (h after : HostView) (byte at : ℕ) (e : HostEvent) → HearsByte h byte at e after → (EndsLink e → ⊥) → e ≢ heard.None → HasJustBegun h → HasJustBegun after × StillOpening e after
begun_byte h after byte at e (inl g) on some begun = absurd (no_growth h byte e after some g)
begun_byte h after byte at e (inr (inl m)) on some begun = absurd (no_misfit h byte at e after on m)
begun_byte h after byte at e (inr (inr (a, spells, turns))) on some begun = begun_turned (with_half h []) after a e turns on begun

pub heard_begun : (h after : HostView) (bytes : List ℕ) (consumed : ℕ) (e : HostEvent) → IsHeard h bytes consumed e after → (EndsLink e → ⊥) → HasJustBegun h
    → HasJustBegun after × StillOpening e after
heard_begun h after bytes consumed e (inl (none, all, passed, same)) on begun = (
  λ f opening.
      let nothing = begun f (ap (λ v. v.phase) (sym same) ∙ opening) in
      (ap (λ v. v.records) same ∙ nothing.0, ap (λ v. v.left) same ∙ nothing.1),
  subst (λ x. StillOpening x after) (sym none) tt,
)
heard_begun h after bytes consumed e (inr (at, half, within, some, count, passed, byte)) on begun = begun_byte (with_half h half) after (slice_index bytes at) at e byte on some begun

-- Where a receipt was recorded, a mark was answered.
abbrev pub IsSome : HostEvent → HostView → Type 0
IsSome (heard.Recorded number) h = 0 < h.heard
IsSome e h = Unit {0}

pub some_heard : (h after : HostView) (bytes : List ℕ) (consumed : ℕ) (e : HostEvent) → IsHeard h bytes consumed e after → IsSome e after
some_heard h after bytes consumed heard.None is = tt
some_heard h after bytes consumed heard.Opened is = tt
some_heard h after bytes consumed (heard.Recorded number) is = record_heard h after bytes consumed number is
some_heard h after bytes consumed (heard.Status byte) is = tt
some_heard h after bytes consumed (heard.Condition block) is = tt
some_heard h after bytes consumed (heard.Late id) is = tt
some_heard h after bytes consumed (heard.BadAnswer place) is = tt

-- What may be recorded may be with what the host has heard.
