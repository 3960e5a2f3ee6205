-- Events that a host hears one after another, from the first to the last.
use Rattle.std.proofs.Common.{◌≡◌, ◌≢◌, ◌≤◌, ◌+◌, ◌-◌, inl, inr, ℕ, List, [], ◌∷◌, ◌++◌, length, take, drop, refl, sym, ◌∙◌, ap, subst, append-nil, append_assoc, length-drop, arith}
use Rattle.std.proofs.lemmas.List.{drop-drop, take_all}
use Rattle.escpos_host.specs.declared.host.HostEvent.{HostEvent}
use Rattle.escpos_host.specs.declared.host.HostEvent.TheVariants as event
use Rattle.escpos_host.specs.Heard.{EndsLink, HearsAll, HearsInTurn, IsHeard, last_of}
use Rattle.escpos_host.specs.Machine.{HostView, Down}
use Rattle.escpos_link.specs.EventTable.{told_at}

-- These were the events so far, none of which ended the link, and whatever is heard from now on was heard after them.
pub record SoFar (h : HostView) (bytes : List ℕ) (consumed : ℕ) (last : HostEvent) (now : HostView) : Type 0 where
  pub before : h.phase ≢ Down
  pub up : now.phase ≢ Down
  pub within : consumed ≤ length bytes
  pub events : List HostEvent
  pub is_last : last ≡ last_of events
  pub on : EndsLink last → ⊥
  pub goes : (others : List HostEvent) (k : ℕ) (after : HostView) → HearsInTurn now (drop consumed bytes) others k after
      → HearsInTurn h bytes (events ++ others) (consumed + k) after

pub begin : (h : HostView) (bytes : List ℕ) → h.phase ≢ Down → SoFar h bytes 0 event.None h
begin h bytes up = record {
  before = up;
  up = up;
  within = omega arith;
  events = [];
  is_last = refl;
  on = λ ends. ends;
  goes = λ others k after heard. let same : k ≡ 0 + k = omega arith in subst (λ n. HearsInTurn h bytes others n after) same heard;
}

-- The rest of a piece, as a slice gives it.
pub rest_is : (bytes : List ℕ) (consumed : ℕ) → take (length bytes - consumed) (drop consumed bytes) ≡ drop consumed bytes
rest_is bytes consumed = take_all (length bytes - consumed) (drop consumed bytes) (omega (arith, length-drop consumed bytes))

last-snoc : (events : List HostEvent) (e : HostEvent) → last_of (events ++ e ∷ []) ≡ e
last-snoc [] e = refl
last-snoc (f ∷ []) e = refl
last-snoc (f ∷ g ∷ events) e = last-snoc (g ∷ events) e

-- An event that isn't a bad answer ends no link.
pub on_goes : (e : HostEvent) → ((at : ℕ) → e ≡ event.BadAnswer at → ⊥) → EndsLink e → ⊥
on_goes event.None other ends = ends
on_goes event.Opened other ends = ends
on_goes (event.Recorded n) other ends = ends
on_goes (event.Status b) other ends = ends
on_goes (event.Condition block) other ends = ends
on_goes (event.Late id) other ends = ends
on_goes (event.BadAnswer at) other ends = other at refl

-- One more event.
pub next : (h now after : HostView) (bytes : List ℕ) (consumed count : ℕ) (last e : HostEvent) → (s : SoFar h bytes consumed last now) → e ≢ event.None → (EndsLink e → ⊥)
    → count ≤ length (drop consumed bytes) → after.phase ≢ Down → IsHeard now (drop consumed bytes) count e after → SoFar h bytes (consumed + count) e after
next h now after bytes consumed count last e s some on few up heard = record {
  before = s.before;
  up = up;
  within = omega (arith, few, s.within, length-drop consumed bytes);
  events = s.events ++ e ∷ [];
  is_last = sym (last-snoc s.events e);
  on = on;
  goes = λ others k final more.
      let rest = subst (λ bs. HearsInTurn after bs others k final) (sym (drop-drop count consumed bytes)) more in
      let whole = s.goes (e ∷ others) (count + k) final (count, after, some, heard, inr (on, (k, refl, rest))) in
      let sum : consumed + (count + k) ≡ consumed + count + k = omega arith in
      subst (λ n. HearsInTurn h bytes ((s.events ++ e ∷ []) ++ others) n final) sum
      (subst (λ es. HearsInTurn h bytes es (consumed + (count + k)) final) (sym (append_assoc s.events (e ∷ []) others)) whole);
}

-- The result: the events, and the last one as reported.
pub record Heard (h : HostView) (bytes : List ℕ) (consumed : ℕ) (told : HostEvent) (after : HostView) : Type 0 where
  pub events : List HostEvent
  pub hears : HearsAll h bytes events consumed after
  pub is_told : told ≡ told_at (last_of events) consumed

told_same : (e : HostEvent) (consumed : ℕ) → (EndsLink e → ⊥) → told_at e consumed ≡ e
told_same event.None consumed on = refl
told_same event.Opened consumed on = refl
told_same (event.Recorded n) consumed on = refl
told_same (event.Status b) consumed on = refl
told_same (event.Condition block) consumed on = refl
told_same (event.Late id) consumed on = refl
told_same (event.BadAnswer at) consumed on = absurd (on tt)

-- The rest of the piece passed.
pub all_heard : (h now after : HostView) (bytes : List ℕ) (consumed count : ℕ) (last : HostEvent) → (s : SoFar h bytes consumed last now)
    → IsHeard now (drop consumed bytes) count event.None after → Heard h bytes (consumed + count) last after
all_heard h now after bytes consumed count last s heard = record {
  events = s.events;
  hears = inr (s.before, subst (λ es. HearsInTurn h bytes es (consumed + count) after) (append-nil s.events) (s.goes [] count after heard));
  is_told = sym (ap (λ e. told_at e (consumed + count)) (sym s.is_last) ∙ told_same last (consumed + count) s.on);
}

-- An event has ended the link.
pub ended : (h now after : HostView) (bytes : List ℕ) (consumed count place : ℕ) (last : HostEvent) → (s : SoFar h bytes consumed last now)
    → IsHeard now (drop consumed bytes) count (event.BadAnswer place) after → Heard h bytes (consumed + count) (event.BadAnswer (consumed + count)) after
ended h now after bytes consumed count place last s heard = record {
  events = s.events ++ event.BadAnswer place ∷ [];
  hears = inr (s.before, s.goes (event.BadAnswer place ∷ []) count after (count, after, (λ bad. cc bad), heard, inl (tt, refl, refl, refl)));
  is_told = sym (ap (λ e. told_at e (consumed + count)) (last-snoc s.events (event.BadAnswer place)));
}

-- The event as reported ends the link where the event does.
pub told_ends : (e : HostEvent) (consumed at : ℕ) → event.BadAnswer at ≡ told_at e consumed → EndsLink e
told_ends event.None consumed at bad = cc bad
told_ends event.Opened consumed at bad = cc bad
told_ends (event.Recorded n) consumed at bad = cc bad
told_ends (event.Status b) consumed at bad = cc bad
told_ends (event.Condition block) consumed at bad = cc bad
told_ends (event.Late id) consumed at bad = cc bad
told_ends (event.BadAnswer place) consumed at bad = tt

pub ends_told : (e : HostEvent) (consumed : ℕ) → EndsLink e → (at : ℕ) × (told_at e consumed ≡ event.BadAnswer at)
ends_told event.None consumed ends = absurd ends
ends_told event.Opened consumed ends = absurd ends
ends_told (event.Recorded n) consumed ends = absurd ends
ends_told (event.Status b) consumed ends = absurd ends
ends_told (event.Condition block) consumed ends = absurd ends
ends_told (event.Late id) consumed ends = absurd ends
ends_told (event.BadAnswer place) consumed ends = (consumed, refl)
