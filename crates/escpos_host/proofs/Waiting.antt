-- Bytes of answers that are overlooked, piece after piece.
use Rattle.std.proofs.Common.{◌≡◌, ◌≢◌, ◌<◌, ◌≤◌, ◌+◌, ◌-◌, ◌⊎◌, inl, inr, ℕ, List, [], ◌∷◌, ◌++◌, length, take, drop, refl, sym, ◌∙◌, ap, subst, append_assoc, length-append, length-take, length-drop, take-append-drop, drop-cons, add-one, arith, Option}
use Rattle.std.specs.Prelude.{slice_index}
use Rattle.std.specs.List.{AllByRecursion}
use Rattle.std.specs.Io.KnownBytes.{Consumes}
use Rattle.std.proofs.KnownBytes.{Consumes-nil, Consumes-trans}
use Rattle.std.proofs.Math.Seq.{take-add, take-length}
use Rattle.std.proofs.lemmas.List.{take-take, get_or-drop, get_or-take, take_more, drop-take, take-append-le}
use Rattle.escpos_command.specs.declared.answer.Answer.{Answer}
use Rattle.escpos_command.specs.declared.answer.Answer.TheVariants as answer
use Rattle.escpos_command.specs.Answers.{AnswerSpells, HalfAnswer, Hears}
use Rattle.escpos_host.specs.declared.host.HostEvent.{HostEvent}
use Rattle.escpos_host.specs.declared.host.HostEvent.TheVariants as event
use Rattle.escpos_host.specs.Awaits.{Brought, HearsOut, IsOverlooked, IsOverlookedEvent, IsStop, Overlooked, waited}
use Rattle.escpos_host.specs.Heard.{HearsByte, Ignores, IsHeard, IsToldLate, Passed, Turns, taken_at, with_half}
use Rattle.escpos_host.specs.Machine.{Down, HostView, Open, Opening, Phase}
use Rattle.escpos_receipt.proofs.Prefixes.{all_joined}
use Rattle.escpos_host.proofs.Passing.{Joined, none_passed, whole_heard}

-- The byte that brings such an event is taken.
taken_one : (e : HostEvent) (at : ℕ) → IsOverlookedEvent e → taken_at e at ≡ at + 1
taken_one event.None at over = absurd over
taken_one event.Opened at over = absurd over
taken_one (event.Recorded number) at over = absurd over
taken_one (event.Late id) at over = refl
taken_one (event.Status byte) at over = refl
taken_one (event.Condition block) at over = refl
taken_one (event.BadAnswer place) at over = absurd over

-- What is ignored is overlooked.
ignored_one : (phase : Phase) (next : ℕ) (a : Answer) → Ignores phase next a → IsOverlooked phase next a
ignored_one phase next (answer.Status b) h = absurd h
ignored_one phase next (answer.Condition block) h = absurd h
ignored_one Down next (answer.Mark id) h = absurd h
ignored_one (Opening first) next (answer.Mark id) h = absurd h
ignored_one (Open flight) next (answer.Mark id) h = h

ignored_all : (phase : Phase) (next : ℕ) (answers : List Answer) → AllByRecursion (Ignores phase next) answers → AllByRecursion (IsOverlooked phase next) answers
ignored_all phase next [] h = h
ignored_all phase next (a ∷ answers) h = (ignored_one phase next a h.0, ignored_all phase next answers h.1)

pub overlooked_of : (h : HostView) (bytes half : List ℕ) → Passed h bytes half → Overlooked h bytes half
overlooked_of h bytes half p = record { answers = p.ignored; hears = p.hears; each = ignored_all h.phase h.next p.ignored p.each }

-- More is overlooked.
pub overlooked_on : Joined → (h : HostView) (x y half : List ℕ) (heard : ℕ) (later : List ℕ) → Overlooked h x half → Overlooked (waited h half heard) y later → Overlooked h (x ++ y) later
overlooked_on joined h x y half heard later p q = record {
  answers = p.answers ++ q.answers;
  hears = subst (λ bs. Hears bs (p.answers ++ q.answers) later) (append_assoc h.half x y) (joined (h.half ++ x) y p.answers q.answers half later p.hears q.hears);
  each = all_joined (IsOverlooked h.phase h.next) p.answers q.answers p.each q.each;
}

pub overlooked_none : (h : HostView) → (h.half ≡ []) ⊎ HalfAnswer h.half → Overlooked h [] h.half
overlooked_none h sound = overlooked_of h [] h.half (none_passed h sound)

-- A host that waited, and waited again.
waited_so : (h m after : HostView) → m ≡ waited h m.half m.heard → after ≡ waited m after.half after.heard → after ≡ waited h after.half after.heard
waited_so h m after same left = left ∙ ap (λ v. waited v after.half after.heard) same

half_so : (m after : HostView) → after ≡ with_half m after.half → after ≡ waited m after.half after.heard
half_so m after left = left ∙ ap (waited m after.half) (sym (ap (λ (v : HostView). v.heard) left))

-- An event that leaves the host as it is, but for marks of older links that are answered.
pub record Told (h : HostView) (bytes : List ℕ) (consumed : ℕ) (after : HostView) : Type 0 where
  pub some : 0 < consumed
  pub within : consumed ≤ length bytes
  pub overlooked : Overlooked h (take consumed bytes) after.half
  pub same : after ≡ waited h after.half after.heard

-- The answer that brings such an event is overlooked.
same_waited : (h after : HostView) → after ≡ h → after ≡ waited h h.half after.heard
same_waited h after same = same ∙ ap (waited h h.half) (sym (ap (λ (v : HostView). v.heard) same))

late_waited : (h after : HostView) (first : ℕ) (id : List ℕ) → IsToldLate h first id after → after ≡ waited h h.half after.heard
late_waited h after first id (inl (n, is, same)) = same ∙ ap (waited h h.half) (sym (ap (λ (v : HostView). v.heard) same))
late_waited h after first id (inr (none, same)) = same_waited h after same

turns_same : (h after : HostView) (a : Answer) (e : HostEvent) → IsOverlookedEvent e → Turns h a e after → IsOverlooked h.phase h.next a × (after ≡ waited h h.half after.heard)
turns_same h after a event.None over turns = absurd over
turns_same h after a event.Opened over turns = absurd over
turns_same h after a (event.Recorded number) over turns = absurd over
turns_same h after a (event.Late id) over (first, phase, is, other, unleft, late) =
    (subst (λ p. IsOverlooked p h.next a) (sym phase) (subst (IsOverlooked (Opening first) h.next) (sym is) other), late_waited h after first id late)
turns_same h after a (event.Status byte) over (is, same) = (subst (IsOverlooked h.phase h.next) (sym is) tt, same_waited h after same)
turns_same h after a (event.Condition block) over (is, same) = (subst (IsOverlooked h.phase h.next) (sym is) tt, same_waited h after same)
turns_same h after a (event.BadAnswer place) over turns = absurd over

-- It comes with a whole answer.
by_answer : (h after : HostView) (byte at : ℕ) (e : HostEvent) → IsOverlookedEvent e → HearsByte h byte at e after
    → (a : Answer) × AnswerSpells a (h.half ++ byte ∷ []) × Turns (with_half h []) a e after
by_answer h after byte at event.None over heard = absurd over
by_answer h after byte at event.Opened over heard = absurd over
by_answer h after byte at (event.Recorded number) over heard = absurd over
by_answer h after byte at (event.Late id) over (inl grows) = absurd grows
by_answer h after byte at (event.Late id) over (inr (inl misfit)) = absurd misfit
by_answer h after byte at (event.Late id) over (inr (inr whole)) = whole
by_answer h after byte at (event.Status b) over (inl grows) = absurd grows
by_answer h after byte at (event.Condition block) over (inl grows) = absurd grows
by_answer h after byte at (event.Status b) over (inr (inl misfit)) = absurd misfit
by_answer h after byte at (event.Condition block) over (inr (inl misfit)) = absurd misfit
by_answer h after byte at (event.Status b) over (inr (inr whole)) = whole
by_answer h after byte at (event.Condition block) over (inr (inr whole)) = whole
by_answer h after byte at (event.BadAnswer place) over heard = absurd over

pub told : Joined → (h after : HostView) (bytes : List ℕ) (consumed : ℕ) (e : HostEvent) → IsOverlookedEvent e → IsHeard h bytes consumed e after → Told h bytes consumed after
told joined h after bytes consumed e over (inl (none, all, passed, left)) = absurd (subst IsOverlookedEvent none over)
told joined h after bytes consumed e over (inr (at, half, inside, is, count, passed, heard)) =
    let next = slice_index bytes at in
    let brought = by_answer (with_half h half) after next at e over heard in
    let turned = turns_same (with_half h []) after brought.0 e over brought.2 in
    let shown : after.half ≡ [] = ap (λ (v : HostView). v.half) turned.1 in
    let whole : Overlooked (waited h half h.heard) (next ∷ []) [] =
    record { answers = brought.0 ∷ []; hears = whole_heard (half ++ next ∷ []) brought.0 brought.1; each = (turned.0, tt) } in
    let one = taken_one e at over in
    record {
      some = omega (arith, count, one);
      within = omega (arith, count, one, inside);
      overlooked = subst (λ n. Overlooked h (take n bytes) after.half) (sym (count ∙ one)) (subst (λ v. Overlooked h (take (at + 1) bytes) v) (sym shown)
          (subst (λ bs. Overlooked h bs []) (sym (take_more bytes at 0 inside)) (overlooked_on joined h (take at bytes) (next ∷ []) half h.heard [] (overlooked_of h (take at bytes) half passed) whole)));
      same = turned.1 ∙ ap (λ v. waited h v after.heard) (sym shown);
    }

-- These bytes were read and brought nothing.
pub record Waited (h : HostView) (before left : Option (List ℕ)) (read : ℕ) (after : HostView) : Type 0 where
  pub bytes : List ℕ
  pub came : Consumes before left bytes
  pub count : read ≡ length bytes
  pub overlooked : Overlooked h bytes after.half
  pub same : after ≡ waited h after.half after.heard

-- ## The rest of a piece

rest_length : (bytes : List ℕ) (taken : ℕ) → taken ≤ length bytes → length (take (length bytes - taken) (drop taken bytes)) ≡ length bytes - taken
rest_length bytes taken h = let p = length-take (length bytes - taken) (drop taken bytes) in let r = length-drop taken bytes in omega (arith, p, r, h)

-- This many bytes of the rest come after those that were taken.
front_on : (bytes : List ℕ) (taken count : ℕ) → taken ≤ length bytes → count ≤ length bytes - taken
    → take taken bytes ++ take count (take (length bytes - taken) (drop taken bytes)) ≡ take (taken + count) bytes
front_on bytes taken count h few = ap (λ v. take taken bytes ++ v) (take-take count (length bytes - taken) (drop taken bytes) few) ∙ sym (take-add taken count bytes)

byte_in_rest : (bytes : List ℕ) (taken at : ℕ) → at < length bytes - taken → slice_index (take (length bytes - taken) (drop taken bytes)) at ≡ slice_index bytes (taken + at)
byte_in_rest bytes taken at inside = get_or-take (length bytes - taken) (drop taken bytes) at 0 inside ∙ get_or-drop taken bytes at 0

-- Such an event in the rest of a piece whose first bytes are overlooked.
pub told_on : Joined → (h m after : HostView) (bytes : List ℕ) (taken consumed : ℕ) (e : HostEvent) → IsOverlookedEvent e → taken ≤ length bytes
    → Overlooked h (take taken bytes) m.half → m ≡ waited h m.half m.heard → IsHeard m (take (length bytes - taken) (drop taken bytes)) consumed e after
    → (taken + consumed ≤ length bytes) × Overlooked h (take (taken + consumed) bytes) after.half × (after ≡ waited h after.half after.heard) × (0 < consumed)
told_on joined h m after bytes taken consumed e over inside front same heard =
    let t = told joined m after (take (length bytes - taken) (drop taken bytes)) consumed e over heard in
    let whole = rest_length bytes taken inside in
    let within = t.within in
    let few : consumed ≤ length bytes - taken = omega (arith, whole, within) in (
      omega (arith, few, inside),
      subst (λ bs. Overlooked h bs after.half) (front_on bytes taken consumed inside few)
          (overlooked_on joined h (take taken bytes) (take consumed (take (length bytes - taken) (drop taken bytes))) m.half m.heard after.half front
          (subst (λ v. Overlooked v (take consumed (take (length bytes - taken) (drop taken bytes))) after.half) same t.overlooked)),
      waited_so h m after same t.same,
      t.some,
    )

is_stop : (e : HostEvent) → e ≢ event.None → (IsOverlookedEvent e → ⊥) → IsStop e
is_stop event.None some other = absurd (some refl)
is_stop (event.Late id) some other = absurd (other tt)
is_stop (event.Status byte) some other = absurd (other tt)
is_stop (event.Condition block) some other = absurd (other tt)
is_stop event.Opened some other = tt
is_stop (event.Recorded number) some other = tt
is_stop (event.BadAnswer at) some other = tt

taken_later : (e : HostEvent) (taken at : ℕ) → taken + taken_at e at ≡ taken_at e (taken + at)
taken_later event.None taken at = omega arith
taken_later (event.Late id) taken at = omega arith
taken_later (event.Status byte) taken at = omega arith
taken_later (event.Condition block) taken at = omega arith
taken_later event.Opened taken at = omega arith
taken_later (event.Recorded number) taken at = omega arith
taken_later (event.BadAnswer place) taken at = refl

-- Another event, or none, in the rest of a piece whose first bytes are overlooked.
pub hears_out : Joined → (h m after : HostView) (bytes : List ℕ) (taken consumed : ℕ) (e : HostEvent) → taken ≤ length bytes → Overlooked h (take taken bytes) m.half → m ≡ waited h m.half m.heard
    → (IsOverlookedEvent e → ⊥) → IsHeard m (take (length bytes - taken) (drop taken bytes)) consumed e after → HearsOut h bytes (taken + consumed) e after
hears_out joined h m after bytes taken consumed e inside front same other (inl (none, count, passed, left)) =
    let whole = rest_length bytes taken inside in
    let all : taken + consumed ≡ length bytes = omega (arith, whole, count, inside) in
    let few : length bytes - taken ≤ length bytes - taken = omega arith in
    let on = overlooked_on joined h (take taken bytes) (take (length bytes - taken) (drop taken bytes)) m.half m.heard after.half front
    (subst (λ v. Overlooked v (take (length bytes - taken) (drop taken bytes)) after.half) same (overlooked_of m (take (length bytes - taken) (drop taken bytes)) after.half passed)) in
    let joint : taken + (length bytes - taken) ≡ length bytes = omega (arith, inside) in
    inl (none, all, subst (λ bs. Overlooked h bs after.half) (sym (take-add taken (length bytes - taken) bytes) ∙ ap (λ n. take n bytes) joint ∙ take-length bytes) on, waited_so h m after same (half_so m after left))
hears_out joined h m after bytes taken consumed e inside front same other (inr (at, half, within, some, count, passed, heard)) =
    let whole = rest_length bytes taken inside in
    let few : at < length bytes - taken = omega (arith, whole, within) in
    let most : at ≤ length bytes - taken = omega (arith, few) in
    inr (
      taken + at,
      at,
      half,
      m.heard,
      omega (arith, few, inside),
      is_stop e some other,
      ap (λ n. taken + n) count ∙ taken_later e taken at,
      subst (λ bs. Overlooked h bs half) (front_on bytes taken at inside most)
          (overlooked_on joined h (take taken bytes) (take at (take (length bytes - taken) (drop taken bytes))) m.half m.heard half front
          (subst (λ v. Overlooked v (take at (take (length bytes - taken) (drop taken bytes))) half) same (overlooked_of m (take at (take (length bytes - taken) (drop taken bytes))) half passed))),
      subst (λ b. HearsByte (waited h half m.heard) b at e after) (byte_in_rest bytes taken at few)
          (subst (λ v. HearsByte (with_half v half) (slice_index (take (length bytes - taken) (drop taken bytes)) at) at e after) same heard),
    )

-- No byte was read yet.
pub waited_none : (h : HostView) (r : Option (List ℕ)) → (h.half ≡ []) ⊎ HalfAnswer h.half → Waited h r r 0 h
waited_none h r sound = record { bytes = []; came = Consumes-nil r; count = refl; overlooked = overlooked_none h sound; same = refl }

-- A piece was read, and brought nothing.
pub waited_on : Joined → (h m q : HostView) (before r r1 : Option (List ℕ)) (y : List ℕ) (read k consumed : ℕ) (e : HostEvent) → Waited h before r read m → Consumes r r1 y → k ≡ length y
    → e ≡ event.None → HearsOut m y consumed e q → Waited h before r1 (read + k) q
waited_on joined h m q before r r1 y read k consumed e w came count none (inl (is, all, passed, left)) = record {
  bytes = w.bytes ++ y;
  came = Consumes-trans before r r1 w.bytes y w.came came;
  count = let f = w.count in let g = length-append w.bytes y in omega (arith, count, f, g);
  overlooked = overlooked_on joined h w.bytes y m.half m.heard q.half w.overlooked (subst (λ v. Overlooked v y q.half) w.same passed);
  same = waited_so h m q w.same left;
}
waited_on joined h m q before r r1 y read k consumed e w came count none (inr (at, place, half, up_to, within, stop, taken, passed, heard)) = absurd (subst IsStop none stop)

pub split_at : (y : List ℕ) (at : ℕ) → at < length y → y ≡ take at y ++ slice_index y at ∷ drop (at + 1) y
split_at y at h = sym (take-append-drop at y) ∙ ap (λ v. take at y ++ v) (drop-cons y at 0 h ∙ ap (λ n. slice_index y at ∷ drop n y) (sym (add-one at)))

heard_all : (e : HostEvent) (at : ℕ) → IsStop e → ((place : ℕ) → e ≢ event.BadAnswer place) → taken_at e at ≡ at + 1
heard_all event.None at stop good = absurd stop
heard_all (event.Late id) at stop good = absurd stop
heard_all (event.Status byte) at stop good = absurd stop
heard_all (event.Condition block) at stop good = absurd stop
heard_all event.Opened at stop good = refl
heard_all (event.Recorded number) at stop good = refl
heard_all (event.BadAnswer place) at stop good = absurd (good place refl)

heard_few : (e : HostEvent) (at : ℕ) → taken_at e at ≤ at + 1
heard_few event.None at = omega arith
heard_few (event.Late id) at = omega arith
heard_few (event.Status byte) at = omega arith
heard_few (event.Condition block) at = omega arith
heard_few event.Opened at = omega arith
heard_few (event.Recorded number) at = omega arith
heard_few (event.BadAnswer place) at = omega arith

-- A piece was read, and brought an event.
pub brought_on : Joined → (h m q : HostView) (before r r1 : Option (List ℕ)) (y piece : List ℕ) (read k consumed : ℕ) (e : HostEvent) → Waited h before r read m → Consumes r r1 y → k ≡ length y
    → e ≢ event.None → HearsOut m y consumed e q → take k piece ≡ y → k ≤ length piece → k ≤ 64
    → Brought h before r1 piece (record { event = e; read = read + k; count = k; heard = consumed }) q
brought_on joined h m q before r r1 y piece read k consumed e w came count some (inl (is, all, passed, left)) front fits short = absurd (some is)
brought_on joined h m q before r r1 y piece read k consumed e w came count some (inr (at, place, half, up_to, within, stop, taken, passed, heard)) front fits short =
    let whole = split_at y at within in
    let joint : w.bytes ++ y ≡ (w.bytes ++ take at y) ++ slice_index y at ∷ drop (at + 1) y =
    ap (λ v. w.bytes ++ v) whole ∙ sym (append_assoc w.bytes (take at y) (slice_index y at ∷ drop (at + 1) y)) in
    let rest = length-drop (at + 1) y in
    let few = heard_few e at in
    record {
      bytes = w.bytes ++ take at y;
      half = half;
      heard_up_to = up_to;
      byte = slice_index y at;
      place = place;
      tail = drop (at + 1) y;
      came = subst (Consumes before r1) joint (Consumes-trans before r r1 w.bytes y w.came came);
      read = let f = w.count in let g = length-append w.bytes y in let l = ap length joint in omega (arith, count, f, g, l);
      overlooked = overlooked_on joined h w.bytes (take at y) m.half m.heard half w.overlooked (subst (λ v. Overlooked v (take at y) half) w.same passed);
      stop = stop;
      hears = subst (λ v. HearsByte (waited v half up_to) (slice_index y at) place e q) w.same heard;
      short = omega (arith, rest, short, count, within);
      start = omega (arith, taken, few, within, count);
      end = fits;
      rest = λ good.
          let all = taken ∙ heard_all e at stop good in
          let joint : (at + 1) + (k - (at + 1)) ≡ k = omega (arith, within, count) in
          ap (λ n. take (k - n) (drop n piece)) all ∙ sym (drop-take (at + 1) (k - (at + 1)) piece) ∙ ap (λ n. drop (at + 1) (take n piece)) joint ∙ ap (λ v. drop (at + 1) v) front;
    }

-- The bytes at the start of a buffer into which they were pulled.
pub pulled_front : (count : ℕ) (new rest : List ℕ) → count ≤ length new → take count (new ++ rest) ≡ take count new
pulled_front count new rest h = take-append-le count new rest h

pub pulled_length : (count : ℕ) (new : List ℕ) → count ≤ length new → count ≡ length (take count new)
pulled_length count new h = let e = length-take count new in omega (arith, e, h)
