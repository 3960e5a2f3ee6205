-- A host with more records before its own does the same.
use Rattle.std.proofs.Common.{◌≡◌, ◌≢◌, ◌+◌, inl, inr, ℕ, List, [], ◌∷◌, ◌++◌, arith, length, length-append, map, drop, refl, sym, ◌∙◌, ap, append_assoc}
use Rattle.std.specs.Prelude.{◌↔◌, slice_index}
use Rattle.escpos_command.specs.declared.answer.Answer.{Answer}
use Rattle.escpos_command.specs.declared.command.Command.{Command}
use Rattle.escpos_host.specs.declared.host.HostEvent.{HostEvent}
use Rattle.escpos_host.specs.declared.host.HostEvent.TheVariants as event
use Rattle.escpos_host.specs.Earlier.{shifted, with_earlier}
use Rattle.escpos_host.specs.Heard.{EndsLink, Grows, HearsAll, HearsByte, HearsInTurn, IsHeard, IsToldLate, Misfits, Passed, Turns, last_of, taken_at, with_half}
use Rattle.escpos_host.specs.Machine.{HostView, IsSound, Open, receipts_of}

-- ## Events

some_shifted : (n : ℕ) (e : HostEvent) → e ≢ event.None → shifted n e ≢ event.None
some_shifted n event.None some = some
some_shifted n event.Opened some = some
some_shifted n (event.Recorded number) some = λ is. cc is
some_shifted n (event.Late id) some = some
some_shifted n (event.Status byte) some = some
some_shifted n (event.Condition block) some = some
some_shifted n (event.BadAnswer at) some = some

taken_shifted : (n : ℕ) (e : HostEvent) (at : ℕ) → taken_at e at ≡ taken_at (shifted n e) at
taken_shifted n event.None at = refl
taken_shifted n event.Opened at = refl
taken_shifted n (event.Recorded number) at = refl
taken_shifted n (event.Late id) at = refl
taken_shifted n (event.Status byte) at = refl
taken_shifted n (event.Condition block) at = refl
taken_shifted n (event.BadAnswer place) at = refl

pub ends_shifted : (n : ℕ) (e : HostEvent) → EndsLink e ↔ EndsLink (shifted n e)
ends_shifted n event.None = (λ ends. ends, λ ends. ends)
ends_shifted n event.Opened = (λ ends. ends, λ ends. ends)
ends_shifted n (event.Recorded number) = (λ ends. ends, λ ends. ends)
ends_shifted n (event.Late id) = (λ ends. ends, λ ends. ends)
ends_shifted n (event.Status byte) = (λ ends. ends, λ ends. ends)
ends_shifted n (event.Condition block) = (λ ends. ends, λ ends. ends)
ends_shifted n (event.BadAnswer place) = (λ ends. ends, λ ends. ends)

pub last_shifted : (n : ℕ) (events : List HostEvent) → last_of (map (shifted n) events) ≡ shifted n (last_of events)
last_shifted n [] = refl
last_shifted n (e ∷ []) = refl
last_shifted n (e ∷ f ∷ es) = last_shifted n (f ∷ es)

-- ## One byte

earlier_late : (earlier : List (List Command)) (h after : HostView) (first : ℕ) (id : List ℕ) → IsToldLate h first id after → IsToldLate (with_earlier earlier h) first id (with_earlier earlier after)
earlier_late earlier h after first id (inl (n, is, same)) = inl (n, is, ap (with_earlier earlier) same)
earlier_late earlier h after first id (inr (none, same)) = inr (none, ap (with_earlier earlier) same)

earlier_turns : (earlier : List (List Command)) (h after : HostView) (a : Answer) (e : HostEvent) → Turns h a e after
    → Turns (with_earlier earlier h) a (shifted (length earlier) e) (with_earlier earlier after)
earlier_turns earlier h after a event.None (ignored, same) = (ignored, ap (with_earlier earlier) same)
earlier_turns earlier h after a event.Opened (first, n, id, phase, is, opening, same) = (first, n, id, phase, is, opening, ap (with_earlier earlier) same)
earlier_turns earlier h after a (event.Recorded number) (id, is, r) = (
  id,
  is,
  record {
    before = r.before;
    last = r.last;
    others = r.others;
    number_is = omega (arith, r.number_is, length-append earlier h.records);
    way = elim r.way [
      | inl (flight, phase, f, same) ↦ inl (
        flight,
        phase,
        f,
        ap (with_earlier earlier) same
            ∙ ap (λ (rs : List (List Command)). record { phase = Open r.others; out = h.out; half = h.half; next = h.next; heard = r.last.number + 1; records = rs; left = h.left })
            (sym (append_assoc earlier h.records (receipts_of (r.before ++ r.last ∷ [])))),
      )
      | inr (first, phase, other, f, same) ↦ inr (
        first,
        phase,
        other,
        f,
        ap (with_earlier earlier) same
            ∙ ap (λ (rs : List (List Command)). record { phase = h.phase; out = h.out; half = h.half; next = h.next; heard = r.last.number + 1; records = rs; left = r.others })
            (sym (append_assoc earlier h.records (receipts_of (r.before ++ r.last ∷ [])))),
      )
    ];
  },
)
earlier_turns earlier h after a (event.Late id) (first, phase, is, other, unleft, late) = (first, phase, is, other, unleft, earlier_late earlier h after first id late)
earlier_turns earlier h after a (event.Status byte) (is, same) = (is, ap (with_earlier earlier) same)
earlier_turns earlier h after a (event.Condition block) (is, same) = (is, ap (with_earlier earlier) same)
earlier_turns earlier h after a (event.BadAnswer place) turns = absurd turns

earlier_grows : (earlier : List (List Command)) (n : ℕ) (h after : HostView) (byte : ℕ) (e : HostEvent) → Grows h byte e after
    → Grows (with_earlier earlier h) byte (shifted n e) (with_earlier earlier after)
earlier_grows earlier n h after byte event.None (same, half) = (ap (with_earlier earlier) same, half)
earlier_grows earlier n h after byte event.Opened grows = grows
earlier_grows earlier n h after byte (event.Recorded number) grows = grows
earlier_grows earlier n h after byte (event.Late id) grows = grows
earlier_grows earlier n h after byte (event.Status b) grows = grows
earlier_grows earlier n h after byte (event.Condition block) grows = grows
earlier_grows earlier n h after byte (event.BadAnswer place) grows = grows

earlier_misfits : (earlier : List (List Command)) (n : ℕ) (h after : HostView) (byte at : ℕ) (e : HostEvent) → Misfits h byte at e after
    → Misfits (with_earlier earlier h) byte at (shifted n e) (with_earlier earlier after)
earlier_misfits earlier n h after byte at event.None misfit = misfit
earlier_misfits earlier n h after byte at event.Opened misfit = misfit
earlier_misfits earlier n h after byte at (event.Recorded number) misfit = misfit
earlier_misfits earlier n h after byte at (event.Late id) misfit = misfit
earlier_misfits earlier n h after byte at (event.Status b) misfit = misfit
earlier_misfits earlier n h after byte at (event.Condition block) misfit = misfit
earlier_misfits earlier n h after byte at (event.BadAnswer place) (here, bad, same) = (here, bad, ap (with_earlier earlier) same)

earlier_byte : (earlier : List (List Command)) (h after : HostView) (byte at : ℕ) (e : HostEvent) → HearsByte h byte at e after
    → HearsByte (with_earlier earlier h) byte at (shifted (length earlier) e) (with_earlier earlier after)
earlier_byte earlier h after byte at e (inl grows) = inl (earlier_grows earlier (length earlier) h after byte e grows)
earlier_byte earlier h after byte at e (inr (inl misfit)) = inr (inl (earlier_misfits earlier (length earlier) h after byte at e misfit))
earlier_byte earlier h after byte at e (inr (inr (a, spelled, turns))) = inr (inr (a, spelled, earlier_turns earlier (with_half h []) after a e turns))

-- ## A piece

earlier_passed : (earlier : List (List Command)) (h : HostView) (bytes half : List ℕ) → Passed h bytes half → Passed (with_earlier earlier h) bytes half
earlier_passed earlier h bytes half passed = record { ignored = passed.ignored; hears = passed.hears; each = passed.each }

earlier_heard : (earlier : List (List Command)) (h after : HostView) (bytes : List ℕ) (count : ℕ) (e : HostEvent) → IsHeard h bytes count e after
    → IsHeard (with_earlier earlier h) bytes count (shifted (length earlier) e) (with_earlier earlier after)
earlier_heard earlier h after bytes count e (inl (none, all, passed, same)) =
    inl (ap (shifted (length earlier)) none, all, earlier_passed earlier h bytes after.half passed, ap (with_earlier earlier) same)
earlier_heard earlier h after bytes count e (inr (at, half, within, some, is_count, passed, heard)) =
    inr (
      at,
      half,
      within,
      some_shifted (length earlier) e some,
      is_count ∙ taken_shifted (length earlier) e at,
      earlier_passed earlier h _ half passed,
      earlier_byte earlier (with_half h half) after (slice_index bytes at) at e heard,
    )

-- ## Event after event

none_shifted : (n : ℕ) (events : List HostEvent) → events ≡ [] → map (shifted n) events ≡ []
none_shifted n events none = ap (map (shifted n)) none

earlier_in_turn : (earlier : List (List Command)) (events : List HostEvent) (h after : HostView) (bytes : List ℕ) (consumed : ℕ) → HearsInTurn h bytes events consumed after
    → HearsInTurn (with_earlier earlier h) bytes (map (shifted (length earlier)) events) consumed (with_earlier earlier after)
earlier_in_turn earlier [] h after bytes consumed heard = earlier_heard earlier h after bytes consumed event.None heard
earlier_in_turn earlier (e ∷ es) h after bytes consumed (count, next, some, heard, inl (ends, none, all, same)) = (
  count,
  with_earlier earlier next,
  some_shifted (length earlier) e some,
  earlier_heard earlier h next bytes count e heard,
  inl ((ends_shifted (length earlier) e).0 ends, none_shifted (length earlier) es none, all, ap (with_earlier earlier) same),
)
earlier_in_turn earlier (e ∷ es) h after bytes consumed (count, next, some, heard, inr (on, (rest, sum, later))) = (
  count,
  with_earlier earlier next,
  some_shifted (length earlier) e some,
  earlier_heard earlier h next bytes count e heard,
  inr (λ ends. on ((ends_shifted (length earlier) e).1 ends), (rest, sum, earlier_in_turn earlier es next after (drop count bytes) rest later)),
)

pub earlier_hears : (earlier : List (List Command)) (h after : HostView) (bytes : List ℕ) (events : List HostEvent) (consumed : ℕ) → HearsAll h bytes events consumed after
    → HearsAll (with_earlier earlier h) bytes (map (shifted (length earlier)) events) consumed (with_earlier earlier after)
earlier_hears earlier h after bytes events consumed (inl (is_down, none, all, same)) =
    inl (is_down, none_shifted (length earlier) events none, all, ap (with_earlier earlier) same)
earlier_hears earlier h after bytes events consumed (inr (up, heard)) = inr (up, earlier_in_turn earlier events h after bytes consumed heard)

-- ## What holds for every host

pub earlier_sound : (earlier : List (List Command)) (h : HostView) → IsSound h → IsSound (with_earlier earlier h)
earlier_sound earlier h sound = record { quiet = sound.quiet; few = sound.few; few_left = sound.few_left; half = sound.half }
