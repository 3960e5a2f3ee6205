-- The two waits of a call that sends a receipt, and their results.
use Rattle.std.proofs.Common.{◌≡◌, ◌≢◌, ◌⊎◌, ◌<◌, ◌≤◌, ◌+◌, ◌-◌, inl, inr, ℕ, List, [], ◌∷◌, ◌++◌, length, take, drop, refl, sym, ◌∙◌, ap, subst, append-nil, append_assoc, length-append, length-take, length-drop, arith, Option, Some, Result, Ok, Err, IfErr}
use Rattle.std.specs.Prelude.{min, slice_get, slice_index}
use Rattle.std.specs.Result.{IsErrAnd}
use Rattle.std.specs.List.{AllByRecursion}
use Rattle.std.specs.Io.KnownBytes.{Appends, Consumes}
use Rattle.std.proofs.KnownBytes.{Consumes-nil}
use Rattle.escpos_command.specs.declared.answer.Answer.{Answer}
use Rattle.escpos_command.specs.declared.answer.Answer.TheVariants as answer
use Rattle.escpos_command.specs.Answers.{AnswerSpells, Hears, ViableAnswer}
use Rattle.escpos_command.specs.Digits.{mark_count}
use Rattle.escpos_host.specs.declared.host.HostError.{HostError}
use Rattle.escpos_host.specs.declared.host.HostError.TheVariants as error
use Rattle.escpos_host.specs.declared.host.HostEvent.{HostEvent}
use Rattle.escpos_host.specs.declared.host.HostEvent.TheVariants as event
use Rattle.escpos_host.specs.declared.send.Awaited.{Awaited}
use Rattle.escpos_host.specs.declared.send.SendFault.{SendFault}
use Rattle.escpos_host.specs.declared.send.SendFault.TheVariants as fault
use Rattle.escpos_host.specs.Awaits.{Brought, Closes, HearsOut, IsBreak, IsOverlooked, IsSilence, IsStop, Lost, Opens, Overlooked, RefusesOpening, Silent, Stops, dialled, ready, sending, starting, waited, with_heard, with_out}
use Rattle.escpos_host.specs.Heard.{HearsByte, IsNumberOf, RecordsUpTo, recorded, with_half}
use Rattle.escpos_host.specs.Machine.{HostView, InFlight, Phase, Down, Opening, Open, HasMark, RefusesSubmit, closed_by, gone_down, handed_out, mark_limit, most_in_flight, number_limit, receipts_of, submitted, with_left}
use Rattle.escpos_host.specs.Sends.{Call, CantPut, Closed, Fails, HasMarks, IsCut, IsToClosing, IsToOpening, Opened, RefusesSend, Unclosed, Unopened, Waits, closing, given_up, opening_bytes, receipt_bytes, recorded_by}
use Rattle.escpos_host.proofs.Passing.{Joined, whole_heard}
use Rattle.escpos_host.proofs.Recording.{none_has, one_has}
use Rattle.escpos_host.proofs.Waiting.{split_at}

-- The host during such a wait: what it had to say is said.
abbrev pub asking : Call → HostView
asking c = with_out (starting c) []

abbrev pub hoping : Call → List ℕ → ℕ → HostView
hoping c half heard = with_out (sending c half heard) []

-- What is known of a host but for the marks that were answered.
heard_so : (h after : HostView) (heard : ℕ) → after ≡ with_heard h heard → after ≡ with_heard h after.heard
heard_so h after heard same = same ∙ ap (with_heard h) (sym (ap (λ (v : HostView). v.heard) same))

-- ## Answers that are overlooked

no_opening : (c : Call) (a : Answer) → IsOverlooked (Opening c.before.next) (c.before.next + c.openings) a → IsToOpening c a → ⊥
no_opening c (answer.Status b) h is = is
no_opening c (answer.Condition block) h is = is
no_opening c (answer.Mark id) h is = h is

no_openings : (c : Call) (answers : List Answer) → AllByRecursion (IsOverlooked (Opening c.before.next) (c.before.next + c.openings)) answers
    → AllByRecursion (λ a. IsToOpening c a → ⊥) answers
no_openings c [] h = h
no_openings c (a ∷ answers) h = (no_opening c a h.0, no_openings c answers h.1)

pub unopened : (c : Call) (bytes half : List ℕ) → Overlooked (asking c) bytes half → Unopened c bytes half
unopened c bytes half o = record { answers = o.answers; hears = o.hears; each = no_openings c o.answers o.each }

no_closing : (c : Call) (next : ℕ) (a : Answer) → IsOverlooked (Open (closed_by c.receipt (c.before.next + c.openings) ∷ [])) next a → IsToClosing c a → ⊥
no_closing c next (answer.Status b) h is = is
no_closing c next (answer.Condition block) h is = is
no_closing c next (answer.Mark id) h is = h (inl (omega arith, is))

no_closings : (c : Call) (next : ℕ) (answers : List Answer) → AllByRecursion (IsOverlooked (Open (closed_by c.receipt (c.before.next + c.openings) ∷ [])) next) answers
    → AllByRecursion (λ a. IsToClosing c a → ⊥) answers
no_closings c next [] h = h
no_closings c next (a ∷ answers) h = (no_closing c next a h.0, no_closings c next answers h.1)

pub unclosed : (c : Call) (early bytes half : List ℕ) (heard : ℕ) (later : List ℕ) → Opened c early half → Overlooked (hoping c half heard) bytes later → Unclosed c (early ++ bytes) later
unclosed c early bytes half heard later opened o = record {
  early = early;
  early_half = half;
  later = bytes;
  whole = refl;
  opened = opened;
  answers = o.answers;
  hears = o.hears;
  each = no_closings c (c.before.next + c.openings + 1) o.answers o.each;
}

-- ## The answer that counts

-- A byte that makes an answer whole, after bytes that are overlooked.
whole_on : Joined → (h : HostView) (bytes half : List ℕ) (byte : ℕ) (a : Answer) (o : Overlooked h bytes half) → AnswerSpells a (half ++ byte ∷ [])
    → Hears (h.half ++ (bytes ++ byte ∷ [])) (o.answers ++ a ∷ []) []
whole_on joined h bytes half byte a o spelled =
    subst (λ bs. Hears bs (o.answers ++ a ∷ []) []) (append_assoc h.half bytes (byte ∷ []))
    (joined (h.half ++ bytes) (byte ∷ []) o.answers (a ∷ []) half [] o.hears (whole_heard (half ++ byte ∷ []) a spelled))

-- The bytes up to the end of the first answer to an opening mark, and the host then.
pub record Front (c : Call) (front : List ℕ) (after : HostView) : Type 0 where
  pub others : List Answer
  pub first : Answer
  pub hears : Hears front (others ++ first ∷ []) []
  pub each : AllByRecursion (λ a. IsToOpening c a → ⊥) others
  pub opening : IsToOpening c first
  pub same : after ≡ ready c [] after.heard

abbrev first_of : Phase → ℕ
first_of Down = 0
first_of (Opening first) = first
first_of (Open flight) = 0

abbrev flight_of : Phase → List InFlight
flight_of Down = []
flight_of (Opening first) = []
flight_of (Open flight) = flight

pub fronted : Joined → (c : Call) (after : HostView) (bytes half : List ℕ) (heard byte place : ℕ) → Overlooked (asking c) bytes half
    → HearsByte (waited (asking c) half heard) byte place event.Opened after → Front c (bytes ++ byte ∷ []) after
fronted joined c after bytes half heard byte place o (inl grows) = absurd grows
fronted joined c after bytes half heard byte place o (inr (inl misfit)) = absurd misfit
fronted joined c after bytes half heard byte place o (inr (inr (a, spelled, (first, n, id, is_first, is_mark, is_opening, same)))) =
    let number = ap first_of is_first in
    record {
      others = o.answers;
      first = a;
      hears = whole_on joined (asking c) bytes half byte a o spelled;
      each = no_openings c o.answers o.each;
      opening = subst (IsToOpening c) (sym is_mark) (n, subst (λ k. IsNumberOf k (c.before.next + c.openings) id n) (sym number) is_opening);
      same = same ∙ ap (ready c []) (sym (ap (λ (v : HostView). v.heard) same));
    }

-- The rest of the piece in which a link was opened is heard.
pub opened_all : (c : Call) (front rest half : List ℕ) (after : HostView) → Front c front after → length rest < 64 → Overlooked after rest half → Opened c (front ++ rest) half
opened_all c front rest half after f short o = record {
  front = front;
  rest = rest;
  whole = refl;
  others = f.others;
  first = f.first;
  hears = f.hears;
  each = f.each;
  opening = f.opening;
  following = o.answers;
  hears_rest = subst (λ (v : HostView). Hears (v.half ++ rest) o.answers half) f.same o.hears;
  short = short;
}

-- ## A byte that fits no answer

misfit_waiting : (c : Call) (after : HostView) (half : List ℕ) (heard byte place at : ℕ) → HearsByte (waited (asking c) half heard) byte place (event.BadAnswer at) after
    → (ViableAnswer (half ++ byte ∷ []) → ⊥) × (after ≡ with_heard (gone_down (asking c)) after.heard)
misfit_waiting c after half heard byte place at (inl grows) = absurd grows
misfit_waiting c after half heard byte place at (inr (inl misfit)) = (misfit.1, heard_so (gone_down (asking c)) after heard misfit.2)
misfit_waiting c after half heard byte place at (inr (inr (a, spelled, turns))) = absurd turns

misfit_ready : (c : Call) (h after : HostView) (half : List ℕ) (heard byte place at : ℕ) → h ≡ ready c [] h.heard → HearsByte (waited h half heard) byte place (event.BadAnswer at) after
    → (ViableAnswer (half ++ byte ∷ []) → ⊥) × (after ≡ with_heard (gone_down (asking c)) after.heard)
misfit_ready c h after half heard byte place at same (inl grows) = absurd grows
misfit_ready c h after half heard byte place at same (inr (inl misfit)) =
    (misfit.1, heard_so (gone_down (asking c)) after heard (misfit.2 ∙ ap (λ v. gone_down (waited v half heard)) same))
misfit_ready c h after half heard byte place at same (inr (inr (a, spelled, turns))) = absurd turns

misfit_hoping : (c : Call) (after : HostView) (early_half : List ℕ) (opened : ℕ) (half : List ℕ) (heard byte place at : ℕ)
    → HearsByte (waited (hoping c early_half opened) half heard) byte place (event.BadAnswer at) after
    → (ViableAnswer (half ++ byte ∷ []) → ⊥) × (after ≡ with_heard (gone_down (hoping c early_half opened)) after.heard)
misfit_hoping c after early_half opened half heard byte place at (inl grows) = absurd grows
misfit_hoping c after early_half opened half heard byte place at (inr (inl misfit)) = (misfit.1, heard_so (gone_down (hoping c early_half opened)) after heard misfit.2)
misfit_hoping c after early_half opened half heard byte place at (inr (inr (a, spelled, turns))) = absurd turns

-- ## How a wait ends

-- No answer came before the reader ended or failed, or before this many bytes were read.
fails_silently : (c : Call) (why : SendFault) (bytes half out : List ℕ) (used heard : ℕ) → HasMarks c used → IsSilence why → Waits c bytes half out used → (why ≡ fault.TooLong → length bytes ≡ c.most)
    → ((why ≡ fault.Ended) ⊎ (why ≡ fault.ReadFault) ⊎ (why ≡ fault.TimedOut) → length bytes < c.most) → Fails c why bytes out (given_up c used heard)
fails_silently c fault.Ended bytes half out used heard marks silence waits long early = (half, used, waits, early (inl refl), marks, refl)
fails_silently c fault.ReadFault bytes half out used heard marks silence waits long early = (half, used, waits, early (inr (inl refl)), marks, refl)
fails_silently c fault.TimedOut bytes half out used heard marks silence waits long early = inl (half, used, waits, early (inr (inr refl)), marks, refl)
fails_silently c fault.TooLong bytes half out used heard marks silence waits long early = (half, used, waits, long refl, marks, refl)
fails_silently c fault.WriteFault bytes half out used heard marks silence waits long early = absurd silence
fails_silently c fault.BadAnswer bytes half out used heard marks silence waits long early = absurd silence
fails_silently c (fault.Refused why) bytes half out used heard marks silence waits long early = absurd silence

pub silent_first : (c : Call) (before left a b : Option (List ℕ)) (most : ℕ) (why : SendFault) (after : HostView) → HasMarks c c.openings → c.most ≡ most → IsSilence why
    → Appends a b (opening_bytes c) → Silent (asking c) before left most why after → Stops c [] [] before left a b most why c.openings
silent_first c before left a b most why after marks all silence put s = record {
  bytes = s.bytes;
  out = opening_bytes c;
  came = s.came;
  few = s.few;
  put = put;
  fails =
      λ heard. fails_silently c why s.bytes after.half (opening_bytes c) c.openings heard marks silence (inl (unopened c s.bytes after.half s.overlooked, refl, refl)) (λ is. s.long is ∙ sym all)
      (λ is. let e = s.early is in omega (arith, e, all));
}

pub silent_second : (c : Call) (early half : List ℕ) (opened : ℕ) (before left a b : Option (List ℕ)) (most : ℕ) (why : SendFault) (after : HostView) → Opened c early half → HasMarks c (c.openings + 1) → c.most ≡ length early + most
    → IsSilence why → Appends a b (receipt_bytes c) → Silent (hoping c half opened) before left most why after → Stops c early (opening_bytes c) before left a b most why (c.openings + 1)
silent_second c early half opened before left a b most why after o marks all silence put s =
    let count = length-append early s.bytes in
    record {
      bytes = s.bytes;
      out = receipt_bytes c;
      came = s.came;
      few = s.few;
      put = put;
      fails =
          λ heard. fails_silently c why (early ++ s.bytes) after.half (opening_bytes c ++ receipt_bytes c) (c.openings + 1) heard marks silence
          (inr (unclosed c early s.bytes half opened after.half o s.overlooked, refl, refl)) (λ is. count ∙ ap (λ n. length early + n) (s.long is) ∙ sym all)
          (λ is. let e = s.early is in omega (arith, e, all, count));
    }

fails_broken : (c : Call) (why : SendFault) (bytes out : List ℕ) (after : HostView) → IsBreak why → CantPut c bytes out after → Fails c why bytes out after
fails_broken c fault.WriteFault bytes out after is h = h
fails_broken c fault.TimedOut bytes out after is h = inr h
fails_broken c fault.Ended bytes out after is h = absurd is
fails_broken c fault.ReadFault bytes out after is h = absurd is
fails_broken c fault.TooLong bytes out after is h = absurd is
fails_broken c fault.BadAnswer bytes out after is h = absurd is
fails_broken c (fault.Refused other) bytes out after is h = absurd is

-- Bytes went out, and then the writer failed.
pub cut_first : (c : Call) (why : SendFault) (before a b : Option (List ℕ)) (most : ℕ) (some : List ℕ) → IsBreak why → HasMarks c c.openings → Appends a b some → IsCut (opening_bytes c) some
    → Stops c [] [] before before a b most why c.openings
cut_first c why before a b most some is marks put cut = record {
  bytes = [];
  out = some;
  came = Consumes-nil before;
  few = omega arith;
  put = put;
  fails = λ heard. fails_broken c why [] some (given_up c c.openings heard) is (c.openings, inl (refl, cut, refl), marks, refl);
}

pub cut_second : (c : Call) (why : SendFault) (early half : List ℕ) (before a b : Option (List ℕ)) (most : ℕ) (some : List ℕ) → IsBreak why → Opened c early half → HasMarks c (c.openings + 1) → Appends a b some → IsCut (receipt_bytes c) some
    → Stops c early (opening_bytes c) before before a b most why (c.openings + 1)
cut_second c why early half before a b most some is o marks put cut = record {
  bytes = [];
  out = some;
  came = Consumes-nil before;
  few = omega arith;
  put = put;
  fails =
      λ heard. fails_broken c why (early ++ []) (opening_bytes c ++ some) (given_up c (c.openings + 1) heard) is
      (c.openings + 1, inr (half, some, subst (λ bs. Opened c bs half) (sym (append-nil early)) o, refl, cut, refl), marks, refl);
}

-- ## Bytes that end a wait

no_flight : (first : ℕ) (flight : List InFlight) → Opening first ≡ Open flight → ⊥
no_flight first flight e = cc e

-- Before an opening mark is answered an event is an opening or a byte that fits no answer.
stopped_asking : (c : Call) (after : HostView) (half : List ℕ) (up_to byte place : ℕ) (e : HostEvent) → IsStop e → e ≢ event.Opened → HearsByte (waited (asking c) half up_to) byte place e after
    → (ViableAnswer (half ++ byte ∷ []) → ⊥) × (after ≡ with_heard (gone_down (asking c)) after.heard)
stopped_asking c after half up_to byte place event.None stop other heard = absurd stop
stopped_asking c after half up_to byte place (event.Late id) stop other heard = absurd stop
stopped_asking c after half up_to byte place (event.Status b) stop other heard = absurd stop
stopped_asking c after half up_to byte place (event.Condition block) stop other heard = absurd stop
stopped_asking c after half up_to byte place event.Opened stop other heard = absurd (other refl)
stopped_asking c after half up_to byte place (event.Recorded number) stop other (inl grows) = absurd grows
stopped_asking c after half up_to byte place (event.Recorded number) stop other (inr (inl misfit)) = absurd misfit
stopped_asking c after half up_to byte place (event.Recorded number) stop other (inr (inr (a, spelled, (id, is_mark, r)))) = absurd (elim r.way [
  | inl (flight, is_open, f, same) ↦ no_flight c.before.next flight is_open
  | inr (first, is_first, older, f, same) ↦ none_has r.before r.others r.last f.all_are
])
stopped_asking c after half up_to byte place (event.BadAnswer at) stop other heard = misfit_waiting c after half up_to byte place at heard

-- Between the answer to an opening mark and the receipt any event is a byte that fits no answer.
stopped_ready : (c : Call) (h after : HostView) (half : List ℕ) (up_to byte place : ℕ) (e : HostEvent) → h ≡ ready c [] h.heard → IsStop e → HearsByte (waited h half up_to) byte place e after
    → (ViableAnswer (half ++ byte ∷ []) → ⊥) × (after ≡ with_heard (gone_down (asking c)) after.heard)
stopped_ready c h after half up_to byte place event.None same stop heard = absurd stop
stopped_ready c h after half up_to byte place (event.Late id) same stop heard = absurd stop
stopped_ready c h after half up_to byte place (event.Status b) same stop heard = absurd stop
stopped_ready c h after half up_to byte place (event.Condition block) same stop heard = absurd stop
stopped_ready c h after half up_to byte place event.Opened same stop (inl grows) = absurd grows
stopped_ready c h after half up_to byte place event.Opened same stop (inr (inl misfit)) = absurd misfit
stopped_ready c h after half up_to byte place event.Opened same stop (inr (inr (a, spelled, (first, n, id, is_first, is_mark, is_opening, gone)))) =
    let other : Open [] ≡ Opening first = sym (ap (λ (v : HostView). v.phase) same) ∙ is_first in absurd cc
stopped_ready c h after half up_to byte place (event.Recorded number) same stop (inl grows) = absurd grows
stopped_ready c h after half up_to byte place (event.Recorded number) same stop (inr (inl misfit)) = absurd misfit
stopped_ready c h after half up_to byte place (event.Recorded number) same stop (inr (inr (a, spelled, (id, is_mark, r)))) =
    let ready_phase : Open [] ≡ h.phase = sym (ap (λ (v : HostView). v.phase) same) in
    absurd (elim r.way [
      | inl (flight, is_open, f, gone) ↦ none_has r.before r.others r.last (ap flight_of (ready_phase ∙ is_open) ∙ f.all_are)
      | inr (first, is_first, older, f, gone) ↦ no_flight first [] (sym (ready_phase ∙ is_first))
    ])
stopped_ready c h after half up_to byte place (event.BadAnswer at) same stop heard = misfit_ready c h after half up_to byte place at same heard

-- With the receipt in flight an event is its record or a byte that fits no answer.
stopped_hoping : (c : Call) (after : HostView) (early_half : List ℕ) (opened : ℕ) (half : List ℕ) (up_to byte place : ℕ) (e : HostEvent) → IsStop e → ((number : ℕ) → e ≢ event.Recorded number)
    → HearsByte (waited (hoping c early_half opened) half up_to) byte place e after → (ViableAnswer (half ++ byte ∷ []) → ⊥) × (after ≡ with_heard (gone_down (hoping c early_half opened)) after.heard)
stopped_hoping c after early_half opened half up_to byte place event.None stop other heard = absurd stop
stopped_hoping c after early_half opened half up_to byte place (event.Late id) stop other heard = absurd stop
stopped_hoping c after early_half opened half up_to byte place (event.Status b) stop other heard = absurd stop
stopped_hoping c after early_half opened half up_to byte place (event.Condition block) stop other heard = absurd stop
stopped_hoping c after early_half opened half up_to byte place event.Opened stop other (inl grows) = absurd grows
stopped_hoping c after early_half opened half up_to byte place event.Opened stop other (inr (inl misfit)) = absurd misfit
stopped_hoping c after early_half opened half up_to byte place event.Opened stop other (inr (inr (a, spelled, (first, n, id, is_first, is_mark, is_opening, gone)))) = absurd (cc is_first)
stopped_hoping c after early_half opened half up_to byte place (event.Recorded number) stop other heard = absurd (other number refl)
stopped_hoping c after early_half opened half up_to byte place (event.BadAnswer at) stop other heard = misfit_hoping c after early_half opened half up_to byte place at heard

-- A byte that fits no answer comes before an opening mark is answered.
pub bad_first : (c : Call) (before left a b : Option (List ℕ)) (piece : List ℕ) (most : ℕ) (awaited : Awaited) (after : HostView) → Appends a b (opening_bytes c) → awaited.read ≤ most
    → awaited.event ≢ event.Opened → HasMarks c c.openings → Brought (asking c) before left piece awaited after → Stops c [] [] before left a b most fault.BadAnswer c.openings × (after ≡ with_heard (gone_down (asking c)) after.heard)
bad_first c before left a b piece most awaited after put few other marks w =
    let bad = stopped_asking c after w.half w.heard_up_to w.byte w.place awaited.event w.stop other w.hears in (
      record {
        bytes = w.bytes ++ w.byte ∷ w.tail;
        out = opening_bytes c;
        came = w.came;
        few = let read = w.read in omega (arith, few, read);
        put = put;
        fails = λ heard. (
          c.openings,
          record {
            good = w.bytes;
            half = w.half;
            byte = w.byte;
            tail = w.tail;
            whole = refl;
            misfit = bad.0;
            short = w.short;
            stage = inl (inl (unopened c w.bytes w.half w.overlooked, refl, refl));
          },
          marks,
          refl,
        );
      },
      bad.1,
    )

-- One comes after that, in the same piece.
pub bad_rest : (c : Call) (before left a b : Option (List ℕ)) (front tail : List ℕ) (most consumed : ℕ) (e : HostEvent) (h after : HostView) → Appends a b (opening_bytes c)
    → length (front ++ tail) ≤ most → Consumes before left (front ++ tail) → length tail < 64 → Front c front h → HasMarks c c.openings → e ≢ event.None → HearsOut h tail consumed e after
    → Stops c [] [] before left a b most fault.BadAnswer c.openings × (after ≡ with_heard (gone_down (asking c)) after.heard)
bad_rest c before left a b front tail most consumed e h after put few came short f marks some (inl all) = absurd (some all.0)
bad_rest c before left a b front tail most consumed e h after put few came short f marks some (inr (at, place, half, up_to, within, stop, taken, passed, heard)) =
    let bad = stopped_ready c h after half up_to (slice_index tail at) place e f.same stop heard in
    let first = length-take at tail in
    let last = length-drop (at + 1) tail in (
      record {
        bytes = front ++ tail;
        out = opening_bytes c;
        came = came;
        few = few;
        put = put;
        fails = λ heard. (
          c.openings,
          record {
            good = front ++ take at tail;
            half = half;
            byte = slice_index tail at;
            tail = drop (at + 1) tail;
            whole = ap (λ v. front ++ v) (split_at tail at within) ∙ sym (append_assoc front (take at tail) (slice_index tail at ∷ drop (at + 1) tail));
            misfit = bad.0;
            short = omega (arith, last, short);
            stage = inr (opened_all c front (take at tail) half h f (omega (arith, first, short)) passed, refl, refl);
          },
          marks,
          refl,
        );
      },
      bad.1,
    )

-- The event is an opening, and what comes after it in its piece is heard.
rest_of : (h after : HostView) (before left : Option (List ℕ)) (piece : List ℕ) (awaited : Awaited) (w : Brought h before left piece awaited after) → awaited.event ≡ event.Opened
    → take (awaited.count - awaited.heard) (drop awaited.heard piece) ≡ w.tail
rest_of h after before left piece awaited w is = w.rest (λ at bad. let e : event.Opened ≡ event.BadAnswer at = sym is ∙ bad in absurd cc)

front_of : Joined → (c : Call) (after : HostView) (before left : Option (List ℕ)) (piece : List ℕ) (awaited : Awaited) (w : Brought (asking c) before left piece awaited after) → awaited.event ≡ event.Opened
    → Front c (w.bytes ++ w.byte ∷ []) after
front_of joined c after before left piece awaited w is =
    fronted joined c after w.bytes w.half w.heard_up_to w.byte w.place w.overlooked (subst (λ e. HearsByte (waited (asking c) w.half w.heard_up_to) w.byte w.place e after) is w.hears)

pub opens_all : Joined → (c : Call) (before left a b : Option (List ℕ)) (piece : List ℕ) (consumed : ℕ) (awaited : Awaited) (e : HostEvent) (m after : HostView) → Appends a b (opening_bytes c)
    → awaited.event ≡ event.Opened → Brought (asking c) before left piece awaited m → e ≡ event.None → HearsOut m (take (awaited.count - awaited.heard) (drop awaited.heard piece)) consumed e after
    → Opens c before left a b awaited.read after
opens_all joined c before left a b piece consumed awaited e m after put is w none (inr (at, place, half, up_to, within, stop, taken, passed, heard)) = absurd (subst IsStop none stop)
opens_all joined c before left a b piece consumed awaited e m after put is w none (inl (nothing, count, passed, same)) =
    let joint = append_assoc w.bytes (w.byte ∷ []) w.tail in
    let f = front_of joined c m before left piece awaited w is in
    let tail = rest_of (asking c) m before left piece awaited w is in
    record {
      bytes = (w.bytes ++ w.byte ∷ []) ++ w.tail;
      half = after.half;
      came = subst (Consumes before left) (sym joint) w.came;
      read = w.read ∙ ap length (sym joint);
      put = put;
      opened = opened_all c (w.bytes ++ w.byte ∷ []) w.tail after.half m f w.short (subst (λ bs. Overlooked m bs after.half) tail passed);
      same = same ∙ ap (λ v. waited v after.half after.heard) f.same;
    }

pub bad_behind : Joined → (c : Call) (before left a b : Option (List ℕ)) (piece : List ℕ) (most consumed : ℕ) (awaited : Awaited) (e : HostEvent) (m after : HostView) → Appends a b (opening_bytes c)
    → awaited.read ≤ most → awaited.event ≡ event.Opened → HasMarks c c.openings → Brought (asking c) before left piece awaited m → e ≢ event.None
    → HearsOut m (take (awaited.count - awaited.heard) (drop awaited.heard piece)) consumed e after
    → Stops c [] [] before left a b most fault.BadAnswer c.openings × (after ≡ with_heard (gone_down (asking c)) after.heard)
bad_behind joined c before left a b piece most consumed awaited e m after put few is marks w some heard =
    let joint = append_assoc w.bytes (w.byte ∷ []) w.tail in
    let count = ap length joint in
    let read = w.read in
    bad_rest c before left a b (w.bytes ++ w.byte ∷ []) w.tail most consumed e m after put (omega (arith, count, read, few)) (subst (Consumes before left) (sym joint) w.came) w.short
    (front_of joined c m before left piece awaited w is) marks some (subst (λ bs. HearsOut m bs consumed e after) (rest_of (asking c) m before left piece awaited w is) heard)

-- One comes after the receipt was put out.
pub bad_second : (c : Call) (early early_half : List ℕ) (opened : ℕ) (before left a b : Option (List ℕ)) (piece : List ℕ) (most : ℕ) (awaited : Awaited) (after : HostView) → Opened c early early_half
    → Appends a b (receipt_bytes c) → awaited.read ≤ most → ((number : ℕ) → awaited.event ≢ event.Recorded number) → HasMarks c (c.openings + 1) → Brought (hoping c early_half opened) before left piece awaited after
    → Stops c early (opening_bytes c) before left a b most fault.BadAnswer (c.openings + 1) × (after ≡ with_heard (gone_down (hoping c early_half opened)) after.heard)
bad_second c early early_half opened before left a b piece most awaited after early_opened put few other marks w =
    let bad = stopped_hoping c after early_half opened w.half w.heard_up_to w.byte w.place awaited.event w.stop other w.hears in (
      record {
        bytes = w.bytes ++ w.byte ∷ w.tail;
        out = receipt_bytes c;
        came = w.came;
        few = let read = w.read in omega (arith, few, read);
        put = put;
        fails = λ heard. (
          c.openings + 1,
          record {
            good = early ++ w.bytes;
            half = w.half;
            byte = w.byte;
            tail = w.tail;
            whole = sym (append_assoc early w.bytes (w.byte ∷ w.tail));
            misfit = bad.0;
            short = w.short;
            stage = inl (inr (unclosed c early w.bytes early_half opened w.half early_opened w.overlooked, refl, refl));
          },
          marks,
          refl,
        );
      },
      bad.1,
    )

-- The receipt is the only one in flight, and is recorded.
only_closing : (c : Call) (early_half : List ℕ) (opened : ℕ) (half : List ℕ) (up_to : ℕ) (after : HostView) (id : List ℕ) (number : ℕ)
    → RecordsUpTo (with_half (waited (hoping c early_half opened) half up_to) []) id number after
    → (closing c ≡ id) × (number ≡ length c.before.records) × (after ≡ recorded_by c)
only_closing c early_half opened half up_to after id number r =
    let p : InFlight = closed_by c.receipt (c.before.next + c.openings) in
    let h : HostView = waited (hoping c early_half opened) [] up_to in
    elim r.way [
      | inl (flight, is_open, f, same) ↦
          let one = one_has p r.last r.before r.others (ap flight_of is_open ∙ f.all_are) in
          let none : length r.before ≡ 0 = ap length one.0 in (
            ap (λ (v : InFlight). v.mark) (sym one.1) ∙ f.mark,
            omega (arith, r.number_is, none),
            same ∙ ap (λ v. recorded h v r.last r.others) one.0 ∙ ap (λ v. recorded h [] v r.others) one.1 ∙ ap (recorded h [] p) one.2,
          )
      | inr (first, is_first, older, f, same) ↦ absurd (no_flight first (p ∷ []) (sym is_first))
    ]

-- The closing mark's answer comes.
pub closed : Joined → (c : Call) (early early_half : List ℕ) (opened : ℕ) (bytes half tail : List ℕ) (up_to byte place number : ℕ) (after : HostView) → Opened c early early_half → Overlooked (hoping c early_half opened) bytes half
    → length tail < 64 → HearsByte (waited (hoping c early_half opened) half up_to) byte place (event.Recorded number) after
    → Closed c (early ++ (bytes ++ byte ∷ tail)) × (number ≡ length c.before.records) × (after ≡ recorded_by c)
closed joined c early early_half opened bytes half tail up_to byte place number after early_opened o short (inl grows) = absurd grows
closed joined c early early_half opened bytes half tail up_to byte place number after early_opened o short (inr (inl misfit)) = absurd misfit
closed joined c early early_half opened bytes half tail up_to byte place number after early_opened o short (inr (inr (a, spelled, (id, is_mark, r)))) =
    let one = only_closing c early_half opened half up_to after id number r in (
      record {
        early = early;
        early_half = early_half;
        later = bytes ++ byte ∷ [];
        dropped = tail;
        whole = ap (λ v. early ++ v) (sym (append_assoc bytes (byte ∷ []) tail)) ∙ sym (append_assoc early (bytes ++ byte ∷ []) tail);
        opened = early_opened;
        others = o.answers;
        last = a;
        hears = whole_on joined (hoping c early_half opened) bytes half byte a o spelled;
        each = no_closings c (c.before.next + c.openings + 1) o.answers o.each;
        closing = subst (IsToClosing c) (sym is_mark) one.0;
        short = short;
      },
      one.1,
      one.2,
    )

pub gone_first : (c : Call) (before left : Option (List ℕ)) (piece : List ℕ) (awaited : Awaited) (after : HostView)
    → awaited.event ≢ event.Opened → Brought (asking c) before left piece awaited after → after ≡ with_heard (gone_down (asking c)) after.heard
gone_first c before left piece awaited after other w = (stopped_asking c after w.half w.heard_up_to w.byte w.place awaited.event w.stop other w.hears).1

pub gone_behind : Joined → (c : Call) (before left : Option (List ℕ)) (piece rest : List ℕ) (consumed : ℕ) (awaited : Awaited) (e : HostEvent) (m after : HostView)
    → awaited.event ≡ event.Opened → Brought (asking c) before left piece awaited m → e ≢ event.None → HearsOut m rest consumed e after → after ≡ with_heard (gone_down (asking c)) after.heard
gone_behind joined c before left piece rest consumed awaited e m after is w some (inl all) = absurd (some all.0)
gone_behind joined c before left piece rest consumed awaited e m after is w some (inr (at, place, half, up_to, within, stop, taken, passed, heard)) =
    (stopped_ready c m after half up_to (slice_index rest at) place e (front_of joined c m before left piece awaited w is).same stop heard).1

pub gone_second : (c : Call) (early_half : List ℕ) (opened : ℕ) (before left : Option (List ℕ)) (piece : List ℕ) (awaited : Awaited) (after : HostView)
    → ((number : ℕ) → awaited.event ≢ event.Recorded number) → Brought (hoping c early_half opened) before left piece awaited after → after ≡ with_heard (gone_down (hoping c early_half opened)) after.heard
gone_second c early_half opened before left piece awaited after other w = (stopped_hoping c after early_half opened w.half w.heard_up_to w.byte w.place awaited.event w.stop other w.hears).1

pub closes_all : Joined → (c : Call) (early early_half : List ℕ) (opened : ℕ) (before left a b : Option (List ℕ)) (piece : List ℕ) (most number : ℕ) (awaited : Awaited) (after : HostView) → Opened c early early_half
    → Appends a b (receipt_bytes c) → awaited.read ≤ most → awaited.event ≡ event.Recorded number → Brought (hoping c early_half opened) before left piece awaited after
    → Closes c early before left a b most number after
closes_all joined c early early_half opened before left a b piece most number awaited after early_opened put few is w =
    let done =
    closed joined c early early_half opened w.bytes w.half w.tail w.heard_up_to w.byte w.place number after early_opened w.overlooked w.short
    (subst (λ e. HearsByte (waited (hoping c early_half opened) w.half w.heard_up_to) w.byte w.place e after) is w.hears) in
    record {
      bytes = w.bytes ++ w.byte ∷ w.tail;
      came = w.came;
      few = let read = w.read in omega (arith, few, read);
      put = put;
      closed = done.0;
      place = done.1;
      same = done.2;
    }

-- What `?` returns.
pub if_err : {A E : Type 0} (P : E → Type 0) (r : Result A E) (e : E) → IsErrAnd r (λ x. x ≡ e) → P e → IfErr r P
if_err P (Ok a) e h p = tt
if_err P (Err x) e h p = subst P (sym h) p

-- A wait that ended with the link still up.
pub lost_up : (h after : HostView) → h.phase ≢ Down → after.phase ≡ h.phase → gone_down after ≡ with_heard (gone_down h) after.heard → Lost h after
lost_up h after up same gone = inr ((λ e. up (sym same ∙ e)), gone)

-- The same where no mark was answered.
pub lost_same : (h after : HostView) → h.phase ≢ Down → after.phase ≡ h.phase → gone_down after ≡ gone_down h → Lost h after
lost_same h after up same gone = lost_up h after up same (gone ∙ ap (with_heard (gone_down h)) (sym (ap (λ (v : HostView). v.heard) gone)))

-- ## A whole call

-- The opening marks are put out, and what an older link left is dropped.
pub started : (c : Call) (h after : HostView) → h ≡ dialled c.before c.openings → after ≡ with_left h [] → after ≡ starting c
started c h after is dropped = dropped ∙ ap (λ v. with_left v []) is

-- The link can't be opened.
pub refused_opening : (c : Call) (why : HostError) (after : HostView) → RefusesOpening why c.before c.openings after → RefusesSend c why [] [] after
refused_opening c error.NotReady after h = absurd h
refused_opening c error.AlreadyUp after h = (h.0, (refl, refl), h.1)
refused_opening c error.MarksUsedUp after (down, inl (few, same)) = (down, inl (few, (refl, refl), same))
refused_opening c error.MarksUsedUp after (down, inr (used, some, few, all, gone)) = (down, inr (inl (used, some, few, all, (refl, refl), gone)))
refused_opening c error.Memory after (down, marks, inl same) = (down, marks, inl ((refl, refl), same))
refused_opening c error.Memory after (down, marks, inr (used, some, few, left, gone)) = (down, marks, inr (inl (used, some, few, left, (refl, refl), gone)))
refused_opening c error.InFlightFull after h = absurd h

-- What a host leaves that is ready, and gives its link up.
given : (c : Call) (half : List ℕ) (h after : HostView) → h ≡ ready c half h.heard → after ≡ gone_down h → after ≡ given_up c c.openings after.heard
given c half h after same gone =
    let done : after ≡ given_up c c.openings h.heard = gone ∙ ap gone_down same in
    done ∙ ap (given_up c c.openings) (sym (ap (λ (v : HostView). v.heard) done))

-- The receipt isn't taken.
pub refused_receipt : (c : Call) (why : HostError) (h after : HostView) (bytes half : List ℕ) → c.before.phase ≡ Down → 1 ≤ c.openings → c.before.next + c.openings ≤ mark_limit c.before
    → Opened c bytes half → h ≡ ready c half h.heard → RefusesSubmit why h → after ≡ gone_down h → RefusesSend c why bytes (opening_bytes c) after
refused_receipt c error.NotReady h after bytes half down some marks o same refuses gone = absurd (refuses [] (ap (λ (v : HostView). v.phase) same))
refused_receipt c error.AlreadyUp h after bytes half down some marks o same refuses gone = absurd refuses
refused_receipt c error.MarksUsedUp h after bytes half down some marks o same (flight, is_open, room, none) gone =
    let next = ap (λ (v : HostView). v.next) same in
    let heard = ap (λ (v : HostView). v.heard) gone in
    let used : mark_limit after ≤ c.before.next + c.openings =
    subst (λ n. mark_limit after ≤ n) next (subst (λ k. min (k + mark_count) number_limit ≤ h.next) (sym heard) none) in
    (down, inr (inr (half, used, (o, refl, refl), given c half h after same gone)))
refused_receipt c error.Memory h after bytes half down some marks o same (flight, is_open, room, left) gone =
    let next = ap (λ (v : HostView). v.next) same in
    let heard = ap (λ (v : HostView). v.heard) gone in
    let first : c.before.next < mark_limit c.before = omega (arith, some, marks) in
    let fits : c.before.next + c.openings < mark_limit after =
    subst (λ n. n < mark_limit after) next (subst (λ k. h.next < min (k + mark_count) number_limit) (sym heard) left) in
    (down, first, inr (inr (half, fits, (o, refl, refl), given c half h after same gone)))
refused_receipt c error.InFlightFull h after bytes half down some marks o same (flight, is_open, full) gone =
    let none : [] ≡ flight = ap flight_of (sym (ap (λ (v : HostView). v.phase) same) ∙ is_open) in
    let count = ap length none in absurd (omega (arith, count, full))

-- The receipt is taken.
pub is_sending : (c : Call) (half : List ℕ) (m q : HostView) → m ≡ ready c half m.heard
    → (flight : List InFlight) × (m.phase ≡ Open flight) × (length flight < most_in_flight) × HasMark m × (q ≡ submitted m flight c.receipt) → q ≡ sending c half m.heard
is_sending c half m q same (flight, is_open, room, marks, taken) =
    let none : [] ≡ flight = ap flight_of (sym (ap (λ (v : HostView). v.phase) same) ∙ is_open) in
    taken ∙ ap (λ h. submitted h flight c.receipt) same ∙ ap (λ f. submitted (ready c half m.heard) f c.receipt) (sym none)

pub has_marks : (c : Call) (half : List ℕ) (m : HostView) → m ≡ ready c half m.heard → c.before.next + c.openings ≤ mark_limit c.before → HasMark m → HasMarks c (c.openings + 1)
has_marks c half m same first marks =
    let next = ap (λ (v : HostView). v.next) same in
    let most : m.next < number_limit = omega (arith, marks) in
    (first, omega (arith, next, most))

-- The opening marks have numbers.
pub first_marks : (c : Call) → c.before.next + c.openings ≤ mark_limit c.before → HasMarks c c.openings
first_marks c marks = (marks, omega (arith, marks))

-- The link is given up after a wait that ended without an answer.
pub closed_down : (h m after : HostView) → Lost h m → (m.phase ≢ Down → after ≡ gone_down m) → (m.phase ≡ Down → after ≡ m) → after ≡ with_heard (gone_down h) after.heard
closed_down h m after (inl gone) up down = heard_so (gone_down h) after m.heard (down (ap (λ (v : HostView). v.phase) gone) ∙ gone)
closed_down h m after (inr (some, same)) up down = heard_so (gone_down h) after m.heard (up some ∙ same)

-- So where it was known what was put out before.
pub closed_from : (q r t known : HostView) → q ≡ known → Lost q r → (r.phase ≢ Down → t ≡ gone_down r) → (r.phase ≡ Down → t ≡ r) → t ≡ with_heard (gone_down known) t.heard
closed_from q r t known same lost up down = closed_down q r t lost up down ∙ ap (λ v. with_heard (gone_down v) t.heard) same

-- The receipt that was in flight is handed out.
pub one_left : (c : Call) (half : List ℕ) (opened : ℕ) (q : HostView) → q ≡ with_heard (gone_down (sending c half opened)) q.heard → slice_get (receipts_of q.left) 0 ≡ Some c.receipt
one_left c half opened q gone = ap (λ (v : HostView). slice_get (receipts_of v.left) 0) gone

pub none_left : (c : Call) (half : List ℕ) (opened : ℕ) (q after : HostView) → q ≡ with_heard (gone_down (sending c half opened)) q.heard → after ≡ handed_out q
    → after ≡ given_up c (c.openings + 1) after.heard
none_left c half opened q after gone handed =
    let next : c.before.next + c.openings + 1 ≡ c.before.next + (c.openings + 1) = omega arith in
    let done : after ≡ given_up c (c.openings + 1) q.heard =
    handed ∙ ap handed_out gone ∙ ap (λ n. record { phase = Down; out = []; half = []; next = n; heard = q.heard; records = c.before.records; left = [] }) next in
    done ∙ ap (given_up c (c.openings + 1)) (sym (ap (λ (v : HostView). v.heard) done))

pub same_some : {A : Type 0} {x y : A} → Some x ≡ Some y → x ≡ y
same_some h = cc h
