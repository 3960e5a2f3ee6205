-- Bytes that move, some and then more; and bytes of the first link that are fed.
use Rattle.std.proofs.Common.{◌≡◌, ◌≢◌, ◌⊎◌, ◌<◌, ◌≤◌, ◌+◌, ◌-◌, inl, inr, ℕ, zero, suc, List, [], ◌∷◌, ◌++◌, length, take, drop, min, Option, Some, None, refl, sym, ◌∙◌, ap, subst, append_assoc, length-append, length-take, length-drop, arith, IsTrue, ◌==◌}
use Rattle.std.specs.Prelude.{slice_index_or, slice_set, IfSome}
use Rattle.std.proofs.lemmas.List.{drop-drop, drop_all}
use Rattle.std.proofs.lemmas.Bool.Decides.{nat_tests}
use Rattle.std.proofs.Math.Seq.{take-add}
use Rattle.escpos_command.specs.declared.answer.Answer.{Answer}
use Rattle.escpos_printer.specs.declared.printer.Fed.{Fed}
use Rattle.escpos_printer.specs.declared.printer.FeedStop.{FeedStop}
use Rattle.escpos_printer.specs.declared.printer.FeedStop.TheVariants as stop
use Rattle.escpos_printer.specs.Feeds.{Feeds, IsLeft, PrinterView, Took}
use Rattle.escpos_host.specs.declared.host.HostEvent.{HostEvent}
use Rattle.escpos_host.specs.declared.host.HostEvent.TheVariants as event
use Rattle.escpos_host.specs.Heard.{EndsLink, HearsAll, last_of}
use Rattle.escpos_host.specs.Machine.{HostView, taken_out}
use Rattle.escpos_link.specs.declared.event.Event.TheVariants as happening
use Rattle.escpos_link.specs.declared.event.Handed.TheVariants as handed
use Rattle.escpos_link.specs.declared.event.Note.TheVariants as note
use Rattle.escpos_link.specs.declared.event.Refusal.TheVariants as refusal
use Rattle.escpos_link.specs.declared.event.Refused.{Refused}
use Rattle.escpos_link.specs.EventTable.{After, HandsOver, IsRefused, Leaves, answers_left, ended_fed, first_of, live_fed, moved, off_link, put_on, told_at, with_host, with_printer}
use Rattle.escpos_link.specs.MoveSteps.{HasMoved}
use Rattle.escpos_link.specs.Line.{LineView}
use Rattle.escpos_link.specs.Wire.{AfterOnWire, WireView, fed_to, line_of, with_bytes}
use Rattle.escpos_link.proofs.AfterHearing.{heard_line, heard_line_is, off_line_is}
use Rattle.escpos_link.proofs.HeardInTurn.{told_ends}

-- ## Out of the host

put_on_both : (live : Option (List ℕ)) (xs ys : List ℕ) → put_on (put_on live xs) ys ≡ put_on live (xs ++ ys)
put_on_both None xs ys = refl
put_on_both (Some bytes) xs ys = ap Some (append_assoc bytes xs ys)

pub moved_more : (h now after : HostView) (live on later : Option (List ℕ)) (n k : ℕ) → HasMoved h live n now on → HasMoved now on k after later → HasMoved h live (n + k) after later
moved_more h now after live on later n k first second = (
  second.0 ∙ ap (λ v. taken_out v k) first.0
      ∙ ap (λ out. record { phase = h.phase; out = out; half = h.half; next = h.next; heard = h.heard; records = h.records; left = h.left }) (drop-drop k n h.out),
  second.1 ∙ ap (λ v. put_on on (take k v.out)) first.0 ∙ ap (λ v. put_on v (take k (drop n h.out))) first.1 ∙ put_on_both live (take n h.out) (take k (drop n h.out))
      ∙ ap (put_on live) (sym (take-add n k h.out)),
)

-- How many bytes are left to be taken out.
pub left_count : (h now : HostView) (live on : Option (List ℕ)) (n : ℕ) → HasMoved h live n now on → length now.out ≡ length h.out - n
left_count h now live on n first = ap (λ (v : HostView). length v.out) first.0 ∙ length-drop n h.out

pub none_left : (h now : HostView) (live on : Option (List ℕ)) (n most : ℕ) → HasMoved h live n now on → n ≤ most → n ≤ length h.out → now.out ≡ [] → n ≡ min most (length h.out)
none_left h now live on n most first few within none = omega (arith, left_count h now live on n first, ap length none, few, within)

pub fewer_moved : (l after : LineView) (most fewer : ℕ) → fewer < most → fewer < length l.host.out → after ≡ moved l fewer → Leaves (happening.Move most) l after
fewer_moved l after most fewer less within same = (fewer, note.Moved fewer, less, within, (fewer, refl, omega (arith, within), same))

-- ## Into the printer

pub first_ended : (ended : List (List ℕ)) (live : Option (List ℕ)) (bytes : List ℕ) → 0 < length ended → bytes ≡ slice_index_or ended 0 bytes → first_of ended live ≡ bytes
first_ended [] live bytes some is = absurd (omega (arith, some))
first_ended (b ∷ others) live bytes some is = sym is

pub rest_ended : (ended : List (List ℕ)) (bytes : List ℕ) (k : ℕ) → 0 < length ended → bytes ≡ slice_index_or ended 0 bytes → slice_set ended 0 (drop k bytes) ≡ ended_fed ended k
rest_ended [] bytes k some is = absurd (omega (arith, some))
rest_ended (b ∷ others) bytes k some is = ap (λ v. drop k v ∷ others) is

live_ended : (ended : List (List ℕ)) (live : Option (List ℕ)) (k : ℕ) → 0 < length ended → live_fed ended live k ≡ live
live_ended [] live k some = absurd (omega (arith, some))
live_ended (b ∷ others) live k some = refl

-- What feeding bytes of the first link leaves of a wire.
abbrev pub FedFirst : WireView → ℕ → ℕ → FeedStop → WireView → Type 0
FedFirst w most k why after = (printer : PrinterView) × Feeds w.printer (take most (first_of w.ended w.live)) k why printer × (after ≡ fed_to w k printer)

pub fed_ended : (w : WireView) (printer : PrinterView) (bytes rest : List ℕ) (most k : ℕ) (why : FeedStop) → 0 < length w.ended → bytes ≡ slice_index_or w.ended 0 bytes
    → rest ≡ drop k bytes → Feeds w.printer (take most bytes) k why printer
    → FedFirst w most k why (record { printer = printer; ended = slice_set w.ended 0 rest; live = w.live; coming = w.coming })
fed_ended w printer bytes rest most k why some is left feeds = (
  printer,
  subst (λ bs. Feeds w.printer (take most bs) k why printer) (sym (first_ended w.ended w.live bytes some is)) feeds,
  ap (λ bs. record { printer = printer; ended = slice_set w.ended 0 bs; live = w.live; coming = w.coming }) left
      ∙ ap (λ links. record { printer = printer; ended = links; live = w.live; coming = w.coming }) (rest_ended w.ended bytes k some is)
      ∙ ap (λ on. record { printer = printer; ended = ended_fed w.ended k; live = on; coming = w.coming }) (sym (live_ended w.ended w.live k some)),
)

pub fed_live : (w : WireView) (printer : PrinterView) (bytes rest : List ℕ) (most k : ℕ) (why : FeedStop) → w.ended ≡ [] → w.live ≡ Some bytes
    → rest ≡ drop k bytes → Feeds w.printer (take most bytes) k why printer
    → FedFirst w most k why (record { printer = printer; ended = w.ended; live = Some rest; coming = w.coming })
fed_live w printer bytes rest most k why none is left feeds = (
  printer,
  subst (λ bs. Feeds w.printer (take most bs) k why printer) (sym (ap (λ links. first_of links w.live) none ∙ ap (first_of []) is)) feeds,
  ap (λ links. record { printer = printer; ended = links; live = Some rest; coming = w.coming }) (none ∙ sym (ap (λ links. ended_fed links k) none))
      ∙ ap (λ on. record { printer = printer; ended = ended_fed w.ended k; live = on; coming = w.coming })
      (ap Some left ∙ sym (ap (λ links. live_fed links w.live k) none ∙ ap (λ on. live_fed [] on k) is)),
)

take-nil : (n : ℕ) → take {A = ℕ} n [] ≡ []
take-nil zero = refl
take-nil (suc n) = refl

pub fed_none : (w : WireView) (printer : PrinterView) (most k : ℕ) (why : FeedStop) → w.ended ≡ [] → w.live ≡ None → Feeds w.printer [] k why printer
    → FedFirst w most k why (record { printer = printer; ended = w.ended; live = w.live; coming = w.coming })
fed_none w printer most k why none no_live feeds = (
  printer,
  subst (λ bs. Feeds w.printer bs k why printer) (sym (ap (λ links. take most (first_of links w.live)) none ∙ ap (λ on. take most (first_of [] on)) no_live ∙ take-nil most)) feeds,
  ap (λ links. record { printer = printer; ended = links; live = w.live; coming = w.coming }) (none ∙ sym (ap (λ links. ended_fed links k) none))
      ∙ ap (λ on. record { printer = printer; ended = ended_fed w.ended k; live = on; coming = w.coming })
      (no_live ∙ sym (ap (λ links. live_fed links w.live k) none ∙ ap (λ on. live_fed [] on k) no_live)),
)

pub empty_of : {X : Type 0} (xs : List X) → ((xs ≡ [] → ⊥) → ⊥) → xs ≡ []
empty_of [] h = refl
empty_of (x ∷ xs) h = absurd (h (λ e. cc e))

take_within : (k m : ℕ) (xs : List ℕ) → k ≤ m → take k (take m xs) ≡ take k xs
take_within zero m xs few = refl
take_within (suc k) zero xs few = absurd (omega (arith, few))
take_within (suc k) (suc m) [] few = refl
take_within (suc k) (suc m) (x ∷ xs) few = ap (λ v. x ∷ v) (take_within k m xs (omega (arith, few)))

same_left : (why : FeedStop) (taken q : PrinterView) → why ≡ stop.Memory → IsLeft why taken q → IsLeft stop.All taken q
same_left why taken q e left = let same : IsLeft stop.Memory taken q = subst (λ w. IsLeft w taken q) e left in same

-- A piece that was fed up to some byte, because an allocation failed, is a shorter one that was fed whole.
pub cut_short : (p q : PrinterView) (bytes : List ℕ) (most k : ℕ) (why : FeedStop) → why ≡ stop.Memory → Feeds p (take most bytes) k why q → (k < most) × Feeds p (take k bytes) k stop.All q
cut_short p q bytes most k why memory f =
    let few : k < length (take most bytes) = within_piece f.cause in
    let less : k < most = omega (arith, few, length-take most bytes) in
    let front : take k (take most bytes) ≡ take k (take k bytes) = take_within k most bytes (omega (arith, less)) ∙ sym (take_within k k bytes (omega arith)) in
    let whole : k ≡ length (take k bytes) = omega (arith, few, length-take most bytes, length-take k bytes) in (
      less,
      record {
        commands = f.commands;
        taken = f.taken;
        within = omega (arith, whole);
        took = subst (λ bs. Took p bs f.commands f.taken) front f.took;
        cause = inl (refl, whole);
        place = tt;
        leaves = same_left why f.taken q memory f.leaves;
      },
    )
  where
    within_piece : {B : Type 0} → ((why ≡ stop.All) × (k ≡ length (take most bytes))) ⊎ ((k < length (take most bytes)) × B) → k < length (take most bytes)
    within_piece (inl (all, count)) = let bad : stop.All ≡ stop.Memory = sym all ∙ memory in cc
    within_piece (inr (less, cause)) = less

pub fewer_fed : (w after : WireView) (printer : PrinterView) (most k : ℕ) (why : FeedStop) → why ≡ stop.Memory → Feeds w.printer (take most (first_of w.ended w.live)) k why printer
    → after ≡ fed_to w k printer → (host : HostView) → Leaves (happening.Deliver most) (line_of host w) (line_of host after)
fewer_fed w after printer most k why memory feeds same host =
    let short = cut_short w.printer printer (first_of w.ended w.live) most k why memory feeds in
    let fed : Fed = record { consumed = k; stop = stop.All } in (
      k,
      note.Fed fed,
      short.0,
      (fed, printer, refl, short.1, (λ e. cc e), ap (line_of host) same),
      (printer, subst (λ v. Feeds w.printer (take most (first_of w.ended w.live)) k v printer) memory feeds, ap (line_of host) same),
    )

-- Where memory ran out, there was a byte to be fed.
pub some_fed : (p q : PrinterView) (piece : List ℕ) (k : ℕ) (why : FeedStop) → why ≡ stop.Memory → Feeds p piece k why q → piece ≢ []
some_fed p q piece k why memory feeds none =
    elim feeds.cause [
      | inl all ↦ let bad : stop.Memory ≡ stop.All = sym memory ∙ all.0 in cc
      | inr some ↦ omega (arith, some.0, ap length none)
    ]

-- ## Answers

pub first_waiting : (xs : List Answer) → (length xs ≡ 0 → ⊥) → (a : Answer) × (xs ≡ a ∷ drop 1 xs)
first_waiting [] some = absurd (some refl)
first_waiting (a ∷ xs) some = (a, refl)

lost : (l : LineView) (printer : PrinterView) → (length l.printer.waiting ≡ 0 → ⊥) → l.ended ≢ [] → printer ≡ answers_left l.printer (drop 1 l.printer.waiting)
    → HandsOver l handed.Lost (with_printer l printer)
lost l printer some links same = let first = first_waiting l.printer.waiting some in (first.0, drop 1 l.printer.waiting, first.1, links, ap (with_printer l) same)

pub after_hearing : (l after : LineView) (k consumed : ℕ) (told : HostEvent) (host : HostView) (events : List HostEvent) → HearsAll l.host (take k l.coming) events consumed host
    → told ≡ told_at (last_of events) consumed → ((at : ℕ) → told ≡ event.BadAnswer at → ⊥) → after ≡ heard_line l host (drop consumed l.coming)
    → After (happening.Answer k) l (note.Heard consumed told) after
after_hearing l after k consumed told host events hears is_told other same =
    (events, consumed, host, ap (note.Heard consumed) is_told, hears, same ∙ sym (heard_line_is (last_of events) l consumed host (no_end (last_of events) is_told)))
  where
    no_end : (e : HostEvent) → told ≡ told_at e consumed → EndsLink e → ⊥
    no_end event.None is ends = ends
    no_end event.Opened is ends = ends
    no_end (event.Recorded n) is ends = ends
    no_end (event.Status b) is ends = ends
    no_end (event.Condition block) is ends = ends
    no_end (event.Late id) is ends = ends
    no_end (event.BadAnswer at) is ends = other consumed is

pub after_bad_answer : (l after : LineView) (k consumed at : ℕ) (told : HostEvent) (host : HostView) (events : List HostEvent) → HearsAll l.host (take k l.coming) events consumed host
    → told ≡ told_at (last_of events) consumed → told ≡ event.BadAnswer at → after ≡ off_link (with_host l host) → After (happening.Answer k) l (note.Heard consumed told) after
after_bad_answer l after k consumed at told host events hears is_told bad same =
    (events, consumed, host, ap (note.Heard consumed) is_told, hears, same ∙ sym (off_line_is (last_of events) l consumed host (told_ends (last_of events) consumed at (sym bad ∙ is_told))))

-- ## The same for a wire whose model another wire gives

-- Its own view, and what is left of it, are given by what it keeps.
pub fed_ended_seen : (m w after : WireView) (printer : PrinterView) (bytes rest : List ℕ) (most k : ℕ) (why : FeedStop) → m ≡ w
    → after ≡ record { printer = printer; ended = slice_set m.ended 0 rest; live = m.live; coming = m.coming } → 0 < length m.ended
    → bytes ≡ slice_index_or m.ended 0 bytes → rest ≡ drop k bytes → Feeds m.printer (take most bytes) k why printer → FedFirst w most k why after
fed_ended_seen m w after printer bytes rest most k why seen same some is left feeds =
    subst (λ v. FedFirst v most k why after) seen (subst (FedFirst m most k why) (sym same) (fed_ended m printer bytes rest most k why some is left feeds))

pub fed_live_seen : (m w after : WireView) (printer : PrinterView) (bytes rest : List ℕ) (most k : ℕ) (why : FeedStop) → m ≡ w
    → after ≡ record { printer = printer; ended = m.ended; live = Some rest; coming = m.coming } → m.ended ≡ [] → m.live ≡ Some bytes
    → rest ≡ drop k bytes → Feeds m.printer (take most bytes) k why printer → FedFirst w most k why after
fed_live_seen m w after printer bytes rest most k why seen same none is left feeds =
    subst (λ v. FedFirst v most k why after) seen (subst (FedFirst m most k why) (sym same) (fed_live m printer bytes rest most k why none is left feeds))

pub fed_none_seen : (m w after : WireView) (printer : PrinterView) (most k : ℕ) (why : FeedStop) → m ≡ w
    → after ≡ record { printer = printer; ended = m.ended; live = m.live; coming = m.coming } → m.ended ≡ [] → m.live ≡ None
    → Feeds m.printer [] k why printer → FedFirst w most k why after
fed_none_seen m w after printer most k why seen same none no_live feeds =
    subst (λ v. FedFirst v most k why after) seen (subst (FedFirst m most k why) (sym same) (fed_none m printer most k why none no_live feeds))

pub lost_seen : (m w after : WireView) (printer : PrinterView) → m ≡ w → after ≡ record { printer = printer; ended = m.ended; live = m.live; coming = m.coming }
    → (length m.printer.waiting ≡ 0 → ⊥) → m.ended ≢ [] → printer ≡ answers_left m.printer (drop 1 m.printer.waiting)
    → AfterOnWire happening.HandOver w (note.Handed handed.Lost) after
lost_seen m w after printer seen same some links left host = (
  handed.Lost,
  refl,
  subst (λ v. HandsOver (line_of host v) handed.Lost (line_of host after)) seen
      (subst (HandsOver (line_of host m) handed.Lost) (sym (ap (line_of host) same)) (lost (line_of host m) printer some links left)),
)

pub heard_seen : (m l after : LineView) (k consumed : ℕ) (told : HostEvent) (host : HostView) (events : List HostEvent) → m ≡ l → HearsAll m.host (take k m.coming) events consumed host
    → told ≡ told_at (last_of events) consumed → ((at : ℕ) → told ≡ event.BadAnswer at → ⊥) → after ≡ heard_line m host (drop consumed m.coming)
    → After (happening.Answer k) l (note.Heard consumed told) after
heard_seen m l after k consumed told host events seen hears is_told other same =
    subst (λ v. After (happening.Answer k) v (note.Heard consumed told) after) seen (after_hearing m after k consumed told host events hears is_told other same)

pub refused_seen : (h host : HostView) (w later : WireView) (l after : LineView) (most fewer : ℕ) (refused : Refused) → line_of h w ≡ l
    → refused ≡ record { why = refusal.Memory; receipt = None } → after ≡ line_of host later → fewer < most → fewer < length h.out → w.live ≢ None
    → host ≡ taken_out h fewer → later ≡ with_bytes w (take fewer h.out) → IsRefused (happening.Move most) l refused after
refused_seen h host w later l after most fewer refused seen why same less within some host_is later_is =
    subst (λ r. IsRefused (happening.Move most) l r after) (sym why)
    (subst (λ v. IsRefused (happening.Move most) v (record { why = refusal.Memory; receipt = None }) after) seen (record {
      reason = (refl, some);
      line = fewer_moved (line_of h w) after most fewer less within (same ∙ ap (λ v. line_of v later) host_is ∙ ap (line_of (taken_out h fewer)) later_is);
      receipt = refl;
    }))

-- A queue with a link in it has one.
pub has_link : (links : List (List ℕ)) (count : ℕ) → count ≡ length links → (count ≡ 0 → ⊥) → links ≢ []
has_link [] count same some none = some same
has_link (x ∷ links) count same some none = cc none

pub no_link : (links : List (List ℕ)) (count : ℕ) → count ≡ length links → (0 < count → ⊥) → links ≡ []
no_link [] count same none = refl
no_link (x ∷ links) count same none = absurd (none (omega (arith, same)))

-- A list from which as many elements are dropped as it has.
pub empty_drop : (xs : List ℕ) (k n : ℕ) → k ≤ length xs → n ≡ length xs → (IsTrue (k == n) → drop k xs ≡ []) × (drop k xs ≡ [] → IsTrue (k == n))
empty_drop xs k n few all = (
  λ is. let same : k ≡ n = grind (arith, nat_tests) in drop_all k xs (omega (arith, same, all)),
  λ none. let same : k ≡ n = omega (arith, ap length none, length-drop k xs, few, all) in grind (arith, nat_tests),
)

-- If all that a host has to take out went onto a link, it is shorter than `usize::MAX`.
pub short_out : (live : Option (List ℕ)) (out : List ℕ) (count most : ℕ) → count ≡ min most (length out) → live ≢ None
    → IfSome (put_on live (take count out)) (λ bytes. length bytes < most) → length out ≤ most
short_out None out count most is_count some short = absurd (some refl)
short_out (Some bytes) out count most is_count some short = omega (arith, is_count, short, length-append bytes (take count out), length-take count out)
