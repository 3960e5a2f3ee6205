-- Opening marks, one after another, and bytes that are put out, piece after piece.
use Rattle.std.specs.Prelude.{Bool}
use Rattle.std.proofs.Common.{◌≡◌, ◌≢◌, ◌<◌, ◌≤◌, ◌+◌, inl, inr, ℕ, suc, List, [], ◌∷◌, ◌++◌, length, take, drop, refl, sym, ◌∙◌, ap, append-nil, append_assoc, length-append, length-take, length-drop, take-append-drop, arith, Option, Result, Ok, Err, OnErr, IsTrue, true, false}
use Rattle.std.specs.Io.KnownBytes.{Appends}
use Rattle.std.proofs.KnownBytes.{Appends-trans}
use Rattle.std.proofs.lemmas.Grind.{flat_map-append}
use Rattle.std.proofs.lemmas.List.{take-append-le, take-take}
use Rattle.escpos_command.specs.declared.command.Command.TheVariants as kind
use Rattle.escpos_command.specs.CommandTable.{row, spell}
use Rattle.escpos_host.specs.Counted.{id_of}
use Rattle.escpos_host.specs.declared.host.HostError.{HostError}
use Rattle.escpos_host.specs.declared.host.HostError.TheVariants as error
use Rattle.escpos_host.specs.Awaits.{RefusesOpening, dialled, dialled_by}
use Rattle.escpos_host.specs.Machine.{HostView, Down, HasMark, Opening, RefusesLinkUp, RefusesNudge, ask_reports, gone_down, linked_by, mark_limit, nudged}
use Rattle.escpos_host.specs.Says.{marks_from}
use Rattle.escpos_host.specs.Sends.{IsCut}
use Rattle.escpos_host.proofs.Said.{marks-snoc}

-- What is put out before the marks.
abbrev before_marks : Bool → List ℕ
before_marks true = row ask_reports
before_marks false = []

dialled_so : (reporting : Bool) (h : HostView) (n : ℕ)
    → dialled_by reporting h n ≡ record { phase = Opening h.next; out = before_marks reporting ++ spell (marks_from n h.next); half = []; next = h.next + n; heard = h.heard; records = h.records; left = h.left }
dialled_so true h n = refl
dialled_so false h n = refl

pub dialled_has : (reporting : Bool) (h : HostView) (n : ℕ) → HasMark (dialled_by reporting h n) → h.next + n < mark_limit h
dialled_has true h n has = has
dialled_has false h n has = has

linked_so : (reporting : Bool) (h : HostView)
    → linked_by reporting h ≡ record { phase = Opening h.next; out = before_marks reporting ++ row (kind.Mark (id_of h.next)); half = []; next = h.next + 1; heard = h.heard; records = h.records; left = h.left }
linked_so true h = refl
linked_so false h = refl

pub dialled_first : (reporting : Bool) (h : HostView) → linked_by reporting h ≡ dialled_by reporting h 1
dialled_first reporting h =
    linked_so reporting h
    ∙ ap (λ out. record { phase = Opening h.next; out = before_marks reporting ++ out; half = []; next = h.next + 1; heard = h.heard; records = h.records; left = h.left }) (sym (append-nil (row (kind.Mark (id_of h.next)))))
    ∙ sym (dialled_so reporting h 1)

pub dialled_more : (reporting : Bool) (h : HostView) (n : ℕ) → nudged (dialled_by reporting h n) ≡ dialled_by reporting h (n + 1)
dialled_more reporting h n =
    let one : n + 1 ≡ suc n = omega arith in
    let count : (h.next + n) + 1 ≡ h.next + (n + 1) = omega arith in
    let before = before_marks reporting in
    let last = row (kind.Mark (id_of (h.next + n))) in
    let whole : (before ++ spell (marks_from n h.next)) ++ last ≡ before ++ spell (marks_from (n + 1) h.next) =
    append_assoc before (spell (marks_from n h.next)) last
    ∙ sym (ap (λ k. before ++ spell (marks_from k h.next)) one ∙ ap (λ cs. before ++ spell cs) (marks-snoc n h.next)
    ∙ ap (λ v. before ++ v) (flat_map-append row (marks_from n h.next) (kind.Mark (id_of (h.next + n)) ∷ []) ∙ ap (λ v. spell (marks_from n h.next) ++ v) (append-nil last))) in
    ap nudged (dialled_so reporting h n)
    ∙ ap (λ out. record { phase = Opening h.next; out = out; half = []; next = (h.next + n) + 1; heard = h.heard; records = h.records; left = h.left }) whole
    ∙ ap (λ k. record { phase = Opening h.next; out = before ++ spell (marks_from (n + 1) h.next); half = []; next = k; heard = h.heard; records = h.records; left = h.left }) count
    ∙ sym (dialled_so reporting h (n + 1))

pub refused_first : (why : HostError) (h after : HostView) (openings : ℕ) → RefusesLinkUp why h → after ≡ h → RefusesOpening why h openings after
refused_first error.NotReady h after openings refuses same = absurd refuses
refused_first error.MarksUsedUp h after openings refuses same = (refuses.0, inl (refuses.1, same))
refused_first error.AlreadyUp h after openings refuses same = (refuses, same)
refused_first error.Memory h after openings refuses same = (refuses.0, refuses.1, inl same)
refused_first error.InFlightFull h after openings refuses same = absurd refuses

later_refused : (why : HostError) (h after : HostView) (n openings : ℕ) → h.phase ≡ Down → 1 ≤ n → n < openings → h.next + n ≤ mark_limit h → RefusesNudge why (dialled h n)
    → after ≡ gone_down (dialled h n) → RefusesOpening why h openings after
later_refused error.NotReady h after n openings down some few marks refuses gone = absurd (refuses tt)
later_refused error.MarksUsedUp h after n openings down some few marks refuses gone =
    let used = refuses.1 in
    let all : h.next + n ≡ mark_limit h = omega (arith, used, marks) in
    let positive : 0 < n = omega (arith, some) in (down, inr (n, positive, few, all, gone))
later_refused error.AlreadyUp h after n openings down some few marks refuses gone = absurd refuses
later_refused error.Memory h after n openings down some few marks refuses gone =
    let left = refuses.1 in
    let first : h.next < mark_limit h = omega (arith, left) in
    let positive : 0 < n = omega (arith, some) in (down, first, inr (n, positive, few, left, gone))
later_refused error.InFlightFull h after n openings down some few marks refuses gone = absurd refuses

nudge_refused : (reporting : Bool) (why : HostError) (h : HostView) (n : ℕ) → RefusesNudge why (dialled_by reporting h n) → RefusesNudge why (dialled h n)
nudge_refused false why h n refuses = refuses
nudge_refused true error.NotReady h n refuses = refuses
nudge_refused true error.MarksUsedUp h n refuses = refuses
nudge_refused true error.AlreadyUp h n refuses = refuses
nudge_refused true error.Memory h n refuses = refuses
nudge_refused true error.InFlightFull h n refuses = refuses

down_so : (reporting : Bool) (h : HostView) (n : ℕ) → gone_down (dialled_by reporting h n) ≡ gone_down (dialled h n)
down_so true h n = refl
down_so false h n = refl

pub refused_later : (reporting : Bool) (why : HostError) (h after : HostView) (n openings : ℕ) → h.phase ≡ Down → 1 ≤ n → n < openings → h.next + n ≤ mark_limit h
    → RefusesNudge why (dialled_by reporting h n) → after ≡ gone_down (dialled_by reporting h n) → RefusesOpening why h openings after
refused_later reporting why h after n openings down some few marks refuses gone =
    later_refused why h after n openings down some few marks (nudge_refused reporting why h n refuses) (gone ∙ down_so reporting h n)

-- ## Putting out

-- What was copied from the first bytes to take out.
pub copied_front : (out piece new : List ℕ) (count : ℕ) → count ≤ length out → new ≡ take count out ++ drop count piece → take count new ≡ take count out
copied_front out piece new count few copied =
    let whole : length (take count out) ≡ count = let p = length-take count out in omega (arith, p, few) in
    let within : count ≤ length (take count out) = omega (arith, whole) in
    let same : count ≤ count = omega arith in
    ap (λ v. take count v) copied ∙ take-append-le count (take count out) (drop count piece) within ∙ take-take count count out same

pub put_more : (a b c : Option (List ℕ)) (all so_far out : List ℕ) (count : ℕ) → Appends a b so_far → all ≡ so_far ++ out → Appends b c (take count out)
    → (more : List ℕ) × Appends a c more × (all ≡ more ++ drop count out)
put_more a b c all so_far out count before whole more = (
  so_far ++ take count out,
  Appends-trans a b c so_far (take count out) before more,
  whole ∙ ap (λ v. so_far ++ v) (sym (take-append-drop count out)) ∙ sym (append_assoc so_far (take count out) (drop count out)),
)

pub put_cut : (a b c : Option (List ℕ)) (all so_far out : List ℕ) (count written : ℕ) → Appends a b so_far → all ≡ so_far ++ out → written < length (take count out)
    → Appends b c (take written (take count out)) → (some : List ℕ) × Appends a c some × IsCut all some
put_cut a b c all so_far out count written before whole fewer front =
    let some = take written (take count out) in
    let missing = drop written (take count out) in (
      so_far ++ some,
      Appends-trans a b c so_far some before front,
      (
        missing ++ drop count out,
        λ none. let l = length-drop written (take count out) in let m = length-append missing (drop count out) in let e = ap length none in omega (arith, l, m, e, fewer),
        whole ∙ ap (λ v. so_far ++ v) (sym (ap (λ v. v ++ drop count out) (take-append-drop written (take count out)) ∙ take-append-drop count out)
            ∙ append_assoc some missing (drop count out)) ∙ sym (append_assoc so_far some (missing ++ drop count out)),
      ),
    )

pub is_some : (bs : List ℕ) → bs ≢ [] → 0 < length bs
is_some [] h = absurd (h refl)
is_some (b ∷ bs) h = omega arith

pub is_none : (bs : List ℕ) → (bs ≢ [] → IsTrue false) → bs ≡ []
is_none [] h = refl
is_none (b ∷ bs) h = let e = h (λ none. cc none) in absurd (cc e)

pub on_err : {A E : Type 0} {P : Type 0} (r : Result A E) → P → OnErr r P
on_err (Ok a) p = tt
on_err (Err e) p = p
