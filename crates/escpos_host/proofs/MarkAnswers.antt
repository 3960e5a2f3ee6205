-- What an answer to a mark does to what a host keeps.
use Rattle.std.proofs.Common.{◌≡◌, inl, inr, ℕ, ◌+◌, ◌<◌, ◌≤◌, List, [], ◌∷◌, ◌++◌, length, length-drop, length-take, take, drop, zero, suc, refl, sym, ◌∙◌, ap, subst, arith}
use Rattle.std.specs.Prelude.{slice_index}
use Rattle.std.proofs.lemmas.List.{drop-drop}
use Rattle.std.proofs.Math.Seq.{take-add}
use Rattle.escpos_command.specs.declared.command.Command.{Command}
use Rattle.escpos_host.specs.Counted.{id_of}
use Rattle.escpos_host.specs.declared.host.Stage.{Stage}
use Rattle.escpos_host.specs.declared.host.Stage.TheVariants as stage
use Rattle.escpos_host.specs.Heard.{IsClosing, IsMarkFrom, RecordsUpTo, opened}
use Rattle.escpos_host.specs.Kept.{AreMarks, IsConsistent, HasIdAmong, IsPlaceOf, pairs, phase_of, view_of}
use Rattle.escpos_host.specs.Machine.{HostView, InFlight, Opening, Open, closed_by, receipts_of}
use Rattle.escpos_host.specs.Out.{Pending, Within, unsent}
use Rattle.escpos_host.proofs.Pending.{more_receipts}
use Rattle.escpos_host.proofs.Views.{OpenHost, enough_flying, enough_left, open_host, pairs_none}

-- Only an open link has receipts in flight.
pub stage_open : (s : Stage) (rest : List (List Command)) (marks : List ℕ) (flight : List InFlight) → phase_of s rest marks ≡ Open flight → s ≡ stage.Open
stage_open stage.Down rest marks flight e = cc e
stage_open (stage.Opening first) rest marks flight e = cc e
stage_open stage.Open rest marks flight e = refl

pub stage_opening : (s : Stage) (rest : List (List Command)) (marks : List ℕ) (first : ℕ) → phase_of s rest marks ≡ Opening first → s ≡ stage.Opening first
stage_opening stage.Down rest marks first e = cc e
stage_opening (stage.Opening other) rest marks first e = cc e
stage_opening stage.Open rest marks first e = cc e

-- What a host keeps whose phase is that of an open link.
pub open_phased : (s : Stage) (receipts : List (List Command)) (recorded : ℕ) (marks left : List ℕ) (out : Pending) (half : List ℕ) (next heard : ℕ) (h : HostView) (flight : List InFlight)
    → view_of s receipts recorded marks left out half next heard ≡ h → h.phase ≡ Open flight → IsConsistent s receipts recorded marks left out half
    → OpenHost receipts recorded marks left out half next heard h
open_phased s receipts recorded marks left out half next heard h flight is phase fits =
    let up = stage_open s (drop recorded receipts) marks flight (ap (λ (v : HostView). v.phase) is ∙ phase) in
    open_host s receipts recorded marks left out half next heard h up is fits

-- The link is opened, and no receipt is in flight.
pub link_opened : (s : Stage) (first n : ℕ) (receipts : List (List Command)) (recorded : ℕ) (marks left : List ℕ) (out : Pending) (half : List ℕ) (next heard : ℕ) → s ≡ stage.Opening first
    → IsConsistent s receipts recorded marks left out half
    → view_of stage.Open receipts recorded marks left out half next (n + 1) ≡ opened (view_of s receipts recorded marks left out half next heard) n
link_opened s first n receipts recorded marks left out half next heard is fits =
    let here : IsConsistent (stage.Opening first) receipts recorded marks left out half = subst (λ v. IsConsistent v receipts recorded marks left out half) is fits in
    let v = view_of stage.Open receipts recorded marks left out half next heard in
    ap (λ ps. record { phase = Open ps; out = v.out; half = half; next = next; heard = n + 1; records = v.records; left = v.left })
    (ap (pairs (drop recorded receipts)) here.stage ∙ pairs_none (drop recorded receipts))

closing_among : (least : ℕ) (rs : List (List Command)) (ns : List ℕ) (id : List ℕ) → IsClosing least (pairs rs ns) id → HasIdAmong least ns id
closing_among least [] [] id h = h
closing_among least [] (n ∷ ns) id h = absurd h
closing_among least (r ∷ rs) [] id h = h
closing_among least (r ∷ rs) (n ∷ ns) id (inl e) = inl e
closing_among least (r ∷ rs) (n ∷ ns) id (inr later) = inr (closing_among least rs ns id later)

-- The answer to any other mark.
pub is_other : (least : ℕ) (rs : List (List Command)) (marks id : List ℕ) → (HasIdAmong least marks id → ⊥) → IsClosing least (pairs rs marks) id → ⊥
is_other least rs marks id other closing = other (closing_among least rs marks id closing)

-- ## The first receipts

cut_among : (least n : ℕ) (r : List Command) (front : List ℕ) (before : List InFlight) (id : List ℕ) → ((other : List ℕ) → IsClosing least before other → HasIdAmong least front other)
    → IsClosing least (closed_by r n ∷ before) id → HasIdAmong least (n ∷ front) id
cut_among least n r front before id among (inl e) = inl e
cut_among least n r front before id among (inr later) = inr (among id later)

-- Pairs up to this place, and after it.
pub record CutAt (least : ℕ) (rs : List (List Command)) (ns : List ℕ) (place : ℕ) : Type 0 where
  pub before : List InFlight
  pub last : InFlight
  pub all_are : pairs rs ns ≡ before ++ last ∷ pairs (drop (suc place) rs) (drop (suc place) ns)
  pub number : last.number ≡ slice_index ns place
  pub mark : last.mark ≡ id_of (slice_index ns place)
  pub printed : receipts_of (before ++ last ∷ []) ≡ take (suc place) rs
  pub count : length before ≡ place
  pub among : (id : List ℕ) → IsClosing least before id → HasIdAmong least (take place ns) id

pub cut_at : (least : ℕ) (rs : List (List Command)) (ns : List ℕ) (place : ℕ) → place < length ns → length ns ≤ length rs → CutAt least rs ns place
cut_at least rs [] place within few = absurd (omega (arith, within))
cut_at least [] (n ∷ ns) place within few = absurd (omega (arith, few))
cut_at least (r ∷ rs) (n ∷ ns) zero within few = record {
  before = [];
  last = closed_by r n;
  all_are = refl;
  number = refl;
  mark = refl;
  printed = refl;
  count = refl;
  among = λ id is. is;
}
cut_at least (r ∷ rs) (n ∷ ns) (suc place) within few =
    let c = cut_at least rs ns place (omega (arith, within)) (omega (arith, few)) in
    record {
      before = closed_by r n ∷ c.before;
      last = c.last;
      all_are = ap (λ ps. closed_by r n ∷ ps) c.all_are;
      number = c.number;
      mark = c.mark;
      printed = ap (λ rs. r ∷ rs) c.printed;
      count = ap suc c.count;
      among = λ id is. cut_among least n r (take place ns) c.before id c.among is;
    }

-- What is kept of a host after the receipts up to a place are recorded.
all_after : (k : ℕ) (ns : List ℕ) → AreMarks ns → AreMarks (drop k ns)
all_after zero ns all = all
all_after (suc k) [] all = all
all_after (suc k) (n ∷ ns) all = all_after k ns all.1

-- Some of the receipts in flight are recorded.
pub flight_recorded : (receipts : List (List Command)) (recorded : ℕ) (marks left : List ℕ) (out : Pending) (half : List ℕ) (next heard place : ℕ) (id fewer : List ℕ)
    → IsConsistent stage.Open receipts recorded marks left out half → IsPlaceOf 0 marks id place → fewer ≡ drop (place + 1) marks
    → RecordsUpTo (view_of stage.Open receipts recorded marks left out half next heard) id (recorded + place)
    (view_of stage.Open receipts (recorded + (place + 1)) fewer left out half next (slice_index marks place + 1))
flight_recorded receipts recorded marks left out half next heard place id fewer fits is gone =
    let rs = drop recorded receipts in
    let step : place + 1 ≡ suc place = omega arith in
    let c = cut_at 0 rs marks place is.within (enough_flying stage.Open receipts recorded marks left out half fits) in
    let within = is.within in
    let sum : (recorded + (place + 1)) + length fewer ≡ recorded + length marks = omega (arith, ap length gone, length-drop (place + 1) marks, within) in
    let rest : drop (recorded + (place + 1)) receipts ≡ drop (suc place) rs = sym (drop-drop (place + 1) recorded receipts) ∙ ap (λ k. drop k rs) step in
    let records : take (recorded + (place + 1)) receipts ≡ take recorded receipts ++ receipts_of (c.before ++ c.last ∷ []) =
    take-add recorded (place + 1) receipts ∙ ap (λ k. take recorded receipts ++ take k rs) step ∙ ap (λ v. take recorded receipts ++ v) (sym c.printed) in
    let up_to : slice_index marks place + 1 ≡ c.last.number + 1 = ap (λ n. n + 1) (sym c.number) in
    record {
      before = c.before;
      last = c.last;
      others = pairs (drop (suc place) rs) (drop (suc place) marks);
      number_is = omega (arith, c.count, length-take recorded receipts, fits.count);
      way = inl (
        pairs rs marks,
        refl,
        record { all_are = c.all_are; is_out = omega arith; mark = c.mark ∙ is.mark; first = λ closing. is.first (c.among id closing) },
        cc (
          ap (λ v. pairs v fewer) rest ∙ ap (pairs (drop (suc place) rs)) (gone ∙ ap (λ k. drop k marks) step),
          ap (λ n. take n receipts) sum,
          ap (λ n. drop n receipts) sum,
          records,
          up_to,
        ),
      );
    }

pub fits_flight_recorded : (receipts : List (List Command)) (recorded : ℕ) (marks left : List ℕ) (out : Pending) (half : List ℕ) (place : ℕ) (fewer : List ℕ)
    → IsConsistent stage.Open receipts recorded marks left out half → place < length marks → fewer ≡ drop (place + 1) marks
    → IsConsistent stage.Open receipts (recorded + (place + 1)) fewer left out half
fits_flight_recorded receipts recorded marks left out half place fewer fits within gone =
    let sum : (recorded + (place + 1)) + length fewer ≡ recorded + length marks = omega (arith, ap length gone, length-drop (place + 1) marks, within) in
    record {
      count = omega (arith, fits.count, sum);
      closing = subst AreMarks (sym gone) (all_after (place + 1) marks fits.closing);
      closing_left = fits.closing_left;
      within = subst (λ n. Within (take n receipts) out) (sym sum) fits.within;
      stage = tt;
    }

-- Some of those that are left are recorded.
more_put : (receipts : List (List Command)) (n k : ℕ) (out : Pending) → Within (take n receipts) out
    → (unsent (take (n + k) receipts) out ≡ unsent (take n receipts) out) × Within (take (n + k) receipts) out
more_put receipts n k out within =
    let more = more_receipts (take n receipts) (take k (drop n receipts)) out within in
    let all = take-add n k receipts in
    (ap (λ rs. unsent rs out) all ∙ more.0, subst (λ rs. Within rs out) (sym all) more.1)

pub left_recorded : (first : ℕ) (receipts : List (List Command)) (recorded : ℕ) (marks left : List ℕ) (out : Pending) (half : List ℕ) (next heard place : ℕ) (id fewer : List ℕ)
    → IsConsistent (stage.Opening first) receipts recorded marks left out half → IsPlaceOf heard left id place → (IsMarkFrom first next id → ⊥) → fewer ≡ drop (place + 1) left
    → RecordsUpTo (view_of (stage.Opening first) receipts recorded marks left out half next heard) id (recorded + place)
    (view_of (stage.Opening first) receipts (recorded + (place + 1)) marks fewer out half next (slice_index left place + 1))
left_recorded first receipts recorded marks left out half next heard place id fewer fits is other gone =
    let none : length marks ≡ 0 = ap length fits.stage in
    let n = recorded + length marks in
    let k = suc place in
    let step : place + 1 ≡ k = omega arith in
    let rs = drop n receipts in
    let enough = enough_left (stage.Opening first) receipts recorded marks left out half fits in
    let c = cut_at heard rs left place is.within (omega (arith, enough)) in
    let sum : (recorded + (place + 1)) + length marks ≡ n + k = omega arith in
    let whole : recorded + (place + 1) ≡ n + k = omega (arith, none) in
    let same : recorded ≡ n = omega (arith, none) in
    let rest : drop ((recorded + (place + 1)) + length marks) receipts ≡ drop k rs = ap (λ m. drop m receipts) sum ∙ sym (drop-drop k n receipts) in
    let records : take (recorded + (place + 1)) receipts ≡ take recorded receipts ++ receipts_of (c.before ++ c.last ∷ []) =
    ap (λ m. take m receipts) whole ∙ take-add n k receipts ∙ ap (λ v. take n receipts ++ v) (sym c.printed) ∙ ap (λ m. take m receipts ++ receipts_of (c.before ++ c.last ∷ [])) (sym same) in
    let up_to : slice_index left place + 1 ≡ c.last.number + 1 = ap (λ m. m + 1) (sym c.number) in
    record {
      before = c.before;
      last = c.last;
      others = pairs (drop k rs) (drop k left);
      number_is = omega (arith, c.count, length-take recorded receipts, fits.count);
      way = inr (
        first,
        refl,
        other,
        record {
          all_are = c.all_are;
          is_out = subst (λ m. heard ≤ m) (sym c.number) is.is_out;
          mark = c.mark ∙ is.mark;
          first = λ closing. is.first (c.among id closing);
        },
        cc (
          ap (λ v. pairs v fewer) rest ∙ ap (pairs (drop k rs)) (gone ∙ ap (λ j. drop j left) step),
          ap (λ m. unsent (take m receipts) out) sum ∙ (more_put receipts n k out fits.within).0,
          records,
          up_to,
        ),
      );
    }

pub fits_left_recorded : (first : ℕ) (receipts : List (List Command)) (recorded : ℕ) (marks left : List ℕ) (out : Pending) (half : List ℕ) (place : ℕ) (fewer : List ℕ)
    → IsConsistent (stage.Opening first) receipts recorded marks left out half → place < length left → fewer ≡ drop (place + 1) left
    → IsConsistent (stage.Opening first) receipts (recorded + (place + 1)) marks fewer out half
fits_left_recorded first receipts recorded marks left out half place fewer fits within gone =
    let n = recorded + length marks in
    let sum : (recorded + (place + 1)) + length marks ≡ n + (place + 1) = omega arith in
    record {
      count = omega (arith, fits.count, ap length gone, length-drop (place + 1) left, within);
      closing = fits.closing;
      closing_left = subst AreMarks (sym gone) (all_after (place + 1) left fits.closing_left);
      within = subst (λ m. Within (take m receipts) out) (sym sum) (more_put receipts n (place + 1) out fits.within).1;
      stage = fits.stage;
    }
