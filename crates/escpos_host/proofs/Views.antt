-- What a host keeps, and its model.
use Rattle.std.proofs.Common.{◌≡◌, ℕ, ◌+◌, ◌≤◌, ◌==◌, true, false, List, [], ◌∷◌, ◌++◌, length, length-append, length-take, length-drop, take, drop, get_or, append-nil, zero, suc, refl, sym, ◌∙◌, ap, subst, arith}
use Rattle.std.specs.Prelude.{◌⊎◌, is_err, OnOk, OnErr, Result, Ok, Err, not, slice_get, IsTrue, ◌↔◌, ◌≢◌, Bool, ◌<◌}
use Rattle.std.proofs.lemmas.Bool.Decides.{nat_tests}
use Rattle.std.proofs.lemmas.List.{take_all, drop-drop, drop-take, drop-append-le, take-append-le, take-take}
use Rattle.std.proofs.Math.Seq.{take-append_seam, drop-append_seam}
use Rattle.std.specs.List.{insert, remove}
use Rattle.escpos_command.specs.declared.command.Command.{Command}
use Rattle.escpos_host.specs.declared.host.HostState.TheVariants as state
use Rattle.escpos_host.specs.declared.host.Stage.{Stage}
use Rattle.escpos_host.specs.declared.host.Stage.TheVariants as stage
use Rattle.escpos_host.specs.Kept.{AreMarks, FitsStage, IsConsistent, pairs, put_of, view_of}
use Rattle.escpos_command.specs.declared.command.Command.TheVariants as kind
use Rattle.escpos_command.specs.Answers.{HalfAnswer}
use Rattle.escpos_command.specs.CommandTable.{row, spell}
use Rattle.escpos_host.specs.Counted.{id_of}
use Rattle.escpos_host.specs.Machine.{HostView, InFlight, IsSound, Phase, Down, Opening, Open, state_of, ask_reports, closed_by, linked_by, nudged, gone_down, number_limit, receipts_of, taken_out, handed_out, submitted, with_left}
use Rattle.escpos_host.specs.Out.{IsPlaced, Pending, Within, opening_commands, unsent, part_commands}
use Rattle.escpos_host.specs.declared.outbox.OutPart.TheVariants as part
use Rattle.escpos_host.proofs.AnswerFronts.{same_number}
use Rattle.escpos_host.proofs.Pending.{more_receipts}

-- With a closing mark to be answered, the host is sending.
pub sending : (rs : List (List Command)) (ns : List ℕ) → length ns ≤ length rs → (length ns == 0) ≡ false → state.Sending ≡ state_of (Open (pairs rs ns))
sending rs [] few some = absurd (let bad : true ≡ false = some in cc)
sending [] (n ∷ ns) few some = absurd (omega (arith, few))
sending (r ∷ rs) (n ∷ ns) few some = refl

-- ## Pairs

pub pairs_none : (rs : List (List Command)) → pairs rs [] ≡ []
pairs_none [] = refl
pairs_none (r ∷ rs) = refl

-- With none it is ready.
pub ready : (rs : List (List Command)) (ns : List ℕ) → (length ns == 0) ≡ true → state.Ready ≡ state_of (Open (pairs rs ns))
ready rs [] none = ap (λ ps. state_of (Open ps)) (sym (pairs_none rs))
ready rs (n ∷ ns) none = absurd (omega (arith, same_number (length (n ∷ ns)) 0 none))

-- Only as many receipts count as there are numbers.
pairs_front : (rs : List (List Command)) (ns : List ℕ) → pairs (take (length ns) rs) ns ≡ pairs rs ns
pairs_front [] [] = refl
pairs_front (r ∷ rs) [] = refl
pairs_front [] (n ∷ ns) = refl
pairs_front (r ∷ rs) (n ∷ ns) = ap (λ ps. closed_by r n ∷ ps) (pairs_front rs ns)

pairs_rest : (rs : List (List Command)) (ns : List ℕ) → pairs (drop 1 rs) (drop 1 ns) ≡ drop 1 (pairs rs ns)
pairs_rest [] ns = refl
pairs_rest (r ∷ rs) [] = pairs_none rs
pairs_rest (r ∷ rs) (n ∷ ns) = refl

-- The receipts in flight are the last of those that were put.
flight_put : (receipts : List (List Command)) (recorded : ℕ) (marks : List ℕ) → pairs (drop recorded (put_of receipts recorded marks)) marks ≡ pairs (drop recorded receipts) marks
flight_put receipts recorded marks = ap (λ rs. pairs rs marks) (drop-take recorded (length marks) receipts) ∙ pairs_front (drop recorded receipts) marks

same_flight : (receipts others : List (List Command)) (recorded : ℕ) (marks : List ℕ) → put_of others recorded marks ≡ put_of receipts recorded marks
    → pairs (drop recorded others) marks ≡ pairs (drop recorded receipts) marks
same_flight receipts others recorded marks same =
    sym (flight_put others recorded marks) ∙ ap (λ rs. pairs (drop recorded rs) marks) same ∙ flight_put receipts recorded marks

-- Those that are recorded are the first of them.
recorded_put : (receipts : List (List Command)) (recorded : ℕ) (marks : List ℕ) → take recorded (put_of receipts recorded marks) ≡ take recorded receipts
recorded_put receipts recorded marks = take-take recorded (recorded + length marks) receipts (omega arith)

same_records : (receipts others : List (List Command)) (recorded : ℕ) (marks : List ℕ) → put_of others recorded marks ≡ put_of receipts recorded marks
    → take recorded others ≡ take recorded receipts
same_records receipts others recorded marks same =
    sym (recorded_put others recorded marks) ∙ ap (take recorded) same ∙ recorded_put receipts recorded marks

-- One more pair.
pairs-snoc : (rs : List (List Command)) (ns : List ℕ) (r : List Command) (n : ℕ) → length rs ≡ length ns
    → pairs (rs ++ r ∷ []) (ns ++ n ∷ []) ≡ pairs rs ns ++ closed_by r n ∷ []
pairs-snoc [] [] r n same = refl
pairs-snoc [] (m ∷ ns) r n same = absurd (omega (arith, same))
pairs-snoc (q ∷ rs) [] r n same = absurd (omega (arith, same))
pairs-snoc (q ∷ rs) (m ∷ ns) r n same = ap (λ ps. closed_by q m ∷ ps) (pairs-snoc rs ns r n (omega (arith, same)))

pub length-pairs : (rs : List (List Command)) (ns : List ℕ) → length ns ≤ length rs → length (pairs rs ns) ≡ length ns
length-pairs rs [] few = ap length (pairs_none rs)
length-pairs [] (m ∷ ns) few = absurd (omega (arith, few))
length-pairs (q ∷ rs) (m ∷ ns) few = ap suc (length-pairs rs ns (omega (arith, few)))

-- No more receipts than numbers are in pairs.
pairs_few : (rs : List (List Command)) (ns : List ℕ) → length (pairs rs ns) ≤ length ns
pairs_few [] ns = omega arith
pairs_few (r ∷ rs) [] = omega arith
pairs_few (r ∷ rs) (n ∷ ns) = omega (arith, pairs_few rs ns)

length_receipts : (ps : List InFlight) → length (receipts_of ps) ≡ length ps
length_receipts [] = refl
length_receipts (p ∷ ps) = ap suc (length_receipts ps)

-- The first receipt of pairs is the first receipt.
pub first_pair : (rs : List (List Command)) (ns : List ℕ) → 0 < length ns → length ns ≤ length rs → slice_get (receipts_of (pairs rs ns)) 0 ≡ slice_get rs 0
first_pair rs [] some few = absurd (omega (arith, some))
first_pair [] (n ∷ ns) some few = absurd (omega (arith, few))
first_pair (r ∷ rs) (n ∷ ns) some few = refl

-- ## A new host, and what holds for each

-- A host with no link, of whose receipts all are recorded.
pub at_rest : (receipts : List (List Command)) (recorded : ℕ) (marks left : List ℕ) (out : Pending) (half : List ℕ) (next heard : ℕ) → recorded ≡ length receipts
    → left ≡ [] → ((rs : List (List Command)) → unsent rs out ≡ []) → half ≡ []
    → view_of stage.Down receipts recorded marks left out half next heard ≡ record { phase = Down; out = []; half = []; next = next; heard = heard; records = receipts; left = [] }
at_rest receipts recorded marks left out half next heard all no_left none no_half =
    let kept : take recorded receipts ≡ receipts = take_all recorded receipts (omega (arith, all)) in
    let rest : pairs (drop (recorded + length marks) receipts) left ≡ [] = ap (pairs (drop (recorded + length marks) receipts)) no_left ∙ pairs_none _ in
    cc (kept, rest, none (put_of receipts recorded marks), no_half)

pub new_fits : (receipts : List (List Command)) (recorded : ℕ) (marks left : List ℕ) (out : Pending) (half : List ℕ) → recorded ≡ length receipts → marks ≡ [] → left ≡ []
    → ((rs : List (List Command)) → Within rs out × (unsent rs out ≡ [])) → half ≡ [] → IsConsistent stage.Down receipts recorded marks left out half
new_fits receipts recorded marks left out half all none no_left within no_half = record {
  count = omega (arith, all, ap length none, ap length no_left);
  closing = subst AreMarks (sym none) tt;
  closing_left = subst AreMarks (sym no_left) tt;
  within = (within (put_of receipts recorded marks)).0;
  stage = (none, within, no_half);
}

-- The parts that are kept are parts of the receipts that are kept.
pub well_placed : (s : Stage) (receipts : List (List Command)) (recorded : ℕ) (marks left : List ℕ) (out : Pending) (half : List ℕ)
    → IsConsistent s receipts recorded marks left out half → Within (put_of receipts recorded marks) out
well_placed s receipts recorded marks left out half fits = fits.within

-- Something is left unless nothing is.
pub not_empty : (b : Bool) (kept shown : List ℕ) → kept ≡ shown → (IsTrue b ↔ (kept ≡ [])) → (IsTrue (not b) ↔ (shown ≢ []))
not_empty true kept shown same h = (λ e. absurd (let bad : false ≡ true = e in cc), λ e. absurd (e (sym same ∙ h.0 refl)))
not_empty false kept shown same h = (λ e none. let bad : false ≡ true = h.1 (same ∙ none) in cc, λ e. refl)

-- A host with a stage that isn't Down has a link.
pub is_up : (s : Stage) (receipts : List (List Command)) (recorded : ℕ) (marks left : List ℕ) (out : Pending) (half : List ℕ) (next heard : ℕ)
    → s ≢ stage.Down → (view_of s receipts recorded marks left out half next heard).phase ≢ Down
is_up stage.Down receipts recorded marks left out half next heard up e = up refl
is_up (stage.Opening first) receipts recorded marks left out half next heard up e = cc e
is_up stage.Open receipts recorded marks left out half next heard up e = cc e

-- No more receipts are recorded than there are.
pub few_recorded : (s : Stage) (receipts : List (List Command)) (recorded : ℕ) (marks left : List ℕ) (out : Pending) (half : List ℕ)
    → IsConsistent s receipts recorded marks left out half → recorded ≤ length receipts
few_recorded s receipts recorded marks left out half fits = omega (arith, fits.count)

-- There are as many receipts in flight as numbers of closing marks, and as many that are left as theirs.
pub enough_flying : (s : Stage) (receipts : List (List Command)) (recorded : ℕ) (marks left : List ℕ) (out : Pending) (half : List ℕ)
    → IsConsistent s receipts recorded marks left out half → length marks ≤ length (drop recorded receipts)
enough_flying s receipts recorded marks left out half fits = omega (arith, fits.count, length-drop recorded receipts)

pub enough_left : (s : Stage) (receipts : List (List Command)) (recorded : ℕ) (marks left : List ℕ) (out : Pending) (half : List ℕ)
    → IsConsistent s receipts recorded marks left out half → length left ≡ length (drop (recorded + length marks) receipts)
enough_left s receipts recorded marks left out half fits = omega (arith, fits.count, length-drop (recorded + length marks) receipts)

pub sound : (s : Stage) (receipts : List (List Command)) (recorded : ℕ) (marks left : List ℕ) (out : Pending) (half : List ℕ) (next heard : ℕ)
    → IsConsistent s receipts recorded marks left out half → length marks ≤ 4 → length left ≤ 4 → (half ≡ []) ⊎ HalfAnswer half
    → IsSound (view_of s receipts recorded marks left out half next heard)
sound stage.Down receipts recorded marks left out half next heard fits few few_left answer_half = record {
  quiet = λ e. ((fits.stage.1 (put_of receipts recorded marks)).1, fits.stage.2);
  few = omega arith;
  few_left = let most = pairs_few (drop (recorded + length marks) receipts) left in omega (arith, most, few_left);
  half = answer_half;
}
sound (stage.Opening first) receipts recorded marks left out half next heard fits few few_left answer_half = record {
  quiet = λ e. absurd (cc e);
  few = omega arith;
  few_left = let most = pairs_few (drop (recorded + length marks) receipts) left in omega (arith, most, few_left);
  half = answer_half;
}
sound stage.Open receipts recorded marks left out half next heard fits few few_left answer_half = record {
  quiet = λ e. absurd (cc e);
  few = let most = pairs_few (drop recorded receipts) marks in let all = length_receipts (pairs (drop recorded receipts) marks) in omega (arith, most, all, few);
  few_left = let most = pairs_few (drop (recorded + length marks) receipts) left in omega (arith, most, few_left);
  half = answer_half;
}

-- ## What the calls leave

-- The fields of a view, one by one.
abbrev shown : Phase → List ℕ → List ℕ → ℕ → ℕ → List (List Command) → List InFlight → HostView
shown phase out half next heard records left = record { phase = phase; out = out; half = half; next = next; heard = heard; records = records; left = left }

same_views : (p q : Phase) (out other half other_half : List ℕ) (next heard : ℕ) (records others : List (List Command)) (rest rest_too : List InFlight)
    → p ≡ q → out ≡ other → half ≡ other_half → records ≡ others → rest ≡ rest_too → shown p out half next heard records rest ≡ shown q other other_half next heard others rest_too
same_views p q out other half other_half next heard records others rest rest_too d e f g h = cc (d, e, f, g, h)

one_row : (c : Command) → spell (c ∷ []) ≡ row c
one_row c = append-nil (row c)

-- A link that comes up.
opening_bytes : (reporting : Bool) (next : ℕ) (h : HostView) → h.next ≡ next → spell (opening_commands reporting (id_of next)) ≡ (linked_by reporting h).out
opening_bytes true next h is = ap (λ v. row ask_reports ++ v) (one_row (kind.Mark (id_of next)) ∙ ap (λ n. row (kind.Mark (id_of n))) (sym is))
opening_bytes false next h is = one_row (kind.Mark (id_of next)) ∙ ap (λ n. row (kind.Mark (id_of n))) (sym is)

linked_so : (reporting : Bool) (h : HostView)
    → record { phase = Opening h.next; out = (linked_by reporting h).out; half = []; next = h.next + 1; heard = h.heard; records = h.records; left = h.left } ≡ linked_by reporting h
linked_so true h = refl
linked_so false h = refl

pub comes_up : (reporting : Bool) (receipts : List (List Command)) (recorded : ℕ) (marks left : List ℕ) (out fresh : Pending) (half : List ℕ) (next heard : ℕ) (id : List ℕ)
    → IsConsistent stage.Down receipts recorded marks left out half → id ≡ id_of next
    → unsent (put_of receipts recorded marks) fresh ≡ unsent (put_of receipts recorded marks) out ++ spell (opening_commands reporting id)
    → view_of (stage.Opening next) receipts recorded marks left fresh half (next + 1) heard ≡ linked_by reporting (view_of stage.Down receipts recorded marks left out half next heard)
comes_up reporting receipts recorded marks left out fresh half next heard id fits is_id put =
    let before = view_of stage.Down receipts recorded marks left out half next heard in
    same_views (Opening next) (Opening next) (unsent (put_of receipts recorded marks) fresh) (linked_by reporting before).out half [] (next + 1) heard _ _ _ _ refl
    (put ∙ ap (λ v. v ++ spell (opening_commands reporting id)) (fits.stage.1 (put_of receipts recorded marks)).1
    ∙ ap (λ i. spell (opening_commands reporting i)) is_id ∙ opening_bytes reporting next before refl) fits.stage.2 refl refl
    ∙ linked_so reporting before

-- What is kept fits together, with other parts.
pub fits_with : (s t : Stage) (receipts : List (List Command)) (recorded : ℕ) (marks left : List ℕ) (out fresh : Pending) (half : List ℕ) → IsConsistent s receipts recorded marks left out half
    → Within (put_of receipts recorded marks) fresh → FitsStage t marks fresh half → IsConsistent t receipts recorded marks left fresh half
fits_with s t receipts recorded marks left out fresh half fits within stage =
    record { count = fits.count; closing = fits.closing; closing_left = fits.closing_left; within = within; stage = stage }

-- One more opening mark.
pub is_nudged : (receipts : List (List Command)) (recorded : ℕ) (marks left : List ℕ) (first : ℕ) (out fresh : Pending) (half : List ℕ) (next heard : ℕ) (id : List ℕ)
    → id ≡ id_of next → unsent (put_of receipts recorded marks) fresh ≡ unsent (put_of receipts recorded marks) out ++ spell (kind.Mark id ∷ [])
    → view_of (stage.Opening first) receipts recorded marks left fresh half (next + 1) heard ≡ nudged (view_of (stage.Opening first) receipts recorded marks left out half next heard)
is_nudged receipts recorded marks left first out fresh half next heard id is_id put =
    let bytes = unsent (put_of receipts recorded marks) out in
    same_views (Opening first) (Opening first) (unsent (put_of receipts recorded marks) fresh) (bytes ++ row (kind.Mark (id_of next))) half half (next + 1) heard _ _ _ _ refl
    (put ∙ ap (λ v. bytes ++ v) (one_row (kind.Mark id) ∙ ap (λ i. row (kind.Mark i)) is_id)) refl refl refl

-- An open link that goes down leaves what was in flight.
pub open_goes_down : (receipts : List (List Command)) (recorded : ℕ) (marks left none : List ℕ) (out cleared : Pending) (half no_half : List ℕ) (next heard : ℕ)
    → none ≡ [] → ((rs : List (List Command)) → unsent rs cleared ≡ []) → no_half ≡ []
    → view_of stage.Down (put_of receipts recorded marks) recorded none marks cleared no_half next heard ≡ gone_down (view_of stage.Open receipts recorded marks left out half next heard)
open_goes_down receipts recorded marks left none out cleared half no_half next heard nothing empty no_more =
    let same : recorded + length none ≡ recorded = omega (arith, ap length nothing) in
    same_views Down Down _ [] no_half [] next heard _ _ _ _ refl (empty (put_of (put_of receipts recorded marks) recorded none)) no_more (recorded_put receipts recorded marks)
    (ap (λ n. pairs (drop n (put_of receipts recorded marks)) marks) same ∙ flight_put receipts recorded marks)

pub fits_open_down : (receipts : List (List Command)) (recorded : ℕ) (marks left none : List ℕ) (out cleared : Pending) (half no_half : List ℕ)
    → IsConsistent stage.Open receipts recorded marks left out half → none ≡ [] → ((rs : List (List Command)) → Within rs cleared × (unsent rs cleared ≡ [])) → no_half ≡ []
    → IsConsistent stage.Down (put_of receipts recorded marks) recorded none marks cleared no_half
fits_open_down receipts recorded marks left none out cleared half no_half fits nothing empty no_more = record {
  count = omega (arith, fits.count, ap length nothing, length-take (recorded + length marks) receipts);
  closing = subst AreMarks (sym nothing) tt;
  closing_left = fits.closing;
  within = (empty (put_of (put_of receipts recorded marks) recorded none)).0;
  stage = (nothing, empty, no_more);
}

-- Another link that goes down leaves what was left before.
pub other_goes_down : (s : Stage) (receipts : List (List Command)) (recorded : ℕ) (marks left : List ℕ) (out cleared : Pending) (half no_half : List ℕ) (next heard : ℕ)
    → s ≢ stage.Open → ((rs : List (List Command)) → unsent rs cleared ≡ []) → no_half ≡ []
    → view_of stage.Down receipts recorded marks left cleared no_half next heard ≡ gone_down (view_of s receipts recorded marks left out half next heard)
other_goes_down stage.Down receipts recorded marks left out cleared half no_half next heard other empty no_more =
    same_views Down Down _ [] no_half [] next heard _ _ _ _ refl (empty (put_of receipts recorded marks)) no_more refl refl
other_goes_down (stage.Opening first) receipts recorded marks left out cleared half no_half next heard other empty no_more =
    same_views Down Down _ [] no_half [] next heard _ _ _ _ refl (empty (put_of receipts recorded marks)) no_more refl refl
other_goes_down stage.Open receipts recorded marks left out cleared half no_half next heard other empty no_more = absurd (other refl)

pub fits_other_down : (s : Stage) (receipts : List (List Command)) (recorded : ℕ) (marks left : List ℕ) (out cleared : Pending) (half no_half : List ℕ)
    → IsConsistent s receipts recorded marks left out half → s ≢ stage.Open → ((rs : List (List Command)) → Within rs cleared × (unsent rs cleared ≡ [])) → no_half ≡ []
    → IsConsistent stage.Down receipts recorded marks left cleared no_half
fits_other_down stage.Down receipts recorded marks left out cleared half no_half fits other empty no_more =
    fits_with stage.Down stage.Down receipts recorded marks left out cleared no_half
    (record { count = fits.count; closing = fits.closing; closing_left = fits.closing_left; within = fits.within; stage = (fits.stage.0, fits.stage.1, no_more) })
    (empty (put_of receipts recorded marks)).0 (fits.stage.0, empty, no_more)
fits_other_down (stage.Opening first) receipts recorded marks left out cleared half no_half fits other empty no_more = record {
  count = fits.count;
  closing = fits.closing;
  closing_left = fits.closing_left;
  within = (empty (put_of receipts recorded marks)).0;
  stage = (fits.stage, empty, no_more);
}
fits_other_down stage.Open receipts recorded marks left out cleared half no_half fits other empty no_more = absurd (other refl)

-- What is kept fits together after bytes were taken out.
pub fits_taken : (s : Stage) (receipts : List (List Command)) (recorded : ℕ) (marks left : List ℕ) (out rest : Pending) (half : List ℕ)
    → s ≢ stage.Down → IsConsistent s receipts recorded marks left out half → Within (put_of receipts recorded marks) rest → IsConsistent s receipts recorded marks left rest half
fits_taken stage.Down receipts recorded marks left out rest half up fits within = absurd (up refl)
fits_taken (stage.Opening first) receipts recorded marks left out rest half up fits within =
    fits_with (stage.Opening first) (stage.Opening first) receipts recorded marks left out rest half fits within fits.stage
fits_taken stage.Open receipts recorded marks left out rest half up fits within = fits_with stage.Open stage.Open receipts recorded marks left out rest half fits within tt

-- The call has succeeded.
pub succeeded : {T E : Type 0} {P : Type 0} (r : Result T E) → false ≡ is_err r → OnOk r P → P
succeeded (Ok x) e h = h
succeeded (Err d) e h = absurd cc

-- The call has failed.
pub failed : {T E : Type 0} {P : Type 0} (r : Result T E) → true ≡ is_err r → OnErr r P → P
failed (Ok x) e h = absurd cc
failed (Err d) e h = h

-- Bytes are taken out, and nothing else changes.
pub is_taken : (s : Stage) (receipts : List (List Command)) (recorded : ℕ) (marks left : List ℕ) (out rest : Pending) (half : List ℕ) (next heard count : ℕ)
    → unsent (put_of receipts recorded marks) rest ≡ drop count (unsent (put_of receipts recorded marks) out)
    → view_of s receipts recorded marks left rest half next heard ≡ taken_out (view_of s receipts recorded marks left out half next heard) count
is_taken s receipts recorded marks left out rest half next heard count e = same_views _ _ (unsent (put_of receipts recorded marks) rest) _ half half next heard _ _ _ _ refl e refl refl refl

-- ## What is left

pub some_of : (ns : List ℕ) → (length ns == 0) ≡ false → 0 < length ns
some_of [] some = absurd (let bad : true ≡ false = some in cc)
some_of (n ∷ ns) some = omega arith

-- The list without the element at this place, after those before it.
drop-remove : {X : Type 0} (n : ℕ) (xs : List X) → n < length xs → drop n (remove xs n) ≡ drop 1 (drop n xs)
drop-remove n xs h =
    let next : suc n ≡ n + 1 = omega arith in
    let long : length (take n xs) ≡ n = omega (arith, length-take n xs, h) in
    ap (λ k. drop k (take n xs ++ drop (suc n) xs)) (sym long) ∙ drop-append_seam (take n xs) (drop (suc n) xs) ∙ ap (λ k. drop k xs) next ∙ sym (drop-drop 1 n xs)

take-remove : {X : Type 0} (n : ℕ) (xs : List X) → n < length xs → take n (remove xs n) ≡ take n xs
take-remove n xs h =
    let long : length (take n xs) ≡ n = omega (arith, length-take n xs, h) in
    ap (λ k. take k (take n xs ++ drop (suc n) xs)) (sym long) ∙ take-append_seam (take n xs) (drop (suc n) xs)

length-remove : {X : Type 0} (n : ℕ) (xs : List X) → n < length xs → length (remove xs n) + 1 ≡ length xs
length-remove n xs h = omega (arith, h, length-append (take n xs) (drop (suc n) xs), length-take n xs, length-drop (suc n) xs)

phases : (s : Stage) (receipts others : List (List Command)) (recorded : ℕ) (marks left fewer : List ℕ) (out rest : Pending) (half : List ℕ) (next heard : ℕ)
    → pairs (drop recorded others) marks ≡ pairs (drop recorded receipts) marks
    → (view_of s others recorded marks left out half next heard).phase ≡ (view_of s receipts recorded marks fewer rest half next heard).phase
phases stage.Down receipts others recorded marks left fewer out rest half next heard same = refl
phases (stage.Opening first) receipts others recorded marks left fewer out rest half next heard same = refl
phases stage.Open receipts others recorded marks left fewer out rest half next heard same = ap Open same

-- The first receipt of those that are left is handed out.
pub without_first : (s : Stage) (receipts others : List (List Command)) (recorded : ℕ) (marks left fewer : List ℕ) (out : Pending) (half : List ℕ) (next heard : ℕ)
    → recorded + length marks < length receipts → others ≡ remove receipts (recorded + length marks) → fewer ≡ drop 1 left
    → view_of s others recorded marks fewer out half next heard ≡ handed_out (view_of s receipts recorded marks left out half next heard)
without_first s receipts others recorded marks left fewer out half next heard some gone rest =
    let n = recorded + length marks in
    let put : put_of others recorded marks ≡ put_of receipts recorded marks = ap (take n) gone ∙ take-remove n receipts some in
    same_views _ _ _ _ half half next heard _ _ _ _ (phases s receipts others recorded marks fewer left out out half next heard (same_flight receipts others recorded marks put))
    (ap (λ rs. unsent rs out) put) refl (same_records receipts others recorded marks put)
    (ap (λ rs. pairs rs fewer) (ap (drop n) gone ∙ drop-remove n receipts some) ∙ ap (pairs (drop 1 (drop n receipts))) rest ∙ pairs_rest (drop n receipts) left)

all_but_first : (ns : List ℕ) → AreMarks ns → AreMarks (drop 1 ns)
all_but_first [] all = all
all_but_first (n ∷ ns) all = all.1

pub fits_without_first : (s : Stage) (receipts others : List (List Command)) (recorded : ℕ) (marks left fewer : List ℕ) (out : Pending) (half : List ℕ)
    → IsConsistent s receipts recorded marks left out half → 0 < length left → others ≡ remove receipts (recorded + length marks) → fewer ≡ drop 1 left
    → IsConsistent s others recorded marks fewer out half
fits_without_first s receipts others recorded marks left fewer out half fits some gone rest =
    let n = recorded + length marks in
    let inside : n < length receipts = omega (arith, fits.count, some) in
    let put : put_of others recorded marks ≡ put_of receipts recorded marks = ap (take n) gone ∙ take-remove n receipts inside in
    record {
      count = omega (arith, fits.count, some, ap length gone, length-remove n receipts inside, ap length rest, length-drop 1 left);
      closing = fits.closing;
      closing_left = subst AreMarks (sym rest) (all_but_first left fits.closing_left);
      within = subst (λ rs. Within rs out) (sym put) fits.within;
      stage = fits.stage;
    }

-- All of them are dropped.
pub without_left : (s : Stage) (receipts : List (List Command)) (recorded : ℕ) (marks left none : List ℕ) (out : Pending) (half : List ℕ) (next heard : ℕ) → none ≡ []
    → view_of s (put_of receipts recorded marks) recorded marks none out half next heard ≡ with_left (view_of s receipts recorded marks left out half next heard) []
without_left s receipts recorded marks left none out half next heard nothing =
    let n = recorded + length marks in
    let put : put_of (put_of receipts recorded marks) recorded marks ≡ put_of receipts recorded marks = take-take n n receipts (omega arith) in
    same_views _ _ _ _ half half next heard _ _ _ _
    (phases s receipts (put_of receipts recorded marks) recorded marks none left out out half next heard (same_flight receipts (put_of receipts recorded marks) recorded marks put))
    (ap (λ rs. unsent rs out) put) refl (same_records receipts (put_of receipts recorded marks) recorded marks put)
    (ap (pairs (drop n (put_of receipts recorded marks))) nothing ∙ pairs_none _)

pub fits_without_left : (s : Stage) (receipts : List (List Command)) (recorded : ℕ) (marks left none : List ℕ) (out : Pending) (half : List ℕ)
    → IsConsistent s receipts recorded marks left out half → none ≡ [] → IsConsistent s (put_of receipts recorded marks) recorded marks none out half
fits_without_left s receipts recorded marks left none out half fits nothing =
    let n = recorded + length marks in
    let put : put_of (put_of receipts recorded marks) recorded marks ≡ put_of receipts recorded marks = take-take n n receipts (omega arith) in
    record {
      count = omega (arith, fits.count, ap length nothing, length-take n receipts);
      closing = fits.closing;
      closing_left = subst AreMarks (sym nothing) tt;
      within = subst (λ rs. Within rs out) (sym put) fits.within;
      stage = fits.stage;
    }

-- ## A receipt is submitted

-- The receipt that was put after the others.
last_of : (rs : List (List Command)) (r : List Command) → get_or (rs ++ r ∷ []) (length rs) [] ≡ r
last_of [] r = refl
last_of (q ∷ rs) r = last_of rs r

take-insert : {X : Type 0} (n : ℕ) (xs : List X) (x : X) → n ≤ length xs → take (suc n) (insert xs n x) ≡ take n xs ++ x ∷ []
take-insert zero xs x few = refl
take-insert (suc n) [] x few = absurd (omega (arith, few))
take-insert (suc n) (y ∷ xs) x few = ap (λ v. y ∷ v) (take-insert n xs x (omega (arith, few)))

drop-insert : {X : Type 0} (n : ℕ) (xs : List X) (x : X) → n ≤ length xs → drop (suc n) (insert xs n x) ≡ drop n xs
drop-insert zero xs x few = refl
drop-insert (suc n) [] x few = absurd (omega (arith, few))
drop-insert (suc n) (y ∷ xs) x few = drop-insert n xs x (omega (arith, few))

pub remove-insert : {X : Type 0} (n : ℕ) (xs : List X) (x : X) → n ≤ length xs → remove (insert xs n x) n ≡ xs
remove-insert zero xs x few = refl
remove-insert (suc n) [] x few = absurd (omega (arith, few))
remove-insert (suc n) (y ∷ xs) x few = ap (λ v. y ∷ v) (remove-insert n xs x (omega (arith, few)))

at-insert : {X : Type 0} (n : ℕ) (xs : List X) (x d : X) → n ≤ length xs → get_or (insert xs n x) n d ≡ x
at-insert zero xs x d few = refl
at-insert (suc n) [] x d few = absurd (omega (arith, few))
at-insert (suc n) (y ∷ xs) x d few = at-insert n xs x d (omega (arith, few))

-- What was put in is taken out again.
pub not_inserted : {X : Type 0} (xs all : List X) (n place : ℕ) (x y : X) → place ≡ n → n ≤ length xs → all ≡ insert xs place x → y ≡ get_or all place y → y ≡ x
not_inserted xs all n place x y same few is at =
    at ∙ ap (λ v. get_or v place y) is ∙ ap (λ k. get_or (insert xs k x) k y) same ∙ at-insert n xs x y few

length-insert : {X : Type 0} (n : ℕ) (xs : List X) (x : X) → n ≤ length xs → length (insert xs n x) ≡ length xs + 1
length-insert n xs x few = omega (arith, few, length-append (take n xs) (x ∷ drop n xs), length-take n xs, length-drop n xs)

-- What was put, with one more receipt.
pub put_with : (receipts : List (List Command)) (recorded : ℕ) (marks : List ℕ) (r : List Command) (next : ℕ) → recorded + length marks ≤ length receipts
    → put_of (insert receipts (recorded + length marks) r) recorded (marks ++ next ∷ []) ≡ put_of receipts recorded marks ++ r ∷ []
put_with receipts recorded marks r next few =
    let n = recorded + length marks in
    let long : recorded + length (marks ++ next ∷ []) ≡ suc n = omega (arith, length-append marks (next ∷ [])) in
    ap (λ k. take k (insert receipts n r)) long ∙ take-insert n receipts r few

pub length-put : (receipts : List (List Command)) (recorded : ℕ) (marks : List ℕ) → recorded + length marks ≤ length receipts → length (put_of receipts recorded marks) ≡ recorded + length marks
length-put receipts recorded marks few = omega (arith, few, length-take (recorded + length marks) receipts)

pub is_submitted : (receipts : List (List Command)) (recorded : ℕ) (marks left : List ℕ) (out fresh : Pending) (half : List ℕ) (next heard : ℕ) (r : List Command) (id : List ℕ)
    → IsConsistent stage.Open receipts recorded marks left out half → id ≡ id_of next
    → unsent (put_of receipts recorded marks ++ r ∷ []) fresh
    ≡ unsent (put_of receipts recorded marks ++ r ∷ []) out ++ spell (part_commands (put_of receipts recorded marks ++ r ∷ []) (part.Receipt (recorded + length marks) id))
    → view_of stage.Open (insert receipts (recorded + length marks) r) recorded (marks ++ next ∷ []) left fresh half (next + 1) heard
    ≡ submitted (view_of stage.Open receipts recorded marks left out half next heard) (pairs (drop recorded receipts) marks) r
is_submitted receipts recorded marks left out fresh half next heard r id fits is_id put =
    let n = recorded + length marks in
    let all = insert receipts n r in
    let before = put_of receipts recorded marks in
    let few : n ≤ length receipts = omega (arith, fits.count) in
    let long : length before ≡ n = length-put receipts recorded marks few in
    let more : put_of all recorded (marks ++ next ∷ []) ≡ before ++ r ∷ [] = put_with receipts recorded marks r next few in
    let flying : length (drop recorded before) ≡ length marks = omega (arith, long, length-drop recorded before) in
    let flight : pairs (drop recorded all) (marks ++ next ∷ []) ≡ pairs (drop recorded receipts) marks ++ closed_by r next ∷ [] =
    sym (flight_put all recorded (marks ++ next ∷ [])) ∙ ap (λ rs. pairs (drop recorded rs) (marks ++ next ∷ [])) more
    ∙ ap (λ rs. pairs rs (marks ++ next ∷ [])) (drop-append-le recorded before (r ∷ []) (omega (arith, long)))
    ∙ pairs-snoc (drop recorded before) marks r next flying
    ∙ ap (λ ps. ps ++ closed_by r next ∷ []) (flight_put receipts recorded marks) in
    let bytes : unsent (put_of all recorded (marks ++ next ∷ [])) fresh ≡ unsent before out ++ spell (kind.Init ∷ (r ++ kind.Mark (id_of next) ∷ [])) =
    ap (λ rs. unsent rs fresh) more ∙ put ∙ ap (λ v. v ++ spell (part_commands (before ++ r ∷ []) (part.Receipt n id))) (more_receipts before (r ∷ []) out fits.within).0
    ∙ ap (λ q. unsent before out ++ spell (kind.Init ∷ (q ++ kind.Mark id ∷ []))) (ap (λ k. get_or (before ++ r ∷ []) k []) (sym long) ∙ last_of before r)
    ∙ ap (λ i. unsent before out ++ spell (kind.Init ∷ (r ++ kind.Mark i ∷ []))) is_id in
    let records : take recorded all ≡ take recorded receipts =
    sym (recorded_put all recorded (marks ++ next ∷ [])) ∙ ap (take recorded) more ∙ take-append-le recorded before (r ∷ []) (omega (arith, long)) ∙ recorded_put receipts recorded marks in
    let others : drop (recorded + length (marks ++ next ∷ [])) all ≡ drop n receipts =
    ap (λ k. drop k all) (let step : recorded + length (marks ++ next ∷ []) ≡ suc n = omega (arith, length-append marks (next ∷ [])) in step) ∙ drop-insert n receipts r few in
    same_views _ _ _ _ half half (next + 1) heard _ _ _ _ (ap Open flight) bytes refl records (ap (λ rs. pairs rs left) others)

all_with_last : (ns : List ℕ) (n : ℕ) → AreMarks ns → n < number_limit → AreMarks (ns ++ n ∷ [])
all_with_last [] n all some = (some, all)
all_with_last (m ∷ ns) n all some = (all.0, all_with_last ns n all.1 some)

-- What is kept fits together after a receipt was submitted.
pub fits_submitted : (receipts : List (List Command)) (recorded : ℕ) (marks left : List ℕ) (out fresh : Pending) (half : List ℕ) (next : ℕ) (r : List Command) (id : List ℕ)
    → IsConsistent stage.Open receipts recorded marks left out half
    → ((rs : List (List Command)) → Within rs out → IsPlaced rs (part.Receipt (recorded + length marks) id) → Within rs fresh) → next < number_limit
    → IsConsistent stage.Open (insert receipts (recorded + length marks) r) recorded (marks ++ next ∷ []) left fresh half
fits_submitted receipts recorded marks left out fresh half next r id fits within some =
    let n = recorded + length marks in
    let before = put_of receipts recorded marks in
    let few : n ≤ length receipts = omega (arith, fits.count) in
    record {
      count = omega (arith, fits.count, length-insert n receipts r few, length-append marks (next ∷ []));
      closing = all_with_last marks next fits.closing some;
      closing_left = fits.closing_left;
      within = subst (λ rs. Within rs fresh) (sym (put_with receipts recorded marks r next few))
          (within (before ++ r ∷ []) (more_receipts before (r ∷ []) out fits.within).1
          (omega (arith, length-put receipts recorded marks few, length-append before (r ∷ []))));
      stage = tt;
    }

-- ## An open link

-- A host whose link is open: what it keeps fits together, and this is its model.
pub record OpenHost (receipts : List (List Command)) (recorded : ℕ) (marks left : List ℕ) (out : Pending) (half : List ℕ) (next heard : ℕ) (h : HostView) : Type 0 where
  pub fits : IsConsistent stage.Open receipts recorded marks left out half
  pub is : view_of stage.Open receipts recorded marks left out half next heard ≡ h
  pub phase : h.phase ≡ Open (pairs (drop recorded receipts) marks)
  pub long : length (pairs (drop recorded receipts) marks) ≡ length marks

pub open_host : (s : Stage) (receipts : List (List Command)) (recorded : ℕ) (marks left : List ℕ) (out : Pending) (half : List ℕ) (next heard : ℕ) (h : HostView)
    → s ≡ stage.Open → view_of s receipts recorded marks left out half next heard ≡ h → IsConsistent s receipts recorded marks left out half
    → OpenHost receipts recorded marks left out half next heard h
open_host s receipts recorded marks left out half next heard h up is fits =
    let here : IsConsistent stage.Open receipts recorded marks left out half = subst (λ v. IsConsistent v receipts recorded marks left out half) up fits in
    let seen = ap (λ v. view_of v receipts recorded marks left out half next heard) (sym up) ∙ is in
    record {
      fits = here;
      is = seen;
      phase = sym (ap (λ (v : HostView). v.phase) seen);
      long = length-pairs (drop recorded receipts) marks (enough_flying stage.Open receipts recorded marks left out half here);
    }

few_of : (n : ℕ) → (n == 4) ≡ false → n ≤ 4 → n < 4
few_of n h k = let other : n ≢ 4 = grind (arith, nat_tests, h) in omega (arith, other, k)

-- There is room for one more receipt in flight.
pub room_in_flight : (receipts : List (List Command)) (recorded : ℕ) (marks left : List ℕ) (out : Pending) (half : List ℕ) (next heard : ℕ) (h : HostView)
    → OpenHost receipts recorded marks left out half next heard h → (length marks == 4) ≡ false → length marks ≤ 4 → length (pairs (drop recorded receipts) marks) < 4
room_in_flight receipts recorded marks left out half next heard h o other most = subst (λ n. n < 4) (sym o.long) (few_of (length marks) other most)
