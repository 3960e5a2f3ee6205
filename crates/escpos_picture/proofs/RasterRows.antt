-- What was drawn so far of the rows of a raster, what waits, and what is left.
use Rattle.std.proofs.Common.{◌≡◌, ℕ, zero, suc, ◌+◌, ◌-◌, ◌%◌, ◌<◌, ◌≤◌, take, drop, arith, List, [], ◌∷◌, ◌++◌, Ok, Err, refl, sym, ◌∙◌, ap, append_assoc, append-nil, subst, Bool, true, false, cond}
use Rattle.std.specs.Prelude.{◌==◌, ◌||◌, Option, Result, IsErrAnd, OnOk, ⊤}
use Rattle.std.proofs.lemmas.Grind.{flat_map-append}
use Rattle.std.proofs.lemmas.Bool.Decides.{nat_tests}
use Rattle.std.proofs.lemmas.Result.{err_from_is_err_and, on_ok_weaker}
use Rattle.escpos_io.specs.declared.putting.Device.{Device}
use Rattle.escpos_io.specs.Gather.{Gathered}
use Rattle.escpos_io.specs.Giving.{IsGiven}
use Rattle.escpos_io.specs.Putting.{Passage, passage}
use Rattle.escpos_io.proofs.Giving.{given_in_turn}
use Rattle.escpos_picture.specs.SpanBuffer.{IsGivenInPart}
use Rattle.escpos_picture.specs.declared.raster.TheConstants.{BAND_ROWS}
use Rattle.escpos_picture.specs.Spans.{line_start}
use Rattle.escpos_picture.specs.Steps.{Step, begin, step_text, steps_text}
use Rattle.escpos_picture.specs.Rasters.{rows_of, begins_band, band_start, ends_before, row_steps, raster_steps, rows_text}
use Rattle.escpos_picture.proofs.GivenSteps.{nothing_given}

-- Of a text so much was given, and this is left.
pub record DrawnTo (sink : Passage) (old new : Gathered) (left whole : List ℕ) : Type 0 where
  pub done : List ℕ
  pub given : IsGiven (Ok tt) sink old new done
  pub whole_is : whole ≡ done ++ left

-- ## Texts of which a part waits

-- Two texts in turn.
pub part_in_turn : (result : Result ⊤ Device) (before between after : Option (List ℕ)) (failed_before failed_between failed_after : Bool)
    (old middle new : Gathered) (first second third front more : List ℕ)
    → IsGivenInPart (Ok tt) (passage before between failed_before failed_between) old middle first second front
    → IsGivenInPart result (passage between after failed_between failed_after) middle new second third more
    → IsGivenInPart result (passage before after failed_before failed_after) old new first third (front ++ more)
part_in_turn result before between after failed_before failed_between failed_after old middle new first second third front more f g = record {
  done = f.done ++ g.done;
  left = g.left;
  given = given_in_turn result before between after failed_before failed_between failed_after old middle new f.done g.done (f.done ++ g.done) f.given g.given refl;
  whole = sym (append_assoc first front more) ∙ ap (λ t. t ++ more) f.whole ∙ ap (λ t. (f.done ++ t) ++ more) f.waits
      ∙ append_assoc f.done second more ∙ ap (λ t. f.done ++ t) g.whole ∙ sym (append_assoc f.done g.done g.left);
  waits = g.waits;
}

-- The sink failed in the first of two texts.
part_front : (device : Device) (sink : Passage) (old new : Gathered) (first second third front more : List ℕ)
    → IsGivenInPart (Err device) sink old new first second front → IsGivenInPart (Err device) sink old new first third (front ++ more)
part_front device sink old new first second third front more f = record {
  done = f.done;
  left = f.left ++ more;
  given = f.given;
  whole = sym (append_assoc first front more) ∙ ap (λ t. t ++ more) f.whole ∙ append_assoc f.done f.left more;
  waits = tt;
}

pub part_in_the_front : (result : Result ⊤ Device) (device : Device) (sink : Passage) (old new : Gathered) (first second third front more : List ℕ)
    → IsErrAnd result (λ error. error ≡ device) → IsGivenInPart (Err device) sink old new first second front
    → IsGivenInPart result sink old new first third (front ++ more)
part_in_the_front result device sink old new first second third front more r f =
    let p = err_from_is_err_and result r in
    rw (p.1, p.2) (part_front device sink old new first second third front more f)

-- All that waited was given.
pub part_of_given : (result : Result ⊤ Device) (sink : Passage) (old new : Gathered) (first second : List ℕ)
    → IsGiven result sink old new first → OnOk result (second ≡ []) → IsGivenInPart result sink old new first second []
part_of_given result sink old new first second given none = record {
  done = first;
  left = [];
  given = given;
  whole = refl;
  waits = on_ok_weaker result (λ e. sym e) none;
}

-- Nothing waits, and a text is given.
pub part_past : (result : Result ⊤ Device) (sink : Passage) (old new : Gathered) (waiting text : List ℕ)
    → waiting ≡ [] → IsGiven result sink old new text → IsGivenInPart result sink old new waiting waiting text
part_past result sink old new waiting text none given = record {
  done = text;
  left = [];
  given = given;
  whole = ap (λ t. t ++ text) none ∙ sym (append-nil text);
  waits = on_ok_weaker result (λ _. sym none) given.ok;
}

-- A text waits with the others.
pub part_waits : (sink : Option (List ℕ)) (failed : Bool) (gather : Gathered) (first second text : List ℕ)
    → second ≡ first ++ text → IsGivenInPart (Ok tt) (passage sink sink failed failed) gather gather first second text
part_waits sink failed gather first second text all = record {
  done = [];
  left = first ++ text;
  given = nothing_given sink failed gather;
  whole = refl;
  waits = sym all;
}

-- The same text in other words.
pub part_as : (result : Result ⊤ Device) (sink : Passage) (old new : Gathered) (first second text whole : List ℕ)
    → IsGivenInPart result sink old new first second text → whole ≡ text → IsGivenInPart result sink old new first second whole
part_as result sink old new first second text whole part is = subst (λ t. IsGivenInPart result sink old new first second t) (sym is) part

-- ## The rows of a raster

-- The beginning of a band
pub start_text : (line : ℕ) → line % BAND_ROWS ≡ 0 → steps_text (band_start line) ≡ line_start line
start_text line first =
    let here : begins_band line ≡ true = grind (arith, nat_tests) in
    ap (λ v. steps_text (cond v (begin line ∷ []) [])) here ∙ append-nil (line_start line)

-- A row was drawn in part.
pub drawn_on : (done waiting text rest whole more left waits : List ℕ) → whole ≡ done ++ (waiting ++ (text ++ rest)) → waiting ++ text ≡ more ++ left → left ≡ waits
    → whole ≡ (done ++ more) ++ (waits ++ rest)
drawn_on done waiting text rest whole more left waits is part same =
    is ∙ ap (λ t. done ++ t) (sym (append_assoc waiting text rest)) ∙ ap (λ t. done ++ (t ++ rest)) part ∙ ap (λ t. done ++ ((more ++ t) ++ rest)) same
    ∙ ap (λ t. done ++ t) (append_assoc more waits rest) ∙ sym (append_assoc done more (waits ++ rest))

-- Whether a row is the last of its path.
or_true : (v : Bool) → (v || true) ≡ true
or_true true = refl
or_true false = refl

or_false : (v : Bool) → (v || false) ≡ v
or_false true = refl
or_false false = refl

last_of : (line x y left : ℕ) (dots : List ℕ) → line + 1 + left ≡ y → (begins_band (line + 1) || (line + 1 == y)) ≡ ends_before (line + 1) (rows_of x left dots)
last_of line x y zero dots all =
    let same : (line + 1 == y) ≡ true = grind (arith, nat_tests) in
    ap (λ v. begins_band (line + 1) || v) same ∙ or_true (begins_band (line + 1))
last_of line x y (suc left) dots all =
    let other : (line + 1 == y) ≡ false = grind (arith, nat_tests) in
    ap (λ v. begins_band (line + 1) || v) other ∙ or_false (begins_band (line + 1))

-- A row is left, and then those below it.
pub row_first : (line x left : ℕ) (dots : List ℕ)
    → rows_text line (rows_of x (suc left) dots)
    ≡ (steps_text (band_start line) ++ steps_text (row_steps (ends_before (line + 1) (rows_of x left (drop x dots))) (take x dots))) ++ rows_text (line + 1) (rows_of x left (drop x dots))
unfolding rows_text raster_steps
row_first line x left dots =
    let below = rows_of x left (drop x dots) in
    let own = row_steps (ends_before (line + 1) below) (take x dots) in
    flat_map-append (λ (s : Step). step_text s) (band_start line ++ own) (raster_steps (line + 1) below)
    ∙ ap (λ t. t ++ steps_text (raster_steps (line + 1) below)) (flat_map-append (λ (s : Step). step_text s) (band_start line) own)

pub next_row : (line x y : ℕ) (is_last : Bool) (dots row rest : List ℕ) → line < y → is_last ≡ (begins_band (line + 1) || (line + 1 == y)) → row ≡ take x dots → rest ≡ drop x dots
    → rows_text line (rows_of x (y - line) dots) ≡ (steps_text (band_start line) ++ steps_text (row_steps is_last row)) ++ rows_text (line + 1) (rows_of x (y - (line + 1)) rest)
next_row line x y is_last dots row rest more last row_is rest_is =
    let left = y - (line + 1) in
    let count : y - line ≡ suc left = omega (arith, more) in
    let all : line + 1 + left ≡ y = omega (arith, more) in
    let end : ends_before (line + 1) (rows_of x left (drop x dots)) ≡ is_last = sym (last_of line x y left (drop x dots) all) ∙ sym last in
    ap (λ n. rows_text line (rows_of x n dots)) count
    ∙ row_first line x left dots
    ∙ ap (λ v. (steps_text (band_start line) ++ steps_text (row_steps v (take x dots))) ++ rows_text (line + 1) (rows_of x left (drop x dots))) end
    ∙ ap (λ r. (steps_text (band_start line) ++ steps_text (row_steps is_last r)) ++ rows_text (line + 1) (rows_of x left (drop x dots))) (sym row_is)
    ∙ ap (λ r. (steps_text (band_start line) ++ steps_text (row_steps is_last row)) ++ rows_text (line + 1) (rows_of x left r)) (sym rest_is)

-- Once all are drawn nothing is left.
pub no_row : (line x y : ℕ) (dots : List ℕ) → y ≤ line → rows_text line (rows_of x (y - line) dots) ≡ []
unfolding rows_text raster_steps
no_row line x y dots all =
    let none : y - line ≡ zero = omega (arith, all) in
    ap (λ n. rows_text line (rows_of x n dots)) none
