-- What one more command adds to a drawing, and the outcome of a byte list.
use Rattle.std.proofs.Common.{◌≡◌, ◌≢◌, inl, inr, length, take, Bool, ℕ, List, [], ◌∷◌, ◌++◌, refl, sym, ◌∙◌, ap, subst, append-nil, append_assoc, Option, Result, Ok, Err, OnOk, true, false, not}
use Rattle.escpos_command.specs.declared.command.Command.{Command}
use Rattle.escpos_io.specs.Gather.{Carries, Gathered}
use Rattle.escpos_paper.specs.declared.item.Item.{Item}
use Rattle.escpos_paper.specs.Page.{Sheet, SheetIs}
use Rattle.escpos_paper.specs.Torn.{bare, below}
use Rattle.escpos_paper.specs.Printed.{printed}
use Rattle.escpos_picture.specs.Places.{Place, top, place_after_all}
use Rattle.escpos_picture.specs.Groups.{drawings}
use Rattle.escpos_picture.specs.Document.{foot, head, last_tag}
use Rattle.escpos_paper.specs.Styles.{is_empty}
use Rattle.std.specs.Prelude.{codes, if◌then◌else◌}
use Rattle.std.proofs.lemmas.Bool.{ne_eqb}
use Rattle.escpos_passed.specs.Tokens.{Token, passed_count, commands_of, ReadsWith}
use Rattle.escpos_passed.proofs.With.{one_reading_with, one_fault_with, not_both_with}
use Rattle.escpos_job_parts.specs.declared.status.Status.{Status}
use Rattle.escpos_job_parts.specs.declared.status.Status.TheVariants.{Refused, Usage, Device, Memory}
use Rattle.escpos_job_parts.specs.Lines.{fault_line}
use Rattle.escpos_job_parts.specs.Ending.{JobEnd, PrintsText, StatusFits, memory_line}
use Rattle.escpos_stream_jobs.specs.Render.{half_line}
use Rattle.escpos_stream_jobs.specs.Draw.{Draws, IsOutcome, IsPicture, IsShortPicture, passed_words, some_words}
use Rattle.escpos_stream_jobs.proofs.Reports.{short_as}
use Rattle.escpos_stream_jobs.specs.DrawSteps.{IsDrawn, IsMeasured}

-- What commands left after the paper that was torn off is torn off too, and passed.
pub measured_on : (width : ℕ) → ((place : Place) (front more : List Item) → place_after_all place (front ++ more) ≡ place_after_all (place_after_all place front) more)
    → (left torn : Sheet) (here next : Place) (cs ds : List Command) → here ≡ place_after_all (top width) (printed width cs)
    → SheetIs width (below (printed width cs) left) [] (cs ++ ds) → torn ≡ bare left → next ≡ place_after_all here left.items → IsMeasured width torn next (cs ++ ds)
measured_on width turns left torn here next cs ds here_is is off passed =
    let all : printed width cs ++ left.items ≡ printed width (cs ++ ds) = ap (λ (s : Sheet). s.items) is in
    let stays : below (printed width cs ++ left.items) (bare left) ≡ below (printed width cs) left = let e = append-nil (printed width cs ++ left.items) in cc e in
    record {
      torn = ap (λ (s : Sheet). s.items) off;
      sheet_is = subst (λ v. SheetIs width (below v torn) [] (cs ++ ds)) all (ap (below (printed width cs ++ left.items)) off ∙ stays ∙ is);
      place_is = passed ∙ ap (λ p. place_after_all p left.items) here_is ∙ sym (turns (top width) (printed width cs) left.items) ∙ ap (place_after_all (top width)) all;
    }

-- The same, and drawn.
pub drawn_on : (width : ℕ) → ((place : Place) (front more : List Item) → place_after_all place (front ++ more) ≡ place_after_all (place_after_all place front) more)
    → ((place : Place) (front more : List Item) → drawings place (front ++ more) ≡ drawings place front ++ drawings (place_after_all place front) more)
    → (start : List ℕ) (first sink : Option (List ℕ)) (gather : Gathered) (left torn : Sheet) (here next : Place) (cs ds : List Command)
    → here ≡ place_after_all (top width) (printed width cs) → SheetIs width (below (printed width cs) left) [] (cs ++ ds) → torn ≡ bare left → next ≡ place_after_all here left.items
    → Carries first sink gather (start ++ drawings (top width) (printed width cs) ++ drawings here left.items) → IsDrawn width start first sink gather torn next (cs ++ ds)
drawn_on width places turns start first sink gather left torn here next cs ds here_is is off passed carried =
    let all : printed width cs ++ left.items ≡ printed width (cs ++ ds) = ap (λ (s : Sheet). s.items) is in
    let text : start ++ drawings (top width) (printed width cs) ++ drawings here left.items ≡ start ++ drawings (top width) (printed width (cs ++ ds)) =
    append_assoc start (drawings (top width) (printed width cs)) (drawings here left.items)
    ∙ ap (λ t. start ++ t) (ap (λ p. drawings (top width) (printed width cs) ++ drawings p left.items) here_is ∙ sym (turns (top width) (printed width cs) left.items) ∙ ap (drawings (top width)) all) in
    record {
      measured = measured_on width places left torn here next cs ds here_is is off passed;
      carried = subst (Carries first sink gather) text carried;
    }

-- What five facts of a success give.
pub on_printed : {T E : Type 0} {P Q R S V Z : Type 0} (r : Result T E) → OnOk r P → OnOk r Q → OnOk r R → OnOk r S → OnOk r V
    → (P → Q → R → S → V → Z) → OnOk r Z
on_printed (Ok x) p q r s v so = so p q r s v
on_printed (Err d) p q r s v so = tt

-- What one fact of a success gives.
pub on_given : {T E : Type 0} {P Z : Type 0} (r : Result T E) → OnOk r P → (P → Z) → OnOk r Z
on_given (Ok x) p so = so p
on_given (Err d) p so = tt

-- The foot, with a last line and without one.
pub foot_with : (down : ℕ) (last : List ℕ) → not (is_empty last) ≡ true → foot down last ≡ last_tag down ++ last ++ codes "</text>\n</svg>\n"
foot_with down [] e = cc
foot_with down (x ∷ xs) e = refl

pub foot_without : (down : ℕ) (last : List ℕ) → not (is_empty last) ≡ false → foot down last ≡ codes "</svg>\n"
foot_without down [] e = refl
foot_without down (x ∷ xs) e = cc

-- A page on which nothing is printed.
pub measured_at_first : (width : ℕ) (sheet : Sheet) (place : Place) → SheetIs width sheet [] [] → place ≡ top width → IsMeasured width sheet place []
measured_at_first width sheet place is at = record { torn = ap (λ (s : Sheet). s.items) is; sheet_is = ap (below []) is; place_is = at }

-- ## The outcome of a byte list

-- There is one.
pub one_outcome : (pass : Bool) (bytes : List ℕ) (ts us : List Token) (last line : List ℕ) → IsOutcome pass bytes ts last → IsOutcome pass bytes us line → (ts ≡ us) × (last ≡ line)
one_outcome pass bytes ts us last line (inl a) (inl b) =
    let same = one_reading_with pass bytes ts us a.0 b.0 a.1 b.1 in (
      same.0,
      a.2 ∙ ap (λ v. passed_words (passed_count v) ++ half_line (length bytes) (length a.0)) same.0
          ∙ ap (λ rest. passed_words (passed_count us) ++ half_line (length bytes) (length rest)) same.1 ∙ sym b.2,
    )
one_outcome pass bytes ts us last line (inl a) (inr b) = absurd (not_both_with pass bytes ts us a.0 b.0 b.1 a.1 b.2)
one_outcome pass bytes ts us last line (inr a) (inl b) = absurd (not_both_with pass bytes us ts b.0 a.0 a.1 b.1 a.2)
one_outcome pass bytes ts us last line (inr a) (inr b) =
    let same = one_fault_with pass bytes ts us a.0 b.0 a.1 b.1 a.2 b.2 in (
      same.0,
      a.3 ∙ ap (λ v. passed_words (passed_count v) ++ fault_line a.0 a.1) same.0 ∙ ap (λ n. passed_words (passed_count us) ++ fault_line n a.1) same.1
          ∙ ap (λ w. passed_words (passed_count us) ++ fault_line b.0 w) same.2 ∙ sym b.3,
    )

-- The head of the first reading, the items and the foot of the second are one picture.
pub picture_is : (width : ℕ) (pass : Bool) (bytes : List ℕ) (measured down : ℕ) (has_last : Bool) (all ts : List Token) (last line : List ℕ)
    → IsOutcome pass bytes all last → measured ≡ (place_after_all (top width) (printed width (commands_of all))).down → has_last ≡ not (is_empty last)
    → IsOutcome pass bytes ts line → down ≡ measured
    → IsPicture width pass bytes (head width measured has_last ++ drawings (top width) (printed width (commands_of ts)) ++ foot down line)
picture_is width pass bytes measured down has_last all ts last line first depth has second same =
    let one = one_outcome pass bytes all ts last line first second in
    let cs = commands_of ts in
    let deep : measured ≡ (place_after_all (top width) (printed width cs)).down = depth ∙ ap (λ us. (place_after_all (top width) (printed width (commands_of us))).down) one.0 in (
      ts,
      line,
      second,
      ap (λ d. head width measured has_last ++ drawings (top width) (printed width cs) ++ foot d line) (same ∙ deep)
          ∙ ap (λ d. head width d has_last ++ drawings (top width) (printed width cs) ++ foot (place_after_all (top width) (printed width cs)).down line) deep
          ∙ ap (λ b. head width (place_after_all (top width) (printed width cs)).down b ++ drawings (top width) (printed width cs) ++ foot (place_after_all (top width) (printed width cs)).down line)
          (has ∙ ap (λ l. not (is_empty l)) one.1),
    )

-- The head of the first reading, some items of the second, and the line that says that an allocation failed.
pub short_is : (width : ℕ) (pass : Bool) (bytes : List ℕ) (measured : ℕ) (has_last : Bool) (all ts : List Token) (last rest : List ℕ) (k : ℕ)
    → IsOutcome pass bytes all last → measured ≡ (place_after_all (top width) (printed width (commands_of all))).down → has_last ≡ not (is_empty last) → ReadsWith pass (take k bytes) ts rest
    → IsShortPicture width pass bytes (head width measured has_last ++ drawings (top width) (printed width (commands_of ts)) ++ memory_line)
short_is width pass bytes measured has_last all ts last rest k first depth has read =
    inr (
      all,
      last,
      first,
      k,
      ts,
      rest,
      read,
      ap (λ d. head width d has_last ++ drawings (top width) (printed width (commands_of ts)) ++ memory_line) depth
          ∙ ap (λ b. head width (place_after_all (top width) (printed width (commands_of all))).down b ++ drawings (top width) (printed width (commands_of ts)) ++ memory_line) has,
    )

-- A status of content is no other.
pub content_is_no_device : (status : Status) (half : ℕ) → StatusFits status half → status ≢ Device
content_is_no_device status half (inl e) d = let h = sym e.0 ∙ d in cc
content_is_no_device status half (inr e) d = let h = sym e.0 ∙ d in cc

pub content_is_no_usage : (status : Status) (half : ℕ) → StatusFits status half → status ≢ Usage
content_is_no_usage status half (inl e) d = let h = sym e.0 ∙ d in cc
content_is_no_usage status half (inr e) d = let h = sym e.0 ∙ d in cc

pub refused_is_no_device : Refused ≢ Device
refused_is_no_device e = cc

pub refused_is_no_usage : Refused ≢ Usage
refused_is_no_usage e = cc

-- Only the line that says that an allocation failed is printed.
pub draws_at_memory : (width : ℕ) (pass : Bool) (o : JobEnd) (bytes : List ℕ) → PrintsText o memory_line Memory → Draws width pass o bytes
draws_at_memory width pass o bytes says = short_as pass (IsPicture width pass) (IsShortPicture width pass) o bytes memory_line (inl refl) says

-- The words, where some commands were passed over.
pub words_there : (n : ℕ) → (n ≡ 0 → ⊥) → passed_words n ≡ some_words n
words_there n h = ap (λ (t : Bool). if t then [] else some_words n) (ne_eqb n 0 h)
