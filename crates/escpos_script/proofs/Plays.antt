-- Lines of a script, one after another, and how a script ends.
use Rattle.std.proofs.Common.{◌≡◌, ◌≢◌, ◌+◌, ℕ, zero, suc, List, [], ◌∷◌, ◌++◌, ◌==◌, length, length-append, Result, Ok, Err, OnOk, true, refl, sym, ◌∙◌, ap, subst, inl, inr, append-nil, arith}
use Rattle.std.proofs.KnownBytes.{Appends-trans}
use Rattle.std.proofs.lemmas.Bool.Decides.{nat_tests}
use Rattle.std.proofs.lemmas.Grind.{flat_map-append}
use Rattle.std.specs.Prelude.{Option, is_ok, ⊤}
use Rattle.std.specs.Io.KnownBytes.{Appends}
use Rattle.escpos_link.specs.Line.{LineView}
use Rattle.escpos_command.specs.declared.line_width.TheConstants.{USUAL_LINE_DOTS}
use Rattle.escpos_paper.specs.Page.{Sheet}
use Rattle.escpos_link.specs.Stands.{Stands}
use Rattle.escpos_script.specs.declared.play.ScriptEnd.{ScriptEnd}
use Rattle.escpos_script.specs.declared.play.ScriptEnd.TheVariants as end
use Rattle.escpos_job_parts.specs.declared.status.Status.{Status}
use Rattle.escpos_job_parts.specs.declared.status.Status.TheVariants as status
use Rattle.escpos_job_parts.specs.Ending.{JobEnd, PrintsText, memory_line, job_end}
use Rattle.escpos_script.specs.Play.{AreTold, IsNew, IsTold, PlaysScript, closing_text, joined}
use Rattle.escpos_script.specs.ScriptLines.{AfterLines, IsFirstLine}
use Rattle.escpos_script.specs.ScriptOutput.{unreadable_line}
use Rattle.escpos_script.specs.ScriptSteps.{LineGoes, LinesGo}

pub on_ok : {T E : Type 0} {P Q : Type 0} (r : Result T E) → (P → Q) → OnOk r P → OnOk r Q
on_ok (Ok x) f h = f h
on_ok (Err e) f h = h

-- So many lines were read where so many texts are printed.
abbrev pub Counted : Result ⊤ ScriptEnd → ℕ → ℕ → Type 0
Counted (Ok done) number count = number ≡ count
Counted (Err why) number count = Unit {0}

pub begun : (script : List ℕ) (l : LineView) → LinesGo (Ok tt) script script l [] l
begun script l = record { texts = []; to_read = script; line = l; last = []; read = refl; told = refl; ends = (refl, refl, refl); whole = refl }

pub begun_none : (script : List ℕ) (l : LineView) → 0 ≡ length (begun script l).texts
unfolding begun
begun_none script l = refl

-- One line more.
after_one : (count : ℕ) (script left line rest : List ℕ) → AfterLines count script left → IsFirstLine left line rest → AfterLines (suc count) script rest
after_one zero script left line rest same first = (line, rest, subst (λ t. IsFirstLine t line rest) (sym same) first, refl)
after_one (suc count) script left line rest (head, next, is, more) first = (head, next, is, after_one count next left line rest more first)

one_more : (before left after : LineView) (texts : List (List ℕ)) (text : List ℕ) → AreTold before texts left → IsTold left text after
    → AreTold before (texts ++ text ∷ []) after
one_more before left after [] text same told = (after, subst (λ l. IsTold l text after) same told, refl)
one_more before left after (first ∷ texts) text (next, is, others) told = (next, is, one_more next left after texts text others told)

joined_more : (texts : List (List ℕ)) (text : List ℕ) → joined (texts ++ text ∷ []) ≡ joined texts ++ text
joined_more texts text = flat_map-append (λ t. t) texts (text ∷ []) ∙ ap (λ v. joined texts ++ v) (append-nil text)

all_told : (script rest : List ℕ) (before left : LineView) (text : List ℕ) (so_far : LinesGo (Ok tt) script rest before text left) → text ≡ joined so_far.texts
all_told script rest before left text so_far =
    so_far.whole ∙ ap (λ v. joined so_far.texts ++ v) so_far.ends.0 ∙ append-nil (joined so_far.texts)

-- After lines whose texts are printed comes one more.
and_one : (ended : Result ⊤ ScriptEnd) (script rest line later : List ℕ) (number : ℕ) (before left after : LineView) (text more : List ℕ)
    → (so_far : LinesGo (Ok tt) script rest before text left) → number ≡ length so_far.texts + 1 → rest ≢ [] → IsFirstLine rest line later
    → LineGoes ended number left more after → (go : LinesGo ended script later before (text ++ more) after) × Counted ended number (length go.texts)
and_one (Ok tt) script rest line later number before left after text more so_far count some first goes =
    let told = subst (λ l. IsTold l more after) so_far.ends.1 goes in
    let read = subst (λ r. AfterLines (length so_far.texts) script r) so_far.ends.2 so_far.read in
    let longer : suc (length so_far.texts) ≡ length (so_far.texts ++ more ∷ []) = omega (arith, length-append so_far.texts (more ∷ [])) in (
      record {
        texts = so_far.texts ++ more ∷ [];
        to_read = later;
        line = after;
        last = [];
        read = subst (λ n. AfterLines n script later) longer (after_one (length so_far.texts) script rest line later read first);
        told = one_more before so_far.line after so_far.texts more so_far.told told;
        ends = (refl, refl, refl);
        whole =
            ap (λ v. v ++ more) (all_told script rest before left text so_far) ∙ sym (joined_more so_far.texts more)
            ∙ sym (append-nil (joined (so_far.texts ++ more ∷ [])));
      },
      omega (arith, count, longer),
    )
and_one (Err end.Unreadable) script rest line later number before left after text more so_far count some first goes = (
  record {
    texts = so_far.texts;
    to_read = rest;
    line = so_far.line;
    last = more;
    read = subst (λ r. AfterLines (length so_far.texts) script r) so_far.ends.2 so_far.read;
    told = so_far.told;
    ends = ((goes.0 ∙ so_far.ends.1, goes.1 ∙ ap unreadable_line count), some);
    whole = ap (λ v. v ++ more) (all_told script rest before left text so_far);
  },
  tt,
)
and_one (Err end.Memory) script rest line later number before left after text more so_far count some first goes = (
  record {
    texts = so_far.texts;
    to_read = rest;
    line = so_far.line;
    last = more;
    read = subst (λ r. AfterLines (length so_far.texts) script r) so_far.ends.2 so_far.read;
    told = so_far.told;
    ends = (goes, some);
    whole = ap (λ v. v ++ more) (all_told script rest before left text so_far);
  },
  tt,
)
and_one (Err end.Device) script rest line later number before left after text more so_far count some first goes = absurd goes

pub next_line : (ended next : Result ⊤ ScriptEnd) (script rest line later : List ℕ) (before_it number : ℕ) (before left after : LineView) (text more : List ℕ)
    → true ≡ is_ok ended → (so_far : LinesGo ended script rest before text left) → Counted ended before_it (length so_far.texts) → number ≡ before_it + 1 → rest ≢ []
    → IsFirstLine rest line later → LineGoes next number left more after
    → (go : LinesGo next script later before (text ++ more) after) × Counted next number (length go.texts)
next_line (Ok tt) next script rest line later before_it number before left after text more well so_far counted count some first goes =
    and_one next script rest line later number before left after text more so_far (omega (arith, counted, count)) some first goes
next_line (Err why) next script rest line later before_it number before left after text more well so_far counted count some first goes = absurd cc

-- What is empty.
pub empty_rest : (rest : List ℕ) → (length rest == 0) ≡ true → rest ≡ []
empty_rest [] none = refl
empty_rest (b ∷ rest) none = let bad : suc (length rest) ≡ 0 = grind (arith, nat_tests) in cc

-- At the end nothing is left, or a line ended the script.
pub ended_lines : (ended : Result ⊤ ScriptEnd) (script rest : List ℕ) (before after : LineView) (text : List ℕ) → (is_ok ended ≡ true → rest ≡ [])
    → LinesGo ended script rest before text after → LinesGo ended script [] before text after
ended_lines (Ok tt) script rest before after text none go = subst (λ r. LinesGo (Ok tt) script r before text after) (none refl) go
ended_lines (Err why) script rest before after text none go = record {
  texts = go.texts;
  to_read = go.to_read;
  line = go.line;
  last = go.last;
  read = go.read;
  told = go.told;
  ends = go.ends;
  whole = go.whole;
}

pub no_device_so_far : (ended : Result ⊤ ScriptEnd) → ended ≡ Ok tt → ended ≢ Err end.Device
no_device_so_far ended well bad = let h = sym well ∙ bad in cc

-- How the lines went, where the result is known.
pub told_of : (ended wanted : Result ⊤ ScriptEnd) (script : List ℕ) (before after : LineView) (first sink : Option (List ℕ)) → ended ≡ wanted → wanted ≢ Err end.Device
    → (ended ≢ Err end.Device → (text : List ℕ) × LinesGo ended script [] before text after × Appends first sink text)
    → (text : List ℕ) × LinesGo wanted script [] before text after × Appends first sink text
told_of ended wanted script before after first sink same well told =
    subst (λ r. (text : List ℕ) × LinesGo r script [] before text after × Appends first sink text) same (told (λ device. well (sym same ∙ device)))

-- A call that prints this text with this status returns no other status but that of a failed sink.
as_said : (o : JobEnd) (text : List ℕ) (wanted other : Status) → PrintsText o text wanted → wanted ≢ other → status.Device ≢ other → o.status ≢ other
as_said o text wanted other says differs failed is = elim says.ends [ inl e ↦ differs (sym e ∙ is) | inr e ↦ failed (sym e.0 ∙ is) ]

-- What stands in lines of the width that the printer has stands in lines of 512 dots, where a new line kept its width.
pub usual_stands : (start after : LineView) → IsNew start → after.printer.sheet.line_dots ≡ start.printer.sheet.line_dots
    → Stands after.printer.sheet.line_dots after.host.records after.printer.sheet.items → Stands USUAL_LINE_DOTS after.host.records after.printer.sheet.items
usual_stands start after new same stand =
    subst (λ width. Stands width after.host.records after.printer.sheet.items) (same ∙ ap (λ (s : Sheet). s.line_dots) new.sheet) stand

-- The script was played to its end, and what is left was shown.
pub played : (o : JobEnd) (script : List ℕ) (between : Option (List ℕ)) (start after : LineView) (text : List ℕ) → IsNew start → LinesGo (Ok tt) script [] start text after
    → Appends o.before between text → Stands USUAL_LINE_DOTS after.host.records after.printer.sheet.items
    → PrintsText (job_end between o.after o.failed o.status) (closing_text after) status.Good → PlaysScript o script
played o script between start after text new goes told stand says = record {
  good = λ good. (
    length goes.texts,
    record {
      start = start;
      texts = goes.texts;
      line = after;
      new = new;
      read = subst (λ r. AfterLines (length goes.texts) script r) goes.ends.2 goes.read;
      each = refl;
      told = subst (λ l. AreTold start goes.texts l) (sym goes.ends.1) goes.told;
      stand = stand;
      out =
          subst (λ v. Appends o.before o.after (v ++ closing_text after)) (goes.whole ∙ ap (λ v. joined goes.texts ++ v) goes.ends.0)
          (Appends-trans o.before between o.after text (closing_text after) told (says.out (λ failed. let h = sym good ∙ failed in cc)));
    },
  );
  refused = λ refused. absurd (as_said (job_end between o.after o.failed o.status) (closing_text after) status.Good status.Refused says (λ e. cc) (λ e. cc) refused);
  memory = λ memory. absurd (as_said (job_end between o.after o.failed o.status) (closing_text after) status.Good status.Memory says (λ e. cc) (λ e. cc) memory);
}

-- A line of the script can't be read, and what is left was shown.
pub unreadable : (o : JobEnd) (script : List ℕ) (between : Option (List ℕ)) (start after : LineView) (text : List ℕ) → IsNew start
    → LinesGo (Err end.Unreadable) script [] start text after → Appends o.before between text → Stands USUAL_LINE_DOTS after.host.records after.printer.sheet.items
    → PrintsText (job_end between o.after o.failed o.status) (closing_text after) status.Refused → PlaysScript o script
unreadable o script between start after text new goes told stand says = record {
  good = λ good. absurd (as_said (job_end between o.after o.failed o.status) (closing_text after) status.Refused status.Good says (λ e. cc) (λ e. cc) good);
  refused = λ refused. (
    length goes.texts,
    goes.to_read,
    goes.ends.1,
    record {
      start = start;
      texts = goes.texts;
      line = after;
      new = new;
      read = goes.read;
      each = refl;
      told = subst (λ l. AreTold start goes.texts l) (sym goes.ends.0.0) goes.told;
      stand = stand;
      out =
          subst (λ v. Appends o.before o.after (v ++ closing_text after)) (goes.whole ∙ ap (λ v. joined goes.texts ++ v) goes.ends.0.1)
          (Appends-trans o.before between o.after text (closing_text after) told (says.out (λ failed. let h = sym refused ∙ failed in cc)));
    },
  );
  memory = λ memory. absurd (as_said (job_end between o.after o.failed o.status) (closing_text after) status.Refused status.Memory says (λ e. cc) (λ e. cc) memory);
}

-- There was no memory for a line of the script.
pub cut_off : (o : JobEnd) (script : List ℕ) (between : Option (List ℕ)) (start after : LineView) (text : List ℕ) → IsNew start
    → LinesGo (Err end.Memory) script [] start text after → Appends o.before between text
    → PrintsText (job_end between o.after o.failed o.status) memory_line status.Memory → PlaysScript o script
cut_off o script between start after text new goes told says = record {
  good = λ good. absurd (as_said (job_end between o.after o.failed o.status) memory_line status.Memory status.Good says (λ e. cc) (λ e. cc) good);
  refused = λ refused. absurd (as_said (job_end between o.after o.failed o.status) memory_line status.Memory status.Refused says (λ e. cc) (λ e. cc) refused);
  memory = λ memory. inl (record {
    start = start;
    texts = goes.texts;
    line = goes.line;
    rest = goes.to_read;
    new = new;
    read = goes.read;
    some = goes.ends.1;
    told = goes.told;
    out =
        subst (λ v. Appends o.before o.after (v ++ memory_line))
        (goes.whole ∙ ap (λ v. joined goes.texts ++ v) goes.ends.0 ∙ append-nil (joined goes.texts))
        (Appends-trans o.before between o.after text memory_line told (says.out (λ failed. let h = sym memory ∙ failed in cc)));
  });
}
