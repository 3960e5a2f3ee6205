-- The bytes of a layout are those of its lines, and fields fit as `fields_fit` says.
use Rattle.std.proofs.Common.{◌≡◌, ◌≢◌, ◌≤◌, ℕ, List, [], ◌∷◌, ◌++◌, Option, Some, None, Ok, Err, refl, sym, ◌∙◌, ap, subst, Bool, true, false, cond}
use Rattle.std.specs.Prelude.{◌&&◌, Result, nat_le}
use Rattle.std.specs.List.{AllByRecursion, list_all}
use Rattle.std.proofs.lemmas.Bool.{leb-true, le-leb}
use Rattle.escpos_command.specs.declared.command.Command.{Command}
use Rattle.escpos_command.specs.declared.command.Command.TheVariants.{Char, LineFeed, Set}
use Rattle.escpos_command.specs.declared.setting.SettingKind.TheVariants as sets
use Rattle.escpos_command.specs.CommandTable.{spell}
use Rattle.escpos_text.specs.declared.encoding.Encoding.{Encoding}
use Rattle.escpos_text.specs.declared.encoding.TextFault.{TextFault}
use Rattle.escpos_text.specs.declared.encoding.TextFault.TheVariants as cannot
use Rattle.escpos_text.specs.SpelledTexts.{AreOfText, BeginsWithChar}
use Rattle.escpos_text.specs.Writing.{IsRefused}
use Rattle.escpos_text.proofs.TextLaws.{written-of_text}
use Rattle.escpos_layout.specs.declared.row.Field.{Field}
use Rattle.escpos_layout.specs.Layouts.{FitsLine, fields_fit, row}
use Rattle.escpos_layout.specs.Writing.{lines_written}
use Rattle.escpos_layout.proofs.InRange.{first_line, no_line}
use Rattle.escpos_layout.proofs.Parts.{in_force_after}
use Rattle.escpos_receipt.specs.declared.entry.EntryFault.{EntryFault}
use Rattle.escpos_receipt.specs.declared.entry.EntryFault.TheVariants.{Memory}
use Rattle.escpos_receipt.specs.declared.in_force.InForce.{InForce}
use Rattle.escpos_receipt.specs.Entries.{◌>>=◌, after_line, fault_of, laid_out, line_ended, or_fault, row_of}
use Rattle.escpos_receipt.specs.EntryCommands.{with_commands}
use Rattle.escpos_receipt.specs.Layouts.{IsLaidOut}
use Rattle.escpos_receipt.specs.SpelledText.{AreOfLines, IsTextBytes, lines_commands}
use Rattle.escpos_receipt.proofs.SpelledTexts.{lines_commands-spell, next_of_lines, text_bytes}

-- ## Lines that are written

begins_still : (ts more : List Command) → BeginsWithChar ts → BeginsWithChar (ts ++ more)
begins_still (Char b ∷ ts) more first = tt
begins_still [] more first = absurd first
begins_still (c ∷ ts) more first = absurd first

one_line : (ts more : List Command) → AreOfText ts → AreOfLines more → AreOfLines (ts ++ LineFeed ∷ more)
one_line [] more t m = m
one_line (Char b ∷ ts) more (least, most, t) m = (least, most, one_line ts more t m)
one_line (Set (sets.Table, Some n) ∷ ts) more (first, t) m = (begins_still ts (LineFeed ∷ more) first, one_line ts more t m)
one_line (c ∷ ts) more t m = absurd t

are_lines : (e : Encoding) (lines : List (List ℕ)) (cs : List Command) → lines_written e lines ≡ Ok cs → AreOfLines cs
are_lines e [] cs h = subst AreOfLines (sym (no_line e cs h)) tt
are_lines e (line ∷ lines) cs h =
    let f = first_line e line lines cs h in
    subst AreOfLines (sym f.joined)
    (one_line f.text f.rest (written-of_text e line f.text f.text_written)
    (are_lines (in_force_after e f.text) lines f.rest f.rest_written))

-- ## Their bytes

ended_lines : (b : Bool) (cs : List Command) → AreOfLines cs → AreOfLines (line_ended b ++ cs)
ended_lines true cs t = t
ended_lines false cs t = t

ended_spelled : (b : Bool) (cs : List Command) → spell (line_ended b) ++ spell cs ≡ spell (line_ended b ++ cs)
ended_spelled true cs = refl
ended_spelled false cs = refl

ended_next : (b : Bool) (e : Encoding) (cs : List Command) → with_commands e (line_ended b ++ cs) ≡ with_commands e cs
ended_next true e cs = refl
ended_next false e cs = refl

-- What is laid out where this is in force, and what is in force then.
pub record AreLaidOut (f : InForce) (found : Option (List (List ℕ))) (bytes : List ℕ) (after : Encoding) : Type 0 where
  pub text : IsTextBytes bytes
  pub lines : laid_out f found ≡ Ok (lines_commands bytes)
  pub next : after ≡ with_commands f.encoding (lines_commands bytes)

pub laid_bytes : (f : InForce) (found : Option (List (List ℕ))) (start more : List ℕ) (after : Encoding) → start ≡ spell (line_ended f.line.in_line)
    → IsLaidOut found f.encoding start more after → AreLaidOut f found more after
laid_bytes f found start more after is (lines, here, w) =
    let b = f.line.in_line in
    let cs = w.commands in
    let are = ended_lines b cs (are_lines f.encoding lines cs w.are_written) in
    let whole = w.are_spelled ∙ ap (λ l. l ++ spell cs) is ∙ ended_spelled b cs in
    let same = ap lines_commands whole ∙ lines_commands-spell (line_ended b ++ cs) are in
    record {
      text = subst IsTextBytes (sym whole) (text_bytes (line_ended b ++ cs) are);
      lines = ap (laid_out f) here ∙ ap (λ r. after_line b (or_fault r)) w.are_written ∙ ap Ok (sym same);
      next = w.in_force ∙ sym (next_of_lines f.encoding cs (are_lines f.encoding lines cs w.are_written)) ∙ sym (ended_next b f.encoding cs)
          ∙ ap (with_commands f.encoding) (sym same);
    }

-- Why lines are refused.
pub refused_so : (what : Result (List Command) TextFault) (f : TextFault) (fault : EntryFault) → fault ≡ fault_of f → IsRefused what f → fault ≢ Memory
    → or_fault what ≡ Err fault
refused_so what (cannot.Control c) fault e h real = ap or_fault h ∙ ap Err (sym e)
refused_so what (cannot.NoCharacter c) fault e h real = ap or_fault h ∙ ap Err (sym e)
refused_so what cannot.Memory fault e h real = absurd (real e)

-- ## Fields

and_first : (a b : Bool) → (a && b) ≡ true → a ≡ true
and_first true b e = refl
and_first false b e = absurd cc

and_second : (a b : Bool) → (a && b) ≡ true → b ≡ true
and_second true b e = e
and_second false b e = absurd cc

and_both : (a b : Bool) → a ≡ true → b ≡ true → (a && b) ≡ true
and_both true b e f = f
and_both false b e f = absurd cc

abbrev AreWide : List Field → Type 0
AreWide fields = AllByRecursion (λ (field : Field). 1 ≤ field.width) fields

abbrev are_wide : List Field → Bool
are_wide fields = list_all (λ (field : Field). nat_le 1 field.width) fields

wide_from : (fields : List Field) → are_wide fields ≡ true → AreWide fields
wide_from [] h = tt
wide_from (f ∷ fields) h = (leb-true _ _ (and_first _ _ h), wide_from fields (and_second _ _ h))

wide_to : (fields : List Field) → AreWide fields → are_wide fields ≡ true
wide_to [] h = refl
wide_to (f ∷ fields) h = and_both _ _ (le-leb _ _ h.0) (wide_to fields h.1)

fits_from : (columns : ℕ) (fields : List Field) → fields_fit columns fields ≡ true → FitsLine columns fields
fits_from columns fields h = (wide_from fields (and_first _ _ h), leb-true _ _ (and_second _ _ h))

fits_to : (columns : ℕ) (fields : List Field) → FitsLine columns fields → fields_fit columns fields ≡ true
fits_to columns fields h = and_both _ _ (wide_to fields h.0) (le-leb _ _ h.1)

false_where : (b : Bool) → (b ≡ true → ⊥) → b ≡ false
false_where true h = absurd (h refl)
false_where false h = refl

-- A row whose fields don't fit is none, and one whose fields fit is their line.
pub too_wide : (columns : ℕ) (o : Option (List Field)) (fields : List Field) → o ≡ Some fields → ¬ FitsLine columns fields → (o >>= row_of columns) ≡ None
too_wide columns o fields e not_so =
    ap (λ p. p >>= row_of columns) e ∙ ap (λ b. cond b (Some (row fields ∷ [])) None) (false_where (fields_fit columns fields) (λ h. not_so (fits_from columns fields h)))

pub wide_enough : (columns : ℕ) (o : Option (List Field)) (fields : List Field) → o ≡ Some fields → FitsLine columns fields → (o >>= row_of columns) ≡ Some (row fields ∷ [])
wide_enough columns o fields e fits =
    ap (λ p. p >>= row_of columns) e ∙ ap (λ b. cond b (Some (row fields ∷ [])) None) (fits_to columns fields fits)
