-- The fields fit on a line, and are its text; or they don't, and there is none.
use Rattle.std.proofs.Common.{◌≡◌, ◌∷◌, [], true, false, refl, sym, ◌∙◌, ap, subst, Some}
use Rattle.serde_json.specs.View.{view}
use Rattle.escpos_layout.specs.Layouts.{FitsLine, row}
use Rattle.escpos_receipt.specs.declared.entry.EntryFault.TheVariants.{BadShape}
use Rattle.escpos_receipt.specs.Entries.{row_fields}
use Rattle.escpos_receipt.specs.Layouts.{IsRefusal}
use Rattle.escpos_receipt.proofs.LayoutBytes.{refused_so, too_wide, wide_enough}
use Rattle.escpos_receipt.proofs.layout.put_row.Goals as goal

pub returns-then-not-fits_line-clause-refused : goal.returns-then-not-fits_line-clause-refused
returns-then-not-fits_line-clause-refused c = λ real.
    let columns = c.args.columns in
    let none = too_wide columns (row_fields (view c.args.value.now)) c.in_ok-fields.fields.items c.in_ok-fields.ensures.fields (λ fits.
    let yes = c.fits_line.ensures.1 (subst (FitsLine columns) (sym c.deref.ensures.value) fits) in
    let bad : true ≡ false = sym yes ∙ c.if-not-fits_line.true in
    cc) in
    subst (λ o. IsRefusal o c.args.encoding.now BadShape) (sym none) refl

pub returns-in-Ok-clause-lines : goal.returns-in-Ok-clause-lines
returns-in-Ok-clause-lines c =
    let columns = c.args.columns in
    let fits = subst (FitsLine columns) c.deref.ensures.value (c.fits_line.ensures.0 c.if-not-fits_line.false) in
    let there = wide_enough columns (row_fields (view c.args.value.now)) c.in_ok-fields.fields.items c.in_ok-fields.ensures.fields fits in
    (row c.deref-2.result.now ∷ [], there ∙ ap (λ l. Some (row l ∷ [])) (sym c.deref-2.ensures.value), c.in-Ok.ensures.written)

pub returns-clause-refused : goal.returns-clause-refused
returns-clause-refused c = λ real.
    let columns = c.args.columns in
    let fits = subst (FitsLine columns) c.deref.ensures.value (c.fits_line.ensures.0 c.if-not-fits_line.false) in
    let there = wide_enough columns (row_fields (view c.args.value.now)) c.in_ok-fields.fields.items c.in_ok-fields.ensures.fields fits
    ∙ ap (λ l. Some (row l ∷ [])) (sym c.deref-2.ensures.value) in
    subst (λ o. IsRefusal o c.args.encoding.now c.of_text.result) (sym there) (refused_so _ c.in-Err.fault c.of_text.result c.of_text.ensures c.in-Err.ensures.refused real)
