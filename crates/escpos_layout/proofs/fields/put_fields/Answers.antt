use Rattle.std.proofs.Common.{◌+◌, ◌++◌, take, drop, subst, ◌∙◌, ap, Ok, Err}
use Rattle.escpos_text.specs.Writing.{written}
use Rattle.escpos_layout.specs.Layouts.{field_text, row}
use Rattle.escpos_layout.specs.Writing.{WritesAs, Stops}
use Rattle.escpos_layout.proofs.RowParts.{row-more, row-parts, row-all}
use Rattle.escpos_layout.proofs.Parts.{no_text, texts_end, text_stops}
use Rattle.escpos_layout.proofs.fields.put_fields.Goals as goal

pub loop-field-init : goal.loop-field-init
loop-field-init c = no_text c.args.encoding.now c.args.out.now.items

pub loop-field-preserved : goal.loop-field-preserved
loop-field-preserved c =
    let fields = c.args.fields.now in
    subst (λ text. WritesAs (written c.args.encoding.now text) c.args.encoding.now c.args.out.now.items c.put_field.new.out.items c.put_field.new.encoding)
    (row-more fields c.loop-field.field-index c.field-item.result c.loop-field-test.true c.field-item.is)
    (texts_end {A = Unit {0}} c.joined.ensures c.args.encoding.now c.loop-field.encoding c.put_field.new.encoding (row (take c.loop-field.field-index fields)) (field_text c.field-item.result)
    c.args.out.now.items c.loop-field.out.items c.put_field.new.out.items (Ok tt) c.loop-field.invariant c.in-Ok.ensures)

pub returns-in-Err : goal.returns-in-Err
returns-in-Err c =
    let fields = c.args.fields.now in
    let others = row (drop (c.loop-field.field-index + 1) fields) in
    subst (λ text. Stops (written c.args.encoding.now text) c.args.encoding.now c.args.out.now.items c.put_field.new.out.items c.put_field.new.encoding c.in-Err.fault)
    (ap (λ text. text ++ others) (row-more fields c.loop-field.field-index c.field-item.result c.loop-field-test.true c.field-item.is)
    ∙ row-parts fields (c.loop-field.field-index + 1))
    (text_stops c.joined.ensures c.args.encoding.now c.put_field.new.encoding (row (take c.loop-field.field-index fields) ++ field_text c.field-item.result) others
    c.args.out.now.items c.put_field.new.out.items c.in-Err.fault
    (texts_end {A = Unit {0}} c.joined.ensures c.args.encoding.now c.loop-field.encoding c.put_field.new.encoding (row (take c.loop-field.field-index fields)) (field_text c.field-item.result)
    c.args.out.now.items c.loop-field.out.items c.put_field.new.out.items (Err c.in-Err.fault) c.loop-field.invariant c.in-Err.ensures))

pub returns : goal.returns
returns c =
    subst (λ text. WritesAs (written c.args.encoding.now text) c.args.encoding.now c.args.out.now.items c.loop-field.out.items c.loop-field.encoding)
    (row-all c.args.fields.now c.loop-field.field-index c.loop-field-test.false) c.loop-field.invariant
