use Rattle.std.proofs.Common.{◌+◌, ◌++◌, [], ◌∷◌, length, get_or, drop, sym, ap, ◌∙◌, arith, true, false, Bool}
use Rattle.escpos_barcode.proofs.Reading128.{value_next, shifted_next}
use Rattle.escpos_barcode.proofs.Parts.{from_place}
use Rattle.escpos_barcode.specs.Chains.{joined}
use Rattle.escpos_barcode.specs.Code128.{values_after, is_shift}
use Rattle.escpos_barcode.specs.declared.code128.Character.TheVariants.{Byte}
use Rattle.escpos_barcode.proofs.code128.values_from.Goals as goal
use Rattle.escpos_barcode.proofs.code128.values_from.Goals.{then-after_shift+in_ok-value_shifted, else-after_shift+in_ok-value_in}

pub loop-character-preserved : goal.loop-character-preserved
loop-character-preserved c =
    let here = from_place c.args.characters.now c.loop-character.character-index (Byte 0) (omega arith) in
    let left = drop (c.loop-character.character-index + 1) c.args.characters.now in
    let character = get_or c.args.characters.now c.loop-character.character-index (Byte 0) in
    let so_far = c.loop-character.invariant.whole in
    let values = c.loop-character.values.items in
    let set = c.loop-character.set in
    let near = c.loop-character.invariant.few in
    elim c.if-after_shift.branch [
      | then-after_shift+in_ok-value_shifted w ↦ rw (w.values-is, w.set-is, w.after_shift-is, w.push-then-after_shift.ensures.items) record {
        whole =
            so_far ∙ ap (λ (b : Bool). joined values (values_after set b (drop c.loop-character.character-index c.args.characters.now))) w.if-after_shift.true
            ∙ ap (λ cs. joined values (values_after set true cs)) here
            ∙ shifted_next values set character left w.in_ok-value_shifted.field-0 (sym w.value_shifted.ensures ∙ w.in_ok-value_shifted.was);
        few = let longer = ap length w.push-then-after_shift.ensures.items in let one = w.push-then-after_shift.ensures.len in omega arith;
      }
      | else-after_shift+in_ok-value_in w ↦ rw (w.values-is, w.set-is, w.after_shift-is, w.push-else-after_shift.ensures.items) record {
        whole =
            so_far ∙ ap (λ (b : Bool). joined values (values_after set b (drop c.loop-character.character-index c.args.characters.now))) w.if-after_shift.false
            ∙ ap (λ cs. joined values (values_after set false cs)) here
            ∙ value_next values set character left w.in_ok-value_in.field-0 (sym w.value_in.ensures ∙ w.in_ok-value_in.was)
            ∙ ap (λ s. joined (values ++ w.in_ok-value_in.field-0 ∷ []) (values_after s (is_shift character) left)) (sym w.after-set.ensures)
            ∙ ap (λ (b : Bool). joined (values ++ w.in_ok-value_in.field-0 ∷ []) (values_after w.after-set.result b left)) (sym w.is_shift-after_shift.ensures);
        few = let longer = ap length w.push-else-after_shift.ensures.items in let one = w.push-else-after_shift.ensures.len in omega arith;
      }
    ]
