use Rattle.std.proofs.Common.{◌++◌, ℕ, List, ap, ◌∙◌}
use Rattle.std.specs.Prelude.{flat_map}
use Rattle.escpos_barcode.specs.Tables.{row, left_digits, upce_parities}
use Rattle.escpos_barcode.proofs.Drawing.{draw_then}
use Rattle.escpos_barcode.specs.Elements.{guard, in_sets, upce_end}
use Rattle.escpos_barcode.specs.Pen.{draw}
use Rattle.escpos_barcode.proofs.upce.draw_six.Goals as goal

pub returns : goal.returns
returns c =
    let symbols : List ℕ = flat_map (row left_digits) (in_sets (row upce_parities c.args.check) c.args.six.now) in
    let left = c.draw_left.ensures ∙ ap (λ sets. draw c.draw.new.self (flat_map (row left_digits) (in_sets sets c.args.six.now))) c.upce_parities_of.ensures.row in
    draw_then c.args.pen.now c.draw.new.self c.draw-2.new.self guard (symbols ++ upce_end) c.draw.ensures
    (draw_then c.draw.new.self c.draw_left.new.pen c.draw-2.new.self symbols upce_end left c.draw-2.ensures)
