use Rattle.std.proofs.Common.{◌++◌, ℕ, List, length, drop, take, ap, ◌∙◌}
use Rattle.std.specs.Prelude.{flat_map}
use Rattle.escpos_barcode.specs.Tables.{row, right_digits, left_digits}
use Rattle.escpos_barcode.proofs.Drawing.{draw_then}
use Rattle.escpos_barcode.specs.Elements.{guard, centre, in_sets}
use Rattle.escpos_barcode.specs.Pen.{draw}
use Rattle.escpos_barcode.proofs.upc.draw_halves.Goals as goal

pub returns : goal.returns
returns c =
    let left : List ℕ = flat_map (row left_digits) (in_sets c.args.sets.now (take (length c.args.sets.now) c.args.digits.now)) in
    let right : List ℕ = flat_map (row right_digits) (drop (length c.args.sets.now) c.args.digits.now) in
    let drawn_left = c.draw_left.ensures ∙ ap (λ ds. draw c.draw.new.self (flat_map (row left_digits) (in_sets c.args.sets.now ds))) c.split_at.ensures.front in
    let drawn_right = c.draw_right.ensures ∙ ap (λ ds. draw c.draw-2.new.self (flat_map (row right_digits) ds)) c.split_at.ensures.back in
    draw_then c.args.pen.now c.draw.new.self c.draw-3.new.self guard (left ++ (centre ++ (right ++ guard))) c.draw.ensures
    (draw_then c.draw.new.self c.draw_left.new.pen c.draw-3.new.self left (centre ++ (right ++ guard)) drawn_left
    (draw_then c.draw_left.new.pen c.draw-2.new.self c.draw-3.new.self centre (right ++ guard) c.draw-2.ensures
    (draw_then c.draw-2.new.self c.draw_right.new.pen c.draw-3.new.self right guard drawn_right c.draw-3.ensures)))
