-- Each row stands after those before it.
use Rattle.std.proofs.Common.{◌≡◌, ◌+◌, ◌-◌, ◌++◌, ap, ◌∙◌, arith}
use Rattle.escpos_image.specs.Packing.{packed_row, packed_rows}
use Rattle.escpos_image.proofs.Ranges.{flat_map_range}
use Rattle.escpos_image.proofs.packing.packed_rows.Goals as goal

pub loop-j-preserved : goal.loop-j-preserved
loop-j-preserved c =
    let l = c.loop-j in
    let p = c.args.picture.now in
    let first = c.args.first in
    let here : l.j ≡ first + (l.j - first) = omega arith in
    let more : l.j - first + 1 ≡ l.j + 1 - first = omega arith in
    let pushed : c.put_row.new.bytes.items ≡ l.bytes.items ++ packed_row p l.j = c.in_ok-put_row.ensures in
    pushed ∙ ap (λ xs. xs ++ packed_row p l.j) l.invariant ∙ ap (λ k. packed_rows p first (l.j - first) ++ packed_row p k) here
    ∙ flat_map_range (packed_row p) first (l.j - first) ∙ ap (packed_rows p first) more
