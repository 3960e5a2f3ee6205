use Rattle.std.proofs.Common.{◌≡◌, ◌+◌, ◌*◌, ◌++◌, ◌∙◌, ap, suc, add-one, arith, take}
use Rattle.std.proofs.Math.Nat.{mul-suc}
use Rattle.escpos_picture.specs.ByteSpans.{inner_rows_text}
use Rattle.escpos_picture.specs.Rasters.{rows_of}
use Rattle.escpos_picture.proofs.InnerRows.{row_written, rows_written}
use Rattle.escpos_picture.proofs.short_row.append_equal_rows.Goals as goal

pub loop-count-preserved : goal.loop-count-preserved
loop-count-preserved c =
    let l = c.loop-count in
    let x = c.args.x in
    let waiting = take c.args.len c.args.bytes.now in
    let grown : x * (l.count + 1) ≡ x * l.count + x = ap (λ n. x * n) (add-one l.count) ∙ mul-suc x l.count in
    let way = l.invariant.way in
    let test = c.loop-count-test.true in
    let there = c.if-x-rest.true in
    let room = c.if-x-bytes.true in
    record {
      so_far = λ n. row_written (take l.end l.bytes) _ x n l.rest.now _ _ c.append_row-end.ensures.text c.split_at.ensures.front c.split_at.ensures.back
          ∙ l.invariant.so_far (suc n) ∙ ap (λ m. waiting ++ inner_rows_text (rows_of x m c.args.dots.now)) (omega arith);
      way = omega (arith, grown, way, there, c.split_at.ensures.back_len);
      few = omega (arith, test);
      room = omega (arith, room, l.invariant.room, c.append_row-end.ensures.len, c.split_at.ensures.front_len);
    }

pub returns-else-x-bytes-clause-text : goal.returns-else-x-bytes-clause-text
returns-else-x-bytes-clause-text c =
    let l = c.loop-count in
    rows_written _ _ c.args.x l.count l.rest.now c.args.dots.now (l.invariant.so_far 0)

pub returns-else-x-rest-clause-text : goal.returns-else-x-rest-clause-text
returns-else-x-rest-clause-text c =
    let l = c.loop-count in
    rows_written _ _ c.args.x l.count l.rest.now c.args.dots.now (l.invariant.so_far 0)

pub returns-after-loop-count-clause-text : goal.returns-after-loop-count-clause-text
returns-after-loop-count-clause-text c =
    let l = c.loop-count in
    rows_written _ _ c.args.x l.count l.rest.now c.args.dots.now (l.invariant.so_far 0)
