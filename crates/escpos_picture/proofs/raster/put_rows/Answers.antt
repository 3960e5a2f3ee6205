use Rattle.std.proofs.Common.{◌≡◌, ◌+◌, ◌-◌, ◌++◌, [], Ok, Err, refl, sym, ◌∙◌, ap, append-nil, length, arith, take, drop, ◌*◌}
use Rattle.std.proofs.lemmas.List.{length-take, length-drop}
use Rattle.escpos_io.proofs.Giving.{given_appended, given_in_turn, given_in_the_front}
use Rattle.escpos_picture.specs.Steps.{steps_text}
use Rattle.escpos_picture.specs.ByteSpans.{inner_rows_text}
use Rattle.escpos_picture.specs.Rasters.{rows_of, rows_text, band_start, row_steps}
use Rattle.escpos_picture.proofs.InnerRows.{inner_of_left, inner_inside, inner_wait, take_rest}
use Rattle.escpos_picture.proofs.RasterRows.{drawn_on, next_row, no_row}
use Rattle.escpos_picture.proofs.raster.put_rows.Goals as goal

pub loop-line-init : goal.loop-line-init
loop-line-init g c =
    let all : c.args.y - 0 ≡ c.args.y = omega arith in
    let rows = rows_text 0 (rows_of c.args.x (c.args.y - 0) c.args.dots.now) in
    record {
      so_far = record {
        done = [];
        given = given_appended _ _ _ _ _ (sym (append-nil c.args.gather.now.kept)) refl;
        whole_is = ap (λ n. rows_text 0 (rows_of c.args.x n c.args.dots.now)) (sym all) ∙ ap (λ t. t ++ rows) (sym c.new-spans.ensures);
      };
      few = c.requires.few;
      inside = omega arith;
    }

pub put_line-requires : goal.put_line-requires
put_line-requires g c =
    let few = c.loop-line.invariant.few in
    omega (arith, ap length c.row_and_rest.ensures.row, length-take c.args.x c.loop-line.rest.now, few)

pub returns-in_err-put_line : goal.returns-in_err-put_line
returns-in_err-put_line g c =
    let l = c.loop-line in
    let far = l.invariant.so_far in
    let device = c.in_err-put_line.field-0.0 in
    let done = c.in_err-put_line.ensures.done in
    let left = c.in_err-put_line.ensures.left in
    let text = steps_text (band_start l.line) ++ steps_text (row_steps c.ends_path.result c.row_and_rest.result.0.now) in
    let below = rows_text (l.line + 1) (rows_of c.args.x (c.args.y - (l.line + 1)) c.row_and_rest.result.1.now) in
    let next = next_row l.line c.args.x c.args.y c.ends_path.result l.rest.now _ _ c.loop-line-test.true c.ends_path.ensures c.row_and_rest.ensures.row c.row_and_rest.ensures.rest in
    let stopped = given_in_turn (Err device) _ _ _ _ _ _ _ _ _ far.done done (far.done ++ done) far.given c.in_err-put_line.ensures.given refl in
    given_in_the_front c.from_residual.result device _ _ _ (far.done ++ done) (left ++ below) _ c.from_residual.ensures.1 stopped
    (drawn_on far.done l.spans.text text below _ done left left (far.whole_is ∙ ap (λ t. far.done ++ (l.spans.text ++ t)) next) c.in_err-put_line.ensures.whole refl)

pub loop-line-preserved : goal.loop-line-preserved
loop-line-preserved g c =
    let l = c.loop-line in
    let far = l.invariant.so_far in
    let few = l.invariant.few in
    let more = c.loop-line-test.true in
    let done = c.in_ok-put_line.ensures.done in
    let left = c.in_ok-put_line.ensures.left in
    let text = steps_text (band_start l.line) ++ steps_text (row_steps c.ends_path.result c.row_and_rest.result.0.now) in
    let below = rows_text (l.line + 1) (rows_of c.args.x (c.args.y - (l.line + 1)) c.row_and_rest.result.1.now) in
    let next = next_row l.line c.args.x c.args.y c.ends_path.result l.rest.now _ _ more c.ends_path.ensures c.row_and_rest.ensures.row c.row_and_rest.ensures.rest in
    let most = c.inner_rows.ensures in
    let count = c.append_rows-count.result in
    let rows = inner_rows_text (rows_of c.args.x count c.row_and_rest.result.1.now) in
    let end : l.line + 1 + count ≡ l.line + (1 + count) = omega arith in
    let past = c.args.x * count in
    let tail : take (length c.row_and_rest.result.1.now - past) (drop past c.row_and_rest.result.1.now) ≡ drop past c.row_and_rest.result.1.now
    = take_rest past c.row_and_rest.result.1.now in
    record {
      so_far = record {
        done = far.done ++ done;
        given = given_in_turn (Ok tt) _ _ _ _ _ _ _ _ _ far.done done (far.done ++ done) far.given c.in_ok-put_line.ensures.given refl;
        whole_is = inner_wait _ (far.done ++ done) c.put_line.new.spans.text _ below rows _
            (drawn_on far.done l.spans.text text below _ done left c.put_line.new.spans.text (far.whole_is ∙ ap (λ t. far.done ++ (l.spans.text ++ t)) next)
            c.in_ok-put_line.ensures.whole c.in_ok-put_line.ensures.waits)
            (inner_of_left count c.inner_rows.result (l.line + 1) c.args.x c.args.y c.row_and_rest.result.1.now c.append_rows-count.ensures.most
            most.after_the_first most.within_the_band most.before_the_last
            ∙ ap (λ m. rows ++ rows_text m (rows_of c.args.x (c.args.y - m) (drop past c.row_and_rest.result.1.now))) end
            ∙ ap (λ r. rows ++ rows_text (l.line + (1 + count)) (rows_of c.args.x (c.args.y - (l.line + (1 + count))) r)) (sym tail))
            c.append_rows-count.ensures.text;
      };
      few = omega (arith, ap length c.row_and_rest.ensures.rest, length-drop c.args.x l.rest.now, few, ap length tail, length-drop past c.row_and_rest.result.1.now);
      inside = omega (arith, inner_inside count c.inner_rows.result (l.line + 1) c.args.y c.append_rows-count.ensures.most most.before_the_last (omega (arith, more)));
    }

pub returns : goal.returns
returns g c =
    let l = c.loop-line in
    let far = l.invariant.so_far in
    given_in_turn c.put_spans.result _ _ _ _ _ _ _ _ _ far.done l.spans.text _ far.given c.put_spans.ensures.given
    (far.whole_is ∙ ap (λ t. far.done ++ (l.spans.text ++ t)) (no_row l.line c.args.x c.args.y l.rest.now (omega (arith, c.loop-line-test.false)))
    ∙ ap (λ t. far.done ++ t) (append-nil l.spans.text))
