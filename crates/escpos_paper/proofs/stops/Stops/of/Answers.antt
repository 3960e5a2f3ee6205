use Rattle.std.proofs.Common.{◌<◌, ◌*◌, ◌++◌, ◌∷◌, [], length, map, take, arith, sym, ◌∙◌, ap}
use Rattle.std.proofs.lemmas.List.{take_more_set, map_more, length-set}
use Rattle.escpos_paper.proofs.stops.Stops.of.Goals as goal

pub loop-place-preserved : goal.loop-place-preserved
loop-place-preserved c =
    let l = c.loop-place in
    let inside : l.place < length l.dots = omega (arith, l.invariant.0, c.loop-place-test.true, c.as_slice-columns.ensures.few) in
    let stop = c.from.result * c.dots-width.result in (
      length-set l.dots l.place stop ∙ l.invariant.0,
      take_more_set l.dots l.place stop inside
          ∙ ap (λ t. t ++ stop ∷ []) l.invariant.1
          ∙ ap (λ n. map (λ m. m * c.dots-width.result) (take l.place c.as_slice-columns.result.now) ++ n * c.dots-width.result ∷ []) c.from.ensures
          ∙ sym (map_more (λ m. m * c.dots-width.result) c.as_slice-columns.result.now l.place 0 c.loop-place-test.true),
    )
