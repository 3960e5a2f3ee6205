use Rattle.std.proofs.Common.{◌-◌, ◌++◌, length, take, subst, arith}
use Rattle.escpos_passed.specs.Reading.{text_tokens}
use Rattle.escpos_passed.proofs.Turns.{rest_length, text_more, text_place}
use Rattle.escpos_passed.proofs.reading.give_text.Goals as goal

pub loop-at-preserved : goal.loop-at-preserved
loop-at-preserved g c =
    let text = c.args.text.now in
    let at = c.loop-at.at in
    let fits = rest_length text at c.in-Ok.count c.loop-at.invariant.inside c.in-Ok.ensures.count.1 in
    record {
      taken = λ start ts placed before.
          subst (g.C.TokenConsumer.accepted start (c.take_text.new.self, c.take_text.new.output)) (text_more ts text at c.in-Ok.count (length text - at) (omega (arith, fits)))
          (c.in-Ok.ensures.accepted start (ts ++ text_tokens (take at text)) (text_place ts text at c.args.place c.loop-at.invariant.inside placed) (c.loop-at.invariant.taken start ts placed before));
      inside = fits;
    }
