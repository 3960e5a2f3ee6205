use Rattle.std.proofs.Common.{◌-◌, ◌++◌, length, map, take, subst, arith}
use Rattle.escpos_command.specs.declared.command.Command.TheVariants.{Char}
use Rattle.escpos_decode.proofs.Streams.{length-rest}
use Rattle.escpos_decode.proofs.TextRuns.{text_more, text_place}
use Rattle.escpos_decode.proofs.reading.give_text.Goals as goal

pub loop-at-preserved : goal.loop-at-preserved
loop-at-preserved g c =
    let text = c.args.text.now in
    let at = c.loop-at.at in
    let fits = length-rest text at c.in-Ok.count c.loop-at.invariant.inside c.in-Ok.ensures.count.1 in
    record {
      taken = λ start cs placed before.
          subst (g.C.Consumer.accepted start (c.take_text.new.self, c.take_text.new.output)) (text_more cs text at c.in-Ok.count (length text - at) (omega (arith, fits)))
          (c.in-Ok.ensures.accepted start (cs ++ map Char (take at text)) (text_place cs text at c.args.place c.loop-at.invariant.inside placed) (c.loop-at.invariant.taken start cs placed before));
      inside = fits;
    }
