-- Piece after piece is heard.
use Rattle.std.proofs.Common.{◌≤◌, ◌++◌, arith, take, drop, length, length-take, length-drop, length-append}
use Rattle.escpos_host.proofs.Waiting.{brought_on, pulled_front, pulled_length, waited_on}
use Rattle.escpos_command.proofs.AnswerReadings.{joined}
use Rattle.escpos_host.proofs.send.await_event.Goals as goal

pub returns-in_default-clause-brought : goal.returns-in_default-clause-brought
returns-in_default-clause-brought g c =
    let fits = c.in-Ok.ensures.within in
    let kept = c.pull.auto.piece in
    let asked = c.min-asked.ensures in
    let room = c.loop-read.invariant.room in
    let short = length-take c.min-asked.result c.loop-read.piece in
    let within : c.in-Ok.count ≤ length c.pull.new.piece = omega (arith, fits, kept) in
    let whole = length-append c.pull.new.piece (drop c.min-asked.result c.loop-read.piece) in
    let most : c.in-Ok.count ≤ length (c.pull.new.piece ++ drop c.min-asked.result c.loop-read.piece) = omega (arith, within, whole) in
    let few : c.in-Ok.count ≤ 64 = omega (arith, fits, asked, room, short) in
    brought_on joined c.args.host.now c.loop-read.host c.hear-heard.new.host _ _ _ (take c.in-Ok.count c.pull.new.piece)
    (c.pull.new.piece ++ drop c.min-asked.result c.loop-read.piece) c.loop-read.read c.in-Ok.count c.hear-heard.result.consumed c.hear-heard.result.event
    c.loop-read.invariant.waited c.in-Ok.ensures.bytes (pulled_length c.in-Ok.count c.pull.new.piece within) c.in_default.not-None
    (rw (pulled_front c.in-Ok.count c.pull.new.piece (drop c.min-asked.result c.loop-read.piece) within) at c.hear-heard.ensures)
    (pulled_front c.in-Ok.count c.pull.new.piece (drop c.min-asked.result c.loop-read.piece) within) most few

pub loop-read-preserved : goal.loop-read-preserved
loop-read-preserved g c =
    let fits = c.in-Ok.ensures.within in
    let kept = c.pull.auto.piece in
    let asked = c.min-asked.ensures in
    let room = c.loop-read.invariant.room in
    let short = length-take c.min-asked.result c.loop-read.piece in
    let within : c.in-Ok.count ≤ length c.pull.new.piece = omega (arith, fits, kept) in
    record {
      up = c.loop-read.invariant.up;
      waited =
          waited_on joined c.args.host.now c.loop-read.host c.hear-heard.new.host _ _ _ (take c.in-Ok.count c.pull.new.piece)
          c.loop-read.read c.in-Ok.count c.hear-heard.result.consumed c.hear-heard.result.event c.loop-read.invariant.waited c.in-Ok.ensures.bytes
          (pulled_length c.in-Ok.count c.pull.new.piece within) c.in-None.is
          (rw (pulled_front c.in-Ok.count c.pull.new.piece (drop c.min-asked.result c.loop-read.piece) within) at c.hear-heard.ensures);
      within = let before = c.loop-read.invariant.within in omega (arith, fits, asked, before, short);
      room =
          let left = length-drop c.min-asked.result c.loop-read.piece in
          let both = length-append c.pull.new.piece (drop c.min-asked.result c.loop-read.piece) in omega (arith, kept, asked, room, short, left, both);
      pulls = let some = c.if-count-eq0.false in let counted = c.in-Ok.ensures.counted in let before = c.loop-read.invariant.pulls in grind (arith, some, counted, before);
      reader_well = λ well bad. let h = c.in-Ok.ensures.failed.0 bad in absurd cc;
    }
