-- One receipt after another is recorded and told.
use Rattle.std.proofs.Common.{◌≡◌, arith}
use Rattle.escpos_till.specs.Surroundings.{Did}
use Rattle.escpos_till_jobs.specs.declared.deliver.TheConstants.{MOST_ROUNDS}
use Rattle.escpos_till_jobs.specs.Outputs.{output_of}
use Rattle.escpos_till_jobs.proofs.Rounds.{at_most, none_so_far, one_more, round_ends}
use Rattle.escpos_till_jobs.proofs.deliver.deliver_waiting.Goals as goal

pub loop-init : goal.loop-init
loop-init g c = record {
  so_far = none_so_far (Did g.S.Store.faithful g.S.Store.holds g.S.Store.leaves g.S.Store.says g.L.PrinterLine.did) c.args.delivery.now c.args.machine.now c.args.around.now
      (output_of (g.W.ByteOut.written c.args.output.now) (g.W.ByteOut.failed c.args.output.now));
  well = λ well. well;
}

pub returns-in-Err-clause-delivers : goal.returns-in-Err-clause-delivers
returns-in-Err-clause-delivers g c =
    round_ends (Did g.S.Store.faithful g.S.Store.holds g.S.Store.leaves g.S.Store.says g.L.PrinterLine.did) c.args.delivery.now c.args.machine.now c.args.around.now
    (output_of (g.W.ByteOut.written c.args.output.now) (g.W.ByteOut.failed c.args.output.now)) c.loop.machine c.loop.around (output_of (g.W.ByteOut.written c.loop.output) (g.W.ByteOut.failed c.loop.output))
    c.deliver_next.new.machine c.deliver_next.new.around (output_of (g.W.ByteOut.written c.deliver_next.new.output) (g.W.ByteOut.failed c.deliver_next.new.output))
    c.in-Err.status c.loop.counter c.loop.invariant.so_far c.in-Err.ensures.ended

pub loop-preserved : goal.loop-preserved
loop-preserved g c =
    let goes = c.in_default.ensures.recorded in
    record {
      so_far = one_more (Did g.S.Store.faithful g.S.Store.holds g.S.Store.leaves g.S.Store.says g.L.PrinterLine.did) c.args.delivery.now c.args.machine.now c.args.around.now
          (output_of (g.W.ByteOut.written c.args.output.now) (g.W.ByteOut.failed c.args.output.now)) c.loop.machine c.loop.around (output_of (g.W.ByteOut.written c.loop.output) (g.W.ByteOut.failed c.loop.output))
          c.deliver_next.new.machine c.deliver_next.new.around (output_of (g.W.ByteOut.written c.deliver_next.new.output) (g.W.ByteOut.failed c.deliver_next.new.output))
          c.loop.counter c.loop.invariant.so_far goes;
      well = λ well. goes.told.well (c.loop.invariant.well well);
    }

pub returns-clause-delivers : goal.returns-clause-delivers
returns-clause-delivers g c =
    let all : c.loop.counter ≡ MOST_ROUNDS = omega (arith, c.loop.auto.counter-end, c.loop-test.false) in
    at_most (Did g.S.Store.faithful g.S.Store.holds g.S.Store.leaves g.S.Store.says g.L.PrinterLine.did) c.args.delivery.now c.args.machine.now c.args.around.now
    (output_of (g.W.ByteOut.written c.args.output.now) (g.W.ByteOut.failed c.args.output.now)) c.loop.machine c.loop.around (output_of (g.W.ByteOut.written c.loop.output) (g.W.ByteOut.failed c.loop.output))
    c.loop.counter c.loop.invariant.so_far all
