use Rattle.std.proofs.Common.{◌+◌, ◌*◌, arith, []}
use Rattle.escpos_tcp_jobs.proofs.TornParts.{first_part, next_part}
use Rattle.escpos_tcp_jobs.proofs.emulate.serve_in_parts.Goals as goal

pub loop-init : goal.loop-init
loop-init g c =
    let served = c.serve_part-served.ensures.served in
    let few = c.serve_part-served.ensures.few in
    let within = (served.2 []).within in
    record {
      some = omega arith;
      most = omega arith;
      so_far = first_part c.args.printer.now c.serve_part-served.new.printer _ 16384 c.serve_part-served.result c.args.paper.now c.serve_part-served.new.paper served;
      few = omega (arith, few, within);
    }

pub loop-preserved : goal.loop-preserved
loop-preserved g c =
    let served = c.serve_part-part.ensures.served in
    let few = c.serve_part-part.ensures.few in
    let within = (served.2 []).within in
    let before = c.loop.invariant.few in
    let counted = c.loop-test.true in
    record {
      some = omega arith;
      most = omega (arith, counted);
      so_far =
          next_part c.parts.ensures c.args.printer.now c.loop.printer c.serve_part-part.new.printer _ _ _ _ _ _ (16384 * c.loop.counter) 16384 (16384 * (c.loop.counter + 1)) c.loop.served
          c.serve_part-part.result c.args.paper.now c.loop.paper c.serve_part-part.new.paper c.loop.invariant.so_far c.in-TooLong.is served (omega arith);
      few = omega (arith, few, within, before);
    }
