use Rattle.std.proofs.Common.{ap, arith}
use Rattle.escpos_host.specs.Machine.{HostView}
use Rattle.escpos_link.proofs.Trusting.{begun}
use Rattle.escpos_link.proofs.WayKept.{begun_line}
use Rattle.escpos_link.proofs.sim.Sim.new.Goals as goal

pub invariant_of-result : goal.invariant_of-result
invariant_of-result c =
    let e = c.in_ok-line.ensures in (
      begun_line c.in_ok-line.line (ap (λ (h : HostView). h.half) e.host) e.waiting e.ended e.live e.coming,
      begun c.args.width c.in_ok-line.line _ _ (omega arith) e.host e.sheet e.half e.waiting e.ended e.live e.coming,
    )
