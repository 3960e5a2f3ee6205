-- The parts that are kept are those of the host's receipts.
use Rattle.std.proofs.Common.{ap}
use Rattle.escpos_host.specs.Machine.{HostView}
use Rattle.escpos_host.specs.Kept.{put_of}
use Rattle.escpos_host.specs.Out.{unsent}
use Rattle.escpos_host.proofs.Views.{well_placed, not_empty}
use Rattle.escpos_host.proofs.host.Host.has_out.Goals as goal

pub returns : goal.returns
returns c =
    let h = c.self.inside in
    let shown = ap (λ (v : HostView). v.out) c.self.view_is in
    not_empty c.is_empty.result (unsent (put_of h.receipts.items h.recorded h.closing.items) h.out) c.args.self.now.out shown
    (c.is_empty.ensures (put_of h.receipts.items h.recorded h.closing.items) (well_placed h.stage h.receipts.items h.recorded h.closing.items h.left.items h.out h.reader c.self.invariant))
