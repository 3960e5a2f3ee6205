-- All receipts are recorded, and nothing else is kept.
use Rattle.std.proofs.Common.{◌≡◌, [], arith, subst}
use Rattle.escpos_host.specs.declared.host.Stage.TheVariants as stage
use Rattle.escpos_host.specs.Kept.{view_of}
use Rattle.escpos_host.specs.Machine.{Down}
use Rattle.escpos_host.proofs.Views.{at_rest, new_fits}
use Rattle.escpos_host.proofs.host.Host.resume.Goals as goal

pub invariant_of-result : goal.invariant_of-result
invariant_of-result c =
    new_fits c.args.records.items c.len.result c.new.result.items c.new-2.result.items c.new-3.result c.new-4.result (omega arith) c.new.ensures c.new-2.ensures
    (λ rs. (c.new-3.ensures.within rs, c.new-3.ensures.unsent rs)) c.new-4.ensures

pub returns : goal.returns
returns c =
    subst (λ k. view_of stage.Down c.args.records.items c.len.result c.new.result.items c.new-2.result.items c.new-3.result c.new-4.result c.args.first_mark c.min.result
    ≡ record { phase = Down; out = []; half = []; next = c.args.first_mark; heard = k; records = c.args.records.items; left = [] }) c.min.ensures
    (at_rest c.args.records.items c.len.result c.new.result.items c.new-2.result.items c.new-3.result c.new-4.result c.args.first_mark c.min.result (omega arith) c.new-2.ensures
    c.new-3.ensures.unsent c.new-4.ensures)
