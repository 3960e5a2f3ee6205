-- What continues a run is part of it.
use Rattle.std.proofs.Common.{◌∙◌, refl, sym, subst, arith, take-take}
use Rattle.escpos_paper.specs.Cells.{IsRun}
use Rattle.escpos_paper.proofs.Runs.{run_goes_on}
use Rattle.escpos_paper.proofs.cell.Cells.extend.Goals as goal

abbrev pub invariant_of-self : goal.invariant_of-self
invariant_of-self c =
    let begins = c.if-is_run.ensures refl in
    let now = take-take _ _ _ (omega arith) ∙ c.self-2.view_is ∙ c.loop-byte.invariant.so_far in
    (c.self-2.invariant.0, c.self-2.invariant.1, omega arith, subst IsRun (sym now) (run_goes_on _ c.args.self.now _ begins.0 begins.1))
