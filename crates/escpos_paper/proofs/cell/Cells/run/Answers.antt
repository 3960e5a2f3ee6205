-- As many cells as are known to be a run are there.
use Rattle.std.proofs.Common.{length, length-take, arith, ap}
use Rattle.escpos_paper.proofs.cell.Cells.run.Goals as goal

abbrev pub returns-clause-few : goal.returns-clause-few
returns-clause-few c = omega (arith, c.from.ensures, c.self.invariant.0, c.self.invariant.1, c.self.invariant.2, length-take c.self.inside.len c.self.inside.cells, ap length c.self.view_is)
