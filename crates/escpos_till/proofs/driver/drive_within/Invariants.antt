-- So far it is a run, with one deed each time; if it has any, the machine asks for more.
use Rattle.std.proofs.Common.{◌≡◌, ◌-◌, ◌≤◌, ◌⊎◌}
use Rattle.escpos_till.specs.Driver.{RanQuietly}
use Rattle.escpos_till.specs.Machine.{Rests}
use Rattle.escpos_till.specs.Surroundings.{Did}
use Rattle.escpos_till.proofs.driver.drive_within.Given as goal

abbrev pub invariant-loop-left : goal.invariant-loop-left
invariant-loop-left g l = record {
  ran : RanQuietly (Did g.S.Store.faithful g.S.Store.holds g.S.Store.leaves g.S.Store.says g.L.PrinterLine.did) l.fn.machine l.fn.around l.machine l.around (l.fn.left - l.left);
  within : l.left ≤ l.fn.left;
  on : ((l.machine ≡ l.fn.machine) × (l.around ≡ l.fn.around)) ⊎ (Rests l.machine.stage → ⊥);
}

abbrev pub decreases-loop-left : goal.decreases-loop-left
decreases-loop-left g l = l.left
