use Rattle.escpos_barcode.proofs.BarLast.{drawn_odd}
use Rattle.escpos_barcode.proofs.AllRuns.{drawn_runs}
use Rattle.escpos_barcode.proofs.laws.bars_fit.Goals as goal

pub returns-clause-odd : goal.returns-clause-odd
returns-clause-odd c = drawn_odd

pub returns-clause-runs : goal.returns-clause-runs
returns-clause-runs c = drawn_runs
