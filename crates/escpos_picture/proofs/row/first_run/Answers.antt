use Rattle.escpos_picture.proofs.FirstRun.{first_run_of}
use Rattle.escpos_picture.proofs.row.first_run.Goals as goal

pub returns-clause-run : goal.returns-clause-run
returns-clause-run c = rw c.same_count.ensures.value (first_run_of c.args.cells.now _ c.requires)
