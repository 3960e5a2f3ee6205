use Rattle.escpos_plain.proofs.AllCells.{all_cells}
use Rattle.escpos_plain.proofs.laws.all_cells.Goals as goal

pub returns : goal.returns
returns c = all_cells
