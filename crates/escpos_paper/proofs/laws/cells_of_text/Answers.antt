use Rattle.escpos_paper.proofs.OneMore.{bytes_of_entries}
use Rattle.escpos_paper.proofs.Sheets.{empty_line}
use Rattle.escpos_paper.proofs.laws.cells_of_text.Goals as goal

pub returns-clause-bytes : goal.returns-clause-bytes
returns-clause-bytes c = bytes_of_entries

pub returns-clause-empty : goal.returns-clause-empty
returns-clause-empty c = empty_line
