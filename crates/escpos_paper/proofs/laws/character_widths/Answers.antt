use Rattle.escpos_paper.proofs.Widths.{height_in_range, width_in_range}
use Rattle.escpos_paper.proofs.laws.character_widths.Goals as goal

pub returns-clause-least : goal.returns-clause-least
returns-clause-least c = λ cs. (width_in_range cs).least

pub returns-clause-most : goal.returns-clause-most
returns-clause-most c = λ cs. (width_in_range cs).most

pub returns-clause-least_height : goal.returns-clause-least_height
returns-clause-least_height c = λ cs. (height_in_range cs).least

pub returns-clause-most_height : goal.returns-clause-most_height
returns-clause-most_height c = λ cs. (height_in_range cs).most
