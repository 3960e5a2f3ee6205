use Rattle.escpos_paper.proofs.FirstItems.{first_items}
use Rattle.escpos_paper.proofs.SecondItems.{items_of_first}
use Rattle.escpos_paper.proofs.laws.first_profile.Goals as goal

pub returns-clause-first : goal.returns-clause-first
returns-clause-first c = first_items

pub returns-clause-second : goal.returns-clause-second
returns-clause-second c = items_of_first
