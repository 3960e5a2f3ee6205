use Rattle.escpos_paper.proofs.SecondItems.{second_items}
use Rattle.escpos_paper.proofs.laws.second_profile.Goals as goal

pub returns : goal.returns
returns c = second_items
