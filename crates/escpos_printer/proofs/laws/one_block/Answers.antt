use Rattle.escpos_printer.proofs.OneBlock.{same_others, at_most_one, unchanged, once_more, all_known}
use Rattle.escpos_printer.proofs.laws.one_block.Goals as goal

pub returns-clause-others : goal.returns-clause-others
returns-clause-others c = same_others

pub returns-clause-few : goal.returns-clause-few
returns-clause-few c = at_most_one

pub returns-clause-unchanged : goal.returns-clause-unchanged
returns-clause-unchanged c = unchanged

pub returns-clause-once_more : goal.returns-clause-once_more
returns-clause-once_more c = once_more

pub returns-clause-known : goal.returns-clause-known
returns-clause-known c = all_known
