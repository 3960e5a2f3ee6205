use Rattle.escpos_command.proofs.Readings.{spelling_at_leaf, half_at_node, not_viable_at_dead}
use Rattle.escpos_command.proofs.laws.tree.Goals as goal

pub returns-clause-spelling : goal.returns-clause-spelling
returns-clause-spelling c = spelling_at_leaf

pub returns-clause-half : goal.returns-clause-half
returns-clause-half c = half_at_node

pub returns-clause-refused : goal.returns-clause-refused
returns-clause-refused c = not_viable_at_dead
