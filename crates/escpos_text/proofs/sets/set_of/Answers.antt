use Rattle.std.proofs.Common.{arith}
use Rattle.escpos_text.specs.CharacterSets.{character_sets}
use Rattle.escpos_text.proofs.CharacterSets.{unknown_set, set-at}
use Rattle.escpos_text.proofs.sets.set_of.Goals as goal

pub returns-then-set-gt17 : goal.returns-then-set-gt17
returns-then-set-gt17 c = unknown_set c.args.set (omega arith)

pub returns : goal.returns
unfolding character_sets
returns c = set-at c.args.set c.from.result c.from.ensures (omega arith)
