use Rattle.std.proofs.lemmas.List.{length-replicate}
use Rattle.escpos_layout.proofs.SidesOfLines.{wrap_narrow, pair_narrow, row_full}
use Rattle.escpos_layout.proofs.laws.narrow_lines.Goals as goal

pub returns-clause-wrapped : goal.returns-clause-wrapped
returns-clause-wrapped c = wrap_narrow

pub returns-clause-pairs : goal.returns-clause-pairs
returns-clause-pairs c = pair_narrow

pub returns-clause-rows : goal.returns-clause-rows
returns-clause-rows c = row_full

pub returns-clause-rules : goal.returns-clause-rules
returns-clause-rules c = λ columns character. length-replicate columns character
