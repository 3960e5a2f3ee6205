use Rattle.std.proofs.Common.{[]}
use Rattle.escpos_link.proofs.AfterPutting.{unmarked}
use Rattle.escpos_link.proofs.laws.fitting.Goals as goal

pub returns : goal.returns
returns c = λ receipt whole in_range. (unmarked [] receipt whole.in_place, in_range)
