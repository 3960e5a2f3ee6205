use Rattle.std.proofs.Common.{[], ◌∷◌}
use Rattle.escpos_passed.proofs.Decided.{start_more}
use Rattle.escpos_passed.proofs.finding.after_three.Goals as goal

pub returns-in-Start : goal.returns-in-Start
returns-in-Start c = start_more (c.args.first ∷ c.args.second ∷ []) (c.args.third ∷ []) c.args.bytes.now c.in-Start.ensures
