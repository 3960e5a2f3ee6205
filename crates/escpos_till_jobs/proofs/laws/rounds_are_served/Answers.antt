-- By the number of rounds.
use Rattle.escpos_till_jobs.proofs.Rounds.{served_all}
use Rattle.escpos_till_jobs.proofs.laws.rounds_are_served.Goals as goal

pub returns : goal.returns
returns g c = λ delivery m mid old between before heard numbers rounds. served_all _ delivery m old before numbers mid between heard rounds
