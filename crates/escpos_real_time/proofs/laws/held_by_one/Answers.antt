use Rattle.escpos_real_time.proofs.Starts.{command_starts, held_by_one}
use Rattle.escpos_real_time.proofs.laws.held_by_one.Goals as goal

pub returns : goal.returns
returns c = λ cs last is. held_by_one cs last (command_starts last is)
