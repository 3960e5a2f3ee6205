use Rattle.escpos_io.proofs.Giving.{given_in_turn}
use Rattle.escpos_io.proofs.laws.given_in_turn.Goals as goal

pub returns : goal.returns
returns c = given_in_turn
