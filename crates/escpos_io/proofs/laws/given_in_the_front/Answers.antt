use Rattle.escpos_io.proofs.Giving.{given_in_the_front}
use Rattle.escpos_io.proofs.laws.given_in_the_front.Goals as goal

pub returns : goal.returns
returns c = given_in_the_front
