use Rattle.escpos_io.proofs.Giving.{given_appended}
use Rattle.escpos_io.proofs.laws.given_in_place.Goals as goal

pub returns : goal.returns
returns c = given_appended
