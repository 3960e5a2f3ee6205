use Rattle.escpos_io.proofs.Carrying.{stops_in_front}
use Rattle.escpos_io.proofs.laws.stop_in_the_front.Goals as goal

pub returns : goal.returns
returns c = stops_in_front
