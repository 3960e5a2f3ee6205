use Rattle.escpos_io.proofs.Giving.{piece_stopped}
use Rattle.escpos_io.proofs.laws.piece_stopped.Goals as goal

pub returns : goal.returns
returns c = piece_stopped
