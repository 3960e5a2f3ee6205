use Rattle.escpos_io.proofs.Giving.{piece_put}
use Rattle.escpos_io.proofs.laws.piece_put.Goals as goal

pub returns : goal.returns
returns c = piece_put
