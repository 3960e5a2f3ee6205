use Rattle.std.proofs.Common.{refl}
use Rattle.std.specs.Fmt.{digits}
use Rattle.escpos_picture.specs.ByteSpans.{lengths_from}
use Rattle.escpos_picture.proofs.moves.white_lengths.Goals as goal

pub returns-clause-lengths : goal.returns-clause-lengths
unfolding digits lengths_from
returns-clause-lengths c = refl
