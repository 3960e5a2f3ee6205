use Rattle.std.proofs.Common.{refl}
use Rattle.std.specs.Fmt.{digits}
use Rattle.escpos_picture.specs.ByteSpans.{texts_from}
use Rattle.escpos_picture.proofs.moves.white_texts.Goals as goal

pub returns-clause-text : goal.returns-clause-text
unfolding digits texts_from
returns-clause-text c = refl
