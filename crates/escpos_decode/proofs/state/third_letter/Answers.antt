use Rattle.escpos_decode.proofs.Letters.{no_third}
use Rattle.escpos_decode.proofs.state.third_letter.Goals as goal

pub returns-in-None : goal.returns-in-None
returns-in-None c = λ read. no_third c.args.first c.args.second c.args.third c.requires c.in-None.ensures read
