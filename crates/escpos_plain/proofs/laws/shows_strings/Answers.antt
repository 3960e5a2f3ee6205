use Rattle.escpos_plain.proofs.Strings.{shows_strings}
use Rattle.escpos_plain.proofs.laws.shows_strings.Goals as goal

pub returns : goal.returns
returns c = shows_strings
