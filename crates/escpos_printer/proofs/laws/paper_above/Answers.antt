use Rattle.escpos_printer.proofs.LinksInParts.{serves_under}
use Rattle.escpos_printer.proofs.laws.paper_above.Goals as goal

pub returns : goal.returns
returns c = serves_under c.paper_above.ensures
