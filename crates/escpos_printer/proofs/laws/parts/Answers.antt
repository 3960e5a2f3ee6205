use Rattle.escpos_printer.proofs.LinksInParts.{in_parts}
use Rattle.escpos_printer.proofs.laws.parts.Goals as goal

pub returns : goal.returns
returns c = in_parts c.joined_readings.ensures.reading
