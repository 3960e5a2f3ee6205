use Rattle.escpos_receipt.proofs.PrintedStrings.{printed_as_written}
use Rattle.escpos_receipt.proofs.laws.printed_as_written.Goals as goal

pub returns : goal.returns
returns c = printed_as_written (record {
  printed = c.printed_lines.ensures;
  wrapped = c.narrow_lines.ensures.wrapped;
  pairs = c.narrow_lines.ensures.pairs;
  rows = c.narrow_lines.ensures.rows;
  rules = c.narrow_lines.ensures.rules;
})
