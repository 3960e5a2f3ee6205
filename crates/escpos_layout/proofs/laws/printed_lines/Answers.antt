use Rattle.escpos_layout.proofs.LinesOnPaper.{printed_lines}
use Rattle.escpos_layout.proofs.laws.printed_lines.Goals as goal

pub returns : goal.returns
returns c = printed_lines (record {
  of_text = c.spelled.ensures.of_text;
  read = c.read_back.ensures.read;
  one_each = c.read_back.ensures.one_each;
  same = c.read_back.ensures.same;
  grow = c.styles_grow.ensures;
  typed_text = c.typed_text.ensures;
  feed_prints = c.line_feeds.ensures.prints;
  feed_empties = c.line_feeds.ensures.empties;
  feed_follows = c.line_feeds.ensures.follows;
  feed_same_lines = c.line_feeds.ensures.same_lines;
})
