use Rattle.escpos_paper.proofs.TypedLines.{feed_prints, feed_empties, feed_follows, feed_same_lines}
use Rattle.escpos_paper.proofs.laws.line_feeds.Goals as goal

pub returns-clause-prints : goal.returns-clause-prints
returns-clause-prints c = feed_prints

pub returns-clause-empties : goal.returns-clause-empties
returns-clause-empties c = feed_empties

pub returns-clause-follows : goal.returns-clause-follows
returns-clause-follows c = feed_follows

pub returns-clause-same_lines : goal.returns-clause-same_lines
returns-clause-same_lines c = feed_same_lines
