use Rattle.escpos_link.proofs.Happening.{kept, left_kept, resumed_kept}
use Rattle.escpos_link.proofs.laws.every_line.Goals as goal

pub returns-clause-kept : goal.returns-clause-kept
returns-clause-kept c = kept (record { joined = c.answers.ensures.joined; leaves = c.whole_answers.ensures; fitting = record { replies = c.replies.ensures; one_block = c.one_block.ensures.known; change = c.change.ensures.known } })

pub returns-clause-leaves : goal.returns-clause-leaves
returns-clause-leaves c = left_kept (record { joined = c.answers.ensures.joined; leaves = c.whole_answers.ensures; fitting = record { replies = c.replies.ensures; one_block = c.one_block.ensures.known; change = c.change.ensures.known } })

pub returns-clause-resumes : goal.returns-clause-resumes
returns-clause-resumes c = resumed_kept
