use Rattle.escpos_link.proofs.laws.of_straight.Goals as goal

pub returns : goal.returns
returns c = record {
  whole_commands = c.whole_commands.ensures;
  one_answer = c.one_answer.ensures;
  leaves = c.whole_answers.ensures;
  one_hearing = c.answers.ensures.one_hearing;
  init = c.initialisation.ensures;
  marks = c.marks.ensures;
  ids = c.counted_marks.ensures.ids;
}
