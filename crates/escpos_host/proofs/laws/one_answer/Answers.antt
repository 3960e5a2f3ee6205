use Rattle.escpos_host.proofs.WholeAnswer.{one_answer_heard}
use Rattle.escpos_host.proofs.laws.one_answer.Goals as goal

pub returns : goal.returns
returns c = one_answer_heard (record {
  cut = c.answers.ensures.cut;
  one_hearing = c.answers.ensures.one_hearing;
  one_answer = c.answers.ensures.one_answer;
  no_prefix = c.answers.ensures.no_prefix;
})
