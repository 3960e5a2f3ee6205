use Rattle.escpos_command.proofs.AnswerReadings.{one_answer, no_prefix, first_byte, one_kind, one_hearing, joined, cut}
use Rattle.escpos_command.proofs.laws.answers.Goals as goal

pub returns-clause-one_answer : goal.returns-clause-one_answer
returns-clause-one_answer c = one_answer

pub returns-clause-no_prefix : goal.returns-clause-no_prefix
returns-clause-no_prefix c = no_prefix

pub returns-clause-first_byte : goal.returns-clause-first_byte
returns-clause-first_byte c = first_byte

pub returns-clause-one_kind : goal.returns-clause-one_kind
returns-clause-one_kind c = one_kind

pub returns-clause-one_hearing : goal.returns-clause-one_hearing
returns-clause-one_hearing c = one_hearing

pub returns-clause-joined : goal.returns-clause-joined
returns-clause-joined c = joined

pub returns-clause-cut : goal.returns-clause-cut
returns-clause-cut c = cut
