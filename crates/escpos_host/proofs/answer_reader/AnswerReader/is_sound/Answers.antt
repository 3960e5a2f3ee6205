use Rattle.std.proofs.Common.{◌≡◌, ◌⊎◌, [], subst}
use Rattle.escpos_command.specs.Answers.{HalfAnswer}
use Rattle.escpos_host.proofs.AnswerFronts.{front_or_nothing}
use Rattle.escpos_host.proofs.answer_reader.AnswerReader.is_sound.Goals as goal

pub returns : goal.returns
returns c = subst (λ h. (h ≡ []) ⊎ HalfAnswer h) c.self.view_is (front_or_nothing c.self.inside.bytes.items c.self.invariant)
