use Rattle.std.proofs.Common.{◌∙◌, subst}
use Rattle.std.specs.Prelude.{IsTrue}
use Rattle.escpos_command.specs.Parameters.{is_mark_id}
use Rattle.escpos_command.proofs.command.mark.Goals as goal

pub returns-clause-parameters : goal.returns-clause-parameters
returns-clause-parameters c = c.with_all.ensures.parameters ∙ c.bytes.ensures.kept

pub returns-clause-in_range : goal.returns-clause-in_range
returns-clause-in_range c = subst (λ id. IsTrue (is_mark_id id)) c.bytes.ensures.kept c.bytes.ensures.range
