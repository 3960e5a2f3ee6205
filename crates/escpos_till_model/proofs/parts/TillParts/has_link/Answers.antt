use Rattle.std.proofs.Common.{◌∙◌, sym, ap}
use Rattle.escpos_till_model.proofs.parts.TillParts.has_link.Goals as goal

pub returns-clause-linked : goal.returns-clause-linked
returns-clause-linked c = λ t. (c.in-Some.machine, ap (λ x. x.machine) (sym c.self.view_is) ∙ c.in-Some.is, c.is_linked.ensures.0 t)
