-- The stops are compared as slices.
use Rattle.std.proofs.Common.{ap, ◌∙◌, take}
use Rattle.escpos_paper.specs.PowerOn.{same_numbers}
use Rattle.escpos_paper.proofs.PowerOn.{slices_test}
use Rattle.escpos_paper.proofs.stops.Stops.are_usual.Goals as goal

pub returns-clause-value : goal.returns-clause-value
returns-clause-value c =
    let usual = take c.usual.inside.count c.usual.inside.dots in
    let e = ap (λ ns. same_numbers ns usual) c.self.view_is in
    let f = ap (λ ns. same_numbers c.args.self.now ns) (c.usual.view_is ∙ c.usual-usual.ensures) in
    c.eq.ensures ∙ slices_test (take c.self.inside.count c.self.inside.dots) usual ∙ e ∙ f
