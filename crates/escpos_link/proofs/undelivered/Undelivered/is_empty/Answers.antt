use Rattle.std.proofs.Common.{sym, ◌∙◌}
use Rattle.escpos_link.proofs.Moving.{empty_drop}
use Rattle.escpos_link.proofs.undelivered.Undelivered.is_empty.Goals as goal

pub returns : goal.returns
returns c =
    let e = empty_drop c.self.inside.bytes.items c.self.inside.delivered c.len.result c.self.invariant (c.len.ensures ∙ c.self.inside.bytes.ok.0) in
    (λ is. sym c.self.view_is ∙ e.0 is, λ none. e.1 (c.self.view_is ∙ none))
