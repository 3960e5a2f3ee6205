-- By what a lookup tells.
use Rattle.std.proofs.Common.{◌∙◌, ap, nat_eq}
use Rattle.std.specs.Map.{lookup}
use lib.Pointwise.{pointwise}
use Rattle.escpos_till.proofs.keyed.Keys.number_with.Goals as goal
use Rattle.escpos_till.proofs.KeyedLemmas.{told_by_lookup}

pub returns : goal.returns
returns c = told_by_lookup c.args.self.now.items c.args.key.now c.copied.result
    (c.copied.ensures ∙ c.get.ensures.value ∙ ap (λ t. lookup (pointwise nat_eq c.args.key.now) t.items) c.self.view_is)
