use Rattle.std.proofs.Common.{ltb, false}
use Rattle.std.proofs.lemmas.List.{get_or-map}
use Rattle.escpos_image.specs.Shading.{shaded}
use Rattle.escpos_image.proofs.laws.by_threshold.Goals as goal

pub returns : goal.returns
unfolding shaded
returns c threshold p k inside = get_or-map (λ gray. ltb gray threshold) p.grays k 0 false inside
