-- What a line in memory did is what a wire does, by its own definition.
use Rattle.std.proofs.Common.{refl, subst}
use Rattle.escpos_till_model.specs.Bridge.{OnWire}
use Rattle.escpos_till_model.proofs.laws.a_line_in_memory_is_like_its_wire.Goals as goal

pub returns : goal.returns
returns c = λ old new deed wire on did is. (new, subst (λ w. OnWire w deed new) is did, refl)
