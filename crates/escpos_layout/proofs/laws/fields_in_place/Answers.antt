use Rattle.std.proofs.Common.{◌∷◌}
use Rattle.std.proofs.lemmas.Grind.{flat_map-append}
use Rattle.escpos_layout.specs.Layouts.{field_text}
use Rattle.escpos_layout.proofs.laws.fields_in_place.Goals as goal

pub returns : goal.returns
returns c = λ before field after. flat_map-append field_text before (field ∷ after)
