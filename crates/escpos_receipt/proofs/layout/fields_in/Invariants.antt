-- The fields so far, and those of the other values, are those of the list.
use Rattle.std.proofs.Common.{◌≡◌, ◌++◌, drop}
use Rattle.std.specs.Prelude.{option_map}
use Rattle.serde_json.specs.View.{items_view}
use Rattle.escpos_receipt.specs.Entries.{each_of, field_in}
use Rattle.escpos_receipt.proofs.layout.fields_in.Given as goal

abbrev pub invariant-loop-value : goal.invariant-loop-value
invariant-loop-value l =
    each_of field_in (items_view l.values) ≡ option_map (λ fs. l.fields.items ++ fs) (each_of field_in (items_view (drop l.value-index l.values)))
