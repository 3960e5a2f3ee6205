-- The numbers so far, and those of the other values, are those of the list.
use Rattle.std.proofs.Common.{◌≡◌, ◌++◌, drop, length}
use Rattle.std.specs.Prelude.{option_map}
use Rattle.serde_json.specs.View.{items_view}
use Rattle.escpos_receipt.specs.Entries.{numbers_in}
use Rattle.escpos_receipt.proofs.json_value.tables_in.Given as goal

abbrev pub invariant-loop-value : goal.invariant-loop-value
invariant-loop-value l = record {
  so_far : numbers_in (items_view l.values) ≡ option_map (λ ns. l.numbers.items ++ ns) (numbers_in (items_view (drop l.value-index l.values)));
  count : length l.numbers.items ≡ l.value-index;
}
