-- The entries so far give the commands, and what is in force is as after them.
use Rattle.std.proofs.Common.{◌≡◌, map, take}
use Rattle.serde_json.specs.View.{view}
use Rattle.escpos_receipt.specs.Describes.{Give}
use Rattle.escpos_receipt.specs.Entries.{in_force}
use Rattle.escpos_receipt.proofs.json.read_values.Given as goal

abbrev pub invariant-loop-at : goal.invariant-loop-at
invariant-loop-at g l = record {
  so_far : Give l.options (map view (take l.at l.values)) (g.T.ReadAs.commands l.given.items);
  in_force : l.in_force ≡ in_force l.options (map view (take l.at l.values)) (g.T.ReadAs.commands l.given.items);
}
