-- The values so far and those of the characters that are left are those of all.
use Rattle.std.proofs.Common.{◌≡◌, ◌≤◌, ◌+◌, ◌∷◌, [], length, drop, false}
use Rattle.escpos_barcode.specs.Chains.{joined}
use Rattle.escpos_barcode.specs.Code128.{start_value, values_after}
use Rattle.escpos_barcode.proofs.code128.values_from.Given as goal

abbrev pub invariant-loop-character : goal.invariant-loop-character
invariant-loop-character l = record {
  whole : joined (start_value l.fn.start ∷ []) (values_after l.fn.start false l.characters) ≡ joined l.values.items (values_after l.set l.after_shift (drop l.character-index l.characters));
  few : length l.values.items ≤ l.character-index + 1;
}
