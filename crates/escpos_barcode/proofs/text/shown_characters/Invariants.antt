-- The text so far and that of the characters that are left are the whole text.
use Rattle.std.proofs.Common.{◌≡◌, ◌≤◌, ◌*◌, length, drop}
use Rattle.std.proofs.Common.{◌++◌}
use Rattle.escpos_barcode.specs.declared.code128.CodeSet.TheVariants.{B}
use Rattle.escpos_barcode.specs.Shown.{shown_characters}
use Rattle.escpos_barcode.proofs.text.shown_characters.Given as goal

abbrev pub invariant-loop-character : goal.invariant-loop-character
invariant-loop-character l = record {
  whole : shown_characters B l.characters ≡ l.text.items ++ shown_characters l.set (drop l.character-index l.characters);
  short : length l.text.items ≤ 2 * l.character-index;
}
