-- What is drawn so far, and then the characters that are left, make the whole.
use Rattle.std.proofs.Common.{◌≡◌, ◌∷◌, drop}
use Rattle.std.specs.Prelude.{flat_map}
use Rattle.escpos_barcode.specs.Pen.{draw}
use Rattle.escpos_barcode.specs.Tables.{row, codabar_table}
use Rattle.escpos_barcode.specs.Elements.{upper}
use Rattle.escpos_barcode.proofs.spaced.draw_codabar.Given as goal

abbrev pub invariant-loop-byte : goal.invariant-loop-byte
invariant-loop-byte l = draw l.initial.pen (flat_map (λ t. 1 ∷ row codabar_table (upper t)) l.more) ≡ draw l.pen (flat_map (λ t. 1 ∷ row codabar_table (upper t)) (drop l.byte-index l.more))
