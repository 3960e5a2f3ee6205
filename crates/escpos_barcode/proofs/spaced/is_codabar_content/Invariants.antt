-- What is left decides.
use Rattle.std.proofs.Common.{◌≡◌, length, drop}
use Rattle.escpos_command.specs.declared.bars.Symbology.TheVariants.{Codabar}
use Rattle.escpos_command.specs.Barcodes.{allows, all_from}
use Rattle.escpos_barcode.proofs.spaced.is_codabar_content.Given as goal

abbrev pub invariant-loop-place : goal.invariant-loop-place
invariant-loop-place l = all_from 0 (allows Codabar (length l.content)) l.content ≡ all_from l.place (allows Codabar (length l.content)) (drop l.place l.content)
