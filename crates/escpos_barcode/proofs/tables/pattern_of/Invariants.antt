-- The symbol isn't among the rows so far.
use Rattle.std.proofs.Common.{◌≡◌, drop}
use Rattle.escpos_barcode.specs.Tables.{row}
use Rattle.escpos_barcode.proofs.tables.pattern_of.Given as goal

abbrev pub invariant-loop-entry : goal.invariant-loop-entry
invariant-loop-entry g l = row l.table l.symbol ≡ row (drop l.entry-index l.table) l.symbol
