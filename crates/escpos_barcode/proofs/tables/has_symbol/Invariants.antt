-- The symbol isn't among the rows so far.
use Rattle.std.proofs.Common.{◌≡◌, drop}
use Rattle.escpos_barcode.specs.Tables.{has_row}
use Rattle.escpos_barcode.proofs.tables.has_symbol.Given as goal

abbrev pub invariant-loop-entry : goal.invariant-loop-entry
invariant-loop-entry g l = has_row l.table l.symbol ≡ has_row (drop l.entry-index l.table) l.symbol
