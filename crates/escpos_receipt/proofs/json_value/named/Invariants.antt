-- No row so far has the name: what the rest of the table has for it is what the table has.
use Rattle.std.proofs.Common.{◌≡◌, drop}
use Rattle.escpos_receipt.proofs.Tables.{named_in}
use Rattle.escpos_receipt.proofs.json_value.named.Given as goal

abbrev pub invariant-loop-row : goal.invariant-loop-row
invariant-loop-row g l = record { so_far : named_in l.table l.name ≡ named_in (drop l.row-index l.table) l.name }
