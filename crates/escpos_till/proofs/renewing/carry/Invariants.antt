-- So far what is about later receipts is carried over, of the entries that were looked at.
use Rattle.std.proofs.Common.{◌≡◌, ◌-◌, length, take}
use Rattle.escpos_till.specs.Entries.{contents}
use Rattle.escpos_till.specs.Renewing.{Carried}
use Rattle.escpos_till.proofs.renewing.carry.Given as goal

abbrev pub invariant-loop-at : goal.invariant-loop-at
invariant-loop-at l = record {
  skip : l.skip ≡ l.last - l.first - length (contents (take l.at l.entries));
  carried : Carried l.last l.first (take l.at l.entries) l.new.items;
}
