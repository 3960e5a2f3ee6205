-- So many entries are a ledger, and so many more aren't.
use Rattle.std.proofs.Common.{◌<◌, ◌≤◌, ◌-◌, length, take}
use Rattle.escpos_till.specs.Entries.{IsLedger}
use Rattle.escpos_c.proofs.till_texts.fault_place.Given as goal

abbrev pub invariant-loop-bad : goal.invariant-loop-bad
invariant-loop-bad l = (l.good < l.bad) × (l.bad ≤ length l.entries) × IsLedger (take l.good l.entries) × ¬ IsLedger (take l.bad l.entries)

abbrev pub decreases-loop-bad : goal.decreases-loop-bad
decreases-loop-bad l = l.bad - l.good
