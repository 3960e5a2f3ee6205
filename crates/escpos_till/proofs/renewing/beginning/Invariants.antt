-- So far nothing is said but keys of an older ledger.
use Rattle.escpos_till.specs.Renewing.{SaysNothing}
use Rattle.escpos_till.proofs.renewing.beginning.Given as goal

abbrev pub invariant-loop-place : goal.invariant-loop-place
invariant-loop-place l = SaysNothing l.last l.new.items
