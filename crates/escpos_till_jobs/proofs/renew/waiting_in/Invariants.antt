-- So far those of the first states that wait are counted.
use Rattle.std.proofs.Common.{◌≡◌, take, count_by}
use Rattle.escpos_till_jobs.specs.Renewing.{is_waiting}
use Rattle.escpos_till_jobs.proofs.renew.waiting_in.Given as goal

abbrev pub invariant-loop-state : goal.invariant-loop-state
invariant-loop-state l = l.count ≡ count_by is_waiting (take l.state-index l.states)
