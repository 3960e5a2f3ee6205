use Rattle.std.proofs.Common.{◌≡◌, ℕ, ◌-◌, ◌<◌, ◌≤◌, length, slice_get, Some}
use Rattle.escpos_till.specs.declared.state.ReceiptState.{ReceiptState}
use Rattle.escpos_till.specs.States.{IsEnded}
use Rattle.escpos_till.proofs.state.next_waiting_from.Given as goal

abbrev pub invariant-loop-at : goal.invariant-loop-at
invariant-loop-at l = record {
  beyond : l.from ≤ l.at;
  within : l.at ≤ length l.states;
  passed : (k : ℕ) (s : ReceiptState) → l.from ≤ k → k < l.at → slice_get l.states k ≡ Some s → IsEnded s;
}

abbrev pub decreases-loop-at : goal.decreases-loop-at
decreases-loop-at l = length l.states - l.at
