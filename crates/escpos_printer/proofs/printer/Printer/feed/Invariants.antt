use Rattle.std.proofs.Common.{◌≤◌, ◌-◌, take, length}
use Rattle.escpos_printer.proofs.Taking.{TookSome}
use Rattle.escpos_printer.proofs.printer.Printer.feed.Given as goal

-- the bytes so far were taken
abbrev pub invariant-loop-consumed : goal.invariant-loop-consumed
invariant-loop-consumed l = record {
  inside : l.consumed ≤ length l.piece;
  took : TookSome l.fn.self (take l.consumed l.piece) l.self;
}

abbrev pub decreases-loop-consumed : goal.decreases-loop-consumed
decreases-loop-consumed l = length l.piece - l.consumed
