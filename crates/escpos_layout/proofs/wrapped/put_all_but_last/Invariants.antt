-- The lines so far are written.
use Rattle.std.proofs.Common.{◌-◌, length}
use Rattle.escpos_layout.specs.Begun.{AreBegun}
use Rattle.escpos_layout.proofs.wrapped.put_all_but_last.Given as goal

abbrev pub invariant-loop-line : goal.invariant-loop-line
invariant-loop-line l =
    AreBegun l.side l.columns l.text l.initial.encoding l.initial.out.items l.out.items l.encoding l.line

abbrev pub decreases-loop-line : goal.decreases-loop-line
decreases-loop-line l = length l.text - l.line.next
