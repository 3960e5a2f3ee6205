-- The texts of the script's lines so far are out or kept back, and no failure of the sink is hidden.
use Rattle.std.proofs.Common.{ℕ, ◌≡◌, ◌≢◌, ◌+◌, ◌≤◌, Err, List, length, IsTrue}
use Rattle.escpos_io.specs.Gather.{Carries}
use Rattle.escpos_script.specs.ScriptSteps.{LinesGo}
use Rattle.escpos_script.specs.declared.play.ScriptEnd.TheVariants as ScriptEnd
use Rattle.escpos_script.proofs.Plays.{Counted}
use Rattle.escpos_script.proofs.play.play_lines.Given as goal

abbrev pub invariant-loop-end : goal.invariant-loop-end
invariant-loop-end g l = record {
  told : (text : List ℕ) × (go : LinesGo l.end l.script l.rest l.fn.sim text l.sim) × Counted l.end l.number (length go.texts)
      × Carries (g.W.ByteOut.written l.fn.output) (g.W.ByteOut.written l.output) l.gather text;
  few : l.number + length l.rest ≤ length l.script;
  width : l.sim.printer.sheet.line_dots ≡ l.fn.sim.printer.sheet.line_dots;
  no_device : l.end ≢ Err ScriptEnd.Device;
  well : ¬ IsTrue (g.W.ByteOut.failed l.fn.output) → ¬ IsTrue (g.W.ByteOut.failed l.output);
}

abbrev pub decreases-loop-end : goal.decreases-loop-end
decreases-loop-end g l = length l.rest
