use Rattle.std.proofs.Common.{take, IsTrue}
use Rattle.std.specs.List.{flat_map}
use Rattle.std.specs.Io.KnownBytes.{Appends}
use Rattle.escpos_help.specs.Help.{setting_line}
use Rattle.escpos_help.proofs.settings.put_rows.Given as goal

-- the lines of the rows so far are put
abbrev pub invariant-loop-row : goal.invariant-loop-row
invariant-loop-row g l = record {
  put : Appends (g.W.ByteOut.written l.fn.output) (g.W.ByteOut.written l.output) (flat_map setting_line (take l.row-index l.rows));
  not_failed : ¬ IsTrue (g.W.ByteOut.failed l.fn.output) → ¬ IsTrue (g.W.ByteOut.failed l.output);
}
