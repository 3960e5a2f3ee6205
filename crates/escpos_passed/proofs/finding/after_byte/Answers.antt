use Rattle.std.proofs.Common.{arith}
use Rattle.escpos_passed.proofs.Decided.{start_none}
use Rattle.escpos_passed.proofs.finding.after_byte.Goals as goal

pub returns-in-empty : goal.returns-in-empty
returns-in-empty c = start_none c.args.wanted c.args.bytes.now (omega (arith, c.in-empty.len_below))
