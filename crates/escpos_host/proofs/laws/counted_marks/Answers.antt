use Rattle.std.proofs.Common.{ap, arith}
use Rattle.escpos_command.specs.Digits.{mark_of}
use Rattle.escpos_host.proofs.laws.counted_marks.Goals as goal

pub returns-clause-first_round : goal.returns-clause-first_round
returns-clause-first_round c = λ n few. ap mark_of (omega (arith, few))
