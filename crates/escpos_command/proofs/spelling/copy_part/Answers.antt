use Rattle.std.proofs.Common.{length, drop, arith, ◌-◌, length-drop}
use Rattle.std.proofs.lemmas.List.{drop_all}
use Rattle.escpos_command.proofs.Copied.{more}
use Rattle.escpos_command.proofs.spelling.copy_part.Goals as goal

pub returns-clause-joined : goal.returns-clause-joined
returns-clause-joined c = λ old done from copied skipped.
    more old c.args.out.now c.copy_from.new.out _ done c.args.part.now from c.args.filled c.args.skipped c.copy_from.result copied skipped c.copy_from.ensures c.requires
    (drop_all (length c.args.out.now - c.args.filled) (drop c.args.filled c.args.out.now) (omega (arith, length-drop c.args.filled c.args.out.now)))
