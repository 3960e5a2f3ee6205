use Rattle.std.proofs.Common.{arith}
use Rattle.escpos_text.proofs.NewChoices.{new_choice}
use Rattle.escpos_text.proofs.choice.Choice.of.Goals as goal

pub invariant_of-result : goal.invariant_of-result
invariant_of-result c = new_choice c.args.tables.now c.copy_from_slice.new.self c.copy_from_slice.ensures.after (omega arith)
