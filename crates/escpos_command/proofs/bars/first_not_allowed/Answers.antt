use Rattle.std.proofs.Common.{◌∙◌, sym}
use Rattle.escpos_command.proofs.Bytewise.{all_before}
use Rattle.escpos_command.proofs.bars.first_not_allowed.Goals as goal

pub loop-place-preserved : goal.loop-place-preserved
loop-place-preserved c =
    all_before _ c.args.content.now c.loop-place.place c.loop-place-test.true c.loop-place.invariant (sym c.allows.ensures ∙ c.if-not-allows.false)
