use Rattle.std.proofs.Common.{sym, ◌∙◌, ap, refl}
use Rattle.escpos_command.specs.declared.command.Command.TheVariants.{Set}
use Rattle.escpos_command.specs.Tree.{leaf}
use Rattle.escpos_decode.proofs.Letters.{followed}
use Rattle.escpos_decode.proofs.state.setting_parameter.Goals as goal

pub returns-in-Some : goal.returns-in-Some
returns-in-Some c = λ read.
    let whole = c.in-Some.ensures in (followed c.args.kind c.args.byte c.requires whole.0 ∙ ap (λ s. leaf (Set s)) (sym whole.1), refl)
