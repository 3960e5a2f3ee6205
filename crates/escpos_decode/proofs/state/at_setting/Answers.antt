use Rattle.std.proofs.Common.{sym, ◌∙◌, ap, refl}
use Rattle.escpos_command.specs.declared.command.Command.TheVariants.{Set}
use Rattle.escpos_command.specs.Tree.{leaf}
use Rattle.escpos_decode.proofs.Letters.{alone, not_nothing, to_setting}
use Rattle.escpos_decode.proofs.state.at_setting.Goals as goal

pub returns-in-Some : goal.returns-in-Some
returns-in-Some c = λ p read b e at from.
    let whole = c.in-Some.ensures in (to_setting p read b c.args.kind e at ∙ alone c.args.kind whole.0 ∙ ap (λ s. leaf (Set s)) (sym whole.1), from)

pub returns-in-None : goal.returns-in-None
returns-in-None c = λ p read b e at from. (
  record { below = to_setting p read b c.args.kind e at; grown = e; held = not_nothing _ c.in-None.ensures; from = from },
  refl,
)
