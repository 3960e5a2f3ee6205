use Rattle.std.proofs.Common.{◌≡◌, ◌∙◌, ap, ap₂, codes}
use Rattle.clap.specs.Words.{App, app_of, new_app, with_rule}
use Rattle.escpos_arguments.specs.TillArguments.{ledger_rule, number_rule}
use Rattle.escpos_arguments.proofs.till.cancel_command.Goals as goal

pub returns : goal.returns
returns c =
    let app_is : app_of c.in_ok-command.command ≡ with_rule (with_rule (new_app (codes "cancel")) ledger_rule) number_rule =
    c.in_ok-command.ensures.shape c.number_argument.ensures.local
    ∙ ap₂ with_rule (c.in_ok-arg.ensures.shape c.ledger_argument.ensures.local
    ∙ ap₂ with_rule c.new.ensures.app c.ledger_argument.ensures.rule) c.number_argument.ensures.rule in
    record { shape = ap (λ (a : App). a.top) app_is }
