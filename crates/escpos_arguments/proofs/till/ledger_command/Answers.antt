use Rattle.std.proofs.Common.{◌≡◌, ◌∙◌, ap, ap₂, false, codes}
use Rattle.clap.specs.Words.{App, app_of, new_app, with_rule}
use Rattle.escpos_arguments.specs.Arguments.{option_rule}
use Rattle.escpos_arguments.specs.TillArguments.{ledger_rule}
use Rattle.escpos_arguments.proofs.till.ledger_command.Goals as goal

pub returns : goal.returns
returns c =
    let app_is : app_of c.in_ok-command.command ≡ with_rule (with_rule (with_rule (new_app (codes "ledger")) ledger_rule) (option_rule (codes "first") false)) (option_rule (codes "renew") false) =
    c.in_ok-command.ensures.shape c.option-2.ensures.local
    ∙ ap₂ with_rule (c.in_ok-arg-2.ensures.shape c.option.ensures.local
    ∙ ap₂ with_rule (c.in_ok-arg.ensures.shape c.ledger_argument.ensures.local
    ∙ ap₂ with_rule c.new.ensures.app c.ledger_argument.ensures.rule) c.option.ensures.rule) c.option-2.ensures.rule in
    record { shape = ap (λ (a : App). a.top) app_is }
