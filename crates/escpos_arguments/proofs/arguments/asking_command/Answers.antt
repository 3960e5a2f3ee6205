use Rattle.std.proofs.Common.{◌≡◌, ◌∙◌, ap, ap₂, false, codes}
use Rattle.clap.specs.Words.{App, app_of, new_app, with_rule}
use Rattle.escpos_arguments.specs.Arguments.{address_rule, option_rule}
use Rattle.escpos_arguments.proofs.arguments.asking_command.Goals as goal

pub returns : goal.returns
returns c =
    let app_is : app_of c.in_ok-command.command ≡ with_rule (with_rule (new_app c.args.name.now) address_rule) (option_rule (codes "wait") false) =
    c.in_ok-command.ensures.shape c.option.ensures.local
    ∙ ap₂ with_rule (c.in_ok-arg.ensures.shape c.address.ensures.local
    ∙ ap₂ with_rule c.new.ensures.app c.address.ensures.rule) c.option.ensures.rule in
    record { shape = ap (λ (a : App). a.top) app_is }
