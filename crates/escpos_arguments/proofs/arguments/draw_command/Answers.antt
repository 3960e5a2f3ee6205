use Rattle.std.proofs.Common.{◌≡◌, ◌∙◌, ap, ap₂, codes}
use Rattle.clap.specs.Words.{App, app_of, new_app, with_rule}
use Rattle.escpos_arguments.specs.Arguments.{flag_rule, width_rule}
use Rattle.escpos_arguments.proofs.arguments.draw_command.Goals as goal

pub returns : goal.returns
returns c =
    let app_is : app_of c.in_ok-command.command ≡ with_rule (with_rule (with_rule (new_app (codes "draw")) (flag_rule (codes "raw"))) (flag_rule (codes "pass"))) width_rule =
    c.in_ok-command.ensures.shape c.option.ensures.local
    ∙ ap₂ with_rule (c.in_ok-arg-2.ensures.shape c.flag-2.ensures.local
    ∙ ap₂ with_rule (c.in_ok-arg.ensures.shape c.flag.ensures.local
    ∙ ap₂ with_rule c.new.ensures.app c.flag.ensures.rule) c.flag-2.ensures.rule) c.option.ensures.rule in
    record { shape = ap (λ (a : App). a.top) app_is }
