use Rattle.std.proofs.Common.{◌≡◌, ◌∙◌, ap, ap₂, refl, true, codes}
use Rattle.clap.specs.Words.{app_of, with_subcommand}
use Rattle.clap.specs.Simple.{app_of_fields, on_top}
use Rattle.escpos_arguments.specs.Arguments.{asking_words}
use Rattle.escpos_arguments.specs.ProbeArguments.{probe_words}
use Rattle.escpos_arguments.proofs.TaskWords.{is_local}
use Rattle.escpos_arguments.proofs.probe.probe_command.Goals as goal

pub returns : goal.returns
returns c =
    let probe_is = c.in_ok-probe.ensures.shape in
    let probe_local = is_local c.in_ok-probe.probe (asking_words (codes "probe")) probe_is refl in
    let top_is = ap app_of_fields c.subcommand_required.ensures
    ∙ ap (on_top (λ s. record s { subcommand_required = true }))
    (ap app_of_fields c.disable_help_subcommand.ensures
    ∙ ap (on_top (λ s. record s { disable_help_subcommand = true }))
    (ap app_of_fields c.no_binary_name.ensures
    ∙ ap (on_top (λ s. record s { no_binary_name = true })) c.new.ensures.app)) in
    let app_is : app_of c.in_ok-command.command ≡ probe_words =
    c.in_ok-command.ensures.shape probe_local ∙ ap₂ with_subcommand top_is probe_is in
    record { shape = app_is }
