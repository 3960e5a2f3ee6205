use Rattle.std.proofs.Common.{◌≡◌, ◌∙◌, ap, ap₂, refl, true}
use Rattle.clap.specs.Words.{App, Shape, app_of, with_subcommand}
use Rattle.clap.specs.Simple.{app_of_fields, on_top}
use Rattle.escpos_arguments.specs.Arguments.{stream_words}
use Rattle.escpos_arguments.proofs.TaskWords.{is_local}
use Rattle.escpos_arguments.proofs.arguments.command_of_streams.Goals as goal

pub returns : goal.returns
returns c =
    let top : (a : App) → Shape = λ a. a.top in
    let top_is = ap app_of_fields c.subcommand_required.ensures
    ∙ ap (on_top (λ s. record s { subcommand_required = true }))
    (ap app_of_fields c.disable_help_subcommand.ensures
    ∙ ap (on_top (λ s. record s { disable_help_subcommand = true }))
    (ap app_of_fields c.no_binary_name.ensures
    ∙ ap (on_top (λ s. record s { no_binary_name = true })) c.new.ensures.app)) in
    let app_is : app_of c.in_ok-command.command ≡ stream_words =
    c.in_ok-command.ensures.shape c.new-2.ensures.local
    ∙ ap₂ with_subcommand (c.in_ok-subcommand-5.ensures.shape (is_local c.in_ok-image.image _ c.in_ok-image.ensures.shape refl)
    ∙ ap₂ with_subcommand (c.in_ok-subcommand-4.ensures.shape (is_local c.in_ok-encode.encode _ c.in_ok-encode.ensures.shape refl)
    ∙ ap₂ with_subcommand (c.in_ok-subcommand-3.ensures.shape (is_local c.in_ok-draw.draw _ c.in_ok-draw.ensures.shape refl)
    ∙ ap₂ with_subcommand (c.in_ok-subcommand-2.ensures.shape (is_local c.in_ok-render.render _ c.in_ok-render.ensures.shape refl)
    ∙ ap₂ with_subcommand (c.in_ok-subcommand.ensures.shape (is_local c.in_ok-check.check _ c.in_ok-check.ensures.shape refl)
    ∙ ap₂ with_subcommand top_is c.in_ok-check.ensures.shape) c.in_ok-render.ensures.shape) c.in_ok-draw.ensures.shape) c.in_ok-encode.ensures.shape) c.in_ok-image.ensures.shape) (ap top c.new-2.ensures.app) in
    record { shape = app_is }
