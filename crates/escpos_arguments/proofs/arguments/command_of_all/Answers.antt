use Rattle.std.proofs.Common.{◌≡◌, ◌∙◌, ap, ap₂, refl, codes}
use Rattle.clap.specs.Words.{App, Shape, app_of, with_subcommand}
use Rattle.escpos_arguments.specs.Arguments.{asking_words, command_words, emulate_words, loop_words, send_words}
use Rattle.escpos_arguments.proofs.TaskWords.{is_local}
use Rattle.escpos_arguments.proofs.arguments.command_of_all.Goals as goal

pub returns : goal.returns
returns c =
    let top : (a : App) → Shape = λ a. a.top in
    let emulate_is = c.in_ok-emulate.ensures.shape in
    let send_is = c.in_ok-send.ensures.shape in
    let status_is = c.in_ok-status.ensures.shape in
    let loop_is = c.in_ok-round.ensures.shape in
    let emulate_local = is_local c.in_ok-emulate.emulate emulate_words emulate_is refl in
    let send_local = is_local c.in_ok-send.send send_words send_is refl in
    let status_local = is_local c.in_ok-status.status (asking_words (codes "status")) status_is refl in
    let loop_local = is_local c.in_ok-round.round loop_words loop_is refl in
    let app_is : app_of c.in_ok-command.command ≡ command_words =
    c.in_ok-command.ensures.shape c.new.ensures.local
    ∙ ap₂ with_subcommand (c.in_ok-subcommand-3.ensures.shape loop_local
    ∙ ap₂ with_subcommand (c.in_ok-subcommand-2.ensures.shape status_local
    ∙ ap₂ with_subcommand (c.in_ok-subcommand.ensures.shape send_local
    ∙ ap₂ with_subcommand (c.in_ok-links.ensures.shape emulate_local
    ∙ ap₂ with_subcommand c.in_ok-streams.ensures.shape emulate_is) send_is) status_is) loop_is) (ap top c.new.ensures.app) in
    record { shape = app_is }
