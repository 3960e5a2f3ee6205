use Rattle.std.proofs.Common.{◌≡◌, ◌∙◌, ap, ap₂, refl, true}
use Rattle.clap.specs.Words.{app_of, with_subcommand}
use Rattle.clap.specs.Simple.{app_of_fields, on_top}
use Rattle.escpos_arguments.specs.TillArguments.{cancel_words, deliver_words, ledger_words, queue_words, till_words}
use Rattle.escpos_arguments.proofs.TaskWords.{is_local}
use Rattle.escpos_arguments.proofs.till.till_command.Goals as goal

pub returns : goal.returns
returns c =
    let queue_is = c.in_ok-queue.ensures.shape in
    let deliver_is = c.in_ok-deliver.ensures.shape in
    let cancel_is = c.in_ok-cancel.ensures.shape in
    let ledger_is = c.in_ok-ledger.ensures.shape in
    let queue_local = is_local c.in_ok-queue.queue queue_words queue_is refl in
    let deliver_local = is_local c.in_ok-deliver.deliver deliver_words deliver_is refl in
    let cancel_local = is_local c.in_ok-cancel.cancel cancel_words cancel_is refl in
    let ledger_local = is_local c.in_ok-ledger.ledger ledger_words ledger_is refl in
    let top_is = ap app_of_fields c.subcommand_required.ensures
    ∙ ap (on_top (λ s. record s { subcommand_required = true }))
    (ap app_of_fields c.disable_help_subcommand.ensures
    ∙ ap (on_top (λ s. record s { disable_help_subcommand = true }))
    (ap app_of_fields c.no_binary_name.ensures
    ∙ ap (on_top (λ s. record s { no_binary_name = true })) c.new.ensures.app)) in
    let app_is : app_of c.in_ok-command.command ≡ till_words =
    c.in_ok-command.ensures.shape ledger_local
    ∙ ap₂ with_subcommand (c.in_ok-subcommand-3.ensures.shape cancel_local
    ∙ ap₂ with_subcommand (c.in_ok-subcommand-2.ensures.shape deliver_local
    ∙ ap₂ with_subcommand (c.in_ok-subcommand.ensures.shape queue_local
    ∙ ap₂ with_subcommand top_is queue_is) deliver_is) cancel_is) ledger_is in
    record { shape = app_is }
