use Rattle.std.proofs.Common.{◌≡◌, ◌++◌, [], sym, ap, ◌∙◌, append-nil, subst, IsTrue}
use Rattle.escpos_command.specs.Places.{reason_after}
use Rattle.escpos_command.specs.SettingTable.{table, row_for, row_prefix}
use Rattle.escpos_decode.specs.State.{prefix_of, has_content, holds}
use Rattle.escpos_decode.proofs.Letters.{reason_at_letters, reason_at_setting}
use Rattle.escpos_decode.proofs.state.State.reason.Goals as goal

pub returns-in-Setting : goal.returns-in-Setting
returns-in-Setting c =
    let none : c.args.content.now ≡ [] = c.requires.empty (ap has_content c.in-Setting.is) in
    sym (ap (λ v. reason_after (prefix_of c.args.self ++ v)) none ∙ ap (λ s. reason_after (prefix_of s ++ [])) c.in-Setting.is
    ∙ ap reason_after (append-nil (row_prefix (row_for table c.in-Setting.field-0))) ∙ reason_at_setting c.in-Setting.field-0)

pub returns-in-Letters : goal.returns-in-Letters
returns-in-Letters c =
    let none : c.args.content.now ≡ [] = c.requires.empty (ap has_content c.in-Letters.is) in
    sym (ap (λ v. reason_after (prefix_of c.args.self ++ v)) none ∙ ap (λ s. reason_after (prefix_of s ++ [])) c.in-Letters.is
    ∙ reason_at_letters c.in-Letters.first c.in-Letters.second (subst (λ s. IsTrue (holds s)) c.in-Letters.is c.requires.held))
