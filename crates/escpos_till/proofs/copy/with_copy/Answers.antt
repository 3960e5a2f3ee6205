-- A receipt with the line of a copy before it is a receipt.
use Rattle.std.proofs.Common.{◌≡◌, ◌++◌, List, sym, ◌∙◌, ap, subst}
use Rattle.escpos_command.specs.declared.command.Command.{Command}
use Rattle.escpos_receipt.specs.Whole.{Whole}
use Rattle.escpos_till.specs.Copy.{IsCopyText, copy_line}
use Rattle.escpos_till.proofs.CopyLemmas.{copy_whole}
use Rattle.escpos_till.proofs.copy.with_copy.Goals as goal

pub unreachable-requires : goal.unreachable-requires
unreachable-requires c =
    let line : List Command = copy_line c.args.text.now in
    let items : c.push_all.new.commands.items ≡ line ++ c.args.receipt.now =
    c.in_ok-push_all.ensures
    ∙ ap (λ (front : List Command). front ++ c.commands.result.now) (c.in_ok-push_copy_line.ensures ∙ ap (λ (none : List Command). none ++ line) c.new-commands.ensures.items)
    ∙ ap (λ (rest : List Command). line ++ rest) c.commands.ensures.commands in
    let plain = (subst IsCopyText c.text.ensures.same c.text.ensures.is).plain in
    let no = c.in-Err.ensures.exact (subst Whole (sym items) (copy_whole c.args.text.now c.args.receipt.now plain c.commands.ensures.whole)) in
    cc
