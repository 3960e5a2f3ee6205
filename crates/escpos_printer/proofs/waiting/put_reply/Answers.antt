use Rattle.std.proofs.Common.{ap, sym, ◌++◌, ◌∙◌}
use Rattle.std.specs.Option.{option_to_list}
use Rattle.escpos_printer.specs.Blocks.{with_one_block}
use Rattle.escpos_printer.proofs.OneBlock.{none_more}
use Rattle.escpos_printer.proofs.waiting.put_reply.Goals as goal

pub returns-in_default-clause-items : goal.returns-in_default-clause-items
returns-in_default-clause-items c =
    none_more c.args.waiting.now.items c.requires.may
    ∙ ap (λ v. with_one_block (c.args.waiting.now.items ++ v)) (ap option_to_list (sym c.in_default.is) ∙ c.reply.ensures)
