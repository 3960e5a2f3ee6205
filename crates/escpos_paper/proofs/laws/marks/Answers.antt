use Rattle.std.proofs.Common.{◌∙◌, append-nil}
use Rattle.escpos_command.specs.declared.command.Command.TheVariants.{Mark}
use Rattle.escpos_paper.specs.Printed.{printed}
use Rattle.escpos_paper.proofs.Sheets.{printed-snoc}
use Rattle.escpos_paper.proofs.laws.marks.Goals as goal

pub returns : goal.returns
returns c = λ width cs id. printed-snoc width cs (Mark id) ∙ append-nil (printed width cs)
