use Rattle.escpos_text.proofs.CodeTables.{index-at}
use Rattle.escpos_text.proofs.tables.index_of.Goals as goal

pub returns-in-Some : goal.returns-in-Some
returns-in-Some c = index-at c.args.number c.in-Some.place c.in-Some.ensures
