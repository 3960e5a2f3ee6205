use Rattle.escpos_text.proofs.CodeTables.{table-at}
use Rattle.escpos_text.proofs.tables.table_of.Goals as goal

pub returns-in-Some : goal.returns-in-Some
returns-in-Some c = table-at c.args.number c.in-Some.place c.in-Some.ensures
