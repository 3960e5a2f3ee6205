use Rattle.std.proofs.Common.{sym, ap, ◌∙◌}
use Rattle.std.proofs.lemmas.List.{drop_all}
use Rattle.escpos_text.specs.Writing.{place_among}
use Rattle.escpos_text.proofs.FirstAnswers.{among-nil, among-here, among-later}
use Rattle.escpos_text.proofs.placing.place_among.Goals as goal

pub returns-in-Some : goal.returns-in-Some
returns-in-Some c =
    sym (c.loop-table.invariant ∙ among-here c.args.set c.args.character c.loop-table.table-index c.args.tables.now c.in-Some.place c.loop-table-test.true (sym c.in-Some.ensures))

pub loop-table-preserved : goal.loop-table-preserved
loop-table-preserved c = c.loop-table.invariant ∙ among-later c.args.set c.args.character c.loop-table.table-index c.args.tables.now c.loop-table-test.true (sym c.in-None.ensures)

pub returns : goal.returns
returns c =
    let over = drop_all c.loop-table.table-index c.args.tables.now c.loop-table-test.false in
    sym (c.loop-table.invariant ∙ ap (λ tables. place_among c.args.set tables c.args.character) over ∙ among-nil c.args.set c.args.character)
