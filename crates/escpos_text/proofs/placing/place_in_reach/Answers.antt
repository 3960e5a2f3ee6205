use Rattle.std.proofs.Common.{sym, ap, ◌∙◌}
use Rattle.escpos_text.specs.Writing.{place_among}
use Rattle.escpos_text.proofs.FirstAnswers.{reach-first, reach-choice}
use Rattle.escpos_text.proofs.placing.place_in_reach.Goals as goal

pub returns-in-Some : goal.returns-in-Some
returns-in-Some c = sym (reach-first c.args.encoding.now c.args.character c.in-Some.place (sym c.in-Some.ensures))

pub returns-in-None : goal.returns-in-None
returns-in-None c =
    c.place_among.ensures
    ∙ ap (λ tables. place_among c.args.encoding.now.set tables c.args.character) c.tables.ensures.tables
    ∙ sym (reach-choice c.args.encoding.now c.args.character (sym c.in-None.ensures))
