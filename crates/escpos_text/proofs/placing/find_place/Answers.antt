use Rattle.std.proofs.Common.{sym, ap, ◌∙◌, arith}
use Rattle.std.specs.Prelude.{ok_or}
use Rattle.escpos_text.specs.declared.encoding.TextFault.TheVariants.{NoCharacter}
use Rattle.escpos_text.proofs.FirstAnswers.{placed-control, placed-other}
use Rattle.escpos_text.proofs.placing.find_place.Goals as goal

pub returns-then-character-lt32 : goal.returns-then-character-lt32
returns-then-character-lt32 c = sym (placed-control c.args.encoding.now c.args.character (omega arith))

pub returns-in-Some : goal.returns-in-Some
returns-in-Some c =
    sym (placed-other c.args.encoding.now c.args.character (omega arith) ∙ ap (λ o. ok_or o (NoCharacter c.args.character)) (sym c.in-Some.ensures))

pub returns-in-None : goal.returns-in-None
returns-in-None c =
    sym (placed-other c.args.encoding.now c.args.character (omega arith) ∙ ap (λ o. ok_or o (NoCharacter c.args.character)) (sym c.in-None.ensures))
