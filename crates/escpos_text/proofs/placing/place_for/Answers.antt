use Rattle.std.proofs.Common.{sym, ap, ◌∙◌}
use Rattle.std.specs.Prelude.{option_to_list}
use Rattle.escpos_text.specs.Writing.{or_else}
use Rattle.escpos_text.proofs.FirstAnswers.{ask_all, place-own, place-other}
use Rattle.escpos_text.proofs.placing.place_for.Goals as goal

pub returns-in-Some : goal.returns-in-Some
returns-in-Some c = sym (place-own c.args.encoding.now c.args.character c.in-Some.place (sym c.in-Some.ensures))

pub returns-in-Some-place_of_space : goal.returns-in-Some-place_of_space
returns-in-Some-place_of_space c =
    let e = c.args.encoding.now in
    sym (place-other e c.args.character (sym c.in-None.ensures) ∙ ap (λ o. or_else o (ask_all e (option_to_list e.replacement))) (sym c.in-Some-place_of_space.ensures))

pub returns-in-None-place_of_space : goal.returns-in-None-place_of_space
returns-in-None-place_of_space c =
    let e = c.args.encoding.now in
    c.place_of_replacement.ensures
    ∙ sym (place-other e c.args.character (sym c.in-None.ensures) ∙ ap (λ o. or_else o (ask_all e (option_to_list e.replacement))) (sym c.in-None-place_of_space.ensures))
