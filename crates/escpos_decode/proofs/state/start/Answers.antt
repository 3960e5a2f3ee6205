use Rattle.std.proofs.Common.{◌∷◌, [], refl}
use Rattle.escpos_command.specs.declared.command.Command.TheVariants as kind
use Rattle.escpos_decode.specs.declared.state.State.TheVariants as state
use Rattle.escpos_command.proofs.TableTree.{at_form, leads_character}
use Rattle.escpos_decode.proofs.Letters.{at_start, moves, ends}
use Rattle.std.proofs.Common.{◌∙◌, sym, ap}
use Rattle.escpos_command.specs.Tree.{leaf}
use Rattle.escpos_decode.proofs.state.start.Goals as goal

pub returns-in-9 : goal.returns-in-9
returns-in-9 c = λ read. (ends state.Start read c.args.byte 9 kind.Tab c.in-9.is (at_start read) (at_form (9 ∷ []) refl), refl)

pub returns-in-10 : goal.returns-in-10
returns-in-10 c = λ read. (ends state.Start read c.args.byte 10 kind.LineFeed c.in-10.is (at_start read) (at_form (10 ∷ []) refl), refl)

pub returns-in-13 : goal.returns-in-13
returns-in-13 c = λ read. (ends state.Start read c.args.byte 13 kind.Return c.in-13.is (at_start read) (at_form (13 ∷ []) refl), refl)

pub returns-in-16 : goal.returns-in-16
returns-in-16 c = λ read. (moves state.Start state.Dle read c.args.byte 16 c.in-16.is (at_start read) refl refl refl refl, refl)

pub returns-in-27 : goal.returns-in-27
returns-in-27 c = λ read. (moves state.Start state.Esc read c.args.byte 27 c.in-27.is (at_start read) refl refl refl refl, refl)

pub returns-in-29 : goal.returns-in-29
returns-in-29 c = λ read. (moves state.Start state.Gs read c.args.byte 29 c.in-29.is (at_start read) refl refl refl refl, refl)

pub returns-in-Some : goal.returns-in-Some
returns-in-Some c = λ read.
    let whole = c.in-Some.ensures in
    (ends state.Start read c.args.byte c.args.byte (kind.Char c.args.byte) refl (at_start read) (leads_character c.args.byte whole.0) ∙ ap (λ b. leaf (kind.Char b)) (sym whole.1), refl)
