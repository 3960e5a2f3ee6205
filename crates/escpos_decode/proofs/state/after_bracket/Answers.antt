use Rattle.std.proofs.Common.{◌≢◌, ◌∷◌, [], refl, rules}
use Rattle.escpos_decode.specs.declared.state.State.TheVariants as state
use Rattle.escpos_command.proofs.TableTree.{at_form}
use Rattle.escpos_decode.proofs.Letters.{moves, no_after_bracket}
use Rattle.escpos_decode.proofs.state.after_bracket.Goals as goal

pub returns-in-72 : goal.returns-in-72
returns-in-72 c = λ read. (moves state.Bracket state.MarkLengthLow read c.args.byte 72 c.in-72.is refl refl (at_form (29 ∷ 40 ∷ 72 ∷ []) refl) refl refl, refl)

pub returns-in-76 : goal.returns-in-76
returns-in-76 c = λ read. (moves state.Bracket state.GraphicsLengthLow read c.args.byte 76 c.in-76.is refl refl (at_form (29 ∷ 40 ∷ 76 ∷ []) refl) refl refl, refl)

pub returns-in-107 : goal.returns-in-107
returns-in-107 c = λ read. (moves state.Bracket state.QrLengthLow read c.args.byte 107 c.in-107.is refl refl (at_form (29 ∷ 40 ∷ 107 ∷ []) refl) refl refl, refl)

pub returns-in_default : goal.returns-in_default
returns-in_default c = λ read.
    let mark : c.args.byte ≢ 72 = search rules in
    let code : c.args.byte ≢ 107 = search rules in
    let graphics : c.args.byte ≢ 76 = search rules in
    no_after_bracket c.args.byte mark code graphics read
