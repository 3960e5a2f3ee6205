use Rattle.std.proofs.Common.{◌∷◌, [], refl}
use Rattle.escpos_decode.specs.declared.state.State.TheVariants as state
use Rattle.escpos_command.specs.declared.parameter.position.PositionKind.TheVariants as position
use Rattle.escpos_decode.specs.declared.one_parameter.OneParameter.TheVariants as letter
use Rattle.escpos_command.proofs.TableTree.{at_form}
use Rattle.escpos_decode.proofs.Letters.{moves}
use Rattle.escpos_decode.proofs.state.after_gs.Goals as goal

pub returns-in-76 : goal.returns-in-76
returns-in-76 c = λ read. (moves state.Gs (state.PositionLow position.LeftMargin) read c.args.byte 76 c.in-76.is refl refl (at_form (29 ∷ 76 ∷ []) refl) refl refl, refl)

pub returns-in-87 : goal.returns-in-87
returns-in-87 c = λ read. (moves state.Gs (state.PositionLow position.AreaWidth) read c.args.byte 87 c.in-87.is refl refl (at_form (29 ∷ 87 ∷ []) refl) refl refl, refl)

pub returns-in-40 : goal.returns-in-40
returns-in-40 c = λ read. (moves state.Gs state.Bracket read c.args.byte 40 c.in-40.is refl refl refl refl refl, refl)

pub returns-in-56 : goal.returns-in-56
returns-in-56 c = λ read. (moves state.Gs state.LongLetter read c.args.byte 56 c.in-56.is refl refl (at_form (29 ∷ 56 ∷ []) refl) refl refl, refl)

pub returns-in-86 : goal.returns-in-86
returns-in-86 c = λ read. (moves state.Gs state.CutMode read c.args.byte 86 c.in-86.is refl refl (at_form (29 ∷ 86 ∷ []) refl) refl refl, refl)

pub returns-in-97 : goal.returns-in-97
returns-in-97 c = λ read. (moves state.Gs (state.Parameter letter.AutomaticStatus) read c.args.byte 97 c.in-97.is refl refl (at_form (29 ∷ 97 ∷ []) refl) refl refl, refl)

pub returns-in-107 : goal.returns-in-107
returns-in-107 c = λ read. (moves state.Gs state.BarsMode read c.args.byte 107 c.in-107.is refl refl (at_form (29 ∷ 107 ∷ []) refl) refl refl, refl)

pub returns-in-118 : goal.returns-in-118
returns-in-118 c = λ read. (moves state.Gs state.RasterFunction read c.args.byte 118 c.in-118.is refl refl (at_form (29 ∷ 118 ∷ []) refl) refl refl, refl)
