use Rattle.std.proofs.Common.{◌∷◌, [], refl}
use Rattle.escpos_command.specs.declared.command.Command.TheVariants as kind
use Rattle.escpos_decode.specs.declared.state.State.TheVariants as state
use Rattle.escpos_command.specs.declared.parameter.position.PositionKind.TheVariants as position
use Rattle.escpos_decode.specs.declared.one_parameter.OneParameter.TheVariants as letter
use Rattle.escpos_command.proofs.TableTree.{at_form}
use Rattle.escpos_decode.proofs.Letters.{moves, ends}
use Rattle.escpos_decode.proofs.state.after_esc.Goals as goal

pub returns-in-36 : goal.returns-in-36
returns-in-36 c = λ read. (moves state.Esc (state.PositionLow position.Absolute) read c.args.byte 36 c.in-36.is refl refl (at_form (27 ∷ 36 ∷ []) refl) refl refl, refl)

pub returns-in-92 : goal.returns-in-92
returns-in-92 c = λ read. (moves state.Esc (state.PositionLow position.Relative) read c.args.byte 92 c.in-92.is refl refl (at_form (27 ∷ 92 ∷ []) refl) refl refl, refl)

pub returns-in-68 : goal.returns-in-68
returns-in-68 c = λ read. (moves state.Esc (state.TabStops 32 0) read c.args.byte 68 c.in-68.is refl refl (at_form (27 ∷ 68 ∷ []) refl) refl refl, refl)

pub returns-in-64 : goal.returns-in-64
returns-in-64 c = λ read. (ends state.Esc read c.args.byte 64 kind.Init c.in-64.is refl (at_form (27 ∷ 64 ∷ []) refl), refl)

pub returns-in-74 : goal.returns-in-74
returns-in-74 c = λ read. (moves state.Esc (state.Parameter letter.FeedUnits) read c.args.byte 74 c.in-74.is refl refl (at_form (27 ∷ 74 ∷ []) refl) refl refl, refl)

pub returns-in-100 : goal.returns-in-100
returns-in-100 c = λ read. (moves state.Esc (state.Parameter letter.FeedLines) read c.args.byte 100 c.in-100.is refl refl (at_form (27 ∷ 100 ∷ []) refl) refl refl, refl)

pub returns-in-112 : goal.returns-in-112
returns-in-112 c = λ read. (moves state.Esc state.PulsePin read c.args.byte 112 c.in-112.is refl refl (at_form (27 ∷ 112 ∷ []) refl) refl refl, refl)
