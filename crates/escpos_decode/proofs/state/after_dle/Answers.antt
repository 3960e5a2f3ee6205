use Rattle.std.proofs.Common.{◌≢◌, ◌∷◌, [], refl, rules}
use Rattle.escpos_decode.specs.declared.state.State.TheVariants as state
use Rattle.escpos_decode.specs.declared.one_parameter.OneParameter.TheVariants as letter
use Rattle.escpos_command.proofs.TableTree.{at_form}
use Rattle.escpos_decode.proofs.Letters.{moves, no_after_dle}
use Rattle.escpos_decode.proofs.state.after_dle.Goals as goal

pub returns-in-4 : goal.returns-in-4
returns-in-4 c = λ read. (moves state.Dle (state.Parameter letter.Status) read c.args.byte 4 c.in-4.is refl refl (at_form (16 ∷ 4 ∷ []) refl) refl refl, refl)

pub returns-in_default : goal.returns-in_default
returns-in_default c = λ read. let other : c.args.byte ≢ 4 = search rules in no_after_dle c.args.byte other read
