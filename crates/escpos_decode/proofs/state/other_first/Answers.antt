use Rattle.std.proofs.Common.{sym, ◌∙◌, refl}
use Rattle.escpos_command.proofs.Combinators.{both}
use Rattle.escpos_decode.specs.declared.state.State.TheVariants as state
use Rattle.escpos_decode.proofs.Letters.{at_start, moves, no_first}
use Rattle.escpos_decode.proofs.state.other_first.Goals as goal

pub returns-then-begins : goal.returns-then-begins
returns-then-begins c = λ read. (
  moves state.Start (state.First c.args.byte) read c.args.byte c.args.byte refl (at_start read) refl refl (both _ _ (sym c.begins.ensures ∙ c.if-begins.true) c.requires.no_form) refl,
  refl,
)

pub returns-else-begins : goal.returns-else-begins
returns-else-begins c = λ read. no_first c.args.byte c.requires.no_form c.requires.no_character (sym c.begins.ensures ∙ c.if-begins.false) read
