use Rattle.std.proofs.Common.{◌∙◌, sym, refl, ap, arith}
use Rattle.escpos_command.specs.declared.command.Command.TheVariants.{Mark}
use Rattle.escpos_command.specs.Tree.{leaf}
use Rattle.escpos_decode.proofs.Steps.{counted_last, counted_stops}
use Rattle.escpos_decode.proofs.state.mark_fourth.Goals as goal

pub returns-then-not-is_mark_byte : goal.returns-then-not-is_mark_byte
returns-then-not-is_mark_byte c = λ read. counted_stops _ _ _ _ c.args.byte (omega arith) (sym c.is_mark_byte.ensures ∙ c.if-not-is_mark_byte.true)

pub returns : goal.returns
returns c = λ read. (
  counted_last _ _ _ _ c.args.byte refl (sym c.is_mark_byte.ensures ∙ c.if-not-is_mark_byte.false) ∙ ap (λ id. leaf (Mark id)) (sym c.in-Some.ensures.1),
  refl,
)
