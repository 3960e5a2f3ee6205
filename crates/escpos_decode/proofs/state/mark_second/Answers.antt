use Rattle.std.proofs.Common.{◌∙◌, sym, refl, arith}
use Rattle.escpos_decode.proofs.Steps.{counted_goes, counted_stops, both_pass}
use Rattle.escpos_decode.proofs.state.mark_second.Goals as goal

pub returns-then-is_mark_byte : goal.returns-then-is_mark_byte
returns-then-is_mark_byte c = λ read. (
  record {
    below = counted_goes _ _ _ _ c.args.byte (omega arith) (sym c.is_mark_byte.ensures ∙ c.if-is_mark_byte.true);
    grown = refl;
    held = both_pass _ _ c.requires (sym c.is_mark_byte.ensures ∙ c.if-is_mark_byte.true);
    from = refl;
  },
  refl,
)

pub returns-else-is_mark_byte : goal.returns-else-is_mark_byte
returns-else-is_mark_byte c = λ read. counted_stops _ _ _ _ c.args.byte (omega arith) (sym c.is_mark_byte.ensures ∙ c.if-is_mark_byte.false)
