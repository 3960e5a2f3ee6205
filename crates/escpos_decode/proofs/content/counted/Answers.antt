use Rattle.std.proofs.Common.{◌∙◌, sym, refl}
use Rattle.escpos_decode.proofs.Steps.{counted_goes, counted_last, counted_stops, one_fewer, some_are_left}
use Rattle.escpos_decode.proofs.content.counted.Goals as goal

pub returns-then-not-allows : goal.returns-then-not-allows
returns-then-not-allows c = counted_stops _ _ _ c.args.content.now c.args.byte c.requires (sym c.allows.ensures ∙ c.if-not-allows.true)

pub returns-then-wanted-eq1 : goal.returns-then-wanted-eq1
returns-then-wanted-eq1 c = (
  counted_last _ _ _ c.args.content.now c.args.byte c.if-wanted-eq1.true (sym c.allows.ensures ∙ c.if-not-allows.false),
  c.if-wanted-eq1.true,
)

pub returns-else-wanted-eq1 : goal.returns-else-wanted-eq1
returns-else-wanted-eq1 c = (
  record {
    below = counted_goes _ _ _ c.args.content.now c.args.byte c.requires (sym c.allows.ensures ∙ c.if-not-allows.false);
    same = refl;
    held = some_are_left c.args.wanted c.requires c.if-wanted-eq1.false;
    has = refl;
  },
  one_fewer c.args.wanted c.requires,
)
