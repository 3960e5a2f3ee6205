use Rattle.std.proofs.Common.{◌∙◌, sym, refl}
use Rattle.escpos_decode.proofs.Steps.{rising_ends, rising_goes, rising_stops, not_zero}
use Rattle.escpos_decode.proofs.content.tab_stop.Goals as goal

pub returns-then-byte-eq0 : goal.returns-then-byte-eq0
returns-then-byte-eq0 c = λ read. rising_ends _ _ _ read c.args.byte c.if-byte-eq0.true

pub returns-then-is_one_more : goal.returns-then-is_one_more
returns-then-is_one_more c = λ read. (
  record {
    below = rising_goes _ _ _ read c.args.byte c.ranges.byte.fits (not_zero c.args.byte c.if-byte-eq0.false) (sym c.is_one_more.ensures ∙ c.if-is_one_more.true);
    same = refl;
    held = refl;
    has = refl;
  },
  refl,
  refl,
)

pub returns-else-is_one_more : goal.returns-else-is_one_more
returns-else-is_one_more c = λ read.
    rising_stops _ _ _ read c.args.byte c.ranges.byte.fits (not_zero c.args.byte c.if-byte-eq0.false) (sym c.is_one_more.ensures ∙ c.if-is_one_more.false)
