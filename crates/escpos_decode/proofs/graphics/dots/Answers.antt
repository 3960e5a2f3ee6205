use Rattle.std.proofs.Common.{refl}
use Rattle.escpos_decode.proofs.Steps.{counted_goes, counted_last, byte_passes, one_fewer, some_are_left}
use Rattle.escpos_decode.proofs.graphics.dots.Goals as goal

pub returns-then-wanted-eq1 : goal.returns-then-wanted-eq1
returns-then-wanted-eq1 c = λ read. (counted_last _ _ _ read c.args.byte c.if-wanted-eq1.true (byte_passes c.args.byte c.ranges.byte.fits), c.if-wanted-eq1.true)

pub returns-else-wanted-eq1 : goal.returns-else-wanted-eq1
returns-else-wanted-eq1 c = λ read. (
  record {
    below = counted_goes _ _ _ read c.args.byte c.requires (byte_passes c.args.byte c.ranges.byte.fits);
    same = refl;
    held = some_are_left c.args.wanted c.requires c.if-wanted-eq1.false;
    has = refl;
  },
  one_fewer c.args.wanted c.requires,
)
