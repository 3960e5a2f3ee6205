use Rattle.std.proofs.Common.{◌≡◌, ◌+◌, ◌*◌, ◌<◌, ◌≤◌, length}
use Rattle.escpos_image.specs.Pictures.{after, dots_at, dots_of}
use Rattle.escpos_image.proofs.picture.read_dots.Given as goal

abbrev pub invariant-loop-left : goal.invariant-loop-left
invariant-loop-left l = record {
  so_far : after l.grays.items (dots_at l.header l.bytes l.left l.at l.column) ≡ dots_of l.header l.bytes;
  counted : length l.grays.items + l.left ≡ l.header.width * l.header.height;
  within : l.at ≤ length l.bytes;
  inside : l.column < l.header.width;
}

abbrev pub decreases-loop-left : goal.decreases-loop-left
decreases-loop-left l = l.left
