-- the answers before the place are no blocks
use Rattle.std.proofs.Common.{◌≡◌, [], take}
use Rattle.escpos_printer.specs.Blocks.{blocks}
use Rattle.escpos_printer.proofs.waiting.block_place.Given as goal

abbrev pub invariant-loop-place : goal.invariant-loop-place
invariant-loop-place l = record { none : blocks (take l.place l.waiting.items) ≡ [] }
