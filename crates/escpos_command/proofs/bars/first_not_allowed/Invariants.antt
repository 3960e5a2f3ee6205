use Rattle.std.proofs.Common.{◌≡◌, length, take, true}
use Rattle.escpos_command.specs.Barcodes.{allows, all_from}
use Rattle.escpos_command.proofs.bars.first_not_allowed.Given as goal

-- the bytes so far may stand where they do
abbrev pub invariant-loop-place : goal.invariant-loop-place
invariant-loop-place l = all_from 0 (allows l.symbology (length l.content)) (take l.place l.content) ≡ true
