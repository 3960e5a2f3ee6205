-- All bytes so far stand as they are.
use Rattle.std.proofs.Common.{◌≡◌, take, true}
use Rattle.std.specs.List.{list_all}
use Rattle.escpos_picture.specs.Characters.{stands_as_it_is}
use Rattle.escpos_picture.proofs.qr.plain_len.Given as goal

abbrev pub invariant-loop-place : goal.invariant-loop-place
invariant-loop-place l = list_all stands_as_it_is (take l.place l.content) ≡ true
