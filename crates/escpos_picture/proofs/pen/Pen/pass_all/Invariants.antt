-- From here the items that are left lead to the place after all.
use Rattle.std.proofs.Common.{◌≡◌, drop}
use Rattle.escpos_picture.specs.Places.{place_after_all}
use Rattle.escpos_picture.proofs.pen.Pen.pass_all.Given as goal

abbrev pub invariant-loop-item : goal.invariant-loop-item
invariant-loop-item l = record { place : place_after_all l.initial.self l.items ≡ place_after_all l.self (drop l.item-index l.items) }
