-- The tables so far don't have the character.
use Rattle.std.proofs.Common.{◌≡◌, drop}
use Rattle.escpos_text.specs.Writing.{place_among}
use Rattle.escpos_text.proofs.placing.place_among.Given as goal

abbrev pub invariant-loop-table : goal.invariant-loop-table
invariant-loop-table l = place_among l.set l.tables l.character ≡ place_among l.set (drop l.table-index l.tables) l.character
