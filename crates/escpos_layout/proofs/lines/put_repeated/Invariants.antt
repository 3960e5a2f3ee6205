-- The character is written so many times.
use Rattle.std.proofs.Common.{replicate}
use Rattle.escpos_text.specs.Writing.{written}
use Rattle.escpos_layout.specs.Writing.{WritesAs}
use Rattle.escpos_layout.proofs.lines.put_repeated.Given as goal

abbrev pub invariant-loop : goal.invariant-loop
invariant-loop l =
    WritesAs (written l.initial.encoding (replicate l.counter l.character)) l.initial.encoding l.initial.out.items l.out.items l.encoding
