-- The fields so far are written.
use Rattle.std.proofs.Common.{take}
use Rattle.escpos_text.specs.Writing.{written}
use Rattle.escpos_layout.specs.Layouts.{row}
use Rattle.escpos_layout.specs.Writing.{WritesAs}
use Rattle.escpos_layout.proofs.fields.put_fields.Given as goal

abbrev pub invariant-loop-field : goal.invariant-loop-field
invariant-loop-field l =
    WritesAs (written l.initial.encoding (row (take l.field-index l.fields))) l.initial.encoding l.initial.out.items l.out.items l.encoding
