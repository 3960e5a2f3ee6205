-- What the fields so far leave of the line.
use Rattle.std.proofs.Common.{◌≡◌, ◌+◌, take}
use Rattle.std.specs.List.{AllByRecursion}
use Rattle.std.specs.Prelude.{◌≤◌}
use Rattle.escpos_layout.specs.declared.row.Field.{Field}
use Rattle.escpos_layout.specs.Layouts.{row_width}
use Rattle.escpos_layout.proofs.row.fits_line.Given as goal

abbrev pub invariant-loop-field : goal.invariant-loop-field
invariant-loop-field l =
    (row_width (take l.field-index l.fields) + l.left ≡ l.fn.columns)
    × AllByRecursion (λ (field : Field). 1 ≤ field.width) (take l.field-index l.fields)
