-- One byte of text for each byte so far.
use Rattle.std.proofs.Common.{◌≡◌, take, map}
use Rattle.escpos_barcode.specs.Shown.{printable}
use Rattle.escpos_barcode.proofs.text.printed.Given as goal

abbrev pub invariant-loop-byte : goal.invariant-loop-byte
invariant-loop-byte l = l.text.items ≡ map printable (take l.byte-index l.content)
