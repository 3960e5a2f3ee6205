-- None of the versions so far holds the content.
use Rattle.std.proofs.Common.{◌≡◌, ◌+◌, length, drop}
use Rattle.escpos_barcode.specs.QrSizes.{first_that_holds, packing_of, data_bytes, version_of}
use Rattle.escpos_barcode.proofs.qr.qr_modules.Given as goal

abbrev pub invariant-loop-place : goal.invariant-loop-place
invariant-loop-place l = version_of l.fn.level l.content ≡ first_that_holds (packing_of l.content) (length l.content) (l.place + 1) (drop l.place (data_bytes l.fn.level))
