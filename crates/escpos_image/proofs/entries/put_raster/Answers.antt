-- The pieces of an entry, one after another.
use Rattle.std.proofs.Common.{append_assoc}
use Rattle.escpos_image.specs.Entries.{raster_entry}
use Rattle.escpos_image.proofs.entries.put_raster.Goals as goal

pub returns : goal.returns
unfolding raster_entry
returns c =
    rw (
      c.in_ok-extend_from_slice-5.ensures.items,
      c.in_ok-extend_from_slice-4.ensures.items,
      c.as_bytes.ensures.value,
      c.in_ok-digits.ensures,
      c.in_ok-extend_from_slice-3.ensures.items,
      c.in_ok-put_number-2.ensures,
      c.in_ok-extend_from_slice-2.ensures.items,
      c.in_ok-put_number.ensures,
      c.in_ok-extend_from_slice.ensures.items,
    ) (simp append_assoc)
