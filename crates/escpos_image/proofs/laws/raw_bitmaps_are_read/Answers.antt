use Rattle.escpos_image.proofs.BitmapRows.{raw_bitmap_is_read}
use Rattle.escpos_image.proofs.laws.raw_bitmaps_are_read.Goals as goal

pub returns : goal.returns
returns c = raw_bitmap_is_read
