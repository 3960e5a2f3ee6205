use Rattle.escpos_image.proofs.PlainFormats.{plain_gray_is_read, plain_colour_is_read}
use Rattle.escpos_image.proofs.PlainBitmaps.{plain_bitmap_is_read}
use Rattle.escpos_image.proofs.laws.plain_pictures_are_read.Goals as goal

pub returns-clause-bitmap : goal.returns-clause-bitmap
returns-clause-bitmap c = plain_bitmap_is_read

pub returns-clause-gray : goal.returns-clause-gray
returns-clause-gray c = plain_gray_is_read

pub returns-clause-colour : goal.returns-clause-colour
returns-clause-colour c = plain_colour_is_read
