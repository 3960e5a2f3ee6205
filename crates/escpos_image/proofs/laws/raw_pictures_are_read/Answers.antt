use Rattle.escpos_image.proofs.RawPictures.{raw_gray_is_read, wide_gray_is_read, raw_colour_is_read}
use Rattle.escpos_image.proofs.laws.raw_pictures_are_read.Goals as goal

pub returns-clause-gray : goal.returns-clause-gray
returns-clause-gray c = raw_gray_is_read

pub returns-clause-wide_gray : goal.returns-clause-wide_gray
returns-clause-wide_gray c = wide_gray_is_read

pub returns-clause-colour : goal.returns-clause-colour
returns-clause-colour c = raw_colour_is_read
