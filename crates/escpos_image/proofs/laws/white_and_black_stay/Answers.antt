use Rattle.escpos_image.proofs.WhiteAndBlack.{white_picture, black_picture}
use Rattle.escpos_image.proofs.laws.white_and_black_stay.Goals as goal

pub returns-clause-white : goal.returns-clause-white
returns-clause-white c = white_picture

pub returns-clause-black : goal.returns-clause-black
returns-clause-black c = black_picture
