use Rattle.escpos_picture.proofs.Moving.{rows_move, bars_move, rasters_move, qr_codes_move, cuts_move}
use Rattle.escpos_picture.proofs.laws.items_move.Goals as goal

pub returns-clause-rows : goal.returns-clause-rows
returns-clause-rows c = rows_move

pub returns-clause-bars : goal.returns-clause-bars
returns-clause-bars c = bars_move

pub returns-clause-rasters : goal.returns-clause-rasters
returns-clause-rasters c = rasters_move

pub returns-clause-cuts : goal.returns-clause-cuts
returns-clause-cuts c = cuts_move

pub returns-clause-qr_codes : goal.returns-clause-qr_codes
returns-clause-qr_codes c = qr_codes_move
