use Rattle.escpos_picture.specs.Steps.{steps_text}
use Rattle.escpos_picture.specs.Rasters.{band_start, row_steps}
use Rattle.escpos_picture.proofs.RasterRows.{part_in_turn, part_in_the_front}
use Rattle.escpos_picture.proofs.raster.put_line.Goals as goal

pub returns-in_err-put_start : goal.returns-in_err-put_start
returns-in_err-put_start g c =
    part_in_the_front c.from_residual.result c.in_err-put_start.field-0.0 _ _ _ _ _ _ (steps_text (band_start c.args.line)) (steps_text (row_steps c.args.is_last c.args.row.now))
    c.from_residual.ensures.1 c.in_err-put_start.ensures

pub returns : goal.returns
returns g c =
    part_in_turn c.put_row.result _ _ _ _ _ _ _ _ _ _ _ _ (steps_text (band_start c.args.line)) (steps_text (row_steps c.args.is_last c.args.row.now))
    c.in_ok-put_start.ensures c.put_row.ensures
