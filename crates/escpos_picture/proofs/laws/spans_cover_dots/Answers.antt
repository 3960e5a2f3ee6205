use Rattle.std.proofs.Common.{refl, true}
use Rattle.escpos_picture.specs.Rasters.{rows_text}
use Rattle.escpos_picture.proofs.Covered.{raster_covers, bars_cover}
use Rattle.escpos_picture.proofs.laws.spans_cover_dots.Goals as goal

pub returns : goal.returns
unfolding rows_text
returns c = record {
  rows = λ rows. raster_covers rows;
  text = λ rows. refl;
  bars = λ column widths. bars_cover column true widths;
}
