use Rattle.std.proofs.Common.{◌/◌, ◌%◌}
use Rattle.escpos_image.proofs.Blackened.{band_holds_none, each_blackened, same_count}
use Rattle.escpos_image.proofs.laws.rasters_hold_no_real_time.Goals as goal

pub returns-clause-none : goal.returns-clause-none
returns-clause-none c = band_holds_none

pub returns-clause-same_count : goal.returns-clause-same_count
returns-clause-same_count c rows dots = same_count (rows % 256) (rows / 256) dots

pub returns-clause-blackened : goal.returns-clause-blackened
returns-clause-blackened c rows dots k = each_blackened (rows % 256) (rows / 256) dots k
