use Rattle.escpos_picture.proofs.Within.{rows_within, underlines_within, rasters_within, bars_within, labels_within, cuts_within, across, turned, turned_on_line}
use Rattle.escpos_picture.proofs.laws.items_stay_within.Goals as goal

pub returns-clause-rows_within : goal.returns-clause-rows_within
returns-clause-rows_within c = rows_within

pub returns-clause-underlines_within : goal.returns-clause-underlines_within
returns-clause-underlines_within c = underlines_within

pub returns-clause-rasters_within : goal.returns-clause-rasters_within
returns-clause-rasters_within c = rasters_within

pub returns-clause-bars_within : goal.returns-clause-bars_within
returns-clause-bars_within c = bars_within

pub returns-clause-labels_within : goal.returns-clause-labels_within
returns-clause-labels_within c = labels_within

pub returns-clause-cuts_within : goal.returns-clause-cuts_within
returns-clause-cuts_within c = cuts_within

pub returns-clause-across : goal.returns-clause-across
returns-clause-across c = across

pub returns-clause-turned : goal.returns-clause-turned
returns-clause-turned c = turned

pub returns-clause-turned_on_line : goal.returns-clause-turned_on_line
returns-clause-turned_on_line c = turned_on_line
