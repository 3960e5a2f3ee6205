-- Each kind of item is given by the function for it.
use Rattle.escpos_picture.proofs.item.put_drawing.Goals as goal

pub returns-in-Row : goal.returns-in-Row
returns-in-Row g c = rw c.in-Row.is c.put_row.ensures

pub returns-in-Feed : goal.returns-in-Feed
returns-in-Feed g c = rw c.in-Feed.is c.put.ensures.given

pub returns-in-FeedUnits : goal.returns-in-FeedUnits
returns-in-FeedUnits g c = rw c.in-FeedUnits.is c.put-in-FeedUnits.ensures.given

pub returns-in-Cut : goal.returns-in-Cut
returns-in-Cut g c = rw c.in-Cut.is c.put_cut.ensures
