use Rattle.escpos_picture.proofs.Turns.{places_in_turn, drawings_in_turn}
use Rattle.escpos_picture.proofs.laws.drawings_in_turn.Goals as goal

pub returns-clause-drawn : goal.returns-clause-drawn
returns-clause-drawn c = drawings_in_turn

pub returns-clause-places : goal.returns-clause-places
returns-clause-places c = places_in_turn
