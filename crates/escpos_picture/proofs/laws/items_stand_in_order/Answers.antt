use Rattle.escpos_picture.proofs.InOrder.{places_are_sums, drawn_at_sum, depths_in_turn, height_is_sum, few_fit}
use Rattle.escpos_picture.proofs.laws.items_stand_in_order.Goals as goal

pub returns-clause-places : goal.returns-clause-places
returns-clause-places c = places_are_sums

pub returns-clause-drawn : goal.returns-clause-drawn
returns-clause-drawn c = drawn_at_sum

pub returns-clause-next : goal.returns-clause-next
returns-clause-next c = λ line_dots. depths_in_turn line_dots 0

pub returns-clause-height : goal.returns-clause-height
returns-clause-height c = height_is_sum

pub returns-clause-few : goal.returns-clause-few
returns-clause-few c = few_fit
