use Rattle.std.proofs.Common.{append_assoc}
use Rattle.escpos_picture.proofs.row.append_start.Goals as goal

pub returns-clause-kept : goal.returns-clause-kept
returns-clause-kept c =
    rw (c.extend-2.ensures.kept, c.row_turn.ensures.text, c.append_place.ensures.kept, c.extend.ensures.kept, c.row_start.ensures.value, c.base_line.ensures.value, c.reach.ensures.value, c.tallest.ensures.value) simp append_assoc
