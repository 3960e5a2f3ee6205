use Rattle.std.proofs.Common.{[], ◌∷◌, refl, sym, append-nil, arith}
use Rattle.escpos_paper.proofs.paper.make_room.Goals as goal

pub returns-else-room_for-eq0-clause-printed : goal.returns-else-room_for-eq0-clause-printed
returns-else-room_for-eq0-clause-printed c = λ byte.
    rw (c.room_for.ensures.fit (byte ∷ []) (omega arith) (omega arith)) (sym (append-nil _))

pub returns-else-room_for-eq0-clause-left : goal.returns-else-room_for-eq0-clause-left
returns-else-room_for-eq0-clause-left c = λ byte. rw (c.room_for.ensures.fit (byte ∷ []) (omega arith) (omega arith)) refl

pub returns-else-room_for-eq0-clause-fits : goal.returns-else-room_for-eq0-clause-fits
returns-else-room_for-eq0-clause-fits c = λ byte. c.room_for.ensures.fit (byte ∷ []) (omega arith) (omega arith)
