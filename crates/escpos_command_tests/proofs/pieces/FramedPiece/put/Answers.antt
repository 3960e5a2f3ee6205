use Rattle.std.proofs.Common.{arith, refl, length-append}
use Rattle.escpos_command_tests.proofs.pieces.FramedPiece.put.Goals as goal

pub returns-in_err-room : goal.returns-in_err-room
returns-in_err-room g c = c.piece_stopped.ensures _ _ _ _ _ _ _ _ c.from_residual.ensures.1 c.in_err-room.ensures.given (omega arith) refl

pub returns-in_err-put : goal.returns-in_err-put
returns-in_err-put g c =
    let front = c.given_in_turn.ensures _ _ _ _ _ _ _ _ _ _ _ _ _ c.in_ok-room.ensures.given (c.extend.ensures.given _ _) refl in
    let content = c.given_in_turn.ensures _ _ _ _ _ _ _ _ _ _ _ _ _ front c.in_err-put.ensures.given refl in
    c.piece_stopped.ensures _ _ _ _ _ _ _ _ c.from_residual-in_err-put.ensures.1 content (simp length-append (omega (arith, c.args.self.now.few))) refl

pub returns : goal.returns
returns g c =
    let front = c.given_in_turn.ensures _ _ _ _ _ _ _ _ _ _ _ _ _ c.in_ok-room.ensures.given (c.extend.ensures.given _ _) refl in
    let content = c.given_in_turn.ensures _ _ _ _ _ _ _ _ _ _ _ _ _ front c.in_ok-put.ensures.given refl in
    let all = c.given_in_turn.ensures _ _ _ _ _ _ _ _ _ _ _ _ _ content c.put-2.ensures.given refl in
    c.piece_put.ensures _ _ _ _ _ all (simp length-append (omega (arith, c.args.self.now.few)))
