use Rattle.std.proofs.Common.{◌≡◌, ◌≤◌, ◌∙◌, ◌++◌, length, length-append, sym, ap, refl, arith}
use Rattle.escpos_command.specs.CommandTable.{row}
use Rattle.escpos_command.proofs.Copied.{same_parts}
use Rattle.escpos_io.proofs.Giving.{given_in_turn, piece_put, piece_stopped}
use Rattle.escpos_command.proofs.spelling.CommandPiece.put.Goals as goal

pub returns-in_err-room : goal.returns-in_err-room
returns-in_err-room g c = piece_stopped _ _ _ _ _ _ _ _ c.from_residual.ensures.1 c.in_err-room.ensures.given (omega arith) refl

pub returns-in_err-put : goal.returns-in_err-put
returns-in_err-put g c =
    let front = given_in_turn _ _ _ _ _ _ _ _ _ _ _ _ _ c.in_ok-room.ensures.given (c.extend.ensures.given _ _) refl in
    let parameters = given_in_turn _ _ _ _ _ _ _ _ _ _ _ _ _ front (c.extend-2.ensures.given _ _) refl in
    let content = given_in_turn _ _ _ _ _ _ _ _ _ _ _ _ _ parameters c.in_err-put.ensures.given refl in
    let given = c.parts-parts.result.prefix.now ++ c.as_slice.result.now ++ c.parts-parts.result.content.now in
    let whole : row c.args.self.now ≡ given ++ c.parts-parts.result.suffix.now =
    sym (same_parts _ _ _ _ _ _ _ _ c.parts-parts.ensures.prefix (c.as_slice.ensures.value ∙ c.parts-parts.ensures.parameters) c.parts-parts.ensures.content c.parts-parts.ensures.suffix) in
    let short : length given ≤ 2097152 =
    omega (arith, ap length whole, length-append given c.parts-parts.result.suffix.now, c.spelled_len.ensures.length, c.spelled_len.ensures.most) in
    piece_stopped _ _ _ _ _ _ _ _ c.from_residual-in_err-put.ensures.1 content short whole

pub returns : goal.returns
returns g c =
    let front = given_in_turn _ _ _ _ _ _ _ _ _ _ _ _ _ c.in_ok-room.ensures.given (c.extend.ensures.given _ _) refl in
    let parameters = given_in_turn _ _ _ _ _ _ _ _ _ _ _ _ _ front (c.extend-2.ensures.given _ _) refl in
    let content = given_in_turn _ _ _ _ _ _ _ _ _ _ _ _ _ parameters c.in_ok-put.ensures.given refl in
    let all = given_in_turn _ _ _ _ _ _ _ _ _ _ _ _ _ content c.put-2.ensures.given
    (sym (same_parts _ _ _ _ _ _ _ _ c.parts-parts.ensures.prefix (c.as_slice.ensures.value ∙ c.parts-parts.ensures.parameters) c.parts-parts.ensures.content c.parts-parts.ensures.suffix)) in
    piece_put _ _ _ _ _ all (omega (arith, c.spelled_len.ensures.length, c.spelled_len.ensures.most))
