use Rattle.std.proofs.Common.{◌++◌, [], Ok, Err, refl, sym, ap}
use Rattle.std.specs.Prelude.{codes, length}
use Rattle.escpos_io.proofs.Giving.{given_in_turn, given_in_the_front}
use Rattle.escpos_picture.specs.Rows.{characters_text}
use Rattle.escpos_picture.specs.QrItems.{qr_start}
use Rattle.escpos_picture.proofs.GivenSteps.{appended_at, nothing_given}
use Rattle.escpos_picture.proofs.qr.put_qr.Goals as goal

pub returns-in_err-room : goal.returns-in_err-room
returns-in_err-room g c =
    given_in_the_front c.from_residual.result c.in_err-room.field-0.0 _ _ _ [] _ _ c.from_residual.ensures.1 c.in_err-room.ensures.given refl

pub returns-in_err-put_characters : goal.returns-in_err-put_characters
returns-in_err-put_characters g c =
    let content = c.args.content.now in
    let start = qr_start c.args.width c.args.down c.args.align c.qr_side-side.result (length content) in
    let first = appended_at _ _ _ _ _ _ _ _ _ c.append_start.new.gather [] start (nothing_given _ _ _) c.in_ok-room.ensures.given c.append_start.ensures.kept c.append_start.ensures.same_count in
    let text = characters_text 0 0 content in
    let stopped = given_in_turn (Err c.in_err-put_characters.field-0.0) _ _ _ _ _ _ _ _ _ start text (start ++ text) first c.in_err-put_characters.ensures refl in
    given_in_the_front c.from_residual-in_err-put_characters.result c.in_err-put_characters.field-0.0 _ _ _ (start ++ text) (codes "</text></svg>\n</g>\n") _
    c.from_residual-in_err-put_characters.ensures.1 stopped
    (ap (λ s. qr_start c.args.width c.args.down c.args.align s (length content) ++ text ++ codes "</text></svg>\n</g>\n") (sym c.qr_side-side.ensures.side))

pub returns : goal.returns
returns g c =
    let content = c.args.content.now in
    let start = qr_start c.args.width c.args.down c.args.align c.qr_side-side.result (length content) in
    let first = appended_at _ _ _ _ _ _ _ _ _ c.append_start.new.gather [] start (nothing_given _ _ _) c.in_ok-room.ensures.given c.append_start.ensures.kept c.append_start.ensures.same_count in
    let text = characters_text 0 0 content in
    let second = given_in_turn (Ok tt) _ _ _ _ _ _ _ _ _ start text (start ++ text) first c.in_ok-put_characters.ensures refl in
    given_in_turn c.put.result _ _ _ _ _ _ _ _ _ (start ++ text) (codes "</text></svg>\n</g>\n") _ second c.put.ensures.given
    (ap (λ s. qr_start c.args.width c.args.down c.args.align s (length content) ++ text ++ codes "</text></svg>\n</g>\n") (sym c.qr_side-side.ensures.side))
