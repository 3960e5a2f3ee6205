use Rattle.std.proofs.Common.{◌≡◌, ℕ, List, ◌++◌, [], ◌∷◌, Ok, Err, refl, append_assoc, append-nil}
use Rattle.std.specs.Prelude.{codes, decimal}
use Rattle.hex.specs.Hex.{encode_lower}
use Rattle.escpos_command.specs.declared.bytes.TheConstants.{LF}
use Rattle.escpos_io.proofs.Giving.{given_in_turn, given_in_the_front, given_appended}
use Rattle.escpos_job_parts.specs.declared.lines.TheConstants.{SPACE}
use Rattle.escpos_job_parts.proofs.lines.put_store.Goals as goal

-- The line in the parts in which it is given.
in_parts : (place digits : List ℕ)
    → place ++ SPACE ∷ [] ++ codes "qrstore" ++ SPACE ∷ digits ++ LF ∷ [] ++ [] ≡ ((place ++ codes " qrstore ") ++ digits) ++ LF ∷ []
in_parts place digits = simp (append_assoc, append-nil) refl

pub returns-in_err-room : goal.returns-in_err-room
returns-in_err-room g c =
    given_in_the_front c.from_residual.result c.in_err-room.field-0.0 _ _ _ [] _ _ c.from_residual.ensures.1 c.in_err-room.ensures.given refl

pub returns-in_err-put_digits : goal.returns-in_err-put_digits
returns-in_err-put_digits g c =
    let front = decimal c.args.place ++ codes " qrstore " in
    let digits = encode_lower c.args.stored.now in
    let roomed = given_in_turn (Ok tt) _ _ _ _ _ _ _ _ _ [] front front c.in_ok-room.ensures.given
    (given_appended _ _ _ _ front c.append_store.ensures.kept c.append_store.ensures.same_count) refl in
    let stopped = given_in_turn (Err c.in_err-put_digits.field-0.0) _ _ _ _ _ _ _ _ _ front digits (front ++ digits) roomed
    (rw c.as_slice.ensures.stored at c.in_err-put_digits.ensures) refl in
    given_in_the_front c.from_residual-in_err-put_digits.result c.in_err-put_digits.field-0.0 _ _ _ (front ++ digits) (LF ∷ []) _
    c.from_residual-in_err-put_digits.ensures.1 stopped (in_parts (decimal c.args.place) digits)

pub returns : goal.returns
returns g c =
    let front = decimal c.args.place ++ codes " qrstore " in
    let digits = encode_lower c.args.stored.now in
    let roomed = given_in_turn (Ok tt) _ _ _ _ _ _ _ _ _ [] front front c.in_ok-room.ensures.given
    (given_appended _ _ _ _ front c.append_store.ensures.kept c.append_store.ensures.same_count) refl in
    let second = given_in_turn (Ok tt) _ _ _ _ _ _ _ _ _ front digits (front ++ digits) roomed
    (rw c.as_slice.ensures.stored at c.in_ok-put_digits.ensures) refl in
    given_in_turn c.put.result _ _ _ _ _ _ _ _ _ (front ++ digits) (LF ∷ []) _ second c.put.ensures.given (in_parts (decimal c.args.place) digits)
