-- What comes before the dots, the dots, the characters of a QR code and the end of the line are given one after another.
use Rattle.std.proofs.Common.{◌≡◌, ◌≤◌, ◌++◌, [], ◌∷◌, Ok, Err, List, ℕ, length, length-append, refl, sym, ◌∙◌, ap, append_assoc, arith}
use Rattle.std.specs.Prelude.{flat_map}
use Rattle.hex.specs.Hex.{encode_lower}
use Rattle.escpos_command.specs.declared.bytes.TheConstants.{LF}
use Rattle.escpos_paper.specs.declared.item.Item.{Item}
use Rattle.escpos_paper.specs.ItemsText.{byte_text, item_text, words}
use Rattle.escpos_paper.specs.ItemParts.{front, dots_of, characters_of}
use Rattle.escpos_paper.proofs.CharactersPut.{all_short}
use Rattle.escpos_paper.proofs.ItemParts.{in_parts}
use Rattle.escpos_io.proofs.Digits.{digits_count, no_digits}
use Rattle.escpos_io.proofs.Giving.{given_appended, given_in_turn, piece_put, piece_stopped}
use Rattle.escpos_paper.proofs.text.ItemPiece.put.Goals as goal

-- The line of an item, whose dots and characters are these.
line_of : (item : Item) (dots characters : List ℕ) → dots ≡ dots_of item → characters ≡ characters_of item
    → words item ≡ front item ++ encode_lower dots ++ flat_map byte_text characters
line_of item dots characters d e =
    in_parts no_digits item ∙ ap (λ v. front item ++ encode_lower v ++ flat_map byte_text (characters_of item)) (sym d)
    ∙ ap (λ v. front item ++ encode_lower dots ++ flat_map byte_text v) (sym e)

pub returns-in_err-room : goal.returns-in_err-room
returns-in_err-room g c = piece_stopped _ _ _ _ _ _ _ _ c.from_residual.ensures.1 c.in_err-room.ensures.given (omega arith) refl

pub returns-in_err-put_digits : goal.returns-in_err-put_digits
returns-in_err-put_digits g c =
    let item = c.args.self.now in
    let placed = given_appended (g.W.ByteOut.written c.room.new.writer) (g.W.ByteOut.failed c.room.new.writer) _ _ (front item)
    c.append_front.ensures.kept c.append_front.ensures.same_count in
    let first = given_in_turn (Ok tt) _ _ _ _ _ _ _ _ _ [] (front item) (front item) c.in_ok-room.ensures.given placed refl in
    let digits = encode_lower c.dots_of.result.now in
    let characters = flat_map byte_text (characters_of item) in
    let line = given_in_turn (Err c.in_err-put_digits.field-0.0) _ _ _ _ _ _ _ _ _ (front item) digits (front item ++ digits) first
    c.in_err-put_digits.ensures refl in
    let short : length (front item ++ digits) ≤ 2097152 =
    omega (arith, length-append (front item) digits, digits_count c.dots_of.result.now, c.dots_of.ensures.few, c.append_front.ensures.short) in
    piece_stopped _ _ _ _ _ (front item ++ digits) (characters ++ LF ∷ []) _ c.from_residual-in_err-put_digits.ensures.1 line short
    (ap (λ t. t ++ LF ∷ []) (line_of item c.dots_of.result.now (characters_of item) c.dots_of.ensures.dots refl)
    ∙ append_assoc (front item ++ digits) characters (LF ∷ []))

pub returns-in_err-put_characters : goal.returns-in_err-put_characters
returns-in_err-put_characters g c =
    let item = c.args.self.now in
    let placed = given_appended (g.W.ByteOut.written c.room.new.writer) (g.W.ByteOut.failed c.room.new.writer) _ _ (front item)
    c.append_front.ensures.kept c.append_front.ensures.same_count in
    let first = given_in_turn (Ok tt) _ _ _ _ _ _ _ _ _ [] (front item) (front item) c.in_ok-room.ensures.given placed refl in
    let digits = encode_lower c.dots_of.result.now in
    let second = given_in_turn (Ok tt) _ _ _ _ _ _ _ _ _ (front item) digits (front item ++ digits) first c.in_ok-put_digits.ensures refl in
    let characters = flat_map byte_text c.characters_of.result.now in
    let line = given_in_turn (Err c.in_err-put_characters.field-0.0) _ _ _ _ _ _ _ _ _ (front item ++ digits) characters (front item ++ digits ++ characters) second
    c.in_err-put_characters.ensures refl in
    let short : length (front item ++ digits ++ characters) ≤ 2097152 =
    omega (arith, length-append (front item ++ digits) characters, length-append (front item) digits, digits_count c.dots_of.result.now, all_short c.characters_of.result.now, c.characters_of.ensures.few, c.dots_of.ensures.few, c.append_front.ensures.short) in
    piece_stopped _ _ _ _ _ (front item ++ digits ++ characters) (LF ∷ []) _ c.from_residual-in_err-put_characters.ensures.1 line short
    (ap (λ t. t ++ LF ∷ []) (line_of item c.dots_of.result.now c.characters_of.result.now c.dots_of.ensures.dots c.characters_of.ensures.characters))

pub returns : goal.returns
returns g c =
    let item = c.args.self.now in
    let placed = given_appended (g.W.ByteOut.written c.room.new.writer) (g.W.ByteOut.failed c.room.new.writer) _ _ (front item)
    c.append_front.ensures.kept c.append_front.ensures.same_count in
    let first = given_in_turn (Ok tt) _ _ _ _ _ _ _ _ _ [] (front item) (front item) c.in_ok-room.ensures.given placed refl in
    let digits = encode_lower c.dots_of.result.now in
    let second = given_in_turn (Ok tt) _ _ _ _ _ _ _ _ _ (front item) digits (front item ++ digits) first c.in_ok-put_digits.ensures refl in
    let characters = flat_map byte_text c.characters_of.result.now in
    let line = given_in_turn (Ok tt) _ _ _ _ _ _ _ _ _ (front item ++ digits) characters (front item ++ digits ++ characters) second c.in_ok-put_characters.ensures refl in
    let whole : item_text item ≡ (front item ++ digits ++ characters) ++ LF ∷ [] =
    ap (λ t. t ++ LF ∷ []) (line_of item c.dots_of.result.now c.characters_of.result.now c.dots_of.ensures.dots c.characters_of.ensures.characters) in
    let all = given_in_turn c.put.result _ _ _ _ _ _ _ _ _ (front item ++ digits ++ characters) (LF ∷ []) _ line c.put.ensures.given whole in
    let short : length (item_text item) ≤ 2097152 =
    omega (arith, ap length whole, length-append (front item ++ digits ++ characters) (LF ∷ []), length-append (front item ++ digits) characters, length-append (front item) digits, digits_count c.dots_of.result.now, all_short c.characters_of.result.now, c.characters_of.ensures.few, c.dots_of.ensures.few, c.append_front.ensures.short) in
    piece_put _ _ _ _ _ all short
