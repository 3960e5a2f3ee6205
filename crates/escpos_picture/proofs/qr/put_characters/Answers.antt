use Rattle.std.proofs.Common.{◌++◌, Ok, Err, refl, sym, ◌∙◌, ap, append_assoc, take, drop}
use Rattle.escpos_io.proofs.Giving.{given_in_turn, given_in_the_front}
use Rattle.escpos_picture.specs.Rows.{characters_text}
use Rattle.escpos_picture.proofs.PlainTexts.{first_and_others}
use Rattle.escpos_picture.proofs.qr.put_characters.Goals as goal

pub returns-in_err-put : goal.returns-in_err-put
returns-in_err-put g c =
    let far = c.loop-rest.invariant in
    let plain = c.split_plain.result.0.now in
    let left = characters_text 0 0 c.split_plain.result.1.now in
    let stopped = given_in_turn (Err c.in_err-put.field-0.0) _ _ _ _ _ _ _ _ _ far.done plain (far.done ++ plain) far.given c.in_err-put.ensures.given refl in
    given_in_the_front c.from_residual.result c.in_err-put.field-0.0 _ _ _ (far.done ++ plain) left _ c.from_residual.ensures.1 stopped
    (far.whole_is ∙ ap (λ t. far.done ++ t) c.split_plain.ensures.text ∙ sym (append_assoc far.done plain left))

pub returns-in_err-put_first : goal.returns-in_err-put_first
returns-in_err-put_first g c =
    let far = c.loop-rest.invariant in
    let plain = c.split_plain.result.0.now in
    let others = c.split_plain.result.1.now in
    let first = characters_text 0 0 (take 1 others) in
    let left = characters_text 0 0 (drop 1 others) in
    let before = given_in_turn (Ok tt) _ _ _ _ _ _ _ _ _ far.done plain (far.done ++ plain) far.given c.in_ok-put.ensures.given refl in
    let stopped = given_in_turn (Err c.in_err-put_first.field-0.0) _ _ _ _ _ _ _ _ _ (far.done ++ plain) first ((far.done ++ plain) ++ first) before c.in_err-put_first.ensures refl in
    given_in_the_front c.from_residual-in_err-put_first.result c.in_err-put_first.field-0.0 _ _ _ ((far.done ++ plain) ++ first) left _
    c.from_residual-in_err-put_first.ensures.1 stopped
    (far.whole_is ∙ ap (λ t. far.done ++ t) c.split_plain.ensures.text ∙ ap (λ t. far.done ++ (plain ++ t)) (first_and_others others)
    ∙ sym (append_assoc far.done plain (first ++ left)) ∙ sym (append_assoc (far.done ++ plain) first left))

pub loop-rest-preserved : goal.loop-rest-preserved
loop-rest-preserved g c =
    let far = c.loop-rest.invariant in
    let plain = c.split_plain.result.0.now in
    let others = c.split_plain.result.1.now in
    let first = characters_text 0 0 (take 1 others) in
    let left = characters_text 0 0 (drop 1 others) in
    let before = given_in_turn (Ok tt) _ _ _ _ _ _ _ _ _ far.done plain (far.done ++ plain) far.given c.in_ok-put.ensures.given refl in
    record {
      done = (far.done ++ plain) ++ first;
      given = given_in_turn (Ok tt) _ _ _ _ _ _ _ _ _ (far.done ++ plain) first ((far.done ++ plain) ++ first) before c.in_ok-put_first.ensures refl;
      whole_is = far.whole_is ∙ ap (λ t. far.done ++ t) c.split_plain.ensures.text ∙ ap (λ t. far.done ++ (plain ++ t)) (first_and_others others)
          ∙ sym (append_assoc far.done plain (first ++ left)) ∙ sym (append_assoc (far.done ++ plain) first left)
          ∙ ap (λ bs. ((far.done ++ plain) ++ first) ++ characters_text 0 0 bs) (sym c.without_first-rest.ensures);
    }
