use Rattle.std.proofs.Common.{◌≡◌, ℕ, ◌+◌, ◌<◌, List, ◌∷◌, drop, get_or, length, sym, ap, ◌∙◌, subst, suc, add-one, drop-cons}
use Rattle.std.proofs.lemmas.List.{drop_all}
use Rattle.escpos_text.proofs.SoFar.{SoFar, SoFar-more, SoFar-all, SoFar-refused}
use Rattle.escpos_text.proofs.writing.write_slice.Goals as goal

-- The character at an index, and the rest.
rest_from : (cs : List ℕ) (i c : ℕ) → i < length cs → c ≡ get_or cs i c → drop i cs ≡ c ∷ drop (i + 1) cs
rest_from cs i c h is =
    drop-cons cs i c h ∙ ap (λ x. x ∷ drop (suc i) cs) (sym is) ∙ ap (λ n. c ∷ drop n cs) (sym (add-one i))

pub loop-character-preserved : goal.loop-character-preserved
loop-character-preserved c =
    let text = c.args.characters.now in
    let before = subst (λ rest. SoFar c.args.encoding.now text rest c.args.out.now.items c.loop-character.out.items c.loop-character.encoding)
    (rest_from text c.loop-character.character-index c.character-item.result c.loop-character-test.true c.character-item.is) c.loop-character.invariant in
    SoFar-more c.args.encoding.now text _ _ c.args.out.now.items c.loop-character.out.items c.loop-character.encoding _ _ before c.in-Ok.ensures.written

pub returns-in-Err-clause-refused : goal.returns-in-Err-clause-refused
returns-in-Err-clause-refused c =
    let text = c.args.characters.now in
    let before = subst (λ rest. SoFar c.args.encoding.now text rest c.args.out.now.items c.loop-character.out.items c.loop-character.encoding)
    (rest_from text c.loop-character.character-index c.character-item.result c.loop-character-test.true c.character-item.is) c.loop-character.invariant in
    SoFar-refused c.args.encoding.now text _ _ c.args.out.now.items c.loop-character.out.items c.loop-character.encoding c.in-Err.fault before c.in-Err.ensures.refused

pub returns-clause-written : goal.returns-clause-written
returns-clause-written c =
    let text = c.args.characters.now in
    let over = drop_all c.loop-character.character-index text c.loop-character-test.false in
    SoFar-all c.args.encoding.now text c.args.out.now.items c.loop-character.out.items c.loop-character.encoding
    (subst (λ rest. SoFar c.args.encoding.now text rest c.args.out.now.items c.loop-character.out.items c.loop-character.encoding) over c.loop-character.invariant)
