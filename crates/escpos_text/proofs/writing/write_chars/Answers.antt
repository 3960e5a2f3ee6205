use Rattle.std.proofs.Common.{length, subst, arith}
use Rattle.std.specs.Prelude.{chars}
use Rattle.std.proofs.lemmas.Iterator.{YieldsList-from_chars}
use Rattle.std.proofs.lemmas.Iterator.Consumers.{YieldsList-turn, YieldsList-end}
use Rattle.std.proofs.lemmas.List.{drop_all}
use Rattle.escpos_text.proofs.NextChars.{rest_at}
use Rattle.escpos_text.proofs.SoFar.{SoFar, SoFar-more, SoFar-all, SoFar-refused}
use Rattle.escpos_text.proofs.writing.write_chars.Goals as goal

pub loop-character-preserved : goal.loop-character-preserved
loop-character-preserved c =
    let text = chars c.args.text.now in
    let turn = YieldsList-turn (YieldsList-from_chars c.args.text.now c.utf8.text cc) c.loop-character.yielded _ c.loop-character.yielded_by _ _ c.in-Some.character c.in-Some.is c.next.ensures.steps in
    let before = subst (λ rest. SoFar c.args.encoding.now text rest c.args.out.now.items c.loop-character.out.items c.loop-character.encoding)
    (rest_at text c.loop-character.yielded c.in-Some.character turn) c.loop-character.invariant in
    SoFar-more c.args.encoding.now text c.in-Some.character _ c.args.out.now.items c.loop-character.out.items c.loop-character.encoding _ _ before c.in-Ok.ensures.written

pub returns-in-Err-clause-refused : goal.returns-in-Err-clause-refused
returns-in-Err-clause-refused c =
    let text = chars c.args.text.now in
    let turn = YieldsList-turn (YieldsList-from_chars c.args.text.now c.utf8.text cc) c.loop-character.yielded _ c.loop-character.yielded_by _ _ c.in-Some.character c.in-Some.is c.next.ensures.steps in
    let before = subst (λ rest. SoFar c.args.encoding.now text rest c.args.out.now.items c.loop-character.out.items c.loop-character.encoding)
    (rest_at text c.loop-character.yielded c.in-Some.character turn) c.loop-character.invariant in
    SoFar-refused c.args.encoding.now text c.in-Some.character _ c.args.out.now.items c.loop-character.out.items c.loop-character.encoding c.in-Err.fault before c.in-Err.ensures.refused

pub returns-clause-written : goal.returns-clause-written
returns-clause-written c =
    let text = chars c.args.text.now in
    let end = YieldsList-end (YieldsList-from_chars c.args.text.now c.utf8.text cc) c.loop-character.yielded _ c.loop-character.yielded_by _ _ c.in-None.is c.next.ensures.steps in
    let over = drop_all (length c.loop-character.yielded) text (omega (arith, end.1)) in
    SoFar-all c.args.encoding.now text c.args.out.now.items c.loop-character.out.items c.loop-character.encoding
    (subst (λ rest. SoFar c.args.encoding.now text rest c.args.out.now.items c.loop-character.out.items c.loop-character.encoding) over c.loop-character.invariant)
