-- All characters of the text were read, and brought into their composed form.
use Rattle.std.proofs.Common.{◌++◌, sym, ◌∙◌, ap}
use Rattle.std.proofs.lemmas.List.{map-id}
use Rattle.std.proofs.lemmas.Iterator.{YieldsList-from_chars}
use Rattle.std.proofs.lemmas.Iterator.Consumers.{YieldsList-end}
use Rattle.unicode_normalization.specs.Forms.{nfc}
use Rattle.escpos_receipt.proofs.layout.composed.Goals as goal

pub returns : goal.returns
returns c =
    let text = c.args.text.now in
    let end = YieldsList-end (YieldsList-from_chars text c.utf8.text cc) c.loop-character.yielded _ c.loop-character.yielded_by _ _ c.in-None.is c.next.ensures.steps in
    let given = c.deref.ensures.value ∙ c.loop-character.invariant ∙ sym (map-id c.loop-character.yielded) ∙ end.0 in
    c.new.ensures ∙ c.in_ok-extend_nfc.ensures.ok ∙ ap (λ l. l ++ nfc c.deref.result.now) c.new-composed.ensures.items ∙ ap nfc given
