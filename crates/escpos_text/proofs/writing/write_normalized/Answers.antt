use Rattle.std.proofs.Common.{◌≡◌, [], refl, sym, subst, ◌∙◌}
use Rattle.std.specs.Prelude.{chars, OnOk, MatchResult}
use Rattle.std.proofs.lemmas.List.{append-nil}
use Rattle.std.proofs.lemmas.Str.{Chars-gives, encodes-chars, chars_from_encodes}
use Rattle.unicode_normalization.specs.Forms.{nfc}
use Rattle.escpos_text.specs.Writing.{written, Writes, IsRefused}
use Rattle.escpos_text.proofs.writing.write_normalized.Goals as goal

pub returns-in-Yes-clause-written : goal.returns-in-Yes-clause-written
returns-in-Yes-clause-written c =
    let text = chars c.args.text.now in
    let spells = Chars-gives text c.chars.result (encodes-chars c.args.text.now c.utf8.text ∙ sym c.chars.ensures.rest) in
    let same : nfc text ≡ text = c.in-Yes.ensures.yes text spells refl in
    subst (λ cs. OnOk c.write_chars.result (Writes c.args.encoding.now cs c.args.out.now.items c.write_chars.new.out.items c.write_chars.new.encoding)) (sym same) c.write_chars.ensures.written

pub returns-in-Yes-clause-refused : goal.returns-in-Yes-clause-refused
returns-in-Yes-clause-refused c =
    let text = chars c.args.text.now in
    let spells = Chars-gives text c.chars.result (encodes-chars c.args.text.now c.utf8.text ∙ sym c.chars.ensures.rest) in
    let same : nfc text ≡ text = c.in-Yes.ensures.yes text spells refl in
    subst (λ cs. MatchResult c.write_chars.result (λ _. Unit {0}) (IsRefused (written c.args.encoding.now cs))) (sym same) c.write_chars.ensures.refused

pub returns-in_default-to_nfc : goal.returns-in_default-to_nfc
returns-in_default-to_nfc c = record { written = tt; refused = tt; begun = ([], sym (append-nil c.args.out.now.items)); but_for_table = (c.args.encoding.now.table, refl) }

pub returns-in-Ok : goal.returns-in-Ok
returns-in-Ok c =
    let composed : nfc (chars c.args.text.now) ≡ chars c.as_str.result.now =
    chars_from_encodes (nfc (chars c.args.text.now)) c.as_str.result.now c.as_str.utf8 (sym (c.as_str.ensures.value ∙ c.in-Ok.ensures)) in
    let call = c.write_chars-in_default in
    record {
      written = subst (λ cs. OnOk call.result (Writes c.args.encoding.now cs c.args.out.now.items call.new.out.items call.new.encoding)) (sym composed) call.ensures.written;
      refused = subst (λ cs. MatchResult call.result (λ _. Unit {0}) (IsRefused (written c.args.encoding.now cs))) (sym composed) call.ensures.refused;
      begun = call.ensures.begun;
      but_for_table = call.ensures.but_for_table;
    }
