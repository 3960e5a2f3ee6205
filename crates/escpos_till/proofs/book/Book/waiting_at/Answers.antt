-- The receipt at a place.
use Rattle.std.proofs.Common.{◌<◌, ◌+◌, ◌∙◌, Some, ap, length, sym, subst, refl, arith}
use Rattle.std.proofs.lemmas.Option.{slice_get_read}
use Rattle.escpos_till.specs.Contents.{content_with}
use Rattle.escpos_till.specs.Book.{StandsAt}
use Rattle.escpos_till.proofs.BookLemmas.{number_is}
use Rattle.escpos_till.proofs.StateLemmas.{ended_unless}
use Rattle.escpos_till.proofs.book.Book.waiting_at.Goals as goal

pub unreachable-requires : goal.unreachable-requires
unreachable-requires c =
    let there = slice_get_read c.args.self.now.states.items (length c.args.self.now.states.items) c.args.place c.index.result.now refl (omega (arith, c.if-place-len.false, c.len.ensures)) c.index.ensures in
    c.requires.waits c.index.result.now there (ended_unless c.index.result.now c.in_default.not-Waiting)

pub index-content-requires : goal.index-content-requires
index-content-requires c = omega (arith, c.requires.contents, c.if-place-len.false, c.len.ensures)

pub returns : goal.returns
returns c =
    let b = c.args.self.now in
    let within : c.args.place < length b.states.items = omega (arith, c.if-place-len.false, c.len.ensures) in
    let inside : c.args.place < length b.contents.items = omega (arith, within, c.requires.contents) in
    let stands = slice_get_read b.states.items (length b.states.items) c.args.place c.index.result.now refl within c.index.ensures in
    let is = slice_get_read b.contents.items (length b.contents.items) c.args.place c.index-content.result.now refl inside c.index-content.ensures in
    subst (λ text. StandsAt b c.args.place c.unwrap.result (content_with c.index-content.result.now.options text) c.in-Waiting.tried) (sym c.bytes.ensures) (record {
      number_is = number_is c.new.result c.unwrap.result (b.earlier + c.args.place + 1) c.new.ensures c.unwrap.ensures;
      waits = stands ∙ ap Some c.in-Waiting.is;
      kept = is;
    })
