-- What the link printed is what was torn off and what still stands on the paper.
use Rattle.std.proofs.Common.{◌∙◌, ◌++◌, sym, ap, subst}
use Rattle.std.proofs.lemmas.Grind.{flat_map-append}
use Rattle.std.specs.Io.KnownBytes.{Appends}
use Rattle.std.proofs.KnownBytes.{Appends-trans}
use Rattle.escpos_paper.specs.ItemsText.{item_text, items_text}
use Rattle.escpos_printer.specs.LinkInParts.{under}
use Rattle.escpos_printer.specs.Serves.{Serves, link}
use Rattle.escpos_tcp_jobs.specs.declared.emulate.TheConstants.{LINK_LIMIT}
use Rattle.escpos_tcp_jobs.proofs.emulate.follow_link.Goals as goal

pub returns-clause-served : goal.returns-clause-served
returns-clause-served g c =
    let s = c.in_ok-served.ensures.served in
    let served = link (g.R.ByteIn.to_come c.args.reader.now) (g.R.ByteIn.to_come c.serve_and_tell.new.reader) (g.A.ByteOut.written c.args.writer.now) (g.A.ByteOut.written c.serve_and_tell.new.writer) in
    let left = c.serve_and_tell.new.printer.sheet.items in
    let text = ap (λ items. c.serve_and_tell.new.paper ++ items_text items) c.items.ensures.items ∙ ap (λ v. v ++ items_text left) (s.1 ∙ ap (λ v. v ++ items_text s.0) c.new-paper.ensures) ∙ sym (flat_map-append item_text s.0 left) in (
      under s.0 c.serve_and_tell.new.printer,
      subst (λ p. Serves p served LINK_LIMIT c.in_ok-served.served (under s.0 c.serve_and_tell.new.printer)) c.tear_off.ensures s.2,
      c.tear_off-2.ensures,
      Appends-trans (g.W.ByteOut.written c.args.output.now) (g.W.ByteOut.written c.serve_and_tell.new.output) (g.W.ByteOut.written c.put_above.new.output) _ _ c.in_ok-served.ensures.told
          (subst (Appends (g.W.ByteOut.written c.serve_and_tell.new.output) (g.W.ByteOut.written c.put_above.new.output)) text c.in_ok-put_above.ensures.put),
    )
