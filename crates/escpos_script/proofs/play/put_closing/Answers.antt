-- The paper is printed after its heading, and then the line that counts the records.
use Rattle.std.proofs.Common.{false, [], length, subst, codes}
use Rattle.std.proofs.KnownBytes.{Appends-trans}
use Rattle.std.specs.Io.KnownBytes.{Appends}
use Rattle.escpos_paper.specs.ItemsText.{items_text}
use Rattle.escpos_script.specs.ScriptOutput.{records_line}
use Rattle.escpos_script.proofs.Plays.{on_ok}
use Rattle.escpos_io.proofs.Giving.{given_appended}
use Rattle.escpos_script.proofs.play.put_closing.Goals as goal

pub returns-clause-put : goal.returns-clause-put
returns-clause-put g c =
    let first = g.W.ByteOut.written c.args.output.now in
    let headed = g.W.ByteOut.written c.put_all.new.writer in
    let papered = g.W.ByteOut.written c.write_items.new.writer in
    let all = g.W.ByteOut.written c.flush.new.writer in
    let counted = records_line (length c.records.result.now) in
    let given = given_appended papered false c.new-gather.result c.append_records.new.gather counted c.append_records.ensures.kept c.append_records.ensures.same_count in
    let carried = given.ok papered [] (c.new-gather.ensures.carries papered) in
    let items = subst (λ v. Appends headed papered (items_text v)) c.paper-paper.ensures.items c.in_ok-write_items.ensures.ok in
    on_ok c.flush.result (λ flushed.
    let last = subst (λ v. Appends papered all (records_line (length v))) c.records.ensures (flushed papered counted carried) in
    let text = items_text c.args.sim.now.printer.sheet.items in
    let count = records_line (length c.args.sim.now.host.records) in
    Appends-trans first headed all (codes "paper\n") _ c.in_ok-put_all.ensures.all (Appends-trans headed papered all text count items last)) c.flush.ensures.ok
