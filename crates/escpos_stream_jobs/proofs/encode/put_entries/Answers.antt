-- The digits of each entry are given after those before it; if one failed, they are a prefix of all.
use Rattle.std.proofs.Common.{◌+◌, ◌<◌, ◌∙◌, Ok, Err, length, take, drop, ap, arith}
use Rattle.escpos_command.specs.CommandTable.{spell}
use Rattle.escpos_receipt.specs.EntryCommands.{commands_in}
use Rattle.escpos_stream_jobs.proofs.EntrySpellings.{entries_and_rest, entries_spelled, one_more_entry}
use Rattle.escpos_io.proofs.Giving.{given_in_the_front, given_in_turn}
use Rattle.escpos_stream_jobs.proofs.encode.put_entries.Goals as goal

pub returns-in_err-put_entry : goal.returns-in_err-put_entry
returns-in_err-put_entry g c =
    let es = c.args.entries.now in
    let i = c.loop-entry.entry-index in
    let entry = c.entry-item.result in
    let inside : i < length es = omega arith in
    let joined = g.F.ByteForm.joined in
    let device = c.in_err-put_entry.field-0.0 in
    let more = ap g.F.ByteForm.of (one_more_entry es i entry inside c.entry-item.is) ∙ joined (entries_spelled (take i es)) (spell (commands_in entry)) in
    let stopped = given_in_turn (Err device) _ _ _ _ _ _ _ _ _ (g.F.ByteForm.of (entries_spelled (take i es))) (g.F.ByteForm.of (spell (commands_in entry)))
    (g.F.ByteForm.of (entries_spelled (take (i + 1) es))) c.loop-entry.invariant c.in_err-put_entry.ensures more in
    given_in_the_front c.from_residual.result device _ _ _ (g.F.ByteForm.of (entries_spelled (take (i + 1) es))) (g.F.ByteForm.of (entries_spelled (drop (i + 1) es))) _
    c.from_residual.ensures.1 stopped (ap g.F.ByteForm.of (entries_and_rest es (i + 1)) ∙ joined (entries_spelled (take (i + 1) es)) (entries_spelled (drop (i + 1) es)))

pub loop-entry-preserved : goal.loop-entry-preserved
loop-entry-preserved g c =
    let es = c.args.entries.now in
    let i = c.loop-entry.entry-index in
    let entry = c.entry-item.result in
    let inside : i < length es = omega arith in
    let joined = g.F.ByteForm.joined in
    let more = ap g.F.ByteForm.of (one_more_entry es i entry inside c.entry-item.is) ∙ joined (entries_spelled (take i es)) (spell (commands_in entry)) in
    given_in_turn (Ok tt) _ _ _ _ _ _ _ _ _ (g.F.ByteForm.of (entries_spelled (take i es))) (g.F.ByteForm.of (spell (commands_in entry))) _
    c.loop-entry.invariant c.in_ok-put_entry.ensures more
