-- The bytes of an entry follow those before it.
use Rattle.std.proofs.Common.{◌<◌, ◌∙◌, ◌++◌, length, ap, sym, arith}
use Rattle.escpos_command.specs.CommandTable.{spell}
use Rattle.escpos_receipt.specs.EntryCommands.{commands_in}
use Rattle.escpos_stream_jobs.proofs.EntrySpellings.{one_more_entry}
use Rattle.escpos_c.proofs.spelling.spelled.Goals as goal

pub loop-entry-preserved : goal.loop-entry-preserved
loop-entry-preserved c =
    let es = c.args.entries.now in
    let i = c.loop-entry.entry-index in
    let entry = c.entry-item.result in
    let inside : i < length es = omega arith in
    c.in_ok-append.ensures ∙ ap (λ bs. bs ++ spell (commands_in entry)) c.loop-entry.invariant ∙ sym (one_more_entry es i entry inside c.entry-item.is)
