-- What is written of the bytes and after them is kept back, and is printed at the end.
use Rattle.std.proofs.Common.{◌∙◌, ◌++◌, inl, refl, [], ap, sym}
use Rattle.std.specs.List.{flat_map}
use Rattle.escpos_command.specs.CommandTable.{spell}
use Rattle.escpos_receipt.specs.EntryCommands.{commands_in}
use Rattle.escpos_job_parts.proofs.Successes.{succeeded}
use Rattle.escpos_stream_jobs.proofs.encode.put_whole.Goals as goal

pub returns-in-Ok-clause-says : goal.returns-in-Ok-clause-says
returns-in-Ok-clause-says g c =
    let first = g.W.ByteOut.written c.args.output.now in
    let digits = succeeded c.put_entries.result c.if-is_err.ensures.value c.put_entries.ensures.ok first [] (c.new-gather.ensures.carries first) in
    let line = succeeded c.put.result c.if-is_err-2.ensures.value c.put.ensures.given.ok first _ digits in
    record { ends = inl refl; out = λ well. c.in-Ok.ensures.ok first _ (rw (g.F.ByteForm.whole (spell (flat_map commands_in c.args.entries.now)) ∙ ap (λ e. g.F.ByteForm.of (spell (flat_map commands_in c.args.entries.now)) ++ e) (sym c.ending.ensures)) line) }
