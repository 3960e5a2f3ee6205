-- All of the input is the text.
use Rattle.std.proofs.Common.{rules, ◌≤◌, length}
use Rattle.escpos_job_parts.specs.declared.input.TheConstants.{INPUT_LIMIT}
use Rattle.escpos_command.specs.CommandTable.{spell}
use Rattle.escpos_stream_jobs.proofs.Encodings.{encodes_input}
use Rattle.escpos_stream_jobs.proofs.encode.encode_as.Goals as goal

pub returns-in-Ok-clause-encodes : goal.returns-in-Ok-clause-encodes
returns-in-Ok-clause-encodes g c =
    let short : length c.in-Ok.text.items ≤ INPUT_LIMIT = search rules in
    encodes_input c.args.options.now (λ cs. g.F.ByteForm.written (spell cs)) _ (g.R.ByteIn.to_come c.args.input.now) c.in-Ok.text.items c.in-Ok.ensures.whole short c.encode_text.ensures.encodes
