use Rattle.escpos_stream_jobs.proofs.PlainLines.{plain_end, plain_fault, plain_words}
use Rattle.escpos_stream_jobs.proofs.laws.last_lines_are_plain.Goals as goal

pub returns : goal.returns
returns c = record { ends = plain_end; faults = plain_fault; words = plain_words }
