-- The text isn't JSON, and that is printed.
use Rattle.std.proofs.Common.{Err, ap}
use Rattle.escpos_stream_jobs.proofs.Encodings.{encodes_fault}
use Rattle.escpos_stream_jobs.proofs.encode.encode_text.Goals as goal

pub returns-in-Err-clause-encodes : goal.returns-in-Err-clause-encodes
returns-in-Err-clause-encodes g c = encodes_fault c.args.options.now _ _ c.args.text.items c.in-Err.fault (λ why e. c.in-Err.ensures.refused why (ap Err e) c.args.options.now) c.refuse_text.ensures.refused c.refuse_text.ensures.memory
