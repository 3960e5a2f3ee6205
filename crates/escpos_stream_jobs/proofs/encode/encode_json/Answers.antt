-- The text describes no receipt, and why is printed.
use Rattle.std.proofs.Common.{Err, ap}
use Rattle.escpos_stream_jobs.proofs.Encodings.{encodes_fault}
use Rattle.escpos_stream_jobs.proofs.encode.encode_json.Goals as goal

pub returns-in-Err-clause-encodes : goal.returns-in-Err-clause-encodes
returns-in-Err-clause-encodes g c = λ text is.
    encodes_fault c.args.options.now _ _ text c.in-Err.fault (λ why e. c.in-Err.ensures.refused why (ap Err e) text is) c.refuse_text.ensures.refused c.refuse_text.ensures.memory
