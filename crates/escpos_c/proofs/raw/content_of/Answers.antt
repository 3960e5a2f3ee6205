-- The bytes that are read are those of the stream.
use Rattle.std.proofs.Common.{rules, ◌≡◌, ◌≤◌, length, subst}
use Rattle.escpos_job_parts.specs.declared.input.TheConstants.{INPUT_LIMIT}
use Rattle.escpos_stream.specs.Streams.{StreamGives}
use Rattle.escpos_c.proofs.raw.content_of.Goals as goal

pub returns-in-Ok-read_stream-clause-receipt : goal.returns-in-Ok-read_stream-clause-receipt
returns-in-Ok-read_stream-clause-receipt c =
    let (receipt, gives, whole, printable) = c.in-Ok-read_stream.ensures.described in
    let same : c.in-Ok.bytes.items ≡ c.args.stream.now = search rules in
    let short : length c.args.stream.now ≤ INPUT_LIMIT = search rules in
    (receipt, (short, subst (λ bytes. StreamGives bytes receipt) same gives, whole))
