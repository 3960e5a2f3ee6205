-- What came is the stream that was read.
use Rattle.escpos_till_jobs.proofs.RawTasks.{came_as}
use Rattle.escpos_till_jobs.proofs.raw.read_raw.Goals as goal

pub returns-clause-stream : goal.returns-clause-stream
returns-clause-stream g c =
    came_as (g.R.ByteIn.to_come c.args.input.now) c.in_ok-stream.stream.items c.in_ok-read_stream.field-0 c.args.width c.in_ok-stream.ensures.bytes
    c.in_ok-read_stream.ensures.content c.in_ok-read_stream.ensures.described
