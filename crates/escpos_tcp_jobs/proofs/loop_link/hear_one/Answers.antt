use Rattle.escpos_tcp_jobs.proofs.Quiet.{stays_quiet}
use Rattle.escpos_tcp_jobs.proofs.loop_link.hear_one.Goals as goal

pub returns : goal.returns
returns c = record {
  quiet =
      stays_quiet c.args.host.now.phase c.args.host.now c.args.bytes.now c.heard.result.consumed c.heard.result.event c.heard.new.self c.heard.ensures.down c.heard.ensures.up;
}
