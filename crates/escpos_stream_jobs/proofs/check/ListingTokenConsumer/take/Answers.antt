use Rattle.std.proofs.Common.{subst}
use Rattle.escpos_io.specs.Gather.{Carries}
use Rattle.escpos_passed.specs.Tokens.{taken}
use Rattle.escpos_stream_jobs.proofs.Listings.{lines_after}
use Rattle.escpos_stream_jobs.proofs.check.ListingTokenConsumer.take.Goals as goal

pub returns-in-Ok-clause-accepted : goal.returns-in-Ok-clause-accepted
returns-in-Ok-clause-accepted g c = λ start ts placed all. (
  λ first total carried.
      subst (λ v. Carries first (g.W.ByteOut.written c.put_line.new.writer) c.put_line.new.gather v) (lines_after total ts (taken c.args.command) c.args.place placed)
      (c.in-Ok.ensures.ok first _ (all.0 first total carried)),
  λ well. c.in-Ok.ensures.not_failed (all.1 well),
)
