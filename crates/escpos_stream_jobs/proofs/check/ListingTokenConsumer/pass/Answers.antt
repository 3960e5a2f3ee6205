use Rattle.std.proofs.Common.{◌++◌, ap, subst, ◌∙◌}
use Rattle.escpos_io.specs.Gather.{Carries}
use Rattle.escpos_passed.specs.Tokens.{passed}
use Rattle.escpos_stream_jobs.specs.Check.{passed_line, token_lines}
use Rattle.escpos_stream_jobs.proofs.Listings.{lines_after}
use Rattle.escpos_stream_jobs.proofs.check.ListingTokenConsumer.pass.Goals as goal

pub returns-in-Ok-clause-accepted : goal.returns-in-Ok-clause-accepted
returns-in-Ok-clause-accepted g c = λ start ts i placed within is all. (
  λ first total carried.
      subst (λ v. Carries first (g.W.ByteOut.written c.put_passed_line.new.writer) c.put_passed_line.new.gather v)
      (ap (λ r. (total ++ token_lines 0 ts) ++ passed_line c.args.place r c.args.bytes.now) is ∙ lines_after total ts (passed i c.args.bytes.now) c.args.place placed)
      (c.in-Ok.ensures.ok first _ (all.0 first total carried)),
  λ well. c.in-Ok.ensures.not_failed (all.1 well),
)
