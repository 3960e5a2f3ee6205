-- Nothing is printed.
use Rattle.std.proofs.Common.{◌++◌, ap, subst, sym}
use Rattle.escpos_stream_jobs.specs.DrawSteps.{IsDrawn}
use Rattle.escpos_stream_jobs.proofs.TokenCommands.{none_more}
use Rattle.escpos_stream_jobs.proofs.draw.DrawingTokenConsumer.pass.Goals as goal

pub returns-clause-accepted : goal.returns-clause-accepted
returns-clause-accepted g c = λ start ts i placed within is taken. (
  λ width text first before drawn.
      subst (IsDrawn width text first (g.W.ByteOut.written c.args._output.now) c.args.self.now.gather c.args.self.now.page.sheet c.args.self.now.pen) (ap (λ v. before ++ v) (sym (none_more ts i c.args._bytes.now)))
      (taken.0 width text first before drawn),
  taken.1,
  taken.2,
)
