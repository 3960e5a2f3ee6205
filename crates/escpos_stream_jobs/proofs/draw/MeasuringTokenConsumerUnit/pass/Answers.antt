-- Nothing is printed.
use Rattle.std.proofs.Common.{◌++◌, ap, subst, sym}
use Rattle.escpos_stream_jobs.specs.DrawSteps.{IsMeasured}
use Rattle.escpos_stream_jobs.proofs.TokenCommands.{none_more}
use Rattle.escpos_stream_jobs.proofs.draw.MeasuringTokenConsumerUnit.pass.Goals as goal

pub returns-clause-accepted : goal.returns-clause-accepted
returns-clause-accepted c = λ start ts i placed within is taken width before measured.
    subst (IsMeasured width c.args.self.now.page.sheet c.args.self.now.pen) (ap (λ v. before ++ v) (sym (none_more ts i c.args._bytes.now)))
    (taken width before measured)
