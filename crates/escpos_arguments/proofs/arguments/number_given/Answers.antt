use Rattle.std.proofs.Common.{Ok, Err, ap, sym, subst}
use Rattle.std.specs.Str.Parse.{ParsesUnsigned, ExplainsUnsignedError, HasUnsignedDigitsIfOk}
use Rattle.clap.specs.Words.{found_of}
use Rattle.clap.proofs.WalkLemmas.{one_text-rows}
use Rattle.escpos_arguments.specs.ClapAnswers.{IsNumberIn}
use Rattle.escpos_arguments.proofs.TaskValues.{number_unique, reads_number}
use Rattle.escpos_arguments.proofs.arguments.number_given.Goals as goal

pub returns-in-Ok-clause-read : goal.returns-in-Ok-clause-read
returns-in-Ok-clause-read c =
    let read = reads_number _ (λ bs r. ParsesUnsigned 32 10 bs r × ExplainsUnsignedError 10 bs r × HasUnsignedDigitsIfOk bs r) (Ok c.in-Ok.number)
    (λ t x g. g.0) c.in-Ok.ensures.none c.in-Ok.ensures.value in
    subst (λ o. IsNumberIn o c.in-Ok.number) (one_text-rows (found_of c.args.given.now) c.args.option.now) read

pub returns-in-Ok-clause-taken : goal.returns-in-Ok-clause-taken
returns-in-Ok-clause-taken c = λ number h.
    let read = reads_number _ (λ bs r. ParsesUnsigned 32 10 bs r × ExplainsUnsignedError 10 bs r × HasUnsignedDigitsIfOk bs r) (Ok c.in-Ok.number)
    (λ t x g. g.0) c.in-Ok.ensures.none c.in-Ok.ensures.value in
    ap Ok (number_unique _ c.in-Ok.number number (subst (λ o. IsNumberIn o c.in-Ok.number) (one_text-rows (found_of c.args.given.now) c.args.option.now) read) h)

pub returns-in-Err-clause-taken : goal.returns-in-Err-clause-taken
returns-in-Err-clause-taken c = λ number h.
    let none = reads_number _ (λ bs r. ParsesUnsigned 32 10 bs r × ExplainsUnsignedError 10 bs r × HasUnsignedDigitsIfOk bs r) (Err c.in-Err.field-0)
    (λ t x g. g.0) c.in-Err.ensures.none c.in-Err.ensures.value in
    absurd (none number (subst (λ o. IsNumberIn o number) (sym (one_text-rows (found_of c.args.given.now) c.args.option.now)) h))
