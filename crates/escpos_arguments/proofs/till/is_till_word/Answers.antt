-- A till's words are these.
use Rattle.std.proofs.Common.{◌≡◌, refl, arith}
use Rattle.std.specs.Prelude.{codes}
use Rattle.escpos_arguments.proofs.till.is_till_word.Goals as goal

pub returns-in-queue-3 : goal.returns-in-queue-3
returns-in-queue-3 c =
    let is : codes "cancel" ≡ c.args.word.now = cc c.in-queue.is-cancel in
    (λ yes. (2, omega arith, is), λ among. refl)
