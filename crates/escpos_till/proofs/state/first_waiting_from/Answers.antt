-- The next one that waits is the first, where those before wait no more.
use Rattle.escpos_till.proofs.StateLemmas.{first_of_next}
use Rattle.escpos_till.proofs.state.first_waiting_from.Goals as goal

pub returns : goal.returns
returns c = first_of_next c.args.states.now c.args.from c.next_waiting_from.result c.requires.passed c.next_waiting_from.ensures
