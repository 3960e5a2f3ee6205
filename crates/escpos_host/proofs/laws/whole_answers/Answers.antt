use Rattle.escpos_host.proofs.EventsInTurn.{whole_answers}
use Rattle.escpos_host.proofs.laws.whole_answers.Goals as goal

pub returns : goal.returns
returns c = whole_answers c.answers.ensures.joined c.answers.ensures.cut
