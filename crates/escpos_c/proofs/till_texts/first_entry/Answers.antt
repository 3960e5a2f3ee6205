-- The first line is that of no entry.
use Rattle.std.proofs.Common.{rules}
use Rattle.escpos_c.proofs.TillTextLemmas.{stopped_at}
use Rattle.escpos_c.proofs.till_texts.first_entry.Goals as goal

pub returns-in_err-entry-clause-damaged : goal.returns-in_err-entry-clause-damaged
returns-in_err-entry-clause-damaged c = λ is.
    stopped_at c.args.text.now c.in-Some.end c.in-Some.ensures (c.entry_in.ensures.damaged (search rules))
