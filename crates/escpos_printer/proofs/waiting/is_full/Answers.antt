use Rattle.escpos_printer.proofs.OneBlock.{few_wait, full_with_block, full_without}
use Rattle.escpos_printer.proofs.waiting.is_full.Goals as goal

pub returns-then-len-lt-MOST_WAITING : goal.returns-then-len-lt-MOST_WAITING
returns-then-len-lt-MOST_WAITING c = few_wait c.args.waiting.now.items c.len.result c.len.ensures.len c.if-len-lt-MOST_WAITING.true

pub returns-in-Some : goal.returns-in-Some
returns-in-Some c = full_with_block c.args.waiting.now.items c.len-in-Some.result c.in-Some.field-0 c.len-in-Some.ensures.len c.requires.one_block c.in-Some.ensures

pub returns-in-None : goal.returns-in-None
returns-in-None c = full_without c.args.waiting.now.items c.len-in-None.result c.len-in-None.ensures.len c.in-None.ensures
