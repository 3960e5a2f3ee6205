use Rattle.std.proofs.Common.{Some}
use Rattle.escpos_text.proofs.LowestBytes.{lowest-low, lowest-high, byte_for-from_lowest}
use Rattle.escpos_text.proofs.reading.byte_for.Goals as goal

pub returns-in-Some-clause-value : goal.returns-in-Some-clause-value
returns-in-Some-clause-value c = byte_for-from_lowest c.args.set c.args.table c.args.character (Some c.in-Some.byte) (lowest-low c.args.set c.args.table c.args.character c.in-Some.byte c.in-Some.ensures)

pub returns-in-Some-clause-lowest : goal.returns-in-Some-clause-lowest
returns-in-Some-clause-lowest c = lowest-low c.args.set c.args.table c.args.character c.in-Some.byte c.in-Some.ensures

pub returns-in-None-clause-value : goal.returns-in-None-clause-value
returns-in-None-clause-value c = byte_for-from_lowest c.args.set c.args.table c.args.character c.high_byte.result (lowest-high c.args.set c.args.table c.args.character c.high_byte.result c.in-None.ensures c.high_byte.ensures)

pub returns-in-None-clause-lowest : goal.returns-in-None-clause-lowest
returns-in-None-clause-lowest c = lowest-high c.args.set c.args.table c.args.character c.high_byte.result c.in-None.ensures c.high_byte.ensures
