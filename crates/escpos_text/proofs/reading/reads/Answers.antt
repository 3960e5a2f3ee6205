use Rattle.std.proofs.Common.{sym, ◌∙◌, arith}
use Rattle.escpos_text.proofs.LowestBytes.{reads-low, reads-high}
use Rattle.escpos_text.proofs.reading.reads.Goals as goal

pub returns-then-byte-lt128 : goal.returns-then-byte-lt128
returns-then-byte-lt128 c = c.low_character.ensures ∙ sym (reads-low c.args.set c.args.table c.args.byte (omega arith))

pub returns-else-byte-lt128 : goal.returns-else-byte-lt128
returns-else-byte-lt128 c = c.high_character.ensures ∙ sym (reads-high c.args.set c.args.table c.args.byte (omega arith))
