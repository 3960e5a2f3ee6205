use Rattle.std.specs.Prelude.{chars}
use Rattle.unicode_normalization.specs.Forms.{nfc}
use Rattle.escpos_text.proofs.TextLaws.{in_range}
use Rattle.escpos_text.proofs.writing.write_text.Goals as goal

pub returns-then-is_err-clause-in_range : goal.returns-then-is_err-clause-in_range
returns-then-is_err-clause-in_range c = λ commands h. in_range c.args.encoding.now (nfc (chars c.args.text.now)) commands h c.tables.ensures.range

pub returns-else-is_err-clause-in_range : goal.returns-else-is_err-clause-in_range
returns-else-is_err-clause-in_range c = λ commands h. in_range c.args.encoding.now (nfc (chars c.args.text.now)) commands h c.tables.ensures.range
