use Rattle.std.proofs.Common.{sym, ◌∙◌}
use Rattle.escpos_text.proofs.LowBytes.{own-lowest, own-none, read_same, read_other}
use Rattle.escpos_text.proofs.reading.own_byte.Goals as goal

pub returns-then-eq : goal.returns-then-eq
returns-then-eq c = own-lowest c.args.set c.args.character c.requires (sym c.low_character.ensures ∙ read_same _ _ c.if-eq.ensures)

pub returns-else-eq : goal.returns-else-eq
returns-else-eq c = own-none c.args.set c.args.character c.requires (λ e. read_other _ _ c.if-eq.ensures (c.low_character.ensures ∙ e))
