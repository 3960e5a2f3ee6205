use Rattle.std.proofs.Common.{sym, subst, None}
use Rattle.escpos_text.proofs.HighBytes.{high-lowest, high-none, high-nul}
use Rattle.escpos_text.specs.HighBytes.{IsLowestHigh}
use Rattle.escpos_text.proofs.reading.high_byte.Goals as goal

pub returns-in-Some : goal.returns-in-Some
returns-in-Some c = high-lowest c.args.table c.args.character c.in-Some.place c.if-character-eq0.false (sym c.in-Some.ensures.place) c.in-Some.ensures.short

pub returns-in-None : goal.returns-in-None
returns-in-None c = high-none c.args.table c.args.character c.if-character-eq0.false (sym c.in-None.ensures.place)

pub returns-then-character-eq0 : goal.returns-then-character-eq0
returns-then-character-eq0 c = subst (λ n. IsLowestHigh c.args.table n None) (sym c.if-character-eq0.true) (high-nul c.args.table)
