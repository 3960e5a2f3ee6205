use Rattle.std.proofs.Common.{sym, subst}
use Rattle.std.specs.Prelude.{Some, None}
use Rattle.escpos_text.specs.Reading.{reads_low, IsLowest}
use Rattle.escpos_text.proofs.LowBytes.{place-lowest, place-none, set_0-none}
use Rattle.escpos_text.proofs.reading.exchanged_for.Goals as goal

pub returns-then-set-eq0 : goal.returns-then-set-eq0
returns-then-set-eq0 c = subst (λ set. IsLowest 0x80 (reads_low set) c.args.character None) (sym c.if-set-eq0.true) (set_0-none c.args.character c.requires)

pub returns-in-Some : goal.returns-in-Some
returns-in-Some c =
    subst (λ b. IsLowest 0x80 (reads_low c.args.set) c.args.character (Some b)) (sym c.exchanged_byte.ensures)
    (place-lowest c.args.set c.args.character c.in-Some.place c.requires (sym c.in-Some.ensures.place) c.in-Some.ensures.short)

pub returns-in-None : goal.returns-in-None
returns-in-None c = place-none c.args.set c.args.character c.requires (sym c.in-None.ensures.place)
