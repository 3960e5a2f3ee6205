use Rattle.std.proofs.Common.{◌≤◌, slice_index, subst, arith}
use Rattle.escpos_text.specs.declared.tables.TheConstants.{PLACES}
use Rattle.escpos_text.proofs.CodeTables.{none, unknown}
use Rattle.escpos_text.proofs.tables.place_in_tables.Goals as goal

pub returns-then-number-gt53 : goal.returns-then-number-gt53
returns-then-number-gt53 c = unknown c.args.number (omega arith)

pub returns-else-place-lt32 : goal.returns-else-place-lt32
returns-else-place-lt32 c =
    let le : 32 ≤ slice_index PLACES c.from.result = c.if-place-lt32.false in
    none c.args.number (omega arith) (subst (λ n. 32 ≤ slice_index PLACES n) c.from.ensures le)
