use Rattle.std.proofs.Common.{◌==◌, position, sym, ap, ◌∙◌}
use Rattle.escpos_text.specs.CodeTables.{characters_of}
use Rattle.escpos_text.proofs.Index.{sorted-ascends, place-at, place-none}
use Rattle.escpos_text.proofs.tables.place_of.Goals as goal

pub found-requires : goal.found-requires
found-requires c = sorted-ascends (characters_of c.args.number) _ _ c.in-Some.ensures

pub returns-in-Ok-clause-place : goal.returns-in-Ok-clause-place
returns-in-Ok-clause-place c =
    let at = place-at (characters_of c.args.number) _ _ c.in-Ok.at c.in-Some.ensures c.in-Ok.ensures.0 in
    sym (ap (λ v. position (λ x. x == v) (characters_of c.args.number)) (sym c.in-Ok.ensures.1) ∙ at.1)

pub returns-in-Ok-clause-short : goal.returns-in-Ok-clause-short
returns-in-Ok-clause-short c = (place-at (characters_of c.args.number) _ _ c.in-Ok.at c.in-Some.ensures c.in-Ok.ensures.0).2

pub returns-in-Err-clause-place : goal.returns-in-Err-clause-place
returns-in-Err-clause-place c = sym (place-none (characters_of c.args.number) _ _ c.args.character c.in-Some.ensures c.in-Err.ensures)
