use Rattle.std.proofs.Common.{◌≡◌, ◌-◌, ◌*◌, ◌+◌, ◌++◌, [], get_or, sym, ap, ◌∙◌, arith}
use Rattle.std.proofs.lemmas.List.{get_or_append_left, get_or-append-add}
use Rattle.std.proofs.lemmas.Bool.{ltb-true}
use Rattle.escpos_barcode.specs.Tables.{set_a, set_b, left_digits}
use Rattle.escpos_barcode.proofs.Rows.{row_at, digit_range}
use Rattle.escpos_barcode.proofs.tables.left_digit.Goals as goal

pub returns-then-set-eq0-clause-row : goal.returns-then-set-eq0-clause-row
unfolding set_a set_b left_digits
returns-then-set-eq0-clause-row c =
    let d = digit_range c.args.digit c.requires.digit in
    let place : 10 * c.args.set + (c.args.digit - 48) - 0 ≡ c.args.digit - 48 = omega arith in
    rw c.from-digit.ensures
    (sym (get_or_append_left set_a set_b [] (c.args.digit - 48) (omega arith)) ∙ ap (λ i. get_or (set_a ++ set_b) i []) (sym place)
    ∙ row_at (set_a ++ set_b) 0 (10 * c.args.set + (c.args.digit - 48)) [] (omega arith) (omega arith))

pub returns-else-set-eq0-clause-row : goal.returns-else-set-eq0-clause-row
unfolding set_a set_b left_digits
returns-else-set-eq0-clause-row c =
    let d = digit_range c.args.digit c.requires.digit in
    let small = ltb-true c.args.set 2 c.requires.set in
    let place : 10 * c.args.set + (c.args.digit - 48) - 0 ≡ 10 + (c.args.digit - 48) = omega arith in
    rw c.from-digit.ensures
    (sym (get_or-append-add set_a set_b (c.args.digit - 48) []) ∙ ap (λ i. get_or (set_a ++ set_b) i []) (sym place)
    ∙ row_at (set_a ++ set_b) 0 (10 * c.args.set + (c.args.digit - 48)) [] (omega arith) (omega arith))
