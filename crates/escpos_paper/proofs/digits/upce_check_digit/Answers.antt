use Rattle.std.proofs.Common.{get_or, sym, subst, ap, ◌∙◌}
use Rattle.std.specs.Prelude.{IsTrue}
use Rattle.escpos_paper.specs.CheckDigit.{all_digits, digit, upca_digits}
use Rattle.escpos_paper.proofs.ExpandedDigits.{as_six, as_seven, expanded_digits, last_six}
use Rattle.escpos_paper.proofs.digits.upce_check_digit.Goals as goal

pub check_digit-requires : goal.check_digit-requires
check_digit-requires c =
    let ds = c.args.digits.now in
    subst (λ v. IsTrue (all_digits v)) (sym c.expanded.ensures)
    (expanded_digits (get_or ds 0 0) (get_or ds 1 0) (get_or ds 2 0) (get_or ds 3 0) (get_or ds 4 0) (get_or ds 5 0)
    (subst (λ v. IsTrue (all_digits v)) (as_six ds c.in-len6.len_at_least c.in-len6.len_below) c.requires))

pub check_digit-requires-in-len7 : goal.check_digit-requires-in-len7
check_digit-requires-in-len7 c =
    let ds = c.args.digits.now in
    subst (λ v. IsTrue (all_digits v)) (sym c.expanded-in-len7.ensures)
    (expanded_digits (get_or ds 1 0) (get_or ds 2 0) (get_or ds 3 0) (get_or ds 4 0) (get_or ds 5 0) (get_or ds 6 0)
    (last_six (get_or ds 0 0) (get_or ds 1 0) (get_or ds 2 0) (get_or ds 3 0) (get_or ds 4 0) (get_or ds 5 0) (get_or ds 6 0)
    (subst (λ v. IsTrue (all_digits v)) (as_seven ds c.in-len7.len_at_least c.in-len7.len_below) c.requires)))

pub returns-in-len6-clause-digit : goal.returns-in-len6-clause-digit
returns-in-len6-clause-digit c =
    c.check_digit.ensures.digit ∙ ap (λ v. digit v) (c.expanded.ensures ∙ sym (ap (λ v. upca_digits v) (as_six c.args.digits.now c.in-len6.len_at_least c.in-len6.len_below)))

pub returns-in-len7-clause-digit : goal.returns-in-len7-clause-digit
returns-in-len7-clause-digit c =
    c.check_digit-in-len7.ensures.digit
    ∙ ap (λ v. digit v) (c.expanded-in-len7.ensures ∙ sym (ap (λ v. upca_digits v) (as_seven c.args.digits.now c.in-len7.len_at_least c.in-len7.len_below)))
