use Rattle.std.proofs.Common.{◌≡◌, ◌∙◌, ◌-◌, length, sym, subst, ap, true, arith}
use Rattle.escpos_job_parts.specs.Notes.{has_check_digit}
use Rattle.escpos_paper.specs.CheckDigit.{all_digits}
use Rattle.escpos_job_parts.proofs.CheckDigits.{digits_of_bars, front_digits, each_is_large, some_digits}
use Rattle.escpos_job_parts.proofs.notes.wrong_digit.Goals as goal

pub overflow_sub-given : goal.overflow_sub-given
overflow_sub-given c =
    let bars = c.args.bars.now in
    let content = c.content-content.result.now in
    let has : has_check_digit bars.symbology (length content) ≡ true = ap (λ s. has_check_digit s (length content)) (sym c.symbology.ensures) ∙ sym c.has_check_digit.ensures ∙ c.if-not-has_check_digit.false in
    let has_bars = subst (λ v. has_check_digit bars.symbology (length v) ≡ true) c.content-content.ensures.content has in
    let digits = subst (λ v. all_digits v ≡ true) (sym c.content-content.ensures.content) (digits_of_bars bars c.content-content.ensures.range has_bars) in
    each_is_large content (length content - 1) digits (let some = some_digits bars.symbology (length content) has in omega arith)

pub check_digit_of-right-requires : goal.check_digit_of-right-requires
check_digit_of-right-requires c =
    let bars = c.args.bars.now in
    let content = c.content-content.result.now in
    let has : has_check_digit bars.symbology (length content) ≡ true = ap (λ s. has_check_digit s (length content)) (sym c.symbology.ensures) ∙ sym c.has_check_digit.ensures ∙ c.if-not-has_check_digit.false in
    let has_bars = subst (λ v. has_check_digit bars.symbology (length v) ≡ true) c.content-content.ensures.content has in
    let digits = subst (λ v. all_digits v ≡ true) (sym c.content-content.ensures.content) (digits_of_bars bars c.content-content.ensures.range has_bars) in
    front_digits (length content - 1) content digits
