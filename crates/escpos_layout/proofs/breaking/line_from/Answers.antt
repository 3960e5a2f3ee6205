use Rattle.std.proofs.Common.{◌≡◌, ◌+◌, drop, sym, ap, ◌∙◌, arith}
use Rattle.std.proofs.lemmas.List.{length-drop}
use Rattle.std.specs.List.{prefix_len}
use Rattle.escpos_layout.specs.Wrapping.{is_blank, next_line}
use Rattle.escpos_layout.proofs.Breaks.{next_line-is, next_line-later}
use Rattle.escpos_layout.proofs.breaking.line_from.Goals as goal
use Rattle.escpos_layout.proofs.breaking.line_from.Goals.{After-after_blanks-next}

next_is : (c : After-after_blanks-next) → c.after_blanks-next.result ≡ next_line c.args.columns (drop c.args.start c.args.text.now)
next_is c =
    let rest = c.split_at.ensures.back in
    c.after_blanks-next.ensures.place
    ∙ ap (λ n. n + prefix_len is_blank (drop n c.split_at.result.1.now)) c.line_end-end.ensures.place
    ∙ sym (next_line-is c.args.columns c.split_at.result.1.now)
    ∙ ap (next_line c.args.columns) rest

pub returns-clause-next : goal.returns-clause-next
returns-clause-next c = ap (λ n. c.args.start + n) (next_is c)

pub returns-clause-goes_on : goal.returns-clause-goes_on
returns-clause-goes_on c = λ more.
    let left = length-drop c.args.start c.args.text.now in
    omega (arith, next_is c, next_line-later c.args.columns (drop c.args.start c.args.text.now) c.line_end-end.ensures.some (omega (arith, left, more)))
