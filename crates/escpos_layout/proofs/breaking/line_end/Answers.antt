use Rattle.std.proofs.Common.{◌+◌, false, sym, ap, ◌∙◌, arith}
use Rattle.escpos_layout.specs.Wrapping.{end_without, end_before_word}
use Rattle.escpos_layout.proofs.Breaks.{line_end-whole, line_end-broken, end-cut, end-blank}
use Rattle.escpos_layout.proofs.breaking.line_end.Goals as goal

pub returns-then-text-count-clause-place : goal.returns-then-text-count-clause-place
returns-then-text-count-clause-place c = sym (line_end-whole c.args.columns c.args.text.now (omega arith))

pub returns-then-words-eq0-clause-place : goal.returns-then-words-eq0-clause-place
returns-then-words-eq0-clause-place c =
    let columns = c.count-count.ensures.kept in
    let words = c.end_without-words.ensures.place ∙ ap (λ n. end_without false (n + 1) c.args.text.now) columns in
    columns
    ∙ sym (line_end-broken c.args.columns c.args.text.now (omega arith) ∙ end-cut c.args.columns _ c.args.text.now (sym words ∙ c.if-words-eq0.true))

pub returns-else-words-eq0-clause-place : goal.returns-else-words-eq0-clause-place
returns-else-words-eq0-clause-place c =
    let columns = c.count-count.ensures.kept in
    let words = c.end_without-words.ensures.place ∙ ap (λ n. end_without false (n + 1) c.args.text.now) columns in
    c.end_without.ensures.place
    ∙ sym (line_end-broken c.args.columns c.args.text.now (omega arith)
    ∙ ap (end_before_word c.args.columns c.args.text.now) (sym words)
    ∙ end-blank c.args.columns c.end_without-words.result c.args.text.now c.if-words-eq0.false)
