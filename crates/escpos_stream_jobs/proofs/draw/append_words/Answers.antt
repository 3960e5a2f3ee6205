use Rattle.std.proofs.Common.{◌++◌, ◌∙◌, ap, append_assoc}
use Rattle.std.specs.Prelude.{codes, decimal}
use Rattle.escpos_stream_jobs.proofs.draw.append_words.Goals as goal

pub returns-clause-kept : goal.returns-clause-kept
returns-clause-kept c =
    let old = c.args.gather.now.kept in
    let first = codes "passed " in
    let number = decimal c.args.passed in
    let last = codes ": the paper may differ\n" in
    c.extend-2.ensures.kept ∙ ap (λ v. v ++ last) (c.append_number.ensures.kept ∙ ap (λ v. v ++ number) c.extend.ensures.kept)
    ∙ append_assoc (old ++ first) number last ∙ append_assoc old first (number ++ last)
