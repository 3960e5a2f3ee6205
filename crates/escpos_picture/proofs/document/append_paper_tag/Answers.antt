use Rattle.std.proofs.Common.{◌≡◌, ℕ, List, ◌++◌, append_assoc}
use Rattle.std.specs.Prelude.{codes, decimal}
use Rattle.escpos_picture.specs.Document.{paper_tag}
use Rattle.escpos_picture.specs.Numbers.{quarters}
use Rattle.escpos_picture.proofs.document.append_paper_tag.Goals as goal

one_after_another : (kept a n b q e : List ℕ) → kept ++ a ++ n ++ b ++ q ++ e ≡ kept ++ (a ++ n ++ b ++ q ++ e)
one_after_another kept a n b q e = simp append_assoc

pub returns-clause-kept : goal.returns-clause-kept
unfolding paper_tag
returns-clause-kept c =
    rw (c.extend.ensures.kept, c.append_quarters.ensures.kept, c.append_between.ensures.kept)
    (one_after_another _ (codes "<rect class=\"paper\" width=\"") (decimal c.args.width) (codes "\" height=\"") (quarters c.args.height) (codes "\"/>\n"))
