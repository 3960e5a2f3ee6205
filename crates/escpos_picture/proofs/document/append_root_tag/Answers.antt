use Rattle.std.proofs.Common.{◌≡◌, ℕ, List, ◌++◌, append_assoc}
use Rattle.std.specs.Prelude.{codes, decimal}
use Rattle.escpos_picture.specs.Document.{root_tag}
use Rattle.escpos_picture.specs.Numbers.{quarters}
use Rattle.escpos_picture.proofs.document.append_root_tag.Goals as goal

one_after_another : (kept a n b q d m e : List ℕ) → kept ++ a ++ n ++ b ++ q ++ d ++ n ++ m ++ q ++ e ≡ kept ++ (a ++ n ++ b ++ q ++ d ++ n ++ m ++ q ++ e)
one_after_another kept a n b q d m e = simp append_assoc

pub returns-clause-kept : goal.returns-clause-kept
unfolding root_tag
returns-clause-kept c =
    rw (c.extend.ensures.kept, c.append_quarters-2.ensures.kept, c.append_between-2.ensures.kept, c.append_quarters.ensures.kept, c.append_between.ensures.kept)
    (one_after_another _ (codes "<svg xmlns=\"http://www.w3.org/2000/svg\" version=\"1.1\" width=\"") (decimal c.args.width) (codes "\" height=\"") (quarters c.args.height)
    (codes "\" viewBox=\"0 0 ") (codes " ") (codes "\" xml:space=\"preserve\">\n"))
