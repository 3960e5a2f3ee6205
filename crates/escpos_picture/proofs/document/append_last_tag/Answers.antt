use Rattle.std.proofs.Common.{append_assoc}
use Rattle.escpos_picture.specs.Document.{last_tag}
use Rattle.escpos_picture.proofs.document.append_last_tag.Goals as goal

pub returns-clause-kept : goal.returns-clause-kept
unfolding last_tag
returns-clause-kept c =
    rw (c.extend-2.ensures.kept, c.append_quarters.ensures.kept, c.extend.ensures.kept, c.paper_height.ensures.value) simp append_assoc
