use Rattle.std.proofs.Common.{append_assoc}
use Rattle.escpos_picture.proofs.Boxes.{added_text}
use Rattle.escpos_picture.proofs.bars.append_box.Goals as goal

pub returns-clause-kept : goal.returns-clause-kept
returns-clause-kept c =
    let text = added_text c.args.content.now c.args.added in
    rw (c.extend.ensures.kept, c.append_added.ensures.kept, c.append_characters.ensures.kept, c.append_box_text.ensures.kept, c.append_box_frame.ensures.kept, c.append_group.ensures.kept, c.whole_line.ensures, c.from-line_dots.ensures, c.dots.ensures.kept, c.bars_top-top.ensures.value, c.from-height.ensures, c.shown_len.ensures.value, text) simp append_assoc
