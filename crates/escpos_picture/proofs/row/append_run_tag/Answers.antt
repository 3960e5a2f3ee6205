use Rattle.std.proofs.Common.{◌≡◌, append_assoc, length}
use Rattle.std.proofs.lemmas.List.{length-map}
use Rattle.escpos_paper.specs.declared.cell.Cell.{Cell}
use Rattle.escpos_picture.specs.Rows.{bytes_of, run_tag}
use Rattle.escpos_picture.proofs.row.append_run_tag.Goals as goal

pub returns-clause-kept : goal.returns-clause-kept
unfolding run_tag
returns-clause-kept c =
    let count : length (bytes_of c.args.cells.now) ≡ length c.args.cells.now = length-map c.args.cells.now (λ (x : Cell). x.byte) in
    rw (c.append_between.ensures.kept, c.append_text_start.ensures.kept, c.saturating_sub.ensures, c.face_dots.ensures.value, count) simp append_assoc
