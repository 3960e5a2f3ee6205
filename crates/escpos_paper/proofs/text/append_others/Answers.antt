-- The run that a row begins with, and the cells after it.
use Rattle.std.proofs.Common.{◌≡◌, ◌-◌, ◌++◌, ◌∷◌, ℕ, List, length, length-append, take, drop, sym, ◌∙◌, ap, append_assoc, arith}
use Rattle.escpos_paper.specs.declared.cell.Cell.{Cell}
use Rattle.escpos_paper.specs.Cells.{IsRun}
use Rattle.escpos_paper.specs.ItemsText.{cells_text, run_text}
use Rattle.escpos_paper.proofs.Runs.{run_first}
use Rattle.escpos_paper.proofs.text.append_others.Goals as goal

-- The text of both parts of the cells after the first one.
in_two : (margin n k : ℕ) (x : Cell) (others front back : List Cell) → IsRun (take n (x ∷ others)) → k ≡ n - 1 → front ≡ take k others
    → back ≡ drop k others → cells_text margin x.style others ≡ run_text front ++ cells_text margin x.style back
in_two margin n k x others front back is_run count in_front behind =
    run_first margin n x others is_run
    ∙ ap (λ j. run_text (take j others) ++ cells_text margin x.style (drop j others)) (sym count)
    ∙ ap (λ (r : List Cell). run_text r ++ cells_text margin x.style (drop k others)) (sym in_front)
    ∙ ap (λ (r : List Cell). run_text front ++ cells_text margin x.style r) (sym behind)

pub returns-clause-kept : goal.returns-clause-kept
returns-clause-kept c =
    let style = c.args.first.now.style in
    let front = c.split_at.result.0.now in
    let back = c.split_at.result.1.now in
    c.append_cells.ensures.kept ∙ ap (λ t. t ++ cells_text c.args.margin style back) c.append_run.ensures.kept
    ∙ append_assoc c.args.gather.now.kept (run_text front) (cells_text c.args.margin style back)
    ∙ ap (λ t. c.args.gather.now.kept ++ t) (sym (in_two c.args.margin c.args.run c.saturating_sub.result c.args.first.now c.args.others.now front back
    c.requires.is_run c.saturating_sub.ensures c.split_at.ensures.front c.split_at.ensures.back))

pub returns-clause-short : goal.returns-clause-short
returns-clause-short c =
    let style = c.args.first.now.style in
    let front = c.split_at.result.0.now in
    let back = c.split_at.result.1.now in
    let whole = in_two c.args.margin c.args.run c.saturating_sub.result c.args.first.now c.args.others.now front back
    c.requires.is_run c.saturating_sub.ensures c.split_at.ensures.front c.split_at.ensures.back in
    omega (
      arith,
      ap length whole,
      length-append (run_text front) (cells_text c.args.margin style back),
      c.append_run.ensures.short,
      c.append_cells.ensures.short,
      c.split_at.ensures.front_len,
      c.split_at.ensures.back_len,
      c.requires.in_row,
      c.saturating_sub.ensures,
    )
