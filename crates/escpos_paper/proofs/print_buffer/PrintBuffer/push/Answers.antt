use Rattle.std.proofs.Common.{◌≡◌, length, sym, ap, subst, ◌∙◌, arith}
use Rattle.std.specs.Prelude.{IsTrue}
use Rattle.escpos_command.specs.declared.line_width.TheConstants.{MOST_LINE_DOTS}
use Rattle.escpos_paper.specs.Cells.{Placed, dots, end_of, next_place, reach_of}
use Rattle.escpos_paper.specs.Rows.{fits}
use Rattle.escpos_paper.specs.Steps.{has_room}
use Rattle.escpos_paper.proofs.Rooms.{cell_bounds, dots_with_next, end_with_next, length_with_next, reach_with_next}
use Rattle.escpos_paper.proofs.TextRuns.{wide_face}
use Rattle.escpos_paper.proofs.print_buffer.PrintBuffer.push.Goals as goal

pub push-requires : goal.push-requires
push-requires c =
    let p : Placed = record { cells = c.self.inside.cells; moved = c.self.inside.moved } in
    let wide = wide_face c.args.cell.style c.requires.visible in
    let narrow = c.dots-dots.ensures.narrow c.requires.small.0 c.requires.small.1 in
    let room = subst (λ q. IsTrue (has_room MOST_LINE_DOTS q c.args.cell)) (sym c.self.view_is) c.requires.room in
    (cell_bounds p c.args.cell wide (omega (arith, narrow, c.dots-dots.ensures.value)) (omega (arith, c.self.invariant.4, c.self.invariant.0)) room).few

pub invariant_of-self : goal.invariant_of-self
invariant_of-self c =
    let p : Placed = record { cells = c.self.inside.cells; moved = c.self.inside.moved } in
    let wide = wide_face c.args.cell.style c.requires.visible in
    let narrow = c.dots-dots.ensures.narrow c.requires.small.0 c.requires.small.1 in
    let room = subst (λ q. IsTrue (has_room MOST_LINE_DOTS q c.args.cell)) (sym c.self.view_is) c.requires.room in
    let bounds = cell_bounds p c.args.cell wide (omega (arith, narrow, c.dots-dots.ensures.value)) (omega (arith, c.self.invariant.4, c.self.invariant.0)) room in
    let next : c.next.result ≡ next_place p = c.next.ensures.value ∙ ap next_place (sym c.self.view_is) in
    let total = ap dots c.push.ensures ∙ dots_with_next p c.args.cell in
    let ends = ap end_of c.push.ensures ∙ end_with_next p c.args.cell in
    let reaches = ap reach_of c.push.ensures ∙ reach_with_next p c.args.cell in
    let longer = ap length c.push.ensures ∙ length_with_next p c.args.cell in (
      omega (arith, total, c.self.invariant.0, c.dots-dots.ensures.value),
      omega (arith, ends, next, c.dots-dots.ensures.value),
      omega (arith, reaches, c.max-self-inside.ensures, next, c.dots-dots.ensures.value, c.self.invariant.2),
      subst (λ row. IsTrue (fits MOST_LINE_DOTS row)) (sym c.push.ensures) room,
      omega (arith, longer, wide, c.self.invariant.4, c.dots-dots.ensures.value),
      omega (arith, bounds.total, c.self.invariant.0, c.dots-dots.ensures.value),
      omega (arith, bounds.ends, next, c.dots-dots.ensures.value),
    )
