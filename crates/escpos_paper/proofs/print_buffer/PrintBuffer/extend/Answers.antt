use Rattle.std.proofs.Common.{◌≡◌, ◌+◌, ◌*◌, ◌≤◌, List, [], ◌∷◌, ◌++◌, ℕ, length, map, sym, ap, subst, ◌∙◌, arith, inl, inr, length-append}
use Rattle.std.specs.Prelude.{IsTrue, max}
use Rattle.std.proofs.lemmas.List.{length-map}
use Rattle.std.proofs.Math.Nat.{mul-le-mul, mul_comm}
use Rattle.escpos_command.specs.declared.line_width.TheConstants.{MOST_LINE_DOTS}
use Rattle.escpos_paper.specs.declared.cell.Cell.{Cell}
use Rattle.escpos_paper.specs.declared.style.Style.{Style}
use Rattle.escpos_paper.specs.Cells.{Placed, cell, dots, end_of, reach_of}
use Rattle.escpos_paper.specs.Dots.{style_dots}
use Rattle.escpos_paper.specs.Rows.{fits}
use Rattle.escpos_paper.proofs.Rooms.{reach_with_text, text_bounds}
use Rattle.escpos_paper.proofs.TextRuns.{dots_with_text, end_with_text, text_narrow, wide_face, wide_text}
use Rattle.escpos_paper.proofs.print_buffer.PrintBuffer.extend.Goals as goal

-- The same reach, for any text that has a character.
reach_then : (s : Style) (row : List Cell) (bs : List ℕ) → 1 ≤ length bs → reach_of (row ++ map (cell s) bs) ≡ max (reach_of row) (end_of row + length bs * style_dots s)
reach_then s row [] some = absurd (omega arith)
reach_then s row (b ∷ bs) some = reach_with_text s row b bs

pub overflow_mul-dots : goal.overflow_mul-dots
overflow_mul-dots c =
    let s = c.args.style in
    let small = c.dots.ensures.small in
    let same = ap (λ d. d * length c.args.text.now) c.dots.ensures.value in
    elim (text_narrow s c.args.self.now.cells c.args.text.now c.requires.room) [
      | inl inside ↦ omega (arith, inside, same)
      | inr (inl (none, one)) ↦
          let product : c.dots.result * length c.args.text.now ≤ 100000 * 1 = mul-le-mul small one in
          omega (arith, product)
      | inr (inr (one, none)) ↦
          let product : c.dots.result * length c.args.text.now ≤ 100000 * 0 = mul-le-mul small none in
          omega (arith, product)
    ]

pub overflow_add-self : goal.overflow_add-self
overflow_add-self c =
    let s = c.args.style in
    let wide = wide_face s c.requires.visible in
    let narrow = c.dots.ensures.narrow c.requires.small.0 c.requires.small.1 in
    let room = subst (λ (p : Placed). IsTrue (fits MOST_LINE_DOTS (p.cells ++ map (cell s) c.args.text.now))) (sym c.self.view_is) c.requires.room in
    let bounds = text_bounds s c.self.inside.cells c.args.text.now c.requires.some wide (omega (arith, narrow, c.dots.ensures.value))
    (omega (arith, c.self.invariant.4, c.self.invariant.0)) room in
    let same = ap (λ d. d * length c.args.text.now) c.dots.ensures.value in
    omega (arith, bounds.total, same, c.self.invariant.0)

pub overflow_add-self-2 : goal.overflow_add-self-2
overflow_add-self-2 c =
    let s = c.args.style in
    let wide = wide_face s c.requires.visible in
    let narrow = c.dots.ensures.narrow c.requires.small.0 c.requires.small.1 in
    let room = subst (λ (p : Placed). IsTrue (fits MOST_LINE_DOTS (p.cells ++ map (cell s) c.args.text.now))) (sym c.self.view_is) c.requires.room in
    let bounds = text_bounds s c.self.inside.cells c.args.text.now c.requires.some wide (omega (arith, narrow, c.dots.ensures.value))
    (omega (arith, c.self.invariant.4, c.self.invariant.0)) room in
    let same = ap (λ d. d * length c.args.text.now) c.dots.ensures.value in
    omega (arith, bounds.ends, same, c.self.invariant.1)

pub extend-requires : goal.extend-requires
extend-requires c =
    let s = c.args.style in
    let wide = wide_face s c.requires.visible in
    let narrow = c.dots.ensures.narrow c.requires.small.0 c.requires.small.1 in
    let room = subst (λ (p : Placed). IsTrue (fits MOST_LINE_DOTS (p.cells ++ map (cell s) c.args.text.now))) (sym c.self.view_is) c.requires.room in
    let bounds = text_bounds s c.self.inside.cells c.args.text.now c.requires.some wide (omega (arith, narrow, c.dots.ensures.value))
    (omega (arith, c.self.invariant.4, c.self.invariant.0)) room in
    record { room = bounds.few; follows = ap (λ (x : Cell). x.moved) c.cell.ensures }

pub invariant_of-self : goal.invariant_of-self
invariant_of-self c =
    let s = c.args.style in
    let row = c.self.inside.cells in
    let text = c.args.text.now in
    let wide = wide_face s c.requires.visible in
    let narrow = c.dots.ensures.narrow c.requires.small.0 c.requires.small.1 in
    let room = subst (λ (p : Placed). IsTrue (fits MOST_LINE_DOTS (p.cells ++ map (cell s) text))) (sym c.self.view_is) c.requires.room in
    let bounds = text_bounds s row text c.requires.some wide (omega (arith, narrow, c.dots.ensures.value)) (omega (arith, c.self.invariant.4, c.self.invariant.0)) room in
    let put = c.extend.ensures ∙ ap (λ (x : Cell). row ++ map (cell x.style) text) c.cell.ensures in
    let same = ap (λ d. d * length text) c.dots.ensures.value in
    let swapped = mul_comm (style_dots s) (length text) in
    let total = ap dots put ∙ dots_with_text s row text in
    let ends = ap end_of put ∙ end_with_text s row text in
    let reaches = ap reach_of put ∙ reach_then s row text c.requires.some in
    let longer = ap length put ∙ length-append row (map (cell s) text) in
    let many = length-map text (cell s) in
    let each = wide_text s (length text) c.requires.visible in (
      omega (arith, total, same, swapped, c.self.invariant.0),
      omega (arith, ends, same, swapped, c.self.invariant.1),
      omega (arith, reaches, c.max-self-inside.ensures, same, swapped, c.self.invariant.1, c.self.invariant.2),
      subst (λ r. IsTrue (fits MOST_LINE_DOTS r)) (sym put) room,
      omega (arith, longer, many, each, same, c.self.invariant.4),
      omega (arith, bounds.total, same, c.self.invariant.0),
      omega (arith, bounds.ends, same, c.self.invariant.1),
    )
