use Rattle.std.proofs.Common.{◌≡◌, true, false, sym, ap, ◌∙◌, arith}
use Rattle.escpos_paper.specs.Cells.{Placed}
use Rattle.escpos_paper.specs.Styles.{is_empty}
use Rattle.escpos_paper.proofs.TextRuns.{first_fits, next_fits, none_next, none_where_far, room_left, wide_face}
use Rattle.escpos_paper.proofs.print_buffer.PrintBuffer.room_for.Goals as goal

pub returns-then-is_empty-clause-fit : goal.returns-then-is_empty-clause-fit
returns-then-is_empty-clause-fit c = λ text some few.
    let wide = wide_face c.args.style.now c.requires.visible in
    let room : c.min-room.result ≡ room_left c.args.area c.args.style.now c.self.inside.cells =
    cc (c.min-room.ensures, c.saturating_sub.ensures, c.saturating_sub-2.ensures, c.dots-dots.ensures.value, c.self.invariant.0, c.self.invariant.1) in
    let empty : is_empty c.self.inside.cells ≡ true = ap (λ (p : Placed). is_empty p.cells) c.self.view_is ∙ sym c.is_empty.ensures ∙ c.if-is_empty.true in
    rw (← c.self.view_is) (first_fits c.args.area c.args.style.now c.self.inside.cells text c.min-room.result empty (omega (arith, wide)) some room (omega (arith, few, c.max.ensures)))

pub returns-then-self-area-clause-none : goal.returns-then-self-area-clause-none
returns-then-self-area-clause-none c = λ none byte.
    let others : is_empty c.self.inside.cells ≡ false = ap (λ (p : Placed). is_empty p.cells) c.self.view_is ∙ sym c.is_empty.ensures ∙ c.if-is_empty.false in
    rw (← c.self.view_is) (none_where_far c.args.area c.args.style.now c.self.inside.cells byte others (omega (arith, c.if-self-area.true, c.self.invariant.2)))

pub returns-clause-fit : goal.returns-clause-fit
returns-clause-fit c = λ text some few.
    let wide = wide_face c.args.style.now c.requires.visible in
    let room : c.min-room.result ≡ room_left c.args.area c.args.style.now c.self.inside.cells =
    cc (c.min-room.ensures, c.saturating_sub.ensures, c.saturating_sub-2.ensures, c.dots-dots.ensures.value, c.self.invariant.0, c.self.invariant.1) in
    rw (← c.self.view_is)
    (next_fits c.args.area c.args.style.now c.self.inside.cells text c.min-room.result (omega (arith, c.if-self-area.false, c.self.invariant.2)) (omega (arith, wide)) some room few)

pub returns-clause-none : goal.returns-clause-none
returns-clause-none c = λ none byte.
    let wide = wide_face c.args.style.now c.requires.visible in
    let room : c.min-room.result ≡ room_left c.args.area c.args.style.now c.self.inside.cells =
    cc (c.min-room.ensures, c.saturating_sub.ensures, c.saturating_sub-2.ensures, c.dots-dots.ensures.value, c.self.invariant.0, c.self.invariant.1) in
    let others : is_empty c.self.inside.cells ≡ false = ap (λ (p : Placed). is_empty p.cells) c.self.view_is ∙ sym c.is_empty.ensures ∙ c.if-is_empty.false in
    rw (← c.self.view_is) (none_next c.args.area c.args.style.now c.self.inside.cells byte c.min-room.result others c.requires.narrow (omega (arith, wide)) room none)
