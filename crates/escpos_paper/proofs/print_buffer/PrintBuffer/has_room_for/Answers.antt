use Rattle.std.proofs.Common.{◌≡◌, true, false, sym, ap, ◌∙◌}
use Rattle.std.specs.Prelude.{not, None}
use Rattle.escpos_command.specs.Text.{is_some}
use Rattle.escpos_paper.specs.Cells.{Placed}
use Rattle.escpos_paper.specs.Styles.{is_empty}
use Rattle.escpos_paper.proofs.Rooms.{room_by_counts}
use Rattle.escpos_paper.proofs.print_buffer.PrintBuffer.has_room_for.Goals as goal
use Rattle.escpos_paper.proofs.print_buffer.PrintBuffer.has_room_for.Goals.{else-is_none-via-then-is_none+else-is_empty, else-is_none-via-else-is_none}

pub returns : goal.returns
returns c =
    let other : c.self.inside.moved ≡ None → is_empty c.self.inside.cells ≡ false = λ none. elim c.else-is_none.branch [
      | else-is_none-via-then-is_none+else-is_empty w ↦ ap (λ (p : Placed). is_empty p.cells) c.self.view_is ∙ sym w.is_empty.ensures ∙ w.if-is_empty.false
      | else-is_none-via-else-is_none w ↦ absurd (let clash : true ≡ false = sym (c.is_none.ensures ∙ ap not w.if-is_none.false) ∙ ap is_some none in cc)
    ] in
    rw (c.max.ensures, c.next.ensures.value, c.dots-dots.ensures.value, c.self.invariant.0, c.self.invariant.2, ← c.self.view_is)
    (sym (room_by_counts c.args.area c.self.inside.cells c.self.inside.moved c.args.cell.now c.requires.narrow other))
