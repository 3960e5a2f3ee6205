use Rattle.std.proofs.Common.{take, sym, ◌∙◌}
use Rattle.std.specs.Prelude.{slice_index}
use Rattle.escpos_barcode.proofs.ReadUpc.{parts_are}
use Rattle.escpos_barcode.proofs.upce.draw_upce.Goals as goal

pub draw_six-requires-clause-digits : goal.draw_six-requires-clause-digits
draw_six-requires-clause-digits c =
    (parts_are c.args.content.now (take 6 c.in-Some.seven, slice_index c.in-Some.seven 6) (sym c.all_digits.ensures ∙ c.if-not-all_digits.false) c.in-Some.ensures).digits

pub draw_six-requires-clause-check : goal.draw_six-requires-clause-check
draw_six-requires-clause-check c =
    (parts_are c.args.content.now (take 6 c.in-Some.seven, slice_index c.in-Some.seven 6) (sym c.all_digits.ensures ∙ c.if-not-all_digits.false) c.in-Some.ensures).check_digit
