use Rattle.std.proofs.Common.{[], ◌∷◌, sym, subst}
use Rattle.escpos_layout.specs.Layouts.{between}
use Rattle.escpos_layout.specs.Writing.{lines_written, Stops, Ends}
use Rattle.escpos_layout.proofs.Parts.{lines_end, lines_stop}
use Rattle.escpos_layout.proofs.Betweens.{together-one, together-two}
use Rattle.escpos_layout.proofs.lines.put_together.Goals as goal

pub returns-then-fit_together : goal.returns-then-fit_together
returns-then-fit_together c =
    subst (λ lines. Ends (lines_written c.args.encoding.now lines) c.args.encoding.now c.args.out.now.items c.put_line.new.out.items c.put_line.new.encoding c.put_line.result)
    (together-one c.args.columns c.args.left.now c.args.right.now (sym c.if-fit_together.ensures)) c.put_line.ensures

pub returns-in-Ok : goal.returns-in-Ok
returns-in-Ok c =
    let last = c.put_line-in-Ok in
    subst (λ lines. Ends (lines_written c.args.encoding.now lines) c.args.encoding.now c.args.out.now.items last.new.out.items last.new.encoding last.result)
    (together-two c.args.columns c.args.left.now c.args.right.now (sym c.if-fit_together.ensures))
    (lines_end c.args.encoding.now c.put_line-2.new.encoding last.new.encoding (c.args.left.now ∷ []) (between c.args.columns [] c.args.right.now ∷ [])
    c.args.out.now.items c.put_line-2.new.out.items last.new.out.items last.result c.in-Ok.ensures last.ensures)

pub returns-in-Err : goal.returns-in-Err
returns-in-Err c =
    subst (λ lines. Stops (lines_written c.args.encoding.now lines) c.args.encoding.now c.args.out.now.items c.put_line-2.new.out.items c.put_line-2.new.encoding c.in-Err.fault)
    (together-two c.args.columns c.args.left.now c.args.right.now (sym c.if-fit_together.ensures))
    (lines_stop c.args.encoding.now c.put_line-2.new.encoding (c.args.left.now ∷ []) (between c.args.columns [] c.args.right.now ∷ [])
    c.args.out.now.items c.put_line-2.new.out.items c.in-Err.fault c.in-Err.ensures)
