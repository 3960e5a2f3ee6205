use Rattle.std.proofs.Common.{◌≤◌, ◌++◌, length, sym, ◌∙◌, ap, subst, arith}
use Rattle.escpos_command.specs.declared.command.Command.TheVariants as kind
use Rattle.escpos_command.specs.Graphics.{stored_picture}
use Rattle.escpos_job_parts.specs.Lines.{values_of}
use Rattle.escpos_job_parts.proofs.lines.append_values.Goals as goal

pub returns-in-GraphicsStore-clause-kept : goal.returns-in-GraphicsStore-clause-kept
returns-in-GraphicsStore-clause-kept c =
    let old = c.args.gather.now.kept in
    let graphics = c.in-GraphicsStore.graphics in
    c.append_graphics.ensures.kept graphics.dots
    ∙ ap (λ head. old ++ values_of (kind.GraphicsStore (stored_picture head graphics.dots))) c.head.ensures.head
    ∙ ap (λ command. old ++ values_of command) (sym c.in-GraphicsStore.is)

pub returns-in-GraphicsStore-clause-short : goal.returns-in-GraphicsStore-clause-short
returns-in-GraphicsStore-clause-short c =
    let graphics = c.in-GraphicsStore.graphics in
    let few : length (values_of (kind.GraphicsStore graphics)) ≤ 64 =
    subst (λ head. length (values_of (kind.GraphicsStore (stored_picture head graphics.dots))) ≤ 64) c.head.ensures.head (c.append_graphics.ensures.short graphics.dots) in
    subst (λ command. length (values_of command) ≤ 520) (sym c.in-GraphicsStore.is) (omega (arith, few))
