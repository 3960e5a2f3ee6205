use Rattle.std.proofs.Common.{map, subst}
use Rattle.std.specs.Prelude.{OnOk, MatchResult}
use Rattle.escpos_text.specs.Writing.{IsRefused}
use Rattle.escpos_layout.specs.declared.row.Side.TheVariants.{Left}
use Rattle.escpos_layout.specs.Layouts.{alone}
use Rattle.escpos_layout.specs.Wrapping.{wrap}
use Rattle.escpos_layout.specs.Writing.{lines_written, WritesLines}
use Rattle.escpos_layout.proofs.Parts.{ends_written, ends_refused}
use Rattle.escpos_layout.proofs.WrappedLines.{left_lines}
use Rattle.escpos_layout.proofs.InRange.{lines_in_range}
use Rattle.escpos_layout.proofs.writing.write_wrapped.Goals as goal

pub returns-then-is_err-clause-in_range : goal.returns-then-is_err-clause-in_range
returns-then-is_err-clause-in_range c = λ commands h.
    lines_in_range c.spelled.ensures.in_range c.args.encoding.now (wrap c.args.columns c.args.text.now) commands h c.tables.ensures.range

pub returns-else-is_err-clause-in_range : goal.returns-else-is_err-clause-in_range
returns-else-is_err-clause-in_range c = λ commands h.
    lines_in_range c.spelled.ensures.in_range c.args.encoding.now (wrap c.args.columns c.args.text.now) commands h c.tables.ensures.range

pub returns-then-is_err-clause-refused : goal.returns-then-is_err-clause-refused
returns-then-is_err-clause-refused c =
    let call = c.put_wrapped-outcome in
    let lines = wrap c.args.columns c.args.text.now in
    subst (λ xs. MatchResult call.result (λ _. Unit {0}) (IsRefused (lines_written c.args.encoding.now xs))) (left_lines c.args.columns lines)
    (ends_refused (lines_written c.args.encoding.now (map (alone Left c.args.columns) lines)) c.args.encoding.now call.new.encoding c.args.out.now.items call.new.out.items
    call.result call.ensures)

pub returns-else-is_err-clause-written : goal.returns-else-is_err-clause-written
returns-else-is_err-clause-written c =
    let call = c.put_wrapped-outcome in
    let lines = wrap c.args.columns c.args.text.now in
    subst (λ xs. OnOk call.result (WritesLines c.args.encoding.now xs c.args.out.now.items call.new.out.items call.new.encoding)) (left_lines c.args.columns lines)
    (ends_written (lines_written c.args.encoding.now (map (alone Left c.args.columns) lines)) c.args.encoding.now call.new.encoding c.args.out.now.items call.new.out.items
    call.result call.ensures)
