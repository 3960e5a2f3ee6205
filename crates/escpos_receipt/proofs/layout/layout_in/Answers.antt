-- The bytes are those of the lines, after a line feed if there was text in the line.
use Rattle.std.proofs.Common.{Ok, sym, ◌∙◌, ap, subst}
use Rattle.serde_json.specs.View.{view}
use Rattle.escpos_receipt.specs.Entries.{columns_in, lines_of}
use Rattle.escpos_receipt.specs.EntryCommands.{with_commands}
use Rattle.escpos_receipt.specs.Layouts.{IsLaidOut}
use Rattle.escpos_receipt.proofs.LayoutBytes.{laid_bytes}
use Rattle.escpos_receipt.proofs.layout.layout_in.Goals as goal

pub made-requires : goal.made-requires
made-requires c =
    let f = c.args.in_force.now in
    let v = view c.args.value.now in
    let start = c.in_ok-bytes.bytes.items in
    let lines = subst (λ n. IsLaidOut (lines_of n c.args.member v) f.encoding start c.put_layout.new.out.items c.put_layout.new.encoding) c.columns-columns.ensures c.in-Ok.ensures.lines in
    let laid = laid_bytes f (lines_of (columns_in f.line) c.args.member v) start c.put_layout.new.out.items c.put_layout.new.encoding c.in_ok-bytes.ensures lines in
    record { text = laid.text }

pub returns-in-Ok-clause-lines : goal.returns-in-Ok-clause-lines
returns-in-Ok-clause-lines c =
    let f = c.args.in_force.now in
    let v = view c.args.value.now in
    let start = c.in_ok-bytes.bytes.items in
    let lines = subst (λ n. IsLaidOut (lines_of n c.args.member v) f.encoding start c.put_layout.new.out.items c.put_layout.new.encoding) c.columns-columns.ensures c.in-Ok.ensures.lines in
    let laid = laid_bytes f (lines_of (columns_in f.line) c.args.member v) start c.put_layout.new.out.items c.put_layout.new.encoding c.in_ok-bytes.ensures lines in
    laid.lines ∙ ap Ok (sym c.made.ensures.text)

pub returns-in-Ok-clause-next : goal.returns-in-Ok-clause-next
returns-in-Ok-clause-next c =
    let f = c.args.in_force.now in
    let v = view c.args.value.now in
    let start = c.in_ok-bytes.bytes.items in
    let lines = subst (λ n. IsLaidOut (lines_of n c.args.member v) f.encoding start c.put_layout.new.out.items c.put_layout.new.encoding) c.columns-columns.ensures c.in-Ok.ensures.lines in
    let laid = laid_bytes f (lines_of (columns_in f.line) c.args.member v) start c.put_layout.new.out.items c.put_layout.new.encoding c.in_ok-bytes.ensures lines in
    laid.next ∙ ap (with_commands f.encoding) (sym c.made.ensures.text)
