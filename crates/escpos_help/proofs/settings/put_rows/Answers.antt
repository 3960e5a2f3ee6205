use Rattle.std.proofs.Common.{◌<◌, ◌≤◌, length, subst, sym, ◌∙◌, arith}
use Rattle.std.proofs.lemmas.List.{get_or_default}
use Rattle.std.specs.Io.KnownBytes.{Appends}
use Rattle.std.proofs.KnownBytes.{Appends-trans}
use Rattle.escpos_io.proofs.PieceLists.{all_pieces, one_more}
use Rattle.escpos_command.specs.declared.setting.Row.{Row}
use Rattle.escpos_help.specs.Help.{setting_line}
use Rattle.escpos_help.proofs.settings.put_rows.Goals as goal

-- A line isn't empty.
some : (r : Row) → 0 < length (setting_line r)
unfolding setting_line
some r = omega arith

pub loop-row-preserved : goal.loop-row-preserved
loop-row-preserved g c =
    let inside : c.loop-row.row-index < length c.args.rows.now = omega arith in
    let line = c.deref.ensures.0 ∙ c.line_of.ensures in
    let put = subst (λ v. Appends (g.W.ByteOut.written c.loop-row.output) (g.W.ByteOut.written c.put_all.new.writer) v) line c.in_ok-put_all.ensures.all in
    record {
      put = subst (λ v. Appends (g.W.ByteOut.written c.args.output.now) (g.W.ByteOut.written c.put_all.new.writer) v)
          (one_more setting_line c.args.rows.now c.loop-row.row-index _ inside (get_or_default c.args.rows.now c.loop-row.row-index _ _ inside))
          (Appends-trans _ _ _ _ _ c.loop-row.invariant.put put);
      not_failed = λ well. c.in_ok-put_all.ensures.not_failed (subst (λ v. 0 < length v) (sym line) (some _));
    }

pub returns-clause-all : goal.returns-clause-all
returns-clause-all g c =
    let all : length c.args.rows.now ≤ c.loop-row.row-index = omega arith in
    subst (λ v. Appends (g.W.ByteOut.written c.args.output.now) (g.W.ByteOut.written c.loop-row.output) v)
    (all_pieces setting_line c.args.rows.now c.loop-row.row-index all) c.loop-row.invariant.put
