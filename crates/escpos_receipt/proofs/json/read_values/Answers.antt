-- Each entry's commands come after those of the entries before it; the first that gives none is why there are none.
use Rattle.std.proofs.Common.{◌≡◌, ◌+◌, map, take, sym, ◌∙◌, ap, subst}
use Rattle.serde_json.specs.View.{view}
use Rattle.escpos_receipt.specs.declared.json.JsonError.TheVariants.{Refused}
use Rattle.escpos_receipt.specs.Describes.{Give}
use Rattle.escpos_receipt.specs.EntryCommands.{commands_meant}
use Rattle.escpos_receipt.specs.EntryErrors.{error_at}
use Rattle.escpos_receipt.proofs.MoreEntries.{one_more_force, one_more_value, refused_at}
use Rattle.escpos_receipt.specs.Entries.{in_force, meaning}
use Rattle.escpos_receipt.proofs.json.read_values.Goals as goal

pub returns-in-Err-clause-refused : goal.returns-in-Err-clause-refused
returns-in-Err-clause-refused g c = λ because e.
    let (why, is, cause) = c.in-Err.ensures.refused in
    let same : error_at c.loop-at.at why ≡ Refused because = sym is ∙ cc in
    refused_at c.args.options.now c.args.values.now c.loop-at.at c.index-values-at.result (g.T.ReadAs.commands c.loop-at.given.items) why because c.loop-at-test.true c.index-values-at.is
    c.loop-at.invariant.so_far
    (λ real. ap (λ e. meaning e (view c.index-values-at.result)) (sym c.loop-at.invariant.in_force) ∙ cause real) same

pub loop-at-preserved : goal.loop-at-preserved
loop-at-preserved g c =
    let o = c.args.options.now in
    let vs = c.args.values.now in
    let i = c.loop-at.at in
    let v = c.index-values-at.result in
    let before = g.T.ReadAs.commands c.loop-at.given.items in
    let part = commands_meant c.in-Ok.meaning in
    record {
      so_far = subst (λ cs. Give o (map view (take (i + 1) vs)) cs) (sym c.in-Ok-add.ensures)
          (one_more_value o vs i v before part c.loop-at-test.true c.index-values-at.is c.loop-at.invariant.so_far
          (ap (λ e. meaning e (view v)) (sym c.loop-at.invariant.in_force) ∙ c.in-Ok.ensures.commands));
      in_force =
          one_more_force o vs i v before part c.loop-at.in_force _ c.loop-at-test.true c.index-values-at.is c.loop-at.invariant.in_force c.in-Ok.ensures.next
          ∙ ap (in_force o (map view (take (i + 1) vs))) (sym c.in-Ok-add.ensures);
    }
