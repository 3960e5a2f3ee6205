use Rattle.std.proofs.Common.{refl, sym, ◌∙◌, arith}
use Rattle.escpos_receipt.proofs.Tables.{found, none_left, passed}
use Rattle.escpos_receipt.proofs.json_value.named.Goals as goal

pub loop-row-init : goal.loop-row-init
loop-row-init g c = record { so_far = refl }

pub returns-then-eq : goal.returns-then-eq
returns-then-eq g c =
    sym (c.loop-row.invariant.so_far
    ∙ found c.args.table.now c.loop-row.row-index c.row-item.result c.args.name.now c.loop-row-test.true c.row-item.is (sym c.eq.ensures ∙ c.if-eq.true))

pub loop-row-preserved : goal.loop-row-preserved
loop-row-preserved g c = record {
  so_far =
      c.loop-row.invariant.so_far
      ∙ passed c.args.table.now c.loop-row.row-index c.row-item.result c.args.name.now c.loop-row-test.true c.row-item.is (sym c.eq.ensures ∙ c.if-eq.false);
}

pub returns : goal.returns
returns g c = sym (c.loop-row.invariant.so_far ∙ none_left c.args.table.now c.loop-row.row-index c.args.name.now (omega arith))
