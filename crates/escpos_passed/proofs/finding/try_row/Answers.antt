use Rattle.std.proofs.Common.{◌∙◌, ◌≡◌, ◌+◌, ◌-◌, ap, sym, subst, arith, length, length-append, take}
use Rattle.escpos_passed.specs.Table.{row_prefix, IsPassedBy}
use Rattle.escpos_passed.proofs.Decided.{none_other, none_whole, whole_there}
use Rattle.escpos_passed.proofs.finding.try_row.Goals as goal

pub returns-in-Other : goal.returns-in-Other
returns-in-Other c = none_other c.args.row.now c.args.bytes.now c.in-Other.ensures

pub returns-then-allows : goal.returns-then-allows
returns-then-allows c =
    let row = c.args.row.now in
    let bytes = c.args.bytes.now in
    let rest = c.in-Rest.rest.now in
    let n = c.in-Some.length in
    let long : length bytes ≡ length (row_prefix row) + length rest = ap length c.in-Rest.ensures ∙ length-append (row_prefix row) rest in
    let same : length (row_prefix row) + n ≡ length bytes - length rest + n = omega (arith, long) in (
      omega (arith, long, c.if-length-rest.true),
      subst (λ k. IsPassedBy row (take k bytes)) same
          (whole_there row bytes rest n c.in-Rest.ensures (sym c.whole_length.ensures ∙ c.in-Some.is) c.if-length-rest.true (sym c.allows.ensures ∙ c.if-allows.true)),
    )

pub returns-else-allows : goal.returns-else-allows
returns-else-allows c =
    none_whole c.args.row.now c.args.bytes.now c.in-Rest.rest.now c.in-Some.length c.in-Rest.ensures (sym c.whole_length.ensures ∙ c.in-Some.is) c.if-length-rest.true
    (sym c.allows.ensures ∙ c.if-allows.false)
