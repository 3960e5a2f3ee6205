-- The list names tables if it is short enough and each of its values is a number of a byte.
use Rattle.std.proofs.Common.{◌≡◌, ℕ, List, Some, ◌∙◌, ap, subst, arith, length}
use Rattle.std.specs.Prelude.{◌<◌, MatchOption}
use Rattle.serde_json.specs.Find.{as_array}
use Rattle.serde_json.specs.View.{items_view, view}
use Rattle.escpos_text.specs.declared.choice.TheConstants.{MOST_TABLES}
use Rattle.escpos_receipt.specs.Entries.{number_in}
use Rattle.escpos_receipt.proofs.Numbers.{all_read, few_enough, too_many}
use Rattle.escpos_receipt.proofs.json_value.tables_in.Goals as goal

pub returns-then-values-gt-MOST_TABLES : goal.returns-then-values-gt-MOST_TABLES
returns-then-values-gt-MOST_TABLES c =
    let vs = c.as_slice-values.result.now in
    let array : Some (items_view vs) ≡ as_array (view c.args.value.now) = ap (λ l. Some (items_view l)) c.as_slice-values.ensures.value ∙ c.in_ok-as_array.ensures in
    too_many (view c.args.value.now) vs array c.if-values-gt-MOST_TABLES.true

pub returns : goal.returns
returns c =
    let vs = c.as_slice-values.result.now in
    let xs = c.loop-value.numbers.items in
    let array : Some (items_view vs) ≡ as_array (view c.args.value.now) = ap (λ l. Some (items_view l)) c.as_slice-values.ensures.value ∙ c.in_ok-as_array.ensures in
    let is = subst (λ (l : List ℕ). MatchOption c.of.result (MOST_TABLES < length l) (λ choice. choice ≡ l)) c.as_slice.ensures.value c.of.ensures in
    let count = c.loop-value.invariant.count in
    let end = c.loop-value.auto.value-index-end in
    let done = c.loop-value-test.false in
    few_enough (view c.args.value.now) vs xs c.of.result array c.if-values-gt-MOST_TABLES.false
    (c.loop-value.invariant.so_far ∙ all_read (number_in 0 255) vs c.loop-value.value-index xs done) (omega arith) is
