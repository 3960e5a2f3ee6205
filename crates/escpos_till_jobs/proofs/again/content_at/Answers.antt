-- The content stands at the place of the receipt.
use Rattle.std.proofs.Common.{◌≡◌, Some, length, refl, sym, ◌∙◌, ap, subst, arith}
use Rattle.std.specs.Prelude.{slice_get}
use Rattle.std.proofs.lemmas.Option.{slice_get_read}
use Rattle.escpos_till.specs.Entries.{contents}
use Rattle.escpos_till_jobs.proofs.Contents.{at_place, is_queued, no_content, one_content, one_entry_more, one_further}
use Rattle.escpos_till_jobs.proofs.again.content_at.Goals as goal
use Rattle.escpos_till_jobs.proofs.again.content_at.Goals.{in-Some-2, in-None}

pub returns-in-Some : goal.returns-in-Some
returns-in-Some c =
    let es = c.args.entries.now in
    let i = c.loop-entry.entry-index in
    let e = c.entry-item.result in
    let content = c.in-Some.content.now in
    let here = slice_get_read es (length es) i e refl c.loop-entry-test.true c.entry-item.is ∙ ap Some (is_queued e content c.in-Some.ensures) in
    subst (λ k. slice_get (contents es) k ≡ Some content) (sym c.loop-entry.invariant.passed ∙ c.if-passed-place.true) (at_place es i content here)

pub loop-entry-preserved : goal.loop-entry-preserved
loop-entry-preserved c =
    let es = c.args.entries.now in
    let i = c.loop-entry.entry-index in
    let e = c.entry-item.result in
    let more = one_entry_more es i e c.loop-entry-test.true c.entry-item.is in
    elim c.match-content_of.branch [
      | in-Some-2 w ↦
          let one = one_content e w.in-Some.content.now w.in-Some.ensures in
          let further = one_further c.loop-entry.passed c.args.place c.loop-entry.invariant.before w.if-passed-place.false in
          record {
            passed = omega (arith, more, one, w.passed-is, c.loop-entry.invariant.passed);
            before = omega (arith, further, w.passed-is);
          }
      | in-None w ↦
          let none = no_content e w.in-None.ensures in
          record {
            passed = omega (arith, more, none, w.passed-is, c.loop-entry.invariant.passed);
            before = omega (arith, w.passed-is, c.loop-entry.invariant.before);
          }
    ]
