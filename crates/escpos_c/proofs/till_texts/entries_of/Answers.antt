-- One more line is an entry.
use Rattle.std.proofs.Common.{subst, sym}
use Rattle.escpos_c.specs.TillTexts.{Says}
use Rattle.escpos_c.proofs.TillTextLemmas.{says_more}
use Rattle.escpos_c.proofs.till_texts.entries_of.Goals as goal

pub loop-alloc-preserved : goal.loop-alloc-preserved
loop-alloc-preserved c =
    let more = c.in-Ok.more.now in
    subst (λ entries. Says c.args.text.now entries more) (sym c.in_ok-push-in-Ok.ensures.items)
    (says_more c.args.text.now c.loop-alloc.entries.items c.loop-alloc.rest.now c.in-Ok.entry more c.loop-alloc.invariant c.in-Ok.ensures.entry)
