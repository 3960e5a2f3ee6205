-- What is heard, piece by piece.
use Rattle.std.proofs.Common.{[], ◌∷◌, subst, sym, ◌∙◌}
use Rattle.escpos_till.specs.Machine.{Came}
use Rattle.escpos_till.proofs.DriverLemmas.{given_so, hears_more, hears_no_more, rest_is, some_bytes, within_rest}
use Rattle.escpos_till.proofs.driver.hear.Goals as goal

pub loop-heard-preserved : goal.loop-heard-preserved
loop-heard-preserved c =
    let (talk, is) = c.talks.ensures.0 c.if-talks.true in
    let came = subst (λ bs. Came c.loop-heard.machine.stage bs c.came-heard.result c.loop-heard.machine c.came-heard.new.self) (rest_is c.args.bytes.now c.loop-heard.heard) c.came-heard.ensures.came in
    record {
      goes_on = λ counts after more. c.loop-heard.invariant.goes_on (c.came-heard.result ∷ counts) after (hears_more c.loop-heard.machine c.came-heard.new.self after c.args.bytes.now c.loop-heard.heard c.came-heard.result counts talk is
          c.loop-heard-test.true came c.is_sound.ensures.host more);
      within = within_rest c.args.bytes.now c.loop-heard.heard c.came-heard.result c.loop-heard.invariant.within c.came-heard.ensures.within;
    }

pub returns-else-talks : goal.returns-else-talks
returns-else-talks c =
    given_so c.args.machine.now c.loop-heard.machine c.args.bytes.now (some_bytes c.args.bytes.now (sym c.if-is_empty.false ∙ c.is_empty.ensures))
    (c.loop-heard.invariant.goes_on [] c.loop-heard.machine (hears_no_more c.loop-heard.machine c.args.bytes.now c.loop-heard.heard (λ talk is. absurd (let bad = c.talks.ensures.1 (talk, is) in cc))))

pub returns-after-loop-heard : goal.returns-after-loop-heard
returns-after-loop-heard c =
    given_so c.args.machine.now c.loop-heard.machine c.args.bytes.now (some_bytes c.args.bytes.now (sym c.if-is_empty.false ∙ c.is_empty.ensures))
    (c.loop-heard.invariant.goes_on [] c.loop-heard.machine (hears_no_more c.loop-heard.machine c.args.bytes.now c.loop-heard.heard (λ talk is. c.loop-heard-test.false)))
