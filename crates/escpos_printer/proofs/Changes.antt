-- What waits once the sensors say something new.
use Rattle.std.proofs.Common.{◌≡◌, ℕ, List, [], ◌∷◌, ◌++◌, Bool, true, false, cond, refl, ◌∙◌, append-nil, IsTrue, length, arith, ap}
use Rattle.std.specs.Prelude.{◌&&◌}
use Rattle.std.specs.List.{AllByRecursion}
use Rattle.escpos_command.specs.declared.answer.Answer.{Answer}
use Rattle.escpos_command.specs.declared.answer.Answer.TheVariants as answer
use Rattle.escpos_command.specs.Answers.{is_answer}
use Rattle.escpos_command.specs.Blocks.{is_block}
use Rattle.escpos_command.specs.Meanings.{reports}
use Rattle.escpos_printer.specs.declared.condition.Condition.{Condition}
use Rattle.escpos_printer.specs.Blocks.{MayWait, others, with_one_block}
use Rattle.escpos_printer.specs.Replies.{after_change, condition_block, is_change}
use Rattle.escpos_printer.proofs.OneBlock.{all_known, both_known, may_wait, others-append, same_others}
use Rattle.escpos_printer.proofs.Fitting.{block_fits}

-- These answers, with a block if there is something new.
abbrev with_news : Bool → List Answer → List ℕ → List Answer
with_news on waiting bytes = cond on (with_one_block (waiting ++ answer.Condition bytes ∷ [])) waiting

abbrev AreAnswers : List Answer → Type 0
AreAnswers answers = AllByRecursion (λ a. IsTrue (is_answer a)) answers

news_others : (on : Bool) (waiting : List Answer) (bytes : List ℕ) → others (with_news on waiting bytes) ≡ others waiting
news_others true waiting bytes =
    same_others (waiting ++ answer.Condition bytes ∷ []) ∙ others-append waiting (answer.Condition bytes ∷ []) ∙ append-nil (others waiting)
news_others false waiting bytes = refl

news_known : (on : Bool) (waiting : List Answer) (bytes : List ℕ) → IsTrue (is_block bytes) → AreAnswers waiting → AreAnswers (with_news on waiting bytes)
news_known true waiting bytes fits h = all_known (waiting ++ answer.Condition bytes ∷ []) (both_known waiting (answer.Condition bytes ∷ []) h (fits, tt))
news_known false waiting bytes fits h = h

news_wait : (on : Bool) (waiting : List Answer) (bytes : List ℕ) → MayWait waiting → MayWait (with_news on waiting bytes)
news_wait true waiting bytes h =
    may_wait (waiting ++ answer.Condition bytes ∷ [])
    (let room = h.room in omega (arith, room, ap length (others-append waiting (answer.Condition bytes ∷ []) ∙ append-nil (others waiting))))
news_wait false waiting bytes h = h

pub change_others : (n : ℕ) (old new : Condition) (waiting : List Answer) → others (after_change n old new waiting) ≡ others waiting
change_others n old new waiting = news_others (reports n && is_change old new) waiting (condition_block new)

pub change_known : (n : ℕ) (old new : Condition) (waiting : List Answer) → AreAnswers waiting → AreAnswers (after_change n old new waiting)
change_known n old new waiting h = news_known (reports n && is_change old new) waiting (condition_block new) (block_fits new) h

pub may_change : (n : ℕ) (old new : Condition) (waiting : List Answer) → MayWait waiting → MayWait (after_change n old new waiting)
may_change n old new waiting h = news_wait (reports n && is_change old new) waiting (condition_block new) h
