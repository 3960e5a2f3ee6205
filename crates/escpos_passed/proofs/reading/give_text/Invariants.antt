use Rattle.std.proofs.Common.{◌≡◌, ◌≤◌, ◌-◌, ◌++◌, List, length, take}
use Rattle.escpos_passed.specs.Reading.{text_tokens}
use Rattle.escpos_passed.specs.Tokens.{Token, spell_tokens}
use Rattle.escpos_passed.proofs.reading.give_text.Given as goal

-- the characters so far were taken
abbrev pub invariant-loop-at : goal.invariant-loop-at
invariant-loop-at g l = record {
  taken : (start : _) (ts : List Token) → l.fn.place ≡ length (spell_tokens ts) → g.C.TokenConsumer.accepted start (l.fn.consumer, l.fn.output) ts
      → g.C.TokenConsumer.accepted start (l.consumer, l.output) (ts ++ text_tokens (take l.at l.text));
  inside : l.at ≤ length l.text;
}

abbrev pub decreases-loop-at : goal.decreases-loop-at
decreases-loop-at g l = length l.text - l.at
