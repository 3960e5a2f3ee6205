use Rattle.std.proofs.Common.{◌≡◌, ◌≤◌, ◌-◌, ◌++◌, List, length, map, take}
use Rattle.escpos_command.specs.declared.command.Command.{Command}
use Rattle.escpos_command.specs.declared.command.Command.TheVariants.{Char}
use Rattle.escpos_command.specs.CommandTable.{spell}
use Rattle.escpos_decode.proofs.reading.give_text.Given as goal

-- the characters so far were taken
abbrev pub invariant-loop-at : goal.invariant-loop-at
invariant-loop-at g l = record {
  taken : (start : _) (cs : List Command) → l.fn.place ≡ length (spell cs) → g.C.Consumer.accepted start (l.fn.consumer, l.fn.output) cs
      → g.C.Consumer.accepted start (l.consumer, l.output) (cs ++ map Char (take l.at l.text));
  inside : l.at ≤ length l.text;
}

abbrev pub decreases-loop-at : goal.decreases-loop-at
decreases-loop-at g l = length l.text - l.at
