-- The commands so far and those of the other bytes are those of the text, and there is room for them.
use Rattle.std.proofs.Common.{◌≡◌, ◌+◌, ◌≤◌, ◌++◌, length}
use Rattle.std.specs.Prelude.{vec_capacity, vec_len}
use Rattle.escpos_receipt.specs.SpelledText.{lines_commands}
use Rattle.escpos_receipt.specs.SpelledText.{IsTextBytes}
use Rattle.escpos_receipt.proofs.json.add_text.Given as goal

abbrev pub invariant-loop-command : goal.invariant-loop-command
invariant-loop-command l = record {
  added : l.commands.items ++ lines_commands l.rest ≡ l.fn.commands.items ++ lines_commands l.text;
  spelled : IsTextBytes l.rest;
  room : vec_len l.commands + length l.rest + l.more ≤ vec_capacity l.commands;
}

-- A command takes a byte at least.
abbrev pub decreases-loop-command : goal.decreases-loop-command
decreases-loop-command l = length l.rest
