use Rattle.std.proofs.Common.{◌≡◌, ◌≤◌, length, take}
use Rattle.std.specs.Prelude.{map, vec_capacity}
use Rattle.escpos_command.specs.declared.command.Command.TheVariants.{Char}
use Rattle.escpos_command.proofs.chars.chars_of.Given as goal

-- the commands so far are those of the bytes so far, and there is room for all
abbrev pub invariant-loop-byte : goal.invariant-loop-byte
invariant-loop-byte l = record {
  made : l.commands.items ≡ map Char (take l.byte-index l.text);
  room : length l.text ≤ vec_capacity l.commands;
}
