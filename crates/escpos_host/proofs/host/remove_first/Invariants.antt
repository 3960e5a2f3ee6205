-- So many of the first numbers are gone.
use Rattle.std.proofs.Common.{◌≡◌, ◌≤◌, drop}
use Rattle.escpos_host.proofs.host.remove_first.Given as goal

abbrev pub invariant-loop : goal.invariant-loop
invariant-loop l = record { few : l.counter ≤ l.place; rest : l.numbers.items ≡ drop l.counter l.fn.numbers.items }
