-- The note on a command in whose data a real-time command stands.
use Rattle.std.specs.Prelude.{ℕ, ◌++◌, Bool, false, List, [], codes, decimal, if◌then◌else◌}
use Rattle.escpos_command.specs.declared.command.Command.{Command}
use Rattle.escpos_command.specs.declared.command.Command.TheVariants as kind
use Rattle.escpos_command.specs.CommandTable.{row}
use Rattle.escpos_real_time.specs.Scan.{holds}

-- A real-time command stands somewhere in the bytes of the command; a request for a status, which is one itself, holds none.
abbrev pub is_hiding : Command → Bool
is_hiding (kind.Status n) = false
is_hiding c = holds (row c)

-- The note on a command that has this many bytes before it.
abbrev pub real_time_note : ℕ → Command → List ℕ
real_time_note place c = if is_hiding c then codes "note " ++ decimal place ++ codes " real-time\n" else []
