-- What the arguments ask for, by what it needs.
use Rattle.std.specs.Prelude.{Result, Ok, Err, ⊤}
use Rattle.escpos_jobs.specs.declared.task.NoTask.{NoTask}
use Rattle.escpos_jobs.specs.declared.task.Task.{Task}
use Rattle.escpos_jobs.specs.declared.task.Task.TheVariants.{Emulate, Send, Status, Loop}

-- Standard input is read: by every task but `emulate` and `status`, which have their links.
abbrev pub ReadsInput : Result Task NoTask → Type 0
ReadsInput (Ok (Emulate address links condition width file)) = ⊥
ReadsInput (Ok (Status address wait)) = ⊥
ReadsInput (Ok task) = ⊤
ReadsInput (Err why) = ⊥

-- A link may fail, and not only standard input and output.
abbrev pub UsesLinks : Result Task NoTask → Type 0
UsesLinks (Ok (Emulate address links condition width file)) = ⊤
UsesLinks (Ok (Send address first openings wait options)) = ⊤
UsesLinks (Ok (Status address wait)) = ⊤
UsesLinks (Ok (Loop width)) = ⊤
UsesLinks asked = ⊥
