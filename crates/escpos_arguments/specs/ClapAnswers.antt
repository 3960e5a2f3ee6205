-- What a number is among the arguments, and what single results of `clap` mean for the program.
use Rattle.std.specs.Prelude.{◌≡◌, ◌<◌, ◌^◌, ℕ, Option, Some, None, IsSomeAnd}
use Rattle.std.specs.Str.Parse.{IsNumeral, digits_value, without_leading_plus}
use Rattle.clap.specs.Words.{Text}
use Rattle.clap.specs.declared.error.kind.ErrorKind.{ErrorKind}
use Rattle.clap.specs.declared.error.kind.ErrorKind.TheVariants.{DisplayHelp, OutOfMemory}
use Rattle.escpos_jobs.specs.declared.task.NoTask.{NoTask}
use Rattle.escpos_jobs.specs.declared.task.NoTask.TheVariants.{Usage, Help, Memory}

-- the text is a number of 32 bits in decimal digits, which may follow a plus sign and begin with zeros
abbrev pub IsNumber : Text → ℕ → Type 0
IsNumber text n = IsNumeral 10 (without_leading_plus text) × (digits_value 10 (without_leading_plus text) < 2 ^ 32)
    × (n ≡ digits_value 10 (without_leading_plus text))

-- the number that a text says, if there is a text, or none if there is none
abbrev pub IsNumberIn : Option Text → Option ℕ → Type 0
IsNumberIn None number = number ≡ None
IsNumberIn (Some text) number = IsSomeAnd number (IsNumber text)

-- the program's refusal for a refusal by `clap`
abbrev pub no_task_of : ErrorKind → NoTask
no_task_of DisplayHelp = Help
no_task_of OutOfMemory = Memory
no_task_of _ = Usage
