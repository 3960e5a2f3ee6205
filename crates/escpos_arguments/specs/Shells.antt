-- The names of shells.
use Rattle.std.specs.Prelude.{codes}
use Rattle.clap.specs.Words.{Text}
use Rattle.escpos_arguments.specs.declared.completions.Shell.{Shell}
use Rattle.escpos_arguments.specs.declared.completions.Shell.TheVariants.{Bash, Zsh, Fish}

abbrev pub shell_name : Shell → Text
shell_name Bash = codes "bash"
shell_name Zsh = codes "zsh"
shell_name Fish = codes "fish"
