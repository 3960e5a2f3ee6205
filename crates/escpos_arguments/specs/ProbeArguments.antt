-- The arguments of `probe`, and what they ask for.
use Rattle.std.specs.Prelude.{◌≡◌, List, Option, IsSomeAnd, codes, true}
use Rattle.clap.specs.Words.{App, Row, Text, first_of, new_app, one_of, with_subcommand}
use Rattle.clap.specs.Simple.{on_top}
use Rattle.escpos_addresses.specs.Address.{IsAddress}
use Rattle.escpos_probe.specs.declared.task.ProbeTask.{ProbeTask}
use Rattle.escpos_arguments.specs.Arguments.{asking_words}
use Rattle.escpos_arguments.specs.ClapAnswers.{IsNumberIn}

-- this name, with the values that were given after it, asks for the task
abbrev pub AsksProbeBy : Text → List Row → ProbeTask → Type 0
AsksProbeBy name rows task = (name ≡ codes "probe")
    × IsSomeAnd (first_of (codes "address") rows) (λ text. IsAddress text task.address)
    × IsNumberIn (one_of (codes "wait") rows) task.wait

-- what `clap` finds in the arguments, a name and the values after it, asks for the task
abbrev pub AsksProbe : Option (Text × List Row) → ProbeTask → Type 0
AsksProbe found task = IsSomeAnd found (λ p. AsksProbeBy p.0 p.1 task)

-- `probe` with its values, and nothing more, as `clap` reads it
abbrev pub probe_words : App
probe_words =
    let top = on_top (λ s. record s {
      no_binary_name = true;
      disable_help_subcommand = true;
      subcommand_required = true;
    }) (new_app (codes "escpos_cli")) in
    with_subcommand top (asking_words (codes "probe"))
