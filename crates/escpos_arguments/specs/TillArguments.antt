-- The arguments of a till's words, `queue`, `deliver`, `cancel` and `ledger`, and what they ask for.
use Rattle.std.specs.Prelude.{◌≡◌, ◌<◌, ◌≤◌, List, [], ◌∷◌, Option, Some, None, IfSome, IsSomeAnd, IsTrue, codes, true, false}
use Rattle.clap.specs.Words.{App, Row, Rule, Shape, Text, first_of, new_app, new_rule, one_of, with_rule, with_subcommand}
use Rattle.clap.specs.Simple.{on_top}
use Rattle.clap.specs.declared.builder.action.ArgAction.TheVariants.{Set}
use Rattle.escpos_command.specs.LineWidths.{is_line_width}
use Rattle.escpos_arguments.specs.declared.arguments.TheConstants.{OPENINGS, MOST_OPENINGS, PATIENCE}
use Rattle.escpos_arguments.specs.Arguments.{IsNumberOr, IsOptions, IsWait, GivesOptions, GivesWidth, HasNoOptions, HasNoReplacement, HasRaw, address_rule, flag_rule, option_rule, replace_rule, width_rule}
use Rattle.escpos_arguments.specs.ClapAnswers.{IsNumber, IsNumberIn}
use Rattle.escpos_addresses.specs.Address.{IsAddress}
use Rattle.escpos_till.specs.Copy.{IsCopyText}
use Rattle.escpos_till.specs.Keys.{IsKey}
use Rattle.escpos_till_jobs.specs.declared.task.TillTask.{TillTask}
use Rattle.escpos_till_jobs.specs.declared.task.TillTask.TheVariants.{Queue, QueueAgain, QueueRaw, Deliver, Cancel, Renew, List as listing}

-- ---- what the arguments ask for

-- the words that a till uses
abbrev pub till_names : List Text
till_names = codes "queue" ∷ codes "deliver" ∷ codes "cancel" ∷ codes "ledger" ∷ []

-- this name, with the values that were given after it, asks for the task
abbrev pub AsksTillBy : Text → List Row → TillTask → Type 0
AsksTillBy name rows (Queue ledger options key) = (name ≡ codes "queue")
    × (first_of (codes "ledger") rows ≡ Some ledger)
    × (one_of (codes "again") rows ≡ None)
    × GivesOptions rows options
    × (¬ HasRaw rows)
    × (first_of (codes "key") rows ≡ key)
AsksTillBy name rows (QueueRaw ledger width key) = (name ≡ codes "queue")
    × (first_of (codes "ledger") rows ≡ Some ledger)
    × (one_of (codes "again") rows ≡ None)
    × GivesWidth rows width
    × HasNoReplacement rows
    × HasRaw rows
    × (first_of (codes "key") rows ≡ key)
AsksTillBy name rows (QueueAgain ledger number) = (name ≡ codes "queue")
    × (first_of (codes "ledger") rows ≡ Some ledger)
    × IsSomeAnd (one_of (codes "again") rows) (λ text. IsNumber text number)
    × HasNoOptions rows
    × (¬ HasRaw rows)
    × (first_of (codes "key") rows ≡ None)
AsksTillBy name rows (Deliver ledger delivery wait) = (name ≡ codes "deliver")
    × (first_of (codes "ledger") rows ≡ Some ledger)
    × IsSomeAnd (first_of (codes "address") rows) (λ text. IsAddress text delivery.address)
    × IsNumberOr OPENINGS (one_of (codes "openings") rows) delivery.openings
    × IsNumberOr PATIENCE (one_of (codes "patience") rows) delivery.patience
    × (first_of (codes "copy") rows ≡ delivery.copy)
    × IsNumberIn (one_of (codes "wait") rows) wait
AsksTillBy name rows (Cancel ledger number) = (name ≡ codes "cancel")
    × (first_of (codes "ledger") rows ≡ Some ledger)
    × IsSomeAnd (one_of (codes "number") rows) (λ text. IsNumber text number)
AsksTillBy name rows (Renew ledger new) = (name ≡ codes "ledger")
    × (first_of (codes "ledger") rows ≡ Some ledger)
    × (first_of (codes "renew") rows ≡ Some new)
    × IsNumberIn (one_of (codes "first") rows) None
AsksTillBy name rows (listing ledger first) = (name ≡ codes "ledger")
    × (first_of (codes "ledger") rows ≡ Some ledger)
    × (first_of (codes "renew") rows ≡ None)
    × IsNumberIn (one_of (codes "first") rows) first

-- what `clap` finds in the arguments, a name and the values after it, asks for the task
abbrev pub AsksTill : Option (Text × List Row) → TillTask → Type 0
AsksTill found task = IsSomeAnd found (λ p. AsksTillBy p.0 p.1 task)

-- the values of the task are in range
abbrev pub IsTillInRange : TillTask → Type 0
IsTillInRange (Queue ledger options key) = IsOptions options × IfSome key IsKey
IsTillInRange (QueueRaw ledger width key) = IsTrue (is_line_width width) × IfSome key IsKey
IsTillInRange (QueueAgain ledger number) = 0 < number
IsTillInRange (Deliver ledger delivery wait) = (1 ≤ delivery.openings) × (delivery.openings ≤ MOST_OPENINGS) × IsWait delivery.patience × IfSome delivery.copy IsCopyText × IfSome wait IsWait
IsTillInRange (Cancel ledger number) = 0 < number
IsTillInRange (Renew ledger new) = Unit {0}
IsTillInRange (listing ledger first) = Unit {0}

-- ---- the till's arguments, as `clap` reads them

-- the path of a ledger
abbrev pub ledger_rule : Rule
ledger_rule = record (new_rule (codes "ledger")) { required = true; action = Some Set }

-- the number of a receipt
abbrev pub number_rule : Rule
number_rule = record (new_rule (codes "number")) { required = true; action = Some Set }

-- what may follow `queue`
abbrev pub queue_words : Shape
queue_words = (with_rule (with_rule (with_rule (with_rule (with_rule (with_rule (new_app (codes "queue")) ledger_rule) width_rule) replace_rule) (option_rule (codes "again") false))
    (option_rule (codes "key") false)) (flag_rule (codes "raw"))).top

-- what may follow `deliver`
abbrev pub deliver_words : Shape
deliver_words = (with_rule (with_rule (with_rule (with_rule (with_rule (with_rule (new_app (codes "deliver")) ledger_rule) address_rule)
    (option_rule (codes "openings") false)) (option_rule (codes "copy") false)) (option_rule (codes "wait") false)) (option_rule (codes "patience") false)).top

-- what may follow `cancel`
abbrev pub cancel_words : Shape
cancel_words = (with_rule (with_rule (new_app (codes "cancel")) ledger_rule) number_rule).top

-- what may follow `ledger`
abbrev pub ledger_words : Shape
ledger_words = (with_rule (with_rule (with_rule (new_app (codes "ledger")) ledger_rule) (option_rule (codes "first") false)) (option_rule (codes "renew") false)).top

-- the name of a task with its values, and nothing more
abbrev pub till_words : App
till_words =
    let top = on_top (λ s. record s {
      no_binary_name = true;
      disable_help_subcommand = true;
      subcommand_required = true;
    }) (new_app (codes "escpos_cli")) in
    with_subcommand (with_subcommand (with_subcommand (with_subcommand top queue_words) deliver_words) cancel_words) ledger_words
