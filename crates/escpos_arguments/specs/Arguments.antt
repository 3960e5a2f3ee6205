-- The arguments of the command line, and what they ask for.
use Rattle.std.specs.Prelude.{◌≡◌, ◌≤◌, ℕ, ⊤, List, [], ◌∷◌, Option, Some, None, IfSome, IsSomeAnd, IsTrue, codes, length, Bool, true, false}
use Rattle.clap.specs.Words.{App, Row, Rule, Shape, Text, first_of, new_app, new_rule, one_of, subcommand_of, with_rule, with_subcommand}
use Rattle.clap.specs.Simple.{new_shape, on_top}
use Rattle.clap.specs.declared.builder.action.ArgAction.TheVariants.{Set, SetTrue}
use Rattle.escpos_command.specs.LineWidths.{is_line_width}
use Rattle.escpos_command.specs.declared.line_width.TheConstants.{USUAL_LINE_DOTS}
use Rattle.escpos_text.specs.Replacements.{is_replacement}
use Rattle.escpos_receipt.specs.declared.options.ReceiptOptions.{ReceiptOptions}
use Rattle.escpos_arguments.specs.declared.arguments.TheConstants.{LINKS, MOST_LINKS, OPENINGS, MOST_OPENINGS, MOST_WAIT}
use Rattle.escpos_arguments.specs.declared.image.TheConstants.{MOST_THRESHOLD}
use Rattle.escpos_printer.specs.declared.condition.Condition.{Condition}
use Rattle.escpos_addresses.specs.Address.{IsAddress}
use Rattle.escpos_addresses.specs.declared.address.TheConstants.{MOST_TEXT}
use Rattle.escpos_job_parts.specs.declared.form.Form.{Form}
use Rattle.escpos_job_parts.specs.declared.form.Form.TheVariants.{Hexadecimal, Raw}
use Rattle.escpos_jobs.specs.declared.task.Task.{Task}
use Rattle.escpos_jobs.specs.declared.task.Task.TheVariants.{Check, Render, RenderText, Draw, Encode, Image, Play, Emulate, Send, Status, Loop}
use Rattle.escpos_job_parts.specs.Conditions.{condition_text, online}
use Rattle.escpos_arguments.specs.ClapAnswers.{IsNumber, IsNumberIn}

-- ---- what a text says

-- the number that a text says, if there is a text, otherwise the fallback
abbrev pub IsNumberOr : ℕ → Option Text → ℕ → Type 0
IsNumberOr fallback None n = n ≡ fallback
IsNumberOr fallback (Some text) n = IsNumber text n

-- ---- what the arguments ask for

-- the flag of this name is among the values
abbrev pub HasFlag : Text → List Row → Type 0
HasFlag name rows = first_of name rows ≡ Some (codes "true")

-- the flag `--raw` is among the values
abbrev pub HasRaw : List Row → Type 0
HasRaw rows = HasFlag (codes "raw") rows

-- the flag `--text` is among the values
abbrev pub HasText : List Row → Type 0
HasText rows = HasFlag (codes "text") rows

-- the flag `--pass` is among the values
abbrev pub HasPass : List Row → Type 0
HasPass rows = HasFlag (codes "pass") rows

-- whether commands are passed over: with the flag `--pass`
abbrev pub GivesPass : List Row → Bool → Type 0
GivesPass rows true = HasPass rows
GivesPass rows false = ¬ HasPass rows

-- how a stream is given: as the bytes themselves with the flag `--raw`, otherwise as hexadecimal digits
abbrev pub GivesForm : List Row → Form → Type 0
GivesForm rows Raw = HasRaw rows
GivesForm rows Hexadecimal = ¬ HasRaw rows

-- no width is among the values
abbrev pub HasNoWidth : List Row → Type 0
HasNoWidth rows = one_of (codes "width") rows ≡ None

-- no replacement is among the values
abbrev pub HasNoReplacement : List Row → Type 0
HasNoReplacement rows = first_of (codes "replace") rows ≡ None

-- the width of a line is what the values say of it, and the usual one where they say nothing
abbrev pub GivesWidth : List Row → ℕ → Type 0
GivesWidth rows width = IsNumberOr USUAL_LINE_DOTS (one_of (codes "width") rows) width

-- neither a width nor a replacement is among the values
abbrev pub HasNoOptions : List Row → Type 0
HasNoOptions rows = HasNoWidth rows × HasNoReplacement rows

-- the replacement that a text says, if there is a text: its one character
abbrev pub IsReplacedBy : Option Text → Option ℕ → Type 0
IsReplacedBy None replacement = replacement ≡ None
IsReplacedBy (Some text) replacement = (c : ℕ) × (text ≡ c ∷ []) × (replacement ≡ Some c)

-- the options are what the values say of them, and the usual ones where they say nothing
abbrev pub GivesOptions : List Row → ReceiptOptions → Type 0
GivesOptions rows options = GivesWidth rows options.width × IsReplacedBy (first_of (codes "replace") rows) options.replacement

-- what the sensors of a printer say, where this text was given for it, if any
abbrev pub IsConditionOr : Option Text → Condition → Type 0
IsConditionOr None condition = condition ≡ online
IsConditionOr (Some text) condition = text ≡ condition_text condition

-- how many links are to be served: a number, or, with the flag `--follow`, none
abbrev pub IsLinks : List Row → Option ℕ → Type 0
IsLinks rows None = (one_of (codes "links") rows ≡ None) × HasFlag (codes "follow") rows
IsLinks rows (Some links) = IsNumberOr LINKS (one_of (codes "links") rows) links × (¬ HasFlag (codes "follow") rows)

-- as many links as may be served
abbrev pub IsLinkCount : ℕ → Type 0
IsLinkCount links = (1 ≤ links) × (links ≤ MOST_LINKS)

-- this name, with the values that were given after it, asks for the task
abbrev pub AsksBy : Text → List Row → Task → Type 0
AsksBy name rows (Check form pass) = (name ≡ codes "check") × GivesForm rows form × GivesPass rows pass
AsksBy name rows (Render form pass width) = (name ≡ codes "render") × GivesForm rows form × GivesPass rows pass × GivesWidth rows width × (¬ HasText rows)
AsksBy name rows (RenderText form pass width) = (name ≡ codes "render") × GivesForm rows form × GivesPass rows pass × GivesWidth rows width × HasText rows
AsksBy name rows (Draw form pass width) = (name ≡ codes "draw") × GivesForm rows form × GivesPass rows pass × GivesWidth rows width
AsksBy name rows (Encode form options) = (name ≡ codes "encode") × GivesForm rows form × GivesOptions rows options
AsksBy name rows (Image width threshold) = (name ≡ codes "image") × GivesWidth rows width × IsNumberIn (one_of (codes "threshold") rows) threshold
AsksBy name rows Play = name ≡ codes "play"
AsksBy name rows (Emulate address links condition width file) = (name ≡ codes "emulate")
    × IsSomeAnd (first_of (codes "address") rows) (λ text. IsAddress text address)
    × IsLinks rows links
    × IsConditionOr (first_of (codes "condition") rows) condition
    × GivesWidth rows width
    × (first_of (codes "condition-file") rows ≡ file)
AsksBy name rows (Send address first openings wait options) = (name ≡ codes "send")
    × IsSomeAnd (first_of (codes "address") rows) (λ text. IsAddress text address)
    × IsSomeAnd (one_of (codes "first") rows) (λ text. IsNumber text first)
    × IsNumberOr OPENINGS (one_of (codes "openings") rows) openings
    × IsNumberIn (one_of (codes "wait") rows) wait
    × GivesOptions rows options
AsksBy name rows (Status address wait) = (name ≡ codes "status")
    × IsSomeAnd (first_of (codes "address") rows) (λ text. IsAddress text address)
    × IsNumberIn (one_of (codes "wait") rows) wait
AsksBy name rows (Loop width) = (name ≡ codes "loop") × GivesWidth rows width

-- what `clap` finds in the arguments, a name and the values after it, asks for the task
abbrev pub Asks : Option (Text × List Row) → Task → Type 0
Asks found task = IsSomeAnd found (λ p. AsksBy p.0 p.1 task)

-- a number of seconds that a wait may last
abbrev pub IsWait : ℕ → Type 0
IsWait n = (1 ≤ n) × (n ≤ MOST_WAIT)

-- a gray value that dots may be compared with
abbrev pub IsThreshold : ℕ → Type 0
IsThreshold n = (1 ≤ n) × (n ≤ MOST_THRESHOLD)

-- the width of the options is one of a line, and the replacement, if there is one, a printed character of ASCII
abbrev pub IsOptions : ReceiptOptions → Type 0
IsOptions options = IsTrue (is_line_width options.width) × IfSome options.replacement (λ c. IsTrue (is_replacement c))

-- the numbers of the task are in range
abbrev pub InRange : Task → Type 0
InRange (Render form pass width) = IsTrue (is_line_width width)
InRange (RenderText form pass width) = IsTrue (is_line_width width)
InRange (Draw form pass width) = IsTrue (is_line_width width)
InRange (Encode form options) = IsOptions options
InRange (Image width threshold) = IsTrue (is_line_width width) × IfSome threshold IsThreshold
InRange (Emulate address links condition width file) = IfSome links IsLinkCount × IsTrue (is_line_width width) × IfSome file (λ path. length path ≤ MOST_TEXT)
InRange (Send address first openings wait options) = (1 ≤ openings) × (openings ≤ MOST_OPENINGS) × IfSome wait IsWait × IsOptions options
InRange (Status address wait) = IfSome wait IsWait
InRange (Loop width) = IsTrue (is_line_width width)
InRange _ = ⊤

-- ---- names that stand alone

-- the names that ask for a task without any settings, and that task
abbrev pub bare_tasks : List (Text × Task)
bare_tasks =
    let usual : ReceiptOptions = record { width = USUAL_LINE_DOTS; replacement = None } in
    (codes "check", Check Hexadecimal false) ∷ (codes "render", Render Hexadecimal false USUAL_LINE_DOTS) ∷ (codes "draw", Draw Hexadecimal false USUAL_LINE_DOTS)
    ∷ (codes "encode", Encode Hexadecimal usual) ∷ (codes "play", Play) ∷ (codes "loop", Loop USUAL_LINE_DOTS) ∷ []

-- none of the settings of such a task is among the values
abbrev pub SetsNothing : List Row → Task → Type 0
SetsNothing rows (Check form pass) = (¬ HasRaw rows) × (¬ HasPass rows)
SetsNothing rows (Render form pass width) = (¬ HasRaw rows) × (¬ HasPass rows) × HasNoWidth rows
SetsNothing rows (Draw form pass width) = (¬ HasRaw rows) × (¬ HasPass rows) × HasNoWidth rows
SetsNothing rows (Encode form options) = (¬ HasRaw rows) × HasNoOptions rows
SetsNothing rows Play = ⊤
SetsNothing rows (Loop width) = HasNoWidth rows
SetsNothing rows _ = ⊥

-- argument lists that ask for help (there are others)
abbrev pub help_words : List (List Text)
help_words = (codes "help" ∷ []) ∷ (codes "--help" ∷ []) ∷ (codes "-h" ∷ [])
    ∷ (codes "check" ∷ codes "--help" ∷ []) ∷ (codes "check" ∷ codes "-h" ∷ [])
    ∷ (codes "render" ∷ codes "--help" ∷ []) ∷ (codes "render" ∷ codes "-h" ∷ [])
    ∷ (codes "draw" ∷ codes "--help" ∷ []) ∷ (codes "draw" ∷ codes "-h" ∷ [])
    ∷ (codes "encode" ∷ codes "--help" ∷ []) ∷ (codes "encode" ∷ codes "-h" ∷ [])
    ∷ (codes "play" ∷ codes "--help" ∷ []) ∷ (codes "play" ∷ codes "-h" ∷ [])
    ∷ (codes "emulate" ∷ codes "--help" ∷ []) ∷ (codes "emulate" ∷ codes "-h" ∷ [])
    ∷ (codes "send" ∷ codes "--help" ∷ []) ∷ (codes "send" ∷ codes "-h" ∷ [])
    ∷ (codes "loop" ∷ codes "--help" ∷ []) ∷ (codes "loop" ∷ codes "-h" ∷ []) ∷ []

-- ---- the program's arguments, as `clap` reads them

-- a required value without a name before it
abbrev pub address_rule : Rule
address_rule = record (new_rule (codes "address")) { required = true; action = Some Set }

-- a value that follows two dashes and this name
abbrev pub option_rule : Text → Bool → Rule
option_rule name required = record (new_rule name) { long = Some name; required = required; action = Some Set }

-- a flag: two dashes and this name
abbrev pub flag_rule : Text → Rule
flag_rule name = record (new_rule name) { long = Some name; action = Some SetTrue }

-- what may follow `check`
abbrev pub check_words : Shape
check_words = (with_rule (with_rule (new_app (codes "check")) (flag_rule (codes "raw"))) (flag_rule (codes "pass"))).top

-- the width of a line
abbrev pub width_rule : Rule
width_rule = option_rule (codes "width") false

-- what is printed in place of a character that isn't to be had
abbrev pub replace_rule : Rule
replace_rule = option_rule (codes "replace") false

-- what may follow `encode`
abbrev pub encode_words : Shape
encode_words = (with_rule (with_rule (with_rule (new_app (codes "encode")) (flag_rule (codes "raw"))) width_rule) replace_rule).top

-- what may follow `render`
abbrev pub render_words : Shape
render_words = (with_rule (with_rule (with_rule (with_rule (new_app (codes "render")) (flag_rule (codes "raw"))) (flag_rule (codes "pass"))) width_rule) (flag_rule (codes "text"))).top

-- what may follow `image`
abbrev pub image_words : Shape
image_words = (with_rule (with_rule (new_app (codes "image")) width_rule) (option_rule (codes "threshold") false)).top

-- what may follow `draw`
abbrev pub draw_words : Shape
draw_words = (with_rule (with_rule (with_rule (new_app (codes "draw")) (flag_rule (codes "raw"))) (flag_rule (codes "pass"))) width_rule).top

-- what may follow `loop`
abbrev pub loop_words : Shape
loop_words = (with_rule (new_app (codes "loop")) width_rule).top

-- what may follow `emulate`
abbrev pub emulate_words : Shape
emulate_words = (with_rule (with_rule (with_rule (with_rule (with_rule (with_rule (new_app (codes "emulate")) address_rule) (option_rule (codes "links") false))
    (flag_rule (codes "follow"))) (option_rule (codes "condition") false)) (option_rule (codes "condition-file") false)) width_rule).top

-- what may follow `send`
abbrev pub send_words : Shape
send_words = (with_rule (with_rule (with_rule (with_rule (with_rule (with_rule (new_app (codes "send")) address_rule) (option_rule (codes "first") true))
    (option_rule (codes "openings") false)) (option_rule (codes "wait") false)) width_rule) replace_rule).top

-- what may follow `status` and `probe`
abbrev pub asking_words : Text → Shape
asking_words name = (with_rule (with_rule (new_app name) address_rule) (option_rule (codes "wait") false)).top

-- the names of the tasks that need no network, and nothing more
abbrev pub stream_words : App
stream_words =
    let top = on_top (λ s. record s {
      no_binary_name = true;
      disable_help_subcommand = true;
      subcommand_required = true;
    }) (new_app (codes "escpos_cli")) in
    with_subcommand (with_subcommand (with_subcommand (with_subcommand (with_subcommand (with_subcommand top
    check_words) render_words) draw_words) encode_words) image_words) (new_shape (codes "play"))

-- the name of a task with its values, or `help`, and nothing more
abbrev pub command_words : App
command_words = with_subcommand (with_subcommand (with_subcommand (with_subcommand (with_subcommand stream_words
    emulate_words) send_words) (asking_words (codes "status"))) loop_words) (new_shape (codes "help"))

-- where a task sets nothing, its name is all that was given: no `--` follows it
abbrev pub StandsAlone : List Text → Task → Type 0
StandsAlone texts task = IsSomeAnd (subcommand_of command_words texts) (λ p. SetsNothing p.1 task → texts ≡ p.0 ∷ [])
