-- What happens to a printer whose sensors are watched: one thing after another.
use Rattle.std.specs.Prelude.{ℕ, ◌≡◌, ◌≤◌, ◌+◌, ◌-◌, Bool, false, IsTrue, List, [], ◌∷◌, ◌++◌, length, take, Option, None, Some, option_to_list, ⊤}
use Rattle.std.specs.List.{flat_map}
use Rattle.std.specs.Io.KnownBytes.{Appends, Consumes}
use Rattle.escpos_command.specs.declared.answer.Answer.{Answer}
use Rattle.escpos_command.specs.Answers.{spell_answers}
use Rattle.escpos_paper.specs.declared.item.Item.{Item}
use Rattle.escpos_paper.specs.ItemsText.{items_text}
use Rattle.escpos_printer.specs.declared.condition.Condition.{Condition}
use Rattle.escpos_printer.specs.declared.printer.FeedStop.{FeedStop}
use Rattle.escpos_printer.specs.declared.serve.LinkEnd.{LinkEnd}
use Rattle.escpos_printer.specs.declared.serve.Served.{Served}
use Rattle.escpos_printer.specs.Feeds.{Feeds, PrinterView}
use Rattle.escpos_printer.specs.LinkInParts.{under}
use Rattle.escpos_printer.specs.Replies.{after_change, is_offline}
use Rattle.escpos_tcp_jobs.specs.declared.watch.Progress.{Progress}

-- ## One thing after another

-- The sensors say something; a byte is offered to the printer, which takes it or not (how many bytes it takes, and why no
-- more); or what is on the paper is torn off.
pub data Happening : Type 0 where
  said : Condition → Happening
  offered : ℕ → ℕ → FeedStop → Happening
  gone : List Item → Happening

-- The printer once its sensors say this: automatic status may have made an answer.
abbrev pub told : Condition → PrinterView → PrinterView
told c p = record { sheet = p.sheet; half = p.half; waiting = after_change p.automatic p.condition c p.waiting; condition = c; automatic = p.automatic }

-- The printer once all its answers have gone.
abbrev pub answered : PrinterView → PrinterView
answered p = record { sheet = p.sheet; half = p.half; waiting = []; condition = p.condition; automatic = p.automatic }

-- What one thing makes of a printer, and the answers that go with it. No byte is offered while the printer is offline.
abbrev pub Happens : PrinterView → Happening → List Answer → PrinterView → Type 0
Happens p (said c) answers q = (answers ≡ (told c p).waiting) × (q ≡ answered (told c p))
Happens p (offered b k stop) answers q = (is_offline p.condition ≡ false)
    × ((fed : PrinterView) × Feeds p (b ∷ []) k stop fed × (answers ≡ fed.waiting) × (q ≡ answered fed))
Happens p (gone items) answers q = (answers ≡ []) × (p ≡ under items q)

abbrev pub Happened : PrinterView → List Happening → List Answer → PrinterView → Type 0
Happened p [] answers q = (answers ≡ []) × (q ≡ p)
Happened p (h ∷ more) answers q =
    (first rest : List Answer) × (between : PrinterView) × Happens p h first between × Happened between more rest q × (answers ≡ first ++ rest)

-- What the sensors said, the bytes that were taken, and what was torn off, each in order.
abbrev pub said_by : Happening → List Condition
said_by (said c) = c ∷ []
said_by (offered b k stop) = []
said_by (gone items) = []

abbrev pub taken_by : Happening → List ℕ
taken_by (said c) = []
taken_by (offered b k stop) = take k (b ∷ [])
taken_by (gone items) = []

abbrev pub gone_by : Happening → List Item
gone_by (said c) = []
gone_by (offered b k stop) = []
gone_by (gone items) = items

-- ## A link

-- What sensors are still to say, where that is known, begins with this, and loses it.
abbrev pub Says : Option (List Condition) → Option (List Condition) → List Condition → Type 0
Says None new cs = ⊤
Says (Some xs) None cs = ⊥
Says (Some xs) (Some ys) cs = xs ≡ cs ++ ys

-- A sink at one time: the bytes that it has taken, where that is known, and whether it has failed.
pub record SinkView : Type 0 where
  pub written : Option (List ℕ)
  pub failed : Bool

abbrev pub sink : Option (List ℕ) → Bool → SinkView
sink written failed = record { written = written; failed = failed }

-- The first `sent` bytes of these answers went out: all of them, unless the sink has failed, and none if it had failed before.
pub record Sends (before after : SinkView) (sent : ℕ) (answers : List Answer) : Type 0 where
  pub out : Appends before.written after.written (take sent (spell_answers answers))
  pub within : sent ≤ length (spell_answers answers)
  pub whole : ¬ IsTrue after.failed → sent ≡ length (spell_answers answers)
  pub none : IsTrue before.failed → sent ≡ 0
  pub stays : IsTrue before.failed → IsTrue after.failed

-- A watched link at one time: the printer, what is still to come from the host, what sensors are still to say, the text of what
-- was torn off, and how far the link was served.
pub record WatchView : Type 0 where
  pub printer : PrinterView
  pub to_come : Option (List ℕ)
  pub sink : SinkView
  pub to_say : Option (List Condition)
  pub paper : List ℕ
  pub progress : Progress

-- What happened to a link from one time to another: which bytes came, all of which were taken in order but for one that is held;
-- what the sensors said; and which answers went out.
pub record Watches (before after : WatchView) : Type 0 where
  pub happened : List Happening
  pub came : List ℕ
  pub answers : List Answer
  pub goes : Happened before.printer happened answers after.printer
  pub comes : Consumes before.to_come after.to_come came
  pub read : after.progress.read ≡ before.progress.read + length came
  pub taken : option_to_list before.progress.held ++ came ≡ flat_map taken_by happened ++ option_to_list after.progress.held
  pub says : Says before.to_say after.to_say (flat_map said_by happened)
  pub text : after.paper ≡ before.paper ++ items_text (flat_map gone_by happened)
  pub sent : ℕ
  pub sends : Sends before.sink after.sink sent answers
  pub written : after.progress.written ≡ before.progress.written + sent

abbrev pub watch_view : PrinterView → Option (List ℕ) → SinkView → Option (List Condition) → List ℕ → Progress → WatchView
watch_view printer to_come sink to_say paper progress =
    record { printer = printer; to_come = to_come; sink = sink; to_say = to_say; paper = paper; progress = progress }

-- How far a link was served before any of it came.
abbrev pub begun : Progress
begun = record { read = 0; written = 0; held = None }

-- What is told of a link that was served this far and ended by this. A byte that is held was read and isn't taken.
abbrev pub served_by : Progress → LinkEnd → Served
served_by progress end =
    record { read = progress.read; consumed = progress.read - length (option_to_list progress.held); written = progress.written; end = end }

-- What serving a watched link from its first byte on does, and what is told of it.
pub record WatchesLink (before after : Progress → WatchView) (served : Served) : Type 0 where
  pub progress : Progress
  pub told : served ≡ served_by progress served.end
  pub watches : Watches (before begun) (after progress)
