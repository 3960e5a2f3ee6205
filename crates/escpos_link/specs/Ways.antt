-- What holds for host, printer and links together at all times, so that the records stand on the paper. Each part is needed
-- for the next event, whatever that is.
--
-- A line is in one of four ways. Off: the host has no link. Left: the host is up, but the printer has left its link, so
-- what was put on it is lost and only answers may still come. Unopened: the host is opening its link, and no mark of that
-- link was run; the printer may still serve older links, or hold a half command of one, and so may read what comes as
-- something else. Serving: a mark of the live link was run, or the line is as if one was: from there on the printer reads
-- what the host puts.
--
--   Way      | Link        | What the host may hear
--   Off      | none        | nothing
--   Left     | none        | answers of before; a closing mark's, whose receipt then stands
--   Unopened | the newest  | marks below its first opening mark: of these only the closing marks of what is left record
--   Serving  | the only    | its own marks, in the order in which it put them
--
-- All marks that may still be answered stand in a row: those whose answers are on their way or wait, then those of each link that
-- was given up, then those of the newest. Their numbers rise, from the host's `heard` on and below its next one; and there are
-- fewer numbers in that range than ids. So an id tells the number. Whatever answer the host hears is the first of the row, and
-- those after it have higher numbers: so `heard` may rise above it.
--
-- No event of the host takes it from Unopened to Serving: the line is Serving once the printer has run one of the host's
-- opening marks. Only then is there an answer to one, and only that lets the host put a receipt.
--
-- What is left of an older link isn't among these claims: see `Promised` and `Trusted`.
use Rattle.std.specs.Prelude.{ℕ, ◌≡◌, ◌≢◌, ◌≤◌, ◌+◌, ◌⊎◌, List, [], ◌∷◌, ◌++◌, map, Option, Some, None, IsTrue}
use Rattle.std.specs.List.{flat_map, AllByRecursion}
use Rattle.escpos_command.specs.declared.answer.Answer.{Answer}
use Rattle.escpos_command.specs.declared.answer.Answer.TheVariants as answer
use Rattle.escpos_command.specs.declared.command.Command.{Command}
use Rattle.escpos_command.specs.declared.command.Command.TheVariants as kind
use Rattle.escpos_command.specs.Answers.{Hears}
use Rattle.escpos_command.specs.CommandTable.{spell}
use Rattle.escpos_command.specs.Digits.{mark_count}
use Rattle.escpos_host.specs.Counted.{id_of}
use Rattle.escpos_command.specs.Grammar.{Half, Reads}
use Rattle.escpos_command.specs.Marks.{marks}
use Rattle.escpos_command.specs.Parameters.{is_mark_id}
use Rattle.escpos_paper.specs.declared.item.Item.{Item}
use Rattle.escpos_paper.specs.Page.{Sheet, SheetIs}
use Rattle.escpos_paper.specs.Printed.{printed}
use Rattle.escpos_host.specs.Machine.{InFlight, Phase, Down, Opening, Open, ask_reports, receipts_of}
use Rattle.escpos_link.specs.Line.{LineView}
use Rattle.escpos_link.specs.Stands.{Stands}

-- ## Marks and their numbers

-- The ids of the marks that are answered.
abbrev pub answered : Answer → List (List ℕ)
answered (answer.Status b) = []
answered (answer.Mark id) = id ∷ []
answered (answer.Condition block) = []

abbrev pub answered_marks : List Answer → List (List ℕ)
answered_marks answers = flat_map answered answers

-- The ids are those of marks whose numbers rise, from one number on and below another.
abbrev pub Row : ℕ → ℕ → List (List ℕ) → Type 0
Row from to [] = from ≤ to
Row from to (id ∷ ids) = (n : ℕ) × (from ≤ n) × (id_of n ≡ id) × Row (n + 1) to ids

-- No two numbers from one on and below another have one id.
abbrev pub AreApart : ℕ → ℕ → Type 0
AreApart from to = to ≤ from + mark_count

-- ## Receipts in flight

abbrev pub flight_of : Phase → List InFlight
flight_of (Open flight) = flight
flight_of _ = []

abbrev pub closing_marks : List InFlight → List (List ℕ)
closing_marks flight = map (λ (p : InFlight). p.mark) flight

-- What the host puts for receipts: each after an Init and before its closing mark.
abbrev pub sends : List InFlight → List Command
sends [] = []
sends (p ∷ ps) = kind.Init ∷ (p.receipt ++ (kind.Mark p.mark ∷ sends ps))

-- The numbers of their closing marks rise from one on, and are below the next.
abbrev pub Rising : ℕ → List InFlight → ℕ → Type 0
Rising from [] next = from ≤ next
Rising from (p ∷ ps) next = (from ≤ p.number) × (p.mark ≡ id_of p.number) × Rising (p.number + 1) ps next

-- The marks of a queue are older ones, then the closing marks of the receipts that are done, in order. Those to do come
-- after them; all of their numbers rise.
pub record InOrder (heard : ℕ) (done todo : List InFlight) (next : ℕ) (queue : List (List ℕ)) : Type 0 where
  pub old : List (List ℕ)
  pub base : ℕ
  pub known : Row heard base old
  pub rising : Rising base (done ++ todo) next
  pub queue_is : queue ≡ old ++ closing_marks done

-- The last of the receipts that are done is still being printed: its Init was run, and the rest of it and its closing mark
-- are still to come.
pub record Printing (width : ℕ) (records : List (List Command)) (done : List InFlight) (rest : List Command) (kept : List Item) (ran : List Command) : Type 0 where
  pub before : List InFlight
  pub current : InFlight
  pub first : List Command
  pub run : List Command
  pub to_run : List Command
  pub done_is : done ≡ before ++ current ∷ []
  pub ran_is : ran ≡ first ++ kind.Init ∷ [] ++ run
  pub receipt_is : current.receipt ≡ run ++ to_run
  pub rest_is : rest ≡ to_run ++ kind.Mark current.mark ∷ []
  pub stands : Stands width (records ++ receipts_of before) (kept ++ printed width first)

-- What is recorded and what is done stands on the paper; or all of it but the last, which is being printed.
abbrev pub Stood : ℕ → List (List Command) → List InFlight → List Command → List Item → List Command → Type 0
Stood width records done rest kept ran = Stands width (records ++ receipts_of done) (kept ++ printed width ran) ⊎ Printing width records done rest kept ran

-- How far the receipts in flight are, where these commands were run on paper that held some items, these marks are answered
-- and not heard yet, and these commands are due: the rest of what was begun, then the receipts to do.
pub record Course (width heard : ℕ) (records : List (List Command)) (flight : List InFlight) (next : ℕ) (kept : List Item) (ran : List Command) (pending : List (List ℕ))
    (due : List Command) : Type 0 where
  pub done : List InFlight
  pub todo : List InFlight
  pub rest : List Command
  pub flight_is : flight ≡ done ++ todo
  pub order : InOrder heard done todo next (pending ++ marks rest)
  pub due_is : due ≡ rest ++ sends todo
  pub unmarked : AllByRecursion (λ (p : InFlight). marks p.receipt ≡ []) todo
  pub stood : Stood width records done rest kept ran

-- The same where nothing is due any more: those of the receipts in flight whose closing marks are answered stand.
pub record Owed (width heard : ℕ) (records : List (List Command)) (flight : List InFlight) (next : ℕ) (items : List Item) (pending : List (List ℕ)) : Type 0 where
  pub done : List InFlight
  pub todo : List InFlight
  pub flight_is : flight ≡ done ++ todo
  pub order : InOrder heard done todo next pending
  pub stands : Stands width (records ++ receipts_of done) items

-- ## Links

abbrev pub IsRest : List ℕ → Type 0
IsRest half = (half ≡ []) ⊎ Half half

-- What is put on a link before one of its marks is answered: a mark, or a request for automatic status.
abbrev pub IsOpener : Command → Type 0
IsOpener c = ((id : List ℕ) × (c ≡ kind.Mark id) × IsTrue (is_mark_id id)) ⊎ (c ≡ ask_reports)

-- No mark of the link was run: only such commands were put on it, with such marks, and what was delivered of them was read after an
-- older half command as commands without a mark.
pub record UnreadOf (K : List (List ℕ) → Type 0) (half stream : List ℕ) : Type 0 where
  pub older : List ℕ
  pub delivered : List ℕ
  pub openers : List Command
  pub commands : List Command
  pub pending : IsRest older
  pub opening : AllByRecursion IsOpener openers
  pub known : K (marks openers)
  pub spelled : delivered ++ stream ≡ spell openers
  pub reads : Reads (older ++ delivered) commands half
  pub no_mark : marks commands ≡ []

abbrev pub Unread : ℕ → ℕ → List ℕ → List ℕ → Type 0
Unread from to half stream = UnreadOf (Row from to) half stream

-- The printer reads what was put: its half command and what is to come are commands.
pub record InStep (from to : ℕ) (half stream : List ℕ) : Type 0 where
  pub due : List Command
  pub aligned : Reads (half ++ stream) due []
  pub known : Row from to (marks due)

-- Such commands alone, of which nothing was delivered.
abbrev pub FreshOf : (List (List ℕ) → Type 0) → List ℕ → Type 0
FreshOf K stream = (openers : List Command) × AllByRecursion IsOpener openers × K (marks openers) × (stream ≡ spell openers)

abbrev pub Fresh : ℕ → ℕ → List ℕ → Type 0
Fresh from to stream = FreshOf (Row from to) stream

-- A link that was given up holds a prefix of what would have been put on it: the one that the printer serves, and a later
-- one.
abbrev pub ServedLink : ℕ → ℕ → List ℕ → List ℕ → Type 0
ServedLink from to half bytes = (more : List ℕ) × (Unread from to half (bytes ++ more) ⊎ InStep from to half (bytes ++ more))

abbrev pub LateOf : (List (List ℕ) → Type 0) → List ℕ → Type 0
LateOf K bytes = (more : List ℕ) × FreshOf K (bytes ++ more)

-- Later ones, one after another.
abbrev pub Later : ℕ → ℕ → List (List ℕ) → Type 0
Later from to [] = from ≤ to
Later from to (bytes ∷ others) = (mid : ℕ) × LateOf (Row from mid) bytes × Later mid to others

-- The links that were given up; and the live one, where nothing of it was run.
abbrev pub GivenUp : ℕ → ℕ → List ℕ → List (List ℕ) → Type 0
GivenUp from to half [] = from ≤ to
GivenUp from to half (bytes ∷ others) = (mid : ℕ) × ServedLink from mid half bytes × Later mid to others

abbrev pub Newest : ℕ → ℕ → List ℕ → List (List ℕ) → List ℕ → Type 0
Newest from to half [] stream = Unread from to half stream
Newest from to half (bytes ∷ others) stream = Fresh from to stream

-- ## The four ways

-- While the host opens its link, no mark of that link is known to be answered.
abbrev pub IsSince : Phase → ℕ → Type 0
IsSince (Opening first) heard = heard ≤ first
IsSince phase heard = Unit {0}

pub record Serving (width : ℕ) (phase : Phase) (out : List ℕ) (next heard : ℕ) (records : List (List Command)) (sheet : Sheet) (half : List ℕ) (ended : List (List ℕ))
    (live : List ℕ) (pending : List (List ℕ)) : Type 0 where
  pub up : phase ≢ Down
  pub only : ended ≡ []
  pub kept : List Item
  pub ran : List Command
  pub due : List Command
  pub sheet_is : SheetIs width sheet kept ran
  pub aligned : Reads (half ++ (live ++ out)) due []
  pub apart : AreApart heard next
  pub since : IsSince phase heard
  pub course : Course width heard records (flight_of phase) next kept ran pending due

pub record Unopened (width : ℕ) (phase : Phase) (out : List ℕ) (next heard : ℕ) (records : List (List Command)) (sheet : Sheet) (half : List ℕ) (ended : List (List ℕ))
    (live : List ℕ) (pending : List (List ℕ)) : Type 0 where
  pub first : ℕ
  pub opening : phase ≡ Opening first
  pub within : first ≤ next
  pub apart : AreApart heard next
  pub stands : Stands width records sheet.items
  pub reach : ℕ
  pub known : Row heard reach pending
  pub given_up : GivenUp reach first half ended
  pub newest : Newest first next half ended (live ++ out)

pub record Left (width : ℕ) (phase : Phase) (next heard : ℕ) (records : List (List Command)) (sheet : Sheet) (ended : List (List ℕ)) (pending : List (List ℕ)) : Type 0 where
  pub up : phase ≢ Down
  pub only : ended ≡ []
  pub apart : AreApart heard next
  pub since : IsSince phase heard
  pub owed : Owed width heard records (flight_of phase) next sheet.items pending

pub record Off (width : ℕ) (phase : Phase) (next heard : ℕ) (records : List (List Command)) (sheet : Sheet) (half : List ℕ) (ended : List (List ℕ)) (pending : List (List ℕ))
    : Type 0 where
  pub down : phase ≡ Down
  pub stands : Stands width records sheet.items
  pub reach : ℕ
  pub end : ℕ
  pub within : end ≤ next
  pub known : Row heard reach pending
  pub given_up : GivenUp reach end half ended

abbrev pub Way : ℕ → Phase → List ℕ → ℕ → ℕ → List (List Command) → Sheet → List ℕ → List (List ℕ) → Option (List ℕ) → List (List ℕ) → Type 0
Way width phase out next heard records sheet half ended None pending = Left width phase next heard records sheet ended pending ⊎ Off width phase next heard records sheet half ended pending
Way width phase out next heard records sheet half ended (Some bytes) pending =
    Serving width phase out next heard records sheet half ended bytes pending ⊎ Unopened width phase out next heard records sheet half ended bytes pending

-- What holds for a line whose printer prints lines of this width: it is in one of these ways, with the answers that are to come.
pub record OnWay (width : ℕ) (l : LineView) : Type 0 where
  pub answers : List Answer
  pub hears : Hears (l.host.half ++ l.coming) answers []
  pub half : IsRest l.printer.half
  pub reached : (kept : List Item) × (ran : List Command) × SheetIs width l.printer.sheet kept ran
  pub way :
      Way width l.host.phase l.host.out l.host.next l.host.heard l.host.records l.printer.sheet l.printer.half l.ended l.live (answered_marks (answers ++ l.printer.waiting))
