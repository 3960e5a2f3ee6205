-- What an answer proves, however late it comes: a promise that stands from event to event.
--
-- When a host's link is cut, the printer may still print the receipt that was in flight, and answer its closing mark; and
-- that answer may come on a later link. No two marks of a host that may still be answered have one id, so it shows which receipt
-- is on the paper. A
-- *promise* is a receipt and the id of its closing mark: if the mark is answered, then the receipt stands on the paper after
-- all that are recorded. It is made before the mark is put out, when it says nothing yet; it holds for the receipt in flight,
-- because the printer reads what the host puts; and it stays, whatever happens, as long as no other receipt is recorded and the
-- mark may still be answered: marks that come after it have other ids until then, and nothing takes an item from the paper.
--
-- A host hears such answers itself as long as it is opening a link: so what is left of an older link is promised, one receipt
-- after another (`Trusted`). `Promising` has the law.
use Rattle.std.specs.Prelude.{ℕ, ◌≡◌, ◌≢◌, ◌⊎◌, List, [], ◌∷◌, ◌++◌, Option, Some, None, IsTrue}
use Rattle.std.specs.List.{AllByRecursion}
use Rattle.escpos_command.specs.declared.answer.Answer.{Answer}
use Rattle.escpos_command.specs.declared.command.Command.{Command}
use Rattle.escpos_command.specs.Answers.{Hears}
use Rattle.escpos_command.specs.Grammar.{Reads}
use Rattle.escpos_command.specs.Marks.{marks}
use Rattle.escpos_command.specs.Parameters.{is_mark_id}
use Rattle.escpos_paper.specs.declared.item.Item.{Item}
use Rattle.escpos_paper.specs.Page.{Sheet, SheetIs}
use Rattle.escpos_paper.specs.Printed.{printed}
use Rattle.escpos_host.specs.Machine.{InFlight}
use Rattle.escpos_link.specs.Line.{LineView}
use Rattle.escpos_link.specs.Stands.{Stands}
use Rattle.escpos_link.specs.Ways.{FreshOf, LateOf, UnreadOf, answered_marks}

-- It is one of these.
abbrev pub IsIn : List ℕ → List (List ℕ) → Type 0
IsIn id [] = ⊥
IsIn id (x ∷ xs) = (x ≡ id) ⊎ IsIn id xs

-- The id of a mark, and another one.
abbrev pub IsOther : List ℕ → List ℕ → Type 0
IsOther id x = IsTrue (is_mark_id x) × (x ≢ id)

abbrev pub AreOther : List ℕ → List (List ℕ) → Type 0
AreOther id ids = AllByRecursion (IsOther id) ids

-- The receipt stands after those that are recorded.
abbrev pub StandsNext : ℕ → InFlight → List (List Command) → List Item → Type 0
StandsNext width p records items = Stands width (records ++ p.receipt ∷ []) items

-- Where these commands are due, the receipt stands once the mark is run.
abbrev pub Fulfils : ℕ → InFlight → List (List Command) → List Item → List Command → List Command → Type 0
Fulfils width p records kept ran due = (a b : List Command) → due ≡ a ++ b → IsIn p.mark (marks a) → StandsNext width p records (kept ++ printed width (ran ++ a))

-- The printer reads what comes, and the promise is kept then.
pub record KeepsOn (width : ℕ) (p : InFlight) (records : List (List Command)) (sheet : Sheet) (half stream : List ℕ) : Type 0 where
  pub due : List Command
  pub aligned : Reads (half ++ stream) due []
  pub kept : List Item
  pub ran : List Command
  pub sheet_is : SheetIs width sheet kept ran
  pub fulfils : Fulfils width p records kept ran due

-- The link that the printer serves: other marks alone were put on it, and none was run; or the promise is kept by what comes.
abbrev pub ServedFor : ℕ → InFlight → List (List Command) → Sheet → List ℕ → List ℕ → Type 0
ServedFor width p records sheet half stream = UnreadOf (AreOther p.mark) half stream ⊎ KeepsOn width p records sheet half stream

-- The links that were given up, and the live one. On those that the printer doesn't serve yet there are other marks alone.
abbrev pub GivenUpFor : ℕ → InFlight → List (List Command) → Sheet → List ℕ → List (List ℕ) → Type 0
GivenUpFor width p records sheet half [] = Unit {0}
GivenUpFor width p records sheet half (bytes ∷ others) =
    ((more : List ℕ) × ServedFor width p records sheet half (bytes ++ more)) × AllByRecursion (LateOf (AreOther p.mark)) others

abbrev pub NewestFor : ℕ → InFlight → List (List Command) → Sheet → List ℕ → List (List ℕ) → List ℕ → Type 0
NewestFor width p records sheet half [] stream = ServedFor width p records sheet half stream
NewestFor width p records sheet half (bytes ∷ others) stream = FreshOf (AreOther p.mark) stream

abbrev pub LiveFor : ℕ → InFlight → List (List Command) → Sheet → List ℕ → List (List ℕ) → Option (List ℕ) → List ℕ → Type 0
LiveFor width p records sheet half ended None out = Unit {0}
LiveFor width p records sheet half ended (Some bytes) out = NewestFor width p records sheet half ended (bytes ++ out)

-- The promise, where these marks are answered and not heard yet.
pub record PromisedBy (width : ℕ) (p : InFlight) (records : List (List Command)) (out : List ℕ) (sheet : Sheet) (half : List ℕ) (ended : List (List ℕ))
    (live : Option (List ℕ)) (pending : List (List ℕ)) : Type 0 where
  pub answered : IsIn p.mark pending → StandsNext width p records sheet.items
  pub given_up : GivenUpFor width p records sheet half ended
  pub newest : LiveFor width p records sheet half ended live out

-- The promise on a line whose printer prints lines of this width, for these records: those that the host had when the promise was made.
pub record PromisedIn (width : ℕ) (records : List (List Command)) (p : InFlight) (l : LineView) : Type 0 where
  pub answers : List Answer
  pub hears : Hears (l.host.half ++ l.coming) answers []
  pub by : PromisedBy width p records l.host.out l.printer.sheet l.printer.half l.ended l.live (answered_marks (answers ++ l.printer.waiting))

abbrev pub Promised : List (List Command) → InFlight → LineView → Type 0
Promised records p l = PromisedIn l.printer.sheet.line_dots records p l
