-- What holds where a machine goes on with the next receipt over the same link (nothing here says that it does): the one before is printed, and that is to be kept together with the try
-- of the next one. Its closing mark has the next mark number, which is also the host's next one, and all that was to be put is put: nothing
-- else is put before the receipt, and no new opening mark.
use Rattle.std.specs.Prelude.{ℕ, ◌≡◌, ◌+◌, ◌<◌, min, Option, Some, None, List, [], ◌∷◌, ◌++◌, length}
use Rattle.escpos_command.specs.CommandTable.{AreCommands}
use Rattle.escpos_host.specs.Machine.{HostView, Open, limit_from}
use Rattle.escpos_receipt.specs.Whole.{Whole}
use Rattle.escpos_till.specs.declared.book.Book.{Book}
use Rattle.escpos_till.specs.declared.entry.Entry.{Entry}
use Rattle.escpos_till.specs.declared.entry.Entry.TheVariants as entry
use Rattle.escpos_till.specs.declared.further.Further.{Further}
use Rattle.escpos_till.specs.declared.stage.Due.{Due}
use Rattle.escpos_till.specs.declared.stage.Stage.{Stage}
use Rattle.escpos_till.specs.declared.stage.Stage.TheVariants as stage
use Rattle.escpos_till.specs.declared.stage.Then.TheVariants as then
use Rattle.escpos_till.specs.Book.{HasTryRoom, IsBookOf}
use Rattle.escpos_till.specs.Copy.{IsCopyText}
use Rattle.escpos_till.specs.Delivers.{Due as IsDue, most_entries}
use Rattle.escpos_till.specs.Entries.{MayFollow, Waits}

-- What is kept with a record: no mark below this number can be answered any more, since the host has heard that; it is no higher than the next
-- number.
abbrev pub heard_by : Book → HostView → ℕ
heard_by b h = min h.heard b.next

-- The text for the line of a copy, if there is one, is such a text.
abbrev pub IsText : Option (List ℕ) → Type 0
IsText None = Unit {0}
IsText (Some text) = IsCopyText text

-- It is the receipt that is to be sent after this one: the first that waits once this one is recorded.
pub record IsAfter (b : Book) (number : ℕ) (further : Option Further) (h : HostView) (due : Due) : Type 0 where
  pub how : Further
  pub given : further ≡ Some how
  pub text : IsText how.copy
  pub next : (entries : List Entry) → IsBookOf b entries → MayFollow entries (entry.Recorded number (heard_by b h)) → IsDue (entries ++ entry.Recorded number (heard_by b h) ∷ []) how.copy due.number due.receipt
  pub waits : (entries : List Entry) → IsBookOf b entries → MayFollow entries (entry.Recorded number (heard_by b h)) → Waits (entries ++ entry.Recorded number (heard_by b h) ∷ []) due.number
  pub answers : due.most ≡ how.most
  pub goes_on : due.further ≡ Some how
  pub commands : AreCommands due.receipt
  pub whole : Whole due.receipt
  pub link : h.phase ≡ Open []
  pub quiet : h.out ≡ []
  pub marks : h.next ≡ b.next
  pub within : b.next < limit_from (heard_by b h)
  pub few : (entries : List Entry) → IsBookOf b entries → length entries + 2 < most_entries
  pub room : HasTryRoom b

-- That is to be kept, and with it that the next one is tried.
pub record GoesFurther (b : Book) (number : ℕ) (further : Option Further) (h : HostView) (s : Stage) : Type 0 where
  pub due : Due
  pub after : IsAfter b number further h due
  pub stage_is : s ≡ stage.Keeping (entry.Recorded number (heard_by b h)) (then.GoOn number (entry.Tried due.number (b.next + 1)) due)
