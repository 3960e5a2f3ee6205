-- What is delivered: the first receipt that waits, as it is sent.
use Rattle.std.specs.Prelude.{ℕ, ◌≡◌, ◌+◌, ◌^◌, max, min, Option, Some, List, [], slice_get}
use Rattle.escpos_command.specs.declared.command.Command.{Command}
use Rattle.escpos_host.specs.Machine.{HostView, Down}
use Rattle.escpos_receipt.specs.declared.json.JsonError.{JsonError}
use Rattle.escpos_receipt.specs.declared.json.JsonError.TheVariants as json
use Rattle.escpos_receipt.specs.Whole.{Whole}
use Rattle.escpos_till.specs.declared.entry.Content.{Content}
use Rattle.escpos_till.specs.declared.entry.Entry.{Entry}
use Rattle.escpos_till.specs.Contents.{ContentDescribes, IsContentFault}
use Rattle.escpos_till.specs.Copy.{sent_of}
use Rattle.escpos_till.specs.Entries.{times_tried, waiting}

-- No more entries than these are ever taken.
abbrev pub most_entries : ℕ
most_entries = 2 ^ 62

-- The first receipt that waits has this number and this content, and was tried this many times.
pub record FirstWaits (entries : List Entry) (number : ℕ) (content : Content) (tried : ℕ) : Type 0 where
  pub first : slice_get (waiting entries) 0 ≡ Some (record { number = number; content = content })
  pub times : times_tried entries number ≡ tried

-- The first receipt that waits has this number; these commands are sent of it.
pub record Due (entries : List Entry) (copy : Option (List ℕ)) (number : ℕ) (commands : List Command) : Type 0 where
  pub content : Content
  pub tried : ℕ
  pub first : FirstWaits entries number content tried
  pub receipt : List Command
  pub describes : ContentDescribes content receipt
  pub whole : Whole receipt
  pub sent : commands ≡ sent_of copy tried receipt

-- Why the text of a receipt gives none.
abbrev pub WhyNone : JsonError → Content → Type 0
WhyNone (json.Refused fault) content = IsContentFault fault content
WhyNone json.Memory content = Unit {0}

-- How many mark numbers a try takes: one for each opening mark, at least one, and one for the closing mark.
abbrev pub marks_taken : ℕ → ℕ
marks_taken openings = max openings 1 + 1

-- A host that has sent nothing yet, and has no record. Its first mark will have this number. Of the marks of older hosts those below another number
-- can't be answered any more.
abbrev pub fresh : ℕ → ℕ → HostView
fresh first heard = record { phase = Down; out = []; half = []; next = first; heard = min heard first; records = []; left = [] }
