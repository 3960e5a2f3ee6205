-- What a till's owner wants to be sure of, said of the entries of his ledger and of the printer's paper: each receipt that
-- was taken waits, is recorded or is cancelled, and those that are recorded are on the paper.
use Rattle.std.specs.Prelude.{ℕ, ◌≡◌, ◌⊎◌, List, ◌∷◌, ◌++◌}
use Rattle.std.specs.List.{AllZip}
use Rattle.escpos_command.specs.declared.command.Command.{Command}
use Rattle.escpos_paper.specs.declared.item.Item.{Item}
use Rattle.escpos_receipt.specs.Whole.{Whole}
use Rattle.escpos_till.specs.declared.entry.Content.{Content}
use Rattle.escpos_till.specs.declared.entry.Entry.{Entry}
use Rattle.escpos_till.specs.declared.entry.Entry.TheVariants as entry
use Rattle.escpos_till.specs.Contents.{ContentDescribes}
use Rattle.escpos_till.specs.Copy.{IsCopyText, copy_line}
use Rattle.escpos_till.specs.Entries.{Taken, cancelled, recorded, taken, waiting}
use Rattle.escpos_link.specs.Stands.{Stands}

-- ## Lists

-- It is one of these.
abbrev pub Among : {X : Type 0} → X → List X → Type 0
Among {X} x xs = (before : List X) × (following : List X) × (xs ≡ before ++ x ∷ following)

-- No number is among them twice.
abbrev pub NoneTwice : List ℕ → Type 0
NoneTwice ns = (n : ℕ) (before following : List ℕ) → ns ≡ before ++ n ∷ following → ¬ Among n before

-- ## Receipts of entries

-- The receipt with this number was taken, and this is its text in JSON, with the options that the text is read with.
abbrev pub IsTaken : List Entry → ℕ → Content → Type 0
IsTaken entries number content = Among (record { number = number; content = content }) (taken entries)

-- The commands are a receipt that the content describes; or such a one after the line that says that it is printed again.
pub record IsReceipt (content : Content) (commands : List Command) : Type 0 where
  pub receipt : List Command
  pub describes : ContentDescribes content receipt
  pub whole : Whole receipt
  pub sent : (commands ≡ receipt) ⊎ ((text : List ℕ) × IsCopyText text × (commands ≡ copy_line text ++ receipt))

-- The commands are a receipt that the content describes which was taken under this number.
pub record IsReceiptOf (entries : List Entry) (number : ℕ) (commands : List Command) : Type 0 where
  pub content : Content
  pub taken : IsTaken entries number content
  pub receipt : IsReceipt content commands

-- The receipts of what is recorded: one for each number, in the order of recording.
abbrev pub AreReceipts : List Entry → List (List Command) → Type 0
AreReceipts entries receipts = AllZip (IsReceiptOf entries) (recorded entries) receipts

-- ## What is promised

-- The entries that were there are there, in their places; there may be more after them.
abbrev pub Extends : List Entry → List Entry → Type 0
Extends entries after = (more : List Entry) × (after ≡ entries ++ more)

-- What is recorded stands on the paper whole, one receipt after another in the order of recording, each as a printer with lines
-- of this width in dots prints it.
pub record RecordedStand (width : ℕ) (entries : List Entry) (paper : List Item) : Type 0 where
  pub receipts : List (List Command)
  pub are : AreReceipts entries receipts
  pub stand : Stands width receipts paper

-- Each receipt that was taken waits, is recorded or is cancelled, and none is two of these; what is recorded or cancelled was
-- taken, and none is recorded or cancelled twice.
pub record EachIsKept (entries : List Entry) : Type 0 where
  pub waits_recorded_or_cancelled : (receipt : Taken) → Among receipt (taken entries)
      → Among receipt (waiting entries) ⊎ (Among receipt.number (recorded entries) ⊎ Among receipt.number (cancelled entries))
  pub waiting_not_recorded : (receipt : Taken) → Among receipt (waiting entries) → ¬ Among receipt.number (recorded entries)
  pub waiting_not_cancelled : (receipt : Taken) → Among receipt (waiting entries) → ¬ Among receipt.number (cancelled entries)
  pub recorded_not_cancelled : (number : ℕ) → Among number (recorded entries) → ¬ Among number (cancelled entries)
  pub were_taken : (number : ℕ) → Among number (recorded entries) → (content : Content) × IsTaken entries number content
  pub cancelled_were_taken : (number : ℕ) → Among number (cancelled entries) → (content : Content) × IsTaken entries number content
  pub once : NoneTwice (recorded entries)
  pub cancelled_once : NoneTwice (cancelled entries)

-- By this entry the receipt with this number is tried, recorded or cancelled.
abbrev pub IsAbout : ℕ → Entry → Type 0
IsAbout number (entry.Queued content) = ⊥
IsAbout number (entry.Tried n next) = n ≡ number
IsAbout number (entry.Recorded n h) = n ≡ number
IsAbout number (entry.Raised next h) = ⊥
IsAbout number (entry.Cancelled n) = n ≡ number
IsAbout number (entry.Key key) = ⊥
IsAbout number (entry.Renewed last h) = ⊥
IsAbout number (entry.Earlier n key) = ⊥

-- By this entry the receipt with this number is recorded or cancelled, and waits no more.
abbrev pub IsEndOf : ℕ → Entry → Type 0
IsEndOf number (entry.Queued content) = ⊥
IsEndOf number (entry.Tried n next) = ⊥
IsEndOf number (entry.Recorded n h) = n ≡ number
IsEndOf number (entry.Raised next h) = ⊥
IsEndOf number (entry.Cancelled n) = n ≡ number
IsEndOf number (entry.Key key) = ⊥
IsEndOf number (entry.Renewed last h) = ⊥
IsEndOf number (entry.Earlier n key) = ⊥
