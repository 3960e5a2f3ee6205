-- What a till knows of its ledger: what the entries say, as far as taking and delivering receipts needs it.
use Rattle.std.specs.Prelude.{ℕ, ◌≡◌, ◌+◌, ◌<◌, Some, List, [], ◌∷◌, ◌++◌, length, slice_get}
use Rattle.escpos_till.specs.declared.book.Book.{Book}
use Rattle.escpos_till.specs.declared.entry.Content.{Content}
use Rattle.escpos_till.specs.declared.entry.Entry.{Entry}
use Rattle.escpos_till.specs.declared.entry.Entry.TheVariants as entry
use Rattle.escpos_till.specs.declared.state.ReceiptState.TheVariants as state
use Rattle.escpos_till.specs.Entries.{HasKey, IsLedger, MayFollow, contents, earlier, heard, last_key, next_free, recorded, states}
use Rattle.escpos_till.specs.Keyed.{Keyed, ListsKey}
use Rattle.escpos_till.specs.States.{IsFirstWaiting}
use Rattle.escpos_till.specs.Tries.{tries}

-- These are the contents of the receipts that wait, each at the place of its receipt.
pub record HasContents (kept : List Content) (entries : List Entry) : Type 0 where
  pub count : length kept ≡ length (contents entries)
  pub waiting : (k tried : ℕ) (content : Content) → slice_get (states entries) k ≡ Some (state.Waiting tried)
      → slice_get (contents entries) k ≡ Some content → slice_get kept k ≡ Some content

-- These are the keys of the receipts, each with its receipt's number.
pub record HasKeys (keys : List Keyed) (entries : List Entry) : Type 0 where
  pub known : (key : List ℕ) (number : ℕ) → HasKey entries key number → ListsKey keys key number
  pub listed : (key : List ℕ) (number : ℕ) → ListsKey keys key number → HasKey entries key number

-- It is the book of these entries.
pub record IsBookOf (b : Book) (entries : List Entry) : Type 0 where
  pub earlier : b.earlier ≡ earlier entries
  pub states : b.states.items ≡ states entries
  pub contents : HasContents b.contents.items entries
  pub first_waiting : IsFirstWaiting b.states.items b.first_waiting
  pub recorded : b.recorded ≡ length (recorded entries)
  pub tries : b.tries.items ≡ tries entries
  pub keys : HasKeys b.keys.items entries
  pub last_key : b.last_key ≡ last_key entries
  pub next : b.next ≡ next_free entries
  pub heard : b.heard ≡ heard entries
  pub count : b.count ≡ length entries

-- One more entry, which may follow, is taken into account.
abbrev pub Notes : Book → Entry → Book → Type 0
Notes old e new = (entries : List Entry) → IsBookOf old entries → IsLedger entries → MayFollow entries e → IsBookOf new (entries ++ e ∷ [])

-- The receipt at this place has this number and this content; it waits, and was tried so often.
pub record StandsAt (b : Book) (place number : ℕ) (content : Content) (tried : ℕ) : Type 0 where
  pub number_is : number ≡ b.earlier + place + 1
  pub waits : slice_get b.states.items place ≡ Some (state.Waiting tried)
  pub kept : slice_get b.contents.items place ≡ Some content

-- There is room for one more receipt, with a key.
pub record HasRoom (b : Book) : Type 0 where
  pub states : length b.states.items < b.states.cap
  pub contents : length b.contents.items < b.contents.cap
  pub keys : length b.keys.items < b.keys.cap

-- There is room for one more try.
abbrev pub HasTryRoom : Book → Type 0
HasTryRoom b = length b.tries.items < b.tries.cap

-- The entry needs no room.
abbrev pub NeedsNoRoom : Entry → Type 0
NeedsNoRoom (entry.Raised next h) = Unit {0}
NeedsNoRoom (entry.Key key) = Unit {0}
NeedsNoRoom e = ⊥
