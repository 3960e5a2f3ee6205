-- What a list of entries says, and which lists are ledgers. Each definition looks back at the whole list.
use Rattle.std.specs.Prelude.{ℕ, zero, suc, ◌≡◌, ◌⊎◌, ◌+◌, ◌-◌, ◌<◌, ◌≤◌, max, Bool, false, ◌==◌, ◌&&◌, is_none, Option, Some, None, List, [], ◌∷◌, ◌++◌, length, map, filter, count_by}
use Rattle.std.specs.List.{filter_map, position_from}
use Rattle.escpos_host.specs.Machine.{limit_from}
use Rattle.escpos_till.specs.declared.entry.Content.{Content}
use Rattle.escpos_till.specs.declared.entry.Entry.{Entry}
use Rattle.escpos_till.specs.declared.entry.Entry.TheVariants as entry
use Rattle.escpos_till.specs.declared.state.ReceiptState.{ReceiptState}
use Rattle.escpos_till.specs.declared.state.ReceiptState.TheVariants as state
use Rattle.escpos_till.specs.Tries.{end_of_tries, last_or, tries}

-- ## Mark numbers

-- The mark number that an entry says is the next.
abbrev pub next_of : Entry → Option ℕ
next_of (entry.Tried number next) = Some next
next_of (entry.Raised next h) = Some next
next_of _ = None

-- The first mark number that is free: the last one that an entry says, 0 before any.
abbrev pub next_free : List Entry → ℕ
next_free entries = last_or 0 (filter_map next_of entries)

-- An entry that comes after these says that no mark with a number below this one can be answered any more: a receipt is recorded once the answer
-- to a mark has come. A record without such a number, as in files of before, says it of the closing mark of the receipt's last try.
abbrev pub heard_said : List Entry → Entry → ℕ
heard_said before (entry.Recorded number zero) = end_of_tries (tries before) number
heard_said before (entry.Recorded number (suc h)) = suc h
heard_said before (entry.Raised next h) = h
heard_said before (entry.Renewed last h) = h
heard_said before _ = 0

-- The highest of this number and those that these entries say, which come after others.
abbrev pub heard_after : List Entry → ℕ → List Entry → ℕ
heard_after before most [] = most
heard_after before most (e ∷ es) = heard_after (before ++ e ∷ []) (max most (heard_said before e)) es

-- No mark with a number below this one can be answered any more: the highest number of which the entries say so.
abbrev pub heard : List Entry → ℕ
heard entries = heard_after [] 0 entries

-- ## Receipts

abbrev pub content_of : Entry → Option Content
content_of (entry.Queued content) = Some content
content_of _ = None

-- The contents of the receipts that were taken, in the order of taking.
abbrev pub contents : List Entry → List Content
contents = filter_map content_of

-- A receipt that was taken: its number, and its text in JSON with the options that the text is read with.
pub record Taken : Type 0 where
  pub number : ℕ
  pub content : Content

abbrev pub numbered_from : ℕ → List Content → List Taken
numbered_from n [] = []
numbered_from n (content ∷ more) = record { number = n; content = content } ∷ numbered_from (n + 1) more

-- The number of the last receipt that an older ledger has taken, if the entry says that its ledger goes on from one; 0 otherwise.
abbrev pub earlier_of : Entry → ℕ
earlier_of (entry.Renewed last h) = last
earlier_of _ = 0

-- A ledger that goes on from an older one says so in its first entry. Receipts with numbers up to this one were taken there, and are over.
abbrev pub earlier : List Entry → ℕ
earlier [] = 0
earlier (e ∷ es) = earlier_of e

-- The receipts that were taken, numbered in the order of taking: from 1, or from the number after the last one of the older ledger.
abbrev pub taken : List Entry → List Taken
taken entries = numbered_from (1 + earlier entries) (contents entries)

-- The number of the receipt that was taken last, here or in the older ledger; 0 if none was.
abbrev pub last_number : List Entry → ℕ
last_number entries = earlier entries + length (contents entries)

-- The place of the receipt with this number among those that were taken here, counted from 0.
abbrev pub place_here : List Entry → ℕ → ℕ
place_here entries number = number - (1 + earlier entries)

abbrev pub record_of : Entry → Option ℕ
record_of (entry.Recorded number h) = Some number
record_of _ = None

-- The numbers of the receipts that are recorded, in the order of recording.
abbrev pub recorded : List Entry → List ℕ
recorded = filter_map record_of

-- The place of a number in a list, counted from 0.
abbrev pub place_in : List ℕ → ℕ → Option ℕ
place_in numbers number = position_from (λ n. n == number) 0 numbers

-- The place of a receipt among those that are recorded, counted from 0.
abbrev pub place_of : List Entry → ℕ → Option ℕ
place_of entries number = place_in (recorded entries) number

abbrev pub cancel_of : Entry → Option ℕ
cancel_of (entry.Cancelled number) = Some number
cancel_of _ = None

-- The numbers of the receipts that are cancelled, in the order of cancelling.
abbrev pub cancelled : List Entry → List ℕ
cancelled = filter_map cancel_of

-- The place of a receipt among those that are cancelled, counted from 0.
abbrev pub cancel_place_of : List Entry → ℕ → Option ℕ
cancel_place_of entries number = place_in (cancelled entries) number

-- A receipt is neither recorded nor cancelled.
abbrev pub is_open : List Entry → ℕ → Bool
is_open entries number = is_none (place_of entries number) && is_none (cancel_place_of entries number)

-- The receipts that wait: those that were taken and are neither recorded nor cancelled, in the order of taking.
abbrev pub waiting : List Entry → List Taken
waiting entries = filter (λ receipt. is_open entries receipt.number) (taken entries)

abbrev pub is_try_of : ℕ → Entry → Bool
is_try_of number (entry.Tried n next) = n == number
is_try_of number _ = false

-- How often a receipt was sent, or was about to be.
abbrev pub times_tried : List Entry → ℕ → ℕ
times_tried entries number = count_by (is_try_of number) entries

abbrev pub state_by : Option ℕ → Option ℕ → ℕ → ReceiptState
state_by (Some place) cancel tried = state.Recorded place
state_by None (Some cancel) tried = state.Cancelled tried
state_by None None tried = state.Waiting tried

-- Where a receipt stands.
abbrev pub state_of : List Entry → ℕ → ReceiptState
state_of entries number = state_by (place_of entries number) (cancel_place_of entries number) (times_tried entries number)

-- Where the receipts stand, in the order of taking.
abbrev pub states : List Entry → List ReceiptState
states entries = map (λ receipt. state_of entries receipt.number) (taken entries)

-- ## Keys

-- An entry says the key, and the one directly after it takes the receipt with this number. A key that no receipt follows so is void.
pub record TakenWithKey (entries : List Entry) (key : List ℕ) (number : ℕ) : Type 0 where
  pub before : List Entry
  pub content : Content
  pub following : List Entry
  pub entries_are : entries ≡ before ++ entry.Key key ∷ entry.Queued content ∷ following
  pub number_is : number ≡ last_number before + 1

-- An entry says that the receipt with this number, which an older ledger has taken, came with the key.
pub record CameWithKey (entries : List Entry) (key : List ℕ) (number : ℕ) : Type 0 where
  pub before : List Entry
  pub following : List Entry
  pub entries_are : entries ≡ before ++ entry.Earlier number key ∷ following
  pub from_one : 0 < number
  pub older : number ≤ earlier before

-- The receipt with this number has this key.
pub record HasKey (entries : List Entry) (key : List ℕ) (number : ℕ) : Type 0 where
  pub said : TakenWithKey entries key number ⊎ CameWithKey entries key number

abbrev pub key_of : Entry → Option (List ℕ)
key_of (entry.Key key) = Some key
key_of _ = None

-- The key that the last of some entries says; this one if there are none.
abbrev pub last_key_or : Option (List ℕ) → List Entry → Option (List ℕ)
last_key_or key [] = key
last_key_or key (e ∷ es) = last_key_or (key_of e) es

-- The key that the last entry says: a receipt that was taken directly after it would have it.
abbrev pub last_key : List Entry → Option (List ℕ)
last_key entries = last_key_or None entries

-- ## Ledgers

-- The receipt with this number was taken here, and is neither recorded nor cancelled.
pub record Waits (entries : List Entry) (number : ℕ) : Type 0 where
  pub here : earlier entries < number
  pub taken : number ≤ last_number entries
  pub open_still : place_of entries number ≡ None
  pub not_cancelled : cancel_place_of entries number ≡ None

-- In a ledger the entry may come after these. Only a receipt that waits is tried or cancelled; only one that was tried, and
-- waits, is recorded. The next mark number never falls, and each try raises it; but no try has a mark whose id one has that may still be answered.
-- Where all marks are answered, it may be raised with all that is said to be heard, and so to any number. A key is said only while no receipt has it, and of a receipt
-- of an older ledger only one key is said. That a ledger goes on from an older one is its first entry.
abbrev pub MayFollow : List Entry → Entry → Type 0
MayFollow before (entry.Queued content) = Unit {0}
MayFollow before (entry.Tried number next) = Waits before number × (next_free before < next) × (next ≤ limit_from (heard before))
MayFollow before (entry.Recorded number h) = Waits before number × (0 < times_tried before number) × (h ≤ next_free before)
MayFollow before (entry.Raised next h) = (next_free before ≤ next) × ((h ≡ 0) ⊎ ((h ≡ next) × (heard before ≡ next_free before)))
MayFollow before (entry.Cancelled number) = Waits before number
MayFollow before (entry.Key key) = (number : ℕ) → HasKey before key number → ⊥
MayFollow before (entry.Renewed last h) = before ≡ []
MayFollow before (entry.Earlier number key) =
    (0 < number) × (number ≤ earlier before) × ((n : ℕ) → HasKey before key n → ⊥) × ((k : List ℕ) → HasKey before k number → ⊥)

-- The entries are a ledger: each of them may come after those before it.
abbrev pub IsLedger : List Entry → Type 0
IsLedger entries = (before : List Entry) (e : Entry) (following : List Entry) → entries ≡ before ++ e ∷ following → MayFollow before e
