-- A ledger that goes on from an older one: what it has of it.
use Rattle.std.specs.Prelude.{ℕ, Bool, false, ◌==◌, ◌≡◌, ◌⊎◌, ◌↔◌, ◌+◌, ◌-◌, ◌<◌, ◌≤◌, nat_lt, List, [], ◌∷◌, drop, filter, length}
use Rattle.escpos_till.specs.declared.book.Book.{Book}
use Rattle.escpos_till.specs.declared.entry.Entry.{Entry}
use Rattle.escpos_till.specs.declared.entry.Entry.TheVariants as entry
use Rattle.escpos_till.specs.declared.renewing.TheConstants.{KEYS_KEPT}
use Rattle.escpos_till.specs.declared.tries.Try.{Try}
use Rattle.escpos_till.specs.Entries.{HasKey, IsLedger, Waits, cancelled, contents, earlier, heard, last_number, next_free, recorded, times_tried, waiting}
use Rattle.escpos_till.specs.Keyed.{Keyed, ListsKey}
use Rattle.escpos_till.specs.Tries.{HasTry, tries}

-- The numbers above this one.
abbrev pub above : ℕ → List ℕ → List ℕ
above last numbers = filter (λ n. nat_lt last n) numbers

abbrev pub tries_above : ℕ → List Try → List Try
tries_above last ts = filter (λ t. nat_lt last t.number) ts

-- The entries begin with the one that says that they go on from an older ledger. No ledger has that one behind another entry.
pub record BeginsRenewed (entries : List Entry) : Type 0 where
  pub last : ℕ
  pub heard : ℕ
  pub rest : List Entry
  pub is : entries ≡ entry.Renewed last heard ∷ rest

-- This ledger goes on from the older one, and says so first. It has the receipts from the first that waits there on, with their numbers, contents and tries, the last
-- number of a receipt, the next mark number, what is heard of marks, and the keys of its last receipts and of those that wait; the receipts before these it has no more.
pub record Renews (old new : List Entry) : Type 0 where
  pub begins : BeginsRenewed new
  pub ledger : IsLedger new
  pub waiting : waiting new ≡ waiting old
  pub waits : (number : ℕ) → Waits new number ↔ Waits old number
  pub times : (number : ℕ) → Waits old number → times_tried new number ≡ times_tried old number
  pub tries : (number closing : ℕ) → Waits old number → HasTry (tries new) number closing ↔ HasTry (tries old) number closing
  pub next : next_free new ≡ next_free old
  pub heard : heard new ≡ heard old
  pub last : last_number new ≡ last_number old
  pub over : (number : ℕ) → number ≤ earlier new → Waits old number → ⊥
  pub no_later : Waits old (earlier new + 1) ⊎ (earlier new ≡ last_number old)
  pub contents : contents new ≡ drop (earlier new - earlier old) (contents old)
  pub recorded : recorded new ≡ above (earlier new) (recorded old)
  pub cancelled : cancelled new ≡ above (earlier new) (cancelled old)
  pub keys : (key : List ℕ) (number : ℕ) → HasKey old key number → (earlier new < number) ⊎ (last_number old < number + KEYS_KEPT) → HasKey new key number
  pub no_other_keys : (key : List ℕ) (number : ℕ) → HasKey new key number → HasKey old key number

-- These keys are those of the book that are kept, where receipts with numbers up to this one are over. For private clauses and proofs alone.
pub record KeysAgree (b : Book) (last : ℕ) (keys : List Keyed) : Type 0 where
  pub kept : (key : List ℕ) (number : ℕ) → ListsKey b.keys.items key number → (last < number) ⊎ (b.earlier + length b.states.items < number + KEYS_KEPT)
      → ListsKey keys key number
  pub others : (key : List ℕ) (number : ℕ) → ListsKey keys key number → ListsKey b.keys.items key number

-- ## What is carried over. For private clauses and proofs alone.

-- The entry is about a receipt with a number above this one, where so many of those that are taken are to be left out still.
abbrev pub is_carried : ℕ → ℕ → Entry → Bool
is_carried last skip (entry.Queued content) = skip == 0
is_carried last skip (entry.Tried number next) = nat_lt last number
is_carried last skip (entry.Recorded number h) = nat_lt last number
is_carried last skip (entry.Raised next h) = false
is_carried last skip (entry.Cancelled number) = nat_lt last number
is_carried last skip (entry.Key key) = false
is_carried last skip (entry.Renewed older h) = false
is_carried last skip (entry.Earlier number key) = false

-- The new entries have of the old ones what is about receipts with numbers above this one. Where the old ones go on from a ledger, it has taken the
-- first so many.
pub record Carried (last first : ℕ) (old new : List Entry) : Type 0 where
  pub older : earlier new ≡ last
  pub contents : contents new ≡ drop (last - first) (contents old)
  pub recorded : recorded new ≡ above last (recorded old)
  pub cancelled : cancelled new ≡ above last (cancelled old)
  pub tries : tries new ≡ tries_above last (tries old)
  pub times : (number : ℕ) → last < number → times_tried new number ≡ times_tried old number

-- Nothing of a receipt that was taken here is said.
pub record SaysNothing (last : ℕ) (entries : List Entry) : Type 0 where
  pub older : earlier entries ≡ last
  pub contents : contents entries ≡ []
  pub recorded : recorded entries ≡ []
  pub cancelled : cancelled entries ≡ []
  pub tries : tries entries ≡ []
  pub times : (number : ℕ) → times_tried entries number ≡ 0
