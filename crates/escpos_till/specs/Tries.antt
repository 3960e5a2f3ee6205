-- The tries of receipts, and the marks that closed them.
use Rattle.std.specs.Prelude.{ℕ, ◌≡◌, ◌==◌, ◌⊎◌, ◌+◌, ◌-◌, ◌<◌, ◌≤◌, Option, Some, None, List, [], ◌∷◌, filter, map}
use Rattle.std.specs.List.{filter_map}
use Rattle.escpos_host.specs.Counted.{id_of}
use Rattle.escpos_till.specs.declared.entry.Entry.{Entry}
use Rattle.escpos_till.specs.declared.entry.Entry.TheVariants as entry
use Rattle.escpos_till.specs.declared.tries.Try.{Try}

-- The try that an entry says. Its closing mark has the last of the numbers that are reserved with it.
abbrev pub try_of : Entry → Option Try
try_of (entry.Tried number next) = Some (record { number = number; closing = next - 1 })
try_of _ = None

-- All tries, in order.
abbrev pub tries : List Entry → List Try
tries = filter_map try_of

-- A try of this receipt is among these, closed by the mark with this number.
abbrev pub HasTry : List Try → ℕ → ℕ → Type 0
HasTry [] number closing = ⊥
HasTry (t ∷ ts) number closing = ((t.number ≡ number) × (t.closing ≡ closing)) ⊎ HasTry ts number closing

-- A mark with this id closed a try of this receipt, and it is one of those that are answered now: its number is from the first on, and below the
-- end.
abbrev pub ClosesTry : List Try → ℕ → ℕ → ℕ → List ℕ → Type 0
ClosesTry ts first end number id = (closing : ℕ) × (first ≤ closing) × (closing < end) × (id_of closing ≡ id) × HasTry ts number closing

-- The last of some numbers; this one if there are none.
abbrev pub last_or : ℕ → List ℕ → ℕ
last_or n [] = n
last_or n (m ∷ ms) = last_or m ms

-- The number after the closing mark of the last try of this receipt; 0 if it wasn't tried.
abbrev pub end_of_tries : List Try → ℕ → ℕ
end_of_tries ts number = last_or 0 (map (λ t. t.closing + 1) (filter (λ t. t.number == number) ts))
