-- The number of an id at or after another number.
use Rattle.std.proofs.Common.{◌≡◌, ◌≢◌, ◌+◌, ◌-◌, ◌%◌, ◌<◌, ◌≤◌, ◌⊎◌, inl, inr, ℕ, List, Option, Some, None, MatchOption, SomeIff, sym, ◌∙◌, ap, arith}
use Rattle.escpos_command.specs.Digits.{mark_count, mark_of}
use Rattle.escpos_host.specs.Counted.{id_of}

-- How far a number below the count of ids lies from where the search begins.
abbrev pub IsAhead : ℕ → ℕ → ℕ → Type 0
IsAhead from number ahead = ((from % 1679616 ≤ number) × (ahead ≡ number - from % 1679616)) ⊎ ((number < from % 1679616) × (ahead ≡ number + 1679616 - from % 1679616))

small : (from number ahead : ℕ) → number < 1679616 → IsAhead from number ahead → ahead < 1679616
small from number ahead few (inl (more, is)) = omega (arith, few, more, is)
small from number ahead few (inr (less, is)) = omega (arith, few, less, is)

same : (from number ahead : ℕ) → number < 1679616 → IsAhead from number ahead → (from + ahead) % 1679616 ≡ number
same from number ahead few (inl (more, is)) = omega (arith, few, more, is)
same from number ahead few (inr (less, is)) = omega (arith, few, less, is)

only : (from number ahead n : ℕ) → number < 1679616 → IsAhead from number ahead → from ≤ n → n < from + 1679616 → n % 1679616 ≡ number → n ≡ from + ahead
only from number ahead n few (inl (more, is)) least most has = omega (arith, few, more, is, least, most, has)
only from number ahead n few (inr (less, is)) least most has = omega (arith, few, less, is, least, most, has)

pub found : (from number ahead : ℕ) (id : List ℕ) (r : Option ℕ) → ((m n : ℕ) → m < mark_count → n < mark_count → mark_of m ≡ mark_of n → m ≡ n) → number < mark_count
    → mark_of number ≡ id → IsAhead from number ahead → SomeIff r (from + ahead < 4294967296) (from + ahead)
    → MatchOption r ((n : ℕ) → from ≤ n → n < from + mark_count → n < 4294967296 → id_of n ≢ id) (λ n. (from ≤ n) × (n < from + mark_count) × (id_of n ≡ id))
found from number ahead id (Some n) one few is far (fits, at) =
    let close = small from number ahead few far in
    (omega (arith, at), omega (arith, at, close), ap (λ k. mark_of (k % 1679616)) at ∙ ap mark_of (same from number ahead few far) ∙ is)
found from number ahead id None one few is far none = λ n least most fits has.
    let k = one (n % 1679616) number (omega arith) few (has ∙ sym is) in
    let at = only from number ahead n few far least most k in
    none (omega (arith, at, fits))
