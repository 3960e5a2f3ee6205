-- Rows of marks, whose numbers rise, and the numbers of closing marks, which rise too. Where all of them are apart, an id tells the number.
use Rattle.std.proofs.Common.{◌≡◌, ◌<◌, ◌≤◌, ◌+◌, inl, inr, ℕ, List, [], ◌∷◌, ◌++◌, sym, ◌∙◌, ap, arith, IsTrue}
use Rattle.std.proofs.lemmas.Bool.{cases_lt}
use Rattle.escpos_command.specs.Digits.{mark_count}
use Rattle.escpos_host.specs.Counted.{id_of}
use Rattle.escpos_command.specs.Parameters.{is_mark_id}
use Rattle.escpos_host.specs.Heard.{IsClosing, IsNumberOf}
use Rattle.escpos_host.specs.Machine.{InFlight}
use Rattle.escpos_link.specs.Ways.{AreApart, Rising, Row, closing_marks}

-- What the layers below say of mark numbers.
pub record OfNumbers : Type 0 where
  pub ids : (n : ℕ) → IsTrue (is_mark_id (id_of n))
  pub apart : (m n : ℕ) → m ≤ n → n < m + mark_count → id_of m ≡ id_of n → m ≡ n

-- ## Rows

pub row_within : (from to : ℕ) (ids : List (List ℕ)) → Row from to ids → from ≤ to
row_within from to [] k = k
row_within from to (id ∷ ids) (n, least, is, k) = let more = row_within (n + 1) to ids k in omega (arith, least, more)

pub row_from : (m n to : ℕ) (ids : List (List ℕ)) → m ≤ n → Row n to ids → Row m to ids
row_from m n to [] less k = omega (arith, less, k)
row_from m n to (id ∷ ids) less (k, least, is, r) = (k, omega (arith, less, least), is, r)

pub row_to : (from m n : ℕ) (ids : List (List ℕ)) → m ≤ n → Row from m ids → Row from n ids
row_to from m n [] more k = omega (arith, more, k)
row_to from m n (id ∷ ids) more (k, least, is, r) = (k, least, is, row_to (k + 1) m n ids more r)

pub row_join : (from mid to : ℕ) (xs ys : List (List ℕ)) → Row from mid xs → Row mid to ys → Row from to (xs ++ ys)
row_join from mid to [] ys k l = row_from from mid to ys k l
row_join from mid to (x ∷ xs) ys (n, least, is, k) l = (n, least, is, row_join (n + 1) mid to xs ys k l)

pub row_split : (from to : ℕ) (xs ys : List (List ℕ)) → Row from to (xs ++ ys) → (mid : ℕ) × Row from mid xs × Row mid to ys
row_split from to [] ys k = let same : from ≤ from = omega arith in (from, same, k)
row_split from to (x ∷ xs) ys (n, least, is, k) = let r = row_split (n + 1) to xs ys k in (r.0, (n, least, is, r.1), r.2)

pub row_front : (from to : ℕ) (xs ys : List (List ℕ)) → Row from to (xs ++ ys) → Row from to xs
row_front from to xs ys k = let r = row_split from to xs ys k in row_to from r.0 to xs (row_within r.0 to ys r.2) r.1

pub row_back : (from to : ℕ) (xs ys : List (List ℕ)) → Row from to (xs ++ ys) → Row from to ys
row_back from to xs ys k = let r = row_split from to xs ys k in row_from from r.0 to ys (row_within from r.0 xs r.1) r.2

-- Where no number is in a range there is no mark; and so for any other such range.
pub row_empty : (a b j : ℕ) (ids : List (List ℕ)) → b ≤ a → Row a b ids → Row j j ids
row_empty a b j [] none k = omega arith
row_empty a b j (id ∷ ids) none (n, least, is, k) = let more = row_within (n + 1) b ids k in absurd (omega (arith, least, more, none))

-- ## Receipts in flight

pub rising_within : (base next : ℕ) (flight : List InFlight) → Rising base flight next → base ≤ next
rising_within base next [] r = r
rising_within base next (p ∷ ps) (from, is, r) = let more = rising_within (p.number + 1) next ps r in omega (arith, from, more)

pub rising_row : (base next : ℕ) (flight : List InFlight) → Rising base flight next → Row base next (closing_marks flight)
rising_row base next [] r = r
rising_row base next (p ∷ ps) (from, is, r) = (p.number, from, sym is, rising_row (p.number + 1) next ps r)

pub rising_more : (base m n : ℕ) (flight : List InFlight) → m ≤ n → Rising base flight m → Rising base flight n
rising_more base m n [] more r = omega (arith, more, r)
rising_more base m n (p ∷ ps) more (from, is, r) = (from, is, rising_more (p.number + 1) m n ps more r)

pub rising_add : (base next : ℕ) (flight : List InFlight) (p : InFlight) → p.number ≡ next → p.mark ≡ id_of next → Rising base flight next
    → Rising base (flight ++ p ∷ []) (next + 1)
rising_add base next [] p at is r = (omega (arith, at, r), is ∙ ap id_of (sym at), omega (arith, at))
rising_add base next (q ∷ qs) p at is (from, mark, r) = (from, mark, rising_add (q.number + 1) next qs p at is r)

-- ## An id tells the number

-- Two numbers of one range that are apart, with one id.
pub one_number : OfNumbers → (from to m n : ℕ) → AreApart from to → from ≤ m → m < to → from ≤ n → n < to → id_of m ≡ id_of n → m ≡ n
one_number of from to m n apart a b c d same = elim (cases_lt m n) [
  | inl less ↦ of.apart m n (omega (arith, less)) (omega (arith, apart, a, d)) same
  | inr more ↦ sym (of.apart n m more (omega (arith, apart, c, b)) (sym same))
]

-- A mark below all closing marks isn't one of them.
pub not_closing : OfNumbers → (base next n : ℕ) (flight : List InFlight) (id : List ℕ) → n < base → next ≤ n + mark_count → id_of n ≡ id → Rising base flight next
    → IsClosing 0 flight id → ⊥
not_closing of base next n [] id less apart mark r is = is
not_closing of base next n (p ∷ ps) id less apart mark (from, is, r) (inl (least, same)) =
    let within = rising_within (p.number + 1) next ps r in
    let one = of.apart n p.number (omega (arith, less, from)) (omega (arith, within, apart)) (mark ∙ sym same ∙ is) in omega (arith, less, from, one)
not_closing of base next n (p ∷ ps) id less apart mark (from, is, r) (inr later) =
    not_closing of (p.number + 1) next n ps id (omega (arith, less, from)) apart mark r later

-- A mark below all opening marks isn't one of them.
pub not_opening : OfNumbers → (first next n m : ℕ) (id : List ℕ) → n < first → next ≤ n + mark_count → id_of n ≡ id → IsNumberOf first next id m → ⊥
not_opening of first next n m id less apart mark (from, below, few, is) =
    let one = of.apart n m (omega (arith, less, from)) (omega (arith, below, apart)) (mark ∙ sym is) in omega (arith, less, from, one)
