-- Positions and tab stops in the tree: their spellings lead to them, and their part of the tree is good.
use Rattle.std.proofs.Common.{zero, suc, ◌≡◌, ◌<◌, ◌≤◌, ℕ, ◌+◌, ◌*◌, ◌/◌, ◌%◌, List, [], ◌∷◌, ◌++◌, refl, ◌∙◌, ap, sym, subst, arith, Bool, true, false, length, append-nil, append_assoc, cond}
use Rattle.std.specs.Prelude.{◌==◌, ◌&&◌, nat_le, nat_lt}
use Rattle.std.proofs.lemmas.Bool.Decides.{nat_tests}
use Rattle.escpos_command.specs.declared.bytes.TheConstants.{ESC}
use Rattle.escpos_command.specs.declared.command.Command.{Command}
use Rattle.escpos_command.specs.declared.command.Command.TheVariants as kind
use Rattle.escpos_command.specs.declared.parameter.position.PositionKind.{PositionKind}
use Rattle.escpos_command.specs.Parameters.{is_byte, is_word, is_tab_stops, rises_from}
use Rattle.escpos_command.specs.Positions.{position_prefix, word_bytes, word_of}
use Rattle.escpos_command.specs.CommandTable.{Spells, row}
use Rattle.escpos_command.specs.Tree.{leaf, dead, walk, position, position_high, rising, tab_stops}
use Rattle.escpos_command.proofs.Walks.{Good, IsLive}
use Rattle.escpos_command.proofs.Combinators.{good_choice, good_passing, good_one, walk-one, live_choice, and_left, and_right, both, same_number, at_row}

-- ## Positions

word_low : (n : ℕ) → is_byte (n % 256) ≡ true
word_low n = let small : n % 256 < 256 = omega arith in grind (arith, nat_tests)

word_high : (n : ℕ) → is_word n ≡ true → is_byte (n / 256) ≡ true
word_high n h = let most : n < 65536 = grind (arith, nat_tests) in let small : n / 256 < 256 = omega arith in grind (arith, nat_tests)

word_again : (n : ℕ) → word_of (n % 256) (n / 256) ≡ n
word_again n = omega arith

-- The number stands after the letters.
pub spelled_position : (which : PositionKind) (n : ℕ) → row (kind.Position (which, n)) ≡ position_prefix which ++ word_bytes n
spelled_position which n = let spelled = position_prefix which ++ word_bytes n in append-nil (spelled ++ []) ∙ append-nil spelled

pub leads_position : (which : PositionKind) (n : ℕ) → is_word n ≡ true → walk (position which) (word_bytes n) ≡ leaf (kind.Position (which, n))
leads_position which n h =
    ap (λ v. walk (cond v (position_high which (n % 256)) dead) (n / 256 ∷ [])) (word_low n)
    ∙ walk-one is_byte (λ high. kind.Position (which, word_of (n % 256) high)) (n / 256) (word_high n h)
    ∙ ap (λ m. leaf (kind.Position (which, m))) (word_again n)

record WordIs (low high : ℕ) : Type 0 where
  in_range : is_word (word_of low high) ≡ true
  first : word_of low high % 256 ≡ low
  second : word_of low high / 256 ≡ high

word_is : (low high : ℕ) → is_byte low ≡ true → is_byte high ≡ true → WordIs low high
word_is low high a b =
    let small : low < 256 = grind (arith, nat_tests) in
    let large : high < 256 = grind (arith, nat_tests) in
    let both_small : low + 256 * high < 65536 = omega arith in
    record { in_range = grind (arith, nat_tests); first = omega arith; second = omega arith }

spells_position : (which : PositionKind) (low high : ℕ) → WordIs low high → Spells (kind.Position (which, word_of low high)) (position_prefix which ++ low ∷ high ∷ [])
spells_position which low high w =
    let c = kind.Position (which, word_of low high) in
    subst (λ v. Spells c (position_prefix which ++ v ∷ high ∷ [])) w.first
    (subst (λ v. Spells c (position_prefix which ++ word_of low high % 256 ∷ v ∷ [])) w.second
    (subst (Spells c) (spelled_position which (word_of low high)) (at_row c w.in_range)))

pub good_position : (which : PositionKind) → Good (position_prefix which) (position which)
good_position which =
    good_passing (position_prefix which) is_byte (position_high which) 0 refl tt (λ low a.
    good_one (position_prefix which ++ low ∷ []) is_byte (λ high. kind.Position (which, word_of low high)) 0 refl (λ high b.
    subst (Spells (kind.Position (which, word_of low high))) (sym (append_assoc (position_prefix which) (low ∷ []) (high ∷ [])))
    (spells_position which low high (word_is low high a b))))

-- ## Tab stops

above_zero : (before b : ℕ) → nat_lt before b ≡ true → (b == 0) ≡ false
above_zero before b h = grind (arith, nat_tests)

pub live_rising : (n before : ℕ) (make : List ℕ → Command) (read : List ℕ) → IsLive (rising n before make read)
unfolding rising
live_rising zero before make read = tt
live_rising (suc n) before make read = tt

ends_so : (p : List ℕ) (make : List ℕ → Command) (read : List ℕ) (b : ℕ) → Spells (make (read ++ [])) (p ++ 0 ∷ []) → (b == 0) ≡ true → Good (p ++ b ∷ []) (leaf (make read))
ends_so p make read b spells e =
    subst (λ x. Spells (make read) (p ++ x ∷ [])) (sym (same_number b 0 e)) (subst (λ v. Spells (make v) (p ++ 0 ∷ [])) (append-nil read) spells)

-- They are good where all that rise are spelled so.
good_rising : (n before : ℕ) (p : List ℕ) (make : List ℕ → Command) (read : List ℕ)
    → ((xs : List ℕ) → length xs ≤ n → rises_from before xs ≡ true → Spells (make (read ++ xs)) (p ++ (xs ++ 0 ∷ [])))
    → Good p (rising n before make read)
unfolding rising
good_rising zero before p make read spells = (
  (0, tt),
  λ b. good_choice (p ++ b ∷ []) (leaf (make read)) dead (b == 0) (ends_so p make read b (spells [] (omega arith) refl)) (λ _. tt),
)
good_rising (suc n) before p make read spells = (
  (0, tt),
  λ b. good_choice (p ++ b ∷ []) (leaf (make read)) (cond (nat_lt before b && is_byte b) (rising n b make (read ++ b ∷ [])) dead) (b == 0)
      (ends_so p make read b (spells [] (omega arith) refl))
      (λ _. good_choice (p ++ b ∷ []) (rising n b make (read ++ b ∷ [])) dead (nat_lt before b && is_byte b)
      (λ passes. good_rising n b (p ++ b ∷ []) make (read ++ b ∷ []) (λ xs few all.
      subst (λ v. Spells (make v) ((p ++ b ∷ []) ++ (xs ++ 0 ∷ []))) (sym (append_assoc read (b ∷ []) xs))
      (subst (λ v. Spells (make (read ++ b ∷ xs)) v) (sym (append_assoc p (b ∷ []) (xs ++ 0 ∷ [])))
      (spells (b ∷ xs) (omega arith) (both _ _ passes all)))))
      (λ _. tt)),
)

walk-rising : (n before : ℕ) (make : List ℕ → Command) (read xs : List ℕ) → length xs ≤ n → rises_from before xs ≡ true
    → walk (rising n before make read) (xs ++ 0 ∷ []) ≡ leaf (make (read ++ xs))
unfolding rising
walk-rising zero before make read [] few all = ap (λ v. leaf (make v)) (sym (append-nil read))
walk-rising zero before make read (x ∷ xs) few all = absurd (omega arith)
walk-rising (suc n) before make read [] few all = ap (λ v. leaf (make v)) (sym (append-nil read))
walk-rising (suc n) before make read (x ∷ xs) few all =
    let passes = and_left (nat_lt before x && is_byte x) (rises_from x xs) all in
    ap (λ v. walk (cond v (leaf (make read)) (cond (nat_lt before x && is_byte x) (rising n x make (read ++ x ∷ [])) dead)) (xs ++ 0 ∷ []))
    (above_zero before x (and_left (nat_lt before x) (is_byte x) passes))
    ∙ ap (λ v. walk (cond v (rising n x make (read ++ x ∷ [])) dead) (xs ++ 0 ∷ [])) passes
    ∙ walk-rising n x make (read ++ x ∷ []) xs (omega arith) (and_right (nat_lt before x && is_byte x) (rises_from x xs) all)
    ∙ ap (λ v. leaf (make v)) (append_assoc read (x ∷ []) xs)

few_stops : (xs : List ℕ) → is_tab_stops xs ≡ true → length xs ≤ 32
few_stops xs h = let few = and_left (nat_le (length xs) 32) (rises_from 0 xs) h in grind (arith, nat_tests)

pub leads_stops : (columns : List ℕ) → is_tab_stops columns ≡ true → walk (tab_stops 32 0 []) (columns ++ 0 ∷ []) ≡ leaf (kind.TabStops columns)
leads_stops columns h = walk-rising 32 0 kind.TabStops [] columns (few_stops columns h) (and_right (nat_le (length columns) 32) (rises_from 0 columns) h)

is_stops : (xs : List ℕ) → length xs ≤ 32 → rises_from 0 xs ≡ true → is_tab_stops xs ≡ true
is_stops xs few all = let short : nat_le (length xs) 32 ≡ true = grind (arith, nat_tests) in both _ _ short all

pub live_stops : IsLive (tab_stops 32 0 [])
live_stops = live_rising 32 0 kind.TabStops []

pub good_stops : Good (ESC ∷ 0x44 ∷ []) (tab_stops 32 0 [])
good_stops = good_rising 32 0 (ESC ∷ 0x44 ∷ []) kind.TabStops [] (λ xs few all. at_row (kind.TabStops xs) (is_stops xs few all))
