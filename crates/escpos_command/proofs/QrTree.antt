-- QR codes in the tree: their spellings lead to them, and their part of the tree is good.
use Rattle.std.proofs.Common.{◌≡◌, ◌<◌, ◌≤◌, ℕ, ◌+◌, ◌-◌, ◌*◌, ◌/◌, ◌%◌, List, [], ◌∷◌, ◌++◌, refl, ◌∙◌, ap, sym, subst, arith, true, false, length, append-nil, cond}
use Rattle.std.specs.Prelude.{◌==◌, ◌&&◌, nat_le}
use Rattle.std.specs.List.{list_all}
use Rattle.std.proofs.lemmas.Bool.Decides.{nat_tests}
use Rattle.escpos_command.specs.declared.bytes.TheConstants.{GS}
use Rattle.escpos_command.specs.declared.command.Command.{Command}
use Rattle.escpos_command.specs.declared.command.Command.TheVariants as kind
use Rattle.escpos_command.specs.Parameters.{is_byte, is_qr_model, is_qr_size, is_qr_level}
use Rattle.escpos_command.specs.QrCodes.{is_qr_data, is_qr_length, most_qr_data}
use Rattle.escpos_command.specs.CommandTable.{Spells}
use Rattle.escpos_command.specs.Tree.{leaf, dead, walk, passing, these, one, none, branch, qr_data, qr_functions, qr_function, qr_code, qr_high, qr}
use Rattle.escpos_command.proofs.Walks.{Good, IsLive}
use Rattle.escpos_command.proofs.Combinators.{good_choice, good_passing, good_one, good_branch, good_these, good_counted, walk-counted, live_choice, live_counted, all_from_all, and_left, and_right, both, same_number, at_row}

-- ## Spellings lead

pub leads_model : (n : ℕ) → is_qr_model n ≡ true → walk (passing is_qr_model (λ model. these (0x00 ∷ []) (leaf (kind.QrModel model)))) (n ∷ 0x00 ∷ []) ≡ leaf (kind.QrModel n)
leads_model n h = ap (λ v. walk (cond v (these (0x00 ∷ []) (leaf (kind.QrModel n))) dead) (0x00 ∷ [])) h

-- The length of data, by its bytes.
length_bytes : (n : ℕ) → n % 256 + 256 * (n / 256) ≡ n
length_bytes n = omega arith

low_byte : (n : ℕ) → is_byte (n % 256) ≡ true
low_byte n = let small : n % 256 < 256 = omega arith in grind (arith, nat_tests)

record DataInRange (stored : List ℕ) : Type 0 where
  some : 1 ≤ length stored
  few : length stored ≤ most_qr_data
  bytes : list_all is_byte stored ≡ true

least : (n : ℕ) → nat_le 1 n ≡ true → 1 ≤ n
least n h = grind (arith, nat_tests)

most : (n : ℕ) → nat_le n most_qr_data ≡ true → n ≤ most_qr_data
most n h = grind (arith, nat_tests)

data_in_range : (stored : List ℕ) → is_qr_data stored ≡ true → DataInRange stored
data_in_range stored h =
    let sizes = and_left (nat_le 1 (length stored) && nat_le (length stored) most_qr_data) (list_all is_byte stored) h in
    record {
      some = least (length stored) (and_left (nat_le 1 (length stored)) (nat_le (length stored) most_qr_data) sizes);
      few = most (length stored) (and_right (nat_le 1 (length stored)) (nat_le (length stored) most_qr_data) sizes);
      bytes = and_right (nat_le 1 (length stored) && nat_le (length stored) most_qr_data) (list_all is_byte stored) h;
    }

length_in_range : (low high n : ℕ) → low + 256 * high ≡ n + 3 → n ≤ most_qr_data → is_qr_length low high ≡ true
length_in_range low high n e few =
    let at_least : 3 ≤ low + 256 * high = omega arith in
    let at_most : low + 256 * high ≤ most_qr_data + 3 = omega arith in
    grind (arith, nat_tests)

has_data : (n : ℕ) → 1 ≤ n → nat_le 4 (n + 3) ≡ true
has_data n some = grind (arith, nat_tests)

leads_data : (n : ℕ) (stored : List ℕ) → n ≡ length stored + 3 → is_qr_data stored ≡ true
    → walk (qr_function n) (0x50 ∷ 0x30 ∷ stored) ≡ leaf (kind.QrStore stored)
leads_data n stored e h =
    let r = data_in_range stored h in
    let some : nat_le 4 n ≡ true = ap (nat_le 4) e ∙ has_data (length stored) r.some in
    ap (λ v. walk (cond v (these (0x30 ∷ []) (qr_data (n - 3) [])) dead) (0x30 ∷ stored)) some
    ∙ walk-counted (n - 3) (λ _. is_byte) kind.QrStore [] stored (omega arith) (all_from_all 0 is_byte stored ∙ r.bytes)

pub leads_store : (stored : List ℕ) → is_qr_data stored ≡ true
    → walk qr ((length stored + 3) % 256 ∷ (length stored + 3) / 256 ∷ 0x31 ∷ 0x50 ∷ 0x30 ∷ (stored ++ [])) ≡ leaf (kind.QrStore stored)
leads_store stored h =
    let r = data_in_range stored h in
    let low = (length stored + 3) % 256 in
    let high = (length stored + 3) / 256 in
    let bytes = length_bytes (length stored + 3) in
    ap (λ v. walk (cond v (qr_high low) dead) (high ∷ 0x31 ∷ 0x50 ∷ 0x30 ∷ (stored ++ []))) (low_byte (length stored + 3))
    ∙ ap (λ v. walk (cond v (qr_code (low + 256 * high)) dead) (0x31 ∷ 0x50 ∷ 0x30 ∷ (stored ++ []))) (length_in_range low high (length stored) bytes r.few)
    ∙ ap (λ v. walk (qr_function (low + 256 * high)) (0x50 ∷ 0x30 ∷ v)) (append-nil stored)
    ∙ leads_data (low + 256 * high) stored bytes h

-- ## The tree is good

-- The bytes of a length.
record LengthIs (low high n : ℕ) : Type 0 where
  low_is : n % 256 ≡ low
  high_is : n / 256 ≡ high

small_byte : (low : ℕ) → is_byte low ≡ true → low < 256
small_byte low h = grind (arith, nat_tests)

length_is : (low high : ℕ) → is_byte low ≡ true → LengthIs low high (low + 256 * high)
length_is low high h = let small = small_byte low h in record { low_is = omega arith; high_is = omega arith }

short_low : (low high n : ℕ) → low + 256 * high ≡ n → n < 256 → low ≡ n
short_low low high n e small = omega arith

short_high : (low high n : ℕ) → low + 256 * high ≡ n → n < 256 → high ≡ 0
short_high low high n e small = omega arith

-- A spelling with a short length, seen with the length's bytes.
spelled_short : (c : Command) (low high n : ℕ) (more : List ℕ) → low + 256 * high ≡ n → n < 256 → Spells c (GS ∷ 0x28 ∷ 0x6B ∷ n ∷ 0x00 ∷ more)
    → Spells c (GS ∷ 0x28 ∷ 0x6B ∷ low ∷ high ∷ more)
spelled_short c low high n more e small s =
    subst (λ v. Spells c (GS ∷ 0x28 ∷ 0x6B ∷ v ∷ high ∷ more)) (sym (short_low low high n e small))
    (subst (λ v. Spells c (GS ∷ 0x28 ∷ 0x6B ∷ n ∷ v ∷ more)) (sym (short_high low high n e small)) s)

length_of : (low high : ℕ) → is_qr_length low high ≡ true → (3 ≤ low + 256 * high) × (low + 256 * high ≤ most_qr_data + 3)
length_of low high h = (grind (arith, nat_tests), grind (arith, nat_tests))

at_least_four : (n : ℕ) → nat_le 4 n ≡ true → 4 ≤ n
at_least_four n h = grind (arith, nat_tests)

data_is : (stored : List ℕ) → 1 ≤ length stored → length stored ≤ most_qr_data → list_all is_byte stored ≡ true → is_qr_data stored ≡ true
data_is stored some few all =
    let least_is : nat_le 1 (length stored) ≡ true = grind (arith, nat_tests) in
    let most_is : nat_le (length stored) most_qr_data ≡ true = grind (arith, nat_tests) in
    both _ _ (both _ _ least_is most_is) all

spelled_data : (low high : ℕ) (stored : List ℕ) → is_byte low ≡ true → is_qr_length low high ≡ true → nat_le 4 (low + 256 * high) ≡ true
    → length stored ≡ low + 256 * high - 3 → list_all is_byte stored ≡ true
    → Spells (kind.QrStore stored) (GS ∷ 0x28 ∷ 0x6B ∷ low ∷ high ∷ 0x31 ∷ 0x50 ∷ 0x30 ∷ stored)
spelled_data low high stored is_low in_range some long all =
    let sizes = length_of low high in_range in
    let many = at_least_four (low + 256 * high) some in
    let whole : length stored + 3 ≡ low + 256 * high = omega arith in
    let bytes = length_is low high is_low in
    subst (λ v. Spells (kind.QrStore stored) (GS ∷ 0x28 ∷ 0x6B ∷ v ∷ high ∷ 0x31 ∷ 0x50 ∷ 0x30 ∷ stored)) (ap (λ n. n % 256) whole ∙ bytes.low_is)
    (subst (λ v. Spells (kind.QrStore stored) (GS ∷ 0x28 ∷ 0x6B ∷ (length stored + 3) % 256 ∷ v ∷ 0x31 ∷ 0x50 ∷ 0x30 ∷ stored)) (ap (λ n. n / 256) whole ∙ bytes.high_is)
    (subst (λ v. Spells (kind.QrStore stored) (GS ∷ 0x28 ∷ 0x6B ∷ (length stored + 3) % 256 ∷ (length stored + 3) / 256 ∷ 0x31 ∷ 0x50 ∷ 0x30 ∷ v)) (append-nil stored)
    (at_row (kind.QrStore stored) (data_is stored (omega arith) (omega arith) all))))

live_function : (n : ℕ) → 3 ≤ n → (b : ℕ) × IsLive (branch (qr_functions n) none b)
live_function n least_is =
    elim (nat_le 4 n) as (λ v. nat_le 4 n ≡ v → (b : ℕ) × IsLive (branch (qr_functions n) none b)) [
      | true ↦ λ h. (0x50, live_choice (these (0x30 ∷ []) (qr_data (n - 3) [])) dead (nat_le 4 n) h tt)
      | false ↦ λ h. (0x43, live_choice (one is_qr_size kind.QrSize) dead (n == 3) (let three : n ≡ 3 = grind (arith, nat_tests) in grind (arith, nat_tests)) tt)
    ] refl

good_function : (low high : ℕ) → is_byte low ≡ true → is_qr_length low high ≡ true
    → Good (GS ∷ 0x28 ∷ 0x6B ∷ low ∷ high ∷ 0x31 ∷ []) (qr_function (low + 256 * high))
good_function low high is_low in_range =
    let n = low + 256 * high in
    let p : List ℕ = GS ∷ 0x28 ∷ 0x6B ∷ low ∷ high ∷ 0x31 ∷ [] in (
      live_function n (length_of low high in_range).0,
      good_branch p (qr_functions n) none (
        good_choice (p ++ 0x41 ∷ []) (passing is_qr_model (λ model. these (0x00 ∷ []) (leaf (kind.QrModel model)))) dead (n == 4) (λ h.
            good_passing (p ++ 0x41 ∷ []) is_qr_model (λ model. these (0x00 ∷ []) (leaf (kind.QrModel model))) 49 refl tt (λ model k.
            good_these (p ++ 0x41 ∷ model ∷ []) (0x00 ∷ []) (leaf (kind.QrModel model)) tt
            (spelled_short (kind.QrModel model) low high 4 (0x31 ∷ 0x41 ∷ model ∷ 0x00 ∷ []) (same_number n 4 h) (omega arith) (at_row (kind.QrModel model) k)))) (λ _. tt),
        (
          good_choice (p ++ 0x43 ∷ []) (one is_qr_size kind.QrSize) dead (n == 3) (λ h.
              good_one (p ++ 0x43 ∷ []) is_qr_size kind.QrSize 1 refl (λ size k.
              spelled_short (kind.QrSize size) low high 3 (0x31 ∷ 0x43 ∷ size ∷ []) (same_number n 3 h) (omega arith) (at_row (kind.QrSize size) k))) (λ _. tt),
          (
            good_choice (p ++ 0x45 ∷ []) (one is_qr_level kind.QrLevel) dead (n == 3) (λ h.
                good_one (p ++ 0x45 ∷ []) is_qr_level kind.QrLevel 48 refl (λ level k.
                spelled_short (kind.QrLevel level) low high 3 (0x31 ∷ 0x45 ∷ level ∷ []) (same_number n 3 h) (omega arith) (at_row (kind.QrLevel level) k))) (λ _. tt),
            (
              good_choice (p ++ 0x50 ∷ []) (these (0x30 ∷ []) (qr_data (n - 3) [])) dead (nat_le 4 n) (λ h.
                  good_these (p ++ 0x50 ∷ []) (0x30 ∷ []) (qr_data (n - 3) []) (live_counted (n - 3) (λ _. is_byte) kind.QrStore [])
                  (good_counted (n - 3) (p ++ 0x50 ∷ 0x30 ∷ []) (λ _. is_byte) kind.QrStore [] (λ _. (0, refl)) (λ stored long all.
                  spelled_data low high stored is_low in_range h long (sym (all_from_all 0 is_byte stored) ∙ all)))) (λ _. tt),
              (
                good_choice (p ++ 0x51 ∷ []) (these (0x30 ∷ []) (leaf kind.QrPrint)) dead (n == 3) (λ h.
                    good_these (p ++ 0x51 ∷ []) (0x30 ∷ []) (leaf kind.QrPrint) tt
                    (spelled_short kind.QrPrint low high 3 (0x31 ∷ 0x51 ∷ 0x30 ∷ []) (same_number n 3 h) (omega arith) (at_row kind.QrPrint refl))) (λ _. tt),
                tt,
              ),
            ),
          ),
        ),
      )
          (λ _. tt),
    )

one_high : (low : ℕ) → is_byte low ≡ true → is_qr_length low 1 ≡ true
one_high low h = let small = small_byte low h in grind (arith, nat_tests)

pub good_qr : Good (GS ∷ 0x28 ∷ 0x6B ∷ []) qr
good_qr =
    good_passing (GS ∷ 0x28 ∷ 0x6B ∷ []) is_byte qr_high 3 refl tt (λ low is_low.
    good_passing (GS ∷ 0x28 ∷ 0x6B ∷ low ∷ []) (is_qr_length low) (λ high. qr_code (low + 256 * high)) 1 (one_high low is_low) tt (λ high in_range.
    good_these (GS ∷ 0x28 ∷ 0x6B ∷ low ∷ high ∷ []) (0x31 ∷ []) (qr_function (low + 256 * high)) tt (good_function low high is_low in_range)))
