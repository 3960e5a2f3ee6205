-- Digits decoded pair by pair, from the front of a text.
use Rattle.std.proofs.Common.{Bool, true, false, ◌≡◌, ◌⊎◌, ◌==◌, rules, ◌≢◌, ℕ, ◌+◌, ◌-◌, ◌*◌, drop, ◌<◌, ◌≤◌, ◌%◌, List, [], ◌∷◌, length, Option, Some, None, Result, Ok, Err, IsErr, if◌then◌else◌, refl, ap, sym, ◌∙◌, arith, inl, inr}
use Rattle.std.specs.Option.{unwrap_or}
use Rattle.std.proofs.lemmas.Grind.{common_steps}
use Rattle.std.proofs.lemmas.List.{drop-drop}
use Rattle.hex.specs.declared.error.FromHexError.{FromHexError}
use Rattle.hex.specs.declared.error.FromHexError.TheVariants.{OddLength}
use Rattle.hex.specs.Hex.{◌>>=◌, decode_of, decode_pairs, digit_or_error, hex_digit_value}
use Rattle.escpos_job_parts.specs.Hexadecimal.{digits_of, is_blank}
use Rattle.escpos_job_parts.specs.DigitValues.{IsPair, value_of}

-- The byte of two digits with these values, the first of them at index i.
pair_at : ℕ → ℕ → ℕ → Option ℕ → Option ℕ → Result ℕ FromHexError
pair_at high low i a b = digit_or_error high i a >>= (λ x. digit_or_error low (i + 1) b >>= (λ y. Ok (x * 16 + y)))

-- A byte and those after it.
joined : Result ℕ FromHexError → Result (List ℕ) FromHexError → Result (List ℕ) FromHexError
joined first rest = first >>= (λ byte. rest >>= (λ bytes. Ok (byte ∷ bytes)))

-- Where digits stand doesn't change their bytes, nor whether they have any.
joined_ok : (high low i j : ℕ) (a b : Option ℕ) (r s : Result (List ℕ) FromHexError) (out : List ℕ) → ((o : List ℕ) → r ≡ Ok o → s ≡ Ok o)
    → joined (pair_at high low i a b) r ≡ Ok out → joined (pair_at high low j a b) s ≡ Ok out
unfolding joined pair_at
joined_ok high low i j None b r s out same e = cc
joined_ok high low i j (Some x) None r s out same e = cc
joined_ok high low i j (Some x) (Some y) (Err f) s out same e = cc
joined_ok high low i j (Some x) (Some y) (Ok v) s out same e = rw (same v refl) e

joined_err : (high low i j : ℕ) (a b : Option ℕ) (r s : Result (List ℕ) FromHexError) → (IsErr r → IsErr s)
    → IsErr (joined (pair_at high low i a b) r) → IsErr (joined (pair_at high low j a b) s)
unfolding joined pair_at
joined_err high low i j None b r s same e = e
joined_err high low i j (Some x) None r s same e = e
joined_err high low i j (Some x) (Some y) (Ok v) s same e = cc
joined_err high low i j (Some x) (Some y) (Err f) (Err g) same e = e
joined_err high low i j (Some x) (Some y) (Err f) (Ok v) same e = absurd (cc (same refl))

elsewhere_ok : (i j : ℕ) (ds out : List ℕ) → decode_pairs i ds ≡ Ok out → decode_pairs j ds ≡ Ok out
unfolding decode_pairs joined pair_at
elsewhere_ok i j [] out e = e
elsewhere_ok i j (d ∷ []) out e = cc
elsewhere_ok i j (h ∷ l ∷ ds) out e =
    joined_ok h l i j (hex_digit_value h) (hex_digit_value l) (decode_pairs (i + 2) ds) (decode_pairs (j + 2) ds) out (elsewhere_ok (i + 2) (j + 2) ds) e

elsewhere_err : (i j : ℕ) (ds : List ℕ) → IsErr (decode_pairs i ds) → IsErr (decode_pairs j ds)
unfolding decode_pairs joined pair_at
elsewhere_err i j [] e = e
elsewhere_err i j (d ∷ []) e = e
elsewhere_err i j (h ∷ l ∷ ds) e =
    joined_err h l i j (hex_digit_value h) (hex_digit_value l) (decode_pairs (i + 2) ds) (decode_pairs (j + 2) ds) (elsewhere_err (i + 2) (j + 2) ds) e

-- A digit whose value is at most 15 has this value.
value_by : Bool → Option ℕ → ℕ
value_by blank value = if blank then 16 else unwrap_or value 17

digit_by : (blank : Bool) (value : Option ℕ) → value_by blank value ≤ 15 → value ≡ Some (value_by blank value)
unfolding value_by
digit_by true value small = absurd (omega arith)
digit_by false None small = absurd (omega arith)
digit_by false (Some x) small = refl

pub digit_at : (c : ℕ) → value_of c ≤ 15 → hex_digit_value c ≡ Some (value_of c)
unfolding value_by
digit_at c small = digit_by (is_blank c) (hex_digit_value c) small

digit_small : (c x : ℕ) → hex_digit_value c ≡ Some x → x ≤ 15
digit_small c x e = search (rules, common_steps)

no_digit_by : (blank : Bool) (value : Option ℕ) → ((x : ℕ) → value ≡ Some x → x ≤ 15) → 15 < value_by blank value → value_by blank value ≢ 16 → value ≡ None
unfolding value_by
no_digit_by true value small large no_blank = absurd (no_blank refl)
no_digit_by false None small large no_blank = refl
no_digit_by false (Some x) small large no_blank = let few = small x refl in absurd (omega arith)

pub no_digit_at : (c : ℕ) → 15 < value_of c → value_of c ≢ 16 → hex_digit_value c ≡ None
unfolding value_by
no_digit_at c large no_blank = no_digit_by (is_blank c) (hex_digit_value c) (digit_small c) large no_blank

-- The text without its last digit, if their number is odd, is left to `decode_pairs`.
even_and_ok : (odd : Bool) (r : Result (List ℕ) FromHexError) (out : List ℕ) → (if odd then Err OddLength else r) ≡ Ok out → (odd ≡ false) × (r ≡ Ok out)
even_and_ok true r out e = cc
even_and_ok false r out e = (refl, e)

two_digits : (high low i : ℕ) (a b : Option ℕ) (x y : ℕ) (r : Result (List ℕ) FromHexError) (out : List ℕ) → a ≡ Some x → b ≡ Some y → r ≡ Ok out
    → joined (pair_at high low i a b) r ≡ Ok ((x * 16 + y) ∷ out)
unfolding joined pair_at
two_digits high low i a b x y r out ea eb er = rw (ea, eb, er) refl

pub pair_ok : (high low : ℕ) (ds out : List ℕ) → value_of high ≤ 15 → value_of low ≤ 15 → decode_of ds ≡ Ok out
    → decode_of (high ∷ low ∷ ds) ≡ Ok ((value_of high * 16 + value_of low) ∷ out)
unfolding decode_pairs joined pair_at
pair_ok high low ds out h l e =
    let parts = even_and_ok (length ds % 2 == 1) (decode_pairs 0 ds) out e in
    let even : length (high ∷ low ∷ ds) % 2 ≡ length ds % 2 = omega arith in
    let pairs : decode_pairs 0 (high ∷ low ∷ ds) ≡ Ok ((value_of high * 16 + value_of low) ∷ out)
    = two_digits high low 0 (hex_digit_value high) (hex_digit_value low) (value_of high) (value_of low) (decode_pairs 2 ds) out (digit_at high h) (digit_at low l) (elsewhere_ok 0 2 ds out parts.1) in
    rw (even, parts.0) pairs

first_err : (p : Result ℕ FromHexError) (r : Result (List ℕ) FromHexError) → IsErr r → IsErr (joined p r)
unfolding joined
first_err (Err f) r e = refl
first_err (Ok v) (Err f) e = refl
first_err (Ok v) (Ok w) e = cc

odd_or_err : (odd : Bool) (r s : Result (List ℕ) FromHexError) → (IsErr r → IsErr s) → IsErr (if odd then Err OddLength else r) → IsErr (if odd then Err OddLength else s)
odd_or_err true r s same e = refl
odd_or_err false r s same e = same e

pub pair_err : (high low : ℕ) (ds : List ℕ) → IsErr (decode_of ds) → IsErr (decode_of (high ∷ low ∷ ds))
unfolding decode_pairs joined pair_at
pair_err high low ds e =
    let even : length (high ∷ low ∷ ds) % 2 ≡ length ds % 2 = omega arith in
    rw even (odd_or_err (length ds % 2 == 1) (decode_pairs 0 ds) (decode_pairs 0 (high ∷ low ∷ ds))
    (λ bad. first_err (pair_at high low 0 (hex_digit_value high) (hex_digit_value low)) (decode_pairs 2 ds) (elsewhere_err 0 2 ds bad)) e)

none_err : (high low : ℕ) (a b : Option ℕ) (r : Result (List ℕ) FromHexError) → (a ≡ None) ⊎ (b ≡ None) → IsErr (joined (pair_at high low 0 a b) r)
unfolding joined pair_at
none_err high low None b r none = refl
none_err high low (Some x) None r none = refl
none_err high low (Some x) (Some y) r none = elim none [ inl e ↦ cc | inr e ↦ cc ]

is_err : (odd : Bool) (r : Result (List ℕ) FromHexError) → IsErr r → IsErr (if odd then Err OddLength else r)
is_err true r e = refl
is_err false r e = e

pub no_pair : (high low : ℕ) (ds : List ℕ) → (hex_digit_value high ≡ None) ⊎ (hex_digit_value low ≡ None) → IsErr (decode_of (high ∷ low ∷ ds))
unfolding decode_pairs joined pair_at
no_pair high low ds none = is_err (length (high ∷ low ∷ ds) % 2 == 1) (decode_pairs 0 (high ∷ low ∷ ds))
    (none_err high low (hex_digit_value high) (hex_digit_value low) (decode_pairs 2 ds) none)

pub none_ok : decode_of [] ≡ Ok []
unfolding decode_pairs
none_ok = refl

-- ## Digits in a text that is written over

pub rest_same : (text first : List ℕ) (read at : ℕ) → drop read text ≡ drop read first → read ≤ at → drop at text ≡ drop at first
rest_same text first read at same after =
    let there : read + (at - read) ≡ at = omega arith in
    ap (λ n. drop n text) (sym there) ∙ sym (drop-drop (at - read) read text) ∙ ap (drop (at - read)) same ∙ drop-drop (at - read) read first ∙ ap (λ n. drop n first) there

-- The next two digits of the text as it was, where they are found in what isn't written over yet.
pub pair_found : (first text seen : List ℕ) (read after byte : ℕ) → drop read text ≡ drop read first → seen ≡ text → read ≤ after
    → IsPair byte (digits_of (drop read seen)) (digits_of (drop after seen)) → IsPair byte (digits_of (drop read first)) (digits_of (drop after first))
pair_found first text seen read after byte same is later pair = record {
  high = pair.high;
  low = pair.low;
  first =
      ap digits_of (sym same) ∙ ap (λ t. digits_of (drop read t)) (sym is) ∙ pair.first
      ∙ ap (λ ds. pair.high ∷ pair.low ∷ ds) (ap (λ t. digits_of (drop after t)) is ∙ ap digits_of (rest_same text first read after same later));
  high_is = pair.high_is;
  low_is = pair.low_is;
  value = pair.value;
}
