-- GS1-128 is read back: the code sets that are chosen say the data.
use Rattle.std.proofs.Common.{◌≡◌, ℕ, ◌+◌, ◌-◌, ◌*◌, List, [], ◌∷◌, ◌++◌, length, take, refl, sym, ap, ◌∙◌, subst, arith, true, false, Bool, Some, None}
use Rattle.std.specs.Prelude.{◌/◌, ◌%◌, nat_le, nat_lt, flat_map, if◌then◌else◌}
use Rattle.std.specs.List.{list_all}
use Rattle.std.proofs.lemmas.Bool.{and_parts, and_from}
use Rattle.escpos_command.specs.Barcodes.{is_digit}
use Rattle.escpos_barcode.specs.declared.code128.CodeSet.{CodeSet}
use Rattle.escpos_barcode.specs.declared.code128.CodeSet.TheVariants.{A, B, C}
use Rattle.escpos_barcode.specs.declared.code128.Character.{Character}
use Rattle.escpos_barcode.specs.declared.code128.Character.TheVariants.{Byte, Function1, Function2, Function3, Function4, Shift, Code}
use Rattle.escpos_barcode.specs.declared.gs1.Part.{Part}
use Rattle.escpos_barcode.specs.declared.gs1.Part.TheVariants as part
use Rattle.escpos_barcode.specs.Code128.{started}
use Rattle.escpos_barcode.specs.Drawn.{said_form}
use Rattle.escpos_barcode.specs.Elements.{code128_elements, gs1_128}
use Rattle.escpos_barcode.specs.Gs1.{gs1_parts, said_by, said, spelled_part, is_digit_character, begins_with_digits, awaited, pair, to_pairs, single, after_single, with_sets, first_set, gs1_characters, gs1_values}
use Rattle.escpos_barcode.specs.Reader.{data_in, data_spelled, read_128}
use Rattle.escpos_barcode.proofs.Lookups.{given_some}
use Rattle.escpos_barcode.proofs.ReadCode128.{started_said}
use Rattle.escpos_barcode.proofs.Rows.{digit_range}

-- ## What is said

-- No code set, and no SHIFT
abbrev is_said : Character → Bool
is_said (Code set) = false
is_said Shift = false
is_said c = true

part_said : (p : Part) → list_all is_said (said_by p) ≡ true
part_said (part.Data b) = refl
part_said part.Function1 = refl
part_said part.Function3 = refl
part_said (part.Shown b) = refl
part_said part.CheckDigit = refl

all_said : (parts : List Part) → list_all is_said (said parts) ≡ true
all_said [] = refl
all_said (p ∷ ps) = all_append_said (said_by p) (said ps) (part_said p) (all_said ps)
  where
    all_append_said : (xs ys : List Character) → list_all is_said xs ≡ true → list_all is_said ys ≡ true → list_all is_said (xs ++ ys) ≡ true
    all_append_said [] ys h k = k
    all_append_said (x ∷ xs) ys h k =
        let parts = and_parts (is_said x) (list_all is_said xs) h in and_from (is_said x) (list_all is_said (xs ++ ys)) parts.0 (all_append_said xs ys parts.1 k)

-- ## Two digits

record IsDigit (c : Character) : Type 0 where
  byte : ℕ
  is : c ≡ Byte byte
  digit : is_digit byte ≡ true

digit_is : (c : Character) → is_digit_character c ≡ true → IsDigit c
digit_is (Byte b) h = record { byte = b; is = refl; digit = h }
digit_is Function1 h = absurd cc
digit_is Function2 h = absurd cc
digit_is Function3 h = absurd cc
digit_is Function4 h = absurd cc
digit_is Shift h = absurd cc
digit_is (Code set) h = absurd cc

tens_back : (x y : ℕ) → is_digit x ≡ true → is_digit y ≡ true → 0x30 + (10 * ((x - 0x30) % 10) + (y - 0x30) % 10) / 10 ≡ x
tens_back x y h k =
    let a = digit_range x h in
    let b = digit_range y k in
    let first : (x - 0x30) % 10 ≡ x - 0x30 = omega arith in
    let second : (y - 0x30) % 10 ≡ y - 0x30 = omega arith in
    rw (first, second) (omega arith)

ones_back : (x y : ℕ) → is_digit x ≡ true → is_digit y ≡ true → 0x30 + (10 * ((x - 0x30) % 10) + (y - 0x30) % 10) % 10 ≡ y
ones_back x y h k =
    let a = digit_range x h in
    let b = digit_range y k in
    let first : (x - 0x30) % 10 ≡ x - 0x30 = omega arith in
    let second : (y - 0x30) % 10 ≡ y - 0x30 = omega arith in
    rw (first, second) (omega arith)

bytes_back : (set : CodeSet) (x y : ℕ) (rest : List Character) → is_digit x ≡ true → is_digit y ≡ true →
    data_in set (to_pairs set ++ pair (Byte x) (Byte y) ∷ rest) ≡ Byte x ∷ Byte y ∷ data_in C rest
bytes_back A x y rest h k = ap (λ n. Byte n ∷ Byte (0x30 + (10 * ((x - 0x30) % 10) + (y - 0x30) % 10) % 10) ∷ data_in C rest) (tens_back x y h k) ∙ ap (λ n. Byte x ∷ Byte n ∷ data_in C rest) (ones_back x y h k)
bytes_back B x y rest h k = ap (λ n. Byte n ∷ Byte (0x30 + (10 * ((x - 0x30) % 10) + (y - 0x30) % 10) % 10) ∷ data_in C rest) (tens_back x y h k) ∙ ap (λ n. Byte x ∷ Byte n ∷ data_in C rest) (ones_back x y h k)
bytes_back C x y rest h k = ap (λ n. Byte n ∷ Byte (0x30 + (10 * ((x - 0x30) % 10) + (y - 0x30) % 10) % 10) ∷ data_in C rest) (tens_back x y h k) ∙ ap (λ n. Byte x ∷ Byte n ∷ data_in C rest) (ones_back x y h k)

pair_back : (set : CodeSet) (c d : Character) (rest : List Character) → is_digit_character c ≡ true → is_digit_character d ≡ true →
    data_in set (to_pairs set ++ pair c d ∷ rest) ≡ c ∷ d ∷ data_in C rest
pair_back set c d rest h k =
    let first = digit_is c h in
    let second = digit_is d k in
    subst (λ x. data_in set (to_pairs set ++ pair x d ∷ rest) ≡ x ∷ d ∷ data_in C rest) (sym first.is)
    (subst (λ y. data_in set (to_pairs set ++ pair (Byte first.byte) y ∷ rest) ≡ Byte first.byte ∷ y ∷ data_in C rest) (sym second.is)
    (bytes_back set first.byte second.byte rest first.digit second.digit))

first_two : (set : CodeSet) (c d : Character) (cs : List Character) → begins_with_digits (awaited set) (c ∷ d ∷ cs) ≡ true → (is_digit_character c ≡ true) × (is_digit_character d ≡ true)
first_two A c d cs h =
    let all = and_parts (nat_le 4 (length (c ∷ d ∷ cs))) (list_all is_digit_character (take 4 (c ∷ d ∷ cs))) h in
    let one = and_parts (is_digit_character c) (list_all is_digit_character (d ∷ take 2 cs)) all.1 in
    (one.0, (and_parts (is_digit_character d) (list_all is_digit_character (take 2 cs)) one.1).0)
first_two B c d cs h =
    let all = and_parts (nat_le 4 (length (c ∷ d ∷ cs))) (list_all is_digit_character (take 4 (c ∷ d ∷ cs))) h in
    let one = and_parts (is_digit_character c) (list_all is_digit_character (d ∷ take 2 cs)) all.1 in
    (one.0, (and_parts (is_digit_character d) (list_all is_digit_character (take 2 cs)) one.1).0)
first_two C c d cs h =
    let all = and_parts (nat_le 2 (length (c ∷ d ∷ cs))) (list_all is_digit_character (take 2 (c ∷ d ∷ cs))) h in
    let one = and_parts (is_digit_character c) (list_all is_digit_character (d ∷ [])) all.1 in
    (one.0, (and_parts (is_digit_character d) true one.1).0)

-- ## Single characters

in_b_back : (set : CodeSet) (t : Bool) (b : ℕ) (rest : List Character) → (set ≡ C → ⊥) → data_in set ((if t then Shift ∷ Byte b ∷ [] else Byte b ∷ []) ++ rest) ≡ Byte b ∷ data_in set rest
in_b_back A true b rest h = refl
in_b_back A false b rest h = refl
in_b_back B true b rest h = refl
in_b_back B false b rest h = refl
in_b_back C t b rest h = absurd (h refl)

single_back : (set : CodeSet) (c : Character) (rest : List Character) → is_said c ≡ true → data_in set (single set c ++ rest) ≡ c ∷ data_in (after_single set c) rest
single_back A (Byte b) rest h = in_b_back A (nat_lt b 0x20) b rest (λ e. cc)
single_back A Function1 rest h = refl
single_back A Function2 rest h = refl
single_back A Function3 rest h = refl
single_back A Function4 rest h = refl
single_back B (Byte b) rest h = in_b_back B (nat_lt b 0x20) b rest (λ e. cc)
single_back B Function1 rest h = refl
single_back B Function2 rest h = refl
single_back B Function3 rest h = refl
single_back B Function4 rest h = refl
single_back C (Byte b) rest h = in_b_back B (nat_lt b 0x20) b rest (λ e. cc)
single_back C Function1 rest h = refl
single_back C Function2 rest h = refl
single_back C Function3 rest h = refl
single_back C Function4 rest h = refl
single_back set Shift rest h = absurd cc
single_back set (Code next) rest h = absurd cc

-- ## All of it

chosen_back : (set : CodeSet) (c d : Character) (cs : List Character) (t : Bool) → begins_with_digits (awaited set) (c ∷ d ∷ cs) ≡ t → is_said c ≡ true →
    data_in C (with_sets C None cs) ≡ cs → data_in (after_single set c) (with_sets (after_single set c) None (d ∷ cs)) ≡ d ∷ cs →
    data_in set (with_sets set None (c ∷ d ∷ cs)) ≡ c ∷ d ∷ cs
chosen_back set c d cs true e h past next =
    let two = first_two set c d cs e in
    ap (λ (t : Bool). data_in set (if t then to_pairs set ++ (pair c d ∷ with_sets C None cs) else single set c ++ with_sets (after_single set c) None (d ∷ cs))) e
    ∙ pair_back set c d (with_sets C None cs) two.0 two.1 ∙ ap (λ xs. c ∷ d ∷ xs) past
chosen_back set c d cs false e h past next =
    ap (λ (t : Bool). data_in set (if t then to_pairs set ++ (pair c d ∷ with_sets C None cs) else single set c ++ with_sets (after_single set c) None (d ∷ cs))) e
    ∙ single_back set c (with_sets (after_single set c) None (d ∷ cs)) h ∙ ap (λ xs. c ∷ xs) next

last_back : (set : CodeSet) (c : Character) → is_said c ≡ true → data_in set (with_sets set None (c ∷ [])) ≡ c ∷ []
last_back A c h = single_back A c [] h
last_back B c h = single_back B c [] h
last_back C c h = single_back C c [] h

data_back : (set : CodeSet) (cs : List Character) → list_all is_said cs ≡ true → data_in set (with_sets set None cs) ≡ cs
data_back set [] h = refl
data_back set (c ∷ []) h = last_back set c (and_parts (is_said c) true h).0
data_back set (c ∷ d ∷ cs) h =
    let first = and_parts (is_said c) (list_all is_said (d ∷ cs)) h in
    let second = and_parts (is_said d) (list_all is_said cs) first.1 in
    chosen_back set c d cs (begins_with_digits (awaited set) (c ∷ d ∷ cs)) refl first.0 (data_back C cs second.1) (data_back (after_single set c) (d ∷ cs) first.1)

pub gs1_read : (content es : List ℕ) → gs1_128 content ≡ Some es → read_128 data_spelled es ≡ Some (said_form content (gs1_parts content))
gs1_read content es e =
    let spelling = given_some (gs1_values content) (λ values. Some (code128_elements values)) es e in
    let parts = given_some (gs1_parts content) (λ parts. started (gs1_characters (said parts))) spelling.0 spelling.1 in
    let drawn : code128_elements spelling.0 ≡ es = cc in
    let cs : List Character = said parts.0 in
    ap (read_128 data_spelled) (sym drawn) ∙ started_said data_spelled (gs1_characters cs) spelling.0 parts.2
    ∙ ap (λ xs. Some (flat_map spelled_part xs)) (data_back (first_set cs) cs (all_said parts.0))
    ∙ ap (λ o. Some (said_form content o)) (sym parts.1)
