-- Data of GS1-128 is drawn: each of its characters has a value in the code set that is chosen.
use Rattle.std.proofs.Common.{◌≡◌, ℕ, ◌+◌, ◌-◌, ◌*◌, ◌<◌, inl, inr, List, [], ◌∷◌, ◌++◌, refl, sym, ap, ◌∙◌, arith, true, false, Bool, Option, Some, None, cond}
use Rattle.std.specs.Prelude.{◌==◌, ◌||◌, nat_le, nat_lt, is_some, IsTrue, if◌then◌else◌}
use Rattle.std.specs.List.{list_all, list_any, filter}
use Rattle.std.proofs.lemmas.Bool.{and_parts, and_from, or_cases, lt-ltb, le-leb, ltb-true, ltb-false, eqb-true}
use Rattle.std.proofs.lemmas.Bool.Decides.{eqb_tells}
use Rattle.escpos_command.specs.Settings.{last_or}
use Rattle.escpos_command.specs.declared.bars.Symbology.TheVariants.{Gs1Code128}
use Rattle.escpos_paper.specs.CheckDigit.{completes, digit, zero_to_nine}
use Rattle.escpos_barcode.specs.declared.code128.CodeSet.{CodeSet}
use Rattle.escpos_barcode.specs.declared.code128.CodeSet.TheVariants.{A, B, C}
use Rattle.escpos_barcode.specs.declared.code128.Character.{Character}
use Rattle.escpos_barcode.specs.declared.code128.Character.TheVariants.{Byte, Function1, Function2, Function3, Function4, Shift, Code}
use Rattle.escpos_barcode.specs.declared.gs1.Part.{Part}
use Rattle.escpos_barcode.specs.declared.gs1.Part.TheVariants as part
use Rattle.escpos_barcode.specs.Chains.{given, joined}
use Rattle.escpos_barcode.specs.Code128.{is_byte, byte_value, values_after, start_value, started}
use Rattle.escpos_barcode.specs.Elements.{code128_elements, elements}
use Rattle.escpos_barcode.specs.Gs1.{plain_part, is_special, escaped_part, parts_after, fields_after, checked_part, checked_after, gs1_parts, said, parts_have_data, has_data, begins_with_digits, awaited, number, pair, to_pairs, in_set_b, single, after_single, with_sets, first_set, gs1_characters, gs1_values}
use Rattle.escpos_barcode.proofs.Lookups.{some_if, if_some, given_some, joined_some}

-- ## What a content says is below 128

abbrev is_small_part : Part → Bool
is_small_part (part.Data b) = nat_lt b 0x80
is_small_part p = true

abbrev is_small : Character → Bool
is_small (Byte b) = nat_lt b 0x80
is_small Function1 = true
is_small Function3 = true
is_small c = false

-- The check digit is below 10.
filtered : (test : ℕ → Bool) (xs : List ℕ) → list_all (λ v. nat_lt v 10) xs ≡ true → list_all (λ v. nat_lt v 10) (filter test xs) ≡ true
filtered test [] h = refl
filtered test (x ∷ xs) h =
    let parts = and_parts (nat_lt x 10) (list_all (λ v. nat_lt v 10) xs) h in
    let more = filtered test xs parts.1 in
    elim (test x) as (λ t. list_all (λ v. nat_lt v 10) (cond t (x ∷ filter test xs) (filter test xs)) ≡ true) [
      | true ↦ and_from (nat_lt x 10) (list_all (λ v. nat_lt v 10) (filter test xs)) parts.0 more
      | false ↦ more
    ]

last_small : (x : ℕ) (xs : List ℕ) → nat_lt x 10 ≡ true → list_all (λ v. nat_lt v 10) xs ≡ true → nat_lt (last_or x xs) 10 ≡ true
last_small x [] h k = h
last_small x (y ∷ ys) h k = let parts = and_parts (nat_lt y 10) (list_all (λ v. nat_lt v 10) ys) k in last_small y ys parts.0 parts.1

digit_small : (digits : List ℕ) → nat_lt (0x30 + digit digits) 0x80 ≡ true
digit_small digits =
    let few = ltb-true (digit digits) 10 (last_small 0 (filter (completes digits) zero_to_nine) refl (filtered (completes digits) zero_to_nine refl)) in
    lt-ltb (0x30 + digit digits) 0x80 (omega arith)

plain_small : (b : ℕ) (p : Part) → plain_part b ≡ Some p → is_small_part p ≡ true
plain_small b p e = elim (if_some (b == 0x20 || b == 0x28 || b == 0x29) (part.Shown b) p _ e) [
  | inl t ↦ ap is_small_part (sym t.1)
  | inr u ↦ elim (if_some (b == 0x2A) part.CheckDigit p _ u.1) [
    | inl t ↦ ap is_small_part (sym t.1)
    | inr v ↦ let t = some_if (nat_lt b 0x80) (part.Data b) p v.1 in ap is_small_part (sym t.1) ∙ t.0
  ]
]

number_small : (b n : ℕ) → n < 128 → (b == n) ≡ true → nat_lt b 0x80 ≡ true
number_small b n h k = let e = eqb-true b n k in lt-ltb b 0x80 (omega arith)

special_small : (b : ℕ) → is_special b ≡ true → nat_lt b 0x80 ≡ true
special_small b h = elim (or_cases (b == 0x28 || b == 0x29 || b == 0x2A) (b == 0x7B) h) [
  | inr e ↦ number_small b 0x7B (omega arith) e
  | inl u ↦ elim (or_cases (b == 0x28 || b == 0x29) (b == 0x2A) u) [
    | inr e ↦ number_small b 0x2A (omega arith) e
    | inl v ↦ elim (or_cases (b == 0x28) (b == 0x29) v) [ inl e ↦ number_small b 0x28 (omega arith) e | inr e ↦ number_small b 0x29 (omega arith) e ]
  ]
]

escaped_small : (b : ℕ) (p : Part) → escaped_part b ≡ Some p → is_small_part p ≡ true
escaped_small b p e = elim (if_some (is_special b) (part.Data b) p _ e) [
  | inl t ↦ ap is_small_part (sym t.1) ∙ special_small b t.0
  | inr u ↦ elim (if_some (b == 0x31) part.Function1 p _ u.1) [
    | inl t ↦ ap is_small_part (sym t.1)
    | inr v ↦ let t = some_if (b == 0x33) part.Function3 p v.1 in ap is_small_part (sym t.1)
  ]
]

one_more : (q : Part) (rest ps : List Part) → is_small_part q ≡ true → list_all is_small_part rest ≡ true → q ∷ rest ≡ ps → list_all is_small_part ps ≡ true
one_more q rest ps h k e = ap (list_all is_small_part) (sym e) ∙ and_from (is_small_part q) (list_all is_small_part rest) h k

parts_small : (brace : Bool) (bs : List ℕ) (ps : List Part) → parts_after brace bs ≡ Some ps → list_all is_small_part ps ≡ true
parts_small false [] ps e = let nothing : [] ≡ ps = cc in ap (list_all is_small_part) (sym nothing)
parts_small true [] ps e = absurd cc
parts_small false (b ∷ bs) ps e = elim (eqb_tells b 0x7B) [
  | inl t ↦ parts_small true bs ps (ap (λ (v : Bool). if v then parts_after true bs else given (plain_part b) (λ p. joined (p ∷ []) (parts_after false bs))) (sym t.0) ∙ e)
  | inr t ↦
      let here = given_some (plain_part b) (λ p. joined (p ∷ []) (parts_after false bs)) ps
      (ap (λ (v : Bool). if v then parts_after true bs else given (plain_part b) (λ p. joined (p ∷ []) (parts_after false bs))) (sym t.0) ∙ e) in
      let rest = joined_some (here.0 ∷ []) ps (parts_after false bs) here.2 in
      one_more here.0 rest.0 ps (plain_small b here.0 here.1) (parts_small false bs rest.0 rest.1) rest.2
]
parts_small true (b ∷ bs) ps e =
    let here = given_some (escaped_part b) (λ p. joined (p ∷ []) (parts_after false bs)) ps e in
    let rest = joined_some (here.0 ∷ []) ps (parts_after false bs) here.2 in
    one_more here.0 rest.0 ps (escaped_small b here.0 here.1) (parts_small false bs rest.0 rest.1) rest.2

both_small : (xs ys : List Part) → list_all is_small_part xs ≡ true → list_all is_small_part ys ≡ true → list_all is_small_part (xs ++ ys) ≡ true
both_small [] ys h k = k
both_small (x ∷ xs) ys h k =
    let parts = and_parts (is_small_part x) (list_all is_small_part xs) h in
    and_from (is_small_part x) (list_all is_small_part (xs ++ ys)) parts.0 (both_small xs ys parts.1 k)

check_small : (before : List Part) (p q : Part) → is_small_part p ≡ true → checked_part before p ≡ Some q → is_small_part q ≡ true
check_small before part.CheckDigit q h e =
    let found = given_some (fields_after None before) (λ digits. Some (part.Data (0x30 + digit digits))) q e in
    let is : part.Data (0x30 + digit found.0) ≡ q = cc in
    ap is_small_part (sym is) ∙ digit_small found.0
check_small before (part.Data b) q h e = let is : part.Data b ≡ q = cc in ap is_small_part (sym is) ∙ h
check_small before (part.Shown b) q h e = let is : part.Shown b ≡ q = cc in ap is_small_part (sym is)
check_small before part.Function1 q h e = let is : part.Function1 ≡ q = cc in ap is_small_part (sym is)
check_small before part.Function3 q h e = let is : part.Function3 ≡ q = cc in ap is_small_part (sym is)

checked_small : (before ps found : List Part) → list_all is_small_part before ≡ true → list_all is_small_part ps ≡ true → checked_after before ps ≡ Some found → list_all is_small_part found ≡ true
checked_small before [] found h k e = let is : before ≡ found = cc in ap (list_all is_small_part) (sym is) ∙ h
checked_small before (p ∷ ps) found h k e =
    let parts = and_parts (is_small_part p) (list_all is_small_part ps) k in
    let here = given_some (checked_part before p) (λ q. checked_after (before ++ q ∷ []) ps) found e in
    let small = check_small before p here.0 parts.0 here.1 in
    checked_small (before ++ here.0 ∷ []) ps found (both_small before (here.0 ∷ []) h (and_from (is_small_part here.0) true small refl)) parts.1 here.2

said_small : (ps : List Part) → list_all is_small_part ps ≡ true → list_all is_small (said ps) ≡ true
said_small [] h = refl
said_small (part.Data b ∷ ps) h = let parts = and_parts (nat_lt b 0x80) (list_all is_small_part ps) h in and_from (nat_lt b 0x80) (list_all is_small (said ps)) parts.0 (said_small ps parts.1)
said_small (part.Function1 ∷ ps) h = said_small ps h
said_small (part.Function3 ∷ ps) h = said_small ps h
said_small (part.Shown b ∷ ps) h = said_small ps h
said_small (part.CheckDigit ∷ ps) h = said_small ps h

-- ## Each has a value

abbrev has_values : CodeSet → List Character → Bool
has_values set cs = is_some (values_after set false cs)

joined_there : {X : Type 0} (xs : List X) (o : Option (List X)) → is_some o ≡ true → is_some (joined xs o) ≡ true
joined_there xs None h = h
joined_there xs (Some ys) h = refl

-- What follows a value that is there
goes_on : (o : Option ℕ) (v : ℕ) (more : Option (List ℕ)) → o ≡ Some v → is_some more ≡ true → is_some (given o (λ w. joined (w ∷ []) more)) ≡ true
goes_on o v more e h = ap (λ p. is_some (given p (λ w. joined (w ∷ []) more))) e ∙ joined_there (v ∷ []) more h

b_value : (b : ℕ) → nat_lt b 0x20 ≡ false → nat_lt b 0x80 ≡ true → byte_value B b ≡ Some (b - 32)
b_value b h k =
    let low = ltb-false b 0x20 h in
    ap (λ (t : Bool). if t then Some (b - 32) else None) (and_from (nat_le 0x20 b) (nat_lt b 0x80) (le-leb 0x20 b (omega arith)) k)

byte_in_b : (b : ℕ) (rest : List Character) (t : Bool) → nat_lt b 0x20 ≡ t → nat_lt b 0x80 ≡ true → has_values B rest ≡ true →
    has_values B ((if t then Shift ∷ Byte b ∷ [] else Byte b ∷ []) ++ rest) ≡ true
byte_in_b b rest true e k h =
    joined_there (98 ∷ []) (values_after B true (Byte b ∷ rest))
    (goes_on (byte_value A b) (b + 64) (values_after B false rest) (ap (λ (t : Bool). if t then Some (b + 64) else if nat_lt b 0x60 then Some (b - 32) else None) e) h)
byte_in_b b rest false e k h = goes_on (byte_value B b) (b - 32) (values_after B false rest) (b_value b e k) h

in_b : (c : Character) (rest : List Character) → is_small c ≡ true → has_values B rest ≡ true → has_values B (in_set_b c ++ rest) ≡ true
in_b (Byte b) rest k h = byte_in_b b rest (nat_lt b 0x20) refl k h
in_b Function1 rest k h = joined_there (102 ∷ []) (values_after B false rest) h
in_b Function3 rest k h = joined_there (96 ∷ []) (values_after B false rest) h
in_b Function2 rest k h = absurd cc
in_b Function4 rest k h = absurd cc
in_b Shift rest k h = absurd cc
in_b (Code next) rest k h = absurd cc

abbrev is_chosen : CodeSet → Bool
is_chosen A = false
is_chosen B = true
is_chosen C = true

single_there : (set : CodeSet) (c : Character) (rest : List Character) → is_chosen set ≡ true → is_small c ≡ true → has_values (after_single set c) rest ≡ true →
    has_values set (single set c ++ rest) ≡ true
single_there A c rest s k h = absurd cc
single_there B c rest s k h = in_b c rest k h
single_there C (Byte b) rest s k h = joined_there (100 ∷ []) (values_after B false (in_set_b (Byte b) ++ rest)) (in_b (Byte b) rest k h)
single_there C Function1 rest s k h = joined_there (102 ∷ []) (values_after C false rest) h
single_there C Function3 rest s k h = joined_there (100 ∷ []) (values_after B false (Function3 ∷ rest)) (in_b Function3 rest k h)
single_there C Function2 rest s k h = absurd cc
single_there C Function4 rest s k h = absurd cc
single_there C Shift rest s k h = absurd cc
single_there C (Code next) rest s k h = absurd cc

few : (c : Character) → number c < 10
few (Byte b) = omega arith
few Function1 = omega arith
few Function2 = omega arith
few Function3 = omega arith
few Function4 = omega arith
few Shift = omega arith
few (Code next) = omega arith

pair_in_c : (c d : Character) (rest : List Character) → has_values C rest ≡ true → has_values C (pair c d ∷ rest) ≡ true
pair_in_c c d rest h =
    let v = 10 * number c + number d in
    let tens = few c in
    let ones = few d in
    let below : v < 100 = omega arith in
    goes_on (byte_value C v) v (values_after C false rest) (ap (λ (t : Bool). if t then Some v else None) (lt-ltb v 100 below)) h

pair_there : (set : CodeSet) (c d : Character) (rest : List Character) → is_chosen set ≡ true → has_values C rest ≡ true → has_values set (to_pairs set ++ pair c d ∷ rest) ≡ true
pair_there A c d rest s h = absurd cc
pair_there B c d rest s h = joined_there (99 ∷ []) (values_after C false (pair c d ∷ rest)) (pair_in_c c d rest h)
pair_there C c d rest s h = pair_in_c c d rest h

still_chosen : (set : CodeSet) (c : Character) → is_chosen set ≡ true → is_chosen (after_single set c) ≡ true
still_chosen A c s = absurd cc
still_chosen B c s = refl
still_chosen C (Byte b) s = refl
still_chosen C Function1 s = refl
still_chosen C Function2 s = refl
still_chosen C Function3 s = refl
still_chosen C Function4 s = refl
still_chosen C Shift s = refl
still_chosen C (Code next) s = refl

last_there : (set : CodeSet) (c : Character) → is_chosen set ≡ true → is_small c ≡ true → has_values set (with_sets set None (c ∷ [])) ≡ true
last_there A c s k = absurd cc
last_there B c s k = single_there B c [] s k refl
last_there C c s k = single_there C c [] s k refl

either_there : (set : CodeSet) (c d : Character) (cs : List Character) (t : Bool) → begins_with_digits (awaited set) (c ∷ d ∷ cs) ≡ t → is_chosen set ≡ true → is_small c ≡ true →
    has_values C (with_sets C None cs) ≡ true → has_values (after_single set c) (with_sets (after_single set c) None (d ∷ cs)) ≡ true →
    has_values set (with_sets set None (c ∷ d ∷ cs)) ≡ true
either_there set c d cs true e s k past next =
    ap (λ (t : Bool). has_values set (if t then to_pairs set ++ (pair c d ∷ with_sets C None cs) else single set c ++ with_sets (after_single set c) None (d ∷ cs))) e
    ∙ pair_there set c d (with_sets C None cs) s past
either_there set c d cs false e s k past next =
    ap (λ (t : Bool). has_values set (if t then to_pairs set ++ (pair c d ∷ with_sets C None cs) else single set c ++ with_sets (after_single set c) None (d ∷ cs))) e
    ∙ single_there set c (with_sets (after_single set c) None (d ∷ cs)) s k next

values_there : (set : CodeSet) (cs : List Character) → is_chosen set ≡ true → list_all is_small cs ≡ true → has_values set (with_sets set None cs) ≡ true
values_there set [] s h = refl
values_there set (c ∷ []) s h = last_there set c s (and_parts (is_small c) true h).0
values_there set (c ∷ d ∷ cs) s h =
    let first = and_parts (is_small c) (list_all is_small (d ∷ cs)) h in
    let second = and_parts (is_small d) (list_all is_small cs) first.1 in
    either_there set c d cs (begins_with_digits (awaited set) (c ∷ d ∷ cs)) refl s first.0 (values_there C cs refl second.1)
    (values_there (after_single set c) (d ∷ cs) (still_chosen set c s) first.1)

-- ## There is data

any_after : (xs ys : List Character) → list_any is_byte ys ≡ true → list_any is_byte (xs ++ ys) ≡ true
any_after [] ys h = h
any_after (x ∷ xs) ys h = or_second (is_byte x) (list_any is_byte (xs ++ ys)) (any_after xs ys h)
  where
    or_second : (p q : Bool) → q ≡ true → (p || q) ≡ true
    or_second true q h = refl
    or_second false q h = h

byte_shown : (t : Bool) (b : ℕ) (rest : List Character) → list_any is_byte ((if t then Shift ∷ Byte b ∷ [] else Byte b ∷ []) ++ rest) ≡ true
byte_shown true b rest = refl
byte_shown false b rest = refl

single_data : (set : CodeSet) (c : Character) (rest : List Character) → (is_byte c || list_any is_byte rest) ≡ true → list_any is_byte (single set c ++ rest) ≡ true
single_data A (Byte b) rest h = byte_shown (nat_lt b 0x20) b rest
single_data B (Byte b) rest h = byte_shown (nat_lt b 0x20) b rest
single_data C (Byte b) rest h = byte_shown (nat_lt b 0x20) b rest
single_data set Function1 rest h = any_after (single set Function1) rest h
single_data set Function2 rest h = any_after (single set Function2) rest h
single_data set Function3 rest h = any_after (single set Function3) rest h
single_data set Function4 rest h = any_after (single set Function4) rest h
single_data set Shift rest h = any_after (single set Shift) rest h
single_data set (Code next) rest h = any_after (single set (Code next)) rest h

pair_data : (set : CodeSet) (c d : Character) (rest : List Character) → list_any is_byte (to_pairs set ++ pair c d ∷ rest) ≡ true
pair_data A c d rest = refl
pair_data B c d rest = refl
pair_data C c d rest = refl

data_there : (set : CodeSet) (cs : List Character) → list_any is_byte cs ≡ true → list_any is_byte (with_sets set None cs) ≡ true
data_there set [] h = absurd cc
data_there A (c ∷ []) h = single_data A c [] h
data_there B (c ∷ []) h = single_data B c [] h
data_there C (c ∷ []) h = single_data C c [] h
data_there set (c ∷ d ∷ cs) h = by_test (begins_with_digits (awaited set) (c ∷ d ∷ cs)) refl (λ e. data_there (after_single set c) (d ∷ cs) e)
  where
    with_next : (p q r : Bool) → (p || q) ≡ true → (q ≡ true → r ≡ true) → (p || r) ≡ true
    with_next true q r h f = refl
    with_next false q r h f = f h

    by_test : (t : Bool) → begins_with_digits (awaited set) (c ∷ d ∷ cs) ≡ t
        → (list_any is_byte (d ∷ cs) ≡ true → list_any is_byte (with_sets (after_single set c) None (d ∷ cs)) ≡ true) → list_any is_byte (with_sets set None (c ∷ d ∷ cs)) ≡ true
    by_test true e next =
        ap (λ (t : Bool). list_any is_byte (if t then to_pairs set ++ (pair c d ∷ with_sets C None cs) else single set c ++ with_sets (after_single set c) None (d ∷ cs))) e
        ∙ pair_data set c d (with_sets C None cs)
    by_test false e next =
        ap (λ (t : Bool). list_any is_byte (if t then to_pairs set ++ (pair c d ∷ with_sets C None cs) else single set c ++ with_sets (after_single set c) None (d ∷ cs))) e
        ∙ single_data set c (with_sets (after_single set c) None (d ∷ cs))
        (with_next (is_byte c) (list_any is_byte (d ∷ cs)) (list_any is_byte (with_sets (after_single set c) None (d ∷ cs))) h next)

-- ## The whole

first_chosen : (t : Bool) → is_chosen (if t then C else B) ≡ true
first_chosen true = refl
first_chosen false = refl

after_function : (set : CodeSet) (rest : List Character) → is_chosen set ≡ true → has_values set rest ≡ true → has_values set (Function1 ∷ rest) ≡ true
after_function A rest s h = absurd cc
after_function B rest s h = joined_there (102 ∷ []) (values_after B false rest) h
after_function C rest s h = joined_there (102 ∷ []) (values_after C false rest) h

started_there : (set : CodeSet) (more : List Character) → list_any is_byte more ≡ true → has_values set more ≡ true → is_some (started (Code set ∷ more)) ≡ true
started_there set more h k =
    ap (λ (t : Bool). is_some (if t then joined (start_value set ∷ []) (values_after set false more) else None)) h ∙ joined_there (start_value set ∷ []) (values_after set false more) k

given_some_there : {X Y : Type 0} (o : Option X) (f : X → Y) → is_some o ≡ true → is_some (given o (λ x. Some (f x))) ≡ true
given_some_there None f h = h
given_some_there (Some x) f h = refl

spelled_there : (content : List ℕ) (parts : List Part) → gs1_parts content ≡ Some parts → list_any is_byte (said parts) ≡ true → is_some (elements Gs1Code128 content) ≡ true
spelled_there content parts e h =
    let lexed = given_some (parts_after false content) (checked_after []) parts e in
    let small = said_small parts (checked_small [] lexed.0 parts refl (parts_small false content lexed.0 lexed.1) lexed.2) in
    let cs : List Character = said parts in
    let set = first_set cs in
    let chosen = first_chosen (begins_with_digits 4 cs) in
    let values = after_function set (with_sets set None cs) chosen (values_there set cs chosen small) in
    given_some_there (gs1_values content) code128_elements
    (ap (λ o. is_some (given o (λ found. started (gs1_characters (said found))))) e
    ∙ started_there set (Function1 ∷ with_sets set None cs) (data_there set cs h) values)

pub gs1_there : (content : List ℕ) → IsTrue (has_data content) → IsTrue (is_some (elements Gs1Code128 content))
gs1_there content h = by_parts (gs1_parts content) refl h
  where
    by_parts : (o : Option (List Part)) → gs1_parts content ≡ o → parts_have_data o ≡ true → is_some (elements Gs1Code128 content) ≡ true
    by_parts None e h = absurd cc
    by_parts (Some parts) e h = spelled_there content parts e h
