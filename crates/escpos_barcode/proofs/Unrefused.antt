-- What isn't refused.
use Rattle.std.proofs.Common.{◌≡◌, ℕ, ◌+◌, ◌<◌, ◌≤◌, inl, inr, List, [], ◌∷◌, length, map, refl, sym, ap, ◌∙◌, arith, true, false, Bool, Option, Some, None, subst}
use Rattle.std.specs.Prelude.{◌==◌, ◌&&◌, ◌||◌, ◌%◌, nat_le, nat_lt, nat_eq, not, is_some, sum, take, slice_index, IsTrue, if◌then◌else◌}
use Rattle.std.specs.Cmp.Lexicographic.{pointwise}
use Rattle.std.specs.List.{list_all, list_any}
use Rattle.std.proofs.lemmas.Bool.{and_parts, and_from, or_cases, eq-eqb, eqb-true, le-leb, leb-true, agree_below, agree_below_at}
use Rattle.escpos_command.specs.Barcodes.{is_content, is_digit, is_upce_first, is_code39, has_length, allows, all_from}
use Rattle.escpos_command.specs.declared.bars.Symbology.{Symbology}
use Rattle.escpos_command.specs.declared.bars.Symbology.TheVariants.{UpcA, UpcE, Ean13, Ean8, Code39, Itf, Codabar, Code93}
use Rattle.escpos_barcode.specs.Chains.{given}
use Rattle.escpos_barcode.specs.Drawn.{is_module, element_dots, fitting, drawn}
use Rattle.escpos_barcode.specs.Tables.{has_row, code39_data}
use Rattle.escpos_barcode.proofs.ReadSpaced.{implied}
use Rattle.escpos_barcode.proofs.Rows.{digit_range}
use Rattle.escpos_paper.specs.CheckDigit.{expanded}
use Rattle.escpos_barcode.specs.Code93.{is_code93_content}
use Rattle.escpos_barcode.specs.Elements.{are_digits, is_itf_content, is_code39_content, shorter, first_for, upce_parts, upce_elements, elements}

pub fits_drawn : (line_dots : ℕ) (symbology : Symbology) (module_width : ℕ) (content es : List ℕ) → 2 ≤ module_width → module_width ≤ 6 →
    elements symbology content ≡ Some es → sum (map (element_dots symbology module_width) es) ≤ line_dots →
    drawn line_dots symbology module_width content ≡ Some (map (element_dots symbology module_width) es)
fits_drawn line_dots symbology m content es least most said few =
    let widths = map (element_dots symbology m) es in
    let module_there : is_module m ≡ true = and_from (nat_le 2 m) (nat_le m 6) (le-leb 2 m least) (le-leb m 6 most) in
    ap (λ (t : Bool). if t then given (elements symbology content) (λ xs. fitting line_dots (map (element_dots symbology m) xs)) else None) module_there
    ∙ ap (λ o. given o (λ xs. fitting line_dots (map (element_dots symbology m) xs))) said
    ∙ ap (λ (t : Bool). if t then Some widths else None) (le-leb (sum widths) line_dots few)

some_there : {A : Type 0} (t : Bool) (x : A) → t ≡ true → IsTrue (is_some (if t then Some x else None))
some_there true x h = refl
some_there false x h = absurd cc

all_places : (test : ℕ → ℕ → Bool) (p : ℕ → Bool) → ((n b : ℕ) → test n b ≡ p b) → (place : ℕ) (bs : List ℕ) → all_from place test bs ≡ true → list_all p bs ≡ true
all_places test p same place [] h = refl
all_places test p same place (b ∷ bs) h =
    let parts = and_parts (test place b) (all_from (place + 1) test bs) h in
    and_from (p b) (list_all p bs) (sym (same place b) ∙ parts.0) (all_places test p same (place + 1) bs parts.1)

module _ (symbology : Symbology) (content : List ℕ) (h : IsTrue (is_content symbology content)) where
  there : has_length symbology (length content) ≡ true
  there = (and_parts (has_length symbology (length content)) (all_from 0 (allows symbology (length content)) content) h).0

  all_allowed : (p : ℕ → Bool) → ((n b : ℕ) → allows symbology (length content) n b ≡ p b) → list_all p content ≡ true
  all_allowed p same =
      all_places (allows symbology (length content)) p same 0 content
      (and_parts (has_length symbology (length content)) (all_from 0 (allows symbology (length content)) content) h).1

pub upca_there : (content : List ℕ) → IsTrue (is_content UpcA content) → length content ≡ 12 → IsTrue (is_some (elements UpcA content))
upca_there content h e =
    some_there (are_digits 12 content) _ (and_from (length content == 12) (list_all is_digit content) (eq-eqb (length content) 12 e) (all_allowed UpcA content h is_digit (λ n b. refl)))

pub ean8_there : (content : List ℕ) → IsTrue (is_content Ean8 content) → length content ≡ 8 → IsTrue (is_some (elements Ean8 content))
ean8_there content h e =
    some_there (are_digits 8 content) _ (and_from (length content == 8) (list_all is_digit content) (eq-eqb (length content) 8 e) (all_allowed Ean8 content h is_digit (λ n b. refl)))

pub ean13_there : (content : List ℕ) → IsTrue (is_content Ean13 content) → length content ≡ 13 → IsTrue (is_some (elements Ean13 content))
ean13_there [] h e = absurd (omega arith)
ean13_there (first ∷ digits) h e =
    let content = first ∷ digits in
    some_there (are_digits 13 content) _ (and_from (length content == 13) (list_all is_digit content) (eq-eqb (length content) 13 e) (all_allowed Ean13 content h is_digit (λ n b. refl)))

pub itf_there : (content : List ℕ) → IsTrue (is_content Itf content) → IsTrue (is_some (elements Itf content))
itf_there content h =
    let n = length content in
    let long = and_parts (nat_le 2 n && nat_le n 254) (n % 2 == 0) (there Itf content h) in
    let least = and_parts (nat_le 2 n) (nat_le n 254) long.0 in
    some_there (is_itf_content content) _
    (and_from (nat_le 2 n && n % 2 == 0) (list_all is_digit content) (and_from (nat_le 2 n) (n % 2 == 0) least.0 long.1) (all_allowed Itf content h is_digit (λ m b. refl)))

pub codabar_there : (content : List ℕ) → IsTrue (is_content Codabar content) → IsTrue (is_some (elements Codabar content))
codabar_there content h = some_there (is_content Codabar content) _ h

-- ## UPC-E

by_first : (first : Bool) (n b : ℕ) → (if first then is_upce_first n b else is_digit b) ≡ true → is_digit b ≡ true
by_first true n b h = first_digit (n == 6) b h
  where
    first_digit : (six : Bool) (b : ℕ) → (if six then is_digit b else b == 0x30) ≡ true → is_digit b ≡ true
    first_digit true b h = h
    first_digit false b h = ap is_digit (eqb-true b 0x30 h)
by_first false n b h = h

upce_digits : (n place : ℕ) (bs : List ℕ) → all_from place (allows UpcE n) bs ≡ true → list_all is_digit bs ≡ true
upce_digits n place [] h = refl
upce_digits n place (b ∷ bs) h =
    let parts = and_parts (allows UpcE n place b) (all_from (place + 1) (allows UpcE n) bs) h in
    and_from (is_digit b) (list_all is_digit bs) (by_first (place == 0) n b parts.0) (upce_digits n (place + 1) bs parts.1)

all_upce_digits : (content : List ℕ) → IsTrue (is_content UpcE content) → list_all is_digit content ≡ true
all_upce_digits content h = upce_digits (length content) 0 content (and_parts (has_length UpcE (length content)) (all_from 0 (allows UpcE (length content)) content) h).1

given_there : {A B : Type 0} (o : Option A) (f : A → B) → is_some o ≡ true → is_some (given o (λ x. Some (f x))) ≡ true
given_there None f h = h
given_there (Some x) f h = refl

parts_there : (content : List ℕ) → list_all is_digit content ≡ true → is_some (upce_parts content) ≡ true → IsTrue (is_some (elements UpcE content))
parts_there content h k =
    ap (λ (t : Bool). is_some (if t then given (upce_parts content) (λ p. Some (upce_elements p.0 p.1)) else None)) h
    ∙ given_there (upce_parts content) (λ p. upce_elements p.0 p.1) k

some_first : {A : Type 0} (t : Bool) (x : A) (o : Option A) → t ≡ true → is_some (if t then Some x else o) ≡ true
some_first true x o h = refl
some_first false x o h = absurd cc

some_later : {A : Type 0} (t : Bool) (x : A) (o : Option A) → is_some o ≡ true → is_some (if t then Some x else o) ≡ true
some_later true x o h = refl
some_later false x o h = h

pub upce_six_there : (content : List ℕ) → IsTrue (list_all is_digit content) → length content ≡ 7 → IsTrue (is_some (elements UpcE content))
upce_six_there content h n = parts_there content h (some_first (length content == 7) _ _ (eq-eqb (length content) 7 n))

pub upce_there : (content : List ℕ) → IsTrue (is_content UpcE content) → length content ≡ 8 → IsTrue (is_some (elements UpcE content))
upce_there [] h n = absurd (omega arith)
upce_there (c ∷ cs) h n =
    let content = c ∷ cs in
    let all = and_parts (has_length UpcE (length content)) (all_from 0 (allows UpcE (length content)) content) h in
    let first = and_parts (is_upce_first (length content) c) (all_from 1 (allows UpcE (length content)) cs) all.1 in
    let zero_first : (c == 0x30) ≡ true = sym (ap (λ m. is_upce_first m c) n) ∙ first.0 in
    parts_there content (all_upce_digits content h)
    (some_later (length content == 7) _ _ (some_first (length content == 8 && c == 0x30) _ _ (and_from (length content == 8) (c == 0x30) (eq-eqb (length content) 8 n) zero_first)))

abbrev stands : List ℕ → List ℕ → Bool
stands digits six = pointwise nat_eq (expanded six) digits

itself : (xs : List ℕ) → pointwise nat_eq xs xs ≡ true
itself [] = refl
itself (x ∷ xs) = and_from (x == x) (pointwise nat_eq xs xs) (eq-eqb x x refl) (itself xs)

or_first : (p q : Bool) → p ≡ true → (p || q) ≡ true
or_first true q h = refl
or_first false q h = absurd cc

or_second : (p q : Bool) → q ≡ true → (p || q) ≡ true
or_second true q h = refl
or_second false q h = h

first_there : (digits : List ℕ) (sixes : List (List ℕ)) → list_any (stands digits) sixes ≡ true → is_some (first_for digits sixes) ≡ true
first_there digits [] h = absurd cc
first_there digits (s ∷ ss) h = elim (or_cases (stands digits s) (list_any (stands digits) ss) h) [
  | inl e ↦ some_first (stands digits s) s (first_for digits ss) e
  | inr e ↦ some_later (stands digits s) s (first_for digits ss) (first_there digits ss e)
]

-- The digits for which six stand by their last one
abbrev by_two : (a b c d e f : ℕ) → List ℕ
by_two a b c d e f = 0x30 ∷ a ∷ b ∷ f ∷ 0x30 ∷ 0x30 ∷ 0x30 ∷ 0x30 ∷ c ∷ d ∷ e ∷ []

abbrev by_three : (a b c d e : ℕ) → List ℕ
by_three a b c d e = 0x30 ∷ a ∷ b ∷ c ∷ 0x30 ∷ 0x30 ∷ 0x30 ∷ 0x30 ∷ 0x30 ∷ d ∷ e ∷ []

abbrev by_four : (a b c d e : ℕ) → List ℕ
by_four a b c d e = 0x30 ∷ a ∷ b ∷ c ∷ d ∷ 0x30 ∷ 0x30 ∷ 0x30 ∷ 0x30 ∷ 0x30 ∷ e ∷ []

abbrev by_others : (a b c d e f : ℕ) → List ℕ
by_others a b c d e f = 0x30 ∷ a ∷ b ∷ c ∷ d ∷ e ∷ 0x30 ∷ 0x30 ∷ 0x30 ∷ 0x30 ∷ f ∷ []

abbrev by_tests : (s t u : Bool) (a b c d e f : ℕ) → List ℕ
by_tests s t u a b c d e f = if s then by_two a b c d e f else if t then by_three a b c d e else if u then by_four a b c d e else by_others a b c d e f

module _ (p : List ℕ → Bool) (w x y z : List ℕ) where
  is_first : p w ≡ true → list_any p (w ∷ x ∷ y ∷ z ∷ []) ≡ true
  is_first h = or_first (p w) (p x || (p y || (p z || false))) h

  is_second : p x ≡ true → list_any p (w ∷ x ∷ y ∷ z ∷ []) ≡ true
  is_second h = or_second (p w) (p x || (p y || (p z || false))) (or_first (p x) (p y || (p z || false)) h)

  is_third : p y ≡ true → list_any p (w ∷ x ∷ y ∷ z ∷ []) ≡ true
  is_third h = or_second (p w) (p x || (p y || (p z || false))) (or_second (p x) (p y || (p z || false)) (or_first (p y) (p z || false) h))

  is_fourth : p z ≡ true → list_any p (w ∷ x ∷ y ∷ z ∷ []) ≡ true
  is_fourth h = or_second (p w) (p x || (p y || (p z || false))) (or_second (p x) (p y || (p z || false)) (or_second (p y) (p z || false) (or_first (p z) false h)))

-- One of the ways to leave zeros out leaves six digits that stand for them.
one_stands : (a b c d e f : ℕ) (s t u : Bool) → nat_le f 0x32 ≡ s → (f == 0x33) ≡ t → (f == 0x34) ≡ u →
    list_any (stands (by_tests s t u a b c d e f)) (shorter (by_tests s t u a b c d e f)) ≡ true
one_stands a b c d e f true t u x y z =
    is_first (stands (by_two a b c d e f)) (a ∷ b ∷ c ∷ d ∷ e ∷ f ∷ []) (a ∷ b ∷ f ∷ d ∷ e ∷ 0x33 ∷ []) (a ∷ b ∷ f ∷ 0x30 ∷ e ∷ 0x34 ∷ []) (a ∷ b ∷ f ∷ 0x30 ∷ 0x30 ∷ e ∷ [])
    (ap (λ (v : Bool). pointwise nat_eq (by_tests v (f == 0x33) (f == 0x34) a b c d e f) (by_two a b c d e f)) x ∙ itself (by_two a b c d e f))
one_stands a b c d e f false true u x y z = is_second (stands (by_three a b c d e)) (a ∷ b ∷ 0x30 ∷ d ∷ e ∷ c ∷ []) (a ∷ b ∷ c ∷ d ∷ e ∷ 0x33 ∷ []) (a ∷ b ∷ c ∷ 0x30 ∷ e ∷ 0x34 ∷ []) (a ∷ b ∷ c ∷ 0x30 ∷ 0x30 ∷ e ∷ []) (itself (by_three a b c d e))
one_stands a b c d e f false false true x y z = is_third (stands (by_four a b c d e)) (a ∷ b ∷ 0x30 ∷ 0x30 ∷ e ∷ c ∷ []) (a ∷ b ∷ c ∷ 0x30 ∷ e ∷ 0x33 ∷ []) (a ∷ b ∷ c ∷ d ∷ e ∷ 0x34 ∷ []) (a ∷ b ∷ c ∷ d ∷ 0x30 ∷ e ∷ []) (itself (by_four a b c d e))
one_stands a b c d e f false false false x y z =
    is_fourth (stands (by_others a b c d e f)) (a ∷ b ∷ 0x30 ∷ 0x30 ∷ f ∷ c ∷ []) (a ∷ b ∷ c ∷ 0x30 ∷ f ∷ 0x33 ∷ []) (a ∷ b ∷ c ∷ d ∷ f ∷ 0x34 ∷ []) (a ∷ b ∷ c ∷ d ∷ e ∷ f ∷ [])
    (ap (λ (v : Bool). pointwise nat_eq (by_tests v (f == 0x33) (f == 0x34) a b c d e f) (by_others a b c d e f)) x
    ∙ ap (λ (v : Bool). pointwise nat_eq (by_tests false v (f == 0x34) a b c d e f) (by_others a b c d e f)) y
    ∙ ap (λ (v : Bool). pointwise nat_eq (by_tests false false v a b c d e f) (by_others a b c d e f)) z ∙ itself (by_others a b c d e f))

some_stands : (six : List ℕ) → length six ≡ 6 → list_any (stands (expanded six)) (shorter (expanded six)) ≡ true
some_stands (a ∷ b ∷ c ∷ d ∷ e ∷ f ∷ []) n = one_stands a b c d e f (nat_le f 0x32) (f == 0x33) (f == 0x34) refl refl refl
some_stands [] n = absurd (omega arith)
some_stands (a ∷ []) n = absurd (omega arith)
some_stands (a ∷ b ∷ []) n = absurd (omega arith)
some_stands (a ∷ b ∷ c ∷ []) n = absurd (omega arith)
some_stands (a ∷ b ∷ c ∷ d ∷ []) n = absurd (omega arith)
some_stands (a ∷ b ∷ c ∷ d ∷ e ∷ []) n = absurd (omega arith)
some_stands (a ∷ b ∷ c ∷ d ∷ e ∷ f ∷ g ∷ more) n = absurd (omega arith)

pub upce_long_there : (content six : List ℕ) → IsTrue (is_content UpcE content) → length content ≡ 12 → length six ≡ 6 → expanded six ≡ take 11 content →
    IsTrue (is_some (elements UpcE content))
upce_long_there content six h n k e =
    let found = first_there (take 11 content) (shorter (take 11 content)) (subst (λ ds. list_any (stands ds) (shorter ds) ≡ true) e (some_stands six k)) in
    let with_check : List ℕ → List ℕ × ℕ = λ s. (s, slice_index content 11) in
    parts_there content (all_upce_digits content h)
    (some_later (length content == 7) _ _ (some_later (length content == 8 && slice_index content 0 == 0x30) _ _
    (ap (λ (t : Bool). is_some (if t then given (first_for (take 11 content) (shorter (take 11 content))) (λ s. Some (with_check s)) else None)) (eq-eqb (length content) 12 n)
    ∙ given_there (first_for (take 11 content) (shorter (take 11 content))) with_check found)))

-- ## CODE93

below_128 : (n place : ℕ) (bs : List ℕ) → all_from place (allows Code93 n) bs ≡ true → list_all (λ b. nat_lt b 0x80) bs ≡ true
below_128 n place [] h = refl
below_128 n place (b ∷ bs) h =
    let parts = and_parts (nat_lt b 0x80) (all_from (place + 1) (allows Code93 n) bs) h in
    and_from (nat_lt b 0x80) (list_all (λ c. nat_lt c 0x80) bs) parts.0 (below_128 n (place + 1) bs parts.1)

pub code93_there : (content : List ℕ) → IsTrue (is_content Code93 content) → IsTrue (is_some (elements Code93 content))
code93_there content h =
    let n = length content in
    let parts = and_parts (has_length Code93 n) (all_from 0 (allows Code93 n) content) h in
    let long = and_parts (nat_le 1 n) (nat_le n 255) parts.0 in
    some_there (is_code93_content content) _ (and_from (nat_le 1 n) (list_all (λ b. nat_lt b 0x80) content) long.0 (below_128 n 0 content parts.1))

-- ## CODE39

or_small : (x : Bool) (b n : ℕ) → n < 128 → (x ≡ true → b < 128) → (x || b == n) ≡ true → b < 128
or_small x b n k f h = elim (or_cases x (b == n) h) [ inl e ↦ f e | inr e ↦ let m = eqb-true b n e in omega arith ]

letter_small : (b : ℕ) → (is_digit b || nat_le 0x41 b && nat_le b 0x5A) ≡ true → b < 128
letter_small b h = elim (or_cases (is_digit b) (nat_le 0x41 b && nat_le b 0x5A) h) [
  | inl e ↦ let r = digit_range b e in let m = r.1 in omega arith
  | inr e ↦ let r = and_parts (nat_le 0x41 b) (nat_le b 0x5A) e in let m = leb-true b 0x5A r.1 in omega arith
]

code39_small : (b : ℕ) → is_code39 b ≡ true → b < 128
code39_small b h =
    or_small _ b 0x2F (omega arith) (or_small _ b 0x2E (omega arith) (or_small _ b 0x2D (omega arith) (or_small _ b 0x2B (omega arith)
    (or_small _ b 0x2A (omega arith) (or_small _ b 0x25 (omega arith) (or_small _ b 0x24 (omega arith) (or_small _ b 0x20 (omega arith) (letter_small b)))))))) h

in_data : ℕ → Bool
in_data b = not (is_code39 b && not (b == 0x2A)) || has_row code39_data b

all_in_data : agree_below in_data (λ b. true) 128 ≡ true
unfolding in_data code39_data
all_in_data = refl

data_there : (b : ℕ) → is_code39 b ≡ true → not (b == 0x2A) ≡ true → has_row code39_data b ≡ true
unfolding in_data
data_there b h k =
    implied (is_code39 b && not (b == 0x2A)) (has_row code39_data b) (and_from (is_code39 b) (not (b == 0x2A)) h k)
    (agree_below_at in_data (λ c. true) 128 b all_in_data (code39_small b h))

all_data : (bs : List ℕ) → list_all is_code39 bs ≡ true → list_all (λ b. not (b == 0x2A)) bs ≡ true → list_all (has_row code39_data) bs ≡ true
all_data [] h k = refl
all_data (b ∷ bs) h k =
    let ours = and_parts (is_code39 b) (list_all is_code39 bs) h in
    let none = and_parts (not (b == 0x2A)) (list_all (λ c. not (c == 0x2A)) bs) k in
    and_from (has_row code39_data b) (list_all (has_row code39_data) bs) (data_there b ours.0 none.0) (all_data bs ours.1 none.1)

pub code39_there : (content : List ℕ) → IsTrue (is_content Code39 content) → IsTrue (list_all (λ b. not (b == 0x2A)) content) →
    IsTrue (is_some (elements Code39 content))
code39_there content h k =
    let n = length content in
    let long = and_parts (nat_le 1 n) (nat_le n 255) (there Code39 content h) in
    some_there (is_code39_content content) _
    (and_from (nat_le 1 n) (list_all (has_row code39_data) content) long.0 (all_data content (all_allowed Code39 content h is_code39 (λ m b. refl)) k))
