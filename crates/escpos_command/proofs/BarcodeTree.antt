-- Barcodes in the tree: their spellings lead to them, and their part of the tree is good.
use Rattle.std.proofs.Common.{◌≡◌, ◌<◌, ◌≤◌, ℕ, ◌+◌, List, [], ◌∷◌, ◌++◌, refl, ◌∙◌, ap, sym, subst, arith, true, false, length, append-nil, add-one, cond, append_assoc, length-append, Bool}
use Rattle.std.specs.Prelude.{◌==◌, ◌&&◌, ◌||◌, nat_lt}
use Rattle.std.specs.List.{list_all}
use Rattle.std.proofs.lemmas.Bool.Decides.{nat_tests}
use Rattle.escpos_command.specs.declared.bytes.TheConstants.{GS}
use Rattle.escpos_command.specs.declared.command.Command.TheVariants as kind
use Rattle.escpos_command.specs.declared.bars.Form.{Form}
use Rattle.escpos_command.specs.declared.bars.Form.TheVariants.{A, B}
use Rattle.escpos_command.specs.declared.bars.Symbology.{Symbology}
use Rattle.escpos_command.specs.declared.bars.Symbology.TheVariants.{UpcA, UpcE, Ean13, Ean8, Code39, Itf, Codabar, Code93, Code128, Gs1Code128}
use Rattle.escpos_command.specs.Barcodes.{barcode, barcode_mode, is_barcode, is_content, has_form, has_length, is_upce_first, allows, all_from, is_digit, is_code39, is_codabar, is_codabar_end, is_code_set}
use Rattle.escpos_command.specs.CommandTable.{Spells, sent_length, sent_suffix}
use Rattle.escpos_command.specs.Tree.{leaf, dead, node, walk, passing, branch, none, plain_byte, plain_content, upce_more, upce_content, codabar_content, content_of, form_b, barcodes}
use Rattle.escpos_command.proofs.Walks.{Good}
use Rattle.escpos_command.proofs.Combinators.{good_passing, good_branch, good_counted, good_closed, good_stopped, walk-counted, walk-closed, walk-stopped, live_counted, live_closed, live_stopped, all_from_all, and_left, and_right, both, at_row}

-- ## Form B

leads_form_b : (s : Symbology) (xs : List ℕ) → is_content s xs ≡ true → walk (form_b s) (length xs ∷ (xs ++ [])) ≡ leaf (kind.Bars (barcode B s xs))
leads_form_b s xs h =
    ap (λ v. walk (cond v (content_of s (length xs) (length xs) []) dead) (xs ++ [])) (and_left (has_length s (length xs)) _ h)
    ∙ ap (walk (content_of s (length xs) (length xs) [])) (append-nil xs)
    ∙ walk-counted (length xs) (allows s (length xs)) (λ ys. kind.Bars (barcode B s ys)) [] xs refl (and_right (has_length s (length xs)) _ h)

either : (c : Bool) (f g : ℕ → Bool) (x y : ℕ) → f x ≡ true → g y ≡ true → (b : ℕ) × (cond c (f b) (g b) ≡ true)
either true f g x y h k = (x, h)
either false f g x y h k = (y, k)

-- Some byte may stand at each place.
some_allowed : (s : Symbology) (n place : ℕ) → (b : ℕ) × (allows s n place b ≡ true)
some_allowed UpcA n place = (0x30, refl)
some_allowed UpcE n place = (0x30, upce_zero (place == 0) (n == 6))
  where
    upce_zero : (s t : Bool) → cond s (cond t (is_digit 0x30) (0x30 == 0x30)) (is_digit 0x30) ≡ true
    upce_zero true true = refl
    upce_zero true false = refl
    upce_zero false t = refl
some_allowed Ean13 n place = (0x30, refl)
some_allowed Ean8 n place = (0x30, refl)
some_allowed Code39 n place = (0x30, refl)
some_allowed Itf n place = (0x30, refl)
some_allowed Codabar n place = either (place == 0 || place + 1 == n) is_codabar_end is_codabar 0x41 0x30 refl refl
some_allowed Code128 n place =
    let later = either (place == 1) is_code_set (λ b. nat_lt b 0x80) 0x41 0x00 refl refl in
    either (place == 0) (λ b. b == 0x7B) (λ b. cond (place == 1) (is_code_set b) (nat_lt b 0x80)) 0x7B later.0 refl later.1
some_allowed Code93 n place = (0x30, refl)
some_allowed Gs1Code128 n place = (0x30, refl)

spelled_b : (s : Symbology) (n : ℕ) (xs : List ℕ) → (m : ℕ) → m ≡ barcode_mode B s → has_length s n ≡ true → length xs ≡ n → all_from 0 (allows s n) xs ≡ true
    → Spells (kind.Bars (barcode B s xs)) (GS ∷ 0x6B ∷ m ∷ n ∷ xs)
spelled_b s n xs m mode h long all =
    subst (λ v. Spells (kind.Bars (barcode B s xs)) (GS ∷ 0x6B ∷ v ∷ n ∷ xs)) (sym mode)
    (subst (λ v. Spells (kind.Bars (barcode B s xs)) (GS ∷ 0x6B ∷ barcode_mode B s ∷ v ∷ xs)) long
    (subst (λ v. Spells (kind.Bars (barcode B s xs)) (GS ∷ 0x6B ∷ barcode_mode B s ∷ length xs ∷ v)) (append-nil xs)
    (at_row (kind.Bars (barcode B s xs)) (both _ _ refl (both _ _ (subst (λ v. has_length s v ≡ true) (sym long) h) (subst (λ v. all_from 0 (allows s v) xs ≡ true) (sym long) all))))))

good_form_b : (s : Symbology) (m x : ℕ) → m ≡ barcode_mode B s → has_length s x ≡ true → Good (GS ∷ 0x6B ∷ m ∷ []) (form_b s)
good_form_b s m x mode h =
    good_passing (GS ∷ 0x6B ∷ m ∷ []) (has_length s) (λ n. content_of s n n []) x h (live_counted x (allows s x) (λ ys. kind.Bars (barcode B s ys)) [])
    (λ n k. good_counted n (GS ∷ 0x6B ∷ m ∷ n ∷ []) (allows s n) (λ ys. kind.Bars (barcode B s ys)) [] (some_allowed s n) (λ xs. spelled_b s n xs m mode k))

-- ## Form A

spelled_a : (s : Symbology) (xs : List ℕ) (m : ℕ) → m ≡ barcode_mode A s → has_form A s ≡ true → is_content s xs ≡ true
    → Spells (kind.Bars (barcode A s xs)) (GS ∷ 0x6B ∷ m ∷ (xs ++ 0 ∷ []))
spelled_a s xs m mode form h =
    subst (λ v. Spells (kind.Bars (barcode A s xs)) (GS ∷ 0x6B ∷ v ∷ (xs ++ 0 ∷ []))) (sym mode) (at_row (kind.Bars (barcode A s xs)) (both _ _ form h))

-- A symbology that allows the same bytes at all places, the digit 0 among them and 00 not, and has a content of the most
-- bytes.
record Plain (s : Symbology) (most : ℕ) : Type 0 where
  form : has_form A s ≡ true
  same : (n : ℕ) (xs : List ℕ) → all_from 0 (allows s n) xs ≡ list_all (plain_byte s) xs
  digit : plain_byte s 0x30 ≡ true
  no_zero : plain_byte s 0 ≡ false
  full : has_length s most ≡ true
  few : (n : ℕ) → has_length s n ≡ true → n ≤ most

upc_a : Plain UpcA 12
upc_a = record { form = refl; same = λ n. all_from_all 0 is_digit; digit = refl; no_zero = refl; full = refl; few = λ n h. grind (arith, nat_tests) }

ean13 : Plain Ean13 13
ean13 = record { form = refl; same = λ n. all_from_all 0 is_digit; digit = refl; no_zero = refl; full = refl; few = λ n h. grind (arith, nat_tests) }

ean8 : Plain Ean8 8
ean8 = record { form = refl; same = λ n. all_from_all 0 is_digit; digit = refl; no_zero = refl; full = refl; few = λ n h. grind (arith, nat_tests) }

code39 : Plain Code39 255
code39 = record { form = refl; same = λ n. all_from_all 0 is_code39; digit = refl; no_zero = refl; full = refl; few = λ n h. grind (arith, nat_tests) }

itf : Plain Itf 254
itf = record { form = refl; same = λ n. all_from_all 0 is_digit; digit = refl; no_zero = refl; full = refl; few = λ n h. grind (arith, nat_tests) }

leads_plain : (s : Symbology) (most : ℕ) → Plain s most → (xs : List ℕ) → is_content s xs ≡ true
    → walk (plain_content s most []) (xs ++ 0 ∷ []) ≡ leaf (kind.Bars (barcode A s xs))
leads_plain s most plain xs h =
    walk-closed most (plain_byte s) (λ ys. has_length s (length ys)) (λ ys. kind.Bars (barcode A s ys)) [] xs plain.no_zero
    (plain.few (length xs) (and_left (has_length s (length xs)) _ h)) (sym (plain.same (length xs) xs) ∙ and_right (has_length s (length xs)) _ h)
    (and_left (has_length s (length xs)) _ h)

good_plain : (s : Symbology) (most m : ℕ) → m ≡ barcode_mode A s → Plain s most → Good (GS ∷ 0x6B ∷ m ∷ []) (plain_content s most [])
good_plain s most m mode plain =
    good_closed most (GS ∷ 0x6B ∷ m ∷ []) (plain_byte s) (λ ys. has_length s (length ys)) (λ ys. kind.Bars (barcode A s ys)) [] plain.digit
    (λ xs long. subst (λ v. has_length s v ≡ true) (sym long) plain.full)
    (λ xs few all h. spelled_a s xs m mode plain.form (both _ _ h (plain.same (length xs) xs ∙ all)))

-- ## UPC-E

-- A content of six digits, or of more with 0 at its begin.
upce_few : (n first : ℕ) → has_length UpcE n ≡ true → is_upce_first n first ≡ true → n ≤ upce_more first + 1
upce_few n first h k = grind (arith, nat_tests)

upce_digit : (n first : ℕ) → is_upce_first n first ≡ true → is_digit first ≡ true
upce_digit n first h = grind (arith, nat_tests)

upce_later : (n place : ℕ) (xs : List ℕ) → 0 < place → all_from place (allows UpcE n) xs ≡ list_all is_digit xs
upce_later n place [] h = refl
upce_later n place (x ∷ xs) h =
    let later : (place == 0) ≡ false = grind (arith, nat_tests) in
    ap (λ v. cond v (is_upce_first n x) (is_digit x) && all_from (place + 1) (allows UpcE n) xs) later
    ∙ ap (λ v. is_digit x && v) (upce_later n (place + 1) xs (omega arith))

leads_upce : (xs : List ℕ) → is_content UpcE xs ≡ true → walk upce_content (xs ++ 0 ∷ []) ≡ leaf (kind.Bars (barcode A UpcE xs))
leads_upce [] h = let clash : false ≡ true = h in absurd cc
leads_upce (first ∷ more) h =
    let n = length (first ∷ more) in
    let long = and_left (has_length UpcE n) (all_from 0 (allows UpcE n) (first ∷ more)) h in
    let all = and_right (has_length UpcE n) (all_from 0 (allows UpcE n) (first ∷ more)) h in
    let starts = and_left (is_upce_first n first) (all_from 1 (allows UpcE n) more) all in
    let digits = sym (upce_later n 1 more (omega arith)) ∙ and_right (is_upce_first n first) (all_from 1 (allows UpcE n) more) all in
    let few = upce_few n first long starts in
    ap (λ v. walk (cond v (plain_content UpcE (upce_more first) (first ∷ [])) dead) (more ++ 0 ∷ [])) (upce_digit n first starts)
    ∙ walk-closed (upce_more first) is_digit (λ ys. has_length UpcE (length ys)) (λ ys. kind.Bars (barcode A UpcE ys)) (first ∷ []) more refl (omega arith) digits long

upce_full : (n first : ℕ) → n ≡ upce_more first → has_length UpcE (n + 1) ≡ true
upce_full n first h = grind (arith, nat_tests)

upce_starts : (n first : ℕ) → is_digit first ≡ true → n ≤ upce_more first → has_length UpcE (n + 1) ≡ true → is_upce_first (n + 1) first ≡ true
upce_starts n first h few long = grind (arith, nat_tests)

upce_is_content : (first : ℕ) (xs : List ℕ) → is_digit first ≡ true → length xs ≤ upce_more first → list_all is_digit xs ≡ true → has_length UpcE (length (first ∷ xs)) ≡ true
    → is_content UpcE (first ∷ xs) ≡ true
upce_is_content first xs digit few all long =
    let starts = upce_starts (length xs) first digit few (subst (λ v. has_length UpcE v ≡ true) (sym (add-one (length xs))) long) in
    both _ _ long
    (both _ _ (subst (λ v. is_upce_first v first ≡ true) (add-one (length xs)) starts) (upce_later (length (first ∷ xs)) 1 xs (omega arith) ∙ all))

good_upce : Good (GS ∷ 0x6B ∷ 1 ∷ []) upce_content
good_upce =
    good_passing (GS ∷ 0x6B ∷ 1 ∷ []) is_digit (λ first. plain_content UpcE (upce_more first) (first ∷ [])) 0x30 refl
    (live_closed 11 is_digit (λ ys. has_length UpcE (length ys)) (λ ys. kind.Bars (barcode A UpcE ys)) (0x30 ∷ [])) (λ first digit.
    good_closed (upce_more first) (GS ∷ 0x6B ∷ 1 ∷ first ∷ []) is_digit (λ ys. has_length UpcE (length ys)) (λ ys. kind.Bars (barcode A UpcE ys)) (first ∷ []) refl
    (λ xs long. subst (λ v. has_length UpcE v ≡ true) (add-one (length xs)) (upce_full (length xs) first long))
    (λ xs few all long. spelled_a UpcE (first ∷ xs) 1 refl refl (upce_is_content first xs digit few all long)))

-- ## CODABAR

-- A content is a first letter, bytes between, and a last letter.
record Shape (xs : List ℕ) : Type 0 where
  first : ℕ
  middle : List ℕ
  last : ℕ
  whole : xs ≡ first ∷ (middle ++ last ∷ [])
  starts : is_codabar_end first ≡ true
  between : list_all is_codabar middle ≡ true
  stops : is_codabar_end last ≡ true
  few : length middle ≤ 253

at_end : (n place b : ℕ) → place + 1 ≡ n → allows Codabar n place b ≡ is_codabar_end b
at_end n place b h =
    let e : (place == 0 || place + 1 == n) ≡ true = grind (arith, nat_tests) in
    ap (λ v. cond v (is_codabar_end b) (is_codabar b)) e

inside : (n place b : ℕ) → 0 < place → place + 1 < n → allows Codabar n place b ≡ is_codabar b
inside n place b p h =
    let e : (place == 0 || place + 1 == n) ≡ false = grind (arith, nat_tests) in
    ap (λ v. cond v (is_codabar_end b) (is_codabar b)) e

-- The bytes after the first.
record Tail (xs : List ℕ) : Type 0 where
  middle : List ℕ
  last : ℕ
  whole : xs ≡ middle ++ last ∷ []
  between : list_all is_codabar middle ≡ true
  stops : is_codabar_end last ≡ true

tail_of : (n place x : ℕ) (xs : List ℕ) → 0 < place → place + (length xs + 1) ≡ n → all_from place (allows Codabar n) (x ∷ xs) ≡ true → Tail (x ∷ xs)
tail_of n place x [] p long all = record {
  middle = [];
  last = x;
  whole = refl;
  between = refl;
  stops = sym (at_end n place x (omega arith)) ∙ and_left (allows Codabar n place x) true all;
}
tail_of n place x (y ∷ ys) p long all =
    let t = tail_of n (place + 1) y ys (omega arith) (omega arith) (and_right (allows Codabar n place x) (all_from (place + 1) (allows Codabar n) (y ∷ ys)) all) in
    record {
      middle = x ∷ t.middle;
      last = t.last;
      whole = ap (λ v. x ∷ v) t.whole;
      between = both _ _ (sym (inside n place x p (omega arith)) ∙ and_left (allows Codabar n place x) (all_from (place + 1) (allows Codabar n) (y ∷ ys)) all) t.between;
      stops = t.stops;
    }

at_least_two : (n : ℕ) → has_length Codabar n ≡ true → 2 ≤ n
at_least_two n h = grind (arith, nat_tests)

at_most_255 : (n : ℕ) → has_length Codabar n ≡ true → n ≤ 255
at_most_255 n h = grind (arith, nat_tests)

shape_of : (xs : List ℕ) → is_content Codabar xs ≡ true → Shape xs
shape_of [] h = let clash : false ≡ true = h in absurd cc
shape_of (x ∷ []) h = let clash : false ≡ true = h in absurd cc
shape_of (x ∷ y ∷ ys) h =
    let n = length (x ∷ y ∷ ys) in
    let all = and_right (has_length Codabar n) (all_from 0 (allows Codabar n) (x ∷ y ∷ ys)) h in
    let most = at_most_255 n (and_left (has_length Codabar n) (all_from 0 (allows Codabar n) (x ∷ y ∷ ys)) h) in
    let t = tail_of n 1 y ys (omega arith) (omega arith) (and_right (is_codabar_end x) (all_from 1 (allows Codabar n) (y ∷ ys)) all) in
    record {
      first = x;
      middle = t.middle;
      last = t.last;
      whole = ap (λ v. x ∷ v) t.whole;
      starts = and_left (is_codabar_end x) (all_from 1 (allows Codabar n) (y ∷ ys)) all;
      between = t.between;
      stops = t.stops;
      few = let long = ap length t.whole ∙ length-append t.middle (t.last ∷ []) in omega arith;
    }

codabar_apart : (b : ℕ) → is_codabar b ≡ true → is_codabar_end b ≡ false
codabar_apart b h = grind (arith, nat_tests)

leads_codabar : (xs : List ℕ) → is_content Codabar xs ≡ true
    → walk (passing is_codabar_end (λ first. codabar_content 253 (first ∷ []))) (xs ++ 0 ∷ []) ≡ leaf (kind.Bars (barcode A Codabar xs))
leads_codabar xs h =
    let s = shape_of xs h in
    ap (λ v. walk (passing is_codabar_end (λ first. codabar_content 253 (first ∷ []))) (v ++ 0 ∷ [])) s.whole
    ∙ ap (λ v. walk (cond v (codabar_content 253 (s.first ∷ [])) dead) ((s.middle ++ s.last ∷ []) ++ 0 ∷ [])) s.starts
    ∙ ap (walk (codabar_content 253 (s.first ∷ []))) (append_assoc s.middle (s.last ∷ []) (0 ∷ []))
    ∙ walk-stopped 253 is_codabar is_codabar_end (λ ys. kind.Bars (barcode A Codabar ys)) (s.first ∷ []) s.middle s.last codabar_apart s.few s.between s.stops
    ∙ ap (λ v. leaf (kind.Bars (barcode A Codabar v))) (sym s.whole)

-- A first letter, bytes between and a last letter are a content.
tail_allowed : (n place : ℕ) (middle : List ℕ) (last : ℕ) → 0 < place → place + (length middle + 1) ≡ n → list_all is_codabar middle ≡ true → is_codabar_end last ≡ true
    → all_from place (allows Codabar n) (middle ++ last ∷ []) ≡ true
tail_allowed n place [] last p long all h = both _ _ (at_end n place last (omega arith) ∙ h) refl
tail_allowed n place (x ∷ xs) last p long all h =
    both _ _ (inside n place x p (omega arith) ∙ and_left (is_codabar x) (list_all is_codabar xs) all)
    (tail_allowed n (place + 1) xs last (omega arith) (omega arith) (and_right (is_codabar x) (list_all is_codabar xs) all) h)

two_to_255 : (n : ℕ) → 2 ≤ n → n ≤ 255 → has_length Codabar n ≡ true
two_to_255 n h k = grind (arith, nat_tests)

codabar_is_content : (first : ℕ) (middle : List ℕ) (last : ℕ) → is_codabar_end first ≡ true → length middle ≤ 253 → list_all is_codabar middle ≡ true → is_codabar_end last ≡ true
    → is_content Codabar (first ∷ (middle ++ last ∷ [])) ≡ true
codabar_is_content first middle last starts few all stops =
    let long = length-append middle (last ∷ []) in
    both _ _ (two_to_255 (length (first ∷ (middle ++ last ∷ []))) (omega arith) (omega arith))
    (both _ _ starts (tail_allowed (length (first ∷ (middle ++ last ∷ []))) 1 middle last (omega arith) (omega arith) all stops))

good_codabar : Good (GS ∷ 0x6B ∷ 6 ∷ []) (passing is_codabar_end (λ first. codabar_content 253 (first ∷ [])))
good_codabar =
    good_passing (GS ∷ 0x6B ∷ 6 ∷ []) is_codabar_end (λ first. codabar_content 253 (first ∷ [])) 0x41 refl
    (live_stopped 253 is_codabar is_codabar_end (λ ys. kind.Bars (barcode A Codabar ys)) (0x41 ∷ [])) (λ first starts.
    good_stopped 253 (GS ∷ 0x6B ∷ 6 ∷ first ∷ []) is_codabar is_codabar_end (λ ys. kind.Bars (barcode A Codabar ys)) (first ∷ []) refl (λ middle last few all stops.
    subst (λ v. Spells (kind.Bars (barcode A Codabar (first ∷ (middle ++ last ∷ [])))) (GS ∷ 0x6B ∷ 6 ∷ first ∷ v)) (append_assoc middle (last ∷ []) (0 ∷ []))
    (spelled_a Codabar (first ∷ (middle ++ last ∷ [])) 6 refl refl (codabar_is_content first middle last starts few all stops))))

-- ## All barcodes

leads_form_a : (s : Symbology) (xs : List ℕ) → has_form A s ≡ true → is_content s xs ≡ true
    → walk (branch barcodes none (barcode_mode A s)) (xs ++ 0 ∷ []) ≡ leaf (kind.Bars (barcode A s xs))
leads_form_a UpcA xs form h = leads_plain UpcA 12 upc_a xs h
leads_form_a UpcE xs form h = leads_upce xs h
leads_form_a Ean13 xs form h = leads_plain Ean13 13 ean13 xs h
leads_form_a Ean8 xs form h = leads_plain Ean8 8 ean8 xs h
leads_form_a Code39 xs form h = leads_plain Code39 255 code39 xs h
leads_form_a Itf xs form h = leads_plain Itf 254 itf xs h
leads_form_a Codabar xs form h = leads_codabar xs h
leads_form_a Code93 xs form h = absurd cc
leads_form_a Code128 xs form h = absurd cc
leads_form_a Gs1Code128 xs form h = absurd cc

form_b_there : (s : Symbology) → branch barcodes none (barcode_mode B s) ≡ form_b s
form_b_there UpcA = refl
form_b_there UpcE = refl
form_b_there Ean13 = refl
form_b_there Ean8 = refl
form_b_there Code39 = refl
form_b_there Itf = refl
form_b_there Codabar = refl
form_b_there Code93 = refl
form_b_there Code128 = refl
form_b_there Gs1Code128 = refl

-- The bytes of a barcode after GS k.
abbrev pub after_k : Form → Symbology → List ℕ → List ℕ
after_k f s xs = (barcode_mode f s ∷ sent_length f (length xs)) ++ xs ++ sent_suffix f

pub leads_barcode : (f : Form) (s : Symbology) (xs : List ℕ) → is_barcode (barcode f s xs) ≡ true → walk (node (branch barcodes none)) (after_k f s xs) ≡ leaf (kind.Bars (barcode f s xs))
leads_barcode A s xs h = leads_form_a s xs (and_left (has_form A s) (is_content s xs) h) (and_right (has_form A s) (is_content s xs) h)
leads_barcode B s xs h = ap (λ t. walk t (length xs ∷ (xs ++ []))) (form_b_there s) ∙ leads_form_b s xs h

pub good_barcodes : (m : ℕ) → Good (GS ∷ 0x6B ∷ m ∷ []) (branch barcodes none m)
good_barcodes =
    good_branch (GS ∷ 0x6B ∷ []) barcodes none (
      good_plain UpcA 12 0 refl upc_a,
      (
        good_upce,
        (
          good_plain Ean13 13 2 refl ean13,
          (
            good_plain Ean8 8 3 refl ean8,
            (
              good_plain Code39 255 4 refl code39,
              (
                good_plain Itf 254 5 refl itf,
                (
                  good_codabar,
                  (
                    good_form_b UpcA 65 11 refl refl,
                    (
                      good_form_b UpcE 66 6 refl refl,
                      (
                        good_form_b Ean13 67 12 refl refl,
                        (
                          good_form_b Ean8 68 7 refl refl,
                          (
                            good_form_b Code39 69 1 refl refl,
                            (
                              good_form_b Itf 70 2 refl refl,
                              (
                                good_form_b Codabar 71 2 refl refl,
                                (
                                  good_form_b Code93 72 1 refl refl,
                                  (
                                    good_form_b Code128 73 2 refl refl,
                                    (
                                      good_form_b Gs1Code128 74 2 refl refl,
                                      tt,
                                    ),
                                  ),
                                ),
                              ),
                            ),
                          ),
                        ),
                      ),
                    ),
                  ),
                ),
              ),
            ),
          ),
        ),
      ),
    )
    (λ _. tt)
