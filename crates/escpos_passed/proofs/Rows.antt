-- The rows of the table: their prefixes differ, and none begins a command of the command table, nor does such a command begin one of
-- them.
use Rattle.std.proofs.Common.{zero, suc, ◌≡◌, inl, inr, ℕ, ◌+◌, ◌*◌, ◌<◌, Bool, true, false, List, [], ◌∷◌, ◌++◌, length, refl, sym, ◌∙◌, ap, subst, arith, Option, None, Some}
use Rattle.std.specs.Prelude.{◌==◌, ◌&&◌, ◌||◌, if◌then◌else◌, not, IsTrue}
use Rattle.std.specs.List.{list_all}
use Rattle.std.proofs.lemmas.Bool.{or_cases, and_parts, eqb-true, eq-eqb}
use Rattle.std.proofs.lemmas.Bool.Decides.{nat_tests}
use Rattle.escpos_command.specs.declared.graphics.GraphicsForm.TheVariants.{Short, Long}
use Rattle.escpos_command.specs.Graphics.{counts_dots, fits_form, is_graphics_length, is_long_length, long_length}
use Rattle.escpos_command.specs.Tree.{Tree, dead, walk, grammar, all_planted, planted, settings, mark, passing, qr, qr_high, qr_code, qr_function, graphics, graphics_high, graphics_mode, graphics_function, long_second, long_third, these}
use Rattle.escpos_command.specs.Parameters.{is_byte}
use Rattle.escpos_command.specs.QrCodes.{is_qr_length}
use Rattle.escpos_command.specs.SettingTable as setting_table
use Rattle.escpos_command.proofs.TableTree.{form}
use Rattle.escpos_command.proofs.Walks.{walk-nil}
use Rattle.escpos_passed.specs.declared.table.Except.{Except}
use Rattle.escpos_passed.specs.declared.table.Except.TheVariants as except
use Rattle.escpos_passed.specs.declared.table.Row.{Row}
use Rattle.escpos_passed.specs.Table.{table, row_at, row_prefix, allows, is_graphics, is_long_graphics, may_allow}
use Rattle.escpos_passed.proofs.Strays.{strays, is_quiet, strays_more, strays_quiet, strays_on, quiet_on, strays_if, quiet_if, strays_unless}

-- ## Prefixes differ

-- One list begins the other.
abbrev clash : List ℕ → List ℕ → Bool
clash [] q = true
clash (a ∷ p) [] = true
clash (a ∷ p) (b ∷ q) = a == b && clash p q

itself : (a : ℕ) → (a == a) ≡ true
itself a = eq-eqb a a refl

abbrev differs_from : Row → Row → Bool
differs_from r s = not (clash (row_prefix r) (row_prefix s))

abbrev all_differ : List Row → Bool
all_differ [] = true
all_differ (r ∷ rows) = list_all (differs_from r) rows && all_differ rows

clash_of : (p q x y : List ℕ) → p ++ x ≡ q ++ y → clash p q ≡ true
clash_of [] q x y e = refl
clash_of (a ∷ p) [] x y e = refl
clash_of (a ∷ p) (b ∷ q) x y e =
    let same : a ≡ b = cc in
    let rest : p ++ x ≡ q ++ y = cc in
    ap (λ v. (a == v) && clash p q) (sym same) ∙ ap (λ v. v && clash p q) (itself a) ∙ clash_of p q x y rest

at_all : (test : Row → Bool) (rows : List Row) (i : ℕ) → list_all test rows ≡ true → i < length rows → test (row_at rows i) ≡ true
at_all test [] i h k = absurd (omega arith)
at_all test (r ∷ rows) zero h k = (and_parts (test r) (list_all test rows) h).0
at_all test (r ∷ rows) (suc i) h k = at_all test rows i (and_parts (test r) (list_all test rows) h).1 (omega (arith, k))

never : (b : Bool) → b ≡ true → not b ≡ true → ⊥
never true e h = absurd cc
never false e h = absurd cc

clash_turned : (p q : List ℕ) → clash p q ≡ true → clash q p ≡ true
clash_turned [] [] h = refl
clash_turned [] (b ∷ q) h = refl
clash_turned (a ∷ p) [] h = refl
clash_turned (a ∷ p) (b ∷ q) h =
    let parts = and_parts (a == b) (clash p q) h in
    let same : a ≡ b = eqb-true a b parts.0 in
    ap (λ v. (v == a) && clash q p) (sym same) ∙ ap (λ v. v && clash q p) (itself a) ∙ clash_turned p q parts.1

one_of : (rows : List Row) (i j : ℕ) → all_differ rows ≡ true → i < length rows → j < length rows
    → clash (row_prefix (row_at rows i)) (row_prefix (row_at rows j)) ≡ true → i ≡ j
one_of [] i j d h k c = absurd (omega arith)
one_of (r ∷ rows) zero zero d h k c = refl
one_of (r ∷ rows) zero (suc j) d h k c =
    let parts = and_parts (list_all (differs_from r) rows) (all_differ rows) d in
    absurd (never (clash (row_prefix r) (row_prefix (row_at rows j))) c (at_all (differs_from r) rows j parts.0 (omega (arith, k))))
one_of (r ∷ rows) (suc i) zero d h k c =
    let parts = and_parts (list_all (differs_from r) rows) (all_differ rows) d in
    absurd (never (clash (row_prefix r) (row_prefix (row_at rows i))) (clash_turned (row_prefix (row_at rows i)) (row_prefix r) c) (at_all (differs_from r) rows i parts.0 (omega (arith, h))))
one_of (r ∷ rows) (suc i) (suc j) d h k c =
    let parts = and_parts (list_all (differs_from r) rows) (all_differ rows) d in
    ap suc (one_of rows i j parts.1 (omega (arith, h)) (omega (arith, k)) c)

table_differs : all_differ table ≡ true
unfolding table
table_differs = refl

-- Bytes that begin with the prefixes of two rows begin with that of one.
pub one_row : (i j : ℕ) (x y : List ℕ) → i < length table → j < length table → row_prefix (row_at table i) ++ x ≡ row_prefix (row_at table j) ++ y → i ≡ j
one_row i j x y h k e = one_of table i j table_differs h k (clash_of (row_prefix (row_at table i)) (row_prefix (row_at table j)) x y e)

-- ## The command table has none of them

-- The letters of GS ( H, GS ( k, GS ( L and GS 8 L, of which the command table has functions.
abbrev mark_letters : List ℕ
mark_letters = 0x1D ∷ 0x28 ∷ 0x48 ∷ []

abbrev qr_letters : List ℕ
qr_letters = 0x1D ∷ 0x28 ∷ 0x6B ∷ []

abbrev short_letters : List ℕ
short_letters = 0x1D ∷ 0x28 ∷ 0x4C ∷ []

abbrev long_letters : List ℕ
long_letters = 0x1D ∷ 0x38 ∷ 0x4C ∷ []

abbrev same_bytes : List ℕ → List ℕ → Bool
same_bytes [] [] = true
same_bytes [] (b ∷ q) = false
same_bytes (a ∷ p) [] = false
same_bytes (a ∷ p) (b ∷ q) = a == b && same_bytes p q

abbrev excepts_first : Option Except → ℕ → Bool
excepts_first (Some (except.First code)) n = code == n
excepts_first _ n = false

abbrev excepts_graphics : Option Except → Bool
excepts_graphics (Some except.Graphics) = true
excepts_graphics _ = false

abbrev excepts_long_graphics : Option Except → Bool
excepts_long_graphics (Some except.LongGraphics) = true
excepts_long_graphics _ = false

abbrev is_first_apart : Row → List ℕ → ℕ → Bool
is_first_apart r letters n = same_bytes (row_prefix r) letters && excepts_first r.except n

abbrev is_short_apart : Row → Bool
is_short_apart r = same_bytes (row_prefix r) short_letters && excepts_graphics r.except

abbrev is_long_apart : Row → Bool
is_long_apart r = same_bytes (row_prefix r) long_letters && excepts_long_graphics r.except

abbrev is_apart : Row → Bool
is_apart r = strays grammar (row_prefix r) || (is_first_apart r mark_letters 0x30 || (is_first_apart r qr_letters 0x31 || (is_short_apart r || is_long_apart r)))

table_apart : list_all is_apart table ≡ true
unfolding table grammar all_planted planted settings setting_table.table
table_apart = refl

same_list : (p q : List ℕ) → same_bytes p q ≡ true → p ≡ q
same_list [] [] h = refl
same_list [] (b ∷ q) h = absurd cc
same_list (a ∷ p) [] h = absurd cc
same_list (a ∷ p) (b ∷ q) h =
    let parts = and_parts (a == b) (same_bytes p q) h in
    ap (λ v. v ∷ p) (eqb-true a b parts.0) ∙ ap (λ v. b ∷ v) (same_list p q parts.1)

excepted_first : (e : Option Except) (n : ℕ) → excepts_first e n ≡ true → e ≡ Some (except.First n)
excepted_first None n h = absurd cc
excepted_first (Some (except.First code)) n h = ap (λ v. Some (except.First v)) (eqb-true code n h)
excepted_first (Some except.Graphics) n h = absurd cc
excepted_first (Some except.LongGraphics) n h = absurd cc

excepted_graphics : (e : Option Except) → excepts_graphics e ≡ true → e ≡ Some except.Graphics
excepted_graphics None h = absurd cc
excepted_graphics (Some (except.First code)) h = absurd cc
excepted_graphics (Some except.Graphics) h = refl
excepted_graphics (Some except.LongGraphics) h = absurd cc

excepted_long_graphics : (e : Option Except) → excepts_long_graphics e ≡ true → e ≡ Some except.LongGraphics
excepted_long_graphics None h = absurd cc
excepted_long_graphics (Some (except.First code)) h = absurd cc
excepted_long_graphics (Some except.Graphics) h = absurd cc
excepted_long_graphics (Some except.LongGraphics) h = refl

data Apart (r : Row) : Type 0 where
  strays_there : strays grammar (row_prefix r) ≡ true → Apart r
  by_function : row_prefix r ≡ mark_letters → r.except ≡ Some (except.First 0x30) → Apart r
  by_code : row_prefix r ≡ qr_letters → r.except ≡ Some (except.First 0x31) → Apart r
  by_short : row_prefix r ≡ short_letters → r.except ≡ Some except.Graphics → Apart r
  by_long : row_prefix r ≡ long_letters → r.except ≡ Some except.LongGraphics → Apart r

apart_graphics : (r : Row) → is_short_apart r || is_long_apart r ≡ true → Apart r
apart_graphics r h = elim (or_cases (is_short_apart r) (is_long_apart r) h) [
  | inl e ↦
      let parts = and_parts (same_bytes (row_prefix r) short_letters) (excepts_graphics r.except) e in
      by_short (same_list (row_prefix r) short_letters parts.0) (excepted_graphics r.except parts.1)
  | inr e ↦
      let parts = and_parts (same_bytes (row_prefix r) long_letters) (excepts_long_graphics r.except) e in
      by_long (same_list (row_prefix r) long_letters parts.0) (excepted_long_graphics r.except parts.1)
]

apart_by : (r : Row) → is_apart r ≡ true → Apart r
apart_by r h = elim (or_cases (strays grammar (row_prefix r)) _ h) [
  | inl e ↦ strays_there e
  | inr e ↦ elim (or_cases (is_first_apart r mark_letters 0x30) _ e) [
    | inl m ↦
        let parts = and_parts (same_bytes (row_prefix r) mark_letters) (excepts_first r.except 0x30) m in
        by_function (same_list (row_prefix r) mark_letters parts.0) (excepted_first r.except 0x30 parts.1)
    | inr f ↦ elim (or_cases (is_first_apart r qr_letters 0x31) (is_short_apart r || is_long_apart r) f) [
      | inl q ↦
          let parts = and_parts (same_bytes (row_prefix r) qr_letters) (excepts_first r.except 0x31) q in
          by_code (same_list (row_prefix r) qr_letters parts.0) (excepted_first r.except 0x31 parts.1)
      | inr g ↦ apart_graphics r g
    ]
  ]
]

not_true : (b : Bool) → not b ≡ true → b ≡ false
not_true true h = absurd cc
not_true false h = refl

-- Functions of GS ( H other than 48.
mark_there : walk grammar mark_letters ≡ mark
mark_there = form mark_letters [] refl ∙ walk-nil mark

mark_strays : (bs : List ℕ) → IsTrue (allows (Some (except.First 0x30)) bs) → strays mark bs ≡ true
mark_strays [] h = absurd cc
mark_strays (low ∷ []) h = absurd cc
mark_strays (low ∷ high ∷ []) h = absurd cc
mark_strays (low ∷ high ∷ b ∷ bs) h =
    strays_if (low == 0x06) _ (high ∷ b ∷ bs) (strays_if (high == 0x00) _ (b ∷ bs) (strays_unless (b == 0x30) _ bs (not_true (b == 0x30) h)))

mark_quiet : (bs : List ℕ) → IsTrue (may_allow (Some (except.First 0x30)) bs) → is_quiet mark bs ≡ true
mark_quiet [] h = refl
mark_quiet (low ∷ []) h = quiet_if (low == 0x06) _ [] refl
mark_quiet (low ∷ high ∷ []) h = quiet_if (low == 0x06) _ (high ∷ []) (quiet_if (high == 0x00) _ [] refl)
mark_quiet (low ∷ high ∷ b ∷ bs) h = strays_quiet mark (low ∷ high ∷ b ∷ bs) (mark_strays (low ∷ high ∷ b ∷ bs) h)

-- Functions of GS ( k for other codes than QR.
qr_there : walk grammar qr_letters ≡ qr
qr_there = form qr_letters [] refl ∙ walk-nil qr

qr_strays : (bs : List ℕ) → IsTrue (allows (Some (except.First 0x31)) bs) → strays qr bs ≡ true
qr_strays [] h = absurd cc
qr_strays (low ∷ []) h = absurd cc
qr_strays (low ∷ high ∷ []) h = absurd cc
qr_strays (low ∷ high ∷ b ∷ bs) h =
    strays_if (is_byte low) (qr_high low) (high ∷ b ∷ bs) (strays_if (is_qr_length low high) (qr_code (low + 256 * high)) (b ∷ bs) (strays_unless (b == 0x31) (qr_function (low + 256 * high)) bs (not_true (b == 0x31) h)))

qr_quiet : (bs : List ℕ) → IsTrue (may_allow (Some (except.First 0x31)) bs) → is_quiet qr bs ≡ true
qr_quiet [] h = refl
qr_quiet (low ∷ []) h = quiet_if (is_byte low) (qr_high low) [] refl
qr_quiet (low ∷ high ∷ []) h = quiet_if (is_byte low) (qr_high low) (high ∷ []) (quiet_if (is_qr_length low high) (qr_code (low + 256 * high)) [] refl)
qr_quiet (low ∷ high ∷ b ∷ bs) h = strays_quiet qr (low ∷ high ∷ b ∷ bs) (qr_strays (low ∷ high ∷ b ∷ bs) h)

-- Functions of GS ( L and GS 8 L that aren't taken.
both_false : (a b : Bool) → a || b ≡ false → (a ≡ false) × (b ≡ false)
both_false true b h = absurd cc
both_false false b h = (refl, h)

strays_else : (test : Bool) (t u : Tree) (r : List ℕ) → test ≡ false → strays u r ≡ true → strays (if test then t else u) r ≡ true
strays_else true t u r e s = absurd cc
strays_else false t u r e s = s

strays_either : (test : Bool) (t u : Tree) (r : List ℕ) → strays t r ≡ true → strays u r ≡ true → strays (if test then t else u) r ≡ true
strays_either true t u r s k = s
strays_either false t u r s k = k

strays_where : (test : Bool) (t : Tree) (r : List ℕ) → (test ≡ true → strays t r ≡ true) → strays (if test then t else dead) r ≡ true
strays_where true t r s = s refl
strays_where false t r s = refl

strays_with : (test rest : Bool) (t : Tree) (r : List ℕ) → test && rest ≡ false → (rest ≡ false → strays t r ≡ true) → strays (if test then t else dead) r ≡ true
strays_with true rest t r h s = s h
strays_with false rest t r h s = refl

short_function_strays : (n fn : ℕ) (bs : List ℕ) → fn == 0x02 || fn == 0x32 || fn == 0x70 ≡ false → strays (graphics_function Short n) (fn ∷ bs) ≡ true
short_function_strays n fn bs h =
    let last = both_false (fn == 0x02 || fn == 0x32) (fn == 0x70) h in
    let prints = both_false (fn == 0x02) (fn == 0x32) last.0 in
    strays_else (fn == 0x02) _ _ bs prints.0 (strays_else (fn == 0x32) _ _ bs prints.1 (strays_else (fn == 0x70) _ _ bs last.1 refl))

long_function_strays : (n fn : ℕ) (bs : List ℕ) → (n == 2) ≡ false → (fn == 0x70) ≡ false → strays (graphics_function Long n) (fn ∷ bs) ≡ true
long_function_strays n fn bs two h =
    strays_either (fn == 0x02) _ _ bs (strays_unless (n == 2) _ bs two)
    (strays_either (fn == 0x32) _ _ bs (strays_unless (n == 2) _ bs two) (strays_else (fn == 0x70) _ _ bs h refl))

no_print_length : (n : ℕ) → is_long_length n ≡ true → (n == 2) ≡ false
no_print_length n h =
    let parts = and_parts (counts_dots n) (fits_form Long n) h in
    grind (arith, nat_tests)

short_there : walk grammar short_letters ≡ graphics
short_there = form short_letters [] refl ∙ walk-nil graphics

short_strays : (bs : List ℕ) → IsTrue (allows (Some except.Graphics) bs) → strays graphics bs ≡ true
short_strays [] h = absurd cc
short_strays (low ∷ []) h = absurd cc
short_strays (low ∷ high ∷ []) h = absurd cc
short_strays (low ∷ high ∷ m ∷ []) h = absurd cc
short_strays (low ∷ high ∷ m ∷ fn ∷ bs) h =
    let n = low + 256 * high in
    strays_if (is_byte low) (graphics_high low) (high ∷ m ∷ fn ∷ bs)
    (strays_if (is_byte high && is_graphics_length n) (graphics_mode Short n) (m ∷ fn ∷ bs)
    (strays_with (m == 0x30) _ (graphics_function Short n) (fn ∷ bs) (not_true (is_graphics m fn) h) (short_function_strays n fn bs)))

short_quiet : (bs : List ℕ) → IsTrue (may_allow (Some except.Graphics) bs) → is_quiet graphics bs ≡ true
short_quiet [] h = refl
short_quiet (low ∷ []) h = quiet_if (is_byte low) (graphics_high low) [] refl
short_quiet (low ∷ high ∷ []) h =
    quiet_if (is_byte low) (graphics_high low) (high ∷ []) (quiet_if (is_byte high && is_graphics_length (low + 256 * high)) (graphics_mode Short (low + 256 * high)) [] refl)
short_quiet (low ∷ high ∷ m ∷ []) h =
    let n = low + 256 * high in
    quiet_if (is_byte low) (graphics_high low) (high ∷ m ∷ [])
    (quiet_if (is_byte high && is_graphics_length n) (graphics_mode Short n) (m ∷ []) (quiet_if (m == 0x30) (graphics_function Short n) [] refl))
short_quiet (low ∷ high ∷ m ∷ fn ∷ bs) h = strays_quiet graphics (low ∷ high ∷ m ∷ fn ∷ bs) (short_strays (low ∷ high ∷ m ∷ fn ∷ bs) h)

abbrev long_first : Tree
long_first = passing is_byte long_second

long_there : walk grammar long_letters ≡ long_first
long_there = form (0x1D ∷ 0x38 ∷ []) (0x4C ∷ []) refl ∙ walk-nil long_first

long_strays : (bs : List ℕ) → IsTrue (allows (Some except.LongGraphics) bs) → strays long_first bs ≡ true
long_strays [] h = absurd cc
long_strays (first ∷ []) h = absurd cc
long_strays (first ∷ second ∷ []) h = absurd cc
long_strays (first ∷ second ∷ third ∷ []) h = absurd cc
long_strays (first ∷ second ∷ third ∷ fourth ∷ []) h = absurd cc
long_strays (first ∷ second ∷ third ∷ fourth ∷ m ∷ []) h = absurd cc
long_strays (first ∷ second ∷ third ∷ fourth ∷ m ∷ fn ∷ bs) h =
    let n = long_length first second third in
    strays_if (is_byte first) (long_second first) (second ∷ third ∷ fourth ∷ m ∷ fn ∷ bs)
    (strays_if (is_byte second) (long_third first second) (third ∷ fourth ∷ m ∷ fn ∷ bs)
    (strays_where (is_long_length n) (these (0x00 ∷ []) (graphics_mode Long n)) (fourth ∷ m ∷ fn ∷ bs) (λ fits.
    strays_if (fourth == 0x00) (graphics_mode Long n) (m ∷ fn ∷ bs)
    (strays_with (m == 0x30) (fn == 0x70) (graphics_function Long n) (fn ∷ bs) (not_true (is_long_graphics m fn) h)
    (long_function_strays n fn bs (no_print_length n fits))))))

quiet_first : (first : ℕ) (bs : List ℕ) → is_quiet (long_second first) bs ≡ true → is_quiet long_first (first ∷ bs) ≡ true
quiet_first first bs s = quiet_if (is_byte first) (long_second first) bs s

quiet_second : (first second : ℕ) (bs : List ℕ) → is_quiet (long_third first second) bs ≡ true → is_quiet long_first (first ∷ second ∷ bs) ≡ true
quiet_second first second bs s = quiet_first first (second ∷ bs) (quiet_if (is_byte second) (long_third first second) bs s)

quiet_third : (first second third : ℕ) (bs : List ℕ) → is_quiet (these (0x00 ∷ []) (graphics_mode Long (long_length first second third))) bs ≡ true
    → is_quiet long_first (first ∷ second ∷ third ∷ bs) ≡ true
quiet_third first second third bs s =
    quiet_second first second (third ∷ bs) (quiet_if (is_long_length (long_length first second third)) (these (0x00 ∷ []) (graphics_mode Long (long_length first second third))) bs s)

long_quiet : (bs : List ℕ) → IsTrue (may_allow (Some except.LongGraphics) bs) → is_quiet long_first bs ≡ true
long_quiet [] h = refl
long_quiet (first ∷ []) h = quiet_first first [] refl
long_quiet (first ∷ second ∷ []) h = quiet_second first second [] refl
long_quiet (first ∷ second ∷ third ∷ []) h = quiet_third first second third [] refl
long_quiet (first ∷ second ∷ third ∷ fourth ∷ []) h =
    quiet_third first second third (fourth ∷ []) (quiet_if (fourth == 0x00) (graphics_mode Long (long_length first second third)) [] refl)
long_quiet (first ∷ second ∷ third ∷ fourth ∷ m ∷ []) h =
    let n = long_length first second third in
    quiet_third first second third (fourth ∷ m ∷ []) (quiet_if (fourth == 0x00) (graphics_mode Long n) (m ∷ []) (quiet_if (m == 0x30) (graphics_function Long n) [] refl))
long_quiet (first ∷ second ∷ third ∷ fourth ∷ m ∷ fn ∷ bs) h =
    strays_quiet long_first (first ∷ second ∷ third ∷ fourth ∷ m ∷ fn ∷ bs) (long_strays (first ∷ second ∷ third ∷ fourth ∷ m ∷ fn ∷ bs) h)

apart_at : (i : ℕ) → i < length table → Apart (row_at table i)
apart_at i h = apart_by (row_at table i) (at_all is_apart table i table_apart h)

row_strays : (r : Row) (bs : List ℕ) → Apart r → IsTrue (allows r.except bs) → strays grammar (row_prefix r ++ bs) ≡ true
row_strays r bs (strays_there s) h = strays_more grammar (row_prefix r) bs s
row_strays r bs (by_function e x) h =
    subst (λ p. strays grammar (p ++ bs) ≡ true) (sym e) (strays_on grammar mark_letters bs _ mark_there (mark_strays bs (subst (λ o. IsTrue (allows o bs)) x h)))
row_strays r bs (by_code e x) h =
    subst (λ p. strays grammar (p ++ bs) ≡ true) (sym e) (strays_on grammar qr_letters bs _ qr_there (qr_strays bs (subst (λ o. IsTrue (allows o bs)) x h)))
row_strays r bs (by_short e x) h =
    subst (λ p. strays grammar (p ++ bs) ≡ true) (sym e) (strays_on grammar short_letters bs _ short_there (short_strays bs (subst (λ o. IsTrue (allows o bs)) x h)))
row_strays r bs (by_long e x) h =
    subst (λ p. strays grammar (p ++ bs) ≡ true) (sym e) (strays_on grammar long_letters bs _ long_there (long_strays bs (subst (λ o. IsTrue (allows o bs)) x h)))

row_quiet : (r : Row) (bs : List ℕ) → Apart r → IsTrue (may_allow r.except bs) → is_quiet grammar (row_prefix r ++ bs) ≡ true
row_quiet r bs (strays_there s) h = strays_quiet grammar (row_prefix r ++ bs) (strays_more grammar (row_prefix r) bs s)
row_quiet r bs (by_function e x) h =
    subst (λ p. is_quiet grammar (p ++ bs) ≡ true) (sym e) (quiet_on grammar mark_letters bs _ mark_there (mark_quiet bs (subst (λ o. IsTrue (may_allow o bs)) x h)))
row_quiet r bs (by_code e x) h =
    subst (λ p. is_quiet grammar (p ++ bs) ≡ true) (sym e) (quiet_on grammar qr_letters bs _ qr_there (qr_quiet bs (subst (λ o. IsTrue (may_allow o bs)) x h)))
row_quiet r bs (by_short e x) h =
    subst (λ p. is_quiet grammar (p ++ bs) ≡ true) (sym e) (quiet_on grammar short_letters bs _ short_there (short_quiet bs (subst (λ o. IsTrue (may_allow o bs)) x h)))
row_quiet r bs (by_long e x) h =
    subst (λ p. is_quiet grammar (p ++ bs) ≡ true) (sym e) (quiet_on grammar long_letters bs _ long_there (long_quiet bs (subst (λ o. IsTrue (may_allow o bs)) x h)))

-- What follows the prefix of a row of the table leads to no command, nor does a part of it.
pub strays_at : (i : ℕ) (bs : List ℕ) → i < length table → IsTrue (allows (row_at table i).except bs) → strays grammar (row_prefix (row_at table i) ++ bs) ≡ true
strays_at i bs h a = row_strays (row_at table i) bs (apart_at i h) a

pub quiet_at : (i : ℕ) (bs : List ℕ) → i < length table → IsTrue (may_allow (row_at table i).except bs) → is_quiet grammar (row_prefix (row_at table i) ++ bs) ≡ true
quiet_at i bs h a = row_quiet (row_at table i) bs (apart_at i h) a
