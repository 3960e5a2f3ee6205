-- Graphics in the tree: their spellings lead to them, and their part of the tree is good.
use Rattle.std.proofs.Common.{◌≡◌, ◌<◌, ◌≤◌, ℕ, ◌+◌, ◌-◌, ◌*◌, ◌/◌, ◌%◌, List, [], ◌∷◌, ◌++◌, refl, ◌∙◌, ap, sym, subst, arith, Bool, true, false, length, append-nil, append_assoc, cond}
use Rattle.std.specs.Prelude.{◌==◌, ◌&&◌, ◌||◌, nat_le}
use Rattle.std.specs.List.{list_all}
use Rattle.std.proofs.lemmas.Bool.Decides.{nat_tests}
use Rattle.escpos_command.specs.declared.bytes.TheConstants.{GS}
use Rattle.escpos_command.specs.declared.command.Command.{Command}
use Rattle.escpos_command.specs.declared.command.Command.TheVariants as kind
use Rattle.escpos_command.specs.declared.graphics.GraphicsForm.{GraphicsForm}
use Rattle.escpos_command.specs.declared.graphics.GraphicsForm.TheVariants.{Short, Long}
use Rattle.escpos_command.specs.Parameters.{is_byte, is_graphics_factor, is_graphics_print}
use Rattle.escpos_command.specs.Rasters.{is_height}
use Rattle.escpos_command.specs.Graphics.{StoredPicture, stored_picture, is_graphics, is_graphics_width, has_factors, has_length, fits_form, counts_dots, is_graphics_length, is_long_length, long_length}
use Rattle.escpos_command.specs.CommandTable.{Spells, row}
use Rattle.escpos_command.specs.Tree.{leaf, dead, walk, passing, these, none, branch, graphics, graphics_high, graphics_mode, graphics_function, graphics_functions, graphics_tone, graphics_across, graphics_down, graphics_color, graphics_width, graphics_width_high, graphics_height, graphics_height_high, graphics_dots, graphics_head, long_graphics, long_second, long_third}
use Rattle.escpos_command.proofs.Walks.{Good, IsLive}
use Rattle.escpos_command.proofs.Combinators.{good_choice, good_passing, good_branch, good_these, good_counted, walk-counted, live_choice, live_counted, all_from_all, and_left, and_right, both, same_number, at_row}

-- ## Spellings lead

-- The parts of the range.
record InRange (form : GraphicsForm) (across down width height : ℕ) (dots : List ℕ) : Type 0 where
  across_in : is_graphics_factor across ≡ true
  down_in : is_graphics_factor down ≡ true
  width_in : is_graphics_width width ≡ true
  height_in : is_height height ≡ true
  some : nat_le 1 (length dots) ≡ true
  fits : fits_form form (length dots + 10) ≡ true
  bytes : list_all is_byte dots ≡ true

abbrev pub picture_of : GraphicsForm → ℕ → ℕ → ℕ → ℕ → List ℕ → StoredPicture
picture_of form across down width height dots = stored_picture (graphics_head form across down width height) dots

in_range : (form : GraphicsForm) (across down width height : ℕ) (dots : List ℕ) → is_graphics (picture_of form across down width height dots) ≡ true
    → InRange form across down width height dots
in_range form across down width height dots h =
    let p = picture_of form across down width height dots in
    let a = and_left (has_factors p && is_graphics_width width && is_height height && has_length p) (list_all is_byte dots) h in
    let b = and_left (has_factors p && is_graphics_width width && is_height height) (has_length p) a in
    let c = and_left (has_factors p && is_graphics_width width) (is_height height) b in
    let factors = and_left (has_factors p) (is_graphics_width width) c in
    let long = and_right (has_factors p && is_graphics_width width && is_height height) (has_length p) a in
    record {
      across_in = and_left (is_graphics_factor across) (is_graphics_factor down) factors;
      down_in = and_right (is_graphics_factor across) (is_graphics_factor down) factors;
      width_in = and_right (has_factors p) (is_graphics_width width) c;
      height_in = and_right (has_factors p && is_graphics_width width) (is_height height) b;
      some = and_left (nat_le 1 (length dots)) (fits_form form (length dots + 10)) long;
      fits = and_right (nat_le 1 (length dots)) (fits_form form (length dots + 10)) long;
      bytes = and_right (has_factors p && is_graphics_width width && is_height height && has_length p) (list_all is_byte dots) h;
    }

low_byte : (n : ℕ) → is_byte (n % 256) ≡ true
low_byte n = let small : n % 256 < 256 = omega arith in grind (arith, nat_tests)

word_again : (n : ℕ) → n % 256 + 256 * (n / 256) ≡ n
word_again n = omega arith

-- From the factors on.
leads_sized : (form : GraphicsForm) (count a d lx hx x ly hy y : ℕ) (dots : List ℕ) → is_graphics_factor a ≡ true → is_graphics_factor d ≡ true
    → is_byte lx ≡ true → lx + 256 * hx ≡ x → is_graphics_width x ≡ true → is_byte ly ≡ true → ly + 256 * hy ≡ y → is_height y ≡ true
    → length dots ≡ count → list_all is_byte dots ≡ true
    → walk (graphics_across form count) (a ∷ d ∷ 0x31 ∷ lx ∷ hx ∷ ly ∷ hy ∷ dots) ≡ leaf (kind.GraphicsStore (picture_of form a d x y dots))
leads_sized form count a d lx hx x ly hy y dots fa fd bx ex wx by ey wy long all =
    ap (λ v. walk (cond v (graphics_down form count a) dead) (d ∷ 0x31 ∷ lx ∷ hx ∷ ly ∷ hy ∷ dots)) fa
    ∙ ap (λ v. walk (cond v (graphics_color form count a d) dead) (0x31 ∷ lx ∷ hx ∷ ly ∷ hy ∷ dots)) fd
    ∙ ap (λ v. walk (cond v (graphics_width_high form count a d lx) dead) (hx ∷ ly ∷ hy ∷ dots)) bx
    ∙ ap (λ v. walk (cond v (graphics_height form count a d (lx + 256 * hx)) dead) (ly ∷ hy ∷ dots)) (ap is_graphics_width ex ∙ wx)
    ∙ ap (λ v. walk (graphics_height form count a d v) (ly ∷ hy ∷ dots)) ex
    ∙ ap (λ v. walk (cond v (graphics_height_high form count a d x ly) dead) (hy ∷ dots)) by
    ∙ ap (λ v. walk (cond v (graphics_dots (graphics_head form a d x (ly + 256 * hy)) count []) dead) dots) (ap is_height ey ∙ wy)
    ∙ ap (λ v. walk (graphics_dots (graphics_head form a d x v) count []) dots) ey
    ∙ walk-counted count (λ _. is_byte) (λ xs. kind.GraphicsStore (picture_of form a d x y xs)) [] dots long (all_from_all 0 is_byte dots ∙ all)

-- From the function on.
not_two : (n : ℕ) → nat_le 1 n ≡ true → (n + 10 == 2) ≡ false
not_two n h = grind (arith, nat_tests)

leads_function : (form : GraphicsForm) (n across down width height : ℕ) (dots : List ℕ) → n ≡ length dots + 10 → InRange form across down width height dots
    → walk (graphics_function form n) (0x70 ∷ 0x30 ∷ across ∷ down ∷ 0x31 ∷ width % 256 ∷ width / 256 ∷ height % 256 ∷ height / 256 ∷ (dots ++ []))
    ≡ leaf (kind.GraphicsStore (picture_of form across down width height dots))
leads_function form n across down width height dots e r =
    let rest = across ∷ down ∷ 0x31 ∷ width % 256 ∷ width / 256 ∷ height % 256 ∷ height / 256 ∷ (dots ++ []) in
    ap (λ v. walk (cond v dead (graphics_tone form (n - 10))) (0x30 ∷ rest)) (ap (λ m. m == 2) e ∙ not_two (length dots) r.some)
    ∙ ap (λ v. walk (graphics_across form (n - 10)) (across ∷ down ∷ 0x31 ∷ width % 256 ∷ width / 256 ∷ height % 256 ∷ height / 256 ∷ v)) (append-nil dots)
    ∙ leads_sized form (n - 10) across down (width % 256) (width / 256) width (height % 256) (height / 256) height dots r.across_in r.down_in
    (low_byte width) (word_again width) r.width_in (low_byte height) (word_again height) r.height_in (omega (arith, e)) r.bytes

-- The lengths.
either_right : (a b : Bool) → b ≡ true → (a || b) ≡ true
either_right true b h = refl
either_right false b h = h

short_high : (low high n : ℕ) → low + 256 * high ≡ n + 10 → nat_le 1 n ≡ true → nat_le (n + 10) 65535 ≡ true
    → (is_byte high && is_graphics_length (low + 256 * high)) ≡ true
short_high low high n e some fits =
    let most : n + 10 ≤ 65535 = grind (arith, nat_tests) in
    let least : 1 ≤ n = grind (arith, nat_tests) in
    let small : high < 256 = omega arith in
    let byte : is_byte high ≡ true = grind (arith, nat_tests) in
    let many : 11 ≤ low + 256 * high = omega arith in
    let counts : counts_dots (low + 256 * high) ≡ true = grind (arith, nat_tests) in
    both _ _ byte (either_right (low + 256 * high == 2) (counts_dots (low + 256 * high)) counts)

pub leads_short : (across down width height : ℕ) (dots : List ℕ) → is_graphics (picture_of Short across down width height dots) ≡ true
    → walk graphics ((length dots + 10) % 256 ∷ (length dots + 10) / 256 ∷ 0x30 ∷ 0x70 ∷ 0x30 ∷ across ∷ down ∷ 0x31 ∷ width % 256 ∷ width / 256
    ∷ height % 256 ∷ height / 256 ∷ (dots ++ [])) ≡ leaf (kind.GraphicsStore (picture_of Short across down width height dots))
leads_short across down width height dots h =
    let r = in_range Short across down width height dots h in
    let low = (length dots + 10) % 256 in
    let high = (length dots + 10) / 256 in
    let rest = 0x30 ∷ 0x70 ∷ 0x30 ∷ across ∷ down ∷ 0x31 ∷ width % 256 ∷ width / 256 ∷ height % 256 ∷ height / 256 ∷ (dots ++ []) in
    ap (λ v. walk (cond v (graphics_high low) dead) (high ∷ rest)) (low_byte (length dots + 10))
    ∙ ap (λ v. walk (cond v (graphics_mode Short (low + 256 * high)) dead) rest) (short_high low high (length dots) (word_again (length dots + 10)) r.some r.fits)
    ∙ leads_function Short (low + 256 * high) across down width height dots (word_again (length dots + 10)) r

record LongIs (n : ℕ) : Type 0 where
  first : is_byte (n % 256) ≡ true
  second : is_byte (n / 256 % 256) ≡ true
  whole : long_length (n % 256) (n / 256 % 256) (n / 65536 % 256) ≡ n
  last : n / 16777216 ≡ 0
  long : is_long_length n ≡ true

long_is : (n : ℕ) → nat_le 1 n ≡ true → nat_le (n + 10) 524170 ≡ true → LongIs (n + 10)
long_is n some fits =
    let most : n + 10 ≤ 524170 = grind (arith, nat_tests) in
    let least : 1 ≤ n = grind (arith, nat_tests) in
    let counts : counts_dots (n + 10) ≡ true = grind (arith, nat_tests) in
    record {
      first = low_byte (n + 10);
      second = low_byte ((n + 10) / 256);
      whole = omega arith;
      last = omega arith;
      long = both _ _ counts fits;
    }

pub leads_long : (across down width height : ℕ) (dots : List ℕ) → is_graphics (picture_of Long across down width height dots) ≡ true
    → walk long_graphics (0x4C ∷ (length dots + 10) % 256 ∷ (length dots + 10) / 256 % 256 ∷ (length dots + 10) / 65536 % 256 ∷ (length dots + 10) / 16777216
    ∷ 0x30 ∷ 0x70 ∷ 0x30 ∷ across ∷ down ∷ 0x31 ∷ width % 256 ∷ width / 256 ∷ height % 256 ∷ height / 256 ∷ (dots ++ []))
    ≡ leaf (kind.GraphicsStore (picture_of Long across down width height dots))
leads_long across down width height dots h =
    let r = in_range Long across down width height dots h in
    let n = length dots + 10 in
    let l = long_is (length dots) r.some r.fits in
    let rest = 0x30 ∷ 0x70 ∷ 0x30 ∷ across ∷ down ∷ 0x31 ∷ width % 256 ∷ width / 256 ∷ height % 256 ∷ height / 256 ∷ (dots ++ []) in
    let first = n % 256 in
    let second = n / 256 % 256 in
    let third = n / 65536 % 256 in
    ap (λ v. walk long_graphics (0x4C ∷ first ∷ second ∷ third ∷ v ∷ rest)) l.last
    ∙ ap (λ v. walk (cond v (long_second first) dead) (second ∷ third ∷ 0x00 ∷ rest)) l.first
    ∙ ap (λ v. walk (cond v (long_third first second) dead) (third ∷ 0x00 ∷ rest)) l.second
    ∙ ap (λ v. walk (cond v (these (0x00 ∷ []) (graphics_mode Long (long_length first second third))) dead) (0x00 ∷ rest)) (ap is_long_length l.whole ∙ l.long)
    ∙ leads_function Long (long_length first second third) across down width height dots l.whole r

-- The print.
print_by : (fn : ℕ) (s t : Bool) → (fn == 2) ≡ s → (fn == 50) ≡ t → (s || t) ≡ true
    → walk graphics (0x02 ∷ 0x00 ∷ 0x30 ∷ fn ∷ []) ≡ leaf (kind.GraphicsPrint fn)
print_by fn true t e f o = subst (λ x. walk graphics (0x02 ∷ 0x00 ∷ 0x30 ∷ x ∷ []) ≡ leaf (kind.GraphicsPrint x)) (sym (same_number fn 2 e)) refl
print_by fn false true e f o = subst (λ x. walk graphics (0x02 ∷ 0x00 ∷ 0x30 ∷ x ∷ []) ≡ leaf (kind.GraphicsPrint x)) (sym (same_number fn 50 f)) refl
print_by fn false false e f o = absurd cc

pub leads_print : (fn : ℕ) → is_graphics_print fn ≡ true → walk graphics (0x02 ∷ 0x00 ∷ 0x30 ∷ fn ∷ []) ≡ leaf (kind.GraphicsPrint fn)
leads_print fn h = print_by fn (fn == 2) (fn == 50) refl refl h

-- ## The tree is good

one_width : (low : ℕ) → is_byte low ≡ true → is_graphics_width (low + 256 * 1) ≡ true
one_width low c = let small : low < 256 = grind (arith, nat_tests) in grind (arith, nat_tests)

one_height : (low : ℕ) → is_byte low ≡ true → is_height (low + 256 * 1) ≡ true
one_height low c = let small : low < 256 = grind (arith, nat_tests) in grind (arith, nat_tests)

joined : (p : List ℕ) (a d e lx hx ly hy : ℕ) (dots : List ℕ)
    → (((((((p ++ a ∷ []) ++ d ∷ []) ++ e ∷ []) ++ lx ∷ []) ++ hx ∷ []) ++ ly ∷ []) ++ hy ∷ []) ++ dots ≡ p ++ (a ∷ d ∷ e ∷ lx ∷ hx ∷ ly ∷ hy ∷ dots)
joined p a d e lx hx ly hy dots = simp append_assoc

-- What a spelling from the factors on is, after these bytes.
abbrev SpellsSized : GraphicsForm → ℕ → List ℕ → Type 0
SpellsSized form count p =
    (a d lx hx ly hy : ℕ) (dots : List ℕ) → is_graphics_factor a ≡ true → is_graphics_factor d ≡ true → is_byte lx ≡ true
    → is_graphics_width (lx + 256 * hx) ≡ true → is_byte ly ≡ true → is_height (ly + 256 * hy) ≡ true → length dots ≡ count → list_all is_byte dots ≡ true
    → Spells (kind.GraphicsStore (picture_of form a d (lx + 256 * hx) (ly + 256 * hy) dots)) (p ++ (a ∷ d ∷ 0x31 ∷ lx ∷ hx ∷ ly ∷ hy ∷ dots))

good_sized : (form : GraphicsForm) (count : ℕ) (p : List ℕ) → SpellsSized form count p → Good p (graphics_across form count)
good_sized form count p spells =
    good_passing p is_graphics_factor (graphics_down form count) 1 refl tt (λ a fa.
    good_passing (p ++ a ∷ []) is_graphics_factor (graphics_color form count a) 1 refl tt (λ d fd.
    good_these ((p ++ a ∷ []) ++ d ∷ []) (0x31 ∷ []) (graphics_width form count a d) tt
    (good_passing (((p ++ a ∷ []) ++ d ∷ []) ++ 0x31 ∷ []) is_byte (graphics_width_high form count a d) 0 refl tt (λ lx bx.
    good_passing ((((p ++ a ∷ []) ++ d ∷ []) ++ 0x31 ∷ []) ++ lx ∷ []) (λ high. is_graphics_width (lx + 256 * high)) (λ high. graphics_height form count a d (lx + 256 * high)) 1 (one_width lx bx) tt (λ hx wx.
    good_passing (((((p ++ a ∷ []) ++ d ∷ []) ++ 0x31 ∷ []) ++ lx ∷ []) ++ hx ∷ []) is_byte (graphics_height_high form count a d (lx + 256 * hx)) 0 refl tt (λ ly by.
    good_passing ((((((p ++ a ∷ []) ++ d ∷ []) ++ 0x31 ∷ []) ++ lx ∷ []) ++ hx ∷ []) ++ ly ∷ []) (λ high. is_height (ly + 256 * high)) (λ high. graphics_dots (graphics_head form a d (lx + 256 * hx) (ly + 256 * high)) count []) 1 (one_height ly by)
    (live_counted count (λ _. is_byte) (λ xs. kind.GraphicsStore (picture_of form a d (lx + 256 * hx) (ly + 256) xs)) []) (λ hy wy.
    good_counted count (((((((p ++ a ∷ []) ++ d ∷ []) ++ 0x31 ∷ []) ++ lx ∷ []) ++ hx ∷ []) ++ ly ∷ []) ++ hy ∷ []) (λ _. is_byte) (λ xs. kind.GraphicsStore (picture_of form a d (lx + 256 * hx) (ly + 256 * hy) xs)) [] (λ _. (0, refl))
    (λ dots long all. subst (Spells (kind.GraphicsStore (picture_of form a d (lx + 256 * hx) (ly + 256 * hy) dots))) (sym (joined p a d 0x31 lx hx ly hy dots))
    (spells a d lx hx ly hy dots fa fd bx wx by wy long (sym (all_from_all 0 is_byte dots) ∙ all))))))))))

is_small : (n : ℕ) → is_byte n ≡ true → n < 256
is_small n h = grind (arith, nat_tests)

counted : (n : ℕ) → is_graphics_length n ≡ true → (n == 2) ≡ false → 11 ≤ n
counted n h not = let counts : counts_dots n ≡ true = sym (ap (λ v. v || counts_dots n) not) ∙ h in grind (arith, nat_tests)

-- Pictures of the table.
is_picture : (form : GraphicsForm) (across down width height : ℕ) (dots : List ℕ) → InRange form across down width height dots
    → is_graphics (picture_of form across down width height dots) ≡ true
is_picture form across down width height dots r =
    both _ _ (both _ _ (both _ _ (both _ _ (both _ _ r.across_in r.down_in) r.width_in) r.height_in) (both _ _ r.some r.fits)) r.bytes

-- The bytes of a number.
record WordIs (low high : ℕ) : Type 0 where
  first : (low + 256 * high) % 256 ≡ low
  second : (low + 256 * high) / 256 ≡ high

word_is : (low high : ℕ) → is_byte low ≡ true → WordIs low high
word_is low high a = let small = is_small low a in record { first = omega arith; second = omega arith }

-- A spelling, seen with the bytes of its size.
sized_bytes : (c : Command) (p : List ℕ) (a d lx hx ly hy : ℕ) (dots : List ℕ) → WordIs lx hx → WordIs ly hy
    → Spells c (p ++ (a ∷ d ∷ 0x31 ∷ (lx + 256 * hx) % 256 ∷ (lx + 256 * hx) / 256 ∷ (ly + 256 * hy) % 256 ∷ (ly + 256 * hy) / 256 ∷ (dots ++ [])))
    → Spells c (p ++ (a ∷ d ∷ 0x31 ∷ lx ∷ hx ∷ ly ∷ hy ∷ dots))
sized_bytes c p a d lx hx ly hy dots x y s =
    subst (λ v. Spells c (p ++ (a ∷ d ∷ 0x31 ∷ v ∷ hx ∷ ly ∷ hy ∷ dots))) x.first
    (subst (λ v. Spells c (p ++ (a ∷ d ∷ 0x31 ∷ (lx + 256 * hx) % 256 ∷ v ∷ ly ∷ hy ∷ dots))) x.second
    (subst (λ v. Spells c (p ++ (a ∷ d ∷ 0x31 ∷ (lx + 256 * hx) % 256 ∷ (lx + 256 * hx) / 256 ∷ v ∷ hy ∷ dots))) y.first
    (subst (λ v. Spells c (p ++ (a ∷ d ∷ 0x31 ∷ (lx + 256 * hx) % 256 ∷ (lx + 256 * hx) / 256 ∷ (ly + 256 * hy) % 256 ∷ v ∷ dots))) y.second
    (subst (λ v. Spells c (p ++ (a ∷ d ∷ 0x31 ∷ (lx + 256 * hx) % 256 ∷ (lx + 256 * hx) / 256 ∷ (ly + 256 * hy) % 256 ∷ (ly + 256 * hy) / 256 ∷ v))) (append-nil dots) s))))

spelled_short : (low high : ℕ) → is_byte low ≡ true → (is_byte high && is_graphics_length (low + 256 * high)) ≡ true → (low + 256 * high == 2) ≡ false
    → SpellsSized Short (low + 256 * high - 10) (GS ∷ 0x28 ∷ 0x4C ∷ low ∷ high ∷ 0x30 ∷ 0x70 ∷ 0x30 ∷ [])
spelled_short low high is_low h not a d lx hx ly hy dots fa fd bx wx by wy long all =
    let many = counted (low + 256 * high) (and_right (is_byte high) (is_graphics_length (low + 256 * high)) h) not in
    let small = is_small low is_low in
    let large = is_small high (and_left (is_byte high) (is_graphics_length (low + 256 * high)) h) in
    let whole : length dots + 10 ≡ low + 256 * high = omega (arith, long, many) in
    let few : length dots + 10 ≤ 65535 = omega (arith, whole, small, large) in
    let least : 1 ≤ length dots = omega (arith, whole, many) in
    let some : nat_le 1 (length dots) ≡ true = grind (arith, nat_tests, least) in
    let fits : nat_le (length dots + 10) 65535 ≡ true = grind (arith, nat_tests, few) in
    let c = kind.GraphicsStore (picture_of Short a d (lx + 256 * hx) (ly + 256 * hy) dots) in
    let n = word_is low high is_low in
    let x = word_is lx hx bx in
    let y = word_is ly hy by in
    subst (λ v. Spells c (GS ∷ 0x28 ∷ 0x4C ∷ v ∷ high ∷ 0x30 ∷ 0x70 ∷ 0x30 ∷ a ∷ d ∷ 0x31 ∷ lx ∷ hx ∷ ly ∷ hy ∷ dots)) (ap (λ m. m % 256) whole ∙ n.first)
    (subst (λ v. Spells c (GS ∷ 0x28 ∷ 0x4C ∷ (length dots + 10) % 256 ∷ v ∷ 0x30 ∷ 0x70 ∷ 0x30 ∷ a ∷ d ∷ 0x31 ∷ lx ∷ hx ∷ ly ∷ hy ∷ dots)) (ap (λ m. m / 256) whole ∙ n.second)
    (sized_bytes c (GS ∷ 0x28 ∷ 0x4C ∷ (length dots + 10) % 256 ∷ (length dots + 10) / 256 ∷ 0x30 ∷ 0x70 ∷ 0x30 ∷ []) a d lx hx ly hy dots x y
    (at_row c (is_picture Short a d (lx + 256 * hx) (ly + 256 * hy) dots (record {
      across_in = fa;
      down_in = fd;
      width_in = wx;
      height_in = wy;
      some = some;
      fits = fits;
      bytes = all;
    })))))

record LongBytes (first second third : ℕ) : Type 0 where
  one : long_length first second third % 256 ≡ first
  two : long_length first second third / 256 % 256 ≡ second
  three : long_length first second third / 65536 % 256 ≡ third
  four : long_length first second third / 16777216 ≡ 0

long_bytes : (first second third : ℕ) → first < 256 → second < 256 → third < 256 → LongBytes first second third
long_bytes first second third a b c = record { one = omega arith; two = omega arith; three = omega arith; four = omega arith }

-- The range of a length of the long form.
record LongRange (first second third : ℕ) : Type 0 where
  most : long_length first second third ≤ 524170
  least : 11 ≤ long_length first second third

long_range : (first second third : ℕ) → is_long_length (long_length first second third) ≡ true → LongRange first second third
long_range first second third h =
    let counts = and_left (counts_dots (long_length first second third)) (fits_form Long (long_length first second third)) h in
    let fits = and_right (counts_dots (long_length first second third)) (fits_form Long (long_length first second third)) h in
    record { most = grind (arith, nat_tests); least = grind (arith, nat_tests) }

spelled_long : (first second third : ℕ) → is_byte first ≡ true → is_byte second ≡ true → is_long_length (long_length first second third) ≡ true
    → SpellsSized Long (long_length first second third - 10) (GS ∷ 0x38 ∷ 0x4C ∷ first ∷ second ∷ third ∷ 0x00 ∷ 0x30 ∷ 0x70 ∷ 0x30 ∷ [])
spelled_long first second third is_first is_second h a d lx hx ly hy dots fa fd bx wx by wy long all =
    let n = long_length first second third in
    let range = long_range first second third h in
    let small = is_small first is_first in
    let medium = is_small second is_second in
    let large : third < 256 = omega (arith, range.most) in
    let bytes = long_bytes first second third small medium large in
    let whole : length dots + 10 ≡ long_length first second third = omega (arith, long, range.least) in
    let few : length dots + 10 ≤ 524170 = omega (arith, whole, range.most) in
    let least : 1 ≤ length dots = omega (arith, whole, range.least) in
    let some : nat_le 1 (length dots) ≡ true = grind (arith, nat_tests, least) in
    let fits : nat_le (length dots + 10) 524170 ≡ true = grind (arith, nat_tests, few) in
    let c = kind.GraphicsStore (picture_of Long a d (lx + 256 * hx) (ly + 256 * hy) dots) in
    let m = length dots + 10 in
    let x = word_is lx hx bx in
    let y = word_is ly hy by in
    subst (λ v. Spells c (GS ∷ 0x38 ∷ 0x4C ∷ v ∷ second ∷ third ∷ 0x00 ∷ 0x30 ∷ 0x70 ∷ 0x30 ∷ a ∷ d ∷ 0x31 ∷ lx ∷ hx ∷ ly ∷ hy ∷ dots)) (ap (λ k. k % 256) whole ∙ bytes.one)
    (subst (λ v. Spells c (GS ∷ 0x38 ∷ 0x4C ∷ m % 256 ∷ v ∷ third ∷ 0x00 ∷ 0x30 ∷ 0x70 ∷ 0x30 ∷ a ∷ d ∷ 0x31 ∷ lx ∷ hx ∷ ly ∷ hy ∷ dots)) (ap (λ k. k / 256 % 256) whole ∙ bytes.two)
    (subst (λ v. Spells c (GS ∷ 0x38 ∷ 0x4C ∷ m % 256 ∷ m / 256 % 256 ∷ v ∷ 0x00 ∷ 0x30 ∷ 0x70 ∷ 0x30 ∷ a ∷ d ∷ 0x31 ∷ lx ∷ hx ∷ ly ∷ hy ∷ dots)) (ap (λ k. k / 65536 % 256) whole ∙ bytes.three)
    (subst (λ v. Spells c (GS ∷ 0x38 ∷ 0x4C ∷ m % 256 ∷ m / 256 % 256 ∷ m / 65536 % 256 ∷ v ∷ 0x30 ∷ 0x70 ∷ 0x30 ∷ a ∷ d ∷ 0x31 ∷ lx ∷ hx ∷ ly ∷ hy ∷ dots)) (ap (λ k. k / 16777216) whole ∙ bytes.four)
    (sized_bytes c (GS ∷ 0x38 ∷ 0x4C ∷ m % 256 ∷ m / 256 % 256 ∷ m / 65536 % 256 ∷ m / 16777216 ∷ 0x30 ∷ 0x70 ∷ 0x30 ∷ []) a d lx hx ly hy dots x y
    (at_row c (is_picture Long a d (lx + 256 * hx) (ly + 256 * hy) dots (record {
      across_in = fa;
      down_in = fd;
      width_in = wx;
      height_in = wy;
      some = some;
      fits = fits;
      bytes = all;
    })))))))

-- The functions.
live_other : (n : ℕ) → (n == 2) ≡ false → IsLive (cond (n == 2) dead (graphics_tone Short (n - 10)))
live_other n h = subst (λ v. IsLive (cond v dead (graphics_tone Short (n - 10)))) (sym h) tt

live_long : (n : ℕ) → (n == 2) ≡ false → IsLive (cond (n == 2) dead (graphics_tone Long (n - 10)))
live_long n h = subst (λ v. IsLive (cond v dead (graphics_tone Long (n - 10)))) (sym h) tt

live_short : (n : ℕ) (v : Bool) → (n == 2) ≡ v → (b : ℕ) × IsLive (branch (graphics_functions Short n) none b)
live_short n true h = (0x02, live_choice (leaf (kind.GraphicsPrint 0x02)) dead (n == 2) h tt)
live_short n false h = (0x70, live_other n h)

spelled_print : (low high fn : ℕ) → is_graphics_print fn ≡ true → (low + 256 * high == 2) ≡ true
    → Spells (kind.GraphicsPrint fn) (GS ∷ 0x28 ∷ 0x4C ∷ low ∷ high ∷ 0x30 ∷ fn ∷ [])
spelled_print low high fn h two =
    let e = same_number (low + 256 * high) 2 two in
    let is_low : 2 ≡ low = omega (arith, e) in
    let is_high : 0 ≡ high = omega (arith, e) in
    subst (λ v. Spells (kind.GraphicsPrint fn) (GS ∷ 0x28 ∷ 0x4C ∷ v ∷ high ∷ 0x30 ∷ fn ∷ [])) is_low
    (subst (λ v. Spells (kind.GraphicsPrint fn) (GS ∷ 0x28 ∷ 0x4C ∷ 0x02 ∷ v ∷ 0x30 ∷ fn ∷ [])) is_high (at_row (kind.GraphicsPrint fn) h))

good_short_function : (low high : ℕ) → is_byte low ≡ true → (is_byte high && is_graphics_length (low + 256 * high)) ≡ true
    → Good (GS ∷ 0x28 ∷ 0x4C ∷ low ∷ high ∷ 0x30 ∷ []) (graphics_function Short (low + 256 * high))
good_short_function low high is_low h =
    let n = low + 256 * high in
    let p : List ℕ = GS ∷ 0x28 ∷ 0x4C ∷ low ∷ high ∷ 0x30 ∷ [] in (
      live_short n (n == 2) refl,
      good_branch p (graphics_functions Short n) none (
        good_choice (p ++ 0x02 ∷ []) (leaf (kind.GraphicsPrint 0x02)) dead (n == 2) (spelled_print low high 0x02 refl) (λ _. tt),
        (
          good_choice (p ++ 0x32 ∷ []) (leaf (kind.GraphicsPrint 0x32)) dead (n == 2) (spelled_print low high 0x32 refl) (λ _. tt),
          (
            good_choice (p ++ 0x70 ∷ []) dead (graphics_tone Short (n - 10)) (n == 2) (λ _. tt) (λ other.
                good_these (p ++ 0x70 ∷ []) (0x30 ∷ []) (graphics_across Short (n - 10)) tt
                (good_sized Short (n - 10) (p ++ 0x70 ∷ 0x30 ∷ []) (spelled_short low high is_low h other))),
            tt,
          ),
        ),
      )
          (λ _. tt),
    )

never_two : (first second third : ℕ) → 11 ≤ long_length first second third → (long_length first second third == 2) ≡ false
never_two first second third least = grind (arith, nat_tests)

two_and_not : (b : Bool) → b ≡ false → b ≡ true → ⊥
two_and_not b e f = cc

good_long_function : (first second third : ℕ) → is_byte first ≡ true → is_byte second ≡ true → is_long_length (long_length first second third) ≡ true
    → Good (GS ∷ 0x38 ∷ 0x4C ∷ first ∷ second ∷ third ∷ 0x00 ∷ 0x30 ∷ []) (graphics_function Long (long_length first second third))
good_long_function first second third a b h =
    let n = long_length first second third in
    let other = never_two first second third (long_range first second third h).least in
    let p : List ℕ = GS ∷ 0x38 ∷ 0x4C ∷ first ∷ second ∷ third ∷ 0x00 ∷ 0x30 ∷ [] in (
      (0x70, live_long n other),
      good_branch p (graphics_functions Long n) none (
        good_choice (p ++ 0x02 ∷ []) (leaf (kind.GraphicsPrint 0x02)) dead (n == 2) (λ two. absurd (two_and_not (n == 2) other two)) (λ _. tt),
        (
          good_choice (p ++ 0x32 ∷ []) (leaf (kind.GraphicsPrint 0x32)) dead (n == 2) (λ two. absurd (two_and_not (n == 2) other two)) (λ _. tt),
          (
            good_choice (p ++ 0x70 ∷ []) dead (graphics_tone Long (n - 10)) (n == 2) (λ _. tt) (λ _.
                good_these (p ++ 0x70 ∷ []) (0x30 ∷ []) (graphics_across Long (n - 10)) tt
                (good_sized Long (n - 10) (p ++ 0x70 ∷ 0x30 ∷ []) (spelled_long first second third a b h))),
            tt,
          ),
        ),
      )
          (λ _. tt),
    )

one_length : (low : ℕ) → is_byte low ≡ true → (is_byte 1 && is_graphics_length (low + 256 * 1)) ≡ true
one_length low h =
    let small = is_small low h in
    let counts : counts_dots (low + 256 * 1) ≡ true = grind (arith, nat_tests) in
    either_right (low + 256 * 1 == 2) (counts_dots (low + 256 * 1)) counts

pub good_graphics : Good (GS ∷ 0x28 ∷ 0x4C ∷ []) graphics
good_graphics =
    good_passing (GS ∷ 0x28 ∷ 0x4C ∷ []) is_byte graphics_high 0 refl tt (λ low is_low.
    good_passing (GS ∷ 0x28 ∷ 0x4C ∷ low ∷ []) (λ high. is_byte high && is_graphics_length (low + 256 * high)) (λ high. graphics_mode Short (low + 256 * high)) 1 (one_length low is_low) tt (λ high in_range.
    good_these (GS ∷ 0x28 ∷ 0x4C ∷ low ∷ high ∷ []) (0x30 ∷ []) (graphics_function Short (low + 256 * high)) tt (good_short_function low high is_low in_range)))

one_third : (first second : ℕ) → is_byte first ≡ true → is_byte second ≡ true → is_long_length (long_length first second 1) ≡ true
one_third first second a b =
    let small = is_small first a in
    let medium = is_small second b in
    let least : 11 ≤ long_length first second 1 = omega arith in
    let most : long_length first second 1 ≤ 524170 = omega arith in
    let counts : counts_dots (long_length first second 1) ≡ true = grind (arith, nat_tests) in
    let fits : fits_form Long (long_length first second 1) ≡ true = grind (arith, nat_tests) in
    both _ _ counts fits

pub good_long_graphics : Good (GS ∷ 0x38 ∷ []) long_graphics
good_long_graphics =
    good_these (GS ∷ 0x38 ∷ []) (0x4C ∷ []) (passing is_byte long_second) tt
    (good_passing (GS ∷ 0x38 ∷ 0x4C ∷ []) is_byte long_second 0 refl tt (λ first a.
    good_passing (GS ∷ 0x38 ∷ 0x4C ∷ first ∷ []) is_byte (long_third first) 0 refl tt (λ second b.
    good_passing (GS ∷ 0x38 ∷ 0x4C ∷ first ∷ second ∷ []) (λ third. is_long_length (long_length first second third)) (λ third. these (0x00 ∷ []) (graphics_mode Long (long_length first second third))) 1 (one_third first second a b) tt (λ third h.
    good_these (GS ∷ 0x38 ∷ 0x4C ∷ first ∷ second ∷ third ∷ []) (0x00 ∷ []) (graphics_mode Long (long_length first second third)) tt
    (good_these (GS ∷ 0x38 ∷ 0x4C ∷ first ∷ second ∷ third ∷ 0x00 ∷ []) (0x30 ∷ []) (graphics_function Long (long_length first second third)) tt
    (good_long_function first second third a b h))))))
