-- Rasters in the tree: their spellings lead to them, and their part of the tree is good.
use Rattle.std.proofs.Common.{◌≡◌, ◌<◌, ◌≤◌, ℕ, ◌+◌, ◌*◌, ◌/◌, ◌%◌, List, [], ◌∷◌, ◌++◌, refl, ◌∙◌, ap, sym, subst, arith, true, length, append-nil, cond}
use Rattle.std.specs.Prelude.{◌==◌, ◌&&◌}
use Rattle.std.specs.List.{list_all}
use Rattle.std.proofs.lemmas.Bool.Decides.{nat_tests}
use Rattle.escpos_command.specs.declared.bytes.TheConstants.{GS}
use Rattle.escpos_command.specs.declared.command.Command.TheVariants as kind
use Rattle.escpos_command.specs.Parameters.{is_byte, is_one_of_four}
use Rattle.escpos_command.specs.Rasters.{picture, is_raster, is_width, is_height}
use Rattle.escpos_command.specs.CommandTable.{Spells}
use Rattle.escpos_command.specs.Tree.{leaf, dead, walk, passing, these, dots_tree, raster}
use Rattle.escpos_command.proofs.Walks.{Good}
use Rattle.escpos_command.proofs.Combinators.{good_passing, good_these, good_counted, walk-counted, live_counted, all_from_all, and_left, and_right, both, same_number, number_itself, at_row}

-- The bytes of a width and of a height.
pub width_low : (n : ℕ) → is_width n ≡ true → n % 256 ≡ n
width_low n h = let most : n ≤ 128 = grind (arith, nat_tests) in omega arith

pub width_high : (n : ℕ) → is_width n ≡ true → n / 256 ≡ 0
width_high n h = let most : n ≤ 128 = grind (arith, nat_tests) in omega arith

pub height_bytes : (n : ℕ) → n % 256 + 256 * (n / 256) ≡ n
height_bytes n = omega arith

pub low_byte : (n : ℕ) → is_byte (n % 256) ≡ true
low_byte n = let small : n % 256 < 256 = omega arith in grind (arith, nat_tests)

-- The parts of the range.
pub record InRange (scale width height : ℕ) (dots : List ℕ) : Type 0 where
  pub scale_in : is_one_of_four scale ≡ true
  pub width_in : is_width width ≡ true
  pub height_in : is_height height ≡ true
  pub long : length dots ≡ width * height
  pub bytes : list_all is_byte dots ≡ true

pub in_range : (scale width height : ℕ) (dots : List ℕ) → is_raster (picture scale width height dots) ≡ true → InRange scale width height dots
in_range scale width height dots h =
    let a = and_left (is_one_of_four scale && is_width width && is_height height && length dots == width * height) (list_all is_byte dots) h in
    let b = and_left (is_one_of_four scale && is_width width && is_height height) (length dots == width * height) a in
    let c = and_left (is_one_of_four scale && is_width width) (is_height height) b in
    record {
      scale_in = and_left (is_one_of_four scale) (is_width width) c;
      width_in = and_right (is_one_of_four scale) (is_width width) c;
      height_in = and_right (is_one_of_four scale && is_width width) (is_height height) b;
      long = same_number _ _ (and_right (is_one_of_four scale && is_width width && is_height height) (length dots == width * height) a);
      bytes = and_right (is_one_of_four scale && is_width width && is_height height && length dots == width * height) (list_all is_byte dots) h;
    }

pub leads_raster : (scale width height : ℕ) (dots : List ℕ) → is_raster (picture scale width height dots) ≡ true
    → walk raster (0x30 ∷ scale ∷ width % 256 ∷ width / 256 ∷ height % 256 ∷ height / 256 ∷ (dots ++ [])) ≡ leaf (kind.Raster (picture scale width height dots))
leads_raster scale width height dots h =
    let r = in_range scale width height dots h in
    let size : (w low high : ℕ) → w ≡ width → is_byte low ≡ true → low + 256 * high ≡ height
    → walk raster (0x30 ∷ scale ∷ w ∷ 0 ∷ low ∷ high ∷ (dots ++ [])) ≡ leaf (kind.Raster (picture scale width height dots)) =
    λ w low high same is_low e.
    ap (λ v. walk (cond v (passing is_width (λ w. these (0x00 ∷ []) (passing is_byte (λ low. passing (λ high. is_height (low + 256 * high)) (λ high. dots_tree scale w (low + 256 * high) (w * (low + 256 * high)) []))))) dead) (w ∷ 0 ∷ low ∷ high ∷ (dots ++ []))) r.scale_in
    ∙ ap (λ v. walk (cond v (these (0x00 ∷ []) (passing is_byte (λ low. passing (λ high. is_height (low + 256 * high)) (λ high. dots_tree scale w (low + 256 * high) (w * (low + 256 * high)) [])))) dead) (0 ∷ low ∷ high ∷ (dots ++ []))) (ap is_width same ∙ r.width_in)
    ∙ ap (λ v. walk (cond v (passing (λ high. is_height (low + 256 * high)) (λ high. dots_tree scale w (low + 256 * high) (w * (low + 256 * high)) [])) dead) (high ∷ (dots ++ []))) is_low
    ∙ ap (λ v. walk (cond v (dots_tree scale w (low + 256 * high) (w * (low + 256 * high)) []) dead) (dots ++ [])) (ap is_height e ∙ r.height_in)
    ∙ ap (λ v. walk (dots_tree scale w v (w * v) []) (dots ++ [])) e
    ∙ ap (λ v. walk (dots_tree scale v height (v * height) []) (dots ++ [])) same
    ∙ ap (walk (dots_tree scale width height (width * height) [])) (append-nil dots)
    ∙ walk-counted (width * height) (λ _. is_byte) (λ xs. kind.Raster (picture scale width height xs)) [] dots r.long (all_from_all 0 is_byte dots ∙ r.bytes) in
    ap (λ v. walk raster (0x30 ∷ scale ∷ width % 256 ∷ v ∷ height % 256 ∷ height / 256 ∷ (dots ++ []))) (width_high width r.width_in)
    ∙ size (width % 256) (height % 256) (height / 256) (width_low width r.width_in) (low_byte height) (height_bytes height)

-- The bytes of a size that is spelled.
pub spelled : (scale width low high : ℕ) (dots : List ℕ) → is_one_of_four scale ≡ true → is_width width ≡ true → is_byte low ≡ true
    → is_height (low + 256 * high) ≡ true → length dots ≡ width * (low + 256 * high) → list_all is_byte dots ≡ true
    → Spells (kind.Raster (picture scale width (low + 256 * high) dots)) (GS ∷ 0x76 ∷ 0x30 ∷ scale ∷ width ∷ 0x00 ∷ low ∷ high ∷ dots)
spelled scale width low high dots a b c d e f =
    let small : low < 256 = grind (arith, nat_tests) in
    let most : low + 256 * high ≤ 4095 = grind (arith, nat_tests) in
    let is_low : (low + 256 * high) % 256 ≡ low = omega arith in
    let is_high : (low + 256 * high) / 256 ≡ high = omega arith in
    let c : kind.Raster (picture scale width (low + 256 * high) dots) ≡ kind.Raster (picture scale width (low + 256 * high) dots) = refl in
    subst (λ v. Spells (kind.Raster (picture scale width (low + 256 * high) dots)) (GS ∷ 0x76 ∷ 0x30 ∷ scale ∷ v ∷ 0x00 ∷ low ∷ high ∷ dots)) (width_low width b)
    (subst (λ v. Spells (kind.Raster (picture scale width (low + 256 * high) dots)) (GS ∷ 0x76 ∷ 0x30 ∷ scale ∷ width % 256 ∷ v ∷ low ∷ high ∷ dots)) (width_high width b)
    (subst (λ v. Spells (kind.Raster (picture scale width (low + 256 * high) dots)) (GS ∷ 0x76 ∷ 0x30 ∷ scale ∷ width % 256 ∷ width / 256 ∷ v ∷ high ∷ dots)) is_low
    (subst (λ v. Spells (kind.Raster (picture scale width (low + 256 * high) dots)) (GS ∷ 0x76 ∷ 0x30 ∷ scale ∷ width % 256 ∷ width / 256 ∷ (low + 256 * high) % 256 ∷ v ∷ dots)) is_high
    (subst (λ v. Spells (kind.Raster (picture scale width (low + 256 * high) dots)) (GS ∷ 0x76 ∷ 0x30 ∷ scale ∷ width % 256 ∷ width / 256 ∷ (low + 256 * high) % 256 ∷ (low + 256 * high) / 256 ∷ v)) (append-nil dots)
    (at_row (kind.Raster (picture scale width (low + 256 * high) dots)) (both _ _ (both _ _ (both _ _ (both _ _ a b) d) (subst (λ v. (v == width * (low + 256 * high)) ≡ true) (sym e) (number_itself (width * (low + 256 * high))))) f))))))

one_high : (low : ℕ) → is_byte low ≡ true → is_height (low + 256 * 1) ≡ true
one_high low c = let small : low < 256 = grind (arith, nat_tests) in grind (arith, nat_tests)

pub good_raster : Good (GS ∷ 0x76 ∷ []) raster
good_raster =
    good_these (GS ∷ 0x76 ∷ []) (0x30 ∷ []) _ tt
    (good_passing (GS ∷ 0x76 ∷ 0x30 ∷ []) is_one_of_four _ 0 refl tt (λ scale a.
    good_passing (GS ∷ 0x76 ∷ 0x30 ∷ scale ∷ []) is_width _ 1 refl tt (λ width b.
    good_these (GS ∷ 0x76 ∷ 0x30 ∷ scale ∷ width ∷ []) (0x00 ∷ []) _ tt
    (good_passing (GS ∷ 0x76 ∷ 0x30 ∷ scale ∷ width ∷ 0x00 ∷ []) is_byte _ 1 refl tt (λ low c.
    good_passing (GS ∷ 0x76 ∷ 0x30 ∷ scale ∷ width ∷ 0x00 ∷ low ∷ []) (λ high. is_height (low + 256 * high)) _ 1 (one_high low c) (live_counted (width * (low + 256)) (λ _. is_byte) (λ xs. kind.Raster (picture scale width (low + 256) xs)) []) (λ high d.
    good_counted (width * (low + 256 * high)) (GS ∷ 0x76 ∷ 0x30 ∷ scale ∷ width ∷ 0x00 ∷ low ∷ high ∷ []) (λ _. is_byte) (λ xs. kind.Raster (picture scale width (low + 256 * high) xs)) [] (λ _. (0, refl))
    (λ dots long all. spelled scale width low high dots a b c d long (sym (all_from_all 0 is_byte dots) ∙ all))))))))
