-- Rasters of more than 2,047 rows, which the first profile lacked: where they part from others.
use Rattle.std.proofs.Common.{◌≡◌, ◌<◌, ◌≤◌, zero, suc, ℕ, ◌+◌, ◌*◌, ◌/◌, ◌%◌, List, [], ◌∷◌, ◌++◌, length, refl, sym, ◌∙◌, ap, append-nil, arith, true, false, cond}
use Rattle.std.specs.Prelude.{nat_le}
use Rattle.std.specs.List.{list_all}
use Rattle.std.proofs.lemmas.Bool.Decides.{nat_tests}
use Rattle.escpos_command.specs.declared.bytes.TheConstants.{GS}
use Rattle.escpos_command.specs.declared.command.Command.{Command}
use Rattle.escpos_command.specs.declared.command.Command.TheVariants as kind
use Rattle.escpos_command.specs.CommandTable.{IsCommand, row}
use Rattle.escpos_command.specs.EarlierProfiles.{in_profile, IsNew, rows}
use Rattle.escpos_command.specs.Grammar.{Viable}
use Rattle.escpos_command.specs.Parameters.{is_byte, is_one_of_four}
use Rattle.escpos_command.specs.Profiles.{ViableIn}
use Rattle.escpos_command.specs.Rasters.{picture, is_width, is_height}
use Rattle.escpos_command.specs.Tree.{leaf, walk, these, grammar, after_scale, after_width, after_low, dots_tree}
use Rattle.escpos_command.proofs.Profiles.{Parts, chosen, counted_below, none_below}
use Rattle.escpos_command.proofs.RasterTree.{in_range, width_low, width_high, low_byte, height_bytes, spelled}
use Rattle.escpos_command.proofs.TableTree.{form}

-- ## Rasters of too many rows

raster_below : (scale width low high : ℕ) (w : List ℕ) (c : Command) → walk grammar (GS ∷ 0x76 ∷ 0x30 ∷ scale ∷ width ∷ 0x00 ∷ low ∷ high ∷ w) ≡ leaf c
    → (xs : List ℕ) × (c ≡ kind.Raster (picture scale width (low + 256 * high) xs))
raster_below scale width low high w c e =
    let begun = sym (form (GS ∷ 0x76 ∷ []) (0x30 ∷ scale ∷ width ∷ 0x00 ∷ low ∷ high ∷ w) refl) ∙ e in
    let a = chosen (is_one_of_four scale) (after_scale scale) (width ∷ 0x00 ∷ low ∷ high ∷ w) c begun in
    let b = chosen (is_width width) (these (0x00 ∷ []) (after_width scale width)) (0x00 ∷ low ∷ high ∷ w) c a in
    let d = chosen (is_byte low) (after_low scale width low) (high ∷ w) c b in
    let f = chosen (is_height (low + 256 * high)) (dots_tree scale width (low + 256 * high) (width * (low + 256 * high)) []) w c d in
    counted_below (width * (low + 256 * high)) (λ _. is_byte) (λ xs. kind.Raster (picture scale width (low + 256 * high) xs)) [] w c f

zeros : ℕ → List ℕ
zeros zero = []
zeros (suc n) = 0 ∷ zeros n

length-zeros : (n : ℕ) → length (zeros n) ≡ n
unfolding zeros
length-zeros zero = refl
length-zeros (suc n) = ap suc (length-zeros n)

zeros_are_bytes : (n : ℕ) → list_all is_byte (zeros n) ≡ true
unfolding zeros
zeros_are_bytes zero = refl
zeros_are_bytes (suc n) = zeros_are_bytes n

few_rows : (low : ℕ) → is_byte low ≡ true → nat_le (low + 256 * 1) 2047 ≡ true
few_rows low h = let small : low < 256 = grind (arith, nat_tests) in grind (arith, nat_tests)

few_in_first : (low : ℕ) → is_byte low ≡ true → nat_le (cond (nat_le (low + 256 * 1) 2047) 1 2) 1 ≡ true
few_in_first low h = ap (λ v. nat_le (cond v 1 2) 1) (few_rows low h)

some_height : (low : ℕ) → is_byte low ≡ true → is_height (low + 256 * 1) ≡ true
some_height low h = let small : low < 256 = grind (arith, nat_tests) in grind (arith, nat_tests)

-- The bytes of a raster before the high byte of its height.
unfoldable pub seven : ℕ → ℕ → ℕ → List ℕ
seven scale width low = GS ∷ 0x76 ∷ 0x30 ∷ scale ∷ width ∷ 0x00 ∷ low ∷ []

-- They go on to a raster of the first profile, with 256 more rows than their low byte says.
seven_first : (scale width low : ℕ) → is_one_of_four scale ≡ true → is_width width ≡ true → is_byte low ≡ true → ViableIn (in_profile 1) (seven scale width low)
unfolding seven
seven_first scale width low a b c =
    let height = low + 256 * 1 in
    let dots = zeros (width * height) in (
      kind.Raster (picture scale width height dots),
      1 ∷ dots,
      (few_in_first low c, spelled scale width low 1 dots a b c (some_height low c) (length-zeros (width * height)) (zeros_are_bytes (width * height))),
    )

many_rows : (n : ℕ) → nat_le n 2047 ≡ false → 2048 ≤ n
many_rows n h = grind (arith, nat_tests)

most_rows : (n : ℕ) → is_height n ≡ true → n ≤ 4095
most_rows n h = grind (arith, nat_tests)

raster_row : (scale width height : ℕ) (dots : List ℕ) → is_width width ≡ true
    → row (kind.Raster (picture scale width height dots)) ≡ seven scale width (height % 256) ++ height / 256 ∷ dots
unfolding seven
raster_row scale width height dots h =
    ap (λ v. GS ∷ 0x76 ∷ 0x30 ∷ scale ∷ v ∷ width / 256 ∷ height % 256 ∷ height / 256 ∷ (dots ++ [])) (width_low width h)
    ∙ ap (λ v. GS ∷ 0x76 ∷ 0x30 ∷ scale ∷ width ∷ v ∷ height % 256 ∷ height / 256 ∷ (dots ++ [])) (width_high width h)
    ∙ ap (λ v. GS ∷ 0x76 ∷ 0x30 ∷ scale ∷ width ∷ 0 ∷ height % 256 ∷ height / 256 ∷ v) (append-nil dots)

none_so_tall : (scale width low high : ℕ) → nat_le (low + 256 * high) 2047 ≡ false → ViableIn (in_profile 1) (seven scale width low ++ high ∷ []) → ⊥
unfolding seven
none_so_tall scale width low high h =
    none_below (in_profile 1) (GS ∷ 0x76 ∷ 0x30 ∷ scale ∷ width ∷ 0x00 ∷ low ∷ high ∷ [])
    (λ w c e. ap (in_profile 1) (raster_below scale width low high w c e).1 ∙ ap (λ v. nat_le (cond v 1 2) 1) h)

new_rows : (scale width low high : ℕ) → is_one_of_four scale ≡ true → is_width width ≡ true → is_byte low ≡ true → nat_le (low + 256 * high) 2047 ≡ false → is_height (low + 256 * high) ≡ true → IsNew 1 (seven scale width low) high
unfolding seven
new_rows scale width low high a b c h k = rows refl scale width low a b c refl (many_rows (low + 256 * high) h) (most_rows (low + 256 * high) k)

pub raster_parts : (scale width height : ℕ) (dots : List ℕ) → nat_le height 2047 ≡ false → IsCommand (kind.Raster (picture scale width height dots))
    → Parts (in_profile 1) (IsNew 1) (row (kind.Raster (picture scale width height dots)))
raster_parts scale width height dots h k =
    let r = in_range scale width height dots k in
    let beyond : nat_le (height % 256 + 256 * (height / 256)) 2047 ≡ false = ap (λ n. nat_le n 2047) (height_bytes height) ∙ h in
    record {
      before = seven scale width (height % 256);
      letter = height / 256;
      after = dots;
      whole = raster_row scale width height dots r.width_in;
      allowed = seven_first scale width (height % 256) r.scale_in r.width_in (low_byte height);
      none = none_so_tall scale width (height % 256) (height / 256) beyond;
      new = new_rows scale width (height % 256) (height / 256) r.scale_in r.width_in (low_byte height) beyond (ap is_height (height_bytes height) ∙ r.height_in);
    }

is_tall : (n : ℕ) → 2048 ≤ n → nat_le n 2047 ≡ false
is_tall n h = grind (arith, nat_tests, h)

has_height : (n : ℕ) → 2048 ≤ n → n ≤ 4095 → is_height n ≡ true
has_height n h k = grind (arith, nat_tests, h, k)

-- Such a height is taken now, and wasn't.
pub raster_is_taken : (scale width low high : ℕ) → is_one_of_four scale ≡ true → is_width width ≡ true → is_byte low ≡ true → 2048 ≤ low + 256 * high → low + 256 * high ≤ 4095
    → Viable (seven scale width low ++ high ∷ []) × (ViableIn (in_profile 1) (seven scale width low ++ high ∷ []) → ⊥)
unfolding seven
raster_is_taken scale width low high a b c least most =
    let height = low + 256 * high in
    let dots = zeros (width * height) in (
      (
        kind.Raster (picture scale width height dots),
        dots,
        spelled scale width low high dots a b c (has_height height least most) (length-zeros (width * height)) (zeros_are_bytes (width * height)),
      ),
      none_so_tall scale width low high (is_tall height least),
    )
