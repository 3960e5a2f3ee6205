-- Bytes with blackened dots hold no real-time command, and are otherwise those of the picture.
use Rattle.std.proofs.Common.{◌≡◌, ◌≤◌, ◌⊎◌, inl, inr, ℕ, zero, suc, ◌+◌, ◌/◌, ◌%◌, Bool, true, false, cond, List, [], ◌∷◌, length, get_or, refl, sym, ◌∙◌, ap, append-nil, arith}
use Rattle.std.specs.Prelude.{◌||◌, ◌&&◌, ◌==◌}
use Rattle.std.proofs.lemmas.Bool.Decides.{nat_tests}
use Rattle.escpos_command.specs.declared.bytes.TheConstants.{DLE}
use Rattle.escpos_command.specs.declared.command.Command.TheVariants.{Raster}
use Rattle.escpos_command.specs.Rasters.{picture}
use Rattle.escpos_command.specs.CommandTable.{row}
use Rattle.escpos_real_time.specs.RealTime.{HoldsRealTime, is_real_time}
use Rattle.escpos_real_time.specs.Scan.{holds}
use Rattle.escpos_real_time.proofs.Holding.{finds, no_third, skip}
use Rattle.escpos_image.specs.DotRows.{DotRows}
use Rattle.escpos_image.specs.Blackening.{blackened, blackened_after}
use Rattle.escpos_image.specs.Entries.{band_dots, band_rows}
use Rattle.escpos_image.specs.Packing.{row_bytes}

by_test : (t : Bool) (a b n : ℕ) → is_real_time a b n ≡ t → is_real_time a b (cond t (n + 16) n) ≡ false
by_test true a b n is = no_third a b (n + 16) (omega arith)
by_test false a b n is = is

ends_none : (a b n : ℕ) → is_real_time a b (blackened a b n) ≡ false
ends_none a b n = by_test (is_real_time a b n) a b n refl

pub none_after : (a b : ℕ) (bytes : List ℕ) → holds (a ∷ b ∷ blackened_after a b bytes) ≡ false
none_after a b [] = refl
none_after a b (n ∷ bytes) =
    let m = blackened a b n in
    ap (λ t. t || holds (b ∷ m ∷ blackened_after b m bytes)) (ends_none a b n) ∙ none_after b m bytes

and_false : (t : Bool) → (t && false) ≡ false
and_false true = refl
and_false false = refl

-- The width of a raster has a high byte of 0.
width_holds_none : (low high : ℕ) (y : ℕ) (bytes : List ℕ) → high ≡ 0 → holds (low ∷ high ∷ y ∷ bytes) ≡ holds (y ∷ bytes)
width_holds_none low high y bytes e =
    ap (λ h. holds (low ∷ h ∷ y ∷ bytes)) e ∙ ap (λ t. t || holds (0 ∷ y ∷ bytes)) (and_false (low == DLE)) ∙ skip 0 (y ∷ bytes) refl

raster_holds : (x y : ℕ) (dots : List ℕ) → x ≤ 128 → holds (row (Raster (picture 0 x y dots))) ≡ holds (y % 256 ∷ y / 256 ∷ dots)
raster_holds x y dots few =
    let rest = y % 256 ∷ y / 256 ∷ dots in
    let size = x % 256 ∷ x / 256 ∷ rest in
    ap holds (append-nil (0x1D ∷ 0x76 ∷ 0x30 ∷ 0 ∷ size))
    ∙ skip 0x1D (0x76 ∷ 0x30 ∷ 0 ∷ size) refl ∙ skip 0x76 (0x30 ∷ 0 ∷ size) refl ∙ skip 0x30 (0 ∷ size) refl ∙ skip 0 size refl
    ∙ width_holds_none (x % 256) (x / 256) (y % 256) (y / 256 ∷ dots) (omega (arith, few))

pub band_holds_none : (p : DotRows) (b : ℕ) → p.width ≤ 1024
    → HoldsRealTime (row (Raster (picture 0 (row_bytes p.width) (band_rows p.height b) (band_dots p b)))) → ⊥
band_holds_none p b narrow h =
    let rows = band_rows p.height b in
    let few : row_bytes p.width ≤ 128 = omega (arith, narrow) in
    let is = finds (row (Raster (picture 0 (row_bytes p.width) rows (band_dots p b)))) h in
    let clash : true ≡ false = sym is ∙ raster_holds (row_bytes p.width) rows (band_dots p b) few ∙ none_after (rows % 256) (rows / 256) _ in
    cc

pub same_count : (a b : ℕ) (bytes : List ℕ) → length (blackened_after a b bytes) ≡ length bytes
same_count a b [] = refl
same_count a b (n ∷ bytes) = ap (λ k. suc k) (same_count b (blackened a b n) bytes)

small : (a b n : ℕ) → is_real_time a b n ≡ true → n ≤ 8
small a b n is = search (arith, nat_tests)

one_blackened : (t : Bool) (a b n : ℕ) → is_real_time a b n ≡ t → (cond t (n + 16) n ≡ n) ⊎ ((n ≤ 8) × (cond t (n + 16) n ≡ n + 16))
one_blackened true a b n is = inr (small a b n is, refl)
one_blackened false a b n is = inl refl

pub each_blackened : (a b : ℕ) (bytes : List ℕ) (k : ℕ)
    → (get_or (blackened_after a b bytes) k 0 ≡ get_or bytes k 0) ⊎ ((get_or bytes k 0 ≤ 8) × (get_or (blackened_after a b bytes) k 0 ≡ get_or bytes k 0 + 16))
each_blackened a b [] k = inl refl
each_blackened a b (n ∷ bytes) zero = one_blackened (is_real_time a b n) a b n refl
each_blackened a b (n ∷ bytes) (suc k) = each_blackened b (blackened a b n) bytes k
