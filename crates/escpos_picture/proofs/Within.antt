-- What is drawn of an item stays within its depth.
use Rattle.std.proofs.Common.{◌≡◌, ℕ, zero, suc, ◌+◌, ◌-◌, ◌*◌, ◌≤◌, List, [], ◌∷◌, length, refl, sym, ◌∙◌, ap, arith, Bool, true, false, Option, None, Some, cond}
use Rattle.std.specs.Prelude.{IsTrue, drop, not}
use Rattle.std.specs.List.{AllByRecursion}
use Rattle.escpos_command.specs.declared.bars.Symbology.{Symbology}
use Rattle.escpos_paper.specs.declared.style.Placing.{Placing}
use Rattle.escpos_command.specs.declared.parameter.choices.FontFace.{FontFace}
use Rattle.escpos_command.specs.declared.parameter.choices.FontFace.TheVariants.{A, B}
use Rattle.escpos_command.specs.declared.parameter.choices.HriPosition.{HriPosition}
use Rattle.escpos_command.specs.declared.parameter.choices.HriPosition.TheVariants as place
use Rattle.escpos_command.specs.declared.parameter.choices.Scale.{Scale}
use Rattle.escpos_paper.specs.declared.cell.Cell.{Cell}
use Rattle.escpos_paper.specs.declared.item.Item.TheVariants.{Row, Bars, Raster, Cut}
use Rattle.escpos_paper.specs.declared.style.BarStyle.{BarStyle}
use Rattle.escpos_picture.specs.BarItems.{stands_above, stands_below, bars_top}
use Rattle.escpos_picture.specs.Depths.{bars_bottom}
use Rattle.escpos_picture.specs.Groups.{base_line, row_start, cut_place}
use Rattle.escpos_picture.specs.Places.{face_height, cell_height, tallest, text_lines, downwards, depth, free_left, indent}
use Rattle.escpos_command.specs.declared.parameter.choices.Alignment.{Alignment}
use Rattle.escpos_command.specs.declared.parameter.choices.Alignment.TheVariants.{Left, Center, Right}
use Rattle.escpos_paper.specs.Dots.{area_dots, face_dots, lesser_width, margin_dots}
use Rattle.escpos_picture.specs.Rasters.{rows_of}

none_taller : (upside_down : Bool) (row : ℕ) (cells : List Cell) → tallest cells ≤ row
    → AllByRecursion (λ (x : Cell). (base_line upside_down (cell_height x) ≤ base_line upside_down row)
    × (base_line upside_down row + base_line (not upside_down) (cell_height x) ≤ 4 * row)) cells
none_taller upside_down row [] most = tt
none_taller true row (x ∷ xs) most =
    let first : cell_height x ≤ row = omega arith in
    let others : tallest xs ≤ row = omega arith in
    ((omega arith, omega arith), none_taller true row xs others)
none_taller false row (x ∷ xs) most =
    let first : cell_height x ≤ row = omega arith in
    let others : tallest xs ≤ row = omega arith in
    ((omega arith, omega arith), none_taller false row xs others)

pub rows_within : (line_dots : ℕ) (above : ℕ) (align : Placing) (upside_down : Bool) (cells : List Cell)
    → AllByRecursion (λ (x : Cell). (base_line upside_down (cell_height x) ≤ base_line upside_down (tallest cells))
    × (base_line upside_down (tallest cells) + base_line (not upside_down) (cell_height x) ≤ depth line_dots above (Row align upside_down cells))) cells
rows_within line_dots above align upside_down cells = none_taller upside_down (tallest cells) cells (omega arith)

underline_within : (face : FontFace) (height underline : ℕ) → 1 ≤ height → underline ≤ 2
    → face_height face * height - 4 * underline + 4 * underline ≡ face_height face * height
underline_within A height underline some thin = omega arith
underline_within B height underline some thin = omega arith

pub underlines_within : (x : Cell) → x.style.turned ≡ false → 1 ≤ x.style.height → x.style.underline ≤ 2
    → cell_height x - 4 * x.style.underline + 4 * x.style.underline ≡ cell_height x
underlines_within x upright some thin =
    let height : cell_height x ≡ face_height x.style.font * x.style.height = ap (λ v. cond v (face_dots x.style.font * x.style.width) (face_height x.style.font * x.style.height)) upright in
    ap (λ n. n - 4 * x.style.underline + 4 * x.style.underline) height ∙ underline_within x.style.font x.style.height x.style.underline some thin ∙ sym height

row_count : (x y : ℕ) (dots : List ℕ) → length (rows_of x y dots) ≡ y
row_count x zero dots = refl
row_count x (suc y) dots = ap suc (row_count x y (drop x dots))

pub rasters_within : (line_dots : ℕ) (above : ℕ) (align : Placing) (scale : Scale) (x y : ℕ) (dots : List ℕ)
    → 4 * (downwards scale * length (rows_of x y dots)) ≡ depth line_dots above (Raster align scale x y dots)
rasters_within line_dots above align scale x y dots = ap (λ n. 4 * (downwards scale * n)) (row_count x y dots)

texts : (height : ℕ) (place : HriPosition) (face : FontFace)
    → 4 * (cond (stands_above place) (face_height face) 0 + height + cond (stands_below place) (face_height face) 0)
    ≡ 4 * (height + text_lines place * face_height face)
texts height place.Nowhere face = omega arith
texts height place.Above face = omega arith
texts height place.Below face = omega arith
texts height place.Both face = omega arith

pub bars_within : (line_dots : ℕ) (above : ℕ) (align : Placing) (symbology : Symbology) (style : BarStyle) (content : List ℕ) (added : Option ℕ)
    → 4 * (bars_top style + style.height + bars_bottom style)
    ≡ depth line_dots above (Bars align symbology style.height style.module_width style.place style.hri_font content added)
bars_within line_dots above align symbology style content added = texts style.height style.place style.hri_font

pub labels_within : (style : BarStyle) → (IsTrue (stands_above style.place) → bars_top style ≡ face_height style.hri_font)
    × (IsTrue (stands_below style.place) → bars_bottom style ≡ face_height style.hri_font)
labels_within style =
    (λ above. ap (λ v. cond v (face_height style.hri_font) 0) above, λ below. ap (λ v. cond v (face_height style.hri_font) 0) below)

pub cuts_within : (line_dots : ℕ) (above : ℕ) (partial : Bool) (feed : Option ℕ) → cut_place feed + 4 * 24 ≡ depth line_dots above (Cut partial feed)
cuts_within line_dots above partial None = refl
cuts_within line_dots above partial (Some n) = refl

pub across : (line_dots : ℕ) (align : Placing) (width : ℕ) → width ≤ line_dots → indent line_dots align width + width ≤ line_dots
across line_dots align width fits = omega (arith, fits)

free_most : (side : Alignment) (free : ℕ) → free_left side free ≤ free
free_most Left free = omega arith
free_most Center free = omega arith
free_most Right free = omega arith

area_most : (line_dots margin : ℕ) (width : Option ℕ) → lesser_width width (line_dots - margin) ≤ line_dots - margin
area_most line_dots margin None = omega arith
area_most line_dots margin (Some n) = omega arith

pub turned : (line_dots : ℕ) (align : Placing) (width : ℕ) → width ≤ area_dots line_dots align
    → (width ≤ row_start line_dots align true width)
    × (row_start line_dots align true width + row_start line_dots align false width ≡ 2 * margin_dots line_dots align + area_dots line_dots align)
turned line_dots align width fits =
    let free = free_most align.side (area_dots line_dots align - width) in
    let area = area_most line_dots align.margin align.width in
    (omega (arith, free, area, fits), omega (arith, free, area, fits))

pub turned_on_line : (line_dots : ℕ) (align : Placing) (width : ℕ) → width ≤ line_dots
    → (width ≤ row_start line_dots align true width) × (row_start line_dots align true width ≤ line_dots)
turned_on_line line_dots align width fits = (omega (arith, fits), omega (arith, fits))
