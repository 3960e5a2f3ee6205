-- Places down the paper are sums of what the items before them take.
use Rattle.std.proofs.Common.{◌≡◌, ℕ, zero, suc, ◌+◌, ◌-◌, ◌*◌, ◌^◌, ◌<◌, ◌≤◌, List, [], ◌∷◌, ◌++◌, length, refl, sym, ◌∙◌, ap, arith, None, Some, Bool, true, false, cond, if◌then◌else◌}
use Rattle.std.specs.Prelude.{◌==◌, min, max, Option}
use Rattle.std.specs.List.{AllByRecursion}
use Rattle.std.proofs.lemmas.Bool.Decides.{nat_tests}
use Rattle.std.proofs.Math.Nat.{mul-le-mul}
use Rattle.escpos_command.specs.declared.parameter.choices.FontFace.{FontFace}
use Rattle.escpos_command.specs.declared.parameter.choices.FontFace.TheVariants.{A, B}
use Rattle.escpos_command.specs.declared.parameter.choices.HriPosition.{HriPosition}
use Rattle.escpos_command.specs.declared.parameter.choices.HriPosition.TheVariants as place
use Rattle.escpos_command.specs.declared.parameter.choices.Scale.{Scale}
use Rattle.escpos_command.specs.declared.parameter.choices.Scale.TheVariants as scale
use Rattle.escpos_paper.specs.Dots.{face_dots}
use Rattle.escpos_paper.specs.declared.cell.Cell.{Cell}
use Rattle.escpos_paper.specs.declared.item.Item.{Item}
use Rattle.escpos_paper.specs.declared.item.Item.TheVariants.{Row, Feed, FeedUnits, Bars, Raster, Qr, Cut}
use Rattle.escpos_picture.specs.declared.pen.TheConstants.{DEEPEST, MARGIN}
use Rattle.escpos_picture.specs.Places.{Place, top, place_after, place_after_all, depth, row_above, face_height, cell_height, tallest, text_lines, downwards, feed_depth}
use Rattle.escpos_barcode.specs.QrSizes.{qr_modules}
use Rattle.escpos_command.specs.declared.line_width.TheConstants.{MOST_LINE_DOTS}
use Rattle.escpos_picture.specs.declared.qr.TheConstants.{BOX_HEIGHT}
use Rattle.escpos_picture.specs.QrSides.{dots_of, height_of}
use Rattle.escpos_picture.specs.Depths.{depths, row_above_next, HasSizes}
use Rattle.escpos_picture.specs.Document.{paper_height}
use Rattle.escpos_picture.specs.Groups.{drawing, drawing_at, drawings}
use Rattle.escpos_picture.proofs.Turns.{places_in_turn, drawings_in_turn}

-- ## Sums

-- Each place is on a line of the same width.
line_kept : (place : Place) (items : List Item) → (place_after_all place items).line_dots ≡ place.line_dots
line_kept place [] = refl
line_kept place (item ∷ items) = line_kept (place_after place item) items

place_is : (line_dots : ℕ) (down above : ℕ) (items : List Item) → down + depths line_dots above items ≤ DEEPEST
    → (place_after_all (record { line_dots = line_dots; down = down; above = above }) items).down ≡ down + depths line_dots above items
place_is line_dots down above [] fits = omega arith
place_is line_dots down above (item ∷ items) fits =
    let near : min (down + depth line_dots above item) DEEPEST ≡ down + depth line_dots above item = omega arith in
    let rest : down + depth line_dots above item + depths line_dots (row_above item) items ≤ DEEPEST = omega arith in
    let sums : down + depth line_dots above item + depths line_dots (row_above item) items ≡ down + (depth line_dots above item + depths line_dots (row_above item) items) = omega arith in
    ap (λ n. (place_after_all (record { line_dots = line_dots; down = n; above = row_above item }) items).down) near
    ∙ place_is line_dots (down + depth line_dots above item) (row_above item) items rest ∙ sums

pub places_are_sums : (line_dots : ℕ) (items : List Item) → depths line_dots 0 items ≤ DEEPEST → (place_after_all (top line_dots) items).down ≡ depths line_dots 0 items
places_are_sums line_dots items fits =
    let plain : 0 + depths line_dots 0 items ≤ DEEPEST = omega arith in
    let same : 0 + depths line_dots 0 items ≡ depths line_dots 0 items = omega arith in
    place_is line_dots 0 0 items plain ∙ same

pub depths_in_turn : (line_dots : ℕ) (above : ℕ) (front : List Item) (item : Item)
    → depths line_dots above (front ++ item ∷ []) ≡ depths line_dots above front + depth line_dots (row_above_next above front) item
depths_in_turn line_dots above [] item = omega arith
depths_in_turn line_dots above (x ∷ xs) item =
    let rest = depths_in_turn line_dots (row_above x) xs item in
    omega arith

pub drawn_at_sum : (line_dots : ℕ) (front : List Item) (item : Item) (more : List Item) → depths line_dots 0 front ≤ DEEPEST
    → drawings (top line_dots) (front ++ item ∷ more)
    ≡ drawings (top line_dots) front ++ (drawing_at line_dots (depths line_dots 0 front) item ++ drawings (place_after_all (top line_dots) (front ++ item ∷ [])) more)
unfolding drawings drawing
drawn_at_sum line_dots front item more fits =
    drawings_in_turn (top line_dots) front (item ∷ more)
    ∙ ap (λ w. drawings (top line_dots) front ++ (drawing_at w (place_after_all (top line_dots) front).down item ++ drawings (place_after (place_after_all (top line_dots) front) item) more)) (line_kept (top line_dots) front)
    ∙ ap (λ n. drawings (top line_dots) front ++ (drawing_at line_dots n item ++ drawings (place_after (place_after_all (top line_dots) front) item) more)) (places_are_sums line_dots front fits)
    ∙ ap (λ p. drawings (top line_dots) front ++ (drawing_at line_dots (depths line_dots 0 front) item ++ drawings p more)) (sym (places_in_turn (top line_dots) front (item ∷ [])))

pub height_is_sum : (line_dots : ℕ) (items : List Item) → depths line_dots 0 items ≤ DEEPEST
    → paper_height (place_after_all (top line_dots) items).down ≡ 4 * MARGIN + depths line_dots 0 items + 4 * MARGIN
height_is_sum line_dots items fits =
    let is = places_are_sums line_dots items fits in
    omega arith

-- ## Few items

face_small : (turned : Bool) (face : FontFace) (height width : ℕ) → height < 256 → width < 256
    → (if turned then face_dots face * width else face_height face * height) ≤ 6120
face_small true A height width low narrow = omega arith
face_small true B height width low narrow = omega arith
face_small false A height width low narrow = omega arith
face_small false B height width low narrow = omega arith

tallest_small : (cells : List Cell) → AllByRecursion (λ (x : Cell). (x.style.height < 256) × (x.style.width < 256)) cells → tallest cells ≤ 6120
tallest_small [] small = omega arith
tallest_small (x ∷ xs) small =
    let first : cell_height x ≤ 6120 = face_small x.style.turned x.style.font x.style.height x.style.width small.0.0 small.0.1 in
    let others = tallest_small xs small.1 in
    omega arith

texts_small : (place : HriPosition) (face : FontFace) → text_lines place * face_height face ≤ 48
texts_small place.Nowhere A = omega arith
texts_small place.Nowhere B = omega arith
texts_small place.Above A = omega arith
texts_small place.Above B = omega arith
texts_small place.Below A = omega arith
texts_small place.Below B = omega arith
texts_small place.Both A = omega arith
texts_small place.Both B = omega arith

rows_small : (s : Scale) (y : ℕ) → y < 65536 → downwards s * y ≤ 131070
rows_small scale.Normal y small = omega arith
rows_small scale.Wide y small = omega arith
rows_small scale.Tall y small = omega arith
rows_small scale.Both y small = omega arith

lines_small : (line n : ℕ) → line ≤ 510 → n ≤ 254 → line * n ≤ 129540
lines_small line n shallow few = let most = mul-le-mul shallow few in omega arith

not_zero : (n : ℕ) → (suc n == 0) ≡ false
not_zero n = grind (arith, nat_tests)

feed_small : (line above n : ℕ) → line ≤ 510 → n < 256 → feed_depth line above n ≤ 130050
feed_small line above zero shallow few = let none : feed_depth line above zero ≡ 0 = refl in omega arith
feed_small line above (suc n) shallow few =
    let sum : feed_depth line above (suc n) ≡ (line - 4 * above) + line * (suc n - 1) =
    ap (λ v. cond v 0 ((line - 4 * above) + line * (suc n - 1))) (not_zero n) in
    let others = lines_small line (suc n - 1) shallow (omega arith) in
    omega arith

side_small : (line_dots : ℕ) (size : ℕ) (modules : Option ℕ) → height_of (dots_of line_dots size modules) ≤ max line_dots BOX_HEIGHT
side_small line_dots size None = omega arith
side_small line_dots size (Some n) = grind (arith, nat_tests)

depth_small : (line_dots : ℕ) (above : ℕ) (item : Item) → line_dots ≤ MOST_LINE_DOTS → HasSizes item → depth line_dots above item ≤ 524280
depth_small line_dots above (Row align upside_down cells) narrow small = let row = tallest_small cells small in omega arith
depth_small line_dots above (Feed n None) narrow small = let feed = feed_small 120 above n (omega arith) small in omega arith
depth_small line_dots above (Feed n (Some units)) narrow small = let feed = feed_small (2 * units) above n (let few = small.1 in omega arith) small.0 in omega arith
depth_small line_dots above (FeedUnits n) narrow small = omega arith
depth_small line_dots above (Bars align symbology height width place face content added) narrow small = let texts = texts_small place face in omega arith
depth_small line_dots above (Raster align s x y dots) narrow small = let rows = rows_small s y small in omega arith
depth_small line_dots above (Qr align model size level content) narrow small = let side = side_small line_dots size (qr_modules level content) in omega arith
depth_small line_dots above (Cut partial None) narrow small = omega arith
depth_small line_dots above (Cut partial (Some n)) narrow small = omega arith

depths_small : (line_dots : ℕ) (above : ℕ) (items : List Item) → line_dots ≤ MOST_LINE_DOTS → AllByRecursion HasSizes items → depths line_dots above items ≤ 524280 * length items
depths_small line_dots above [] narrow small = omega arith
depths_small line_dots above (item ∷ items) narrow small =
    let first = depth_small line_dots above item narrow small.0 in
    let others = depths_small line_dots (row_above item) items narrow small.1 in
    omega arith

pub few_fit : (line_dots : ℕ) (items : List Item) → line_dots ≤ MOST_LINE_DOTS → AllByRecursion HasSizes items → length items ≤ 2 ^ 40 → depths line_dots 0 items ≤ DEEPEST
few_fit line_dots items narrow small few =
    let sum = depths_small line_dots 0 items narrow small in
    omega arith
