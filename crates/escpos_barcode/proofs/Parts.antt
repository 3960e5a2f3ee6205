-- What is left of lists that are walked together, or two by two.
use Rattle.std.proofs.Common.{◌≡◌, ℕ, ◌+◌, ◌-◌, ◌*◌, ◌<◌, List, [], ◌∷◌, ◌++◌, length, get_or, drop, map, refl, sym, ap, ◌∙◌, arith, append-nil, add-one, drop-cons}
use Rattle.std.specs.Prelude.{flat_map}
use Rattle.std.proofs.lemmas.Grind.{flat_map-append}
use Rattle.escpos_barcode.specs.Elements.{in_sets, interleaved, pairs, spaced, upper, code39_elements, code93_bars, code128_elements}
use Rattle.escpos_barcode.specs.Code128.{check_value}
use Rattle.escpos_barcode.specs.Tables.{row, left_digits, itf_digits, code39_table, codabar_table, code93_table, code128_table}
use Rattle.escpos_barcode.specs.Pen.{Drawing, draw}
use Rattle.escpos_barcode.proofs.Drawing.{draw_then}

-- A list from a place on, where it has an element there
pub from_place : {A : Type 0} (xs : List A) (i : ℕ) (d : A) → i < length xs → drop i xs ≡ get_or xs i d ∷ drop (i + 1) xs
from_place xs i d h = rw (add-one i, drop-cons xs i d) refl

pub left_sets : (sets digits : List ℕ) (i : ℕ) → i < length sets → i < length digits →
    flat_map (row left_digits) (in_sets (drop i sets) (drop i digits))
    ≡ row left_digits (10 * get_or sets i 0 + (get_or digits i 0 - 0x30)) ++ flat_map (row left_digits) (in_sets (drop (i + 1) sets) (drop (i + 1) digits))
left_sets sets digits i h k = rw (from_place sets i 0 h, from_place digits i 0 k) refl

pub left_elements : (bars spaces : List ℕ) (i : ℕ) → i < length bars → i < length spaces →
    interleaved (drop i bars) (drop i spaces) ≡ (get_or bars i 0 ∷ get_or spaces i 0 ∷ []) ++ interleaved (drop (i + 1) bars) (drop (i + 1) spaces)
left_elements bars spaces i h k = rw (from_place bars i 0 h, from_place spaces i 0 k) refl

pub left_pairs : (digits : List ℕ) (i : ℕ) → 2 * i + 1 < length digits →
    pairs (drop (2 * i) digits)
    ≡ interleaved (row itf_digits (get_or digits (2 * i) 0)) (row itf_digits (get_or digits (2 * i + 1) 0)) ++ pairs (drop (2 * (i + 1)) digits)
left_pairs digits i h =
    let first : 2 * i < length digits = omega arith in
    let next : 2 * (i + 1) ≡ 2 * i + 1 + 1 = omega arith in
    rw (next, from_place digits (2 * i) 0 first, from_place digits (2 * i + 1) 0 h) refl

-- CODE39 is an asterisk, and the characters and another asterisk after narrow spaces.
pub code39_drawn : (pen first all last : Drawing) (content : List ℕ) → first ≡ draw pen (row code39_table 0x2A) →
    all ≡ draw first (flat_map (λ t. 1 ∷ row code39_table t) content) → last ≡ draw all (1 ∷ row code39_table 0x2A) →
    last ≡ draw pen (code39_elements content)
code39_drawn pen first all last content p q r =
    let end : flat_map (λ t. 1 ∷ row code39_table t) (content ++ 0x2A ∷ []) ≡ flat_map (λ t. 1 ∷ row code39_table t) content ++ (1 ∷ row code39_table 0x2A)
    = flat_map-append (λ t. 1 ∷ row code39_table t) content (0x2A ∷ []) ∙ ap (λ e. flat_map (λ t. 1 ∷ row code39_table t) content ++ e) (append-nil (1 ∷ row code39_table 0x2A)) in
    draw_then pen first last (row code39_table 0x2A) (flat_map (λ t. 1 ∷ row code39_table t) (content ++ 0x2A ∷ [])) p
    (draw_then first all last (flat_map (λ t. 1 ∷ row code39_table t) content) (1 ∷ row code39_table 0x2A) q r ∙ ap (draw first) (sym end))

-- CODABAR is its first character, and the others after narrow spaces.
flat_map_map : (f : ℕ → List ℕ) (g : ℕ → ℕ) (xs : List ℕ) → flat_map f (map g xs) ≡ flat_map (λ x. f (g x)) xs
flat_map_map f g [] = refl
flat_map_map f g (x ∷ xs) = ap (λ e. f (g x) ++ e) (flat_map_map f g xs)

pub codabar_drawn : (pen start last : Drawing) (first : ℕ) (more content : List ℕ) → content ≡ first ∷ more → start ≡ draw pen (row codabar_table (upper first)) →
    last ≡ draw start (flat_map (λ t. 1 ∷ row codabar_table (upper t)) more) → last ≡ draw pen (spaced codabar_table (map upper content))
codabar_drawn pen start last first more content e p q =
    draw_then pen start last (row codabar_table (upper first)) (flat_map (λ t. 1 ∷ row codabar_table t) (map upper more)) p
    (q ∙ ap (draw start) (sym (flat_map_map (λ t. 1 ∷ row codabar_table t) upper more)))
    ∙ ap (λ xs. draw pen (spaced codabar_table (map upper xs))) (sym e)

-- CODE93 is its start, its values, and its stop with the last bar.
pub code93_drawn : (pen start all stop last : Drawing) (values : List ℕ) → start ≡ draw pen (row code93_table 47) → all ≡ draw start (flat_map (row code93_table) values) →
    stop ≡ draw all (row code93_table 47) → last ≡ draw stop (1 ∷ []) → last ≡ draw pen (code93_bars values)
code93_drawn pen start all stop last values p q r s =
    let end : flat_map (row code93_table) (values ++ 47 ∷ []) ≡ flat_map (row code93_table) values ++ row code93_table 47
    = flat_map-append (row code93_table) values (47 ∷ []) ∙ ap (λ e. flat_map (row code93_table) values ++ e) (append-nil (row code93_table 47)) in
    draw_then pen stop last (flat_map (row code93_table) (47 ∷ values ++ 47 ∷ [])) (1 ∷ [])
    (draw_then pen start stop (row code93_table 47) (flat_map (row code93_table) (values ++ 47 ∷ [])) p
    (draw_then start all stop (flat_map (row code93_table) values) (row code93_table 47) q r ∙ ap (draw start) (sym end))) s

-- CODE128 is its values, the check character and the stop character with its last bar.
pub code128_drawn : (pen all check stop last : Drawing) (values : List ℕ) → all ≡ draw pen (flat_map (row code128_table) values) →
    check ≡ draw all (row code128_table (check_value values)) → stop ≡ draw check (row code128_table 106) → last ≡ draw stop (2 ∷ []) →
    last ≡ draw pen (code128_elements values)
code128_drawn pen all check stop last values p q r s =
    let end : flat_map (row code128_table) (values ++ check_value values ∷ 106 ∷ []) ≡ flat_map (row code128_table) values ++ (row code128_table (check_value values) ++ row code128_table 106)
    = flat_map-append (row code128_table) values (check_value values ∷ 106 ∷ [])
    ∙ ap (λ e. flat_map (row code128_table) values ++ (row code128_table (check_value values) ++ e)) (append-nil (row code128_table 106)) in
    draw_then pen stop last (flat_map (row code128_table) (values ++ check_value values ∷ 106 ∷ [])) (2 ∷ [])
    (draw_then pen all stop (flat_map (row code128_table) values) (row code128_table (check_value values) ++ row code128_table 106) p
    (draw_then all check stop (row code128_table (check_value values)) (row code128_table 106) q r)
    ∙ ap (draw pen) (sym end)) s
