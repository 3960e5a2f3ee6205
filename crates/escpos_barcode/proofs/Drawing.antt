-- What is drawn in two parts is drawn as one.
use Rattle.std.proofs.Common.{◌≡◌, ℕ, ◌+◌, ◌<◌, ◌≤◌, ◌⊎◌, inl, inr, List, [], ◌∷◌, ◌++◌, length, get_or, drop, map, refl, sym, ap, ◌∙◌, arith, append_assoc, append-nil, Option, Some, None, add-one, drop-cons, true, false, Bool}
use Rattle.std.specs.Prelude.{flat_map, sum, is_some, if◌then◌else◌}
use Rattle.std.proofs.lemmas.Bool.Decides.{leb_tells}
use Rattle.std.proofs.lemmas.List.Sums.{sum_by-append}
use Rattle.std.proofs.Math.ListN.{drop_of_length-le}
use Rattle.escpos_command.specs.declared.bars.Symbology.{Symbology}
use Rattle.escpos_barcode.specs.Drawn.{element_dots, fitting, is_module}
use Rattle.escpos_barcode.specs.Chains.{given}
use Rattle.escpos_barcode.specs.Pen.{Drawing, put, more, add, draw, attempt, blank}

pub map_append : (f : ℕ → ℕ) (xs ys : List ℕ) → map f (xs ++ ys) ≡ map f xs ++ map f ys
map_append f [] ys = refl
map_append f (x ∷ xs) ys = ap (λ zs. f x ∷ zs) (map_append f xs ys)

more_append : (line_dots : ℕ) (o : Option (List ℕ)) (xs ys : List ℕ) → more line_dots o (xs ++ ys) ≡ more line_dots (more line_dots o xs) ys
more_append line_dots o [] ys = refl
more_append line_dots o (x ∷ xs) ys = more_append line_dots (put line_dots o x) xs ys

pub draw_append : (d : Drawing) (xs ys : List ℕ) → draw d (xs ++ ys) ≡ draw (draw d xs) ys
draw_append d xs ys =
    let e = map_append (element_dots d.symbology d.module_width) xs ys in
    let f = more_append d.line_dots d.widths (map (element_dots d.symbology d.module_width) xs) (map (element_dots d.symbology d.module_width) ys) in
    ap (add d) e ∙ ap (λ o. record { line_dots = d.line_dots; symbology = d.symbology; module_width = d.module_width; widths = o }) f

pub draw_then : (d e f : Drawing) (xs ys : List ℕ) → e ≡ draw d xs → f ≡ draw e ys → f ≡ draw d (xs ++ ys)
draw_then d e f xs ys p q = q ∙ ap (λ v. draw v ys) p ∙ sym (draw_append d xs ys)

-- A step of a loop: what is left begins with a part, which is drawn.
pub draw_part : (start now next : Drawing) (whole left part more : List ℕ) → draw start whole ≡ draw now left → left ≡ part ++ more →
    next ≡ draw now part → draw start whole ≡ draw next more
draw_part start now next whole left part more so_far cut drawn =
    so_far ∙ ap (draw now) cut ∙ draw_append now part more ∙ ap (λ d. draw d more) (sym drawn)

-- A step of a loop that draws each of some patterns
pub draw_next : (f : ℕ → List ℕ) (start now next : Drawing) (xs : List ℕ) (i : ℕ) (part : List ℕ) → i < length xs →
    draw start (flat_map f xs) ≡ draw now (flat_map f (drop i xs)) → part ≡ f (get_or xs i 0) → next ≡ draw now part →
    draw start (flat_map f xs) ≡ draw next (flat_map f (drop (i + 1) xs))
draw_next f start now next xs i part h so_far here drawn =
    let cut = add-one i in
    let left : flat_map f (drop i xs) ≡ f (get_or xs i 0) ++ flat_map f (drop (i + 1) xs) = rw (cut, drop-cons xs i 0) refl in
    draw_part start now next (flat_map f xs) (flat_map f (drop i xs)) (f (get_or xs i 0)) (flat_map f (drop (i + 1) xs)) so_far left
    (drawn ∙ ap (draw now) here)

-- The end of a loop: nothing is left.
pub drawn_all : (f : ℕ → List ℕ) (start now : Drawing) (xs : List ℕ) (i : ℕ) → length xs ≤ i →
    draw start (flat_map f xs) ≡ draw now (flat_map f (drop i xs)) → now ≡ draw start (flat_map f xs)
drawn_all f start now xs i h so_far = sym (so_far ∙ ap (λ ys. draw now (flat_map f ys)) (drop_of_length-le xs h))

-- ## What fits

more_none : (line_dots : ℕ) (xs : List ℕ) → more line_dots None xs ≡ None
more_none line_dots [] = refl
more_none line_dots (x ∷ xs) = more_none line_dots xs

fits_or_not : (line_dots : ℕ) (ws : List ℕ) → ((fitting line_dots ws ≡ Some ws) × (sum ws ≤ line_dots)) ⊎ ((fitting line_dots ws ≡ None) × (line_dots < sum ws))
fits_or_not line_dots ws = elim (leb_tells (sum ws) line_dots) [
  | inl e ↦ inl (ap (λ (b : Bool). if b then Some ws else None) e.0, e.1)
  | inr e ↦ inr (ap (λ (b : Bool). if b then Some ws else None) e.0, e.1)
]

-- More than what is too wide is too wide.
too_wide : (line_dots : ℕ) (ws xs : List ℕ) → line_dots < sum ws → fitting line_dots (ws ++ xs) ≡ None
too_wide line_dots ws xs h = elim (fits_or_not line_dots (ws ++ xs)) [
  | inl e ↦ let total = sum_by-append (λ x. x) ws xs in let few = e.1 in absurd (omega arith)
  | inr e ↦ e.0
]

more_fitting : (line_dots : ℕ) (xs ws : List ℕ) → fitting line_dots ws ≡ Some ws → more line_dots (Some ws) xs ≡ fitting line_dots (ws ++ xs)
more_fitting line_dots [] ws h = sym (ap (fitting line_dots) (append-nil ws) ∙ h)
more_fitting line_dots (x ∷ xs) ws h = elim (fits_or_not line_dots (ws ++ x ∷ [])) [
  | inl e ↦ ap (λ o. more line_dots o xs) e.0 ∙ more_fitting line_dots xs (ws ++ x ∷ []) e.0 ∙ ap (fitting line_dots) (append_assoc ws (x ∷ []) xs)
  | inr e ↦ ap (λ o. more line_dots o xs) e.0 ∙ more_none line_dots xs ∙ sym (too_wide line_dots (ws ++ x ∷ []) xs e.1) ∙ ap (fitting line_dots) (append_assoc ws (x ∷ []) xs)
]

-- What is drawn on an empty line is there if all of it fits.
pub more_first : (line_dots : ℕ) (ws : List ℕ) → more line_dots (Some []) ws ≡ fitting line_dots ws
more_first line_dots ws = more_fitting line_dots ws [] (elim (fits_or_not line_dots []) [
  | inl e ↦ e.0
  | inr e ↦ let wide = e.1 in absurd (omega arith)
])

pub runs_drawn : (line_dots : ℕ) (symbology : Symbology) (module_width : ℕ) (o : Option (List ℕ)) (d : Drawing) → is_module module_width ≡ true → true ≡ is_some o →
    d ≡ attempt (blank line_dots symbology module_width) o →
    d.widths ≡ (if is_module module_width then given o (λ es. fitting line_dots (map (element_dots symbology module_width) es)) else None)
runs_drawn line_dots symbology module_width None d h k e = absurd cc
runs_drawn line_dots symbology module_width (Some es) d h k e =
    ap (λ (v : Drawing). v.widths) e ∙ more_first line_dots (map (element_dots symbology module_width) es)
    ∙ ap (λ (b : Bool). if b then fitting line_dots (map (element_dots symbology module_width) es) else None) (sym h)

pub not_drawn : (line_dots : ℕ) (symbology : Symbology) (module_width : ℕ) (o : Option (List ℕ)) → false ≡ is_some o →
    (if is_module module_width then given o (λ es. fitting line_dots (map (element_dots symbology module_width) es)) else None) ≡ None
not_drawn line_dots symbology module_width None k = elim (is_module module_width) as (λ b. ◌≡◌ {A = Option (List ℕ)} (if b then None else None) None) [ true ↦ refl | false ↦ refl ]
not_drawn line_dots symbology module_width (Some es) k = absurd cc
