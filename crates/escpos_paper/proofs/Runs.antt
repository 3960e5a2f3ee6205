-- Cells that follow one another in one style: how a run goes on, and its text.
use Rattle.std.proofs.Common.{◌≡◌, ◌-◌, zero, suc, ◌∷◌, [], ◌++◌, List, map, take, drop, refl, sym, ◌∙◌, ap, subst, append_assoc, take-append-drop, rules, arith, if◌then◌else◌, Bool, true, false, ℕ}
use Rattle.escpos_paper.specs.declared.cell.Cell.{Cell}
use Rattle.escpos_paper.specs.declared.style.Style.{Style}
use Rattle.escpos_paper.specs.Cells.{cell, BeginIn, FollowIn, IsRun}
use Rattle.escpos_command.proofs.Combinators.{number_itself}
use Rattle.escpos_paper.specs.Styles.{same_style, same_flag, same_face}
use Rattle.escpos_command.specs.declared.parameter.choices.FontFace.{FontFace}
use Rattle.escpos_command.specs.declared.parameter.choices.FontFace.TheVariants.{A, B}
use Rattle.escpos_paper.specs.ItemsText.{placed_text, style_text, byte_text, cells_text, run_text}

in_style : (s : Style) (bytes : List ℕ) → FollowIn s (map (cell s) bytes)
in_style s [] = tt
in_style s (b ∷ bytes) = (refl, in_style s bytes)

follow_on : (s : Style) (xs ys : List Cell) → FollowIn s xs → FollowIn s ys → FollowIn s (xs ++ ys)
follow_on s [] ys f g = g
follow_on s (x ∷ xs) ys f g = (f.0, follow_on s xs ys f.1 g)

-- A run goes on with characters in its style.
pub run_goes_on : (s : Style) (xs : List Cell) (bytes : List ℕ) → IsRun xs → BeginIn s xs → IsRun (xs ++ map (cell s) bytes)
run_goes_on s [] [] run begins = tt
run_goes_on s [] (b ∷ bytes) run begins = in_style s bytes
run_goes_on s (x ∷ xs) bytes run begins =
    follow_on x.style xs (map (cell s) bytes) run (subst (λ k. FollowIn x.style (map (cell k) bytes)) begins (in_style x.style bytes))

flag_itself : (b : Bool) → same_flag b b ≡ true
flag_itself true = refl
flag_itself false = refl

face_itself : (f : FontFace) → same_face f f ≡ true
face_itself A = refl
face_itself B = refl

itself : (s : Style) → same_style s s ≡ true
itself s = search (rules, flag_itself, face_itself, number_itself)

as_run : (margin : ℕ) (s : Style) (xs ys : List Cell) → FollowIn s xs → cells_text margin s (xs ++ ys) ≡ run_text xs ++ cells_text margin s ys
as_run margin s [] ys f = refl
as_run margin s (x ∷ xs) ys f =
    let next = append_assoc (byte_text x.byte) (run_text xs) (cells_text margin s ys) in
    let rest = as_run margin s xs ys f.1 in
    let now : placed_text margin s x ++ cells_text margin x.style (xs ++ ys) ≡ byte_text x.byte ++ cells_text margin s (xs ++ ys)
    = ap (λ (c : Cell). placed_text margin s c ++ cells_text margin c.style (xs ++ ys)) f.0
    ∙ ap (λ (b : Bool). ((if b then [] else style_text s) ++ byte_text x.byte) ++ cells_text margin s (xs ++ ys)) (itself s) in
    now ∙ ap (λ (t : List ℕ). byte_text x.byte ++ t) rest ∙ sym next

-- The text of a row whose first n cells are a run, from its second cell on.
pub run_first : (margin n : ℕ) (x : Cell) (xs : List Cell) → IsRun (take n (x ∷ xs))
    → cells_text margin x.style xs ≡ run_text (take (n - 1) xs) ++ cells_text margin x.style (drop (n - 1) xs)
run_first margin zero x xs run = refl
run_first margin (suc n) x xs run =
    let e : suc n - 1 ≡ n = omega arith in
    subst (λ k. cells_text margin x.style xs ≡ run_text (take k xs) ++ cells_text margin x.style (drop k xs)) (sym e)
    (ap (cells_text margin x.style) (sym (take-append-drop n xs)) ∙ as_run margin x.style (take n xs) (drop n xs) run)
