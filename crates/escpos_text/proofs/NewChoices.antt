-- A choice of some tables.
use Rattle.std.proofs.Common.{◌≡◌, ℕ, ◌≤◌, List, ◌++◌, drop, length, ap, ◌∙◌, arith, length-append, length-drop}
use Rattle.std.specs.Prelude.{replicate}
use Rattle.std.proofs.Math.Seq.{drop-append_seam}
use Rattle.std.proofs.lemmas.List.{length-replicate, drop-replicate}
use Rattle.escpos_text.specs.Choices.{IsChoice}

pub new_choice : (tables front : List ℕ) → front ≡ tables → length tables ≤ 32 → IsChoice (front ++ drop (length tables) (replicate 32 0)) (length tables)
new_choice tables front same short =
    let n = length tables in
    let joined : front ++ drop n (replicate 32 0) ≡ tables ++ drop n (replicate 32 0) = ap (λ xs. xs ++ drop n (replicate 32 0)) same in
    let long : length (tables ++ drop n (replicate 32 0)) ≡ 32 =
    length-append tables (drop n (replicate 32 0)) ∙ omega (arith, length-drop {A = ℕ} n (replicate 32 0), length-replicate {A = ℕ} 32 0) in
    (short, ap length joined ∙ long, ap (drop n) joined ∙ drop-append_seam tables (drop n (replicate 32 0)) ∙ drop-replicate n 32 0)
