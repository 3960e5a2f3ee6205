-- The lines of receipts, one after another.
use Rattle.std.proofs.Common.{◌≡◌, ℕ, ◌+◌, ◌<◌, ◌≤◌, List, [], ◌∷◌, ◌++◌, length, take, drop, get_or, sym, ◌∙◌, ap, append-nil, append_assoc, add-one, arith}
use Rattle.std.proofs.lemmas.List.{length-take-le, take-append-drop}
use Rattle.std.proofs.Math.Seq.{take-suc}
use Rattle.escpos_till.specs.declared.state.ReceiptState.{ReceiptState}
use Rattle.escpos_till_jobs.specs.Lines.{state_line, state_lines}

parted : (n : ℕ) (ss more : List ReceiptState) → state_lines n (ss ++ more) ≡ state_lines n ss ++ state_lines (n + length ss) more
parted n [] more =
    let none : n ≡ n + 0 = omega arith in
    ap (λ m. state_lines m more) none
parted n (s ∷ ss) more =
    let count : (n + 1) + length ss ≡ n + length (s ∷ ss) = omega arith in
    ap (λ t. state_line n s ++ t) (parted (n + 1) ss more ∙ ap (λ m. state_lines (n + 1) ss ++ state_lines m more) count)
    ∙ sym (append_assoc (state_line n s) (state_lines (n + 1) ss) (state_lines (n + length (s ∷ ss)) more))

-- One more line.
pub one_more_line : (n : ℕ) (ss : List ReceiptState) (at : ℕ) (s : ReceiptState) → at < length ss
    → state_lines n (take (at + 1) ss) ≡ state_lines n (take at ss) ++ state_line (n + at) (get_or ss at s)
one_more_line n ss at s inside =
    let count : n + length (take at ss) ≡ n + at = ap (λ m. n + m) (length-take-le at ss (omega (arith, inside))) in
    ap (state_lines n) (ap (λ m. take m ss) (add-one at) ∙ take-suc ss at s inside) ∙ parted n (take at ss) (get_or ss at s ∷ [])
    ∙ ap (λ m. state_lines n (take at ss) ++ (state_line m (get_or ss at s) ++ [])) count ∙ ap (λ v. state_lines n (take at ss) ++ v) (append-nil (state_line (n + at) (get_or ss at s)))

-- The lines so far, and those that follow.
pub lines_and_rest : (n : ℕ) (ss : List ReceiptState) (i : ℕ) → i ≤ length ss → state_lines n ss ≡ state_lines n (take i ss) ++ state_lines (n + i) (drop i ss)
lines_and_rest n ss i inside =
    let count : n + length (take i ss) ≡ n + i = ap (λ m. n + m) (length-take-le i ss inside) in
    ap (state_lines n) (sym (take-append-drop i ss)) ∙ parted n (take i ss) (drop i ss)
    ∙ ap (λ m. state_lines n (take i ss) ++ state_lines m (drop i ss)) count
