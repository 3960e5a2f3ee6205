-- Lines of tokens as they come.
use Rattle.std.proofs.Common.{◌≡◌, ℕ, ◌+◌, ◌≤◌, take, refl, List, [], ◌∷◌, ◌++◌, length, sym, ◌∙◌, ap, append_assoc, append-nil, arith, length-append}
use Rattle.std.specs.Prelude.{slice_index}
use Rattle.escpos_command.specs.declared.command.Command.TheVariants.{Char}
use Rattle.escpos_job_parts.specs.Lines.{command_line}
use Rattle.escpos_passed.specs.Reading.{text_tokens}
use Rattle.escpos_passed.specs.Table.{table, row_at}
use Rattle.escpos_passed.specs.Tokens.{Token, taken, passed, bytes_of, spell_tokens}
use Rattle.escpos_stream_jobs.specs.Check.{passed_line, token_lines}

-- The line of a token.
abbrev pub token_line : ℕ → Token → List ℕ
token_line place (taken c) = command_line place c
token_line place (passed i bs) = passed_line place (row_at table i) bs

first_line : (n : ℕ) (t : Token) (ts : List Token) → token_lines n (t ∷ ts) ≡ token_line n t ++ token_lines (n + length (bytes_of t)) ts
first_line n (taken c) ts = refl
first_line n (passed i bs) ts = refl

-- One more line.
lines_more : (n : ℕ) (ts : List Token) (t : Token) → token_lines n (ts ++ t ∷ []) ≡ token_lines n ts ++ token_line (n + length (spell_tokens ts)) t
lines_more n [] t = first_line n t [] ∙ append-nil (token_line n t) ∙ ap (λ m. token_line m t) (let e : n ≡ n + 0 = omega arith in e)
lines_more n (u ∷ ts) t =
    let place : n + length (bytes_of u) + length (spell_tokens ts) ≡ n + length (spell_tokens (u ∷ ts)) = omega (arith, length-append (bytes_of u) (spell_tokens ts)) in
    first_line n u (ts ++ t ∷ []) ∙ ap (λ v. token_line n u ++ v) (lines_more (n + length (bytes_of u)) ts t)
    ∙ sym (append_assoc (token_line n u) (token_lines (n + length (bytes_of u)) ts) (token_line (n + length (bytes_of u) + length (spell_tokens ts)) t))
    ∙ ap (λ v. v ++ token_line (n + length (bytes_of u) + length (spell_tokens ts)) t) (sym (first_line n u ts))
    ∙ ap (λ m. token_lines n (u ∷ ts) ++ token_line m t) place

-- One more line after other bytes.
pub lines_after : (total : List ℕ) (ts : List Token) (t : Token) (place : ℕ) → place ≡ length (spell_tokens ts)
    → (total ++ token_lines 0 ts) ++ token_line place t ≡ total ++ token_lines 0 (ts ++ t ∷ [])
lines_after total ts t place e =
    append_assoc total (token_lines 0 ts) (token_line place t)
    ∙ ap (λ v. total ++ v) (ap (λ n. token_lines 0 ts ++ token_line n t) (e ∙ (let z : length (spell_tokens ts) ≡ 0 + length (spell_tokens ts) = omega arith in z))
    ∙ sym (lines_more 0 ts t))

pub first_character : (text : List ℕ) → 1 ≤ length text → taken (Char (slice_index text 0)) ∷ [] ≡ text_tokens (take 1 text)
first_character [] some = absurd (omega arith)
first_character (b ∷ bs) some = refl
