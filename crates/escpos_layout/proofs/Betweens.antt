-- Lines with text at both ends, written in parts.
use Rattle.std.proofs.Common.{◌≡◌, ◌≢◌, ℕ, ◌+◌, ◌-◌, ◌==◌, Bool, true, false, cond, List, [], ◌∷◌, ◌++◌, length, refl, sym, ap, ◌∙◌, arith, eqb-true, eq-eqb}
use Rattle.escpos_text.specs.declared.encoding.Encoding.{Encoding}
use Rattle.escpos_text.specs.declared.encoding.TextFault.{TextFault}
use Rattle.escpos_text.specs.Writing.{written}
use Rattle.escpos_layout.specs.Layouts.{blanks, between, fit_together, together}
use Rattle.escpos_layout.specs.Writing.{Stops}
use Rattle.escpos_layout.proofs.Parts.{TextsJoin, text_stops}

-- Without text at its end.
pub between-none : (columns : ℕ) (left right : List ℕ) → length right ≡ 0 → left ≡ between columns left right
between-none columns left [] h = refl
between-none columns left (c ∷ cs) h = absurd (omega arith)

-- With text there.
pub between-some : (columns : ℕ) (left right : List ℕ) → length right ≢ 0 → (left ++ blanks (columns - length left - length right)) ++ right ≡ between columns left right
between-some columns left [] h = absurd (h refl)
between-some columns left (c ∷ cs) h =
    let room : columns - length left - length (c ∷ cs) ≡ columns - (length left + length (c ∷ cs)) = omega arith in
    ap (λ n. (left ++ blanks n) ++ c ∷ cs) room

-- A line is refused at the text at its beginning.
pub left_stops : TextsJoin → (e now : Encoding) (columns : ℕ) (left right bytes more : List ℕ) (fault : TextFault)
    → Stops (written e left) e bytes more now fault → Stops (written e (between columns left right)) e bytes more now fault
left_stops join e now columns left [] bytes more fault s = s
left_stops join e now columns left (c ∷ cs) bytes more fault s =
    text_stops join e now (left ++ blanks (columns - (length left + length (c ∷ cs)))) (c ∷ cs) bytes more fault
    (text_stops join e now left (blanks (columns - (length left + length (c ∷ cs)))) bytes more fault s)

-- Texts that stand on one line, and texts that don't.
pub together-one : (columns : ℕ) (left right : List ℕ) → fit_together columns left right ≡ true → between columns left right ∷ [] ≡ together columns left right
together-one columns left right h = sym (ap (λ b. cond b (between columns left right ∷ []) (left ∷ between columns [] right ∷ [])) h)

pub together-two : (columns : ℕ) (left right : List ℕ) → fit_together columns left right ≡ false → left ∷ between columns [] right ∷ [] ≡ together columns left right
together-two columns left right h = sym (ap (λ b. cond b (between columns left right ∷ []) (left ∷ between columns [] right ∷ [])) h)

-- What the test of a length says.
pub none_there : (text : List ℕ) (b : Bool) → b ≡ (length text == 0) → b ≡ true → length text ≡ 0
none_there text b is h = eqb-true (length text) 0 (sym is ∙ h)

pub some_there : (text : List ℕ) (b : Bool) → b ≡ (length text == 0) → b ≡ false → length text ≢ 0
some_there text b is h e = let clash : false ≡ true = sym h ∙ is ∙ eq-eqb (length text) 0 e in absurd cc
