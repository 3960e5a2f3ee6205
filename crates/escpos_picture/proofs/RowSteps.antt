-- The text of a row byte by byte, and the dots that its spans pass.
use Rattle.std.proofs.Common.{◌≡◌, ℕ, zero, suc, ◌+◌, ◌*◌, ◌≤◌, arith, take, List, [], ◌∷◌, ◌++◌, refl, sym, ◌∙◌, ap, append_assoc, append-nil, Bool, true, false, cond, length}
use Rattle.std.specs.Prelude.{◌==◌, map}
use Rattle.std.proofs.lemmas.Grind.{flat_map-append}
use Rattle.std.proofs.lemmas.Bool.Decides.{nat_tests}
use Rattle.escpos_picture.specs.Spans.{Span, span, with_dot, spans, span_text, spans_text, byte_dots, byte_spans_text, white_span, row_spans, passed}
use Rattle.escpos_picture.specs.Steps.{Step, along, step_text, steps_text}
use Rattle.escpos_picture.specs.Rasters.{row_end, row_steps}
use Rattle.escpos_picture.specs.ByteSpans.{white_text, byte_step, white_after}

pub not_zero : (b : ℕ) → (b ≡ 0 → ⊥) → (b == 0) ≡ false
not_zero zero some = absurd (some refl)
not_zero (suc n) some = grind (arith, nat_tests)

-- ## Text

-- The text of spans in turn
in_turn : (front : List Span) (b : ℕ) (rest : List Span)
    → spans_text (front ++ spans (byte_dots b) ++ rest) ≡ (spans_text front ++ byte_spans_text b) ++ spans_text rest
in_turn front b rest =
    flat_map-append (λ (s : Span). span_text s) (front ++ spans (byte_dots b)) rest
    ∙ ap (λ t. t ++ spans_text rest) (flat_map-append (λ (s : Span). span_text s) front (spans (byte_dots b)))

pub black_text : (white b : ℕ) (bytes : List ℕ) → (b ≡ 0 → ⊥)
    → spans_text (row_spans white (b ∷ bytes)) ≡ (spans_text (white_span white) ++ byte_spans_text b) ++ spans_text (row_spans 0 bytes)
black_text white b bytes some =
    ap (λ v. spans_text (cond v (row_spans (white + 8) bytes) (white_span white ++ spans (byte_dots b) ++ row_spans 0 bytes))) (not_zero b some)
    ∙ in_turn (white_span white) b (row_spans 0 bytes)

pub next_text : (white b : ℕ) (bytes : List ℕ)
    → spans_text (row_spans (8 * white) (b ∷ bytes)) ≡ byte_step white b ++ spans_text (row_spans (8 * white_after white b) bytes)
next_text white zero bytes =
    let more : 8 * white + 8 ≡ 8 * (white + 1) = omega arith in
    ap (λ n. spans_text (row_spans n bytes)) more
next_text white (suc b) bytes =
    let some : suc b ≡ 0 → ⊥ = λ e. absurd (omega (arith, e)) in
    black_text (8 * white) (suc b) bytes some
    ∙ ap (λ v. cond v [] (white_text white ++ byte_spans_text (suc b)) ++ spans_text (row_spans (8 * cond v (white + 1) 0) bytes)) (sym (not_zero (suc b) some))

-- A row with its end
along_text : (ss : List Span) → steps_text (map (λ s. along s) ss) ≡ spans_text ss
along_text [] = refl
along_text (s ∷ ss) = ap (λ t. span_text s ++ t) (along_text ss)

pub row_text : (is_last : Bool) (bytes : List ℕ)
    → steps_text (row_steps is_last bytes) ≡ spans_text (row_spans 0 bytes) ++ step_text (row_end is_last (passed (row_spans 0 bytes)))
row_text is_last bytes =
    let ss = row_spans 0 bytes in
    let end = row_end is_last (passed ss) in
    flat_map-append (λ (s : Step). step_text s) (map (λ s. along s) ss) (end ∷ [])
    ∙ ap (λ t. t ++ steps_text (end ∷ [])) (along_text ss)
    ∙ ap (λ t. spans_text ss ++ t) (append-nil (step_text end))

-- Texts are counted if the byte has a black dot.
pub counted_text : (waiting : List ℕ) (black white b white_length length_of : ℕ) (white_places places : List ℕ) → (b ≡ 0 → black ≡ 0) → ((b ≡ 0 → ⊥) → black ≡ 1)
    → take white_length white_places ≡ white_text white → take length_of places ≡ byte_spans_text b
    → (waiting ++ take (black * white_length) white_places) ++ take (black * length_of) places ≡ waiting ++ byte_step white b
counted_text waiting black white zero white_length length_of white_places places none some before own =
    let is = none refl in
    let first : black * white_length ≡ 0 = ap (λ n. n * white_length) is ∙ omega arith in
    let second : black * length_of ≡ 0 = ap (λ n. n * length_of) is ∙ omega arith in
    ap (λ n. (waiting ++ take n white_places) ++ take (black * length_of) places) first
    ∙ ap (λ n. (waiting ++ []) ++ take n places) second
    ∙ append-nil (waiting ++ [])
counted_text waiting black white (suc b) white_length length_of white_places places none some before own =
    let there : suc b ≡ 0 → ⊥ = λ e. absurd (omega (arith, e)) in
    let is = some there in
    let first : black * white_length ≡ white_length = ap (λ n. n * white_length) is ∙ omega arith in
    let second : black * length_of ≡ length_of = ap (λ n. n * length_of) is ∙ omega arith in
    ap (λ n. (waiting ++ take n white_places) ++ take (black * length_of) places) first
    ∙ ap (λ n. (waiting ++ take white_length white_places) ++ take n places) second
    ∙ ap (λ t. (waiting ++ t) ++ take length_of places) before
    ∙ ap (λ t. (waiting ++ white_text white) ++ t) own
    ∙ append_assoc waiting (white_text white) (byte_spans_text (suc b))
    ∙ ap (λ v. waiting ++ cond v [] (white_text white ++ byte_spans_text (suc b))) (sym (not_zero (suc b) there))

-- ## Dots

pub passed-append : (xs ys : List Span) → passed (xs ++ ys) ≡ passed xs + passed ys
passed-append [] ys = omega arith
passed-append (x ∷ xs) ys = let others = passed-append xs ys in omega arith

-- Each dot is in a span.
one_more : (dot is_black : Bool) (dots : ℕ) (ss : List Span) → passed (with_dot dot (span is_black dots ∷ ss)) ≡ suc (dots + passed ss)
one_more true true dots ss = omega arith
one_more true false dots ss = omega arith
one_more false true dots ss = omega arith
one_more false false dots ss = omega arith

counted : (dot : Bool) (ss : List Span) → passed (with_dot dot ss) ≡ suc (passed ss)
counted dot [] = refl
counted dot (s ∷ ss) = one_more dot s.is_black s.dots ss

pub all_counted : (dots : List Bool) → passed (spans dots) ≡ length dots
all_counted [] = refl
all_counted (dot ∷ dots) = counted dot (spans dots) ∙ ap (λ n. suc n) (all_counted dots)

white_passed : (white : ℕ) → passed (white_span white) ≡ white
white_passed zero = refl
white_passed (suc n) = omega arith

pub black_passed : (white b : ℕ) (bytes : List ℕ) → (b ≡ 0 → ⊥) → passed (row_spans white (b ∷ bytes)) ≡ white + 8 + passed (row_spans 0 bytes)
black_passed white b bytes some =
    let before = white_span white in
    let own = spans (byte_dots b) in
    let rest = row_spans 0 bytes in
    let all : passed (before ++ own ++ rest) ≡ white + 8 + passed rest =
    omega (arith, passed-append (before ++ own) rest, passed-append before own, white_passed white, all_counted (byte_dots b)) in
    ap (λ v. passed (cond v (row_spans (white + 8) bytes) (before ++ own ++ rest))) (not_zero b some) ∙ all

none_left : (white n way : ℕ) (bytes : List ℕ) → n ≡ 0 → way ≡ 8 * white + 8 + passed (row_spans 0 bytes)
    → way + 8 * n ≡ passed (row_spans (8 * n) bytes) + 8 * white + 8
none_left white n way bytes none own =
    let same : passed (row_spans (8 * n) bytes) ≡ passed (row_spans 0 bytes) = ap (λ m. passed (row_spans (8 * m) bytes)) none in
    omega (arith, same, none, own)

pub next_passed : (white b : ℕ) (bytes : List ℕ)
    → passed (row_spans (8 * white) (b ∷ bytes)) + 8 * white_after white b ≡ passed (row_spans (8 * white_after white b) bytes) + 8 * white + 8
next_passed white zero bytes =
    let more : 8 * white + 8 ≡ 8 * (white + 1) = omega arith in
    ap (λ n. passed (row_spans n bytes) + 8 * (white + 1)) more ∙ omega arith
next_passed white (suc b) bytes =
    let some : suc b ≡ 0 → ⊥ = λ e. absurd (omega (arith, e)) in
    none_left white (white_after white (suc b)) _ bytes (ap (λ v. cond v (white + 1) 0) (not_zero (suc b) some)) (black_passed (8 * white) (suc b) bytes some)

pub after_small : (white b : ℕ) → white_after white b ≤ white + 1
after_small white zero = omega arith
after_small white (suc b) =
    let none : white_after white (suc b) ≡ 0 = ap (λ v. cond v (white + 1) 0) (not_zero (suc b) (λ e. absurd (omega (arith, e)))) in
    omega (arith, none)
