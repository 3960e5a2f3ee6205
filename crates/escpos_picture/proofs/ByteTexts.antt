-- Tables of texts: each is found at its place.
use Rattle.std.proofs.Common.{◌≡◌, ℕ, zero, suc, ◌+◌, ◌-◌, ◌*◌, ◌<◌, ◌≤◌, take, drop, length, arith, List, ◌++◌, refl, ◌∙◌, ap, append_assoc, get_or, Bool, true}
use Rattle.std.specs.Prelude.{nat_lt, ◌&&◌, replicate}
use Rattle.std.specs.Fmt.{digits}
use Rattle.std.proofs.Math.Seq.{take-append_seam, take-append-add, drop-append-add}
use Rattle.std.proofs.Math.Nat.{mul-suc}
use Rattle.std.proofs.lemmas.List.{length-take-le, length-append, length-replicate}
use Rattle.std.proofs.lemmas.Bool.Decides.{Decides-below_and, Decides-ltb}
use Rattle.escpos_picture.specs.Spans.{byte_spans_text}
use Rattle.escpos_picture.specs.ByteSpans.{white_text, back_text, padded, texts_from, lengths_from}

-- ## Each text fits into its places

fits : ℕ → (ℕ → List ℕ) → ℕ → Bool
fits width text k = nat_lt (length (text k)) (suc width)

all_fit : ℕ → (ℕ → List ℕ) → ℕ → Bool
all_fit width text zero = true
all_fit width text (suc n) = fits width text n && all_fit width text n

fit_below : (width : ℕ) (text : ℕ → List ℕ) (n : ℕ) → all_fit width text n ≡ true → (k : ℕ) → k < n → length (text k) < suc width
unfolding fits all_fit
fit_below width text n all k below =
    (Decides-below_and (fits width text) (λ i. length (text i) < suc width) (all_fit width text) (λ i. Decides-ltb (length (text i)) (suc width)) refl (λ i. refl) n).0 all k below

pub text_fits : (b : ℕ) → b < 256 → length (byte_spans_text b) < 25
unfolding digits fits all_fit
text_fits b below = fit_below 24 (λ k. byte_spans_text k) 256 refl b below

pub white_fits : (k : ℕ) → k < 129 → length (white_text k) < 9
unfolding digits fits all_fit
white_fits k below = fit_below 8 (λ i. white_text i) 129 refl k below

pub back_fits : (k : ℕ) → k < 129 → length (back_text k) < 9
unfolding digits fits all_fit
back_fits k below = fit_below 8 (λ i. back_text i) 129 refl k below

-- ## Where each text is

full : (width : ℕ) (text : List ℕ) → length (padded width text) ≡ width
full width text =
    let both = length-append text (replicate width 0x20) in
    let blanks = length-replicate {A = ℕ} width 0x20 in
    length-take-le width (text ++ replicate width 0x20) (omega (arith, both, blanks))

filled : (width : ℕ) (text : List ℕ) → length text < suc width → padded width text ≡ text ++ take (width - length text) (replicate width 0x20)
filled width text few =
    let all : width ≡ length text + (width - length text) = omega (arith, few) in
    ap (λ n. take n (text ++ replicate width 0x20)) all ∙ take-append-add text (replicate width 0x20) (width - length text)

-- The texts after the first so many.
after : (width : ℕ) (text : ℕ → List ℕ) (k first n : ℕ) → k ≤ n → drop (width * k) (texts_from width text first n) ≡ texts_from width text (first + k) (n - k)
unfolding texts_from
after width text zero first n le =
    let same : first ≡ first + 0 = omega arith in
    let all : n ≡ n - 0 = omega arith in
    let none : width * 0 ≡ 0 = omega arith in
    ap (λ m. drop m (texts_from width text first n)) none ∙ ap (λ m. texts_from width text m n) same ∙ ap (λ m. texts_from width text (first + 0) m) all
after width text (suc k) first zero le = absurd (omega (arith, le))
after width text (suc k) first (suc n) le =
    let own = padded width (text first) in
    let more : width * suc k ≡ length own + width * k = mul-suc width k ∙ omega (arith, full width (text first)) in
    let next : first + 1 + k ≡ first + suc k = omega arith in
    let fewer : n - k ≡ suc n - suc k = omega arith in
    ap (λ m. drop m (own ++ texts_from width text (first + 1) n)) more
    ∙ drop-append-add own (texts_from width text (first + 1) n) (width * k)
    ∙ after width text k (first + 1) n (omega (arith, le))
    ∙ ap (λ m. texts_from width text m (n - k)) next
    ∙ ap (λ m. texts_from width text (first + suc k) m) fewer

first_of : (width : ℕ) (text : ℕ → List ℕ) (k n : ℕ) → length (text k) < suc width → take (length (text k)) (texts_from width text k (suc n)) ≡ text k
unfolding texts_from
first_of width text k n few =
    let own = text k in
    let fill = take (width - length own) (replicate width 0x20) in
    ap (λ t. take (length own) (t ++ texts_from width text (k + 1) n)) (filled width own few)
    ∙ ap (λ t. take (length own) t) (append_assoc own fill (texts_from width text (k + 1) n))
    ∙ take-append_seam own (fill ++ texts_from width text (k + 1) n)

pub text_at : (width : ℕ) (text : ℕ → List ℕ) (count k : ℕ) → k < count → length (text k) < suc width
    → take (length (text k)) (drop (width * k) (texts_from width text 0 count)) ≡ text k
text_at width text count k below few =
    let same : 0 + k ≡ k = omega arith in
    let some : count - k ≡ suc (count - (k + 1)) = omega (arith, below) in
    ap (λ t. take (length (text k)) t)
    (after width text k 0 count (omega (arith, below)) ∙ ap (λ m. texts_from width text m (count - k)) same ∙ ap (λ n. texts_from width text k n) some)
    ∙ first_of width text k (count - (k + 1)) few

-- The length of each text.
length_from : (text : ℕ → List ℕ) (k first n : ℕ) → k < n → get_or (lengths_from text first n) k 0 ≡ length (text (first + k))
unfolding lengths_from
length_from text k first zero below = absurd (omega (arith, below))
length_from text zero first (suc n) below =
    let same : first ≡ first + 0 = omega arith in
    ap (λ m. length (text m)) same
length_from text (suc k) first (suc n) below =
    let next : first + 1 + k ≡ first + suc k = omega arith in
    length_from text k (first + 1) n (omega (arith, below)) ∙ ap (λ m. length (text m)) next

pub length_at : (text : ℕ → List ℕ) (count k : ℕ) → k < count → get_or (lengths_from text 0 count) k 0 ≡ length (text k)
length_at text count k below =
    let same : 0 + k ≡ k = omega arith in
    length_from text k 0 count below ∙ ap (λ m. length (text m)) same
