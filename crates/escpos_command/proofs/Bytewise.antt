-- Tests of the bytes of a list, one after another.
use Rattle.std.proofs.Common.{◌≡◌, ◌<◌, ℕ, ◌+◌, List, [], ◌∷◌, ◌++◌, refl, sym, ◌∙◌, ap, arith, true, false, Bool, length, take, Fits, w8, suc, zero, add-one, add-zero, subst, length-take}
use Rattle.std.specs.Prelude.{slice_index_or}
use Rattle.std.specs.List.{list_all}
use Rattle.std.proofs.Math.Seq.{take-suc}
use Rattle.std.proofs.lemmas.Bool.Decides.{nat_tests}
use Rattle.escpos_command.specs.Parameters.{is_byte}
use Rattle.escpos_command.specs.Barcodes.{all_from}
use Rattle.escpos_command.proofs.Combinators.{both, and_left, and_right}

byte_fits : (n : ℕ) → n < 256 → is_byte n ≡ true
byte_fits n h = grind (arith, nat_tests)

pub all_bytes : (xs : List ℕ) → ((i : ℕ) → Fits w8 (slice_index_or xs i 0)) → list_all is_byte xs ≡ true
all_bytes [] h = refl
all_bytes (x ∷ xs) h = both _ _ (byte_fits x (let f : Fits w8 x = h 0 in omega (arith, f))) (all_bytes xs (λ i. h (suc i)))

pub all_from-snoc : (place : ℕ) (test : ℕ → ℕ → Bool) (xs : List ℕ) (b : ℕ) → all_from place test xs ≡ true → test (place + length xs) b ≡ true
    → all_from place test (xs ++ b ∷ []) ≡ true
all_from-snoc place test [] b h k = both _ _ (subst (λ n. test n b ≡ true) (add-zero place) k) refl
all_from-snoc place test (x ∷ xs) b h k =
    both _ _ (and_left (test place x) (all_from (place + 1) test xs) h)
    (all_from-snoc (place + 1) test xs b (and_right (test place x) (all_from (place + 1) test xs) h)
    (subst (λ n. test n b ≡ true) (let e : place + length (x ∷ xs) ≡ place + 1 + length xs = omega arith in e) k))

-- Where all bytes before a place pass, and the one there does, all up to it do.
pub all_before : (test : ℕ → ℕ → Bool) (xs : List ℕ) (at : ℕ) → at < length xs → all_from 0 test (take at xs) ≡ true → test at (slice_index_or xs at 0) ≡ true
    → all_from 0 test (take (at + 1) xs) ≡ true
all_before test xs at inside h k =
    subst (λ v. all_from 0 test v ≡ true) (sym (take-suc xs at 0 inside) ∙ ap (λ n. take n xs) (sym (add-one at)))
    (all_from-snoc 0 test (take at xs) (slice_index_or xs at 0) h
    (subst (λ n. test n (slice_index_or xs at 0) ≡ true) (let e : at ≡ 0 + length (take at xs) = omega (arith, length-take at xs) in e) k))

-- Where all bytes pass, the byte at each place does.
pub all_at : (place : ℕ) (test : ℕ → ℕ → Bool) (xs : List ℕ) (at : ℕ) → all_from place test xs ≡ true → at < length xs → test (place + at) (slice_index_or xs at 0) ≡ true
all_at place test [] at h inside = absurd (omega arith)
all_at place test (x ∷ xs) zero h inside = subst (λ n. test n x ≡ true) (sym (add-zero place)) (and_left (test place x) (all_from (place + 1) test xs) h)
all_at place test (x ∷ xs) (suc at) h inside =
    subst (λ n. test n (slice_index_or xs at 0) ≡ true) (let e : place + 1 + at ≡ place + suc at = omega arith in e)
    (all_at (place + 1) test xs at (and_right (test place x) (all_from (place + 1) test xs) h) (omega arith))

-- So no byte of a content is refused at its place.
pub no_first : (test : ℕ → ℕ → Bool) (xs : List ℕ) (at : ℕ) → all_from 0 test xs ≡ true → at < length xs → test at (slice_index_or xs at 0) ≡ false → ⊥
no_first test xs at h inside k =
    let passes : test at (slice_index_or xs at 0) ≡ true = subst (λ n. test n (slice_index_or xs at 0) ≡ true) (let e : 0 + at ≡ at = omega arith in e) (all_at 0 test xs at h inside) in
    let clash : true ≡ false = sym passes ∙ k in cc
