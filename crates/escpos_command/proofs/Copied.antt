-- Bytes copied, from a place on, to the start of a buffer, part by part.
use Rattle.std.proofs.Common.{◌≡◌, ◌≤◌, ◌⊎◌, inl, inr, ℕ, ◌+◌, ◌-◌, min, List, [], ◌++◌, sym, ◌∙◌, ap, arith, length, take, drop, length-take, length-drop, length-append, append_assoc, append-nil}
use Rattle.std.proofs.lemmas.List.{take-append-le, drop-append-le, take_all, drop_all}
use Rattle.std.proofs.Math.Seq.{take-append-add, drop-append-add, take-append_seam, drop-append_seam}
use Rattle.std.proofs.lemmas.Grind.{common_steps}
use Rattle.escpos_command.specs.Copied.{Copied}

drop-append : (n : ℕ) (xs ys : List ℕ) → (n ≤ length xs) ⊎ (length xs ≤ n) → drop n (xs ++ ys) ≡ drop n xs ++ drop (n - length xs) ys
drop-append n xs ys (inl h) =
    let none : n - length xs ≡ 0 = omega arith in
    drop-append-le n xs ys h ∙ ap (λ m. drop n xs ++ drop m ys) (sym none)
drop-append n xs ys (inr h) =
    let some : n ≡ length xs + (n - length xs) = omega arith in
    ap (λ m. drop m (xs ++ ys)) some ∙ drop-append-add xs ys (n - length xs) ∙ ap (λ v. v ++ drop (n - length xs) ys) (sym (drop_all n xs h))

one_side : (n m : ℕ) → (n ≤ m) ⊎ (m ≤ n)
one_side n m = search arith

-- A prefix of two lists joined, which either takes the whole first list or nothing of the second.
take-append : (n k : ℕ) (xs ys : List ℕ) → n ≤ length xs → (n ≡ length xs) ⊎ (k ≡ 0) → take (n + k) (xs ++ ys) ≡ take n xs ++ take k ys
take-append n k xs ys h (inl e) =
    ap (λ m. take (m + k) (xs ++ ys)) e ∙ take-append-add xs ys k ∙ ap (λ v. v ++ take k ys) (sym (ap (λ m. take m xs) e ∙ take_all (length xs) xs (omega arith)))
take-append n k xs ys h (inr e) =
    let same : n + k ≡ n = omega arith in
    ap (λ m. take m (xs ++ ys)) same ∙ take-append-le n xs ys h ∙ sym (append-nil (take n xs)) ∙ ap (λ m. take n xs ++ take m ys) (sym e)

-- Where the first part isn't taken whole, the buffer is full.
all_or_none : (room wanted long part filled k : ℕ) → filled ≡ min room wanted → long ≡ wanted → k ≡ min (room - filled) part → (filled ≡ long) ⊎ (k ≡ 0)
all_or_none room wanted long part filled k a b c = search arith

filled_count : (room done part from filled skipped k : ℕ) → filled ≡ min room (done - from) → skipped ≡ from - done → k ≡ min (room - filled) (part - skipped)
    → filled + k ≡ min room (done + part - from)
filled_count room done part from filled skipped k a b c = omega arith

drop_twice : (n k : ℕ) (xs : List ℕ) → drop k (drop n xs) ≡ drop (n + k) xs
drop_twice n k xs = grind (arith, common_steps)

-- The buffer after one more part.
pub more : (old mid fresh after done part : List ℕ) (from filled skipped k : ℕ) → Copied old mid done from filled → skipped ≡ from - length done
    → Copied (take (length mid - filled) (drop filled mid)) fresh part skipped k → filled ≤ length mid → after ≡ []
    → Copied old (take filled mid ++ (fresh ++ after)) (done ++ part) from (filled + k)
more old mid fresh after done part from filled skipped k c s f h none =
    let front = take filled (drop from done) in
    let long : length front ≡ filled = omega (arith, length-take filled (drop from done), length-drop from done, c.counted) in
    let kept : take filled mid ≡ front =
    ap (take filled) c.copied ∙ ap (λ n. take n (front ++ drop filled old)) (sym long) ∙ take-append_seam front (drop filled old) in
    let left : drop filled mid ≡ drop filled old =
    ap (drop filled) c.copied ∙ ap (λ n. drop n (front ++ drop filled old)) (sym long) ∙ drop-append_seam front (drop filled old) in
    let same : length mid ≡ length old = omega (arith, ap length c.copied, length-append front (drop filled old), long, length-drop filled old, c.counted) in
    let rest : take (length mid - filled) (drop filled mid) ≡ drop filled old =
    take_all (length mid - filled) (drop filled mid) (omega (arith, length-drop filled mid)) ∙ left in
    let few : k ≡ min (length old - filled) (length part - skipped) =
    f.counted ∙ ap (λ v. min (length v) (length part - skipped)) rest ∙ ap (λ n. min n (length part - skipped)) (length-drop filled old) in
    let whole : (filled ≡ length (drop from done)) ⊎ (k ≡ 0) = all_or_none (length old) (length done - from) (length (drop from done)) (length part - skipped) filled k c.counted (length-drop from done) few in
    let some = filled_count (length old) (length done) (length part) from filled skipped k c.counted s few in
    record {
      counted = some ∙ ap (λ n. min (length old) (n - from)) (sym (length-append done part));
      copied =
          ap (λ v. take filled mid ++ (v ++ after)) (f.copied ∙ ap (λ v. take k (drop skipped part) ++ drop k v) rest)
          ∙ ap (λ v. take filled mid ++ ((take k (drop skipped part) ++ drop k (drop filled old)) ++ v)) none
          ∙ ap (λ v. take filled mid ++ v) (append-nil (take k (drop skipped part) ++ drop k (drop filled old)))
          ∙ ap (λ v. v ++ (take k (drop skipped part) ++ drop k (drop filled old))) kept
          ∙ sym (append_assoc front (take k (drop skipped part)) (drop k (drop filled old)))
          ∙ ap (λ m. (front ++ take k (drop m part)) ++ drop k (drop filled old)) s
          ∙ ap (λ v. v ++ drop k (drop filled old))
          (sym (take-append filled k (drop from done) (drop (from - length done) part) (omega (arith, c.counted, length-drop from done)) whole)
          ∙ ap (take (filled + k)) (sym (drop-append from done part (one_side from (length done)))))
          ∙ ap (λ v. take (filled + k) (drop from (done ++ part)) ++ v) (drop_twice filled k old);
    }

-- Before the first part nothing is copied.
pub nothing : (old : List ℕ) (from : ℕ) → Copied old old [] from 0
nothing old from = record { counted = omega arith; copied = grind (arith, common_steps) }

pub same_parts : (a b c d x y z w : List ℕ) → a ≡ x → b ≡ y → c ≡ z → d ≡ w → a ++ b ++ c ++ d ≡ x ++ y ++ z ++ w
same_parts a b c d x y z w e f g h =
    ap (λ v. v ++ b ++ c ++ d) e ∙ ap (λ v. x ++ v ++ c ++ d) f ∙ ap (λ v. x ++ y ++ v ++ d) g ∙ ap (λ v. x ++ y ++ z ++ v) h
