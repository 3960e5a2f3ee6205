-- Answers with one block: what stays of them, and what an answer more makes of them.
use Rattle.std.proofs.Common.{◌≡◌, ◌≤◌, ◌<◌, ◌+◌, ◌*◌, ◌-◌, ◌==◌, ℕ, List, [], ◌∷◌, ◌++◌, true, false, length, take, drop, refl, sym, ◌∙◌, ap, subst, append-nil, take-append-drop, length-append, arith, Some, zero, suc, IsTrue}
use Rattle.std.specs.Prelude.{not, slice_get, slice_set}
use Rattle.std.proofs.lemmas.Bool.Decides.{nat_tests}
use Rattle.std.specs.List.{flat_map, AllByRecursion}
use Rattle.std.proofs.lemmas.List.Elements.{filter-append, filter_map-append}
use Rattle.std.proofs.lemmas.Grind.{flat_map-append}
use Rattle.escpos_command.specs.declared.answer.Answer.{Answer}
use Rattle.escpos_command.specs.declared.answer.Answer.TheVariants as answer
use Rattle.escpos_command.specs.Answers.{answer_length, is_answer}
use Rattle.escpos_command.specs.Settings.{last_or}
use Rattle.escpos_printer.specs.Blocks.{block_of, is_other, blocks, others, with_one_block, most_waiting, IsBlockAt, MayWait, PutInParts}

-- ## Blocks and others

pub blocks-append : (xs ys : List Answer) → blocks (xs ++ ys) ≡ blocks xs ++ blocks ys
blocks-append xs ys = filter_map-append block_of xs ys

pub others-append : (xs ys : List Answer) → others (xs ++ ys) ≡ others xs ++ others ys
others-append xs ys = filter-append is_other xs ys

pub others_again : (xs : List Answer) → others (others xs) ≡ others xs
others_again [] = refl
others_again (answer.Condition b ∷ xs) = others_again xs
others_again (answer.Status b ∷ xs) = ap (λ v. answer.Status b ∷ v) (others_again xs)
others_again (answer.Mark id ∷ xs) = ap (λ v. answer.Mark id ∷ v) (others_again xs)

pub no_blocks : (xs : List Answer) → blocks (others xs) ≡ []
no_blocks [] = refl
no_blocks (answer.Condition b ∷ xs) = no_blocks xs
no_blocks (answer.Status b ∷ xs) = no_blocks xs
no_blocks (answer.Mark id ∷ xs) = no_blocks xs

-- Every answer is a block or another.
pub counted : (xs : List Answer) → length xs ≡ length (others xs) + length (blocks xs)
counted [] = refl
counted (answer.Condition b ∷ xs) = let e = counted xs in omega (arith, e)
counted (answer.Status b ∷ xs) = let e = counted xs in omega (arith, e)
counted (answer.Mark id ∷ xs) = let e = counted xs in omega (arith, e)

none_left : {X : Type 0} (x : X) (xs : List X) → length (x ∷ xs) ≤ 1 → xs ≡ []
none_left x [] h = refl
none_left x (y ∷ xs) h = absurd (omega (arith, h))

pub all_others : (xs : List Answer) → blocks xs ≡ [] → others xs ≡ xs
all_others [] h = refl
all_others (answer.Condition b ∷ xs) h = absurd cc
all_others (answer.Status b ∷ xs) h = ap (λ v. answer.Status b ∷ v) (all_others xs h)
all_others (answer.Mark id ∷ xs) h = ap (λ v. answer.Mark id ∷ v) (all_others xs h)

-- ## One block

pub same_others : (xs : List Answer) → others (with_one_block xs) ≡ others xs
same_others [] = refl
same_others (answer.Condition b ∷ xs) = others_again xs
same_others (answer.Status b ∷ xs) = ap (λ v. answer.Status b ∷ v) (same_others xs)
same_others (answer.Mark id ∷ xs) = ap (λ v. answer.Mark id ∷ v) (same_others xs)

pub at_most_one : (xs : List Answer) → length (blocks (with_one_block xs)) ≤ 1
at_most_one [] = omega arith
at_most_one (answer.Condition b ∷ xs) = let e = ap length (no_blocks xs) in omega (arith, e)
at_most_one (answer.Status b ∷ xs) = at_most_one xs
at_most_one (answer.Mark id ∷ xs) = at_most_one xs

-- Answers with at most one block stay as they are.
pub unchanged : (xs : List Answer) → length (blocks xs) ≤ 1 → with_one_block xs ≡ xs
unchanged [] h = refl
unchanged (answer.Condition b ∷ xs) h =
    let none = none_left b (blocks xs) h in
    ap (λ v. answer.Condition (last_or b v) ∷ others xs) none ∙ ap (λ v. answer.Condition b ∷ v) (all_others xs none)
unchanged (answer.Status b ∷ xs) h = ap (λ v. answer.Status b ∷ v) (unchanged xs h)
unchanged (answer.Mark id ∷ xs) h = ap (λ v. answer.Mark id ∷ v) (unchanged xs h)

last-append : {X : Type 0} (x : X) (xs ys : List X) → last_or x (xs ++ ys) ≡ last_or (last_or x xs) ys
last-append x [] ys = refl
last-append x (y ∷ xs) ys = last-append y xs ys

-- One block of answers that had one block before others came.
pub once_more : (xs ys : List Answer) → with_one_block (with_one_block xs ++ ys) ≡ with_one_block (xs ++ ys)
once_more [] ys = refl
once_more (answer.Condition b ∷ xs) ys =
    let newest : last_or (last_or b (blocks xs)) (blocks (others xs ++ ys)) ≡ last_or b (blocks (xs ++ ys)) =
    ap (last_or (last_or b (blocks xs))) (blocks-append (others xs) ys ∙ ap (λ v. v ++ blocks ys) (no_blocks xs))
    ∙ sym (last-append b (blocks xs) (blocks ys)) ∙ ap (last_or b) (sym (blocks-append xs ys)) in
    let rest : others (others xs ++ ys) ≡ others (xs ++ ys) =
    others-append (others xs) ys ∙ ap (λ v. v ++ others ys) (others_again xs) ∙ sym (others-append xs ys) in
    ap (λ v. answer.Condition v ∷ others (others xs ++ ys)) newest ∙ ap (λ v. answer.Condition (last_or b (blocks (xs ++ ys))) ∷ v) rest
once_more (answer.Status b ∷ xs) ys = ap (λ v. answer.Status b ∷ v) (once_more xs ys)
once_more (answer.Mark id ∷ xs) ys = ap (λ v. answer.Mark id ∷ v) (once_more xs ys)

-- ## An answer more

-- A block that takes the place of one that waits.
pub some_block : (xs : List Answer) (place : ℕ) → IsBlockAt xs place → 1 ≤ length (blocks xs)
some_block [] place h = let e = h.1 in absurd cc
some_block (answer.Condition b ∷ xs) place h = omega arith
some_block (answer.Status b ∷ xs) zero h = let e = h.1 in absurd cc
some_block (answer.Status b ∷ xs) (suc place) h = some_block xs place h
some_block (answer.Mark id ∷ xs) zero h = let e = h.1 in absurd cc
some_block (answer.Mark id ∷ xs) (suc place) h = some_block xs place h

pub in_its_place : (xs : List Answer) (place : ℕ) (bytes : List ℕ) → length (blocks xs) ≤ 1 → IsBlockAt xs place
    → slice_set xs place (answer.Condition bytes) ≡ with_one_block (xs ++ answer.Condition bytes ∷ [])
in_its_place [] place bytes h k = let e = k.1 in absurd cc
in_its_place (answer.Condition b ∷ xs) zero bytes h k =
    let none = none_left b (blocks xs) h in
    let newest : last_or b (blocks (xs ++ answer.Condition bytes ∷ [])) ≡ bytes =
    ap (last_or b) (blocks-append xs (answer.Condition bytes ∷ []) ∙ ap (λ v. v ++ bytes ∷ []) none) in
    let rest : others (xs ++ answer.Condition bytes ∷ []) ≡ xs = others-append xs (answer.Condition bytes ∷ []) ∙ append-nil (others xs) ∙ all_others xs none in
    sym (ap (λ v. answer.Condition v ∷ others (xs ++ answer.Condition bytes ∷ [])) newest ∙ ap (λ v. answer.Condition bytes ∷ v) rest)
in_its_place (answer.Condition b ∷ xs) (suc place) bytes h k =
    let some = some_block xs place k in
    absurd (omega (arith, h, some))
in_its_place (answer.Status b ∷ xs) zero bytes h k = let e = k.1 in absurd cc
in_its_place (answer.Status b ∷ xs) (suc place) bytes h k = ap (λ v. answer.Status b ∷ v) (in_its_place xs place bytes h k)
in_its_place (answer.Mark id ∷ xs) zero bytes h k = let e = k.1 in absurd cc
in_its_place (answer.Mark id ∷ xs) (suc place) bytes h k = ap (λ v. answer.Mark id ∷ v) (in_its_place xs place bytes h k)

pub after_all : (xs : List Answer) (a : Answer) → length (blocks xs) + length (blocks (a ∷ [])) ≤ 1 → xs ++ a ∷ [] ≡ with_one_block (xs ++ a ∷ [])
after_all xs a h =
    let few : length (blocks (xs ++ a ∷ [])) ≤ 1 = omega (arith, h, ap length (blocks-append xs (a ∷ [])), length-append (blocks xs) (blocks (a ∷ []))) in
    sym (unchanged (xs ++ a ∷ []) few)

-- ## How many wait

below : (n : ℕ) → n < 16 → false ≡ (n == most_waiting)
below n h = grind (arith, nat_tests)

one_more : (m n : ℕ) → m ≡ n + 1 → (m == 17) ≡ (n == most_waiting)
one_more m n h = grind (arith, nat_tests)

pub few_wait : (xs : List Answer) (n : ℕ) → n ≡ length xs → n < 16 → false ≡ (length (others xs) == most_waiting)
few_wait xs n e h = let all = counted xs in below (length (others xs)) (omega (arith, e, h, all))

pub full_with_block : (xs : List Answer) (n place : ℕ) → n ≡ length xs → length (blocks xs) ≤ 1 → IsBlockAt xs place → (n == 17) ≡ (length (others xs) == most_waiting)
full_with_block xs n place e h k =
    let some = some_block xs place k in
    let all = counted xs in
    one_more n (length (others xs)) (omega (arith, e, h, some, all))

pub full_without : (xs : List Answer) (n : ℕ) → n ≡ length xs → blocks xs ≡ [] → (n == 16) ≡ (length (others xs) == most_waiting)
full_without xs n e none =
    let all = counted xs in
    let nothing = ap length none in
    let same : n ≡ length (others xs) = omega (arith, e, all, nothing) in
    ap (λ m. m == most_waiting) same

-- There is room for one more answer, in a ring of 17.
pub fits : (xs : List Answer) (a : Answer) → length (others (xs ++ a ∷ [])) ≤ most_waiting → length (blocks xs) + length (blocks (a ∷ [])) ≤ 1 → length (xs ++ a ∷ []) - 17 ≡ 0
fits xs a h k =
    let all = counted (xs ++ a ∷ []) in
    let some = ap length (blocks-append xs (a ∷ [])) ∙ length-append (blocks xs) (blocks (a ∷ [])) in
    omega (arith, h, k, all, some)

pub pushed : (xs zs : List Answer) (a : Answer) (capacity : ℕ) → capacity ≡ 17 → zs ≡ drop (length (xs ++ a ∷ []) - capacity) (xs ++ a ∷ [])
    → length (others (xs ++ a ∷ [])) ≤ most_waiting → length (blocks xs) + length (blocks (a ∷ [])) ≤ 1 → zs ≡ with_one_block (xs ++ a ∷ [])
pushed xs zs a capacity wide e room k =
    e ∙ ap (λ n. drop (length (xs ++ a ∷ []) - n) (xs ++ a ∷ [])) wide ∙ ap (λ n. drop n (xs ++ a ∷ [])) (fits xs a room k) ∙ after_all xs a k

-- ## Blocks one by one

pub is_block_at : (xs : List Answer) (place : ℕ) (a : Answer) → slice_get xs place ≡ Some a → not (is_other a) ≡ true → IsBlockAt xs place
is_block_at xs place (answer.Condition b) e h = (b, e)
is_block_at xs place (answer.Status b) e h = absurd cc
is_block_at xs place (answer.Mark id) e h = absurd cc

-- An answer that isn't a block.
pub no_block : (a : Answer) → not (is_other a) ≡ false → blocks (a ∷ []) ≡ []
no_block (answer.Condition b) h = absurd cc
no_block (answer.Status b) h = refl
no_block (answer.Mark id) h = refl

pub is_a_block : (a : Answer) → not (is_other a) ≡ true → is_other a ≡ false
is_a_block (answer.Condition b) h = refl
is_a_block (answer.Status b) h = absurd cc
is_a_block (answer.Mark id) h = absurd cc

pub at_most_a_block : (a : Answer) → length (blocks (a ∷ [])) ≤ 1
at_most_a_block (answer.Condition b) = omega arith
at_most_a_block (answer.Status b) = omega arith
at_most_a_block (answer.Mark id) = omega arith

pub none_and_one : (xs : List Answer) (a : Answer) → blocks xs ≡ [] → length (blocks xs) + length (blocks (a ∷ [])) ≤ 1
none_and_one xs a none = let few = at_most_a_block a in let e = ap length none in omega (arith, few, e)

pub one_and_none : (xs : List Answer) (a : Answer) → length (blocks xs) ≤ 1 → not (is_other a) ≡ false → length (blocks xs) + length (blocks (a ∷ [])) ≤ 1
one_and_none xs a few h = let e = ap length (no_block a h) in omega (arith, few, e)

-- A block that is put in the place of one that waits.
pub replaced : (xs : List Answer) (place : ℕ) (a : Answer) → is_other a ≡ false → length (blocks xs) ≤ 1 → IsBlockAt xs place
    → slice_set xs place a ≡ with_one_block (xs ++ a ∷ [])
replaced xs place (answer.Condition b) h one k = in_its_place xs place b one k
replaced xs place (answer.Status b) h one k = absurd cc
replaced xs place (answer.Mark id) h one k = absurd cc

-- No block yet, and none at the next place.
pub none_yet : (xs : List Answer) (place : ℕ) (a : Answer) → slice_get xs place ≡ Some a → not (is_other a) ≡ false → blocks (take place xs) ≡ [] → blocks (take (place + 1) xs) ≡ []
none_yet [] place a e h none = absurd cc
none_yet (x ∷ xs) zero a e h none = let same : x ≡ a = cc in no_block x (subst (λ v. not (is_other v) ≡ false) (sym same) h)
none_yet (answer.Condition b ∷ xs) (suc place) a e h none = absurd cc
none_yet (answer.Status b ∷ xs) (suc place) a e h none =
    let count : suc place + 1 ≡ suc (place + 1) = omega arith in
    ap (λ n. blocks (take n (answer.Status b ∷ xs))) count ∙ none_yet xs place a e h none
none_yet (answer.Mark id ∷ xs) (suc place) a e h none =
    let count : suc place + 1 ≡ suc (place + 1) = omega arith in
    ap (λ n. blocks (take n (answer.Mark id ∷ xs))) count ∙ none_yet xs place a e h none

-- ## How many bytes they have

one_after : (xs : List Answer) (place : ℕ) (a : Answer) → slice_get xs place ≡ Some a → take (place + 1) xs ≡ take place xs ++ a ∷ []
one_after [] place a e = absurd cc
one_after (x ∷ xs) zero a e = let same : x ≡ a = cc in ap (λ v. v ∷ []) same
one_after (x ∷ xs) (suc place) a e =
    let count : suc place + 1 ≡ suc (place + 1) = omega arith in
    ap (λ n. take n (x ∷ xs)) count ∙ ap (λ v. x ∷ v) (one_after xs place a e)

its_length : (a : Answer) → answer_length a ≤ 7 * length (others (a ∷ [])) + 4 * length (blocks (a ∷ []))
its_length (answer.Condition b) = omega arith
its_length (answer.Status b) = omega arith
its_length (answer.Mark id) = omega arith

-- The bytes of one answer more.
pub bytes_more : (xs : List Answer) (place n : ℕ) (a : Answer) → slice_get xs place ≡ Some a
    → n ≤ 7 * length (others (take place xs)) + 4 * length (blocks (take place xs))
    → n + answer_length a ≤ 7 * length (others (take (place + 1) xs)) + 4 * length (blocks (take (place + 1) xs))
bytes_more xs place n a e h =
    let more = one_after xs place a e in
    let few = its_length a in
    let two = ap (λ v. length (others v)) more ∙ ap length (others-append (take place xs) (a ∷ [])) ∙ length-append (others (take place xs)) (others (a ∷ [])) in
    let one = ap (λ v. length (blocks v)) more ∙ ap length (blocks-append (take place xs) (a ∷ [])) ∙ length-append (blocks (take place xs)) (blocks (a ∷ [])) in
    omega (arith, h, few, two, one)

-- The first of answers that may wait have at most 116 bytes.
pub few_bytes : (xs : List Answer) (count n : ℕ) → MayWait xs → n ≤ 7 * length (others (take count xs)) + 4 * length (blocks (take count xs)) → n ≤ 116
few_bytes xs count n may h =
    let two = ap (λ v. length (others v)) (sym (take-append-drop count xs)) ∙ ap length (others-append (take count xs) (drop count xs))
    ∙ length-append (others (take count xs)) (others (drop count xs)) in
    let one = ap (λ v. length (blocks v)) (sym (take-append-drop count xs)) ∙ ap length (blocks-append (take count xs) (drop count xs))
    ∙ length-append (blocks (take count xs)) (blocks (drop count xs)) in
    let room = may.room in
    let single = may.one_block in
    omega (arith, h, two, one, room, single)

-- ## What may wait

-- Answers with one block may wait, if there is room for the others.
pub may_wait : (xs : List Answer) → length (others xs) ≤ most_waiting → MayWait (with_one_block xs)
may_wait xs h = record { room = let e = ap length (same_others xs) in omega (arith, e, h); one_block = at_most_one xs }

pub none_more : (xs : List Answer) → MayWait xs → xs ≡ with_one_block (xs ++ [])
none_more xs h = sym (ap with_one_block (append-nil xs) ∙ unchanged xs h.one_block)

-- The first answers of some that may wait.
pub later_wait : (a : Answer) (xs : List Answer) → MayWait (a ∷ xs) → MayWait xs
later_wait (answer.Condition b) xs h = record { room = h.room; one_block = let e = h.one_block in omega (arith, e) }
later_wait (answer.Status b) xs h = record { room = let e = h.room in omega (arith, e); one_block = h.one_block }
later_wait (answer.Mark id) xs h = record { room = let e = h.room in omega (arith, e); one_block = h.one_block }

pub none_wait : MayWait []
none_wait = record { room = omega arith; one_block = omega arith }

pub without_first : (xs : List Answer) → MayWait xs → MayWait (drop 1 xs)
without_first [] h = h
without_first (a ∷ xs) h = later_wait a xs h

-- ## Parts

pub no_part : PutInParts [] []
no_part = record { parts = []; whole = refl; put = refl }

pub one_part : (xs : List Answer) → PutInParts xs (with_one_block xs)
one_part xs = record { parts = xs ∷ []; whole = sym (append-nil xs); put = sym (append-nil (with_one_block xs)) }

pub parts_on : (xs ys some more : List Answer) → PutInParts xs some → PutInParts ys more → PutInParts (xs ++ ys) (some ++ more)
parts_on xs ys some more h k = record {
  parts = h.parts ++ k.parts;
  whole = ap (λ v. v ++ ys) h.whole ∙ ap (λ v. flat_map (λ part. part) h.parts ++ v) k.whole ∙ sym (flat_map-append (λ part. part) h.parts k.parts);
  put = ap (λ v. v ++ more) h.put ∙ ap (λ v. flat_map with_one_block h.parts ++ v) k.put ∙ sym (flat_map-append with_one_block h.parts k.parts);
}

-- ## What is known of each answer

abbrev AreAnswers : List Answer → Type 0
AreAnswers answers = AllByRecursion (λ a. IsTrue (is_answer a)) answers

others_known : (xs : List Answer) → AreAnswers xs → AreAnswers (others xs)
others_known [] h = h
others_known (answer.Condition b ∷ xs) h = others_known xs h.1
others_known (answer.Status b ∷ xs) h = (h.0, others_known xs h.1)
others_known (answer.Mark id ∷ xs) h = (h.0, others_known xs h.1)

newest_known : (b : List ℕ) (xs : List Answer) → IsTrue (is_answer (answer.Condition b)) → AreAnswers xs → IsTrue (is_answer (answer.Condition (last_or b (blocks xs))))
newest_known b [] h k = h
newest_known b (answer.Condition c ∷ xs) h k = newest_known c xs k.0 k.1
newest_known b (answer.Status c ∷ xs) h k = newest_known b xs h k.1
newest_known b (answer.Mark id ∷ xs) h k = newest_known b xs h k.1

pub all_known : (xs : List Answer) → AreAnswers xs → AreAnswers (with_one_block xs)
all_known [] h = h
all_known (answer.Condition b ∷ xs) h = (newest_known b xs h.0 h.1, others_known xs h.1)
all_known (answer.Status b ∷ xs) h = (h.0, all_known xs h.1)
all_known (answer.Mark id ∷ xs) h = (h.0, all_known xs h.1)

-- What goes out in parts is known, and has the others of all answers.
pub both_known : (xs ys : List Answer) → AreAnswers xs → AreAnswers ys → AreAnswers (xs ++ ys)
both_known [] ys h k = k
both_known (x ∷ xs) ys h k = (h.0, both_known xs ys h.1 k)

first_known : (xs ys : List Answer) → AreAnswers (xs ++ ys) → AreAnswers xs
first_known [] ys h = tt
first_known (x ∷ xs) ys h = (h.0, first_known xs ys h.1)

later_known : (xs ys : List Answer) → AreAnswers (xs ++ ys) → AreAnswers ys
later_known [] ys h = h
later_known (x ∷ xs) ys h = later_known xs ys h.1

each_known : (parts : List (List Answer)) → AreAnswers (flat_map (λ part. part) parts) → AreAnswers (flat_map with_one_block parts)
each_known [] h = h
each_known (xs ∷ parts) h =
    both_known (with_one_block xs) (flat_map with_one_block parts) (all_known xs (first_known xs (flat_map (λ part. part) parts) h))
    (each_known parts (later_known xs (flat_map (λ part. part) parts) h))

pub parts_known : (all out : List Answer) → PutInParts all out → AreAnswers all → AreAnswers out
parts_known all out p h = subst AreAnswers (sym p.put) (each_known p.parts (subst AreAnswers p.whole h))

each_others : (parts : List (List Answer)) → others (flat_map with_one_block parts) ≡ others (flat_map (λ part. part) parts)
each_others [] = refl
each_others (xs ∷ parts) =
    others-append (with_one_block xs) (flat_map with_one_block parts) ∙ ap (λ v. v ++ others (flat_map with_one_block parts)) (same_others xs)
    ∙ ap (λ v. others xs ++ v) (each_others parts) ∙ sym (others-append xs (flat_map (λ part. part) parts))

pub parts_others : (all out : List Answer) → PutInParts all out → others out ≡ others all
parts_others all out p = ap others p.put ∙ each_others p.parts ∙ sym (ap others p.whole)
