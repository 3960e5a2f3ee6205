-- The answers of a list of bytes: one way to hear it, and hearings join.
use Rattle.std.proofs.Common.{◌≡◌, ◌≢◌, ◌==◌, ℕ, ◌⊎◌, inl, inr, true, List, [], ◌∷◌, ◌++◌, length, take, drop, get_or, refl, sym, ◌∙◌, ap, subst, append_assoc, append-nil, IsTrue, arith}
use Rattle.std.proofs.lemmas.Bool.Decides.{nat_tests}
use Rattle.std.specs.List.{AllByRecursion, list_all}
use Rattle.std.proofs.lemmas.Grind.{flat_map-append}
use Rattle.escpos_command.specs.declared.answer.Answer.{Answer}
use Rattle.escpos_command.specs.declared.answer.Answer.TheVariants as answer
use Rattle.escpos_command.specs.Answers.{answer_bytes, is_answer, AnswerSpells, HalfAnswer, Hears, spell_answers, kind_of, kind_by, block}
use Rattle.escpos_command.specs.Blocks.{is_block, begins_block, continues_block}
use Rattle.escpos_command.specs.Parameters.{is_mark_id, is_mark_byte}
use Rattle.escpos_command.proofs.Combinators.{and_left, and_right, same_number}
use Rattle.escpos_command.proofs.Fours.{four_items}

tail_of : (b c : ℕ) (x y : List ℕ) → b ∷ x ≡ c ∷ y → x ≡ y
tail_of b c x y e = cc

head_of : (b c : ℕ) (x y : List ℕ) → b ∷ x ≡ c ∷ y → b ≡ c
head_of b c x y e = cc

-- Two lists of four with something after them.
four : (a b c d e f g h : ℕ) (x y : List ℕ) → a ∷ b ∷ c ∷ d ∷ x ≡ e ∷ f ∷ g ∷ h ∷ y → (a ∷ b ∷ c ∷ d ∷ [] ≡ e ∷ f ∷ g ∷ h ∷ []) × (x ≡ y)
four a b c d e f g h x y p = (cc, cc)

four_each : (i j x y : List ℕ) → length i ≡ 4 → length j ≡ 4 → i ++ x ≡ j ++ y → (i ≡ j) × (x ≡ y)
four_each i j x y h k p =
    let e = four_items i h in
    let f = four_items j k in
    let both = four _ _ _ _ _ _ _ _ x y (ap (λ v. v ++ x) (sym e) ∙ p ∙ ap (λ v. v ++ y) f) in
    (e ∙ both.0 ∙ sym f, both.1)

id_length : (id : List ℕ) → IsTrue (is_mark_id id) → length id ≡ 4
id_length id h = same_number (length id) 4 (and_left _ (list_all is_mark_byte id) h)

block_length : (bs : List ℕ) → IsTrue (is_block bs) → length bs ≡ 4
block_length bs h =
    same_number (length bs) 4 (and_left _ (list_all begins_block (take 1 bs)) (and_left _ (list_all continues_block (drop 1 bs)) h))

-- ## The first byte

first_of_block : (b : ℕ) (more : List ℕ) → IsTrue (is_block (b ∷ more)) → begins_block b ≡ true
first_of_block b more h =
    and_left _ true (and_right (length (b ∷ more) == 4) _ (and_left _ (list_all continues_block more) h))

-- A status byte has bit 1 set, 37 bit 0, and a block begins with neither.
kind_of_block : (b : ℕ) → begins_block b ≡ true → kind_by b ≡ block
kind_of_block b h = grind (arith, nat_tests)

pub first_byte : (a : Answer) (first : ℕ) (more : List ℕ) → AnswerSpells a (first ∷ more) → kind_of a ≡ kind_by first
first_byte (answer.Status b) first more s = rw (head_of first b more [] s.in_table, s.in_range) refl
first_byte (answer.Mark id) first more s = rw (head_of first 0x37 more _ s.in_table) refl
first_byte (answer.Condition bytes) first more s =
    sym (kind_of_block first (first_of_block first more (subst (λ v. IsTrue (is_block v)) (sym s.in_table) s.in_range)))

pub one_kind : (a b : Answer) (bs x y : List ℕ) → bs ≢ [] → AnswerSpells a (bs ++ x) → AnswerSpells b (bs ++ y) → kind_of a ≡ kind_of b
one_kind a b [] x y some s t = absurd (some refl)
one_kind a b (c ∷ bs) x y some s t = first_byte a c (bs ++ x) s ∙ sym (first_byte b c (bs ++ y) t)

-- An answer begins with a byte.
begun : (a : Answer) → IsTrue (is_answer a) → (first : ℕ) × (more : List ℕ) × (answer_bytes a ≡ first ∷ more)
begun (answer.Status b) h = (b, [], refl)
begun (answer.Mark id) h = (0x37, 0x22 ∷ (id ++ 0x00 ∷ []), refl)
begun (answer.Condition bytes) h =
    (get_or bytes 0 0, get_or bytes 1 0 ∷ get_or bytes 2 0 ∷ get_or bytes 3 0 ∷ [], four_items bytes (block_length bytes h))

-- Answers that begin one list of bytes are of one kind.
same_kind : (a b : Answer) (u v : List ℕ) → IsTrue (is_answer a) → IsTrue (is_answer b) → answer_bytes a ++ u ≡ answer_bytes b ++ v → kind_of a ≡ kind_of b
same_kind a b u v h k e =
    let x = begun a h in
    let y = begun b k in
    let heads = head_of x.0 y.0 (x.1 ++ u) (y.1 ++ v) (ap (λ v. v ++ u) (sym x.2) ∙ e ∙ ap (λ w. w ++ v) y.2) in
    first_byte a x.0 x.1 (record { in_range = h; in_table = sym x.2 }) ∙ ap kind_by heads
    ∙ sym (first_byte b y.0 y.1 (record { in_range = k; in_table = sym y.2 }))

-- The answer that comes first in a list of bytes.
first_in_kind : (a b : Answer) (u v : List ℕ) → IsTrue (is_answer a) → IsTrue (is_answer b) → kind_of a ≡ kind_of b → answer_bytes a ++ u ≡ answer_bytes b ++ v → (a ≡ b) × (u ≡ v)
first_in_kind (answer.Status x) (answer.Status y) u v h k s e = (ap answer.Status (head_of x y u v e), tail_of x y u v e)
first_in_kind (answer.Mark i) (answer.Mark j) u v h k s e =
    let inner = tail_of 0x22 0x22 _ _ (tail_of 0x37 0x37 _ _ e) in
    let both = four_each i j (0x00 ∷ u) (0x00 ∷ v) (id_length i h) (id_length j k) (sym (append_assoc i (0x00 ∷ []) u) ∙ inner ∙ append_assoc j (0x00 ∷ []) v) in
    (ap answer.Mark both.0, tail_of 0x00 0x00 u v both.1)
first_in_kind (answer.Condition x) (answer.Condition y) u v h k s e =
    let both = four_each x y u v (block_length x h) (block_length y k) e in
    (ap answer.Condition both.0, both.1)
first_in_kind (answer.Status x) (answer.Mark j) u v h k s e = absurd cc
first_in_kind (answer.Status x) (answer.Condition y) u v h k s e = absurd cc
first_in_kind (answer.Mark i) (answer.Status y) u v h k s e = absurd cc
first_in_kind (answer.Mark i) (answer.Condition y) u v h k s e = absurd cc
first_in_kind (answer.Condition x) (answer.Status y) u v h k s e = absurd cc
first_in_kind (answer.Condition x) (answer.Mark j) u v h k s e = absurd cc

first : (a b : Answer) (u v : List ℕ) → IsTrue (is_answer a) → IsTrue (is_answer b) → answer_bytes a ++ u ≡ answer_bytes b ++ v → (a ≡ b) × (u ≡ v)
first a b u v h k e = first_in_kind a b u v h k (same_kind a b u v h k e) e

pub one_answer : (a b : Answer) (bs : List ℕ) → AnswerSpells a bs → AnswerSpells b bs → a ≡ b
one_answer a b bs s t =
    (first a b [] [] s.in_range t.in_range (append-nil (answer_bytes a) ∙ sym s.in_table ∙ t.in_table ∙ sym (append-nil (answer_bytes b)))).0

pub no_prefix : (a b : Answer) (bs more : List ℕ) → AnswerSpells a bs → AnswerSpells b (bs ++ more) → more ≡ []
no_prefix a b bs more s t =
    (first a b more [] s.in_range t.in_range (ap (λ v. v ++ more) (sym s.in_table) ∙ t.in_table ∙ sym (append-nil (answer_bytes b)))).1

-- A rest begins with no whole answer.
nothing_first : (a b : List ℕ) → a ++ b ≡ [] → a ≡ []
nothing_first [] b e = refl
nothing_first (x ∷ a) b e = absurd cc

not_nothing : (a : Answer) (more : List ℕ) → IsTrue (is_answer a) → [] ≡ answer_bytes a ++ more → ⊥
not_nothing a more h e =
    let x = begun a h in
    let some = e ∙ ap (λ v. v ++ more) x.2 in
    cc

not_in_rest : (rest : List ℕ) (a : Answer) (more : List ℕ) → (rest ≡ []) ⊎ HalfAnswer rest → IsTrue (is_answer a) → rest ≡ answer_bytes a ++ more → ⊥
not_in_rest rest a more (inl none) h e = not_nothing a more h (sym none ∙ e)
not_in_rest rest a more (inr half) h e =
    let v = half.viable in
    let long = subst (λ xs. AnswerSpells v.0 xs) (ap (λ xs. xs ++ v.1) e ∙ append_assoc (answer_bytes a) more v.1) v.2 in
    let none = nothing_first more v.1 (no_prefix a v.0 (answer_bytes a) (more ++ v.1) (record { in_range = h; in_table = refl }) long) in
    half.no_answer a (record { in_range = h; in_table = e ∙ ap (λ xs. answer_bytes a ++ xs) none ∙ append-nil (answer_bytes a) })

abbrev AreAnswers : List Answer → Type 0
AreAnswers answers = AllByRecursion (λ a. IsTrue (is_answer a)) answers

one_split : (some others : List Answer) (x y : List ℕ) → AreAnswers some → AreAnswers others → (x ≡ []) ⊎ HalfAnswer x → (y ≡ []) ⊎ HalfAnswer y
    → spell_answers some ++ x ≡ spell_answers others ++ y → (some ≡ others) × (x ≡ y)
one_split [] [] x y h k p q e = (refl, e)
one_split [] (b ∷ others) x y h k p q e = absurd (not_in_rest x b (spell_answers others ++ y) p k.0 (e ∙ append_assoc (answer_bytes b) (spell_answers others) y))
one_split (a ∷ some) [] x y h k p q e = absurd (not_in_rest y a (spell_answers some ++ x) q h.0 (sym e ∙ append_assoc (answer_bytes a) (spell_answers some) x))
one_split (a ∷ some) (b ∷ others) x y h k p q e =
    let same = first a b (spell_answers some ++ x) (spell_answers others ++ y) h.0 k.0
    (sym (append_assoc (answer_bytes a) (spell_answers some) x) ∙ e ∙ append_assoc (answer_bytes b) (spell_answers others) y) in
    let rest = one_split some others x y h.1 k.1 p q same.1 in
    (ap (λ v. v ∷ some) same.0 ∙ ap (λ v. b ∷ v) rest.0, rest.1)

pub one_hearing : (bs : List ℕ) (some others : List Answer) (x y : List ℕ) → Hears bs some x → Hears bs others y → (some ≡ others) × (x ≡ y)
one_hearing bs some others x y h k = one_split some others x y h.in_range k.in_range h.rest_is k.rest_is (sym h.whole ∙ k.whole)

all_append : (some others : List Answer) → AreAnswers some → AreAnswers others → AreAnswers (some ++ others)
all_append [] others h k = k
all_append (a ∷ some) others h k = (h.0, all_append some others h.1 k)

pub joined : (a b : List ℕ) (some others : List Answer) (r s : List ℕ) → Hears a some r → Hears (r ++ b) others s → Hears (a ++ b) (some ++ others) s
joined a b some others r s h k = record {
  in_range = all_append some others h.in_range k.in_range;
  whole =
      ap (λ xs. xs ++ b) h.whole ∙ append_assoc (spell_answers some) r b ∙ ap (λ xs. spell_answers some ++ xs) k.whole
      ∙ sym (append_assoc (spell_answers some) (spell_answers others) s) ∙ ap (λ xs. xs ++ s) (sym (flat_map-append answer_bytes some others));
  rest_is = k.rest_is;
}

-- Where whole answers begin with some answers, they are these and others.
cut_spelled : (some all : List Answer) (x : List ℕ) → AreAnswers some → AreAnswers all → spell_answers some ++ x ≡ spell_answers all
    → (others : List Answer) × (all ≡ some ++ others) × (x ≡ spell_answers others) × AreAnswers others
cut_spelled [] all x h k e = (all, refl, e, k)
cut_spelled (a ∷ some) [] x h k e =
    let none = nothing_first (answer_bytes a) (spell_answers some) (nothing_first (spell_answers (a ∷ some)) x e) in
    absurd (not_nothing a [] h.0 (sym none ∙ sym (append-nil (answer_bytes a))))
cut_spelled (a ∷ some) (b ∷ all) x h k e =
    let same = first a b (spell_answers some ++ x) (spell_answers all) h.0 k.0 (sym (append_assoc (answer_bytes a) (spell_answers some) x) ∙ e) in
    let rest = cut_spelled some all x h.1 k.1 same.1 in
    (rest.0, ap (λ v. v ∷ all) (sym same.0) ∙ ap (λ v. a ∷ v) rest.1, rest.2, rest.3)

pub cut : (a b : List ℕ) (all some : List Answer) (r : List ℕ) → Hears (a ++ b) all [] → Hears a some r
    → (others : List Answer) × (all ≡ some ++ others) × Hears (r ++ b) others []
cut a b all some r h k =
    let begins = sym (append_assoc (spell_answers some) r b) ∙ ap (λ v. v ++ b) (sym k.whole) ∙ h.whole ∙ append-nil (spell_answers all) in
    let rest = cut_spelled some all (r ++ b) k.in_range h.in_range begins in
    (rest.0, rest.1, record { in_range = rest.3; whole = rest.2 ∙ sym (append-nil (spell_answers rest.0)); rest_is = inl refl })
