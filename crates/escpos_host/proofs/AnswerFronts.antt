-- The prefixes of a mark's answer and of a block are half answers, and a byte that doesn't continue one continues no answer.
use Rattle.std.proofs.Common.{◌⊎◌, inl, inr, ◌≡◌, ◌≢◌, ℕ, ◌≤◌, ◌&&◌, ◌||◌, ◌==◌, Bool, true, false, List, [], ◌∷◌, ◌++◌, length, length-append, append_assoc, zero, suc, arith, refl, sym, ◌∙◌, ap, IsTrue}
use Rattle.std.specs.Prelude.{if◌then◌else◌}
use Rattle.std.specs.List.{list_all}
use Rattle.std.proofs.lemmas.Bool.Decides.{nat_tests}
use Rattle.escpos_command.specs.declared.answer.Answer.{Answer}
use Rattle.escpos_command.specs.declared.answer.Answer.TheVariants as answer
use Rattle.escpos_command.specs.Answers.{is_status_byte, AnswerSpells, HalfAnswer, ViableAnswer}
use Rattle.escpos_command.specs.Blocks.{begins_block, continues_block, is_block}
use Rattle.escpos_command.specs.Parameters.{is_mark_id, is_mark_byte}
use Rattle.escpos_host.specs.AnswerReader.{IsBlockFront, IsFront, IsMarkFront, goes_on, mark_goes_on}

-- An id is four bytes of marks.
data Four (id : List ℕ) : Type 0 where
  four : (a b c d : ℕ) → id ≡ a ∷ b ∷ c ∷ d ∷ [] → IsTrue (is_mark_byte a) → IsTrue (is_mark_byte b) → IsTrue (is_mark_byte c) → IsTrue (is_mark_byte d) → Four id

-- A block is a byte that begins it and three that continue it.
data Block (bs : List ℕ) : Type 0 where
  block : (a b c d : ℕ) → bs ≡ a ∷ b ∷ c ∷ d ∷ [] → IsTrue (begins_block a) → IsTrue (continues_block b) → IsTrue (continues_block c) → IsTrue (continues_block d) → Block bs

both : (a b : Bool) → IsTrue (a && b) → IsTrue a × IsTrue b
both true b h = (refl, h)
both false b h = absurd cc

pub same_number : (a b : ℕ) → (a == b) ≡ true → a ≡ b
same_number a b h = grind (arith, nat_tests)

four_of : (id : List ℕ) → IsTrue (is_mark_id id) → Four id
four_of [] h = absurd cc
four_of (a ∷ []) h = absurd cc
four_of (a ∷ b ∷ []) h = absurd cc
four_of (a ∷ b ∷ c ∷ []) h = absurd cc
four_of (a ∷ b ∷ c ∷ d ∷ []) h =
    let first = both (is_mark_byte a) _ h in
    let second = both (is_mark_byte b) _ first.1 in
    let third = both (is_mark_byte c) _ second.1 in
    four a b c d refl first.0 second.0 third.0 (both (is_mark_byte d) _ third.1).0
four_of (a ∷ b ∷ c ∷ d ∷ e ∷ id) h =
    let long : length (a ∷ b ∷ c ∷ d ∷ e ∷ id) ≡ 4 = same_number _ 4 (both _ _ h).0 in
    absurd (omega arith)

block_of : (bs : List ℕ) → IsTrue (is_block bs) → Block bs
block_of [] h = absurd cc
block_of (a ∷ []) h = absurd cc
block_of (a ∷ b ∷ []) h = absurd cc
block_of (a ∷ b ∷ c ∷ []) h = absurd cc
block_of (a ∷ b ∷ c ∷ d ∷ []) h =
    let parts = both (list_all begins_block (a ∷ [])) _ h in
    let first = both (begins_block a) _ parts.0 in
    let second = both (continues_block b) _ parts.1 in
    let third = both (continues_block c) _ second.1 in
    block a b c d refl first.0 second.0 third.0 (both (continues_block d) _ third.1).0
block_of (a ∷ b ∷ c ∷ d ∷ e ∷ bs) h =
    let long : length (a ∷ b ∷ c ∷ d ∷ e ∷ bs) ≡ 4 = same_number _ 4 (both _ _ (both _ _ h).0).0 in
    absurd (omega arith)

-- A byte that is equal to one that continues a half answer continues it too.
clash : (f : ℕ → Bool) (b c : ℕ) → b ≡ c → f c ≡ true → f b ≡ false → ⊥
clash f b c same on off = let bad : true ≡ false = sym on ∙ ap f (sym same) ∙ off in cc

-- A block doesn't begin with 37.
not_mark : (b : ℕ) → IsTrue (begins_block b) → b ≡ 0x37 → ⊥
not_mark b begins same = clash begins_block 0x37 b (sym same) begins refl

neither : (a b : Bool) → a || b ≡ false → (a ≡ false) × (b ≡ false)
neither true b off = absurd cc
neither false b off = (refl, off)

other_number : (n m : ℕ) → n ≢ m → (n == m) ≡ false
other_number n m h = grind (arith, nat_tests)

-- After 37 a byte goes on as in the answer to a mark, and after any other first byte as in a block.
on_mark : (x : ℕ) (h : List ℕ) (b : ℕ) → x ≡ 0x37 → goes_on (x ∷ h) b ≡ mark_goes_on h b
on_mark x h b same = let is : (x == 0x37) ≡ true = grind (arith, same, nat_tests) in ap (λ t. if t then mark_goes_on h b else continues_block b) is

on_block : (x : ℕ) (h : List ℕ) (b : ℕ) → x ≢ 0x37 → goes_on (x ∷ h) b ≡ continues_block b
on_block x h b other = ap (λ t. if t then mark_goes_on h b else continues_block b) (other_number x 0x37 other)

-- ## A byte that doesn't continue a prefix

-- It isn't the one that comes there in the answer to a mark.
after_first : (h : List ℕ) (b : ℕ) (id more : List ℕ) → IsMarkFront h → mark_goes_on h b ≡ false → Four id → (h ++ b ∷ []) ++ more ≡ 0x22 ∷ (id ++ 0x00 ∷ []) → ⊥
after_first [] b id more front off (four i j k l e p q r s) same = clash (λ n. n == 0x22) b 0x22 (cc) (refl {a = true}) off
after_first (y ∷ []) b id more front off (four i j k l e p q r s) same = clash is_mark_byte b i (cc (ap (λ v. v ++ 0x00 ∷ []) e)) p off
after_first (y ∷ a ∷ []) b id more front off (four i j k l e p q r s) same = clash is_mark_byte b j (cc (ap (λ v. v ++ 0x00 ∷ []) e)) q off
after_first (y ∷ a ∷ c ∷ []) b id more front off (four i j k l e p q r s) same = clash is_mark_byte b k (cc (ap (λ v. v ++ 0x00 ∷ []) e)) r off
after_first (y ∷ a ∷ c ∷ d ∷ []) b id more front off (four i j k l e p q r s) same = clash is_mark_byte b l (cc (ap (λ v. v ++ 0x00 ∷ []) e)) s off
after_first (y ∷ a ∷ c ∷ d ∷ f ∷ []) b id more front off (four i j k l e p q r s) same =
    clash (λ n. n == 0x00) b 0x00 (cc (ap (λ v. v ++ 0x00 ∷ []) e)) (refl {a = true}) off
after_first (y ∷ a ∷ c ∷ d ∷ f ∷ g ∷ h) b id more front off found same = absurd (omega (arith, front.1))

not_of_mark : (h : List ℕ) (b : ℕ) (id more : List ℕ) → IsFront h → goes_on h b ≡ false → Four id → (h ++ b ∷ []) ++ more ≡ 0x37 ∷ 0x22 ∷ (id ++ 0x00 ∷ []) → ⊥
not_of_mark [] b id more front off found same = clash (λ n. n == 0x37) b 0x37 (cc) (refl {a = true}) (neither (b == 0x37) (begins_block b) off).0
not_of_mark (x ∷ h) b id more (inl (first, rest)) off found same =
    after_first h b id more rest (sym (on_mark x h b first) ∙ off) found (cc same)
not_of_mark (x ∷ h) b id more (inr (begins, rest)) off found same = not_mark x begins (cc same)

-- Nor is it the one that comes there in a block.
not_of_block : (h : List ℕ) (b : ℕ) (bs more : List ℕ) → IsFront h → goes_on h b ≡ false → Block bs → (h ++ b ∷ []) ++ more ≡ bs → ⊥
not_of_block [] b bs more front off (block i j k l e p q r s) same =
    clash begins_block b i (cc (same, e)) p (neither (b == 0x37) (begins_block b) off).1
not_of_block (x ∷ h) b bs more (inl (first, rest)) off (block i j k l e p q r s) same = not_mark i p (cc (same, e, first))
not_of_block (x ∷ []) b bs more (inr (begins, rest)) off (block i j k l e p q r s) same =
    clash continues_block b j (cc (same, e)) q (sym (on_block x [] b (not_mark x begins)) ∙ off)
not_of_block (x ∷ y ∷ []) b bs more (inr (begins, rest)) off (block i j k l e p q r s) same =
    clash continues_block b k (cc (same, e)) r (sym (on_block x (y ∷ []) b (not_mark x begins)) ∙ off)
not_of_block (x ∷ y ∷ z ∷ []) b bs more (inr (begins, rest)) off (block i j k l e p q r s) same =
    clash continues_block b l (cc (same, e)) s (sym (on_block x (y ∷ z ∷ []) b (not_mark x begins)) ∙ off)
not_of_block (x ∷ y ∷ z ∷ w ∷ h) b bs more (inr (begins, rest)) off found same = absurd (omega (arith, rest.0))

-- Nor is it a status byte.
not_of_status : (h : List ℕ) (b s : ℕ) (more : List ℕ) → (h ≡ [] → is_status_byte b ≡ false) → IsTrue (is_status_byte s) → (h ++ b ∷ []) ++ more ≡ s ∷ [] → ⊥
not_of_status [] b s more off on same = clash is_status_byte b s (cc) on (off refl)
not_of_status (x ∷ h) b s more off on same = let bad : (h ++ b ∷ []) ++ more ≡ [] = cc in absurd (omega (arith, ap length bad, length-append (h ++ b ∷ []) more, length-append h (b ∷ [])))

pub not_viable : (h : List ℕ) (b : ℕ) → IsFront h → goes_on h b ≡ false → (h ≡ [] → is_status_byte b ≡ false) → ViableAnswer (h ++ b ∷ []) → ⊥
not_viable h b front off no_status (answer.Status s, more, spelled) = not_of_status h b s more no_status spelled.in_range spelled.in_table
not_viable h b front off no_status (answer.Mark id, more, spelled) = not_of_mark h b id more front off (four_of id spelled.in_range) spelled.in_table
not_viable h b front off no_status (answer.Condition bs, more, spelled) = not_of_block h b bs more front off (block_of bs spelled.in_range) spelled.in_table

-- ## A prefix with the next byte is a prefix, as long as the answer isn't whole

all_with : (f : ℕ → Bool) (id : List ℕ) (b : ℕ) → IsTrue (list_all f id) → f b ≡ true → IsTrue (list_all f (id ++ b ∷ []))
all_with f [] b all on = rw on
all_with f (a ∷ id) b all on =
    let parts = both (f a) _ all in
    rw (parts.0, all_with f id b parts.1 on)

mark_longer : (h : List ℕ) (b : ℕ) → IsMarkFront h → mark_goes_on h b ≡ true → length h ≢ 5 → IsMarkFront (h ++ b ∷ [])
mark_longer [] b front on short = (same_number b 0x22 on, omega arith, refl)
mark_longer (y ∷ id) b front on short =
    let open_id : length id ≢ 4 = λ e. short (omega arith) in
    let byte : is_mark_byte b ≡ true = ap (λ t. if t then b == 0x00 else is_mark_byte b) (sym (other_number (length id) 4 open_id)) ∙ on in (
      front.0,
      grind (arith, front.1, open_id, length-append id (b ∷ [])),
      all_with is_mark_byte id b front.2 byte,
    )

either : (a b : Bool) → a || b ≡ true → (a ≡ true) ⊎ (b ≡ true)
either true b on = inl refl
either false b on = inr on

-- The prefix isn't so long that the next byte makes the answer whole.
abbrev pub IsShort : List ℕ → Type 0
IsShort [] = Unit {0}
IsShort (first ∷ rest) = (first ≡ 0x37 → length rest ≢ 5) × (IsTrue (begins_block first) → length rest ≢ 2)

pub longer : (h : List ℕ) (b : ℕ) → IsFront h → goes_on h b ≡ true → IsShort h → IsFront (h ++ b ∷ [])
longer [] b front on short = elim (either (b == 0x37) (begins_block b) on) [
  | inl mark ↦ inl (same_number b 0x37 mark, tt)
  | inr begins ↦ inr (begins, (omega arith, refl))
]
longer (x ∷ h) b (inl (first, rest)) on short = inl (first, mark_longer h b rest (sym (on_mark x h b first) ∙ on) (short.0 first))
longer (x ∷ h) b (inr (begins, rest)) on short =
    let few = short.1 begins in
    inr (
      begins,
      (
        grind (arith, rest.0, few, length-append h (b ∷ [])),
        all_with continues_block h b rest.1 (sym (on_block x h b (not_mark x begins)) ∙ on),
      ),
    )

-- ## A prefix is a half answer

-- What follows a prefix of a mark's answer, to make some answer whole.
abbrev padding : ℕ → List ℕ
padding zero = 0x30 ∷ 0x30 ∷ 0x30 ∷ 0x30 ∷ []
padding (suc zero) = 0x30 ∷ 0x30 ∷ 0x30 ∷ []
padding (suc (suc zero)) = 0x30 ∷ 0x30 ∷ []
padding (suc (suc (suc zero))) = 0x30 ∷ []
padding n = []

-- Four bytes of marks that begin so are an id.
padded : (id : List ℕ) → length id ≤ 4 → IsTrue (list_all is_mark_byte id) → IsTrue (is_mark_id (id ++ padding (length id)))
padded [] short all = refl
padded (a ∷ []) short all = all
padded (a ∷ b ∷ []) short all = all
padded (a ∷ b ∷ c ∷ []) short all = all
padded (a ∷ b ∷ c ∷ d ∷ []) short all = all
padded (a ∷ b ∷ c ∷ d ∷ e ∷ id) short all = absurd (omega (arith, short))

-- What follows a prefix of a block, to make it whole.
abbrev filling : ℕ → List ℕ
filling zero = 0x00 ∷ 0x00 ∷ 0x00 ∷ []
filling (suc zero) = 0x00 ∷ 0x00 ∷ []
filling n = 0x00 ∷ []

joined : (a b : Bool) → IsTrue a → IsTrue b → IsTrue (a && b)
joined true b h k = k
joined false b h k = absurd cc

filled : (x : ℕ) (rest : List ℕ) → IsTrue (begins_block x) → IsBlockFront rest → IsTrue (is_block (x ∷ (rest ++ filling (length rest))))
filled x [] begins front = joined (begins_block x && true) true (joined (begins_block x) true begins refl) refl
filled x (a ∷ []) begins front = joined (begins_block x && true) _ (joined (begins_block x) true begins refl) front.1
filled x (a ∷ b ∷ []) begins front = joined (begins_block x && true) _ (joined (begins_block x) true begins refl) front.1
filled x (a ∷ b ∷ c ∷ rest) begins front = absurd (omega (arith, front.0))

-- Nothing that is as short as a prefix is a whole answer.
no_mark_answer : (h : List ℕ) (x : ℕ) → x ≡ 0x37 → length h ≤ 5 → (a : Answer) → AnswerSpells a (x ∷ h) → ⊥
no_mark_answer h x first short (answer.Status s) spelled = clash is_status_byte 0x37 s (sym first ∙ cc spelled.in_table) spelled.in_range (refl {a = false})
no_mark_answer h x first short (answer.Mark id) spelled = elim (four_of id spelled.in_range) [
  | four a b c d e p q r s ↦ let long : h ≡ 0x22 ∷ (a ∷ b ∷ c ∷ d ∷ 0x00 ∷ []) = cc (spelled.in_table, e) in absurd (omega (arith, ap length long, short))
]
no_mark_answer h x first short (answer.Condition bs) spelled = elim (block_of bs spelled.in_range) [
  | block a b c d e p q r s ↦ not_mark a p (cc (spelled.in_table, e, first))
]

-- A status byte has bit 1 set.
no_status : (b : ℕ) → IsTrue (begins_block b) → is_status_byte b ≡ false
no_status b begins = grind (arith, begins, nat_tests)

no_block_answer : (h : List ℕ) (x : ℕ) → IsTrue (begins_block x) → length h ≤ 2 → (a : Answer) → AnswerSpells a (x ∷ h) → ⊥
no_block_answer h x begins short (answer.Status s) spelled = clash is_status_byte x s (cc spelled.in_table) spelled.in_range (no_status x begins)
no_block_answer h x begins short (answer.Mark id) spelled = not_mark x begins (cc spelled.in_table)
no_block_answer h x begins short (answer.Condition bs) spelled = elim (block_of bs spelled.in_range) [
  | block a b c d e p q r s ↦ let long : h ≡ b ∷ c ∷ d ∷ [] = cc (spelled.in_table, e) in absurd (omega (arith, ap length long, short))
]

half_of_mark : (x : ℕ) (h : List ℕ) → x ≡ 0x37 → IsMarkFront h → HalfAnswer (x ∷ h)
half_of_mark x [] first front = record {
  begun = λ e. cc e;
  viable = (answer.Mark (0x30 ∷ 0x30 ∷ 0x30 ∷ 0x30 ∷ []), 0x22 ∷ 0x30 ∷ 0x30 ∷ 0x30 ∷ 0x30 ∷ 0x00 ∷ [], record { in_range = refl; in_table = cc first });
  no_answer = no_mark_answer [] x first (omega arith);
}
half_of_mark x (y ∷ id) first front = record {
  begun = λ e. cc e;
  viable = (
    answer.Mark (id ++ padding (length id)),
    padding (length id) ++ 0x00 ∷ [],
    record {
      in_range = padded id front.1 front.2;
      in_table = cc (first, front.0, append_assoc id (padding (length id)) (0x00 ∷ []));
    },
  );
  no_answer = no_mark_answer (y ∷ id) x first (omega (arith, front.1));
}

half_of_block : (x : ℕ) (h : List ℕ) → IsTrue (begins_block x) → IsBlockFront h → HalfAnswer (x ∷ h)
half_of_block x h begins front = record {
  begun = λ e. cc e;
  viable = (
    answer.Condition (x ∷ (h ++ filling (length h))),
    filling (length h),
    record { in_range = filled x h begins front; in_table = refl },
  );
  no_answer = no_block_answer h x begins front.0;
}

half_of : (h : List ℕ) → IsFront h → h ≢ [] → HalfAnswer h
half_of [] front some = absurd (some refl)
half_of (x ∷ h) (inl (first, rest)) some = half_of_mark x h first rest
half_of (x ∷ h) (inr (begins, rest)) some = half_of_block x h begins rest

-- A prefix with a byte after it that is a prefix too is a half answer.
pub longer_half : (h : List ℕ) (b : ℕ) → IsFront (h ++ b ∷ []) → HalfAnswer (h ++ b ∷ [])
longer_half h b front = half_of (h ++ b ∷ []) front (λ e. absurd (omega (arith, ap length e, length-append h (b ∷ []))))

-- A prefix is nothing or a half answer.
pub front_or_nothing : (h : List ℕ) → IsFront h → (h ≡ []) ⊎ HalfAnswer h
front_or_nothing [] front = inl refl
front_or_nothing (x ∷ h) front = inr (half_of (x ∷ h) front (λ e. let bad : x ∷ h ≡ [] = e in cc))
