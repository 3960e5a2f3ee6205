-- The bytes of answers that go out one after another.
use Rattle.std.proofs.Common.{◌≡◌, ◌<◌, ◌≤◌, ◌+◌, ◌-◌, ℕ, List, [], ◌∷◌, ◌++◌, Bool, true, false, length, take, drop, refl, sym, ◌∙◌, ap, subst, append_assoc, append-nil, length-append, arith, Option, Some, None, cond, zero, suc}
use Rattle.std.specs.Prelude.{slice_get, nat_lt}
use Rattle.std.specs.Io.KnownBytes.{Appends}
use Rattle.std.proofs.KnownBytes.{Appends-nil, Appends-trans}
use Rattle.std.proofs.Math.Seq.{take-append-add}
use Rattle.std.proofs.lemmas.List.{take-append-le}
use Rattle.std.proofs.lemmas.Bool.Decides.{nat_tests}
use Rattle.std.proofs.lemmas.Grind.{flat_map-append}
use Rattle.escpos_command.specs.declared.answer.Answer.{Answer}
use Rattle.escpos_command.specs.Answers.{answer_bytes, spell_answers}
use Rattle.escpos_printer.specs.Serves.{AllOut, CutOff, sent, after_byte}

pub some_first : (xs : List Answer) (a : Answer) → slice_get xs 0 ≡ Some a → xs ≡ a ∷ drop 1 xs
some_first [] a e = absurd cc
some_first (x ∷ xs) a e = let same : x ≡ a = cc in ap (λ v. v ∷ xs) same

pub none_first : (xs : List Answer) → slice_get xs 0 ≡ None → xs ≡ []
none_first [] e = refl
none_first (x ∷ xs) e = absurd cc

-- Of all answers those that are gone went out, and those in `now` wait.
pub record Out (w0 w : Option (List ℕ)) (all now : List Answer) (written : ℕ) : Type 0 where
  pub gone : List Answer
  pub split : all ≡ gone ++ now
  pub out : Appends w0 w (spell_answers gone)
  pub count : written ≡ length (spell_answers gone)

pub out_none : (w : Option (List ℕ)) (all : List Answer) → Out w w all all 0
out_none w all = record { gone = []; split = refl; out = Appends-nil w; count = refl }

one_gone : (gone : List Answer) (a : Answer) → spell_answers (gone ++ a ∷ []) ≡ spell_answers gone ++ answer_bytes a
one_gone gone a = flat_map-append answer_bytes gone (a ∷ []) ∙ ap (λ v. spell_answers gone ++ v) (append-nil (answer_bytes a))

pub out_more : (w0 w v : Option (List ℕ)) (all rest : List Answer) (a : Answer) (n : ℕ) → Out w0 w all (a ∷ rest) n → Appends w v (answer_bytes a)
    → Out w0 v all rest (n + length (answer_bytes a))
out_more w0 w v all rest a n o h = record {
  gone = o.gone ++ a ∷ [];
  split = o.split ∙ sym (append_assoc o.gone (a ∷ []) rest);
  out = subst (λ bs. Appends w0 v bs) (sym (one_gone o.gone a)) (Appends-trans w0 w v (spell_answers o.gone) (answer_bytes a) o.out h);
  count = ap (λ m. m + length (answer_bytes a)) o.count ∙ sym (length-append (spell_answers o.gone) (answer_bytes a)) ∙ ap length (sym (one_gone o.gone a));
}

pub out_all : (w0 w : Option (List ℕ)) (all now : List Answer) (n : ℕ) → Out w0 w all now n → now ≡ [] → AllOut (sent w0 w) all n now
out_all w0 w all now n o e =
    let same : all ≡ o.gone = o.split ∙ ap (λ v. o.gone ++ v) e ∙ append-nil o.gone in
    record {
      out = subst (λ v. Appends w0 w (spell_answers v)) (sym same) o.out;
      count = o.count ∙ ap (λ v. length (spell_answers v)) (sym same);
      none = e;
    }

-- The bytes of the answers before a place, and of the one there.
pub one_more_answer : (answers : List Answer) (i : ℕ) (a : Answer) → slice_get answers i ≡ Some a
    → spell_answers (take (i + 1) answers) ≡ spell_answers (take i answers) ++ answer_bytes a
one_more_answer [] i a e = absurd cc
one_more_answer (x ∷ answers) zero a e = let same : x ≡ a = cc in ap (λ v. answer_bytes v ++ []) same ∙ append-nil (answer_bytes a)
one_more_answer (x ∷ answers) (suc i) a e =
    let count : suc i + 1 ≡ suc (i + 1) = omega arith in
    ap (λ n. spell_answers (take n (x ∷ answers))) count ∙ ap (λ v. answer_bytes x ++ v) (one_more_answer answers i a e)
    ∙ sym (append_assoc (answer_bytes x) (spell_answers (take i answers)) (answer_bytes a))

-- ## The answer in hand

less_than : (m n : ℕ) → m < n → nat_lt m n ≡ true
less_than m n h = grind (arith, nat_tests)

not_less : (m n : ℕ) → nat_lt (m + n) m ≡ false
not_less m n = grind (arith, nat_tests)

behind_here : (a : Answer) (rest : List Answer) (k : ℕ) (b : Bool) → nat_lt k (length (answer_bytes a)) ≡ b → b ≡ true → after_byte (a ∷ rest) k ≡ rest
behind_here a rest k b e t = ap (λ v. cond v rest (after_byte rest (k - length (answer_bytes a)))) (e ∙ t)

behind_later : (a : Answer) (rest : List Answer) (k : ℕ) → after_byte (a ∷ rest) (length (answer_bytes a) + k) ≡ after_byte rest k
behind_later a rest k =
    let n = length (answer_bytes a) in
    ap (λ v. cond v rest (after_byte rest (n + k - n))) (not_less n k) ∙ ap (λ v. after_byte rest v) (omega arith)

behind_gone : (gone : List Answer) (a : Answer) (rest : List Answer) (k : ℕ) → k < length (answer_bytes a) → after_byte (gone ++ a ∷ rest) (length (spell_answers gone) + k) ≡ rest
behind_gone [] a rest k h =
    let none : 0 + k ≡ k = omega arith in
    ap (λ m. after_byte (a ∷ rest) m) none ∙ behind_here a rest k _ refl (less_than k (length (answer_bytes a)) h)
behind_gone (g ∷ gone) a rest k h =
    let n = length (answer_bytes g) in
    let m = length (spell_answers gone) in
    let count : length (spell_answers (g ∷ gone)) + k ≡ n + (m + k) = omega (arith, length-append (answer_bytes g) (spell_answers gone)) in
    ap (λ v. after_byte (g ∷ (gone ++ a ∷ rest)) v) count ∙ behind_later g (gone ++ a ∷ rest) (m + k) ∙ behind_gone gone a rest k h

all_bytes : (gone : List Answer) (a : Answer) (rest : List Answer) → spell_answers (gone ++ a ∷ rest) ≡ spell_answers gone ++ (answer_bytes a ++ spell_answers rest)
all_bytes gone a rest = flat_map-append answer_bytes gone (a ∷ rest)

pub out_cut : (w0 w v : Option (List ℕ)) (all rest : List Answer) (a : Answer) (n k : ℕ) → Out w0 w all (a ∷ rest) n → k < length (answer_bytes a)
    → Appends w v (take k (answer_bytes a)) → CutOff (sent w0 v) all (n + k) rest
out_cut w0 w v all rest a n k o few h =
    let bytes : spell_answers all ≡ spell_answers o.gone ++ (answer_bytes a ++ spell_answers rest) = ap spell_answers o.split ∙ all_bytes o.gone a rest in
    let within : k ≤ length (answer_bytes a) = omega arith in
    let front : take (n + k) (spell_answers all) ≡ spell_answers o.gone ++ take k (answer_bytes a) =
    ap (λ m. take (m + k) (spell_answers all)) o.count ∙ ap (λ bs. take (length (spell_answers o.gone) + k) bs) bytes
    ∙ take-append-add (spell_answers o.gone) (answer_bytes a ++ spell_answers rest) k
    ∙ ap (λ bs. spell_answers o.gone ++ bs) (take-append-le k (answer_bytes a) (spell_answers rest) within) in
    record {
      out = record {
        front = subst (λ bs. Appends w0 v bs) (sym front) (Appends-trans w0 w v (spell_answers o.gone) (take k (answer_bytes a)) o.out h);
        fewer =
            let long = ap length bytes ∙ length-append (spell_answers o.gone) (answer_bytes a ++ spell_answers rest) in
            let more = length-append (answer_bytes a) (spell_answers rest) in
            let count = o.count in omega (arith, long, more, count, few);
      };
      later = sym (ap (λ m. after_byte all (m + k)) o.count ∙ ap (λ xs. after_byte xs (length (spell_answers o.gone) + k)) o.split ∙ behind_gone o.gone a rest k few);
    }

-- ## Answers after answers

spell_both : (xs ys : List Answer) → spell_answers (xs ++ ys) ≡ spell_answers xs ++ spell_answers ys
spell_both xs ys = flat_map-append answer_bytes xs ys

behind_over : (xs ys : List Answer) (k : ℕ) → after_byte (xs ++ ys) (length (spell_answers xs) + k) ≡ after_byte ys k
behind_over [] ys k = let none : 0 + k ≡ k = omega arith in ap (λ m. after_byte ys m) none
behind_over (x ∷ xs) ys k =
    let n = length (answer_bytes x) in
    let m = length (spell_answers xs) in
    let count : length (spell_answers (x ∷ xs)) + k ≡ n + (m + k) = omega (arith, length-append (answer_bytes x) (spell_answers xs)) in
    ap (λ v. after_byte (x ∷ (xs ++ ys)) v) count ∙ behind_later x (xs ++ ys) (m + k) ∙ behind_over xs ys k

-- No answer holds a byte after the last one, so none is left.
pub all_dropped : (answers : List Answer) → after_byte answers (length (spell_answers answers)) ≡ []
all_dropped answers =
    let same : length (spell_answers answers) + 0 ≡ length (spell_answers answers) = omega arith in
    sym (ap (after_byte answers) same) ∙ ap (λ xs. after_byte xs (length (spell_answers answers) + 0)) (sym (append-nil answers)) ∙ behind_over answers [] 0

pub all_on : (a b c : Option (List ℕ)) (xs ys v w : List Answer) (n k : ℕ) → AllOut (sent a b) xs n v → AllOut (sent b c) ys k w → AllOut (sent a c) (xs ++ ys) (n + k) w
all_on a b c xs ys v w n k o p = record {
  out = subst (λ bs. Appends a c bs) (sym (spell_both xs ys)) (Appends-trans a b c (spell_answers xs) (spell_answers ys) o.out p.out);
  count =
      ap (λ m. m + k) o.count ∙ ap (λ m. length (spell_answers xs) + m) p.count ∙ sym (length-append (spell_answers xs) (spell_answers ys))
      ∙ ap length (sym (spell_both xs ys));
  none = p.none;
}

pub cut_on : (a b c : Option (List ℕ)) (xs ys v w : List Answer) (n k : ℕ) → AllOut (sent a b) xs n v → CutOff (sent b c) ys k w → CutOff (sent a c) (xs ++ ys) (n + k) w
cut_on a b c xs ys v w n k o p =
    let front : take (n + k) (spell_answers (xs ++ ys)) ≡ spell_answers xs ++ take k (spell_answers ys) =
    ap (λ m. take (m + k) (spell_answers (xs ++ ys))) o.count ∙ ap (λ bs. take (length (spell_answers xs) + k) bs) (spell_both xs ys)
    ∙ take-append-add (spell_answers xs) (spell_answers ys) k in
    record {
      out = record {
        front = subst (λ bs. Appends a c bs) (sym front) (Appends-trans a b c (spell_answers xs) (take k (spell_answers ys)) o.out p.out.front);
        fewer =
            let long = ap length (spell_both xs ys) ∙ length-append (spell_answers xs) (spell_answers ys) in
            let count = o.count in
            let few = p.out.fewer in omega (arith, long, count, few);
      };
      later = p.later ∙ sym (ap (λ m. after_byte (xs ++ ys) (m + k)) o.count ∙ behind_over xs ys k);
    }
