-- The combinators of the tree: which bytes lead through them, and that they are good where their parts are. Each fact is
-- proved once, for any test, table or length.
use Rattle.std.proofs.Common.{◌≡◌, ℕ, List, [], ◌∷◌, ◌++◌, length, refl, sym, ◌∙◌, ap, subst, append_assoc, arith, Bool, true, false, cond, zero, suc, append-nil, ◌+◌, ◌≤◌, length-append}
use Rattle.std.specs.Prelude.{◌==◌, ◌&&◌}
use Rattle.std.specs.List.{list_all, AllByRecursion}
use Rattle.std.proofs.lemmas.Bool.Decides.{nat_tests}
use Rattle.escpos_command.specs.declared.command.Command.{Command}
use Rattle.escpos_command.specs.CommandTable.{Spells, IsCommand, row}
use Rattle.escpos_command.specs.Barcodes.{all_from}
use Rattle.escpos_command.specs.Tree.{Tree, dead, leaf, walk, these, passing, one, counted, closed, stopped, ending, branch}
use Rattle.escpos_command.proofs.Walks.{IsLive, Good}

pub same_number : (a b : ℕ) → (a == b) ≡ true → a ≡ b
same_number a b h = grind (arith, nat_tests)

pub number_itself : (a : ℕ) → (a == a) ≡ true
number_itself a = grind (arith, nat_tests)

pub and_left : (a b : Bool) → (a && b) ≡ true → a ≡ true
and_left true b h = refl
and_left false b h = h

pub and_right : (a b : Bool) → (a && b) ≡ true → b ≡ true
and_right true b h = h
and_right false b h = absurd cc

pub both : (a b : Bool) → a ≡ true → b ≡ true → (a && b) ≡ true
both a b h k = rw (h, k)

-- A choice is good where each side is, when it is taken.
pub good_choice : (p : List ℕ) (t u : Tree) (b : Bool) → (b ≡ true → Good p t) → (b ≡ false → Good p u) → Good p (cond b t u)
good_choice p t u true yes_good no_good = yes_good refl
good_choice p t u false yes_good no_good = no_good refl

pub live_choice : (t u : Tree) (b : Bool) → b ≡ true → IsLive t → IsLive (cond b t u)
live_choice t u b h l = subst (λ v. IsLive (cond v t u)) (sym h) l

pub good_passing : (p : List ℕ) (test : ℕ → Bool) (next : ℕ → Tree) (x : ℕ) → test x ≡ true → IsLive (next x)
    → ((b : ℕ) → test b ≡ true → Good (p ++ b ∷ []) (next b)) → Good p (passing test next)
good_passing p test next x h l g =
    ((x, live_choice (next x) dead (test x) h l), λ b. good_choice (p ++ b ∷ []) (next b) dead (test b) (g b) (λ _. tt))

pub good_one : (p : List ℕ) (test : ℕ → Bool) (make : ℕ → Command) (x : ℕ) → test x ≡ true
    → ((b : ℕ) → test b ≡ true → Spells (make b) (p ++ b ∷ [])) → Good p (one test make)
good_one p test make x h spells = good_passing p test (λ n. leaf (make n)) x h tt spells

pub walk-one : (test : ℕ → Bool) (make : ℕ → Command) (n : ℕ) → test n ≡ true → walk (one test make) (n ∷ []) ≡ leaf (make n)
walk-one test make n h = ap (λ v. walk (cond v (leaf (make n)) dead) []) h

pub good_branch : (p : List ℕ) (entries : List (ℕ × Tree)) (other : ℕ → Tree) → AllByRecursion (λ e. Good (p ++ e.0 ∷ []) e.1) entries
    → ((b : ℕ) → Good (p ++ b ∷ []) (other b)) → (b : ℕ) → Good (p ++ b ∷ []) (branch entries other b)
good_branch p [] other g h b = h b
good_branch p (entry ∷ entries) other g h b =
    good_choice (p ++ b ∷ []) entry.1 (branch entries other b) (b == entry.0)
    (λ e. subst (λ x. Good (p ++ x ∷ []) entry.1) (sym (same_number b entry.0 e)) g.0)
    (λ _. good_branch p entries other g.1 h b)

live_these : (bs : List ℕ) (t : Tree) → IsLive t → IsLive (these bs t)
live_these [] t l = l
live_these (b ∷ bs) t l = tt

pub good_these : (p bs : List ℕ) (t : Tree) → IsLive t → Good (p ++ bs) t → Good p (these bs t)
good_these p [] t l g = subst (λ xs. Good xs t) (append-nil p) g
good_these p (b ∷ bs) t l g = (
  (b, live_choice (these bs t) dead (b == b) (number_itself b) (live_these bs t l)),
  λ x. good_choice (p ++ x ∷ []) (these bs t) dead (x == b)
      (λ e. subst (λ y. Good (p ++ y ∷ []) (these bs t)) (sym (same_number x b e))
      (good_these (p ++ b ∷ []) bs t l (subst (λ xs. Good xs t) (sym (append_assoc p (b ∷ []) bs)) g)))
      (λ _. tt),
)

pub walk-these : (bs : List ℕ) (t : Tree) (q : List ℕ) → walk (these bs t) (bs ++ q) ≡ walk t q
walk-these [] t q = refl
walk-these (b ∷ bs) t q = ap (λ v. walk (cond v (these bs t) dead) (bs ++ q)) (number_itself b) ∙ walk-these bs t q

pub live_counted : (n : ℕ) (test : ℕ → ℕ → Bool) (make : List ℕ → Command) (read : List ℕ) → IsLive (counted n test make read)
unfolding counted
live_counted zero test make read = tt
live_counted (suc n) test make read = tt

-- Counted bytes are good where some byte passes at each place, and the command of all of them is spelled so.
pub good_counted : (n : ℕ) (p : List ℕ) (test : ℕ → ℕ → Bool) (make : List ℕ → Command) (read : List ℕ)
    → ((place : ℕ) → (b : ℕ) × (test place b ≡ true))
    → ((xs : List ℕ) → length xs ≡ n → all_from (length read) test xs ≡ true → Spells (make (read ++ xs)) (p ++ xs)) → Good p (counted n test make read)
unfolding counted
good_counted zero p test make read some spells =
    subst (λ xs. Spells (make xs) p) (append-nil read) (subst (λ xs. Spells (make (read ++ [])) xs) (append-nil p) (spells [] refl refl))
good_counted (suc n) p test make read some spells =
    good_passing p (test (length read)) (λ b. counted n test make (read ++ b ∷ [])) (some (length read)).0 (some (length read)).1
    (live_counted n test make (read ++ (some (length read)).0 ∷ []))
    (λ b passes. good_counted n (p ++ b ∷ []) test make (read ++ b ∷ []) some (λ xs long all.
    subst (λ ys. Spells (make ys) ((p ++ b ∷ []) ++ xs)) (sym (append_assoc read (b ∷ []) xs))
    (subst (λ ys. Spells (make (read ++ b ∷ xs)) ys) (sym (append_assoc p (b ∷ []) xs))
    (spells (b ∷ xs) (ap suc long) (both _ _ passes (subst (λ m. all_from m test xs ≡ true) (length-append read (b ∷ [])) all))))))

pub walk-counted : (n : ℕ) (test : ℕ → ℕ → Bool) (make : List ℕ → Command) (read xs : List ℕ) → length xs ≡ n → all_from (length read) test xs ≡ true
    → walk (counted n test make read) xs ≡ leaf (make (read ++ xs))
unfolding counted
walk-counted zero test make read [] long all = ap (λ v. leaf (make v)) (sym (append-nil read))
walk-counted zero test make read (x ∷ xs) long all = absurd (omega arith)
walk-counted (suc n) test make read [] long all = absurd (omega arith)
walk-counted (suc n) test make read (x ∷ xs) long all =
    ap (λ v. walk (cond v (counted n test make (read ++ x ∷ [])) dead) xs) (and_left (test (length read) x) (all_from (length read + 1) test xs) all)
    ∙ walk-counted n test make (read ++ x ∷ []) xs (omega arith)
    (subst (λ m. all_from m test xs ≡ true) (sym (length-append read (x ∷ []))) (and_right (test (length read) x) (all_from (length read + 1) test xs) all))
    ∙ ap (λ v. leaf (make v)) (append_assoc read (x ∷ []) xs)

-- A test that doesn't ask for the place.
pub all_from_all : (place : ℕ) (test : ℕ → Bool) (xs : List ℕ) → all_from place (λ _. test) xs ≡ list_all test xs
all_from_all place test [] = refl
all_from_all place test (x ∷ xs) = ap (λ v. test x && v) (all_from_all (place + 1) test xs)

passes_no_zero : (test : ℕ → Bool) (b : ℕ) → test 0 ≡ false → test b ≡ true → (b == 0) ≡ false
passes_no_zero test zero h k = let clash : true ≡ false = sym k ∙ h in absurd cc
passes_no_zero test (suc b) h k = grind (arith, nat_tests)

-- Bytes that each pass, and then 00.
pub live_closed : (n : ℕ) (test : ℕ → Bool) (whole : List ℕ → Bool) (make : List ℕ → Command) (read : List ℕ) → IsLive (closed n test whole make read)
unfolding closed
live_closed zero test whole make read = tt
live_closed (suc n) test whole make read = tt

good_ending : (p : List ℕ) (whole : List ℕ → Bool) (make : List ℕ → Command) (read : List ℕ) (b : ℕ)
    → (whole read ≡ true → Spells (make read) (p ++ 0 ∷ [])) → (b == 0) ≡ true → Good (p ++ b ∷ []) (ending whole make read)
good_ending p whole make read b spells e =
    good_choice _ _ _ (whole read) (λ h. subst (λ x. Spells (make read) (p ++ x ∷ [])) (sym (same_number b 0 e)) (spells h)) (λ _. tt)

-- They are good where the digit 0 passes, as many bytes as there may be are whole, and what is whole is spelled so.
pub good_closed : (n : ℕ) (p : List ℕ) (test : ℕ → Bool) (whole : List ℕ → Bool) (make : List ℕ → Command) (read : List ℕ)
    → test 0x30 ≡ true
    → ((xs : List ℕ) → length xs ≡ n → whole (read ++ xs) ≡ true)
    → ((xs : List ℕ) → length xs ≤ n → list_all test xs ≡ true → whole (read ++ xs) ≡ true → Spells (make (read ++ xs)) (p ++ (xs ++ 0 ∷ [])))
    → Good p (closed n test whole make read)
unfolding closed
good_closed zero p test whole make read digit full spells = (
  (0, live_choice (leaf (make read)) dead (whole read) (subst (λ v. whole v ≡ true) (append-nil read) (full [] refl)) tt),
  λ b. good_choice (p ++ b ∷ []) (ending whole make read) dead (b == 0)
      (good_ending p whole make read b (λ h. subst (λ v. Spells (make v) (p ++ 0 ∷ [])) (append-nil read) (spells [] (omega arith) refl (subst (λ v. whole v ≡ true) (sym (append-nil read)) h))))
      (λ _. tt),
)
good_closed (suc n) p test whole make read digit full spells = (
  (0x30, live_choice (closed n test whole make (read ++ 0x30 ∷ [])) dead (test 0x30) digit (live_closed n test whole make (read ++ 0x30 ∷ []))),
  λ b. good_choice (p ++ b ∷ []) (ending whole make read) (cond (test b) (closed n test whole make (read ++ b ∷ [])) dead) (b == 0)
      (good_ending p whole make read b (λ h. subst (λ v. Spells (make v) (p ++ 0 ∷ [])) (append-nil read) (spells [] (omega arith) refl (subst (λ v. whole v ≡ true) (sym (append-nil read)) h))))
      (λ _. good_choice (p ++ b ∷ []) (closed n test whole make (read ++ b ∷ [])) dead (test b)
      (λ passes. good_closed n (p ++ b ∷ []) test whole make (read ++ b ∷ []) digit
      (λ xs long. subst (λ v. whole v ≡ true) (sym (append_assoc read (b ∷ []) xs)) (full (b ∷ xs) (ap suc long)))
      (λ xs few all h.
      subst (λ v. Spells (make v) ((p ++ b ∷ []) ++ (xs ++ 0 ∷ []))) (sym (append_assoc read (b ∷ []) xs))
      (subst (λ v. Spells (make (read ++ b ∷ xs)) v) (sym (append_assoc p (b ∷ []) (xs ++ 0 ∷ [])))
      (spells (b ∷ xs) (omega arith) (both _ _ passes all) (subst (λ v. whole v ≡ true) (append_assoc read (b ∷ []) xs) h)))))
      (λ _. tt)),
)

pub walk-closed : (n : ℕ) (test : ℕ → Bool) (whole : List ℕ → Bool) (make : List ℕ → Command) (read xs : List ℕ)
    → test 0 ≡ false → length xs ≤ n → list_all test xs ≡ true → whole (read ++ xs) ≡ true
    → walk (closed n test whole make read) (xs ++ 0 ∷ []) ≡ leaf (make (read ++ xs))
unfolding closed
walk-closed zero test whole make read [] zero_fails few all h =
    ap (λ v. walk (cond v (leaf (make read)) dead) []) (subst (λ v. whole v ≡ true) (append-nil read) h) ∙ ap (λ v. leaf (make v)) (sym (append-nil read))
walk-closed zero test whole make read (x ∷ xs) zero_fails few all h = absurd (omega arith)
walk-closed (suc n) test whole make read [] zero_fails few all h =
    ap (λ v. walk (cond v (leaf (make read)) dead) []) (subst (λ v. whole v ≡ true) (append-nil read) h) ∙ ap (λ v. leaf (make v)) (sym (append-nil read))
walk-closed (suc n) test whole make read (x ∷ xs) zero_fails few all h =
    ap (λ v. walk (cond v (ending whole make read) (cond (test x) (closed n test whole make (read ++ x ∷ [])) dead)) (xs ++ 0 ∷ [])) (passes_no_zero test x zero_fails (and_left (test x) (list_all test xs) all))
    ∙ ap (λ v. walk (cond v (closed n test whole make (read ++ x ∷ [])) dead) (xs ++ 0 ∷ [])) (and_left (test x) (list_all test xs) all)
    ∙ walk-closed n test whole make (read ++ x ∷ []) xs zero_fails (omega arith) (and_right (test x) (list_all test xs) all)
    (subst (λ v. whole v ≡ true) (sym (append_assoc read (x ∷ []) xs)) h)
    ∙ ap (λ v. leaf (make v)) (append_assoc read (x ∷ []) xs)

-- Bytes that each pass, one that stops them, and then 00.
pub live_stopped : (n : ℕ) (test stops : ℕ → Bool) (make : List ℕ → Command) (read : List ℕ) → IsLive (stopped n test stops make read)
unfolding stopped
live_stopped zero test stops make read = tt
live_stopped (suc n) test stops make read = tt

good_stop : (p : List ℕ) (make : List ℕ → Command) (read : List ℕ) (b : ℕ)
    → Spells (make (read ++ b ∷ [])) (p ++ b ∷ 0 ∷ []) → Good (p ++ b ∷ []) (these (0x00 ∷ []) (leaf (make (read ++ b ∷ []))))
good_stop p make read b spells =
    good_these (p ++ b ∷ []) (0x00 ∷ []) (leaf (make (read ++ b ∷ []))) tt
    (subst (λ v. Spells (make (read ++ b ∷ [])) v) (sym (append_assoc p (b ∷ []) (0 ∷ []))) spells)

-- They are good where the letter A stops, and what was stopped is spelled so.
pub good_stopped : (n : ℕ) (p : List ℕ) (test stops : ℕ → Bool) (make : List ℕ → Command) (read : List ℕ)
    → stops 0x41 ≡ true
    → ((xs : List ℕ) (b : ℕ) → length xs ≤ n → list_all test xs ≡ true → stops b ≡ true → Spells (make (read ++ (xs ++ b ∷ []))) (p ++ (xs ++ b ∷ 0 ∷ [])))
    → Good p (stopped n test stops make read)
unfolding stopped
good_stopped zero p test stops make read letter spells = (
  (0x41, live_choice (these (0x00 ∷ []) (leaf (make (read ++ 0x41 ∷ [])))) dead (stops 0x41) letter tt),
  λ b. good_choice (p ++ b ∷ []) (these (0x00 ∷ []) (leaf (make (read ++ b ∷ [])))) dead (stops b)
      (λ h. good_stop p make read b (spells [] b (omega arith) refl h)) (λ _. tt),
)
good_stopped (suc n) p test stops make read letter spells = (
  (0x41, live_choice (these (0x00 ∷ []) (leaf (make (read ++ 0x41 ∷ [])))) (cond (test 0x41) (stopped n test stops make (read ++ 0x41 ∷ [])) dead) (stops 0x41) letter tt),
  λ b. good_choice (p ++ b ∷ []) (these (0x00 ∷ []) (leaf (make (read ++ b ∷ [])))) (cond (test b) (stopped n test stops make (read ++ b ∷ [])) dead) (stops b)
      (λ h. good_stop p make read b (spells [] b (omega arith) refl h))
      (λ _. good_choice (p ++ b ∷ []) (stopped n test stops make (read ++ b ∷ [])) dead (test b)
      (λ passes. good_stopped n (p ++ b ∷ []) test stops make (read ++ b ∷ []) letter
      (λ xs z few all h.
      subst (λ v. Spells (make v) ((p ++ b ∷ []) ++ (xs ++ z ∷ 0 ∷ []))) (sym (append_assoc read (b ∷ []) (xs ++ z ∷ [])))
      (subst (λ v. Spells (make (read ++ b ∷ (xs ++ z ∷ []))) v) (sym (append_assoc p (b ∷ []) (xs ++ z ∷ 0 ∷ [])))
      (spells (b ∷ xs) z (omega arith) (both _ _ passes all) h))))
      (λ _. tt)),
)

pub walk-stopped : (n : ℕ) (test stops : ℕ → Bool) (make : List ℕ → Command) (read xs : List ℕ) (z : ℕ)
    → ((b : ℕ) → test b ≡ true → stops b ≡ false) → length xs ≤ n → list_all test xs ≡ true → stops z ≡ true
    → walk (stopped n test stops make read) (xs ++ z ∷ 0 ∷ []) ≡ leaf (make (read ++ (xs ++ z ∷ [])))
unfolding stopped
walk-stopped zero test stops make read [] z apart few all h = ap (λ v. walk (cond v (these (0x00 ∷ []) (leaf (make (read ++ z ∷ [])))) dead) (0 ∷ [])) h
walk-stopped zero test stops make read (x ∷ xs) z apart few all h = absurd (omega arith)
walk-stopped (suc n) test stops make read [] z apart few all h =
    ap (λ v. walk (cond v (these (0x00 ∷ []) (leaf (make (read ++ z ∷ [])))) (cond (test z) (stopped n test stops make (read ++ z ∷ [])) dead)) (0 ∷ [])) h
walk-stopped (suc n) test stops make read (x ∷ xs) z apart few all h =
    let passes = and_left (test x) (list_all test xs) all in
    ap (λ v. walk (cond v (these (0x00 ∷ []) (leaf (make (read ++ x ∷ [])))) (cond (test x) (stopped n test stops make (read ++ x ∷ [])) dead)) (xs ++ z ∷ 0 ∷ [])) (apart x passes)
    ∙ ap (λ v. walk (cond v (stopped n test stops make (read ++ x ∷ [])) dead) (xs ++ z ∷ 0 ∷ [])) passes
    ∙ walk-stopped n test stops make (read ++ x ∷ []) xs z apart (omega arith) (and_right (test x) (list_all test xs) all) h
    ∙ ap (λ v. leaf (make v)) (append_assoc read (x ∷ []) (xs ++ z ∷ []))

-- A command at its spelling.
pub at_row : (c : Command) → IsCommand c → Spells c (row c)
at_row c h = record { in_range = h; in_table = refl }
