-- A run of dots, taken at once.
use Rattle.std.proofs.Common.{◌≡◌, ◌<◌, ◌≤◌, ◌⊎◌, ℕ, ◌-◌, List, [], ◌∷◌, ◌++◌, length, take, refl, sym, ◌∙◌, ap, append_assoc, append-nil, arith, zero, suc, true, false, Fits, w8}
use Rattle.std.specs.Prelude.{slice_index_or, nat_lt, IsTrue}
use Rattle.std.specs.List.{list_all}
use Rattle.std.proofs.lemmas.Bool.{and_parts, and_from}
use Rattle.std.proofs.lemmas.Bool.Decides.{nat_tests}
use Rattle.escpos_command.specs.declared.command.Command.{Command}
use Rattle.escpos_command.specs.Parameters.{is_byte}
use Rattle.escpos_command.specs.Grammar.{Half, Reads}
use Rattle.escpos_command.specs.CommandTable.{spell}
use Rattle.escpos_command.specs.Tree.{Tree, dead, leaf, node, walk, grammar, counted}
use Rattle.escpos_decode.specs.declared.state.State.{State}
use Rattle.escpos_decode.specs.State.{step, prefix_of, tree_of, holds, has_content, IsAt}
use Rattle.escpos_decode.proofs.Steps.{counted_goes, byte_passes}
use Rattle.escpos_command.proofs.Walks.{walk-nil}

pub bytes_pass : (bs : List ℕ) (k : ℕ) → ((i : ℕ) → Fits w8 (slice_index_or bs i 0)) → list_all is_byte (take k bs) ≡ true
bytes_pass bs zero h = refl
bytes_pass [] (suc k) h = refl
bytes_pass (b ∷ bs) (suc k) h =
    and_from (is_byte b) (list_all is_byte (take k bs)) (byte_passes b (let f : Fits w8 b = h 0 in omega (arith, f))) (bytes_pass bs k (λ i. h (suc i)))

walk-cons : (t : Tree) (b : ℕ) (bs : List ℕ) → walk t (b ∷ bs) ≡ walk (step t b) bs
walk-cons dead b bs = refl
walk-cons (leaf c) b bs = refl
walk-cons (node next) b bs = refl

walk-run : (n : ℕ) (make : List ℕ → Command) (read ys : List ℕ) → length ys ≤ n → list_all is_byte ys ≡ true
    → walk (counted n (λ _. is_byte) make read) ys ≡ counted (n - length ys) (λ _. is_byte) make (read ++ ys)
walk-run n make read [] few all =
    walk-nil (counted n (λ _. is_byte) make read)
    ∙ ap (λ m. counted m (λ _. is_byte) make read) (let e : n ≡ n - 0 = omega arith in e) ∙ ap (counted (n - 0) (λ _. is_byte) make) (sym (append-nil read))
walk-run n make read (y ∷ ys) few all =
    let both = and_parts (is_byte y) (list_all is_byte ys) all in
    walk-cons (counted n (λ _. is_byte) make read) y ys
    ∙ ap (λ t. walk t ys) (counted_goes n (λ _. is_byte) make read y (omega arith) both.0)
    ∙ walk-run (n - 1) make (read ++ y ∷ []) ys (omega arith) both.1
    ∙ ap (λ m. counted m (λ _. is_byte) make ((read ++ y ∷ []) ++ ys)) (let e : n - 1 - length ys ≡ n - length (y ∷ ys) = omega arith in e)
    ∙ ap (counted (n - length (y ∷ ys)) (λ _. is_byte) make) (append_assoc read (y ∷ []) ys)

walk-append : (t : Tree) (p q : List ℕ) → walk t (p ++ q) ≡ walk (walk t p) q
walk-append dead p q = refl
walk-append (leaf c) [] q = refl
walk-append (leaf c) (b ∷ p) q = refl
walk-append (node next) [] q = refl
walk-append (node next) (b ∷ p) q = walk-append (next b) p q

pub some_left : (n k : ℕ) → k < n → nat_lt 0 (n - k) ≡ true
some_left n k h = grind (arith, nat_tests)

-- The state after the run, where both states count dots to the same command.
pub run_at : (p q : State) (make : List ℕ → Command) (wanted : ℕ) (read ys : List ℕ) → IsAt p read → tree_of p read ≡ counted wanted (λ _. is_byte) make read → prefix_of q ≡ prefix_of p
    → tree_of q (read ++ ys) ≡ counted (wanted - length ys) (λ _. is_byte) make (read ++ ys) → IsTrue (holds q) → has_content q ≡ true → length ys ≤ wanted → list_all is_byte ys ≡ true → IsAt q (read ++ ys)
run_at p q make wanted read ys at here same there held has few all = record {
  leads =
      ap (λ v. walk grammar (v ++ (read ++ ys))) same ∙ ap (walk grammar) (sym (append_assoc (prefix_of p) read ys))
      ∙ walk-append grammar (prefix_of p ++ read) ys ∙ ap (λ t. walk t ys) (at.leads ∙ here) ∙ walk-run wanted make read ys few all ∙ sym there;
  held = held;
  empty = λ h. absurd (let e : true ≡ false = sym has ∙ h in cc);
}

-- A stream that ended in the half command ends in the one after the run.
pub run_read : (a half ys now : List ℕ) (cs : List Command) → Reads a cs half → now ≡ half ++ ys → (now ≡ []) ⊎ Half now → Reads (a ++ ys) cs now
run_read a half ys now cs r e rest = record {
  commands = r.commands;
  whole = ap (λ v. v ++ ys) r.whole ∙ append_assoc (spell cs) half ys ∙ ap (λ v. spell cs ++ v) (sym e);
  rest_is = rest;
}

pub some_wanted : (n : ℕ) → nat_lt 0 n ≡ true → 0 < n
some_wanted n h = grind (arith, nat_tests)
