-- What one more entry does to the first receipt that waits.
use Rattle.std.proofs.Common.{ℕ, zero, suc, ◌≡◌, ◌≢◌, ◌+◌, ◌<◌, ◌≤◌, ◌⊎◌, inl, inr, Some, None, List, [], ◌∷◌, ◌++◌, length, set, refl, sym, ap, subst, length-append, length-set, arith}
use Rattle.std.specs.Prelude.{slice_get}
use Rattle.escpos_till.specs.declared.state.ReceiptState.{ReceiptState}
use Rattle.escpos_till.specs.declared.state.ReceiptState.TheVariants as state
use Rattle.escpos_till.specs.States.{IsFirstBesides, IsFirstWaiting, IsNextWaiting, IsEnded}

pub get-set : {X : Type 0} (xs : List X) (i k : ℕ) (y s : X) → slice_get (set xs i y) k ≡ Some s → ((k ≡ i) × (s ≡ y) × (k < length xs)) ⊎ (slice_get xs k ≡ Some s)
get-set [] i k y s h = inr h
get-set (x ∷ xs) zero zero y s h = inl (refl, cc, omega arith)
get-set (x ∷ xs) zero (suc k) y s h = inr h
get-set (x ∷ xs) (suc i) zero y s h = inr h
get-set (x ∷ xs) (suc i) (suc k) y s h = elim (get-set xs i k y s h) [
  | inl here ↦ inl (ap suc here.0, here.1, omega (arith, here.2))
  | inr other ↦ inr other
]

pub get-snoc : {X : Type 0} (xs : List X) (x : X) (k : ℕ) (s : X) → slice_get (xs ++ x ∷ []) k ≡ Some s → (slice_get xs k ≡ Some s) ⊎ ((k ≡ length xs) × (s ≡ x))
get-snoc [] x zero s h = inr (refl, cc)
get-snoc [] x (suc k) s h = absurd (let bad : None ≡ Some s = h in cc)
get-snoc (y ∷ xs) x zero s h = inl h
get-snoc (y ∷ xs) x (suc k) s h = elim (get-snoc xs x k s h) [
  | inl within ↦ inl within
  | inr last ↦ inr (ap suc last.0, last.1)
]

pub ended_unless : (s : ReceiptState) → ((tried : ℕ) → s ≡ state.Waiting tried → ⊥) → IsEnded s
ended_unless (state.Waiting tried) other = absurd (other tried refl)
ended_unless (state.Recorded place) other = tt
ended_unless (state.Cancelled tried) other = tt

pub waiting_is_not : (s : ReceiptState) (tried : ℕ) → s ≡ state.Waiting tried → IsEnded s → ⊥
waiting_is_not s tried e h = subst IsEnded e h

below_or_from : (k from : ℕ) → (k < from) ⊎ (from ≤ k)
below_or_from k zero = inr (omega arith)
below_or_from zero (suc from) = inl (omega arith)
below_or_from (suc k) (suc from) = elim (below_or_from k from) [
  | inl below ↦ inl (omega (arith, below))
  | inr beyond ↦ inr (omega (arith, beyond))
]

pub first_of_next : (ss : List ReceiptState) (from at : ℕ) → ((k : ℕ) (s : ReceiptState) → k < from → slice_get ss k ≡ Some s → IsEnded s) → IsNextWaiting ss from at → IsFirstWaiting ss at
first_of_next ss from at passed next = record {
  within = next.within;
  passed = λ k s before h. elim (below_or_from k from) [
    | inl below ↦ passed k s below h
    | inr beyond ↦ next.passed k s beyond before h
  ];
  waits = next.waits;
}

-- Where the first one is left out, the next one is the first of the others.
pub besides_first : (ss : List ReceiptState) (first at : ℕ) → IsFirstWaiting ss first → IsNextWaiting ss (first + 1) at → IsFirstBesides ss first at
besides_first ss first at f next = record {
  other = λ l same. omega (arith, next.beyond, same);
  passed = λ k s before differs h. elim (below_or_from k first) [
    | inl below ↦ f.passed k s below h
    | inr beyond ↦ next.passed k s (later k first beyond differs) before h
  ];
  waits = next.waits;
}
  where
    later : (k first : ℕ) → first ≤ k → k ≢ first → first + 1 ≤ k
    later k first beyond differs = elim (below_or_from first k) [
      | inl below ↦ omega (arith, below)
      | inr fewer ↦ absurd (differs (omega (arith, beyond, fewer)))
    ]

-- Where another one is, it is the first still.
pub besides_other : (ss : List ReceiptState) (first skipped : ℕ) → IsFirstWaiting ss first → (skipped ≡ first → skipped < length ss → ⊥) → IsFirstBesides ss skipped first
besides_other ss first skipped f other = record {
  other = λ l same. other (sym same) (subst (λ n. n < length ss) same l);
  passed = λ k s before differs h. f.passed k s before h;
  waits = f.waits;
}

pub first_after_queued : (ss : List ReceiptState) (at : ℕ) → IsFirstWaiting ss at → IsFirstWaiting (ss ++ state.Waiting 0 ∷ []) at
first_after_queued ss at f = record {
  within = omega (arith, f.within, length-append ss (state.Waiting 0 ∷ []));
  passed = λ k s before h. elim (get-snoc ss (state.Waiting 0) k s h) [
    | inl within ↦ f.passed k s before within
    | inr last ↦ absurd (omega (arith, last.0, before, f.within))
  ];
  waits = λ s h is. elim (get-snoc ss (state.Waiting 0) at s h) [
    | inl within ↦ f.waits s within is
    | inr last ↦ waiting_is_not s 0 last.1 is
  ];
}

pub first_after_tried : (ss : List ReceiptState) (at d old new : ℕ) → slice_get ss d ≡ Some (state.Waiting old) → IsFirstWaiting ss at → IsFirstWaiting (set ss d (state.Waiting new)) at
first_after_tried ss at d old new was f = record {
  within = subst (λ n. at ≤ n) (sym (length-set ss d (state.Waiting new))) f.within;
  passed = λ k s before h. elim (get-set ss d k (state.Waiting new) s h) [
    | inl here ↦ absurd (f.passed d (state.Waiting old) (subst (λ n. n < at) here.0 before) was)
    | inr other ↦ f.passed k s before other
  ];
  waits = λ s h is. elim (get-set ss d at (state.Waiting new) s h) [
    | inl here ↦ waiting_is_not s new here.1 is
    | inr other ↦ f.waits s other is
  ];
}

pub passed_after_end : (ss : List ReceiptState) (at d : ℕ) (end : ReceiptState) → IsEnded end → IsFirstWaiting ss at → (k : ℕ) (s : ReceiptState) → k < at → slice_get (set ss d end) k ≡ Some s → IsEnded s
passed_after_end ss at d end is_end f k s before h = elim (get-set ss d k end s h) [
  | inl here ↦ subst IsEnded (sym here.1) is_end
  | inr other ↦ f.passed k s before other
]
