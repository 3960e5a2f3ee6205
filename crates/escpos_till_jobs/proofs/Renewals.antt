-- What comes of a renewal.
use Rattle.std.proofs.Common.{ℕ, ◌≡◌, ◌+◌, ◌<◌, ◌⊎◌, inl, inr, refl, Result, Ok, Err, IfOk, IfErr, List, [], ◌∷◌, ◌++◌, length, take, get_or, sym, ◌∙◌, ap, subst, append-nil, append_assoc, add-one, length-append, arith}
use Rattle.std.proofs.Math.Seq.{take-suc}
use Rattle.escpos_till.specs.declared.entry.Entry.{Entry}
use Rattle.escpos_till.specs.declared.entry.Entry.TheVariants as entry
use Rattle.escpos_till.specs.declared.store.NoStore.{NoStore}
use Rattle.escpos_till.specs.declared.store.NoStore.TheVariants as store
use Rattle.escpos_till.specs.declared.store.StoreFault.{StoreFault}
use Rattle.escpos_till.specs.declared.store.StoreFault.TheVariants as fault
use Rattle.escpos_till.specs.Entries.{IsLedger}
use Rattle.escpos_till.specs.Learning.{AreOthers}
use Rattle.escpos_till.specs.Renewing.{BeginsRenewed}
use Rattle.escpos_till_jobs.specs.declared.renew.NoRenewal.{NoRenewal}
use Rattle.escpos_till_jobs.specs.declared.renew.NoRenewal.TheVariants as why
use Rattle.escpos_till_jobs.specs.Renewing.{Has, IsStoresOwn, LeavesSame, MayHave, ending}

-- It was renewed, and that is told; or it wasn't.
pub either_way : (came : Result ℕ NoRenewal) (Renewed Tells : ℕ → Type 0) (Kept Refuses : NoRenewal → Type 0) → IfOk came Renewed → IfErr came Kept → IfOk came Tells
    → IfErr came Refuses → ((waiting : ℕ) × Renewed waiting × Tells waiting) ⊎ ((none : NoRenewal) × Kept none × Refuses none)
either_way (Ok waiting) Renewed Tells Kept Refuses renewed kept tells refuses = inl (waiting, renewed, tells)
either_way (Err none) Renewed Tells Kept Refuses renewed kept tells refuses = inr (none, kept, refuses)

-- ## Why there is no renewal

-- What a store failed for is no other reason.
pub stores_own : (given : StoreFault) (none : NoStore) → (given ≡ fault.Failed → none ≡ store.Failed) → (given ≡ fault.Memory → none ≡ store.Memory)
    → (none ≡ store.Failed) ⊎ (none ≡ store.Memory)
stores_own fault.Failed none failed memory = inl (failed refl)
stores_own fault.Memory none failed memory = inr (memory refl)

pub told_so : (given : StoreFault) (none : NoStore) → (given ≡ fault.Failed → none ≡ store.Failed) → (given ≡ fault.Memory → none ≡ store.Memory) → IsStoresOwn (why.NoStore none)
told_so given none failed memory = elim (stores_own given none failed memory) [
  | inl is ↦ inl (ap why.NoStore is)
  | inr is ↦ inr (ap why.NoStore is)
]

pub not_none : (none : NoStore) → (none ≡ store.Failed) ⊎ (none ≡ store.Memory) → none ≡ store.NoLedger → ⊥
not_none none (inl is) bad = let no : store.Failed ≡ store.NoLedger = sym is ∙ bad in cc
not_none none (inr is) bad = let no : store.Memory ≡ store.NoLedger = sym is ∙ bad in cc

pub not_in_use : (none : NoStore) → (none ≡ store.Failed) ⊎ (none ≡ store.Memory) → none ≡ store.InUse → ⊥
not_in_use none (inl is) bad = let no : store.Failed ≡ store.InUse = sym is ∙ bad in cc
not_in_use none (inr is) bad = let no : store.Memory ≡ store.InUse = sym is ∙ bad in cc

-- A store that was read leaves what it held.
pub same_left : {S : Type 0} (faithful : S → Type 0) (holds leaves : S → List Entry → Type 0)
    → ((s : S) (entries others : List Entry) → faithful s → holds s entries → holds s others → entries ≡ others)
    → ((s : S) (entries left : List Entry) → faithful s → holds s entries → leaves s left → left ≡ entries) → (old new : S) (read : List Entry)
    → (faithful new → faithful old) → (faithful new → holds old read × holds new read) → LeavesSame faithful holds leaves old new
same_left faithful holds leaves one outlives old new read was held f entries left has may =
    outlives new read left f (held f).1 may ∙ one old read entries (was f) (held f).0 has

-- ## The end of the older ledger

-- With it no entries are a ledger.
pub ends_all : (new before : List Entry) → BeginsRenewed new → IsLedger (before ++ ending new) → ⊥
ends_all new before begins ledger =
    let e = entry.Renewed begins.last begins.heard in
    let is : before ++ ending new ≡ (before ++ e ∷ []) ++ e ∷ [] = ap (λ n. before ++ ending n) begins.is ∙ sym (append_assoc before (e ∷ []) (e ∷ [])) in
    let none : before ++ e ∷ [] ≡ [] = ledger (before ++ e ∷ []) e [] is in
    absurd (omega (arith, ap length none, length-append before (e ∷ [])))

-- It was added, or not.
pub may_have_added : {S : Type 0} (faithful : S → Type 0) (holds leaves : S → List Entry → Type 0) (old : S) (added : List Entry) (new : S)
    → (faithful new → (entries left : List Entry) → holds old entries → leaves new left → (left ≡ entries) ⊎ (left ≡ entries ++ added)) → MayHave faithful holds leaves old added new
may_have_added faithful holds leaves old added new may f before left has leaves_so = elim (may f before left has leaves_so) [
  | inl none ↦ inl none
  | inr all ↦ inr (inl all)
]

-- Others have added entries instead.
pub may_have_others : {S : Type 0} (faithful : S → Type 0) (holds leaves : S → List Entry → Type 0)
    → ((s : S) (entries left : List Entry) → faithful s → holds s entries → leaves s left → left ≡ entries) → (old : S) (added others : List Entry) (new : S)
    → (faithful new → (entries : List Entry) → holds old entries → AreOthers entries others × holds new (entries ++ others)) → MayHave faithful holds leaves old added new
may_have_others faithful holds leaves outlives old added others new adds f before left has leaves_so =
    let (are, now) = adds f before has in
    inr (inr (others, are, outlives new (before ++ others) left f now leaves_so))

-- ## Entries that a store has more

pub has_none : {S : Type 0} (faithful : S → Type 0) (holds : S → List Entry → Type 0) (s : S) → Has faithful holds s [] s
has_none faithful holds s = record {
  was_faithful = λ f. f;
  held = λ f before has. subst (holds s) (sym (append-nil before)) has;
}

pub has_both : {S : Type 0} (faithful : S → Type 0) (holds : S → List Entry → Type 0) (a b c : S) (xs ys : List Entry) → Has faithful holds a xs b → Has faithful holds b ys c
    → Has faithful holds a (xs ++ ys) c
has_both faithful holds a b c xs ys first second = record {
  was_faithful = λ f. first.was_faithful (second.was_faithful f);
  held = λ f before has. subst (holds c) (append_assoc before xs ys) (second.held f (before ++ xs) (first.held (second.was_faithful f) before has));
}

pub has_next : {S : Type 0} (faithful : S → Type 0) (holds : S → List Entry → Type 0) (a b c : S) (es : List Entry) (i : ℕ) (e : Entry) → i < length es → e ≡ get_or es i e
    → Has faithful holds a (take i es) b → Has faithful holds b (e ∷ []) c → Has faithful holds a (take (i + 1) es) c
has_next faithful holds a b c es i e inside is first second =
    let longer : take (i + 1) es ≡ take i es ++ e ∷ [] = ap (λ n. take n es) (add-one i) ∙ take-suc es i e inside ∙ ap (λ y. take i es ++ y ∷ []) (sym is) in
    subst (λ l. Has faithful holds a l c) (sym longer) (has_both faithful holds a b c (take i es) (e ∷ []) first second)
