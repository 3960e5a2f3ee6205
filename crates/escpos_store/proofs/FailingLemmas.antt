-- Why a statement on a ledger fails.
use Rattle.std.proofs.Common.{All, IfSome, ◌≡◌, ◌≢◌, ◌⊎◌, inl, inr, ℕ, ◌+◌, ◌≤◌, false, List, [], ◌∷◌, length, Option, Some, None, Result, Ok, Err, IfErr, IfOk, IsTrue, pos, refl, sym, ap, subst, ◌∙◌, Vec, Global, append-nil, le_refl}
use Rattle.std.specs.Result.{IsErrAnd}
use Rattle.escpos_till.specs.declared.entry.Entry.{Entry}
use Rattle.escpos_till.specs.declared.store.StoreFault.{StoreFault}
use Rattle.escpos_till.specs.declared.store.StoreFault.TheVariants as fault
use Rattle.sqlite_disk.specs.Disk.{MoreFaults}
use Rattle.sqlite_trees.specs.declared.error.StoreError.TheVariants.{OutOfMemory, Io, Corrupt, Full, Broken, Unstorable}
use Rattle.sqlite_resolve.specs.declared.compiled.Compiled.{Compiled}
use Rattle.sqlite_resolve.specs.declared.error.CompileError.{CompileError}
use Rattle.sqlite_tied.specs.Compute.{everything}
use Rattle.sqlite.specs.declared.error.Error.{Error}
use Rattle.sqlite.specs.declared.error.Error.TheVariants.{SqliteFailure}
use Rattle.sqlite.specs.declared.error.ErrorCode.TheVariants as code
use Rattle.sqlite.specs.declared.types.Value.{Value}
use Rattle.sqlite.specs.declared.types.Value.TheVariants.{Int}
use Rattle.sqlite.specs.Command.TheVariants.{Insert}
use Rattle.sqlite.specs.Source.{Source}
use Rattle.sqlite.specs.Source.TheVariants.{Values}
use Rattle.sqlite.specs.Effect.{Database, RefusesToRead}
use Rattle.sqlite.specs.Held.{state}
use Rattle.sqlite.specs.Listing.{understood, reads_listing, IsSourceOf}
use Rattle.sqlite.specs.Store.{Ghosts}
use Rattle.sqlite.specs.Order.{Row}
use Rattle.sqlite.specs.State as of_state
use Rattle.sqlite.specs.State.{State, HasCleanDisk, Executes, ExecutesIn, FailsToQuery, IsNotRun, IsNoStatement, IsMisplaced, shows_rows}
use Rattle.sqlite.proofs.Callers.{IsPlain, command_of}
use Rattle.escpos_store.specs.Failing.{Fails, SaysWhy}
use Rattle.escpos_store.specs.Holds.{HasEntries, Holds, HoldsIn, StoreView}
use Rattle.escpos_store.specs.Laws.{held_once}
use Rattle.escpos_store.specs.Table.{IsReal, insert_both_text, insert_text, ledger_schema, select_text}
use Rattle.escpos_store.proofs.HoldsLemmas.{params_of, params_of_both}
use Rattle.escpos_store.proofs.StatementLemmas.{both_terms, insert_both_is, insert_both_plain, insert_is, insert_plain, select_plain, select_unlisted, terms}

-- A failure that isn't for memory, of a connection that was open, is for the disk, or the row is too large.
for_disk : (old new : State) (too_big : Type 0) (e : Error) → IsTrue old.is_open → e ≢ SqliteFailure code.OutOfMemory → of_state.Fails old new too_big e → MoreFaults old.faults new.faults ⊎ too_big
for_disk old new too_big e is_open other (OutOfMemory, is, cause, undone, told) = absurd (other is)
for_disk old new too_big e is_open other (Io, is, cause, undone, told) = inl cause
for_disk old new too_big e is_open other (Corrupt, is, cause, undone, told) = inl cause
for_disk old new too_big e is_open other (Full, is, cause, undone, told) = inl cause
for_disk old new too_big e is_open other (Broken, is, cause, undone, told) = absurd (let bad = subst IsTrue cause is_open in cc)
for_disk old new too_big e is_open other (Unstorable, is, cause, undone, told) = inr cause

-- ## A statement that is run

-- The text is one statement that is no query of rows, and has as many parameters as are given.
abbrev pub IsWhole : List ℕ → ℕ → Result Compiled CompileError → Type 0
IsWhole sql given (Ok c) = (length sql ≤ c.tail) × (given ≡ length c.names)
IsWhole sql given (Err e) = ⊥

insert_whole : IsWhole insert_text 5 (understood ledger_schema insert_text)
unfolding understood everything
insert_whole = (le_refl _, refl)

select_whole : IsWhole select_text 0 (understood ledger_schema select_text)
unfolding understood everything
select_whole = (le_refl _, refl)

no_statement : (s : State) (sql : List ℕ) (params : Row) (e : Error) (is : Result Compiled CompileError) → understood s.now.schema sql ≡ is → IsWhole sql (length params) is → IsPlain is
    → ¬ IsNoStatement s sql params e
no_statement s sql params e (Err fault) is whole plain none = absurd whole
no_statement s sql params e (Ok c) is whole plain (inl (fault, refused, rest)) = absurd (let both : ◌≡◌ {A = Result Compiled CompileError} (Ok c) (Err fault) = sym is ∙ refused in cc)
no_statement s sql params e (Ok c) is whole plain (inr (d, taken, why)) =
    let both : ◌≡◌ {A = Result Compiled CompileError} (Ok c) (Ok d) = sym is ∙ taken in
    let same : c ≡ d = cc in
    elim why [
      | inl more ↦ more.0 (subst (λ (k : Compiled). length sql ≤ k.tail) same whole.0)
      | inr (inl others) ↦ others.0 (subst (λ (k : Compiled). length params ≡ length k.names) same whole.1)
      | inr (inr timed) ↦ timed.0 (subst (λ (k : Compiled). k.formats ≡ []) same plain.1)
    ]

not_run : (old new : State) (sql : List ℕ) (params : Row) (e : Error) (is : Result Compiled CompileError) → understood old.now.schema sql ≡ is → IsWhole sql (length params) is → IsPlain is
    → IsTrue old.is_open → e ≢ SqliteFailure code.OutOfMemory → IsNotRun old new sql params e → MoreFaults old.faults new.faults
unfolding IsNotRun
not_run old new sql params e is has whole plain is_open other (inl none) = absurd (no_statement old sql params e is has whole plain none.0)
not_run old new sql params e is has whole plain is_open other (inr fails) = elim (for_disk old new ⊥ e is_open other fails) [ inl fault ↦ fault | inr none ↦ absurd none ]

-- ## INSERT

placed : (s : State) (at : ℕ) (from : Source) (e : Error) → ¬ IsMisplaced s (Insert at from) e
placed s at from e (inl (is, inl begins)) = let b = begins.0 in cc
placed s at from e (inl (is, inr (inl commits, rest))) = cc
placed s at from e (inl (is, inr (inr rolls, rest))) = cc
placed s at from e (inr (is, name, inl releases, rest)) = cc
placed s at from e (inr (is, name, inr goes, rest)) = cc

unshown : (c : Compiled) → c.returning ≡ None → (at : ℕ) (from : Source) → c.command ≡ Insert at from → shows_rows false c ≡ false
unshown c none at from is = rw (is, none) refl

insert_fails : (old new : State) (entries : List Entry) (e : Entry) (error : Error) → Holds old entries → error ≢ SqliteFailure code.OutOfMemory
    → Executes insert_text (params_of entries e) old new (Err error) → Fails old (length entries) (e ∷ []) new
unfolding ExecutesIn
insert_fails old new entries e error held other (inl not) =
    let has = ap (λ s. understood s insert_text) held.schema in
    inl (not_run old new insert_text (params_of entries e) error _ has insert_whole insert_plain held.is_open other not)
insert_fails old new entries e error held other (inr (c, it, ran)) =
    let known : Ok c ≡ understood ledger_schema insert_text = sym it.is ∙ ap (λ s. understood s insert_text) held.schema in
    let bare = subst IsPlain (sym known) insert_plain in
    let command = ap command_of known ∙ insert_is in
    let alone = rw (unshown c bare.0 0 (Values terms 6) command, bare.1, append-nil (params_of entries e)) at ran in
    elim alone [
      | inl (inl misplaced, same) ↦ absurd (placed old 0 (Values terms 6) error (subst (λ k. IsMisplaced old k error) command misplaced))
      | inl (inr (may, does), same) ↦ inr (c, it.is, Some error, does)
      | inr fails ↦ elim (for_disk old new _ error held.is_open other fails) [ inl fault ↦ inl fault | inr big ↦ inr (c, it.is, None, big) ]
    ]

pub insert_failing : (old new : State) (e : Entry) (params : Row) (id : Value) (r : Result ℕ Error) → (HasCleanDisk new → Executes insert_text params old new r)
    → ((entries : List Entry) → id ≡ Int (pos (1 + length entries)) → params ≡ params_of entries e)
    → IfErr r (λ error. HasCleanDisk new → (entries : List Entry) → Holds old entries → id ≡ Int (pos (1 + length entries)) → error ≢ SqliteFailure code.OutOfMemory → Fails old (length entries) (e ∷ []) new)
insert_failing old new e params id (Ok count) ran is = tt
insert_failing old new e params id (Err error) ran is = λ clean entries held next other.
    insert_fails old new entries e error held other (subst (λ (p : Row). Executes insert_text p old new (Err error)) (is entries next) (ran clean))

-- ## INSERT of two rows

insert_both_whole : IsWhole insert_both_text 10 (understood ledger_schema insert_both_text)
unfolding understood everything
insert_both_whole = (le_refl _, refl)

insert_both_fails : (old new : State) (entries : List Entry) (e f : Entry) (error : Error) → Holds old entries → error ≢ SqliteFailure code.OutOfMemory
    → Executes insert_both_text (params_of_both entries e f) old new (Err error) → Fails old (length entries) (e ∷ f ∷ []) new
unfolding ExecutesIn
insert_both_fails old new entries e f error held other (inl not) =
    let has = ap (λ s. understood s insert_both_text) held.schema in
    inl (not_run old new insert_both_text (params_of_both entries e f) error _ has insert_both_whole insert_both_plain held.is_open other not)
insert_both_fails old new entries e f error held other (inr (c, it, ran)) =
    let known : Ok c ≡ understood ledger_schema insert_both_text = sym it.is ∙ ap (λ s. understood s insert_both_text) held.schema in
    let bare = subst IsPlain (sym known) insert_both_plain in
    let command = ap command_of known ∙ insert_both_is in
    let alone = rw (unshown c bare.0 0 (Values both_terms 6) command, bare.1, append-nil (params_of_both entries e f)) at ran in
    elim alone [
      | inl (inl misplaced, same) ↦ absurd (placed old 0 (Values both_terms 6) error (subst (λ k. IsMisplaced old k error) command misplaced))
      | inl (inr (may, does), same) ↦ inr (c, it.is, Some error, does)
      | inr fails ↦ elim (for_disk old new _ error held.is_open other fails) [ inl fault ↦ inl fault | inr big ↦ inr (c, it.is, None, big) ]
    ]

pub insert_both_failing : (old new : State) (e f : Entry) (params : Row) (id id' : Value) (r : Result ℕ Error) → (HasCleanDisk new → Executes insert_both_text params old new r)
    → ((entries : List Entry) → id ≡ Int (pos (1 + length entries)) → id' ≡ Int (pos (2 + length entries)) → params ≡ params_of_both entries e f)
    → IfErr r (λ error. HasCleanDisk new → (entries : List Entry) → Holds old entries → id ≡ Int (pos (1 + length entries)) → id' ≡ Int (pos (2 + length entries))
    → error ≢ SqliteFailure code.OutOfMemory → Fails old (length entries) (e ∷ f ∷ []) new)
insert_both_failing old new e f params id id' (Ok count) ran is = tt
insert_both_failing old new e f params id id' (Err error) ran is = λ clean entries held next then_next other.
    insert_both_fails old new entries e f error held other (subst (λ (p : Row). Executes insert_both_text p old new (Err error)) (is entries next then_next) (ran clean))

-- ## SELECT

select_fails : (old new : State) (count : ℕ) (error : Error) → IsTrue old.is_open → old.now.schema ≡ ledger_schema → error ≢ SqliteFailure code.OutOfMemory
    → FailsToQuery select_text [] old new error → Fails old count [] new
unfolding FailsToQuery
select_fails old new count error is_open schema other (inl not) =
    let has = ap (λ s. understood s select_text) schema in
    inl (not_run old new select_text [] error _ has select_whole select_plain is_open other not)
select_fails old new count error is_open schema other (inr (c, it, shows)) =
    let known : Ok c ≡ understood ledger_schema select_text = sym it.is ∙ ap (λ s. understood s select_text) schema in
    let bare = subst IsPlain (sym known) select_plain in
    let refused = rw (bare.0, bare.1) at shows in
    let db : refused.0 ≡ old.now = subst (λ b. IsSourceOf b old.now refused.0) (ap (λ s. reads_listing s select_text) schema ∙ select_unlisted) refused.1 in
    inr (c, it.is, error, subst (λ (d : Database). RefusesToRead old.step_limit c.command d [] error) db refused.2)

pub select_failing : (old new : State) (r : Result (Vec Row Global) Error) → (HasCleanDisk new → IfErr r (FailsToQuery select_text [] old new))
    → IfErr r (λ error. HasCleanDisk new → IsTrue old.is_open → old.now.schema ≡ ledger_schema → error ≢ SqliteFailure code.OutOfMemory → (count : ℕ) → Fails old count [] new)
select_failing old new (Ok rows) fails = tt
select_failing old new (Err error) fails = λ clean is_open schema other count. select_fails old new count error is_open schema other (fails clean)

-- ## What a store says

pub if_err_is : {T E : Type 0} (r : Result T E) (e : E) (P : E → Type 0) → r ≡ Err e → P e → IfErr r P
if_err_is r e P is p = subst (λ (k : Result _ _). IfErr k P) (sym is) p

pub if_err_not : {T E : Type 0} (r : Result T E) (x : T) (P : E → Type 0) → r ≡ Ok x → IfErr r P
if_err_not r x P is = subst (λ (k : Result _ _). IfErr k P) (sym is) tt

pub if_ok_is : {T E : Type 0} (r : Result T E) (x : T) (P : T → Type 0) → r ≡ Ok x → P x → IfOk r P
if_ok_is r x P is p = subst (λ (k : Result _ _). IfOk k P) (sym is) p

pub if_ok_not : {T E : Type 0} (r : Result T E) (e : E) (P : T → Type 0) → r ≡ Err e → IfOk r P
if_ok_not r e P is = subst (λ (k : Result _ _). IfOk k P) (sym is) tt

-- An error that is passed on is the same.
pub if_passed_on : {T E : Type 0} (r : Result T E) (e : E) (P : E → Type 0) → IsErrAnd r (λ x. x ≡ e) → P e → IfErr r P
if_passed_on (Ok x) e P is p = tt
if_passed_on (Err x) e P is p = subst P (sym is) p

-- It says why a statement failed.
pub says_fault : {S : Type 0} (g : Ghosts S) (old new : StoreView S) (added : List Entry) (why : StoreFault) (error : Error)
    → (why ≡ fault.Memory → error ≡ SqliteFailure code.OutOfMemory) × (error ≡ SqliteFailure code.OutOfMemory → why ≡ fault.Memory)
    → (HasCleanDisk (state g new.connection) → (entries : List Entry) → HoldsIn g old entries → error ≢ SqliteFailure code.OutOfMemory
    → Fails (state g old.connection) old.count added (state g new.connection))
    → SaysWhy g old added why new
says_fault g old new added fault.Memory error memory fails = tt
says_fault g old new added fault.Failed error memory fails =
    λ clean entries real held. inr (fails clean entries held (λ out. let bad : ◌≡◌ {A = StoreFault} fault.Failed fault.Memory = memory.1 out in cc))

-- Where it held a ledger, it reads as many entries as it has.
pub says_count : {S : Type 0} (g : Ghosts S) (old new : StoreView S) (found : Option (Vec Entry Global))
    → IfSome found (λ es. HasCleanDisk (state g new.connection) → Holds (state g old.connection) es.items × Holds (state g new.connection) es.items)
    → (found ≡ None → HasCleanDisk (state g new.connection) → (state g old.connection).in_transaction ≡ false → (state g old.connection).now.schema ≡ ledger_schema
    → (entries : List Entry) → All IsReal entries → ¬ HasEntries (state g old.connection).now.trees entries)
    → IfSome found (λ es. length es.items ≢ old.count) → SaysWhy g old [] fault.Failed new
says_count g old new None holds none other = λ clean entries real held. absurd (none refl clean held.0.autocommit held.0.schema entries real held.0.has)
says_count g old new (Some es) holds none other =
    λ clean entries real held. absurd (other (ap length (held_once (state g old.connection) es.items entries (holds clean).0 held.0) ∙ sym held.1))
