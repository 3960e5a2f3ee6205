-- What `ledger --renew` does: a new ledger goes on from an older one, which isn't written any more.
use Rattle.std.specs.Prelude.{ℕ, Bool, true, false, ◌≡◌, ◌⊎◌, List, [], ◌∷◌, ◌++◌, count_by, Result, Ok, Err, codes}
use Rattle.escpos_job_parts.specs.declared.status.Status.{Status}
use Rattle.escpos_job_parts.specs.declared.status.Status.TheVariants.{Good, Refused}
use Rattle.escpos_job_parts.specs.Ending.{Tells}
use Rattle.escpos_till.specs.declared.entry.Entry.{Entry}
use Rattle.escpos_till.specs.declared.state.ReceiptState.{ReceiptState}
use Rattle.escpos_till.specs.declared.state.ReceiptState.TheVariants as state
use Rattle.escpos_till.specs.declared.store.NoStore.{NoStore}
use Rattle.escpos_till.specs.declared.store.NoStore.TheVariants as store
use Rattle.escpos_till.specs.Entries.{IsLedger, states}
use Rattle.escpos_till.specs.Learning.{AreOthers}
use Rattle.escpos_till.specs.Renewing.{Renews}
use Rattle.escpos_till_jobs.specs.declared.renew.NoRenewal.{NoRenewal}
use Rattle.escpos_till_jobs.specs.declared.renew.NoRenewal.TheVariants as why
use Rattle.escpos_till_jobs.specs.Lines.{no_store_line, no_store_status, number_line}
use Rattle.escpos_till_jobs.specs.Outputs.{Output, ended}
use Rattle.escpos_till_jobs.specs.Words.{Place}

-- ## Stores

-- The store has these entries more.
pub record Has {S : Type 0} (faithful : S → Type 0) (holds : S → List Entry → Type 0) (old : S) (entries : List Entry) (new : S) : Type 0 where
  pub was_faithful : faithful new → faithful old
  pub held : faithful new → (before : List Entry) → holds old before → holds new (before ++ entries)

-- What a crash leaves in the store is what it held before.
abbrev pub LeavesSame : {S : Type 0} → (S → Type 0) → (S → List Entry → Type 0) → (S → List Entry → Type 0) → S → S → Type 0
LeavesSame faithful holds leaves old after = faithful after → (entries left : List Entry) → holds old entries → leaves after left → left ≡ entries

-- A ledger with these entries goes on from the one in the store.
pub record ReadsRenewed {T : Type 0} (faithful : T → Type 0) (holds : T → List Entry → Type 0) (old : T) (new : List Entry) (after : T) : Type 0 where
  pub entries : List Entry
  pub was_faithful : faithful after → faithful old
  pub held : faithful after → holds old entries × holds after entries
  pub renews : Renews entries new

-- ## Where a new ledger is written

-- What is known of new ledgers.
pub record NewPlace (N S : Type 0) : Type 1 where
  pub begun : N → List ℕ → Result S NoRenewal → N → Type 0
  pub finished : N → S → List ℕ → Result (Unit {0}) NoRenewal → N → Type 0
  pub faithful : S → Type 0
  pub holds : S → List Entry → Type 0

abbrev pub new_place : {N S : Type 0} → (N → List ℕ → Result S NoRenewal → N → Type 0) → (N → S → List ℕ → Result (Unit {0}) NoRenewal → N → Type 0) → (S → Type 0) → (S → List Entry → Type 0) → NewPlace N S
new_place begun finished faithful holds = record { begun = begun; finished = finished; faithful = faithful; holds = holds }

-- Why a ledger isn't renewed is what a store failed for.
abbrev pub IsStoresOwn : NoRenewal → Type 0
IsStoresOwn none = (none ≡ why.NoStore store.Failed) ⊎ (none ≡ why.NoStore store.Memory)

-- These entries aren't written at the path, for this reason: no store is begun there; or one is, and fails; or it has them, and gets no name.
abbrev pub IsUnwritten : {N S : Type 0} → NewPlace N S → N → List ℕ → List Entry → NoRenewal → N → Type 0
IsUnwritten {N} {S} p news path entries none after =
    p.begun news path (Err none) after
    ⊎ ((begun : S) × p.begun news path (Ok begun) after × IsStoresOwn none)
    ⊎ ((begun written : S) × (mid : N) × p.begun news path (Ok begun) mid × (p.faithful written → p.holds written entries) × p.finished mid written path (Err none) after)

-- A new store was begun, these entries were written to it, and then it got its name.
pub record Writes {N S : Type 0} (p : NewPlace N S) (news : N) (path : List ℕ) (entries : List Entry) (after : N) : Type 0 where
  pub begun : S
  pub written : S
  pub mid : N
  pub begins : p.begun news path (Ok begun) mid
  pub holds : p.faithful written → p.holds written entries
  pub gets_name : p.finished mid written path (Ok tt) after

-- ## The word

abbrev pub is_waiting : ReceiptState → Bool
is_waiting (state.Waiting tried) = true
is_waiting (state.Recorded place) = false
is_waiting (state.Cancelled tried) = false

-- How many receipts of these entries wait.
abbrev pub count_waiting : List Entry → ℕ
count_waiting entries = count_by is_waiting (states entries)

-- What ends the older ledger: the first entry of the new one, twice.
abbrev pub ending : List Entry → List Entry
ending [] = []
ending (first ∷ rest) = first ∷ first ∷ []

-- From the ledger in the store a new one went on, in which so many receipts wait, which was written at the path; and then the store had its ending more, after which it is no ledger.
pub record RenewsTo {T N S : Type 0} (faithful : T → Type 0) (holds : T → List Entry → Type 0) (p : NewPlace N S) (old : T) (news : N) (path : List ℕ) (waiting : ℕ) (after : T) (news_after : N) : Type 0 where
  pub new : List Entry
  pub mid : T
  pub reads : ReadsRenewed faithful holds old new mid
  pub waiting_is : waiting ≡ count_waiting new
  pub writes : Writes p news path new news_after
  pub marked : Has faithful holds mid (ending new) after
  pub no_ledger : (before : List Entry) → IsLedger (before ++ ending new) → ⊥

-- The store isn't read as a ledger that can be renewed, for this reason. What it held is no ledger, where that is the reason.
pub record IsUnread {T : Type 0} (faithful : T → Type 0) (holds leaves : T → List Entry → Type 0) (old : T) (none : NoStore) (after : T) : Type 0 where
  pub same : LeavesSame faithful holds leaves old after
  pub no_ledger : none ≡ store.NoLedger → (entries : List Entry) × (faithful after → holds old entries) × (IsLedger entries → ⊥)
  pub never_in_use : none ≡ store.InUse → ⊥

-- The store may have these entries more, both or neither; or others that somebody added before.
abbrev pub MayHave : {T : Type 0} → (T → Type 0) → (T → List Entry → Type 0) → (T → List Entry → Type 0) → T → List Entry → T → Type 0
MayHave faithful holds leaves old entries after =
    faithful after → (before left : List Entry) → holds old before → leaves after left
    → (left ≡ before) ⊎ (left ≡ before ++ entries) ⊎ ((others : List Entry) × AreOthers before others × (left ≡ before ++ others))

-- The ledger in the store isn't renewed, for this reason: it isn't read; or the new one isn't written, and it is as it was; or the new one is, and
-- the store may have its ending.
abbrev pub KeepsOne : {T N S : Type 0} → (T → Type 0) → (T → List Entry → Type 0) → (T → List Entry → Type 0) → NewPlace N S → T → N → List ℕ → NoRenewal → T → N → Type 0
KeepsOne {T} faithful holds leaves p old news path none after news_after =
    ((unread : NoStore) × (none ≡ why.NoStore unread) × (news_after ≡ news) × IsUnread faithful holds leaves old unread after)
    ⊎ ((new : List Entry) × ReadsRenewed faithful holds old new after × IsUnwritten p news path new none news_after)
    ⊎ ((new : List Entry) × (mid : T) × ReadsRenewed faithful holds old new mid × Writes p news path new news_after × MayHave faithful holds leaves mid (ending new) after
    × IsStoresOwn none)

-- So many receipts wait in the new ledger.
abbrev pub renewed_line : ℕ → List ℕ
renewed_line = number_line (codes "renewed ")

abbrev pub no_renewal_line : NoRenewal → List ℕ
no_renewal_line (why.NoStore none) = no_store_line none
no_renewal_line why.Exists = codes "refused Exists\n"

abbrev pub no_renewal_status : NoRenewal → Status
no_renewal_status (why.NoStore none) = no_store_status none
no_renewal_status why.Exists = Refused

-- The ledger at the path is opened, and renewed, or not for a reason that is told, and closed; or it isn't opened, and the line says why.
abbrev pub RenewsAt : {G T N S : Type 0} → Place G T → NewPlace N S → G → N → Output → G → N → Output → Status → List ℕ → List ℕ → Type 0
RenewsAt {G} {T} p np shared news before after news_after end status path new =
    ((none : NoStore) × p.opened shared path (Err none) after × (news_after ≡ news) × Tells (ended before end status) (no_store_line none) (no_store_status none))
    ⊎ ((opened left : T) × (mid : G) × p.opened shared path (Ok opened) mid × p.closed mid left after
    × (((waiting : ℕ) × RenewsTo p.faithful p.holds np opened news new waiting left news_after × Tells (ended before end status) (renewed_line waiting) Good)
    ⊎ ((none : NoRenewal) × KeepsOne p.faithful p.holds p.leaves np opened news new none left news_after
    × Tells (ended before end status) (no_renewal_line none) (no_renewal_status none))))
