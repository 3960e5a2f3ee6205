-- What an open finds, and what a close leaves.
use Rattle.std.proofs.Common.{false, refl, ◌⊎◌, ◌≡◌, inl, inr, [], length, arith, List, IsTrue, sym, ap, subst, ◌∙◌}
use Rattle.std.proofs.Math.Logic.{∥∥₁_elim, ∥∥₁_map}
use Rattle.escpos_till.specs.declared.entry.Entry.{Entry}
use Rattle.sqlite.specs.Effect.{Database}
use Rattle.sqlite.specs.State.{State, HasCleanDisk, IsLive, Opens}
use Rattle.sqlite.specs.Held.{Held, state}
use Rattle.sqlite.specs.Recovery.{Image}
use Rattle.sqlite_disk.specs.declared.Disk as disk
use Rattle.sqlite_disk.specs.declared.Files.{Files}
use Rattle.sqlite_store.specs.declared.store.FileStore.{FileStore}
use Rattle.sqlite_trees.specs.declared.memory.MemStore.{MemStore}
use Rattle.sqlite.specs.Files.{AreFoundIn, IsOpened, file_state, over_files, image_of}
use Rattle.sqlite.specs.Schema.{Schema}
use Rattle.sqlite.specs.Steps.{over_memory}
use Rattle.sqlite.specs.WalFiles.{outcomes}
use Rattle.sqlite.specs.Closing.{IsCopied}
use Rattle.sqlite.proofs.Theorems.{opens_again}
use Rattle.sqlite_catalog.proofs.ReadLemmas.{lists_once}
use Rattle.sqlite_trees.specs.Tree.{Trees}
use Rattle.sqlite.specs.Effect.{IsDatabase}
use Rattle.sqlite.specs.Held.{AreDatabases}
use Rattle.sqlite_store.specs.FileStore.{recovers, view}
use Rattle.sqlite.specs.Files.{HoldsDatabase, FailsToOpenFiles, faults_of, faults_left}
use Rattle.sqlite_disk.specs.Disk.{MoreFaults}
use Rattle.sqlite.specs.declared.file.Leftover.{Leftover}
use Rattle.sqlite.specs.declared.error.Error.{Error}
use Rattle.sqlite.specs.declared.error.Error.TheVariants.{SqliteFailure}
use Rattle.sqlite.specs.declared.error.ErrorCode.TheVariants as code
use Rattle.sqlite_store.specs.FileStore as store
use Rattle.escpos_store.specs.Laws.{one_list, outlives}
use Rattle.escpos_store.specs.Table.{ledger_schema, no_schema}
use Rattle.sqlite_catalog.specs.Listing.{IsSound}
use Rattle.sqlite.specs.Start.{FindsIn}
use Rattle.escpos_store.specs.Holds.{FoundIn, HasEntries, Holds, HoldsIn, KeepsLedger, KeptIn, LacksFile, LacksLog, LeavesAsFound, Leaves, StandsIn, StartsAs, StoreView}

-- what the connection showed at first is what the files held
pub found_in : (s : State) (image : Image) (entries : List Entry) → Opens s → IsLive s → FindsIn image s → StartsAs s.now entries → (s.now.schema ≡ no_schema → (¬ LacksFile image) × (¬ LacksLog image))
    → FoundIn image entries
found_in s image entries opens live finds starts begins =
    let same : s.committed.trees ≡ s.now.trees = ap (λ (d : Database). d.trees) (sym opens.clean) in
    record {
      db = s.now;
      sound = (live opens.is_open).0;
      found = subst (AreFoundIn image) same finds.reads;
      only = λ trees holds. sym same ∙ finds.holds trees holds;
      starts = starts;
      begins = begins;
    }

pub never_both : (s : Schema) → s ≡ ledger_schema → s ≡ no_schema → ⊥
never_both s one none = omega (arith, sym (ap (λ (it : Schema). length it.tables) one) ∙ ap (λ (it : Schema). length it.tables) none)

-- a new database in memory has no entry
pub memory_empty : (c : Held MemStore) (store : StoreView MemStore) → (state over_memory c).now.schema ≡ no_schema
    → HasCleanDisk (state over_memory c) × ((entries : List Entry) × HoldsIn over_memory store entries × StartsAs (state over_memory c).now entries) → HoldsIn over_memory store []
memory_empty c store empty it =
    elim it.1.2 [ inl ledger ↦ absurd (never_both _ ledger.0 empty) | inr new ↦ subst (HoldsIn over_memory store) new.1 it.1.1 ]

pub kept_if_ok : {D : Type 0} {g : disk.Ghosts D} (s : StoreView (FileStore D g)) (files : Files D) → IsCopied s.connection files → (entries : List Entry) → HoldsIn over_files s entries
    → KeptIn (image_of g files) entries × ((image : Image) → outcomes g files.log files.db image → KeptIn image entries)
kept_if_ok s files copied entries held =
    let has : HasEntries (file_state s.connection).committed.trees entries = subst (λ (d : Database). HasEntries d.trees entries) (sym held.0.committed) held.0.has in
    (record { trees = _; alone = copied.seen; has = has }, λ image may. record { trees = _; alone = copied.left image may; has = has })

-- ## What is found after a crash

-- The entries that an open finds in a database are the only ones that it has.
pub only_these : (db : Database) (found : List Entry) → IsDatabase db → StartsAs db found → (entries : List Entry) → HasEntries db.trees entries → found ≡ entries
only_these db found sound (inl ledger) entries has = one_list db.trees found entries ledger.1 has
only_these db found sound (inr new) entries has = absurd (never_both db.schema (lists_once _ _ _ sound.lists has.sound.lists) new.0)

-- What a crash may leave of a store, as the next open finds it.
pub next_found : {D : Type 0} {g : disk.Ghosts D} (it : FileStore D g) → IsTrue (view it).is_numbered → AreDatabases (recovers it)
    → (image : Image) → (store.state it).may_leave image → (found : List Entry) → FoundIn image found
    → ∥ ((db : Trees) × recovers it db × ((entries : List Entry) → HasEntries db entries → found ≡ entries)) ∥₁
next_found it numbered sound image may found f =
    ∥∥₁_map (opens_again it numbered sound image may) (λ left.
    let same : f.db.trees ≡ left.0 = f.only left.0 left.2 in
    (f.db.trees, subst (recovers it) (sym same) left.1, only_these f.db found f.sound f.starts))

pub next_held : (s : State) (entries found : List Entry) → Holds s entries → ∥ Leaves s found ∥₁ → ∥ found ≡ entries ∥₁
next_held s entries found held leaves = ∥∥₁_map leaves (outlives s entries found held)

-- What a crash may leave of a store holds a database that the store allows.
pub stands : {D : Type 0} {g : disk.Ghosts D} (it : FileStore D g) → IsTrue (view it).is_numbered → AreDatabases (recovers it) → (image : Image) → (store.state it).may_leave image
    → (P : Trees → Type 0) → ((db : Trees) → recovers it db → P db) → ∥ ((db : Trees) × HoldsDatabase image db × P db) ∥₁
stands it numbered sound image may P allowed =
    ∥∥₁_map (opens_again it numbered sound image may) (λ l. let r : (db : Trees) × HoldsDatabase image db × P db = (l.0, l.2, allowed l.0 l.1) in r)

-- ## What an open leaves that finds a database

kept_as_found : (was image : Image) → LeavesAsFound was image → KeepsLedger was image
kept_as_found was image left entries stood = ∥∥₁_elim stood squash₁ (λ held. ∥∥₁_map left (λ it.
    let r : (db : Trees) × HoldsDatabase image db × HasEntries db entries = elim it.2 [
      | inl same ↦ (it.0, it.1, subst (λ (db : Trees). HasEntries db entries) (sym (same.1 held.0 held.1)) held.2)
      | inr new ↦ absurd (never_both _ (lists_once _ _ _ (new.1 held.0 held.1).lists held.2.sound.lists) refl)
    ] in r))

pub left_as_found : {D : Type 0} {g : disk.Ghosts D} (c : Held (FileStore D g)) (was : Image) → IsOpened c → FindsIn was (file_state c) → (it : FileStore D g) → IsTrue (view it).is_numbered → AreDatabases (recovers it)
    → ((db : Trees) → recovers it db → (db ≡ (file_state c).committed.trees) ⊎ (((file_state c).now.schema ≡ no_schema) × HasEntries db []))
    → (image : Image) → (store.state it).may_leave image → LeavesAsFound was image × KeepsLedger was image
left_as_found c was opened finds it numbered sound allowed image may =
    let s = file_state c in
    let same : s.committed.trees ≡ s.now.trees = ap (λ (d : Database). d.trees) (sym opened.0.clean) in
    let P : Trees → Type 0 = λ db. (AreFoundIn was db × ((held : Trees) → HoldsDatabase was held → db ≡ held)) ⊎ (HasEntries db [] × ((held : Trees) → HoldsDatabase was held → IsSound no_schema held)) in
    let left : LeavesAsFound was image = stands it numbered sound image may P (λ db r. elim (allowed db r) [
      | inl is ↦ inl (subst (AreFoundIn was) (sym is) finds.reads, λ held holds. is ∙ finds.holds held holds)
      | inr new ↦ inr (new.1, λ held holds. subst (IsSound no_schema) (sym same ∙ finds.holds held holds) (subst (λ s. IsSound s (file_state c).now.trees) new.0 (opened.1 opened.0.is_open).0))
    ]) in
    (left, kept_as_found was image left)

-- ## What an open refuses

-- files of a ledger are not found to hold another database
pub is_no_ledger : {D : Type 0} {g : disk.Ghosts D} (c : Held (FileStore D g)) (was : Image) → IsOpened c → ((db : Trees) → HoldsDatabase was db → (file_state c).committed.trees ≡ db) → (entries : List Entry)
    → ((file_state c).in_transaction ≡ false → (file_state c).now.schema ≡ ledger_schema → ¬ HasEntries (file_state c).now.trees entries) → ¬ StandsIn was entries
is_no_ledger c was opened holds entries none stood = ∥∥₁_elim stood (λ x y. absurd x) (λ held.
    let s = file_state c in
    let now : s.now.trees ≡ held.0 = ap (λ (d : Database). d.trees) opened.0.clean ∙ holds held.0 held.1 in
    let has : HasEntries s.now.trees entries = subst (λ (db : Trees). HasEntries db entries) (sym now) held.2 in
    none opened.0.autocommit (lists_once _ _ _ (opened.1 opened.0.is_open).0.lists has.sound.lists) has)

-- an open of the database refuses files of a ledger as no database only for a fault of the disk
pub fault_if_none : {D : Type 0} {g : disk.Ghosts D} (files : Files D) (rest : Leftover D g) (e : Error) → FailsToOpenFiles files rest e
    → (e ≡ SqliteFailure code.NotADatabase) ⊎ (e ≡ SqliteFailure code.DatabaseCorrupt) → (entries : List Entry) → StandsIn (image_of g files) entries → MoreFaults (faults_of g files) (faults_left rest)
fault_if_none files rest e (inl memory) kind entries stood = absurd (elim kind [ inl a ↦ (let x = sym memory ∙ a in cc) | inr b ↦ (let x = sym memory ∙ b in cc) ])
fault_if_none files rest e (inr (inl refused)) kind entries stood = absurd (∥∥₁_elim stood (λ x y. absurd x) (λ held. refused.1 (inl (held.0, held.1))))
fault_if_none files rest e (inr (inr (inl fault))) kind entries stood = fault.1
fault_if_none files rest e (inr (inr (inr full))) kind entries stood = absurd (elim kind [ inl a ↦ (let x = sym full.0 ∙ a in cc) | inr b ↦ (let x = sym full.0 ∙ b in cc) ])
