-- What a store in a database holds, and what a crash may leave of it.
use Rattle.std.specs.Prelude.{◌≡◌, ◌⊎◌, ℕ, ◌<◌, false, List, [], length, map, IsTrue, IsPermutation, refl}
use Rattle.std.specs.Coded.{Coded, code_by, coded×, coded_ℕ}
use Rattle.escpos_till.specs.declared.entry.Entry.{Entry}
use Rattle.sqlite.specs.Tree.{Trees}
use Rattle.sqlite.specs.Store.{Ghosts}
use Rattle.sqlite.specs.Effect.{Database, IsDatabase}
use Rattle.sqlite.specs.State.{HasCleanDisk, State}
use Rattle.sqlite.specs.Held.{Held, held_code, state}
use Rattle.sqlite_catalog.specs.Listing.{IsSound}
use Rattle.sqlite.specs.Recovery.{Image}
use Rattle.sqlite_pages.specs.PageMap.{PageMap}
use Rattle.sqlite_wal.specs.Recovery as raw
use Rattle.sqlite_pool.specs.Stored.{stored_size, trimmed}
use Rattle.sqlite_store.specs.declared.catalog.Wanted.{Wanted}
use Rattle.sqlite_store.specs.Db.{IsFile}
use Rattle.sqlite_store.specs.Listing.{file_trees}
use Rattle.sqlite.specs.Files.{HoldsDatabase, AreFoundIn}
use Rattle.sqlite.specs.Closing.{HoldsAlone, files_left}
use Rattle.sqlite.specs.WalFiles.{outcomes}
use Rattle.sqlite.specs.declared.file.Leftover.{Leftover}
use Rattle.sqlite_disk.specs.declared.Disk as disk
use Rattle.escpos_store.specs.declared.open.TheConstants.{EMPTY_LOG}
use Rattle.escpos_store.specs.Table.{ledger_schema, no_schema, rows, visible}

-- The database is a ledger: it lists the table and nothing else, and obeys it. The rows of the table are these entries, in any order.
pub record HasEntries (db : Trees) (entries : List Entry) : Type 0 where
  pub sound : IsSound ledger_schema db
  pub are : IsPermutation (map visible (db 0)) (rows entries)

-- The database that the connection shows is a ledger with these entries, all of it is committed, and a crash leaves the same entries.
pub record Holds (s : State) (entries : List Entry) : Type 0 where
  pub is_open : IsTrue s.is_open
  pub autocommit : s.in_transaction ≡ false
  pub committed : s.committed ≡ s.now
  pub schema : s.now.schema ≡ ledger_schema
  pub has : HasEntries s.now.trees entries
  pub crash : (db : Trees) → s.may_leave db → HasEntries db entries

-- A crash may leave a database whose entries are these. Of a database that is no ledger any entries would count as left, so what excludes them says
-- that each database that may be left is a ledger.
abbrev pub Leaves : State → List Entry → Type 0
Leaves s left = (db : Trees) × s.may_leave db × ((entries : List Entry) → HasEntries db entries → left ≡ entries)

-- The model of a store: its connection, and how many entries it has.
pub record StoreView (S : Type 0) : Type 0 where
  pub connection : Held S
  pub count : ℕ

abbrev pub store_code : {S : Type 0} → Coded S → Coded (StoreView S)
store_code {S} store = code_by (Held S × ℕ) (coded× (held_code store) coded_ℕ) (λ v. (v.connection, v.count)) (λ p. record { connection = p.0; count = p.1 }) (λ _. refl)

-- the store holds these entries
abbrev pub HoldsIn : {S : Type 0} → Ghosts S → StoreView S → List Entry → Type 0
HoldsIn g s entries = Holds (state g s.connection) entries × (s.count ≡ length entries)

-- the disk has returned what was written
abbrev pub IsClean : {S : Type 0} → Ghosts S → StoreView S → Type 0
IsClean g s = HasCleanDisk (state g s.connection)

-- ## What an open finds

-- the database is a ledger with these entries, or has nothing yet, and then there is no entry
abbrev pub StartsAs : Database → List Entry → Type 0
StartsAs db entries = ((db.schema ≡ ledger_schema) × HasEntries db.trees entries) ⊎ ((db.schema ≡ no_schema) × (entries ≡ []))

-- The database file is gone: it is empty, and its log has pages.
abbrev pub LacksFile : Image → Type 0
LacksFile image = (length image.db ≡ 0) × (EMPTY_LOG < length image.log)

-- The log is gone: it is empty, and its database file isn't. One byte counts as nothing, since a new database file begins with it.
abbrev pub LacksLog : Image → Type 0
LacksLog image = (length image.log ≡ 0) × (1 < length image.db)

-- What is found in files that hold this: the one database that they hold, or an empty one where they hold none yet. The entries are those
-- that it has. Where neither the database file nor its log is gone, a database that has nothing yet is taken.
pub record FoundIn (image : Image) (entries : List Entry) : Type 0 where
  pub db : Database
  pub sound : IsDatabase db
  pub found : AreFoundIn image db.trees
  pub only : (trees : Trees) → HoldsDatabase image trees → db.trees ≡ trees
  pub starts : StartsAs db entries
  pub begins : db.schema ≡ no_schema → (¬ LacksFile image) × (¬ LacksLog image)

-- The files hold one ledger, with these entries: an open finds it, and may refuse it only for memory, a fault of the disk or a limit.
abbrev pub StandsIn : Image → List Entry → Type 0
StandsIn image entries = ∥ ((trees : Trees) × HoldsDatabase image trees × HasEntries trees entries) ∥₁

-- The files hold a database that a crash at this moment may leave.
abbrev pub LeftIn : State → Image → Type 0
LeftIn s image = ∥ ((trees : Trees) × HoldsDatabase image trees × s.may_leave trees) ∥₁

-- The files recover to pages that read as such a database. Only the numbers of the rows of sqlite_schema, and the sums, are left open.
abbrev pub ReadsIn : Image → (Trees → Type 0) → Type 0
ReadsIn image P = ∥ ((size : ℕ) × (wanted : List Wanted) × (stored : PageMap) × raw.Recovers (stored_size size) image stored
    × IsFile size wanted (trimmed size stored) × P (file_trees size wanted (trimmed size stored))) ∥₁

-- A database that a begin may leave where the database was this: one that a crash could leave before, or, if it had nothing, an empty ledger.
abbrev pub IsBegun : State → Trees → Type 0
IsBegun s db = s.may_leave db ⊎ ((s.now.schema ≡ no_schema) × HasEntries db [])

-- What an open leaves in files where it found a database and it is no ledger's, or it could not read it, or could not make the table: the
-- database that was found, or an empty ledger, and that only where the database that the files held had nothing.
abbrev pub LeavesAsFound : Image → Image → Type 0
LeavesAsFound was image =
    ∥ ((db : Trees) × HoldsDatabase image db
    × ((AreFoundIn was db × ((held : Trees) → HoldsDatabase was held → db ≡ held)) ⊎ (HasEntries db [] × ((held : Trees) → HoldsDatabase was held → IsSound no_schema held)))) ∥₁

-- If the files held a database, that had nothing.
abbrev pub HoldsNothing : Image → Type 0
HoldsNothing was = (held : Trees) → HoldsDatabase was held → IsSound no_schema held

-- what a crash may leave of the files that an open gives back
abbrev pub left_outcomes : {D : Type 0} {g : disk.Ghosts D} → Leftover D g → Image → Type 0
left_outcomes {g = g} rest = outcomes g (files_left rest).0 (files_left rest).1

-- A ledger that the files held is there still.
abbrev pub KeepsLedger : Image → Image → Type 0
KeepsLedger was image = (entries : List Entry) → StandsIn was entries → StandsIn image entries

-- ## What a close leaves

-- The files hold the entries, and so does the database file without its log.
pub record KeptIn (image : Image) (entries : List Entry) : Type 0 where
  pub trees : Trees
  pub alone : HoldsAlone image trees
  pub has : HasEntries trees entries
