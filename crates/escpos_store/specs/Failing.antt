-- Why a call on a store failed.
use Rattle.std.specs.Prelude.{◌≡◌, ◌⊎◌, ℕ, ◌+◌, ◌≤◌, ◌^◌, All, List, [], ◌∷◌, ◌++◌, Option, Ok, Err}
use Rattle.escpos_till.specs.declared.entry.Entry.{Entry}
use Rattle.escpos_till.specs.declared.store.StoreFault.{StoreFault}
use Rattle.escpos_till.specs.declared.store.StoreFault.TheVariants as fault
use Rattle.sqlite_disk.specs.Disk.{MoreFaults}
use Rattle.sqlite_resolve.specs.declared.compiled.Compiled.{Compiled}
use Rattle.sqlite.specs.declared.error.Error.{Error}
use Rattle.sqlite.specs.Does.{Does}
use Rattle.sqlite.specs.Effect.{RefusesToRead}
use Rattle.sqlite.specs.Held.{state}
use Rattle.sqlite.specs.Listing.{understood}
use Rattle.sqlite.specs.State.{State, HasCleanDisk, mode_of, text_of}
use Rattle.sqlite.specs.Store.{Ghosts}
use Rattle.escpos_store.specs.Holds.{HoldsIn, StoreView}
use Rattle.escpos_store.specs.Table.{IsReal, insert_both_text, insert_text, number_of, row_of, select_text}

-- The database refuses the query of the entries, or the statement that adds this entry, or these two, after so many others: by what the
-- statement is defined to do, it comes to an error, or to a row that is larger than the rows that there are.
abbrev pub IsRefused : State → ℕ → List Entry → Type 0
IsRefused s count [] = (c : Compiled) × (understood s.now.schema select_text ≡ Ok c) × (e : Error) × RefusesToRead s.step_limit c.command s.now [] e
IsRefused s count (e ∷ []) =
    (c : Compiled) × (understood s.now.schema insert_text ≡ Ok c) × (stop : Option Error)
    × Does s.step_limit (mode_of s) (row_of (1 + count) e) s.now (text_of insert_text c) c.returning c.command (Err stop)
IsRefused s count (e ∷ f ∷ _) =
    (c : Compiled) × (understood s.now.schema insert_both_text ≡ Ok c) × (stop : Option Error)
    × Does s.step_limit (mode_of s) (row_of (1 + count) e ++ row_of (2 + count) f) s.now (text_of insert_both_text c) c.returning c.command (Err stop)

-- After so many entries, the id or the number of one of these is past what a row can have.
abbrev pub IsPastRows : ℕ → List Entry → Type 0
IsPastRows count [] = ⊥
IsPastRows count (e ∷ []) = (2 ^ 63 ≤ 1 + count) ⊎ (2 ^ 63 ≤ number_of e)
IsPastRows count (e ∷ f ∷ _) = (2 ^ 63 ≤ 2 + count) ⊎ ((2 ^ 63 ≤ number_of e) ⊎ (2 ^ 63 ≤ number_of f))

-- The disk failed or refused meanwhile, or the database refuses the statement.
abbrev pub Fails : State → ℕ → List Entry → State → Type 0
Fails old count added new = MoreFaults old.faults new.faults ⊎ IsRefused old count added

-- A store that held a ledger fails for the disk, for the database, or for a number that is past what a row can have. Nothing is said of memory.
abbrev pub SaysWhy : {S : Type 0} → Ghosts S → StoreView S → List Entry → StoreFault → StoreView S → Type 0
SaysWhy g old added fault.Memory new = Unit {0}
SaysWhy g old added fault.Failed new =
    HasCleanDisk (state g new.connection) → (entries : List Entry) → All IsReal entries → HoldsIn g old entries
    → IsPastRows old.count added ⊎ Fails (state g old.connection) old.count added (state g new.connection)
