-- Files that were just opened at a path hold what the path's files held, now and after a crash.
use Rattle.std.proofs.Common.{inl, inr, ◌≡◌, ◌⊎◌, Bool, true, false, cond, List, [], ◌∷◌, ℕ, ap₂, subst, sym, arith}
use Rattle.sqlite.specs.Recovery.{Image}
use Rattle.sqlite_disk.specs.Events.{Event, settled, replay}
use Rattle.sqlite_disk.specs.History.{MayLeave}
use Rattle.escpos_store.specs.Holds.{HoldsNothing, KeepsLedger, LeavesAsFound, StandsIn, left_outcomes}
use Rattle.escpos_store.proofs.open.SqliteStore+FileStore+FileFrom+S.open.Goals as goal

abbrev image : List ℕ → List ℕ → Image
image log db = record { log = log; db = db }

abbrev seen : List ℕ → List ℕ → Bool → List Event → List ℕ
seen log db is_log history = (replay (cond is_log log db) history).seen

-- a file that was just opened has what it held, also after a crash
only : (mixes : Bool) (log db : List ℕ) (is_log b : Bool) (history : List Event) (key : ℕ) → is_log ≡ b → history ≡ settled key ∷ [] → (c : List ℕ)
    → (let m = replay (cond is_log log db) history in MayLeave mixes m.seen m.synced m.steps c) → c ≡ cond b log db
only mixes log db is_log b history key is fresh c may =
    let it : (c ≡ cond b log db) ⊎ (c ≡ cond b log db) = rw (is, fresh) at may in
    elim it [ inl seen ↦ seen | inr synced ↦ synced ]

pub returns-in-Err-open_files-clause-spared : goal.returns-in-Err-open_files-clause-spared
returns-in-Err-open_files-clause-spared g c clean =
    let log = c.in-Ok.ensures.fresh.0 in
    let db = c.in-Ok.ensures.fresh.1 in
    let same = ap₂ image (ap₂ (seen g.S.Start.log g.S.Start.db) log.0 log.1) (ap₂ (seen g.S.Start.log g.S.Start.db) db.0 db.1) in
    elim (c.in-Err-open_files.ensures.spared clean) [
      | inl leaves ↦ inl (c.in-Ok.found.0, log, db, leaves)
      | inr found ↦ inr (subst (λ i. ((image : Image) → left_outcomes c.in-Err-open_files.rest image → LeavesAsFound i image × KeepsLedger i image) ⊎ HoldsNothing i) same found)
    ]

pub returns-in-Err-open_files-clause-stays : goal.returns-in-Err-open_files-clause-stays
returns-in-Err-open_files-clause-stays g c clean entries stood image_left may =
    let log = c.in-Ok.ensures.fresh.0 in
    let db = c.in-Ok.ensures.fresh.1 in
    let same = ap₂ image (ap₂ (seen g.S.Start.log g.S.Start.db) log.0 log.1) (ap₂ (seen g.S.Start.log g.S.Start.db) db.0 db.1) in
    c.in-Err-open_files.ensures.stays clean entries (subst (λ i. StandsIn i entries) (sym same) stood)
    (λ i left. subst (λ i. StandsIn i entries)
    (sym (ap₂ image (only g.S.Start.is_mixing g.S.Start.log g.S.Start.db _ true _ _ log.0 log.1 i.log left.0) (only g.S.Start.is_mixing g.S.Start.log g.S.Start.db _ false _ _ db.0 db.1 i.db left.1))) stood)
    image_left may

pub returns-in-Err-open_files-clause-no_ledger : goal.returns-in-Err-open_files-clause-no_ledger
returns-in-Err-open_files-clause-no_ledger g c none clean entries real stood =
    let log = c.in-Ok.ensures.fresh.0 in
    let db = c.in-Ok.ensures.fresh.1 in
    let same = ap₂ image (ap₂ (seen g.S.Start.log g.S.Start.db) log.0 log.1) (ap₂ (seen g.S.Start.log g.S.Start.db) db.0 db.1) in
    omega (arith, c.in-Err-open_files.ensures.no_ledger none clean entries real (subst (λ i. StandsIn i entries) (sym same) stood))
