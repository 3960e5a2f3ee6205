-- Files whose lengths were asked for are as they were, and what is refused by their lengths is no ledger.
use Rattle.std.proofs.Common.{◌≡◌, List, length, inl, inr, sym, ap, subst, ◌∙◌}
use Rattle.std.proofs.Math.Logic.{∥∥₁_elim}
use Rattle.sqlite_disk.specs.declared.Disk as disk
use Rattle.sqlite_disk.specs.declared.Files.{Files}
use Rattle.sqlite_wal.specs.Reads.{OnlyReads}
use Rattle.sqlite.specs.WalFiles.{outcomes}
use Rattle.sqlite.specs.Recovery.{Image}
use Rattle.sqlite_pool.specs.Stored.{StandsAs, IsUnreadable, stored_size}
use Rattle.sqlite_store.specs.Unopened.{state_of}
use Rattle.sqlite_trees.specs.Tree.{Trees}
use Rattle.sqlite_catalog.specs.Listing.{IsSound}
use Rattle.sqlite_store.specs.declared.store.FileStore.{FileStore}
use Rattle.sqlite.specs.Effect.{Database}
use Rattle.sqlite.specs.Held.{Held}
use Rattle.sqlite.specs.Files.{AreFoundIn, BeginsWell, HoldsDatabase, IsNothing, IsOpened, LeavesFiles, NamesSize, SaysSums, file_state, image_of}
use Rattle.sqlite.specs.declared.file.Leftover.{Leftover}
use Rattle.sqlite.specs.declared.file.Leftover.TheVariants as left
use Rattle.sqlite.proofs.FileLemmas.{is_something, same_image}
use Rattle.escpos_till.specs.declared.entry.Entry.{Entry}
use Rattle.escpos_store.specs.Table.{no_schema}
use Rattle.escpos_store.specs.Holds.{HoldsNothing, StandsIn}
use Rattle.escpos_store.proofs.OpenLemmas.{is_no_ledger, never_both}

-- what may be left of the files after the lengths may be left before
pub left_before : {D : Type 0} {g : disk.Ghosts D} (old new : Files D) → OnlyReads g old.log new.log → OnlyReads g old.db new.db → (image : Image) → outcomes g new.log new.db image → outcomes g old.log old.db image
left_before old new log db image may = (log.crash _ may.0, db.crash _ may.1)

pub leaves_before : {D : Type 0} {g : disk.Ghosts D} (old new : Files D) (rest : Leftover D g) → OnlyReads g old.log new.log → OnlyReads g old.db new.db → LeavesFiles new rest → LeavesFiles old rest
leaves_before old new (left.Files now) log db leaves = λ image may. left_before old new log db image (leaves image may)
leaves_before {g = g} old new (left.Unopened now) log db leaves =
    let same : image_of g new ≡ image_of g old = same_image log db in
    let size = (state_of now).page_size in
    elim leaves [
      | inl none ↦ inl (subst IsNothing same none.0, λ image may. elim (none.1 image may) [ inl was ↦ inl (left_before old new log db image was) | inr more ↦ inr more ])
      | inr some ↦ inr (
        (λ nothing. some.0 (subst IsNothing (sym same) nothing)),
        subst (λ i. NamesSize i (stored_size size)) same some.1,
        subst (BeginsWell (stored_size size)) same some.2,
        (λ sums. subst (SaysSums (stored_size size)) same (some.3 sums)),
        λ image may.
            let kept = some.4 image may in
            record {
              same = elim kept.same [ inl was ↦ inl (left_before old new log db image was) | inr stands ↦ inr (subst (λ i. StandsAs size i image) same stands) ];
              unread = λ unreadable. left_before old new log db image (kept.unread (subst (IsUnreadable size) (sym same) unreadable));
              something = λ other nothing. kept.something (λ was. other (left_before old new log db image was)) nothing;
            },
      )
    ]
leaves_before {g = g} old new (left.Store now) log db leaves =
    let same : image_of g new ≡ image_of g old = same_image log db in
    λ found may.
    let it = leaves found may in
    (subst (λ i. AreFoundIn i found) same it.0, λ held holds. it.1 held (subst (λ i. HoldsDatabase i held) (sym same) holds))

-- files with no database file are no ledger
pub no_file_stands : (image : Image) (entries : List Entry) → length image.db ≡ 0 → ¬ StandsIn image entries
no_file_stands image entries none stood = ∥∥₁_elim stood (λ x y. absurd x) (λ held. is_something image held.0 held.1 (inl (inl none)))

-- where a database that has nothing was found, the files held no other
pub held_nothing : {D : Type 0} {g : disk.Ghosts D} (c : Held (FileStore D g)) (was : Image) → IsOpened c → ((db : Trees) → HoldsDatabase was db → (file_state c).committed.trees ≡ db)
    → (file_state c).now.schema ≡ no_schema → HoldsNothing was
held_nothing c was opened holds none held there =
    let s = file_state c in
    let now : s.now.trees ≡ held = ap (λ (d : Database). d.trees) opened.0.clean ∙ holds held there in
    subst (IsSound no_schema) now (subst (λ schema. IsSound schema s.now.trees) none (opened.1 opened.0.is_open).0)

pub nothing_stands : {D : Type 0} {g : disk.Ghosts D} (c : Held (FileStore D g)) (was : Image) → IsOpened c → ((db : Trees) → HoldsDatabase was db → (file_state c).committed.trees ≡ db)
    → (file_state c).now.schema ≡ no_schema → (entries : List Entry) → ¬ StandsIn was entries
nothing_stands c was opened holds none entries = is_no_ledger c was opened holds entries (λ alone has held. absurd (never_both _ has none))
