-- What is left of a ledger's files where an open fails.
use Rattle.std.proofs.Common.{◌≡◌, ◌≤◌, ℕ, ◌%◌, ◌==◌, false, List, length, take, take_all, Option, None, Some, option_map, refl, sym, ap, subst, ◌∙◌, arith, inl, inr, IsTrue, eqb-true}
use Rattle.std.proofs.lemmas.Bool.{cases_Bool, cases_eq}
use Rattle.std.proofs.Math.Logic.{∥∥₁_elim, ∥∥₁_map}
use Rattle.std.proofs.Math.Path.{fun_ext}
use Rattle.sqlite_disk.specs.declared.Disk as disk
use Rattle.sqlite_disk.specs.declared.Files.{Files}
use Rattle.sqlite_wal.specs.Files.{outcomes}
use Rattle.sqlite_wal.specs.Recovery as raw
use Rattle.sqlite_wal.specs.Recovery.{Image, IsIgnored, AreWhole}
use Rattle.sqlite_pages.specs.PageMap.{PageMap}
use Rattle.sqlite_pool.specs.Stored.{reserved, stored_size, is_summed, is_among, sealed, trimmed, resealed, StandsAs}
use Rattle.sqlite_pool.proofs.ProbeLemmas.{reserved_word, size_by_log, size_by_file}
use Rattle.sqlite_pool.proofs.ResealLemmas.{same_trimmed}
use Rattle.sqlite_pool.proofs.StateLemmas.{clean_is, may_leave_is}
use Rattle.sqlite_store.specs.declared.catalog.Wanted.{Wanted}
use Rattle.sqlite_store.specs.declared.store.FileStore.{FileStore}
use Rattle.sqlite_store.specs.Db.{IsFile}
use Rattle.sqlite_store.specs.Listing.{IsOurs, file_trees}
use Rattle.sqlite_store.specs.FileStore as store
use Rattle.sqlite_store.specs.FileStore.{recovers, reading, schema_in}
use Rattle.sqlite_trees.specs.Tree.{Trees}
use Rattle.sqlite.specs.Files.{HoldsDatabase, NamesSize, SaysSums, LeavesFiles, IsCleanLeft, image_of}
use Rattle.sqlite.specs.declared.file.Leftover.{Leftover}
use Rattle.sqlite.specs.declared.file.Leftover.TheVariants as left
use Rattle.sqlite.proofs.FileLemmas.{is_something}
use Rattle.escpos_till.specs.declared.entry.Entry.{Entry}
use Rattle.escpos_store.specs.Holds.{FoundIn, HasEntries, KeptIn, ReadsIn, StandsIn, left_outcomes}
use Rattle.escpos_store.proofs.OpenLemmas.{only_these}
use Rattle.sqlite.specs.Closing.{files_left}
use Rattle.sqlite_wal.specs.Reads.{AreClean}

abbrev ReadsBy : Image → (Trees → Type 0) → Type 0
ReadsBy image P = (size : ℕ) × (wanted : List Wanted) × (stored : PageMap) × raw.Recovers (stored_size size) image stored × IsFile size wanted (trimmed size stored) × P (file_trees size wanted (trimmed size stored))

reads_by : (size : ℕ) (image : Image) (wanted : List Wanted) (pages stored : PageMap) → raw.Recovers (stored_size size) image stored → trimmed size stored ≡ pages → IsFile size wanted pages → (P : Trees → Type 0)
    → P (file_trees size wanted pages) → ReadsBy image P
reads_by size image wanted pages stored found shows file P p =
    (size, wanted, stored, found, subst (IsFile size wanted) (sym shows) file, subst (λ pages. P (file_trees size wanted pages)) (sym shows) p)

reads_held : (image : Image) (db : Trees) → HoldsDatabase image db → (P : Trees → Type 0) → P db → ReadsBy image P
reads_held image db held P p =
    let h = held.2 in reads_by held.0 image h.wanted h.pages h.found.stored h.found.found h.found.shows h.ours.file P (subst P h.reads p)

pub reads_stood : (image : Image) (entries : List Entry) → StandsIn image entries → ReadsIn image (λ db. HasEntries db entries)
reads_stood image entries stood = ∥∥₁_map stood (λ s. reads_held image s.0 s.1 (λ db. HasEntries db entries) s.2)

pub reads_as : {D : Type 0} {g : disk.Ghosts D} (it : FileStore D g) (image : Image) → (store.state it).may_leave image → (P : Trees → Type 0) → ((db : Trees) → recovers it db → P db) → ReadsIn image P
reads_as it image may P allowed = ∥∥₁_elim it.safe squash₁ (λ all.
    let found = all image may in
    let db = reading it found.0 in
    let left : recovers it db = (image, found.0, may, ∣ found.1 ∣₁, refl) in
    ∥∥₁_map found.2 (λ (ours : IsOurs (store.state it).page_size it.is_numbered (schema_in it found.0) found.0).
    reads_by (store.state it).page_size image (schema_in it found.0) found.0 found.1.stored found.1.found found.1.shows ours.file P (allowed db left)))

-- with no sums, sealing changes nothing
plain_page : (size : ℕ) (page : Option (List ℕ)) → is_summed size ≡ false → ((bytes : List ℕ) → page ≡ Some bytes → length bytes ≡ stored_size size) → option_map (λ bytes. sealed (take size bytes)) page ≡ page
unfolding sealed
plain_page size None none whole = refl
plain_page size (Some bytes) none whole =
    let none_kept : reserved size ≡ 0 = grind arith in
    let len : length bytes ≡ size = omega (arith, whole bytes refl) in
    let same : take size bytes ≡ bytes = take_all size bytes (omega arith) in
    let odd : (length bytes % 16 == 8) ≡ false = grind arith in
    ap Some (rw same (rw odd))

plain_resealed : (size : ℕ) (numbers : List ℕ) (stored : PageMap) → is_summed size ≡ false → AreWhole (stored_size size) stored → resealed size numbers stored ≡ stored
unfolding resealed
plain_resealed size numbers stored none whole = fun_ext λ n. elim (cases_Bool (is_among numbers n)) [ inl among ↦ rw among (plain_page size (stored n) none (whole.sized n)) | inr other ↦ rw other ]

-- files that stand for what files of a database stood for read as that database
pub same_when_kept : (old new : Image) (db : Trees) → HoldsDatabase old db → (size : ℕ) → NamesSize old (stored_size size) → (IsTrue (is_summed size) → SaysSums (stored_size size) old) → StandsAs size old new
    → (P : Trees → Type 0) → P db → ReadsBy new P
same_when_kept old new db held size names says stands P p =
    let s = held.0 in
    let h = held.2 in
    let few : reserved s ≤ 8 = grind arith in
    let large : 504 ≤ s = omega (arith, held.1.0) in
    let sound = h.ours.file.sound in
    let same : stored_size size ≡ stored_size s = elim (cases_eq (stored_size size) (stored_size s)) [
      | inl is ↦ is
      | inr other ↦ absurd (let read : ¬ IsIgnored old.log = λ ignored. other (names.1 ignored ∙ size_by_file s old h.pages h.found large sound ignored) in other (names.0 read ∙ size_by_log s old h.pages h.found read))
    ] in
    let stored = h.found.stored in
    let found : raw.Recovers (stored_size size) old stored = subst (λ n. raw.Recovers n old stored) (sym same) h.found.found in
    let answer = λ (now : raw.Recovers (stored_size size) new stored).
    reads_by s new h.wanted h.pages stored (subst (λ n. raw.Recovers n new stored) same now) h.found.shows h.ours.file P (subst P h.reads p) in
    elim stands.0 [
      | inl alike ↦ answer (alike stored found)
      | inr summed ↦ elim (summed.2 stored found) [
        | inl now ↦ answer now
        | inr now ↦ elim (cases_Bool (is_summed size)) [
          | inl on ↦
              let page = reserved_word s old h.pages h.found large sound in
              let word = says on stored page.0 found page.1 (page.2 ∙ sym same) in
              let eight : reserved size ≡ 8 = eqb-true _ _ on in
              let all : reserved s ≡ 8 = omega (arith, word, page.3) in
              let is : size ≡ s = omega arith in
              reads_by s new h.wanted h.pages (resealed s summed.0 stored) (subst (λ n. raw.Recovers (stored_size n) new (resealed n summed.0 stored)) is now)
              (same_trimmed s summed.0 stored h.found.whole ∙ h.found.shows) h.ours.file P (subst P h.reads p)
          | inr off ↦ answer (subst (raw.Recovers (stored_size size) new) (plain_resealed size summed.0 stored off (subst (λ n. AreWhole n stored) (sym same) h.found.whole)) now)
        ]
      ]
    ]

-- A ledger that the files held, as they read and after a crash, is what is left of them, but for the numbers of its listing.
pub left_stands : {D : Type 0} {g : disk.Ghosts D} (files : Files D) (rest : Leftover D g) → IsCleanLeft rest → LeavesFiles files rest → (entries : List Entry) → StandsIn (image_of g files) entries
    → ((image : Image) → outcomes g files.log files.db image → StandsIn image entries) → (image : Image) → left_outcomes rest image → ReadsIn image (λ db. HasEntries db entries)
left_stands files (left.Files now) clean leaves entries stood each image may = reads_stood image entries (each image (leaves image may))
left_stands {g = g} files (left.Unopened now) clean leaves entries stood each image may = ∥∥₁_elim stood squash₁ (λ held. elim leaves [
  | inl none ↦ absurd (is_something _ held.0 held.1 none.0)
  | inr some ↦ elim ((some.4 image (may_leave_is now.pool image (sym (clean_is now.pool) ∙ clean) may)).same) [
    | inl old ↦ reads_stood image entries (each image old)
    | inr same ↦ ∣ same_when_kept (image_of g files) image held.0 held.1 _ some.1 some.3 same (λ db. HasEntries db entries) held.2 ∣₁
  ]
])
left_stands files (left.Store it) clean leaves entries stood each image may = ∥∥₁_elim stood squash₁ (λ held.
    reads_as it image (may_leave_is it.pool image (sym (clean_is it.pool) ∙ clean) may) (λ db. HasEntries db entries)
    (λ db r. subst (λ (t : Trees). HasEntries t entries) (sym ((leaves db r).1 held.0 held.1)) held.2))

pub clean_left : {D : Type 0} {g : disk.Ghosts D} (rest : Leftover D g) → AreClean g (files_left rest).0 (files_left rest).1 → IsCleanLeft rest
clean_left (left.Files now) h = h
clean_left (left.Unopened now) h = clean_is now.pool ∙ h
clean_left (left.Store it) h = clean_is it.pool ∙ h

-- the entries that an open found are those that the files held
pub found_stands : (was image : Image) (found entries : List Entry) → FoundIn was found → StandsIn was entries → StandsIn image found → ReadsIn image (λ db. HasEntries db entries)
found_stands was image found entries f stood stands = ∥∥₁_elim stood squash₁ (λ held.
    let same : found ≡ entries = only_these f.db found f.sound f.starts entries (subst (λ (t : Trees). HasEntries t entries) (sym (f.only held.0 held.1)) held.2) in
    reads_stood image entries (subst (StandsIn image) same stands))

pub found_reads : (was image : Image) (found entries : List Entry) → FoundIn was found → StandsIn was entries → ReadsIn image (λ db. HasEntries db found) → ReadsIn image (λ db. HasEntries db entries)
found_reads was image found entries f stood reads = ∥∥₁_elim stood squash₁ (λ held.
    let same : found ≡ entries = only_these f.db found f.sound f.starts entries (subst (λ (t : Trees). HasEntries t entries) (sym (f.only held.0 held.1)) held.2) in
    subst (λ es. ReadsIn image (λ db. HasEntries db es)) same reads)

pub kept_stands : (image : Image) (entries : List Entry) → KeptIn image entries → StandsIn image entries
kept_stands image entries kept = ∥∥₁_map kept.alone.both (λ holds. let r : (trees : Trees) × HoldsDatabase image trees × HasEntries trees entries = (kept.trees, holds, kept.has) in r)
