-- Files whose lengths were asked for are as they were.
use Rattle.std.proofs.Common.{inl, inr, ◌⊎◌, arith, List, IfOk, sym, subst}
use Rattle.std.proofs.lemmas.Result.{IfErr-weaker}
use Rattle.sqlite_disk.specs.Disk.{MoreFaults}
use Rattle.sqlite.specs.Recovery.{Image}
use Rattle.sqlite.specs.State.{HasCleanDisk}
use Rattle.sqlite.specs.Files.{file_state, image_of, over_files, faults_left}
use Rattle.sqlite.proofs.FileLemmas.{same_image}
use Rattle.escpos_till.specs.declared.entry.Entry.{Entry}
use Rattle.escpos_store.specs.Holds.{FoundIn, HoldsIn, HoldsNothing, KeepsLedger, LeavesAsFound, StandsIn, left_outcomes}
use Rattle.escpos_store.proofs.MeasureLemmas.{left_before, leaves_before, no_file_stands}
use Rattle.escpos_store.proofs.LeftLemmas.{reads_stood}
use Rattle.escpos_store.proofs.open.SqliteStore+FileStore+D.open_files.Goals as goal

pub returns-in_default-clause-stays : goal.returns-in_default-clause-stays
returns-in_default-clause-stays g c clean entries stood each image may =
    reads_stood image entries (each image (left_before c.args.files c.lengths.new.files c.lengths.ensures.log c.lengths.ensures.db image may))

pub returns-then-log-gt-EMPTY_LOG-clause-stays : goal.returns-then-log-gt-EMPTY_LOG-clause-stays
returns-then-log-gt-EMPTY_LOG-clause-stays g c clean entries stood each image may =
    reads_stood image entries (each image (left_before c.args.files c.lengths.new.files c.lengths.ensures.log c.lengths.ensures.db image may))

pub returns-then-log-gt-EMPTY_LOG-clause-no_ledger : goal.returns-then-log-gt-EMPTY_LOG-clause-no_ledger
returns-then-log-gt-EMPTY_LOG-clause-no_ledger g c why clean entries real stood =
    absurd (no_file_stands (image_of g.D.Disk c.args.files) entries (omega (arith, c.if-db-eq0.true, (c.in-Ok.ensures.lengths clean).1)) stood)

pub returns-clause-found : goal.returns-clause-found
returns-clause-found g c = subst (λ i. IfOk c.open_measured.result (λ store. HasCleanDisk (file_state store.connection) → (entries : List Entry) × HoldsIn over_files store entries × FoundIn i entries))
    (same_image c.lengths.ensures.log c.lengths.ensures.db) c.open_measured.ensures.found

pub returns-clause-spared : goal.returns-clause-spared
returns-clause-spared g c =
    let log = c.lengths.ensures.log in
    let db = c.lengths.ensures.db in
    IfErr-weaker c.open_measured.result _ _ (λ e spared clean. elim (spared clean) [
      | inl leaves ↦ inl (leaves_before c.args.files c.lengths.new.files e.1 log db leaves)
      | inr found ↦ inr (subst (λ i. ((image : Image) → left_outcomes e.1 image → LeavesAsFound i image × KeepsLedger i image) ⊎ HoldsNothing i) (same_image log db) found)
    ]) c.open_measured.ensures.spared

pub returns-clause-stays : goal.returns-clause-stays
returns-clause-stays g c =
    let log = c.lengths.ensures.log in
    let db = c.lengths.ensures.db in
    IfErr-weaker c.open_measured.result _ _ (λ e stays clean entries stood each. stays clean entries (subst (λ i. StandsIn i entries) (sym (same_image log db)) stood)
    (λ image may. each image (left_before c.args.files c.lengths.new.files log db image may))) c.open_measured.ensures.stays

pub returns-clause-no_ledger : goal.returns-clause-no_ledger
returns-clause-no_ledger g c =
    let log = c.lengths.ensures.log in
    let db = c.lengths.ensures.db in
    let same = c.in-Ok.ensures.faults in
    IfErr-weaker c.open_measured.result _ _ (λ e refused none clean entries real stood.
    subst (λ n. MoreFaults n (faults_left e.1)) same (refused none clean entries real (subst (λ i. StandsIn i entries) (sym (same_image log db)) stood))) c.open_measured.ensures.no_ledger
