use Rattle.std.proofs.Common.{subst}
use Rattle.sqlite.specs.Closing.{IsCopied}
use Rattle.std.proofs.Common.{◌∙◌}
use Rattle.sqlite.specs.Tree.{Trees}
use Rattle.sqlite.specs.WalFiles.{outcomes}
use Rattle.sqlite.specs.WalReads.{AreClean}
use Rattle.sqlite.specs.Files.{file_state}
use Rattle.std.proofs.Common.{arith}
use Rattle.sqlite.specs.State.{HasCleanDisk}
use Rattle.sqlite_trees.specs.View.{IsClean}
use Rattle.sqlite_trees.proofs.Doubt.{no_doubt}
use Rattle.sqlite_store.specs.FileStore.{view}
use Rattle.sqlite_pool.proofs.StateLemmas.{clean_is, may_leave_is}
use Rattle.escpos_store.specs.Holds.{HasEntries}
use Rattle.escpos_store.proofs.OpenLemmas.{kept_if_ok}
use Rattle.escpos_store.proofs.LeftLemmas.{reads_as}
use Rattle.escpos_store.proofs.open.SqliteStore+FileStore+D.into_files.Goals as goal

pub returns-in-Ok-clause-kept : goal.returns-in-Ok-clause-kept
returns-in-Ok-clause-kept g c = λ clean entries held. kept_if_ok c.args.self c.in-Ok.files (subst (λ h. IsCopied h c.in-Ok.files) c.into_connection.ensures (c.in-Ok.ensures.copied clean)) entries held

pub returns-in-Err-clause-left : goal.returns-in-Err-clause-left
returns-in-Err-clause-left g c honest image may =
    let it = c.in-Err.store in
    let sure = subst (λ p. AreClean g.D.Disk p.0 p.1) c.close.ensures honest in
    let left = may_leave_is it.pool image sure (subst (λ p. outcomes g.D.Disk p.0 p.1 image) c.close.ensures may) in
    let each = λ (P : Trees → Type 0) (allowed : (db : Trees) → (file_state c.args.self.connection).may_leave db → P db).
    reads_as it image left P (λ db r. allowed db (subst (λ h. (file_state h).may_leave db) c.into_connection.ensures (c.in-Err.ensures.err.0.quiet.outcomes db r))) in
    (each (file_state c.args.self.connection).may_leave (λ db r. r), λ entries held. each (λ db. HasEntries db entries) held.0.crash)

pub returns-in-Ok-clause-clean : goal.returns-in-Ok-clause-clean
returns-in-Ok-clause-clean g c clean = (subst (λ h. IsCopied h c.in-Ok.files) c.into_connection.ensures (c.in-Ok.ensures.copied clean)).was_clean

pub returns-in-Err-clause-clean : goal.returns-in-Err-clause-clean
returns-in-Err-clause-clean g c honest =
    let it = c.in-Err.store in
    let sure = subst (λ p. AreClean g.D.Disk p.0 p.1) c.close.ensures honest in
    let clean : IsClean (view it) = no_doubt _ (clean_is it.pool ∙ sure) in
    let was : HasCleanDisk (file_state c.into_connection.result) = omega (arith, clean, c.in-Err.ensures.err.0.quiet.clean) in
    subst (λ h. HasCleanDisk (file_state h)) c.into_connection.ensures was
