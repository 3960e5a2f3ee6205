use Rattle.std.proofs.Common.{◌∙◌, subst, arith}
use Rattle.sqlite.specs.WalReads.{AreClean}
use Rattle.sqlite_trees.specs.View.{IsClean}
use Rattle.sqlite_trees.proofs.Doubt.{no_doubt}
use Rattle.sqlite_store.specs.FileStore.{view}
use Rattle.sqlite_pool.proofs.StateLemmas.{clean_is}
use Rattle.sqlite_wal.proofs.CleanLemmas.{both_clean}
use Rattle.escpos_store.proofs.open.without_log.Goals as goal

pub returns-then-may_be_used : goal.returns-then-may_be_used
returns-then-may_be_used g c honest =
    let it = c.into_store.result in
    let before : AreClean g.D.Disk c.close-files.result.log c.close-files.result.db = both_clean _ _ _ _ c.set_len.ensures.clean (λ same. same) honest in
    let sure = subst (λ p. AreClean g.D.Disk p.0 p.1) c.close-files.ensures before in
    let clean : IsClean (view it) = no_doubt _ (clean_is it.pool ∙ sure) in
    omega (arith, clean, c.into_store.ensures.quiet.clean)

pub returns-else-may_be_used : goal.returns-else-may_be_used
returns-else-may_be_used g c before =
    let it = c.into_store.result in
    let sure = subst (λ p. AreClean g.D.Disk p.0 p.1) c.close-files.ensures before in
    let clean : IsClean (view it) = no_doubt _ (clean_is it.pool ∙ sure) in
    omega (arith, clean, c.into_store.ensures.quiet.clean)
