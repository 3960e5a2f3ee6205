use Rattle.std.proofs.Common.{inl, inr, ◌∙◌, sym, arith}
use Rattle.sqlite.specs.Files.{file_state, image_of}
use Rattle.sqlite_trees.specs.View.{IsClean}
use Rattle.sqlite_trees.proofs.Doubt.{no_doubt}
use Rattle.sqlite_store.specs.FileStore.{view}
use Rattle.sqlite_pool.proofs.StateLemmas.{clean_is, may_leave_is}
use Rattle.escpos_store.proofs.LeftLemmas.{left_stands, reads_stood}
use Rattle.escpos_store.proofs.OpenLemmas.{found_in, left_as_found, is_no_ledger, fault_if_none}
use Rattle.escpos_store.proofs.MeasureLemmas.{held_nothing, nothing_stands}
use Rattle.escpos_store.proofs.open.open_measured.Goals.{else-lacks_log-via-then-lacks_log+else-is_new, else-lacks_log-via-else-lacks_log}
use Rattle.escpos_store.proofs.open.open_measured.Goals as goal

pub returns-in-Ok-begun-clause-found : goal.returns-in-Ok-begun-clause-found
returns-in-Ok-begun-clause-found g c clean =
    let it = c.in-Ok-begun.ensures.found clean in
    let open_now = c.in-Ok.ensures.opened it.0 in
    let finds = c.in-Ok.ensures.found it.0 in (
      it.1.0,
      it.1.1,
      found_in (file_state c.in-Ok.conn) (image_of g.D.Disk c.args.files) it.1.0 open_now.0 open_now.1 (record { holds = finds.holds; reads = finds.reads }) it.1.2
          (λ none. elim c.else-lacks_log.branch [
            | else-lacks_log-via-then-lacks_log+else-is_new w ↦ absurd (let new = w.is_new.ensures.1 (w.schema.ensures.value ∙ none) in let old = w.if-is_new.false in cc)
            | else-lacks_log-via-else-lacks_log w ↦ (let whole = c.requires.measured finds.honest in (whole.0, whole.1 w.if-lacks_log.false))
          ]),
    )

pub returns-in-Err-begun-clause-spared : goal.returns-in-Err-begun-clause-spared
returns-in-Err-begun-clause-spared g c sure =
    let it = c.into_store.result in
    let clean : IsClean (view it) = no_doubt _ sure in
    let back = c.in-Err-begun.ensures.crash (omega (arith, clean, c.into_store.ensures.quiet.clean)) in
    let finds = c.in-Ok.ensures.found back.0 in
    let opened = c.in-Ok.ensures.opened back.0 in
    inr (inl (λ image may. left_as_found c.in-Ok.conn (image_of g.D.Disk c.args.files) opened (record { holds = finds.holds; reads = finds.reads }) it
    (c.into_store.ensures.numbered clean) (c.into_store.ensures.sound clean)
    (λ db r. back.1 db (c.into_store.ensures.quiet.outcomes db r) opened.0.is_open) image (may_leave_is it.pool image (sym (clean_is it.pool) ∙ sure) may)))

pub returns-in-Err-begun-clause-no_ledger : goal.returns-in-Err-begun-clause-no_ledger
returns-in-Err-begun-clause-no_ledger g c none sure entries real stood =
    let it = c.into_store.result in
    let clean : IsClean (view it) = no_doubt _ sure in
    let back = c.in-Err-begun.ensures.crash (omega (arith, clean, c.into_store.ensures.quiet.clean)) in
    absurd (is_no_ledger c.in-Ok.conn (image_of g.D.Disk c.args.files) (c.in-Ok.ensures.opened back.0) (c.in-Ok.ensures.found back.0).holds entries
    (λ alone has held. c.in-Err-begun.ensures.no_ledger none (omega (arith, clean, c.into_store.ensures.quiet.clean)) alone has entries real held) stood)

pub returns-in-Err-clause-no_ledger : goal.returns-in-Err-clause-no_ledger
returns-in-Err-clause-no_ledger g c none sure entries real stood =
    fault_if_none c.args.files c.in-Err.rest c.in-Err.error (c.in-Err.ensures.cause sure) (c.file_fault.ensures.no_ledger none) entries stood

pub returns-in-Err-clause-stays : goal.returns-in-Err-clause-stays
returns-in-Err-clause-stays g c clean = left_stands c.args.files c.in-Err.rest clean (c.in-Err.ensures.unharmed clean)

pub returns-in-Err-begun-clause-stays : goal.returns-in-Err-begun-clause-stays
returns-in-Err-begun-clause-stays g c sure entries stood each image may =
    let it = c.into_store.result in
    let clean : IsClean (view it) = no_doubt _ sure in
    let back = c.in-Err-begun.ensures.crash (omega (arith, clean, c.into_store.ensures.quiet.clean)) in
    let finds = c.in-Ok.ensures.found back.0 in
    let opened = c.in-Ok.ensures.opened back.0 in
    let left = left_as_found c.in-Ok.conn (image_of g.D.Disk c.args.files) opened (record { holds = finds.holds; reads = finds.reads }) it
    (c.into_store.ensures.numbered clean) (c.into_store.ensures.sound clean)
    (λ db r. back.1 db (c.into_store.ensures.quiet.outcomes db r) opened.0.is_open) image (may_leave_is it.pool image (sym (clean_is it.pool) ∙ sure) may) in
    reads_stood image entries (left.1 entries stood)

pub returns-then-is_new-clause-spared : goal.returns-then-is_new-clause-spared
returns-then-is_new-clause-spared g c honest =
    let clean = c.without_log.ensures honest in
    let none = sym c.schema.ensures.value ∙ c.is_new.ensures.0 c.if-is_new.true in
    inr (inr (held_nothing c.in-Ok.conn (image_of g.D.Disk c.args.files) (c.in-Ok.ensures.opened clean) (c.in-Ok.ensures.found clean).holds none))

pub returns-then-is_new-clause-stays : goal.returns-then-is_new-clause-stays
returns-then-is_new-clause-stays g c honest entries stood each image may =
    let clean = c.without_log.ensures honest in
    let none = sym c.schema.ensures.value ∙ c.is_new.ensures.0 c.if-is_new.true in
    absurd (nothing_stands c.in-Ok.conn (image_of g.D.Disk c.args.files) (c.in-Ok.ensures.opened clean) (c.in-Ok.ensures.found clean).holds none entries stood)

pub returns-then-is_new-clause-no_ledger : goal.returns-then-is_new-clause-no_ledger
returns-then-is_new-clause-no_ledger g c why honest entries real stood =
    let clean = c.without_log.ensures honest in
    let none = sym c.schema.ensures.value ∙ c.is_new.ensures.0 c.if-is_new.true in
    absurd (nothing_stands c.in-Ok.conn (image_of g.D.Disk c.args.files) (c.in-Ok.ensures.opened clean) (c.in-Ok.ensures.found clean).holds none entries stood)
