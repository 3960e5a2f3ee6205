use Rattle.std.proofs.Common.{sym, subst, subst₂}
use Rattle.sqlite_disk.specs.Fuse.{inner_of}
use Rattle.sqlite.specs.Recovery.{Image}
use Rattle.sqlite.specs.WalFiles.{outcomes}
use Rattle.sqlite.specs.WalReads.{AreClean}
use Rattle.escpos_store.specs.Holds.{StandsIn}
use Rattle.escpos_store.proofs.LeftLemmas.{clean_left, found_reads, kept_stands, reads_stood}
use Rattle.escpos_store.proofs.open.close_until.Goals as goal

pub returns-in-Ok-into_files : goal.returns-in-Ok-into_files
returns-in-Ok-into_files g c = record {
  stays = λ honest entries stood each image may.
      let found = c.in-Ok.ensures.found (c.in-Ok-into_files.ensures.clean honest) in
      found_reads _ image found.0 entries found.2
      (subst₂ (λ l d. StandsIn (record { log = g.D.Disk.seen l; db = g.D.Disk.seen d }) entries) (sym c.new.ensures.inner) (sym c.new-2.ensures.inner) stood)
      (reads_stood image found.0 (kept_stands image found.0 ((c.in-Ok-into_files.ensures.kept honest found.0 found.1).1 image may)));
}

pub returns-in-Err-into_files : goal.returns-in-Err-into_files
returns-in-Err-into_files g c = record {
  stays = λ honest entries stood each image may.
      let found = c.in-Ok.ensures.found (c.in-Err-into_files.ensures.clean honest) in
      found_reads _ image found.0 entries found.2
      (subst₂ (λ l d. StandsIn (record { log = g.D.Disk.seen l; db = g.D.Disk.seen d }) entries) (sym c.new.ensures.inner) (sym c.new-2.ensures.inner) stood)
      ((c.in-Err-into_files.ensures.left honest image may).1 found.0 found.1);
}

pub returns-in-Err : goal.returns-in-Err
returns-in-Err g c = record {
  stays = λ honest entries stood each image may.
      c.in-Err.ensures.stays (clean_left c.in-Err.rest (subst (λ p. AreClean g.D.Disk (inner_of p.0) (inner_of p.1)) c.into_files-in-Err.ensures honest)) entries
      (subst₂ (λ l d. StandsIn (record { log = g.D.Disk.seen l; db = g.D.Disk.seen d }) entries) (sym c.new.ensures.inner) (sym c.new-2.ensures.inner) stood)
      (subst₂ (λ l d. (i : Image) → outcomes g.D.Disk l d i → StandsIn i entries) (sym c.new.ensures.inner) (sym c.new-2.ensures.inner) each)
      image (subst (λ p. outcomes g.D.Disk (inner_of p.0) (inner_of p.1) image) c.into_files-in-Err.ensures may);
}
