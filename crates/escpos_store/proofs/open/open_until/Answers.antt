use Rattle.std.proofs.Common.{sym, subst, subst₂}
use Rattle.sqlite_disk.specs.Fuse.{inner_of}
use Rattle.sqlite.specs.Recovery.{Image}
use Rattle.sqlite.specs.WalFiles.{outcomes}
use Rattle.sqlite.specs.WalReads.{AreClean}
use Rattle.escpos_store.specs.Holds.{StandsIn}
use Rattle.escpos_store.proofs.LeftLemmas.{clean_left, found_stands}
use Rattle.escpos_store.proofs.open.open_until.Goals as goal

pub returns-in-Ok : goal.returns-in-Ok
returns-in-Ok g c = record {
  stays = λ honest entries stood each image may.
      let found = c.in-Ok.ensures.found (c.crash.ensures.clean honest) in
      found_stands _ image found.0 entries found.2
      (subst₂ (λ l d. StandsIn (record { log = g.D.Disk.seen l; db = g.D.Disk.seen d }) entries) (sym c.new.ensures.inner) (sym c.new-2.ensures.inner) stood)
      ((c.crash.ensures.stands honest image may).1 found.0 found.1);
}

pub returns-in-Err : goal.returns-in-Err
returns-in-Err g c = record {
  stays = λ honest entries stood each image may.
      c.in-Err.ensures.stays (clean_left c.in-Err.rest (subst (λ p. AreClean g.D.Disk (inner_of p.0) (inner_of p.1)) c.into_files.ensures honest)) entries
      (subst₂ (λ l d. StandsIn (record { log = g.D.Disk.seen l; db = g.D.Disk.seen d }) entries) (sym c.new.ensures.inner) (sym c.new-2.ensures.inner) stood)
      (subst₂ (λ l d. (i : Image) → outcomes g.D.Disk l d i → StandsIn i entries) (sym c.new.ensures.inner) (sym c.new-2.ensures.inner) each)
      image (subst (λ p. outcomes g.D.Disk (inner_of p.0) (inner_of p.1) image) c.into_files.ensures may);
}
