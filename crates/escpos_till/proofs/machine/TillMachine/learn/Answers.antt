-- Once the others are learned of, the machine is that of all entries.
use Rattle.std.proofs.Common.{◌++◌, sym, subst}
use Rattle.escpos_till.specs.Book.{IsBookOf}
use Rattle.escpos_till.specs.Learning.{NotesAll, Revises}
use Rattle.escpos_till.proofs.LearningLemmas.{fits_revised, ledger_of, stands_then}
use Rattle.escpos_till.proofs.machine.TillMachine.learn.Goals as goal

pub revised-requires-clause-stands : goal.revised-requires-clause-stands
revised-requires-clause-stands c =
    let (entries, book, ledger, fits) = c.requires.fits in
    let inside = subst (λ m. IsBookOf m.book entries) (sym c.self.view_is) book in
    let (follow, noted) = c.in_default.ensures.all entries inside ledger in
    stands_then c.learn.new.book entries c.args.others.now c.args._entry.now c.args.then noted c.in_default.ensures.others fits.0 fits.1

pub invariant_of-self-2 : goal.invariant_of-self-2
invariant_of-self-2 c =
    let (entries, book, ledger, fits) = c.requires.fits in
    let inside = subst (λ m. IsBookOf m.book entries) (sym c.self.view_is) book in
    let (follow, noted) = c.in_default.ensures.all entries inside ledger in
    record {
      entries = entries ++ c.args.others.now;
      book = noted;
      ledger = ledger_of entries c.args.others.now ledger follow;
      fits = fits_revised c.learn.new.book entries c.args.others.now c.args._entry.now c.args.then c.self.inside.host c.revised.new.host c.revised.result noted c.in_default.ensures.others fits.0 fits.1
          (c.in_default.ensures.few (entries ++ c.args.others.now) noted) c.in_default.ensures.room c.revised.ensures;
    }

pub returns-clause-all : goal.returns-clause-all
returns-clause-all c = (
  c.in_default.ensures.others,
  subst (λ m. NotesAll m.book c.args.others.now c.learn.new.book) c.self.view_is c.in_default.ensures.all,
  subst (λ m. Revises c.args.then c.learn.new.book m.host c.revised.new.host c.revised.result) c.self.view_is c.revised.ensures,
)
