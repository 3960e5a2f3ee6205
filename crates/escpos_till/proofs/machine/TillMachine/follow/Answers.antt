-- Once an entry is kept, the machine is that of the entries with it.
use Rattle.std.proofs.Common.{◌<◌, ◌++◌, ◌∷◌, [], ap, length, sym, subst}
use Rattle.escpos_till.specs.Book.{HasRoom, HasTryRoom, IsBookOf}
use Rattle.escpos_till.specs.Machine.{Suits}
use Rattle.escpos_till.proofs.EntryLemmas.{ledger-snoc}
use Rattle.escpos_till.proofs.MachineLemmas.{fits_follows, state_of_taken, suits_nothing_older}
use Rattle.escpos_till.proofs.machine.TillMachine.follow.Goals as goal

pub following-requires : goal.following-requires
following-requires c is =
    let (entries, book, ledger, fits) = c.requires.fits in
    let noted = c.note.ensures.notes entries (subst (λ m. IsBookOf m.book entries) (sym c.self.view_is) book) ledger fits.0 in
    subst (λ n. 0 < n) (sym c.reserve_next.ensures.count) (subst (λ ss. 0 < length ss) (sym noted.states) (state_of_taken entries c.args.entry (subst (λ next. Suits next c.args.entry) is fits.1)))

pub invariant_of-self : goal.invariant_of-self
invariant_of-self c =
    let (entries, book, ledger, fits) = c.requires.fits in
    let inside = subst (λ m. IsBookOf m.book entries) (sym c.self.view_is) book in
    record {
      entries = entries ++ c.args.entry ∷ [];
      book = c.reserve_next.ensures.same (entries ++ c.args.entry ∷ []) (c.note.ensures.notes entries inside ledger fits.0);
      ledger = ledger-snoc entries c.args.entry ledger fits.0;
      fits = fits_follows c.args.self.now.book c.reserve_next.new.book entries c.args.entry c.args.then c.self.inside.host c.self.inside.book.next c.following.new.host c.following.result fits
          (λ none room. c.reserve_next.ensures.kept (c.note.ensures.room none (subst HasRoom (ap (λ m. m.book) (sym c.self.view_is)) room)))
          (λ n tried due m hd next_is entry_is room.
          c.reserve_next.ensures.try_kept n tried due next_is (c.note.ensures.try_room m hd entry_is (subst HasTryRoom (ap (λ m. m.book) (sym c.self.view_is)) room)))
          c.following.ensures;
    }

pub note-requires-clause-key_room : goal.note-requires-clause-key_room
note-requires-clause-key_room c number key is =
    let (entries, book, ledger, fits) = c.requires.fits in
    absurd (suits_nothing_older c.args.then number key (subst (Suits c.args.then) is fits.1))
