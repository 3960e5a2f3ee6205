-- Why a receipt has the key that it came with, where a driver has told its number.
use Rattle.std.proofs.Common.{ℕ, ◌≡◌, ◌+◌, inl, inr, Some, None, List, [], ◌∷◌, ◌++◌, length, refl, sym, ◌∙◌, ap, subst, append_assoc, length-append, arith}
use Rattle.std.proofs.lemmas.List.Elements.{filter_map-append}
use Rattle.escpos_till.specs.declared.book.Book.{Book}
use Rattle.escpos_till.specs.declared.entry.Content.{Content}
use Rattle.escpos_till.specs.declared.entry.Entry.{Entry}
use Rattle.escpos_till.specs.declared.entry.Entry.TheVariants as entry
use Rattle.escpos_till.specs.declared.stage.Stage.{Stage}
use Rattle.escpos_till.specs.declared.stage.Stage.TheVariants as stage
use Rattle.escpos_till.specs.declared.stage.Then.{Then}
use Rattle.escpos_till.specs.declared.stage.Then.TheVariants as then
use Rattle.escpos_till.specs.declared.note.TillNote.{TillNote}
use Rattle.escpos_till.specs.declared.note.TillNote.TheVariants as note_kind
use Rattle.escpos_till.specs.declared.store.StoreFault.{StoreFault}
use Rattle.escpos_till.specs.Book.{IsBookOf}
use Rattle.escpos_till.specs.Driver.{Breaks, Confirms, Deed, DidAll, Ends, Gives, HangsUp, Keeps, Learns, Links, Loses, Misses, Pauses, Puts, RanTo, Tells, Turns}
use Rattle.escpos_till.specs.Learning.{Learned}
use Rattle.escpos_till.specs.Entries.{HasKey, IsLedger, MayFollow, content_of, contents, last_number}
use Rattle.escpos_till.specs.Machine.{Kept, MachineView, Queues, Unsure, after_note, entry_with, lost, told}
use Rattle.escpos_till.proofs.EntryLemmas.{earlier-snoc, last-states, last_same, ledger-snoc}
use Rattle.escpos_till.proofs.KeyLemmas.{has_here}
use Rattle.escpos_till_model.specs.Around.{Around, DoesInTime}

-- The receipt of this key is being taken, or its number is told.
abbrev Takes : List ℕ → List Entry → Book → Stage → Type 0
Takes key kept b (stage.Telling n) = (number : ℕ) → n ≡ note_kind.Queued number → HasKey kept key number
Takes key kept b (stage.Keeping e (then.Take content)) = IsBookOf b kept × IsLedger kept × MayFollow kept e × (e ≡ entry.Key key)
Takes key kept b (stage.Keeping e then.Queued) =
    IsBookOf b kept × IsLedger kept × MayFollow kept e × ((before : List Entry) × (kept ≡ before ++ entry.Key key ∷ [])) × ((content : Content) × (e ≡ entry.Queued content))
Takes key kept b stage.AtRest = Unit {0}
Takes key kept b stage.Failed = Unit {0}
Takes key kept b s = ⊥

takes_at : (key : List ℕ) (kept : List Entry) (b : Book) (s other : Stage) → s ≡ other → Takes key kept b s → Takes key kept b other
takes_at key kept b s other is takes = subst (Takes key kept b) is takes

takes_as : (key : List ℕ) (kept : List Entry) (b : Book) (s other : Stage) → s ≡ other → Takes key kept b other → Takes key kept b s
takes_as key kept b s other is takes = subst (Takes key kept b) (sym is) takes

-- The receipt that comes directly after its key has it.
has_it : (kept before : List Entry) (key : List ℕ) (content : Content) (number : ℕ) → kept ≡ before ++ entry.Key key ∷ [] → number ≡ last_number (kept ++ entry.Queued content ∷ [])
    → HasKey (kept ++ entry.Queued content ∷ []) key number
has_it kept before key content number ends is =
    let e : Entry = entry.Queued content in
    let same : last_number kept ≡ last_number before = ap last_number ends ∙ last_same before (entry.Key key) refl refl in
    let more : length (contents (kept ++ e ∷ [])) ≡ length (contents kept) + 1 = ap length (filter_map-append content_of kept (e ∷ [])) ∙ length-append (contents kept) (content ∷ []) in
    has_here (kept ++ e ∷ []) key number (record {
      before = before;
      content = content;
      following = [];
      entries_are = ap (λ es. es ++ e ∷ []) ends ∙ append_assoc before (entry.Key key ∷ []) (e ∷ []);
      number_is = omega (arith, is, more, earlier-snoc kept e refl, same);
    })

kept_on : (next : Then) (key : List ℕ) (kept : List Entry) (m mid : MachineView) (e : Entry) → Takes key kept m.book (stage.Keeping e next) → Kept (stage.Keeping e next) m mid
    → Takes key (kept ++ e ∷ []) mid.book mid.stage
kept_on (then.Take content) key kept m mid e (book, ledger, follows, is) (notes, (host, at)) =
    takes_as key (kept ++ e ∷ []) mid.book mid.stage _ at
    (notes kept book ledger follows, ledger-snoc kept e ledger follows, tt, (kept, ap (λ x. kept ++ x ∷ []) is), (content, refl))
kept_on then.Queued key kept m mid e (book, ledger, follows, (before, ends), (content, is)) (notes, (number, count, host, at)) =
    takes_as key (kept ++ e ∷ []) mid.book mid.stage _ at (λ k same.
    let known : IsBookOf mid.book (kept ++ e ∷ []) = notes kept book ledger follows in
    let told_so : number ≡ k = cc same in
    let counts : mid.book.earlier + length mid.book.states.items ≡ last_number (kept ++ e ∷ []) = omega (arith, known.earlier, ap length known.states, last-states (kept ++ e ∷ [])) in
    let all : k ≡ last_number (kept ++ entry.Queued content ∷ []) = sym told_so ∙ count ∙ counts ∙ ap (λ x. last_number (kept ++ x ∷ [])) is in
    subst (λ x. HasKey (kept ++ x ∷ []) key k) (sym is) (has_it kept before key content k ends all))
kept_on then.Raised key kept m mid e takes so = absurd takes
kept_on (then.Cancelled number tried) key kept m mid e takes so = absurd takes
kept_on (then.Send due) key kept m mid e takes so = absurd takes
kept_on (then.Recorded number) key kept m mid e takes so = absurd takes
kept_on (then.GoOn number tried due) key kept m mid e takes so = absurd takes
kept_on (then.SendNext number due) key kept m mid e takes so = absurd takes

not_told : (key : List ℕ) (kept : List Entry) (b : Book) (why : StoreFault) → Takes key kept b (stage.Telling (note_kind.NotKept why))
not_told key kept b why number is = absurd (let bad : note_kind.NotKept why ≡ note_kind.Queued number = is in cc)

lost_on : (next : Then) (why : StoreFault) (key : List ℕ) (kept after : List Entry) (b c : Book) (e : Entry) → Takes key kept b (stage.Keeping e next) → Takes key after c (lost next why)
lost_on (then.Take content) why key kept after b c e takes = not_told key after c why
lost_on then.Queued why key kept after b c e takes = not_told key after c why
lost_on then.Raised why key kept after b c e takes = absurd takes
lost_on (then.Cancelled number tried) why key kept after b c e takes = absurd takes
lost_on (then.Send due) why key kept after b c e takes = absurd takes
lost_on (then.Recorded number) why key kept after b c e takes = absurd takes
lost_on (then.GoOn number tried due) why key kept after b c e takes = absurd takes
lost_on (then.SendNext number due) why key kept after b c e takes = absurd takes

told_on : (n : TillNote) (key : List ℕ) (kept : List Entry) (b : Book) → Takes key kept b (after_note n)
told_on (note_kind.Queued number) key kept b = tt
told_on note_kind.Raised key kept b = tt
told_on (note_kind.Cancelled number tried) key kept b = tt
told_on (note_kind.Recorded number) key kept b = tt
told_on (note_kind.NoLink number) key kept b = tt
told_on (note_kind.Waiting number why) key kept b = tt
told_on (note_kind.Paused number why) key kept b = tt
told_on (note_kind.StillPaused number why) key kept b = tt
told_on (note_kind.NotKept why) key kept b = tt

learned_on : (e : Entry) (next : Then) (others : List Entry) (key : List ℕ) (kept after : List Entry) (m mid : MachineView) → Takes key kept m.book (stage.Keeping e next)
    → Learned (stage.Keeping e next) others m mid → Takes key after mid.book mid.stage
learned_on e next others key kept after m mid takes (inr (why, fails)) = takes_as key after mid.book mid.stage (lost next why) fails.2 (lost_on next why key kept after m.book mid.book e takes)
learned_on e (then.Take content) others key kept after m mid takes (inl learns) = absurd learns.2
learned_on e then.Queued others key kept after m mid takes (inl learns) = absurd learns.2
learned_on e then.Raised others key kept after m mid takes (inl learns) = absurd takes
learned_on e (then.Cancelled number tried) others key kept after m mid takes (inl learns) = absurd takes
learned_on e (then.Send due) others key kept after m mid takes (inl learns) = absurd takes
learned_on e (then.Recorded number) others key kept after m mid takes (inl learns) = absurd takes
learned_on e (then.GoOn number tried due) others key kept after m mid takes (inl learns) = absurd takes
learned_on e (then.SendNext number due) others key kept after m mid takes (inl learns) = absurd takes

-- Nothing is kept together with such an entry.
alone : (key : List ℕ) (kept : List Entry) (b : Book) (e f : Entry) (next : Then) → Takes key kept b (stage.Keeping e next) → entry_with next ≡ Some f → ⊥
alone key kept b e f (then.GoOn number tried due) takes with = takes
alone key kept b e f (then.SendNext number due) takes with = takes
alone key kept b e f (then.Recorded number) takes with = takes
alone key kept b e f (then.Send due) takes with = takes
alone key kept b e f then.Raised takes with = takes
alone key kept b e f (then.Cancelled number tried) takes with = takes
alone key kept b e f then.Queued takes with = (let bad : None ≡ Some f = with in cc)
alone key kept b e f (then.Take content) takes with = (let bad : None ≡ Some f = with in cc)

-- It goes on so, deed by deed.
takes_on : (d : Deed) (key : List ℕ) (m mid : MachineView) (a new : Around) → Takes key a.kept m.book m.stage → Turns m d mid → DoesInTime a d new → Takes key new.kept mid.book mid.stage
takes_on (Keeps e None) key m mid a new takes (next, is, kept) did =
    subst (λ es. Takes key es mid.book mid.stage) (sym (ap (λ k. k.kept) did.does)) (kept_on next key a.kept m mid e (takes_at key a.kept m.book m.stage _ is takes) (subst (λ s. Kept s m mid) is kept))
takes_on (Keeps e (Some f)) key m mid a new takes (between, next, is, with, kept, sound, second) did = absurd (alone key a.kept m.book e f next (takes_at key a.kept m.book m.stage _ is takes) with)
takes_on (Loses e and_then why) key m mid a new takes (next, is, goes, unsure) did =
    takes_as key new.kept mid.book mid.stage (lost next why) (subst (λ s. Unsure s why m mid) is unsure).2
    (lost_on next why key a.kept new.kept m.book mid.book e (takes_at key a.kept m.book m.stage _ is takes))
takes_on (Learns others) key m mid a new takes (e, next, is, learned) did =
    learned_on e next others key a.kept new.kept m mid (takes_at key a.kept m.book m.stage _ is takes) (subst (λ s. Learned s others m mid) is learned)
takes_on (Tells n) key m mid a new takes (is, mid_is) did =
    takes_as key new.kept mid.book mid.stage (after_note n) (ap (λ v. v.stage) (mid_is ∙ ap (λ s. told s m) is)) (told_on n key new.kept mid.book)
takes_on Links key m mid a new takes (due, is, mid_is) did = absurd (takes_at key a.kept m.book m.stage _ is takes)
takes_on Misses key m mid a new takes (due, is, mid_is) did = absurd (takes_at key a.kept m.book m.stage _ is takes)
takes_on (Puts bytes) key m mid a new takes (count, next, mid_is) did = absurd (takes_at key a.kept m.book m.stage _ next.talks takes)
takes_on (Breaks bytes why) key m mid a new takes (count, next, ended) did = absurd (takes_at key a.kept m.book m.stage _ next.talks takes)
takes_on (Gives room bytes) key m mid a new takes (waits, within, given) did = absurd (takes_at key a.kept m.book m.stage _ waits.talks takes)
takes_on (Ends why) key m mid a new takes (room, waits, ended) did = absurd (takes_at key a.kept m.book m.stage _ waits.talks takes)
takes_on HangsUp key m mid a new takes (n, is, mid_is) did = absurd (takes_at key a.kept m.book m.stage _ is takes)
takes_on (Pauses number why) key m mid a new takes (talk, is, news, mid_is) did = absurd (takes_at key a.kept m.book m.stage _ is takes)
takes_on (Confirms number) key m mid a new takes (talk, is, recorded, mid_is) did = absurd (takes_at key a.kept m.book m.stage _ is takes)

ends_keyed : (ds : List Deed) (key : List ℕ) (number : ℕ) (m after : MachineView) (a new : Around) → Takes key a.kept m.book m.stage
    → DidAll DoesInTime m a (ds ++ Tells (note_kind.Queued number) ∷ []) after new → HasKey new.kept key number
ends_keyed [] key number m after a new takes (mid, between, turns, sound, did, (is, same)) =
    let has : HasKey a.kept key number = takes_at key a.kept m.book m.stage _ turns.0 takes number refl in
    subst (λ es. HasKey es key number) (sym (ap (λ k. k.kept) (same ∙ did.does))) has
ends_keyed (d ∷ ds) key number m after a new takes (mid, between, turns, sound, did, more) =
    ends_keyed ds key number mid after between new (takes_on d key m mid a between takes turns did) more

begins_keyed : (key : List ℕ) (content : Content) (kept : List Entry) (m asked : MachineView) → IsBookOf m.book kept → IsLedger kept → Queues m content (Some key) asked → Takes key kept asked.book asked.stage
begins_keyed key content kept m asked book ledger queues = elim queues.goes [
  | inl (number, known, is) ↦
      takes_as key kept asked.book asked.stage _ is (λ k same.
      let told_so : number ≡ k = cc same in
      subst (λ n. HasKey kept key n) told_so (known kept book))
  | inr (new, is) ↦ takes_as key kept asked.book asked.stage _ is (queues.book kept book, ledger, new kept book, refl)
]

-- Whoever asks with a key and is told a number: the receipt with this number has the key.
pub keyed_so : (key : List ℕ) (content : Content) (number most : ℕ) (m asked after : MachineView) (a new : Around) → IsBookOf m.book a.kept → IsLedger a.kept → Queues m content (Some key) asked
    → RanTo DoesInTime asked a (note_kind.Queued number) most after new → HasKey new.kept key number
keyed_so key content number most m asked after a new book ledger queues ran =
    ends_keyed ran.before key number asked after a new (begins_keyed key content a.kept m asked book ledger queues) ran.did_all
