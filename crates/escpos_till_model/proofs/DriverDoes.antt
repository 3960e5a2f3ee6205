-- Why what a driver did on a store and over a line is a run of the world's driver: its store has what a crash leaves, a wire did what was
-- done over the line, and its owner was told the notes of its deeds.
use Rattle.std.proofs.Common.{ℕ, ◌≡◌, ◌<◌, ◌⊎◌, inl, inr, Option, List, [], ◌∷◌, ◌++◌, length, refl, sym, ◌∙◌, ap, subst, append_assoc, append-nil}
use Rattle.escpos_host.specs.Machine.{IsSound}
use Rattle.escpos_link.specs.Wire.{WireView}
use Rattle.escpos_till.specs.declared.entry.Entry.{Entry}
use Rattle.escpos_till.specs.declared.stage.Stage.{Stage}
use Rattle.escpos_till.specs.declared.stage.Stage.TheVariants as stage
use Rattle.escpos_till.specs.declared.stage.Then.{Then}
use Rattle.escpos_till.specs.declared.stage.Then.TheVariants as then
use Rattle.escpos_till.specs.declared.note.TillNote.{TillNote}
use Rattle.escpos_till.specs.declared.note.TillNote.TheVariants as note_kind
use Rattle.escpos_till.specs.declared.store.StoreFault.{StoreFault}
use Rattle.escpos_till.specs.declared.surroundings.Surroundings.{Surroundings}
use Rattle.escpos_till.specs.Appending.{added}
use Rattle.escpos_till.proofs.DriverLemmas.{keeps_at}
use Rattle.escpos_till.specs.Driver.{Breaks, Confirms, Deed, DidAll, Ends, Gives, HangsUp, Keeps, Learns, Links, Loses, Misses, Pauses, Puts, RanTo, Tells, Turns}
use Rattle.escpos_till.specs.Machine.{MachineView, Rests, Unsure, after_note, hung_up, lost, told}
use Rattle.escpos_till.specs.Surroundings.{Did}
use Rattle.escpos_till_model.specs.Around.{DoesInTime, HasNoLink, around}
use Rattle.escpos_till_model.specs.Bridge.{AllOnWire, FitsWire, IsFaithful, OnWire, notes_of}
use Rattle.escpos_till_model.specs.Known.{BookMayLag}

-- ## A store that has done what it was asked to had done so before

faithful_before : {S L : Type 0} (faithful : S → Type 0) (holds leaves : S → List Entry → Type 0) (says : S → List Entry → StoreFault → S → Type 0) (did : L → Deed → L → Type 0) (d : Deed) (old new : Surroundings S L)
    → Did faithful holds leaves says did old d new → faithful new.store → faithful old.store
unfolding Did
faithful_before faithful holds leaves says did (Keeps e and_then) old new (appends, line) done = appends.was_faithful done
faithful_before faithful holds leaves says did (Loses e and_then why) old new (may, line) done = may.was_faithful done
faithful_before faithful holds leaves says did (Learns others) old new (takes, line) done = takes.was_faithful done
faithful_before {S} {L} faithful holds leaves says did (Tells n) old new same done = subst (λ (k : Surroundings S L). faithful k.store) same done
faithful_before {S} {L} faithful holds leaves says did (Pauses number why) old new same done = subst (λ (k : Surroundings S L). faithful k.store) same done
faithful_before {S} {L} faithful holds leaves says did (Confirms number) old new same done = subst (λ (k : Surroundings S L). faithful k.store) same done
faithful_before faithful holds leaves says did Links old new (so, stays) done = stays.was_faithful done
faithful_before faithful holds leaves says did Misses old new (so, stays) done = stays.was_faithful done
faithful_before faithful holds leaves says did (Puts bytes) old new (so, stays) done = stays.was_faithful done
faithful_before faithful holds leaves says did (Breaks bytes why) old new (so, stays) done = stays.was_faithful done
faithful_before faithful holds leaves says did (Gives room bytes) old new (so, stays) done = stays.was_faithful done
faithful_before faithful holds leaves says did (Ends why) old new (so, stays) done = stays.was_faithful done
faithful_before faithful holds leaves says did HangsUp old new (so, same) done = subst faithful same done

pub was_faithful : {S L : Type 0} (faithful : S → Type 0) (holds leaves : S → List Entry → Type 0) (says : S → List Entry → StoreFault → S → Type 0) (did : L → Deed → L → Type 0) (ds : List Deed) (m after : MachineView) (old new : Surroundings S L)
    → DidAll (Did faithful holds leaves says did) m old ds after new → faithful new.store → faithful old.store
was_faithful {S} {L} faithful holds leaves says did [] m after old new (is, same) done = subst (λ (k : Surroundings S L). faithful k.store) same done
was_faithful faithful holds leaves says did (d ∷ ds) m after old new (mid, between, turns, sound, first, more) done =
    faithful_before faithful holds leaves says did d old between first (was_faithful faithful holds leaves says did ds mid after between new more done)

-- ## Where a machine has no more to keep

-- It gives its link up, tells its owner something, or rests.
abbrev pub IsEnding : Stage → Type 0
IsEnding stage.AtRest = Unit {0}
IsEnding (stage.HangingUp n) = Unit {0}
IsEnding (stage.Telling n) = Unit {0}
IsEnding stage.Failed = Unit {0}
IsEnding s = ⊥

abbrev IsLast : Deed → Type 0
IsLast HangsUp = Unit {0}
IsLast (Tells n) = Unit {0}
IsLast d = ⊥

ending_at : (s other : Stage) → s ≡ other → IsEnding s → IsEnding other
ending_at s other is ending = subst IsEnding is ending

after_note_ends : (n : TillNote) → IsEnding (after_note n)
after_note_ends (note_kind.Queued number) = tt
after_note_ends note_kind.Raised = tt
after_note_ends (note_kind.Cancelled number tried) = tt
after_note_ends (note_kind.Recorded number) = tt
after_note_ends (note_kind.NoLink number) = tt
after_note_ends (note_kind.Waiting number why) = tt
after_note_ends (note_kind.Paused number why) = tt
after_note_ends (note_kind.StillPaused number why) = tt
after_note_ends (note_kind.NotKept why) = tt

-- From there it only goes on to its end.
pub ends_on : (d : Deed) (m mid : MachineView) → IsEnding m.stage → Turns m d mid → IsLast d × IsEnding mid.stage
ends_on HangsUp m mid ending (n, is, mid_is) =
    (tt, subst IsEnding (sym (ap (λ v. v.stage) (mid_is ∙ ap (λ s. hung_up s m) is))) tt)
ends_on (Tells n) m mid ending (is, mid_is) =
    (tt, subst IsEnding (sym (ap (λ v. v.stage) (mid_is ∙ ap (λ s. told s m) is))) (after_note_ends n))
ends_on (Keeps e and_then) m mid ending turns = absurd (ending_at m.stage _ (keeps_at m mid e and_then turns).1 ending)
ends_on (Loses e and_then why) m mid ending (next, is, goes, unsure) = absurd (ending_at m.stage _ is ending)
ends_on (Learns others) m mid ending (e, next, is, learned) = absurd (ending_at m.stage _ is ending)
ends_on Links m mid ending (due, is, mid_is) = absurd (ending_at m.stage _ is ending)
ends_on Misses m mid ending (due, is, mid_is) = absurd (ending_at m.stage _ is ending)
ends_on (Puts bytes) m mid ending (count, next, mid_is) = absurd (ending_at m.stage _ next.talks ending)
ends_on (Breaks bytes why) m mid ending (count, next, ended) = absurd (ending_at m.stage _ next.talks ending)
ends_on (Gives room bytes) m mid ending (waits, within, given) = absurd (ending_at m.stage _ waits.talks ending)
ends_on (Ends why) m mid ending (room, waits, ended) = absurd (ending_at m.stage _ waits.talks ending)
ends_on (Pauses number why) m mid ending (talk, is, news, mid_is) = absurd (ending_at m.stage _ is ending)
ends_on (Confirms number) m mid ending (talk, is, recorded, mid_is) = absurd (ending_at m.stage _ is ending)

-- After an entry that may be kept or not, its owner is told that; from then on it has failed.
lost_lags : (next : Then) (why : StoreFault) → BookMayLag (lost next why)
lost_lags then.Queued why = tt
lost_lags (then.Take content) why = tt
lost_lags then.Raised why = tt
lost_lags (then.Cancelled number tried) why = tt
lost_lags (then.Send due) why = tt
lost_lags (then.Recorded number) why = tt
lost_lags (then.GoOn number tried due) why = tt
lost_lags (then.SendNext number due) why = tt

pub unsure_lags : (m mid : MachineView) (e : Entry) (and_then : Option Entry) (why : StoreFault) → Turns m (Loses e and_then why) mid → BookMayLag mid.stage
unsure_lags m mid e and_then why (next, is, goes, unsure) = subst BookMayLag (sym (subst (λ s. Unsure s why m mid) is unsure).2) (lost_lags next why)

pub lags_ends : (s : Stage) → BookMayLag s → IsEnding s
lags_ends (stage.HangingUp n) lags = tt
lags_ends (stage.Telling n) lags = tt
lags_ends stage.Failed lags = tt
lags_ends stage.AtRest lags = absurd lags
lags_ends (stage.Connecting due) lags = absurd lags
lags_ends (stage.Keeping e next) lags = absurd lags
lags_ends (stage.Talking talk) lags = absurd lags

hung_lags : (n : TillNote) → BookMayLag (stage.HangingUp n) → BookMayLag (stage.Telling n)
hung_lags (note_kind.NotKept why) lags = tt
hung_lags (note_kind.Queued number) lags = absurd lags
hung_lags note_kind.Raised lags = absurd lags
hung_lags (note_kind.Cancelled number tried) lags = absurd lags
hung_lags (note_kind.Recorded number) lags = absurd lags
hung_lags (note_kind.NoLink number) lags = absurd lags
hung_lags (note_kind.Waiting number why) lags = absurd lags
hung_lags (note_kind.Paused number why) lags = absurd lags
hung_lags (note_kind.StillPaused number why) lags = absurd lags

told_lags : (n : TillNote) → BookMayLag (stage.Telling n) → BookMayLag (after_note n)
told_lags (note_kind.NotKept why) lags = tt
told_lags (note_kind.Queued number) lags = absurd lags
told_lags note_kind.Raised lags = absurd lags
told_lags (note_kind.Cancelled number tried) lags = absurd lags
told_lags (note_kind.Recorded number) lags = absurd lags
told_lags (note_kind.NoLink number) lags = absurd lags
told_lags (note_kind.Waiting number why) lags = absurd lags
told_lags (note_kind.Paused number why) lags = absurd lags
told_lags (note_kind.StillPaused number why) lags = absurd lags

lags_on : (d : Deed) (m mid : MachineView) → BookMayLag m.stage → Turns m d mid → BookMayLag mid.stage
lags_on HangsUp m mid lags (n, is, mid_is) =
    subst BookMayLag (sym (ap (λ v. v.stage) (mid_is ∙ ap (λ s. hung_up s m) is))) (hung_lags n (subst BookMayLag is lags))
lags_on (Tells n) m mid lags (is, mid_is) =
    subst BookMayLag (sym (ap (λ v. v.stage) (mid_is ∙ ap (λ s. told s m) is))) (told_lags n (subst BookMayLag is lags))
lags_on (Keeps e and_then) m mid lags turns = absurd (ends_on (Keeps e and_then) m mid (lags_ends m.stage lags) turns).0
lags_on (Loses e and_then why) m mid lags turns = absurd (ends_on (Loses e and_then why) m mid (lags_ends m.stage lags) turns).0
lags_on (Learns others) m mid lags turns = absurd (ends_on (Learns others) m mid (lags_ends m.stage lags) turns).0
lags_on Links m mid lags turns = absurd (ends_on Links m mid (lags_ends m.stage lags) turns).0
lags_on Misses m mid lags turns = absurd (ends_on Misses m mid (lags_ends m.stage lags) turns).0
lags_on (Puts bytes) m mid lags turns = absurd (ends_on (Puts bytes) m mid (lags_ends m.stage lags) turns).0
lags_on (Breaks bytes why) m mid lags turns = absurd (ends_on (Breaks bytes why) m mid (lags_ends m.stage lags) turns).0
lags_on (Gives room bytes) m mid lags turns = absurd (ends_on (Gives room bytes) m mid (lags_ends m.stage lags) turns).0
lags_on (Ends why) m mid lags turns = absurd (ends_on (Ends why) m mid (lags_ends m.stage lags) turns).0
lags_on (Pauses number why) m mid lags turns = absurd (ends_on (Pauses number why) m mid (lags_ends m.stage lags) turns).0
lags_on (Confirms number) m mid lags turns = absurd (ends_on (Confirms number) m mid (lags_ends m.stage lags) turns).0

lags_all : {D : Type 0} (did : D → Deed → D → Type 0) (ds : List Deed) (m after : MachineView) (old new : D) → BookMayLag m.stage → DidAll did m old ds after new → BookMayLag after.stage
lags_all did [] m after old new lags (is, same) = subst (λ (k : MachineView). BookMayLag k.stage) (sym is) lags
lags_all did (d ∷ ds) m after old new lags (mid, between, turns, sound, first, more) = lags_all did ds mid after between new (lags_on d m mid lags turns) more

-- ## What surrounds a machine, deed by deed

same_around : (left kept : List Entry) (wire w : WireView) (notes : List TillNote) → left ≡ kept → wire ≡ w → around left wire (notes ++ []) ≡ around kept w notes
same_around left kept wire w notes same_kept same_wire =
    ap (λ ns. around left wire ns) (append-nil notes) ∙ ap (λ k. around k wire notes) same_kept ∙ ap (λ v. around kept v notes) same_wire

-- Its owner is told one thing, and then others.
tells_first : (m mid after : MachineView) (kept left : List Entry) (w wire : WireView) (notes : List TillNote) (n : TillNote) (ds : List Deed) → Turns m (Tells n) mid → IsSound mid.host
    → DidAll DoesInTime mid (around kept w (notes ++ n ∷ [])) ds after (around left wire ((notes ++ n ∷ []) ++ notes_of ds))
    → DidAll DoesInTime m (around kept w notes) (Tells n ∷ ds) after (around left wire (notes ++ notes_of (Tells n ∷ ds)))
tells_first m mid after kept left w wire notes n ds turns sound more = (
  mid,
  around kept w (notes ++ n ∷ []),
  turns,
  sound,
  record { events = []; wire = w; goes_on = refl; does = refl },
  subst (λ ns. DidAll DoesInTime mid (around kept w (notes ++ n ∷ [])) ds after (around left wire ns)) (append_assoc notes (n ∷ []) (notes_of ds)) more,
)

-- A machine that has no more to keep leaves its store alone.
ends_alone : {S L : Type 0} (faithful : S → Type 0) (holds leaves : S → List Entry → Type 0) (says : S → List Entry → StoreFault → S → Type 0) (did : L → Deed → L → Type 0) (ds : List Deed) (m after : MachineView) (old new : Surroundings S L) → IsEnding m.stage
    → DidAll (Did faithful holds leaves says did) m old ds after new → new.store ≡ old.store
unfolding Did
ends_alone {S} {L} faithful holds leaves says did [] m after old new ending (is, same) = ap (λ (k : Surroundings S L). k.store) same
ends_alone faithful holds leaves says did (HangsUp ∷ ds) m after old new ending (mid, between, turns, sound, (so, same), more) =
    ends_alone faithful holds leaves says did ds mid after between new (ends_on HangsUp m mid ending turns).1 more ∙ same
ends_alone {S} {L} faithful holds leaves says did (Tells n ∷ ds) m after old new ending (mid, between, turns, sound, same, more) =
    ends_alone faithful holds leaves says did ds mid after between new (ends_on (Tells n) m mid ending turns).1 more ∙ ap (λ (k : Surroundings S L). k.store) same
ends_alone faithful holds leaves says did (Keeps e and_then ∷ ds) m after old new ending (mid, between, turns, sound, first, more) = absurd (ends_on (Keeps e and_then) m mid ending turns).0
ends_alone faithful holds leaves says did (Loses e and_then why ∷ ds) m after old new ending (mid, between, turns, sound, first, more) = absurd (ends_on (Loses e and_then why) m mid ending turns).0
ends_alone faithful holds leaves says did (Learns others ∷ ds) m after old new ending (mid, between, turns, sound, first, more) = absurd (ends_on (Learns others) m mid ending turns).0
ends_alone faithful holds leaves says did (Links ∷ ds) m after old new ending (mid, between, turns, sound, first, more) = absurd (ends_on Links m mid ending turns).0
ends_alone faithful holds leaves says did (Misses ∷ ds) m after old new ending (mid, between, turns, sound, first, more) = absurd (ends_on Misses m mid ending turns).0
ends_alone faithful holds leaves says did (Puts bytes ∷ ds) m after old new ending (mid, between, turns, sound, first, more) = absurd (ends_on (Puts bytes) m mid ending turns).0
ends_alone faithful holds leaves says did (Breaks bytes why ∷ ds) m after old new ending (mid, between, turns, sound, first, more) = absurd (ends_on (Breaks bytes why) m mid ending turns).0
ends_alone faithful holds leaves says did (Gives room bytes ∷ ds) m after old new ending (mid, between, turns, sound, first, more) = absurd (ends_on (Gives room bytes) m mid ending turns).0
ends_alone faithful holds leaves says did (Ends why ∷ ds) m after old new ending (mid, between, turns, sound, first, more) = absurd (ends_on (Ends why) m mid ending turns).0
ends_alone faithful holds leaves says did (Pauses number why ∷ ds) m after old new ending (mid, between, turns, sound, first, more) = absurd (ends_on (Pauses number why) m mid ending turns).0
ends_alone faithful holds leaves says did (Confirms number ∷ ds) m after old new ending (mid, between, turns, sound, first, more) = absurd (ends_on (Confirms number) m mid ending turns).0

-- Whatever its store has, it has that to the end.
ends_all : {D : Type 0} (ds : List Deed) (m after : MachineView) (left : List Entry) (w wire : WireView) (notes : List TillNote) → IsEnding m.stage → (did : D → Deed → D → Type 0) (old new : D) → DidAll did m old ds after new
    → AllOnWire w ds wire → DidAll DoesInTime m (around left w notes) ds after (around left wire (notes ++ notes_of ds))
ends_all [] m after left w wire notes ending did old new (is, same) on = (is, same_around left left wire w notes refl on)
ends_all (HangsUp ∷ ds) m after left w wire notes ending did old new (mid, between, turns, sound, first, more) (there, on, rest) =
    (mid, around left there notes, turns, sound, on left notes, ends_all ds mid after left there wire notes (ends_on HangsUp m mid ending turns).1 did between new more rest)
ends_all (Tells n ∷ ds) m after left w wire notes ending did old new (mid, between, turns, sound, first, more) on =
    tells_first m mid after left left w wire notes n ds turns sound (ends_all ds mid after left w wire (notes ++ n ∷ []) (ends_on (Tells n) m mid ending turns).1 did between new more on)
ends_all (Keeps e and_then ∷ ds) m after left w wire notes ending did old new (mid, between, turns, sound, first, more) on = absurd (ends_on (Keeps e and_then) m mid ending turns).0
ends_all (Loses e and_then why ∷ ds) m after left w wire notes ending did old new (mid, between, turns, sound, first, more) on = absurd (ends_on (Loses e and_then why) m mid ending turns).0
ends_all (Links ∷ ds) m after left w wire notes ending did old new (mid, between, turns, sound, first, more) on = absurd (ends_on Links m mid ending turns).0
ends_all (Learns others ∷ ds) m after left w wire notes ending did old new (mid, between, turns, sound, first, more) on = absurd (ends_on (Learns others) m mid ending turns).0
ends_all (Misses ∷ ds) m after left w wire notes ending did old new (mid, between, turns, sound, first, more) on = absurd (ends_on Misses m mid ending turns).0
ends_all (Puts bytes ∷ ds) m after left w wire notes ending did old new (mid, between, turns, sound, first, more) on = absurd (ends_on (Puts bytes) m mid ending turns).0
ends_all (Breaks bytes why ∷ ds) m after left w wire notes ending did old new (mid, between, turns, sound, first, more) on = absurd (ends_on (Breaks bytes why) m mid ending turns).0
ends_all (Gives room bytes ∷ ds) m after left w wire notes ending did old new (mid, between, turns, sound, first, more) on = absurd (ends_on (Gives room bytes) m mid ending turns).0
ends_all (Ends why ∷ ds) m after left w wire notes ending did old new (mid, between, turns, sound, first, more) on = absurd (ends_on (Ends why) m mid ending turns).0
ends_all (Pauses number why ∷ ds) m after left w wire notes ending did old new (mid, between, turns, sound, first, more) on = absurd (ends_on (Pauses number why) m mid ending turns).0
ends_all (Confirms number ∷ ds) m after left w wire notes ending did old new (mid, between, turns, sound, first, more) on = absurd (ends_on (Confirms number) m mid ending turns).0

-- The store couldn't tell whether it has the entry: what a crash leaves says it.
loses_so : (kept left : List Entry) (e : Entry) (and_then : Option Entry) (why : StoreFault) (w : WireView) (notes : List TillNote) → (left ≡ kept) ⊎ (left ≡ kept ++ added e and_then)
    → DoesInTime (around kept w notes) (Loses e and_then why) (around left w notes)
loses_so kept left e and_then why w notes (inl is) = record { events = []; wire = w; goes_on = refl; does = inl (ap (λ k. around k w notes) is) }
loses_so kept left e and_then why w notes (inr is) = record { events = []; wire = w; goes_on = refl; does = inr (ap (λ k. around k w notes) is) }

-- ## A whole run

-- This holds of the entries that the store holds at the end. Or it is of those that a crash may leave, where the store couldn't tell whether it
-- has the last one; then its owner is told so, or has been told.
abbrev EndsWith : {S : Type 0} → (S → List Entry → Type 0) → (S → List Entry → Type 0) → S → Stage → (List Entry → Type 0) → Type 0
EndsWith holds leaves s last Holds =
    ((entries : List Entry) × holds s entries × Holds entries) ⊎ (BookMayLag last × ((left : List Entry) → leaves s left → Holds left))

ends_so : {S : Type 0} (holds leaves : S → List Entry → Type 0) (s : S) (last : Stage) (Holds Others : List Entry → Type 0) → ((entries : List Entry) → Holds entries → Others entries)
    → EndsWith holds leaves s last Holds → EndsWith holds leaves s last Others
ends_so holds leaves s last Holds Others so (inl (entries, held, it)) = inl (entries, held, so entries it)
ends_so holds leaves s last Holds Others so (inr (lags, it)) = inr (lags, λ left may. so left (it left may))

-- What a run is in the world, if its store has these entries at the end.
abbrev Goes : MachineView → List Entry → WireView → List TillNote → List Deed → MachineView → WireView → List Entry → Type 0
Goes m kept w notes ds after wire entries = DidAll DoesInTime m (around kept w notes) ds after (around entries wire (notes ++ notes_of ds))

-- A deed of the line's, and then the others.
over_line : {S : Type 0} (holds leaves : S → List Entry → Type 0) (s : S) (d : Deed) (ds : List Deed) (m mid after : MachineView) (kept : List Entry) (w there wire : WireView) (notes : List TillNote)
    → notes_of (d ∷ ds) ≡ notes_of ds → Turns m d mid → IsSound mid.host → OnWire w d there → EndsWith holds leaves s after.stage (Goes mid kept there notes ds after wire)
    → EndsWith holds leaves s after.stage (Goes m kept w notes (d ∷ ds) after wire)
over_line holds leaves s d ds m mid after kept w there wire notes none turns sound on ends =
    ends_so holds leaves s after.stage (Goes mid kept there notes ds after wire) (Goes m kept w notes (d ∷ ds) after wire)
    (λ entries goes. (
      mid,
      around kept there notes,
      turns,
      sound,
      on kept notes,
      subst (λ ns. DidAll DoesInTime mid (around kept there notes) ds after (around entries wire (notes ++ ns))) (sym none) goes,
    )) ends

goes_all : {S L : Type 0} (faithful : S → Type 0) (holds leaves : S → List Entry → Type 0) (says : S → List Entry → StoreFault → S → Type 0) (did : L → Deed → L → Type 0) (ds : List Deed) (m after : MachineView) (old new : Surroundings S L) (kept : List Entry)
    (w wire : WireView) (notes : List TillNote) → DidAll (Did faithful holds leaves says did) m old ds after new → faithful new.store → holds old.store kept → AllOnWire w ds wire
    → EndsWith holds leaves new.store after.stage (Goes m kept w notes ds after wire)
unfolding Did
goes_all {S} {L} faithful holds leaves says did [] m after old new kept w wire notes (is, same) done held on =
    inl (kept, subst (λ (k : Surroundings S L). holds k.store kept) (sym same) held, (is, same_around kept kept wire w notes refl on))
goes_all faithful holds leaves says did (Keeps e and_then ∷ ds) m after old new kept w wire notes (mid, between, turns, sound, (appends, line), more) done held on =
    let held_more = appends.kept (was_faithful faithful holds leaves says did ds mid after between new more done) kept held in
    ends_so holds leaves new.store after.stage (Goes mid (kept ++ added e and_then) w notes ds after wire) (Goes m kept w notes (Keeps e and_then ∷ ds) after wire)
    (λ entries goes. (mid, around (kept ++ added e and_then) w notes, turns, sound, record { events = []; wire = w; goes_on = refl; does = refl }, goes))
    (goes_all faithful holds leaves says did ds mid after between new (kept ++ added e and_then) w wire notes more done held_more on)
goes_all {S} {L} faithful holds leaves says did (Loses e and_then why ∷ ds) m after old new kept w wire notes (mid, between, turns, sound, (appends, line), more) done held on =
    let lags = unsure_lags m mid e and_then why turns in
    let stays = ends_alone faithful holds leaves says did ds mid after between new (lags_ends mid.stage lags) more in
    inr (
      lags_all (Did faithful holds leaves says did) ds mid after between new lags more,
      λ left may.
          let so = appends.kept_or_not (subst faithful stays done) kept left held (subst (λ s. leaves s left) stays may) in
          (mid, around left w notes, turns, sound, loses_so kept left e and_then why w notes so, ends_all ds mid after left w wire notes (lags_ends mid.stage lags) (Did faithful holds leaves says did) between new more on),
    )
goes_all faithful holds leaves says did (Learns others ∷ ds) m after old new kept w wire notes (mid, between, turns, sound, (takes, line), more) done held on =
    let (added, held_more) = takes.took (was_faithful faithful holds leaves says did ds mid after between new more done) kept held in
    ends_so holds leaves new.store after.stage (Goes mid (kept ++ others) w notes ds after wire) (Goes m kept w notes (Learns others ∷ ds) after wire)
    (λ entries goes. (mid, around (kept ++ others) w notes, turns, sound, record { events = []; wire = w; goes_on = refl; does = (added, refl) }, goes))
    (goes_all faithful holds leaves says did ds mid after between new (kept ++ others) w wire notes more done held_more on)
goes_all {S} {L} faithful holds leaves says did (Pauses number why ∷ ds) m after old new kept w wire notes (mid, between, turns, sound, same, more) done held on =
    ends_so holds leaves new.store after.stage (Goes mid kept w notes ds after wire) (Goes m kept w notes (Pauses number why ∷ ds) after wire)
    (λ entries goes. (mid, around kept w notes, turns, sound, record { events = []; wire = w; goes_on = refl; does = refl }, goes))
    (goes_all faithful holds leaves says did ds mid after between new kept w wire notes more done (subst (λ (k : Surroundings S L). holds k.store kept) (sym same) held) on)
goes_all {S} {L} faithful holds leaves says did (Confirms number ∷ ds) m after old new kept w wire notes (mid, between, turns, sound, same, more) done held on =
    ends_so holds leaves new.store after.stage (Goes mid kept w notes ds after wire) (Goes m kept w notes (Confirms number ∷ ds) after wire)
    (λ entries goes. (mid, around kept w notes, turns, sound, record { events = []; wire = w; goes_on = refl; does = refl }, goes))
    (goes_all faithful holds leaves says did ds mid after between new kept w wire notes more done (subst (λ (k : Surroundings S L). holds k.store kept) (sym same) held) on)
goes_all {S} {L} faithful holds leaves says did (Tells n ∷ ds) m after old new kept w wire notes (mid, between, turns, sound, same, more) done held on =
    ends_so holds leaves new.store after.stage (Goes mid kept w (notes ++ n ∷ []) ds after wire) (Goes m kept w notes (Tells n ∷ ds) after wire)
    (λ entries goes. tells_first m mid after kept entries w wire notes n ds turns sound goes)
    (goes_all faithful holds leaves says did ds mid after between new kept w wire (notes ++ n ∷ []) more done (subst (λ (k : Surroundings S L). holds k.store kept) (sym same) held) on)
goes_all faithful holds leaves says did (Links ∷ ds) m after old new kept w wire notes (mid, between, turns, sound, (so, stays), more) done held (there, on, rest) =
    over_line holds leaves new.store Links ds m mid after kept w there wire notes refl turns sound on
    (goes_all faithful holds leaves says did ds mid after between new kept there wire notes more done (stays.held (was_faithful faithful holds leaves says did ds mid after between new more done) kept held) rest)
goes_all faithful holds leaves says did (Misses ∷ ds) m after old new kept w wire notes (mid, between, turns, sound, (so, stays), more) done held (there, on, rest) =
    over_line holds leaves new.store Misses ds m mid after kept w there wire notes refl turns sound on
    (goes_all faithful holds leaves says did ds mid after between new kept there wire notes more done (stays.held (was_faithful faithful holds leaves says did ds mid after between new more done) kept held) rest)
goes_all faithful holds leaves says did (Puts bytes ∷ ds) m after old new kept w wire notes (mid, between, turns, sound, (so, stays), more) done held (there, on, rest) =
    over_line holds leaves new.store (Puts bytes) ds m mid after kept w there wire notes refl turns sound on
    (goes_all faithful holds leaves says did ds mid after between new kept there wire notes more done (stays.held (was_faithful faithful holds leaves says did ds mid after between new more done) kept held) rest)
goes_all faithful holds leaves says did (Breaks bytes why ∷ ds) m after old new kept w wire notes (mid, between, turns, sound, (so, stays), more) done held (there, on, rest) =
    over_line holds leaves new.store (Breaks bytes why) ds m mid after kept w there wire notes refl turns sound on
    (goes_all faithful holds leaves says did ds mid after between new kept there wire notes more done (stays.held (was_faithful faithful holds leaves says did ds mid after between new more done) kept held) rest)
goes_all faithful holds leaves says did (Gives room bytes ∷ ds) m after old new kept w wire notes (mid, between, turns, sound, (so, stays), more) done held (there, on, rest) =
    over_line holds leaves new.store (Gives room bytes) ds m mid after kept w there wire notes refl turns sound on
    (goes_all faithful holds leaves says did ds mid after between new kept there wire notes more done (stays.held (was_faithful faithful holds leaves says did ds mid after between new more done) kept held) rest)
goes_all faithful holds leaves says did (Ends why ∷ ds) m after old new kept w wire notes (mid, between, turns, sound, (so, stays), more) done held (there, on, rest) =
    over_line holds leaves new.store (Ends why) ds m mid after kept w there wire notes refl turns sound on
    (goes_all faithful holds leaves says did ds mid after between new kept there wire notes more done (stays.held (was_faithful faithful holds leaves says did ds mid after between new more done) kept held) rest)
goes_all faithful holds leaves says did (HangsUp ∷ ds) m after old new kept w wire notes (mid, between, turns, sound, (so, same), more) done held (there, on, rest) =
    over_line holds leaves new.store HangsUp ds m mid after kept w there wire notes refl turns sound on
    (goes_all faithful holds leaves says did ds mid after between new kept there wire notes more done (subst (λ s. holds s kept) (sym same) held) rest)

-- What a store holds outlives a crash, once more.
abbrev pub Outlives : {S : Type 0} → (S → Type 0) → (S → List Entry → Type 0) → (S → List Entry → Type 0) → (S → List Entry → StoreFault → S → Type 0) → Type 0
Outlives {S} faithful holds leaves says = (s : S) (entries left : List Entry) → faithful s → holds s entries → leaves s left → left ≡ entries

-- With what a crash leaves.
with_left : {S : Type 0} (faithful : S → Type 0) (holds leaves : S → List Entry → Type 0) (says : S → List Entry → StoreFault → S → Type 0) (s : S) (last : Stage) (Holds : List Entry → Type 0) (left : List Entry) → Outlives faithful holds leaves says → faithful s
    → leaves s left → EndsWith holds leaves s last Holds → Holds left
with_left faithful holds leaves says s last Holds left outlives done may (inl (entries, held, it)) = subst Holds (sym (outlives s entries left done held may)) it
with_left faithful holds leaves says s last Holds left outlives done may (inr (lags, it)) = it left may

-- With what the store holds.
with_held : {S : Type 0} (holds leaves : S → List Entry → Type 0) (s : S) (last : Stage) (Holds : List Entry → Type 0) → (BookMayLag last → ⊥) → EndsWith holds leaves s last Holds
    → (entries : List Entry) × holds s entries × Holds entries
with_held holds leaves s last Holds never (inl it) = it
with_held holds leaves s last Holds never (inr (lags, it)) = absurd (never lags)

pub does_all : {S L : Type 0} (faithful : S → Type 0) (holds leaves : S → List Entry → Type 0) (says : S → List Entry → StoreFault → S → Type 0) (did : L → Deed → L → Type 0) → Outlives faithful holds leaves says
    → (ds : List Deed) (m after : MachineView) (old new : Surroundings S L) (kept left : List Entry) (w wire : WireView) (notes : List TillNote)
    → DidAll (Did faithful holds leaves says did) m old ds after new → IsFaithful faithful holds old.store kept new.store → leaves new.store left → AllOnWire w ds wire
    → DidAll DoesInTime m (around kept w notes) ds after (around left wire (notes ++ notes_of ds))
does_all faithful holds leaves says did outlives ds m after old new kept left w wire notes all so may on =
    with_left faithful holds leaves says new.store after.stage (Goes m kept w notes ds after wire) left outlives so.done may
    (goes_all faithful holds leaves says did ds m after old new kept w wire notes all so.done so.held on)

pub holds_all : {S L : Type 0} (faithful : S → Type 0) (holds leaves : S → List Entry → Type 0) (says : S → List Entry → StoreFault → S → Type 0) (did : L → Deed → L → Type 0) (ds : List Deed) (m after : MachineView) (old new : Surroundings S L) (kept : List Entry)
    (w wire : WireView) (notes : List TillNote) → DidAll (Did faithful holds leaves says did) m old ds after new → IsFaithful faithful holds old.store kept new.store → (BookMayLag after.stage → ⊥) → AllOnWire w ds wire
    → (entries : List Entry) × holds new.store entries × DidAll DoesInTime m (around kept w notes) ds after (around entries wire (notes ++ notes_of ds))
holds_all faithful holds leaves says did ds m after old new kept w wire notes all so never on =
    with_held holds leaves new.store after.stage (Goes m kept w notes ds after wire) never (goes_all faithful holds leaves says did ds m after old new kept w wire notes all so.done so.held on)

-- ## A line that is like a wire

pub fits_all : {S L : Type 0} (faithful : S → Type 0) (holds leaves : S → List Entry → Type 0) (says : S → List Entry → StoreFault → S → Type 0) (did : L → Deed → L → Type 0) (fits : L → WireView → Type 0) → FitsWire did fits
    → (ds : List Deed) (m after : MachineView) (old new : Surroundings S L) (w : WireView) → DidAll (Did faithful holds leaves says did) m old ds after new → fits old.line w
    → (wire : WireView) × AllOnWire w ds wire × fits new.line wire
unfolding Did
fits_all {S} {L} faithful holds leaves says did fits does [] m after old new w (is, same) like = (w, refl, subst (λ (k : Surroundings S L). fits k.line w) (sym same) like)
fits_all faithful holds leaves says did fits does (Keeps e and_then ∷ ds) m after old new w (mid, between, turns, sound, (appends, same), more) like =
    fits_all faithful holds leaves says did fits does ds mid after between new w more (subst (λ l. fits l w) (sym same) like)
fits_all faithful holds leaves says did fits does (Learns others ∷ ds) m after old new w (mid, between, turns, sound, (takes, same), more) like =
    fits_all faithful holds leaves says did fits does ds mid after between new w more (subst (λ l. fits l w) (sym same) like)
fits_all faithful holds leaves says did fits does (Loses e and_then why ∷ ds) m after old new w (mid, between, turns, sound, (appends, same), more) like =
    fits_all faithful holds leaves says did fits does ds mid after between new w more (subst (λ l. fits l w) (sym same) like)
fits_all {S} {L} faithful holds leaves says did fits does (Pauses number why ∷ ds) m after old new w (mid, between, turns, sound, same, more) like =
    fits_all faithful holds leaves says did fits does ds mid after between new w more (subst (λ (k : Surroundings S L). fits k.line w) (sym same) like)
fits_all {S} {L} faithful holds leaves says did fits does (Confirms number ∷ ds) m after old new w (mid, between, turns, sound, same, more) like =
    fits_all faithful holds leaves says did fits does ds mid after between new w more (subst (λ (k : Surroundings S L). fits k.line w) (sym same) like)
fits_all {S} {L} faithful holds leaves says did fits does (Tells n ∷ ds) m after old new w (mid, between, turns, sound, same, more) like =
    fits_all faithful holds leaves says did fits does ds mid after between new w more (subst (λ (k : Surroundings S L). fits k.line w) (sym same) like)
fits_all faithful holds leaves says did fits does (Links ∷ ds) m after old new w (mid, between, turns, sound, (so, same), more) like =
    let (there, on, near) = does old.line between.line Links w tt so like in
    let (wire, rest, at_end) = fits_all faithful holds leaves says did fits does ds mid after between new there more near in
    (wire, (there, on, rest), at_end)
fits_all faithful holds leaves says did fits does (Misses ∷ ds) m after old new w (mid, between, turns, sound, (so, same), more) like =
    let (there, on, near) = does old.line between.line Misses w tt so like in
    let (wire, rest, at_end) = fits_all faithful holds leaves says did fits does ds mid after between new there more near in
    (wire, (there, on, rest), at_end)
fits_all faithful holds leaves says did fits does (Puts bytes ∷ ds) m after old new w (mid, between, turns, sound, (so, same), more) like =
    let (there, on, near) = does old.line between.line (Puts bytes) w tt so like in
    let (wire, rest, at_end) = fits_all faithful holds leaves says did fits does ds mid after between new there more near in
    (wire, (there, on, rest), at_end)
fits_all faithful holds leaves says did fits does (Breaks bytes why ∷ ds) m after old new w (mid, between, turns, sound, (so, same), more) like =
    let (there, on, near) = does old.line between.line (Breaks bytes why) w tt so like in
    let (wire, rest, at_end) = fits_all faithful holds leaves says did fits does ds mid after between new there more near in
    (wire, (there, on, rest), at_end)
fits_all faithful holds leaves says did fits does (Gives room bytes ∷ ds) m after old new w (mid, between, turns, sound, (so, same), more) like =
    let (there, on, near) = does old.line between.line (Gives room bytes) w tt so like in
    let (wire, rest, at_end) = fits_all faithful holds leaves says did fits does ds mid after between new there more near in
    (wire, (there, on, rest), at_end)
fits_all faithful holds leaves says did fits does (Ends why ∷ ds) m after old new w (mid, between, turns, sound, (so, same), more) like =
    let (there, on, near) = does old.line between.line (Ends why) w tt so like in
    let (wire, rest, at_end) = fits_all faithful holds leaves says did fits does ds mid after between new there more near in
    (wire, (there, on, rest), at_end)
fits_all faithful holds leaves says did fits does (HangsUp ∷ ds) m after old new w (mid, between, turns, sound, (so, same), more) like =
    let (there, on, near) = does old.line between.line HangsUp w tt so like in
    let (wire, rest, at_end) = fits_all faithful holds leaves says did fits does ds mid after between new there more near in
    (wire, (there, on, rest), at_end)

-- ## A run at whose end the owner is told

-- A machine at rest asks for nothing.
rests_so : (s other : Stage) → s ≡ other → Rests s → Rests other
rests_so s other is rests = subst Rests is rests

no_turn : (d : Deed) (m mid : MachineView) → Rests m.stage → Turns m d mid → ⊥
no_turn (Keeps e and_then) m mid rests turns = rests_so m.stage _ (keeps_at m mid e and_then turns).1 rests
no_turn (Loses e and_then why) m mid rests (next, is, goes, unsure) = rests_so m.stage _ is rests
no_turn (Learns others) m mid rests (e, next, is, learned) = rests_so m.stage _ is rests
no_turn Links m mid rests (due, is, mid_is) = rests_so m.stage _ is rests
no_turn Misses m mid rests (due, is, mid_is) = rests_so m.stage _ is rests
no_turn (Puts bytes) m mid rests (count, next, mid_is) = rests_so m.stage _ next.talks rests
no_turn (Breaks bytes why) m mid rests (count, next, ended) = rests_so m.stage _ next.talks rests
no_turn (Gives room bytes) m mid rests (waits, within, given) = rests_so m.stage _ waits.talks rests
no_turn (Ends why) m mid rests (room, waits, ended) = rests_so m.stage _ waits.talks rests
no_turn HangsUp m mid rests (n, is, mid_is) = rests_so m.stage _ is rests
no_turn (Pauses number why) m mid rests (talk, is, news, mid_is) = rests_so m.stage _ is rests
no_turn (Confirms number) m mid rests (talk, is, recorded, mid_is) = rests_so m.stage _ is rests
no_turn (Tells n) m mid rests (is, mid_is) = rests_so m.stage _ is rests

after_note_rests : (n : TillNote) → Rests (after_note n)
after_note_rests (note_kind.Queued number) = tt
after_note_rests note_kind.Raised = tt
after_note_rests (note_kind.Cancelled number tried) = tt
after_note_rests (note_kind.Recorded number) = tt
after_note_rests (note_kind.NoLink number) = tt
after_note_rests (note_kind.Waiting number why) = tt
after_note_rests (note_kind.Paused number why) = tt
after_note_rests (note_kind.StillPaused number why) = tt
after_note_rests (note_kind.NotKept why) = tt

pub rests_no_link : (s : Stage) → Rests s → HasNoLink s
rests_no_link stage.AtRest rests = tt
rests_no_link stage.Failed rests = tt
rests_no_link (stage.Connecting due) rests = absurd rests
rests_no_link (stage.Keeping e next) rests = absurd rests
rests_no_link (stage.Talking talk) rests = absurd rests
rests_no_link (stage.HangingUp n) rests = absurd rests
rests_no_link (stage.Telling n) rests = absurd rests

told_stage : (m mid : MachineView) (n : TillNote) → Turns m (Tells n) mid → mid.stage ≡ after_note n
told_stage m mid n (is, mid_is) = ap (λ v. v.stage) (mid_is ∙ ap (λ s. told s m) is)

no_more : {D : Type 0} (did : D → Deed → D → Type 0) (ds : List Deed) (n : TillNote) (m after : MachineView) (old new : D) → Rests m.stage → DidAll did m old (ds ++ Tells n ∷ []) after new → ⊥
no_more did [] n m after old new rests (mid, between, turns, sound, first, more) = no_turn (Tells n) m mid rests turns
no_more did (d ∷ ds) n m after old new rests (mid, between, turns, sound, first, more) = no_turn d m mid rests turns

-- Its owner is told this, and nothing else.
pub one_note : {D : Type 0} (did : D → Deed → D → Type 0) (ds : List Deed) (n : TillNote) (m after : MachineView) (old new : D) → DidAll did m old (ds ++ Tells n ∷ []) after new
    → notes_of (ds ++ Tells n ∷ []) ≡ n ∷ []
one_note did [] n m after old new all = refl
one_note did (Tells x ∷ ds) n m after old new (mid, between, turns, sound, first, more) = absurd (no_more did ds n mid after between new (subst Rests (sym (told_stage m mid x turns)) (after_note_rests x)) more)
one_note did (Keeps e and_then ∷ ds) n m after old new (mid, between, turns, sound, first, more) = one_note did ds n mid after between new more
one_note did (Learns others ∷ ds) n m after old new (mid, between, turns, sound, first, more) = one_note did ds n mid after between new more
one_note did (Loses e and_then why ∷ ds) n m after old new (mid, between, turns, sound, first, more) = one_note did ds n mid after between new more
one_note did (Links ∷ ds) n m after old new (mid, between, turns, sound, first, more) = one_note did ds n mid after between new more
one_note did (Misses ∷ ds) n m after old new (mid, between, turns, sound, first, more) = one_note did ds n mid after between new more
one_note did (Puts bytes ∷ ds) n m after old new (mid, between, turns, sound, first, more) = one_note did ds n mid after between new more
one_note did (Breaks bytes why ∷ ds) n m after old new (mid, between, turns, sound, first, more) = one_note did ds n mid after between new more
one_note did (Gives room bytes ∷ ds) n m after old new (mid, between, turns, sound, first, more) = one_note did ds n mid after between new more
one_note did (Ends why ∷ ds) n m after old new (mid, between, turns, sound, first, more) = one_note did ds n mid after between new more
one_note did (Pauses number why ∷ ds) n m after old new (mid, between, turns, sound, first, more) = one_note did ds n mid after between new more
one_note did (Confirms number ∷ ds) n m after old new (mid, between, turns, sound, first, more) = one_note did ds n mid after between new more
one_note did (HangsUp ∷ ds) n m after old new (mid, between, turns, sound, first, more) = one_note did ds n mid after between new more

-- At its end the machine rests: it is at rest, or has failed.
pub stage_at_end : {D : Type 0} (did : D → Deed → D → Type 0) (ds : List Deed) (n : TillNote) (m after : MachineView) (old new : D) → DidAll did m old (ds ++ Tells n ∷ []) after new → after.stage ≡ after_note n
stage_at_end did [] n m after old new (mid, between, turns, sound, first, (is, same)) = ap (λ v. v.stage) is ∙ told_stage m mid n turns
stage_at_end did (d ∷ ds) n m after old new (mid, between, turns, sound, first, more) = stage_at_end did ds n mid after between new more

pub rests_at_end : {D : Type 0} (did : D → Deed → D → Type 0) (ds : List Deed) (n : TillNote) (m after : MachineView) (old new : D) → DidAll did m old (ds ++ Tells n ∷ []) after new → Rests after.stage
rests_at_end did ds n m after old new all = subst Rests (sym (stage_at_end did ds n m after old new all)) (after_note_rests n)

-- The run has one note, whatever was told before.
run_to : (m after : MachineView) (kept entries : List Entry) (w wire : WireView) (notes : List TillNote) (before : List Deed) (n : TillNote) (most : ℕ) → length before < most → notes_of (before ++ Tells n ∷ []) ≡ n ∷ []
    → DidAll DoesInTime m (around kept w notes) (before ++ Tells n ∷ []) after (around entries wire (notes ++ notes_of (before ++ Tells n ∷ [])))
    → RanTo DoesInTime m (around kept w notes) n most after (around entries wire (notes ++ n ∷ []))
run_to m after kept entries w wire notes before n most few one all = record {
  before = before;
  did_all = subst (λ ns. DidAll DoesInTime m (around kept w notes) (before ++ Tells n ∷ []) after (around entries wire (notes ++ ns))) one all;
  turns = few;
}

pub does_to : {S L : Type 0} (faithful : S → Type 0) (holds leaves : S → List Entry → Type 0) (says : S → List Entry → StoreFault → S → Type 0) (did : L → Deed → L → Type 0) → Outlives faithful holds leaves says
    → (m after : MachineView) (old new : Surroundings S L) (n : TillNote) (most : ℕ) (ran : RanTo (Did faithful holds leaves says did) m old n most after new) (kept left : List Entry) (w wire : WireView) (notes : List TillNote)
    → IsFaithful faithful holds old.store kept new.store → leaves new.store left → AllOnWire w (ran.before ++ Tells n ∷ []) wire
    → RanTo DoesInTime m (around kept w notes) n most after (around left wire (notes ++ n ∷ []))
does_to faithful holds leaves says did outlives m after old new n most ran kept left w wire notes so may on =
    run_to m after kept left w wire notes ran.before n most ran.turns (one_note (Did faithful holds leaves says did) ran.before n m after old new ran.did_all)
    (does_all faithful holds leaves says did outlives (ran.before ++ Tells n ∷ []) m after old new kept left w wire notes ran.did_all so may on)

pub holds_to : {S L : Type 0} (faithful : S → Type 0) (holds leaves : S → List Entry → Type 0) (says : S → List Entry → StoreFault → S → Type 0) (did : L → Deed → L → Type 0) (m after : MachineView) (old new : Surroundings S L) (n : TillNote) (most : ℕ)
    (ran : RanTo (Did faithful holds leaves says did) m old n most after new) (kept : List Entry) (w wire : WireView) (notes : List TillNote) → IsFaithful faithful holds old.store kept new.store → (BookMayLag after.stage → ⊥)
    → AllOnWire w (ran.before ++ Tells n ∷ []) wire → (entries : List Entry) × holds new.store entries × RanTo DoesInTime m (around kept w notes) n most after (around entries wire (notes ++ n ∷ []))
holds_to faithful holds leaves says did m after old new n most ran kept w wire notes so never on =
    let (entries, held, all) = holds_all faithful holds leaves says did (ran.before ++ Tells n ∷ []) m after old new kept w wire notes ran.did_all so never on in
    (entries, held, run_to m after kept entries w wire notes ran.before n most ran.turns (one_note (Did faithful holds leaves says did) ran.before n m after old new ran.did_all) all)
