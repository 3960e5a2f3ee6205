-- Why a receipt is recorded that a driver's owner was told of while the next one was being sent.
use Rattle.std.proofs.Common.{ℕ, inl, inr, List, [], ◌∷◌, ◌++◌, refl, ◌∙◌, ap, subst, append_assoc}
use Rattle.escpos_till.specs.declared.entry.Entry.{Entry}
use Rattle.escpos_till.specs.declared.stage.Stage.TheVariants as stage
use Rattle.escpos_till.specs.Driver.{Confirms, Deed, DidAll, Turns}
use Rattle.escpos_till.specs.Entries.{recorded}
use Rattle.escpos_till.specs.Machine.{MachineView}
use Rattle.escpos_till_model.specs.Around.{Around, DoesInTime, IsAround, around}
use Rattle.escpos_till_model.specs.Known.{Holds}
use Rattle.escpos_till_model.specs.Receipts.{Among, Extends}
use Rattle.escpos_till_model.specs.World.{HasCome, World}
use Rattle.escpos_till_model.proofs.CarryingDeeds.{knows_of}
use Rattle.escpos_till_model.proofs.Driven.{does, does_all, shows_around}
use Rattle.escpos_till_model.proofs.EntryFacts.{among_cons, among_nothing, recorded_append}
use Rattle.escpos_till_model.proofs.Rows.{EveryWorld}
use Rattle.escpos_till_model.proofs.Shown.{Shows, later}
use Rattle.escpos_till_model.proofs.TillWorlds.{comes_on}
use Rattle.escpos_till_model.proofs.Worlds.{entries_last}

-- What is recorded stays so.
still_recorded : (number : ℕ) (kept after : List Entry) → Extends kept after → Among number (recorded kept) → Among number (recorded after)
still_recorded number kept after (more, is) (before, following, split) = (
  before,
  following ++ recorded more,
  ap recorded is ∙ recorded_append kept more ∙ ap (λ ns. ns ++ recorded more) split ∙ append_assoc before (number ∷ following) (recorded more),
)

confirmed : EveryWorld → (ds : List Deed) (number : ℕ) (m after : MachineView) (a new : Around) (w : World) → HasCome w → Shows m a w → DidAll DoesInTime m a ds after new → Among (Confirms number) ds
    → Among number (recorded new.kept)
confirmed every [] number m after a new w come shows all among = absurd (among_nothing (Confirms number) among)
confirmed every (d ∷ ds) number m after a new w come shows (mid, between, turns, sound, did, more) among =
    let there : Around = around a.kept did.wire a.told in
    let first = later m.stage m a w did.events did.wire refl shows shows.wire did.goes_on in
    let second = does d m mid there between first.now first.shows turns sound did.does in
    let come_first = comes_on w first.now first.happenings come first.runs in
    elim (among_cons (Confirms number) d ds among) [
      | inl same ↦
          let (talk, at, news, mid_is) = subst (λ x. Turns m x mid) same turns in
          let (hand, h, knows) = knows_of every first.now m there come_first first.shows in
          let holds = subst (Holds a.kept hand h) at knows.1 in
          let whole = does_all (d ∷ ds) m after a new w shows (mid, between, turns, sound, did, more) in
          let extends : Extends a.kept new.kept =
          subst (λ es. Extends es new.kept) shows.kept (subst (λ es. Extends w.kept es) whole.shows.kept (entries_last w whole.now whole.happenings whole.runs)) in
          still_recorded number a.kept new.kept extends (holds.8 number news)
      | inr later_on ↦
          confirmed every ds number mid after between new second.now (comes_on first.now second.now second.happenings come_first second.runs) second.shows more later_on
    ]

pub is_confirmed : EveryWorld → (ds : List Deed) (number : ℕ) (m after : MachineView) (a new : Around) (w : World) → HasCome w → IsAround m a w → DidAll DoesInTime m a ds after new → Among (Confirms number) ds
    → Among number (recorded new.kept)
is_confirmed every ds number m after a new w come is all among = confirmed every ds number m after a new w come (shows_around m a w is) all among
