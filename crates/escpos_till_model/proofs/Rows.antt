-- Why a row of calls that a driver has served is in the world: each call leads to a world around the machine as it is then, and from there the
-- next one goes on.
use Rattle.std.proofs.Common.{ℕ, ◌≡◌, List, [], ◌∷◌, ◌++◌, refl, sym, ◌∙◌, ap, subst, append_assoc, append-nil}
use Rattle.std.proofs.lemmas.List.{map-append}
use Rattle.escpos_link.specs.Wire.{WireView}
use Rattle.escpos_till.specs.declared.entry.Entry.{Entry}
use Rattle.escpos_till.specs.declared.stage.Stage.TheVariants as stage
use Rattle.escpos_till.specs.declared.note.TillNote.{TillNote}
use Rattle.escpos_till.specs.declared.store.StoreFault.{StoreFault}
use Rattle.escpos_till.specs.declared.surroundings.Surroundings.{Surroundings}
use Rattle.escpos_till.specs.Driver.{Answered, Deed, Serves, ServesAll, Tells, more, none}
use Rattle.escpos_till.specs.Machine.{MachineView, after_note}
use Rattle.escpos_till.specs.Surroundings.{Did}
use Rattle.escpos_till_model.specs.Around.{Around, IsAround, around}
use Rattle.escpos_till_model.specs.Bridge.{AreMade, FitsWire, GoesTo, MayCall, told_of}
use Rattle.escpos_till_model.specs.Known.{BookMayLag, IsWorld}
use Rattle.escpos_till_model.specs.Receipts.{Among}
use Rattle.escpos_till_model.specs.World.{Begins, HasCome, Runs, World}
use Rattle.escpos_till_model.specs.declared.event.Happening.{Happening}
use Rattle.escpos_till_model.proofs.DriverDoes.{fits_all, holds_to, stage_at_end, was_faithful}
use Rattle.escpos_till_model.proofs.Served.{Fitting, served_in}
use Rattle.escpos_till_model.proofs.Shown.{runs_more}

-- What holds of every world holds of one that has come of a world that began.
abbrev pub EveryWorld : Type 0
EveryWorld = (w after : World) (happenings : List Happening) → Begins w → Runs w happenings after → IsWorld after

-- ## The calls

made_before : (before : List Answered) (last : Answered) → AreMade (before ++ last ∷ []) → AreMade before
made_before [] last made = tt
made_before (a ∷ before) last (may, rests, others) = (may, rests, made_before before last others)

made_last : (before : List Answered) (last : Answered) → AreMade (before ++ last ∷ []) → MayCall last.call × (after_note last.note ≡ stage.AtRest)
made_last [] last (may, rests, others) = (may, rests)
made_last (a ∷ before) last (may, rests, others) = made_last before last others

told_last : (notes : List TillNote) (before : List Answered) (last : Answered) (all : List Answered) → all ≡ before ++ last ∷ [] → (notes ++ told_of before) ++ last.note ∷ [] ≡ notes ++ told_of all
told_last notes before last all is =
    append_assoc notes (told_of before) (last.note ∷ []) ∙ ap (λ ns. notes ++ ns) (sym (map-append (λ a. a.note) before (last ∷ []))) ∙ ap (λ answered. notes ++ told_of answered) (sym is)

-- What is told later was told.
pub among_later : {X : Type 0} (x : X) (xs ys : List X) → Among x ys → Among x (xs ++ ys)
among_later x xs ys (before, following, is) = (xs ++ before, following, ap (λ zs. xs ++ zs) is ∙ sym (append_assoc xs before (x ∷ following)))

-- ## The worlds

-- What surrounds the machine is what the world has.
around_now : (m : MachineView) (a : Around) (w : World) → IsAround m a w → IsAround m (around w.kept w.wire w.told) w
around_now m a w is = record { machine = is.machine; surrounds = refl; stage = is.stage; down = is.down }

-- From there happenings lead on.
goes_on : (world : World) (mid after : MachineView) (a : Around) (entries : List Entry) (wire : WireView) (n : TillNote) (goes : GoesTo world mid a)
    → GoesTo goes.now after (around entries wire (goes.now.told ++ n ∷ [])) → GoesTo world after (around entries wire (a.told ++ n ∷ []))
goes_on world mid after a entries wire n goes next = record {
  happenings = goes.happenings ++ next.happenings;
  now = next.now;
  runs = runs_more goes.happenings next.happenings world goes.now next.now goes.runs next.runs;
  come = next.come;
  is = subst (λ ns. IsAround after (around entries wire (ns ++ n ∷ [])) next.now) (sym (ap (λ k. k.told) goes.is.surrounds)) next.is;
}

-- Where nothing was called for, all is as it was.
stays_so : (world : World) (m : MachineView) → HasCome world → IsAround m (around world.kept world.wire world.told) world → GoesTo world m (around world.kept world.wire (world.told ++ []))
stays_so world m come is = record {
  happenings = [];
  now = world;
  runs = refl;
  come = come;
  is = subst (λ ns. IsAround m (around world.kept world.wire ns) world) (sym (append-nil world.told)) is;
}

-- ## The row

-- Where these calls lead from this world.
pub record Leads {S L : Type 0} (holds : S → List Entry → Type 0) (fits : L → WireView → Type 0) (world : World) (answered : List Answered) (after : MachineView) (new : Surroundings S L) : Type 0 where
  pub entries : List Entry
  pub wire : WireView
  pub held : holds new.store entries
  pub like : fits new.line wire
  pub goes : GoesTo world after (around entries wire (world.told ++ told_of answered))

-- One more call.
leads_on : {S L : Type 0} (faithful : S → Type 0) (holds leaves : S → List Entry → Type 0) (says : S → List Entry → StoreFault → S → Type 0) (did : L → Deed → L → Type 0) (fits : L → WireView → Type 0) → Fitting → EveryWorld → FitsWire did fits
    → (world : World) (before : List Answered) (mid : MachineView) (between : Surroundings S L) (last : Answered) (most : ℕ) (after : MachineView) (new : Surroundings S L) (all : List Answered)
    → Leads holds fits world before mid between → Serves (Did faithful holds leaves says did) mid between last.call last.note most after new → all ≡ before ++ last ∷ [] → MayCall last.call
    → after_note last.note ≡ stage.AtRest → faithful new.store → Leads holds fits world all after new
leads_on faithful holds leaves says did fits fitting every stays world before mid between last most after new all leads serves all_is may rests done =
    let goes = leads.goes in
    let now : World = goes.now in
    let had : holds between.store now.kept = subst (holds between.store) (ap (λ k. k.kept) goes.is.surrounds) leads.held in
    let near : fits between.line now.wire = subst (fits between.line) (ap (λ k. k.wire) goes.is.surrounds) leads.like in
    let (wire, on, like) = fits_all faithful holds leaves says did fits stays (serves.runs.before ++ Tells last.note ∷ []) serves.asked after between new now.wire serves.runs.did_all near in
    let at_rest : after.stage ≡ stage.AtRest = stage_at_end (Did faithful holds leaves says did) serves.runs.before last.note serves.asked after between new serves.runs.did_all ∙ rests in
    let (entries, held, ran) = holds_to faithful holds leaves says did serves.asked after between new last.note most serves.runs now.kept now.wire wire now.told (record { done = done; held = had })
    (λ lags. subst BookMayLag at_rest lags) on in
    let known = every goes.come.first now goes.come.happenings goes.come.begins goes.come.runs in
    let next = served_in fitting now mid serves.asked after _ _ last.call last.note most goes.come known (around_now mid _ now goes.is) serves.calls may ran in
    record {
      entries = entries;
      wire = wire;
      held = held;
      like = like;
      goes = subst (λ ns. GoesTo world after (around entries wire ns)) (told_last world.told before last all all_is) (goes_on world mid after _ entries wire last.note goes next);
    }

pub row_leads : {S L : Type 0} (faithful : S → Type 0) (holds leaves : S → List Entry → Type 0) (says : S → List Entry → StoreFault → S → Type 0) (did : L → Deed → L → Type 0) (fits : L → WireView → Type 0) → Fitting → EveryWorld → FitsWire did fits
    → (world : World) (most : ℕ) (m : MachineView) (old : Surroundings S L) (answered : List Answered) (after : MachineView) (new : Surroundings S L)
    → ServesAll (Did faithful holds leaves says did) most m old answered after new → HasCome world → IsAround m (around world.kept world.wire world.told) world → AreMade answered → faithful new.store
    → holds old.store world.kept → fits old.line world.wire → Leads holds fits world answered after new
row_leads faithful holds leaves says did fits fitting every stays world most m old answered after new none come is made done held like =
    record { entries = world.kept; wire = world.wire; held = held; like = like; goes = stays_so world m come is }
row_leads faithful holds leaves says did fits fitting every stays world most m old answered after new (more before mid between last next there all first serves all_is) come is made done held like =
    let made_all : AreMade (before ++ last ∷ []) = subst AreMade all_is made in
    let (may, rests) = made_last before last made_all in
    let done_before = was_faithful faithful holds leaves says did (serves.runs.before ++ Tells last.note ∷ []) serves.asked next between there serves.runs.did_all done in
    leads_on faithful holds leaves says did fits fitting every stays world before mid between last most next there all
    (row_leads faithful holds leaves says did fits fitting every stays world most m old before mid between first come is (made_before before last made_all) done_before held like) serves all_is may rests done
