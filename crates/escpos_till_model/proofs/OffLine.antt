-- Why a call that only keeps an entry does nothing over the line.
use Rattle.std.proofs.Common.{◌≡◌, inl, inr, Some, None, List, [], ◌∷◌, refl, sym, ◌∙◌, ap, subst}
use Rattle.escpos_link.specs.Wire.{WireView}
use Rattle.escpos_till.specs.declared.entry.Entry.{Entry}
use Rattle.escpos_till.specs.declared.entry.Entry.TheVariants as entry
use Rattle.escpos_till.specs.declared.stage.Stage.{Stage}
use Rattle.escpos_till.specs.declared.stage.Stage.TheVariants as stage
use Rattle.escpos_till.specs.declared.stage.Then.{Then}
use Rattle.escpos_till.specs.declared.stage.Then.TheVariants as then
use Rattle.escpos_till.specs.declared.note.TillNote.{TillNote}
use Rattle.escpos_till.specs.declared.note.TillNote.TheVariants as note_kind
use Rattle.escpos_till.specs.declared.store.StoreFault.{StoreFault}
use Rattle.escpos_till.specs.Driver.{Breaks, Call, Calls, Cancel, Confirms, Deed, Deliver, DidAll, Ends, Gives, HangsUp, Keeps, Learns, Links, Loses, Misses, Pauses, Puts, Queue, Raise, Tells, Turns}
use Rattle.escpos_till.specs.Learning.{Learned}
use Rattle.escpos_till.specs.Machine.{Kept, MachineView, Unsure, after_note, entry_with, lost, told}
use Rattle.escpos_till_model.specs.Bridge.{AllOnWire, IsOffLine, IsOnLine}
use Rattle.escpos_till_model.proofs.Queueing.{queues_to}

-- It keeps an entry that isn't about a link, tells its owner something, or rests.
abbrev IsQuiet : Stage → Type 0
IsQuiet stage.AtRest = Unit {0}
IsQuiet (stage.Keeping e then.Queued) = Unit {0}
IsQuiet (stage.Keeping e (then.Take content)) = Unit {0}
IsQuiet (stage.Keeping e then.Raised) = Unit {0}
IsQuiet (stage.Keeping e (then.Cancelled number tried)) = Unit {0}
IsQuiet (stage.Telling n) = Unit {0}
IsQuiet stage.Failed = Unit {0}
IsQuiet s = ⊥

quiet_at : (s other : Stage) → s ≡ other → IsQuiet s → IsQuiet other
quiet_at s other is quiet = subst IsQuiet is quiet

quiet_as : (s other : Stage) → s ≡ other → IsQuiet other → IsQuiet s
quiet_as s other is quiet = subst IsQuiet (sym is) quiet

note_quiet : (n : TillNote) → IsQuiet (after_note n)
note_quiet (note_kind.Queued number) = tt
note_quiet note_kind.Raised = tt
note_quiet (note_kind.Cancelled number tried) = tt
note_quiet (note_kind.Recorded number) = tt
note_quiet (note_kind.NoLink number) = tt
note_quiet (note_kind.Waiting number why) = tt
note_quiet (note_kind.Paused number why) = tt
note_quiet (note_kind.StillPaused number why) = tt
note_quiet (note_kind.NotKept why) = tt

kept_quiet : (e : Entry) (next : Then) (m mid : MachineView) → IsQuiet (stage.Keeping e next) → Kept (stage.Keeping e next) m mid → IsQuiet mid.stage
kept_quiet e then.Queued m mid quiet (notes, (number, count, host, is)) = quiet_as mid.stage (stage.Telling (note_kind.Queued number)) is tt
kept_quiet e (then.Take content) m mid quiet (notes, (host, is)) = quiet_as mid.stage (stage.Keeping (entry.Queued content) then.Queued) is tt
kept_quiet e then.Raised m mid quiet (notes, (host, is)) = quiet_as mid.stage (stage.Telling note_kind.Raised) is tt
kept_quiet e (then.Cancelled number tried) m mid quiet (notes, (host, is)) = quiet_as mid.stage (stage.Telling (note_kind.Cancelled number tried)) is tt
kept_quiet e (then.Send due) m mid quiet kept = absurd quiet
kept_quiet e (then.Recorded number) m mid quiet kept = absurd quiet
kept_quiet e (then.GoOn number tried due) m mid quiet kept = absurd quiet
kept_quiet e (then.SendNext number due) m mid quiet kept = absurd quiet

-- Nothing is kept together with such an entry.
alone : (e f : Entry) (next : Then) → IsQuiet (stage.Keeping e next) → entry_with next ≡ Some f → ⊥
alone e f (then.GoOn number tried due) quiet with = quiet
alone e f (then.SendNext number due) quiet with = quiet
alone e f (then.Recorded number) quiet with = quiet
alone e f (then.Send due) quiet with = quiet
alone e f then.Queued quiet with = (let bad : None ≡ Some f = with in cc)
alone e f (then.Take content) quiet with = (let bad : None ≡ Some f = with in cc)
alone e f then.Raised quiet with = (let bad : None ≡ Some f = with in cc)
alone e f (then.Cancelled number tried) quiet with = (let bad : None ≡ Some f = with in cc)

lost_quiet : (e : Entry) (next : Then) (why : StoreFault) → IsQuiet (stage.Keeping e next) → IsQuiet (lost next why)
lost_quiet e then.Queued why quiet = tt
lost_quiet e (then.Take content) why quiet = tt
lost_quiet e then.Raised why quiet = tt
lost_quiet e (then.Cancelled number tried) why quiet = tt
lost_quiet e (then.Send due) why quiet = absurd quiet
lost_quiet e (then.Recorded number) why quiet = absurd quiet
lost_quiet e (then.GoOn number tried due) why quiet = absurd quiet
lost_quiet e (then.SendNext number due) why quiet = absurd quiet

learned_quiet : (e : Entry) (next : Then) (others : List Entry) (m mid : MachineView) → IsQuiet (stage.Keeping e next) → Learned (stage.Keeping e next) others m mid → IsQuiet mid.stage
learned_quiet e next others m mid quiet (inr (why, fails)) = quiet_as mid.stage (lost next why) fails.2 (lost_quiet e next why quiet)
learned_quiet e then.Queued others m mid quiet (inl learns) = absurd learns.2
learned_quiet e (then.Take content) others m mid quiet (inl learns) = absurd learns.2
learned_quiet e then.Raised others m mid quiet (inl learns) = absurd learns.2
learned_quiet e (then.Cancelled number tried) others m mid quiet (inl learns) = absurd learns.2
learned_quiet e (then.Send due) others m mid quiet (inl learns) = absurd quiet
learned_quiet e (then.Recorded number) others m mid quiet (inl learns) = absurd quiet
learned_quiet e (then.GoOn number tried due) others m mid quiet (inl learns) = absurd quiet
learned_quiet e (then.SendNext number due) others m mid quiet (inl learns) = absurd quiet

-- It asks for nothing over the line, and goes on so.
quiet_on : (d : Deed) (m mid : MachineView) → IsQuiet m.stage → Turns m d mid → (IsOnLine d → ⊥) × IsQuiet mid.stage
quiet_on (Keeps e None) m mid quiet (next, is, kept) = (λ on. on, kept_quiet e next m mid (quiet_at m.stage _ is quiet) (subst (λ s. Kept s m mid) is kept))
quiet_on (Keeps e (Some f)) m mid quiet (between, next, is, with, kept, sound, second) = absurd (alone e f next (quiet_at m.stage _ is quiet) with)
quiet_on (Loses e and_then why) m mid quiet (next, is, goes, unsure) =
    (λ on. on, quiet_as mid.stage (lost next why) (subst (λ s. Unsure s why m mid) is unsure).2 (lost_quiet e next why (quiet_at m.stage _ is quiet)))
quiet_on (Learns others) m mid quiet (e, next, is, learned) =
    (λ on. on, learned_quiet e next others m mid (quiet_at m.stage _ is quiet) (subst (λ s. Learned s others m mid) is learned))
quiet_on (Tells n) m mid quiet (is, mid_is) = (λ on. on, quiet_as mid.stage (after_note n) (ap (λ v. v.stage) (mid_is ∙ ap (λ s. told s m) is)) (note_quiet n))
quiet_on Links m mid quiet (due, is, mid_is) = absurd (quiet_at m.stage _ is quiet)
quiet_on Misses m mid quiet (due, is, mid_is) = absurd (quiet_at m.stage _ is quiet)
quiet_on (Puts bytes) m mid quiet (count, next, mid_is) = absurd (quiet_at m.stage _ next.talks quiet)
quiet_on (Breaks bytes why) m mid quiet (count, next, ended) = absurd (quiet_at m.stage _ next.talks quiet)
quiet_on (Gives room bytes) m mid quiet (waits, within, given) = absurd (quiet_at m.stage _ waits.talks quiet)
quiet_on (Ends why) m mid quiet (room, waits, ended) = absurd (quiet_at m.stage _ waits.talks quiet)
quiet_on HangsUp m mid quiet (n, is, mid_is) = absurd (quiet_at m.stage _ is quiet)
quiet_on (Pauses number why) m mid quiet (talk, is, news, mid_is) = absurd (quiet_at m.stage _ is quiet)
quiet_on (Confirms number) m mid quiet (talk, is, recorded, mid_is) = absurd (quiet_at m.stage _ is quiet)

quiet_first : (d : Deed) (ds : List Deed) (w : WireView) → (IsOnLine d → ⊥) → AllOnWire w ds w → AllOnWire w (d ∷ ds) w
quiet_first (Keeps e and_then) ds w never rest = rest
quiet_first (Loses e and_then why) ds w never rest = rest
quiet_first (Learns others) ds w never rest = rest
quiet_first (Tells n) ds w never rest = rest
quiet_first (Pauses number why) ds w never rest = rest
quiet_first (Confirms number) ds w never rest = rest
quiet_first Links ds w never rest = absurd (never tt)
quiet_first Misses ds w never rest = absurd (never tt)
quiet_first (Puts bytes) ds w never rest = absurd (never tt)
quiet_first (Breaks bytes why) ds w never rest = absurd (never tt)
quiet_first (Gives room bytes) ds w never rest = absurd (never tt)
quiet_first (Ends why) ds w never rest = absurd (never tt)
quiet_first HangsUp ds w never rest = absurd (never tt)

quiet_all : {D : Type 0} (did : D → Deed → D → Type 0) (ds : List Deed) (m after : MachineView) (old new : D) (w : WireView) → IsQuiet m.stage → DidAll did m old ds after new → AllOnWire w ds w
quiet_all did [] m after old new w quiet all = refl
quiet_all did (d ∷ ds) m after old new w quiet (mid, between, turns, sound, first, more) =
    let (never, goes) = quiet_on d m mid quiet turns in
    quiet_first d ds w never (quiet_all did ds mid after between new w goes more)

asked_quiet : (call : Call) (m asked : MachineView) → IsOffLine call → Calls m call asked → IsQuiet asked.stage
asked_quiet (Queue content key) m asked off calls = queues_to IsQuiet (λ number. tt) (λ c. tt) (λ e c. tt) m content key asked calls
asked_quiet (Raise first) m asked off calls = quiet_as asked.stage _ (ap (λ v. v.stage) calls.after_is) tt
asked_quiet (Cancel number) m asked off calls = quiet_as asked.stage _ (ap (λ v. v.stage) calls.after_is) tt
asked_quiet (Deliver openings most copy further) m asked off calls = absurd off

-- A wire stays as it is while such a call is served.
pub off_line : {D : Type 0} (did : D → Deed → D → Type 0) (call : Call) (ds : List Deed) (m asked after : MachineView) (old new : D) (w : WireView) → IsOffLine call → Calls m call asked
    → DidAll did asked old ds after new → AllOnWire w ds w
off_line did call ds m asked after old new w off calls all = quiet_all did ds asked after old new w (asked_quiet call m asked off calls) all
