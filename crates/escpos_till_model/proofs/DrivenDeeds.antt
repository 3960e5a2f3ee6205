-- Why each deed of a driver, and what it does to what surrounds the machine, is some happenings in the world.
use Rattle.std.proofs.Common.{ℕ, zero, suc, ◌≡◌, ◌≢◌, inl, inr, ◌+◌, ◌-◌, ◌<◌, ◌≤◌, Option, Some, None, List, [], ◌∷◌, ◌++◌, length, take, drop, refl, sym, ◌∙◌, ap, subst, append_assoc, arith, length-drop}
use Rattle.std.specs.Prelude.{max, slice_index}
use Rattle.std.proofs.Math.Seq.{take-add}
use Rattle.std.proofs.lemmas.List.{drop-append-le, drop-drop, drop-take, length-take-le, take-append-le, take-append-drop, take_all}
use Rattle.escpos_command.specs.declared.command.Command.{Command}
use Rattle.escpos_host.specs.declared.host.HostError.{HostError}
use Rattle.escpos_host.specs.declared.host.HostError.TheVariants as error
use Rattle.escpos_host.specs.declared.host.HostEvent.{HostEvent}
use Rattle.escpos_host.specs.declared.host.HostEvent.TheVariants as heard
use Rattle.escpos_host.specs.declared.send.SendFault.{SendFault}
use Rattle.escpos_host.specs.Awaits.{RefusesOpening}
use Rattle.escpos_host.proofs.Recording.{keeps as kept_by, told as told_by}
use Rattle.escpos_host.specs.Heard.{HearsByte, IsHeard, taken_at, with_half}
use Rattle.escpos_host.specs.Machine.{HostView, Down, IsSound}
use Rattle.escpos_link.specs.declared.event.Event.{Event}
use Rattle.escpos_link.specs.Wire.{WireView, given_up, heard_from, with_bytes, with_link}
use Rattle.escpos_till.specs.declared.book.Book.{Book}
use Rattle.escpos_till.specs.declared.entry.Entry.{Entry}
use Rattle.escpos_till.specs.declared.entry.Entry.TheVariants as entry
use Rattle.escpos_till.specs.declared.stage.Due.{Due}
use Rattle.escpos_till.specs.declared.stage.Stage.{Stage}
use Rattle.escpos_till.specs.declared.stage.Stage.TheVariants as stage
use Rattle.escpos_till.specs.declared.stage.Talk.{Talk}
use Rattle.escpos_till.specs.declared.stage.Then.{Then}
use Rattle.escpos_till.specs.declared.stage.Then.TheVariants as then
use Rattle.escpos_till.specs.declared.note.TillNote.{TillNote}
use Rattle.escpos_till.specs.declared.note.TillNote.TheVariants as note_kind
use Rattle.escpos_till.specs.declared.store.StoreFault.{StoreFault}
use Rattle.std.proofs.Math.Nat.{min-eq_left}
use Rattle.escpos_till.specs.Delivers.{fresh}
use Rattle.escpos_till.specs.Driver.{Breaks, Confirms, Ends, Gives, HangsUp, HearsAll, Keeps, KeepsEntry, Learns, Links, Loses, Misses, Pauses, Puts, Tells, Turns}
use Rattle.escpos_till.specs.Learning.{AreOthers, FailsToLearn, Learned, LearnsAll, Revises}
use Rattle.escpos_till.specs.Machine.{Came, Drops, Ended, Follows, GoesOn, IsGoingOn, Kept, MachineView, Submits, Turns as Turned, Unsure, after_note, connected, hung_up, lost, news_in, news_of, next_talk, not_connected, printed, put, told, with_pause}
use Rattle.escpos_till_model.specs.Around.{Around, GoesOnBy, around}
use Rattle.escpos_till_model.specs.declared.event.Happening.{Happening}
use Rattle.escpos_till.specs.declared.pause.Pause.{Pause}
use Rattle.escpos_till_model.specs.declared.event.Happening.TheVariants as event
use Rattle.escpos_till_model.specs.declared.event.Happening.TheVariants.{Break, Connect, End, FailLearning, FailWith, FailWithBoth, FailWithout, HangUp, Hear, Idle, Keep, Learn, Miss, Put, Tell}
use Rattle.escpos_till_model.specs.World.{Happens, Learns as LearnsIn, Stores, TellsNews, Wired, World, running, with_entry, without_entry}
use Rattle.escpos_till_model.proofs.WireEvents.{with_more}
use Rattle.escpos_till_model.proofs.Shown.{DownIn, Leads, Shows, ShowsWire, arrive, events_of, gone, idle_shown, leads_on, move, one, runs_events, shows_at, wired_down, wired_off, wired_on, wired_up}

-- ## The store

-- The machine whose entry is kept, or not, goes on.
stored : (Goes : MachineView → MachineView → Type 0) (has : List Entry → Entry → List Entry) (w : World) (m mid : MachineView) (e : Entry) (next : Then) (wire : WireView) → w.machine ≡ Some m
    → m.stage ≡ stage.Keeping e next → Goes m mid → IsSound mid.host → Wired m.host mid.host w.wire wire → Stores Goes has w (running mid (has w.kept e) wire w.told)
stored Goes has w m mid e next wire was is goes sound wired =
    record { entry = e; next = next; moves = move (λ k after. (k.stage ≡ stage.Keeping e next) × Goes k after) w m mid (has w.kept e) w.told wire was (is, goes) sound wired }

-- What came of an entry in the store, as it happens in the world.
pub record Answers (m mid : MachineView) (w : World) (a : Around) : Type 0 where
  pub e : Happening
  pub kept : List Entry
  pub same : kept ≡ a.kept
  pub happens : (wire : WireView) → Wired m.host mid.host w.wire wire → Happens w e (running mid kept wire w.told)

answered : (m mid : MachineView) (w : World) (a : Around) (it : Answers m mid w a) (s : Stage) (wire : WireView) → w.told ≡ a.told → mid.stage ≡ s → Wired m.host mid.host w.wire wire
    → ShowsWire s mid.host wire a.wire → Leads w mid a
answered m mid w a it s wire told is wired shown =
    arrive w (running mid it.kept wire w.told) it.e mid a (it.happens wire wired) (shows_at s mid a (running mid it.kept wire w.told) refl it.same told is shown)

-- The host of a machine that isn't on a link stays so.
answered_down : (m mid : MachineView) (w : World) (a : Around) (it : Answers m mid w a) (note : TillNote) → w.told ≡ a.told → m.host.phase ≡ Down → mid.host ≡ m.host → w.wire ≡ a.wire
    → mid.stage ≡ stage.Telling note → Leads w mid a
answered_down m mid w a it note told down host same is =
    let down' : mid.host.phase ≡ Down = ap (λ h. h.phase) host ∙ down in
    answered m mid w a it (stage.Telling note) w.wire told is (wired_down m.host mid.host w.wire down down') (down', same)

-- The receipt isn't sent: the link that the driver opened is given up.
answered_unsent : (m mid : MachineView) (w : World) (a : Around) (it : Answers m mid w a) (note : TillNote) (events : List Event) → w.told ≡ a.told → m.host.phase ≡ Down → mid.host.phase ≡ Down
    → GoesOnBy (with_link w.wire) events a.wire → mid.stage ≡ stage.HangingUp note → Leads w mid a
answered_unsent m mid w a it note events told down down' goes is =
    let new : World = running mid it.kept w.wire w.told in
    leads_on w new mid a (it.e ∷ []) (one w new it.e (it.happens w.wire (wired_down m.host mid.host w.wire down down'))) (idle_shown new mid a events note refl it.same told is down' goes)

-- The host's first marks are put out, over the link that the driver opened.
answered_sent : (m mid : MachineView) (w : World) (a : Around) (it : Answers m mid w a) (talk : Talk) (events : List Event) → w.told ≡ a.told → m.host.phase ≡ Down → mid.host.phase ≢ Down
    → GoesOnBy (with_link w.wire) events a.wire → mid.stage ≡ stage.Talking talk → Leads w mid a
answered_sent m mid w a it talk events told down up goes is =
    let new : World = running mid it.kept (with_link w.wire) w.told in
    let now : World = running mid it.kept a.wire w.told in
    record {
      happenings = it.e ∷ events_of events;
      now = now;
      runs = (new, it.happens (with_link w.wire) (wired_up m.host mid.host w.wire down up), runs_events events new a.wire goes);
      shows = shows_at (stage.Talking talk) mid a now refl it.same told is (up, refl);
    }

-- The receipt is recorded, or not: the host is off its link.
answered_off : (m mid : MachineView) (w : World) (a : Around) (it : Answers m mid w a) (note : TillNote) (dropped : List ℕ) → w.told ≡ a.told → m.host.phase ≢ Down → mid.host.phase ≡ Down
    → w.wire ≡ with_more dropped a.wire → mid.stage ≡ stage.HangingUp note → Leads w mid a
answered_off m mid w a it note dropped told up down' same is =
    answered m mid w a it (stage.HangingUp note) (given_up w.wire) told is (wired_off m.host mid.host w.wire up down') (down', ap given_up same)

pub refused_down : (why : HostError) (first heard openings : ℕ) (h : HostView) → RefusesOpening why (fresh first heard) openings h → h.phase ≡ Down
refused_down error.AlreadyUp first heard openings h (up, same) = absurd (up refl)
refused_down error.MarksUsedUp first heard openings h (down, inl (none, same)) = ap (λ v. v.phase) same
refused_down error.MarksUsedUp first heard openings h (down, inr (used, some, few, all, same)) = ap (λ v. v.phase) same
refused_down error.Memory first heard openings h (down, may, inl same) = ap (λ v. v.phase) same
refused_down error.Memory first heard openings h (down, may, inr (used, some, few, within, same)) = ap (λ v. v.phase) same
refused_down error.NotReady first heard openings h refused = absurd refused
refused_down error.InFlightFull first heard openings h refused = absurd refused

-- No bytes are dropped.
lags_none : (w near : WireView) → w ≡ near → w ≡ with_more [] near
lags_none w near same = same

-- The host stays on its link.
answered_on : (m mid : MachineView) (w : World) (a : Around) (it : Answers m mid w a) (s : Stage) → w.told ≡ a.told → m.host.phase ≢ Down → mid.host ≡ m.host → w.wire ≡ a.wire → mid.stage ≡ s
    → ((mid.host.phase ≢ Down) × (w.wire ≡ a.wire) → ShowsWire s mid.host w.wire a.wire) → Leads w mid a
answered_on m mid w a it s told up host same is shown =
    let up' : mid.host.phase ≢ Down = λ down. up (ap (λ h. h.phase) (sym host) ∙ down) in
    answered m mid w a it s w.wire told is (wired_on m.host mid.host w.wire up up') (shown (up', same))

kept_so : (next : Then) (m mid : MachineView) (w : World) (a : Around) (e : Entry) (it : Answers m mid w a) → w.told ≡ a.told → ShowsWire (stage.Keeping e next) m.host w.wire a.wire
    → Follows next m.host m.book.next mid.book mid.host mid.stage → Leads w mid a
kept_so then.Queued m mid w a e it notes (down, same) (number, is, host, at) = answered_down m mid w a it _ notes down host same at
kept_so (then.Take content) m mid w a e it notes (down, same) (host, at) =
    let down' : mid.host.phase ≡ Down = ap (λ h. h.phase) host ∙ down in
    answered m mid w a it (stage.Keeping (entry.Queued content) then.Queued) w.wire notes at (wired_down m.host mid.host w.wire down down') (down', same)
kept_so then.Raised m mid w a e it notes (down, same) (host, at) = answered_down m mid w a it _ notes down host same at
kept_so (then.Cancelled number tried) m mid w a e it notes (down, same) (host, at) = answered_down m mid w a it _ notes down host same at
kept_so (then.Send due) m mid w a e it notes (down, (events, goes)) (inl (host, at)) =
    answered_sent m mid w a it _ events notes down (subst (λ h. h.phase ≢ Down) (sym host) (λ bad. cc bad)) goes at
kept_so (then.Send due) m mid w a e it notes (down, (events, goes)) (inr (why, refused, at)) =
    answered_unsent m mid w a it _ events notes down (refused_down why m.book.next mid.book.heard (max due.openings 1) mid.host refused) goes at
kept_so (then.Recorded number) m mid w a e it notes (up, (dropped, same)) (drops, at) = answered_off m mid w a it _ dropped notes up (gone m.host mid.host drops) same at
kept_so (then.GoOn number tried due) m mid w a e it notes (up, same) (host, at) = answered_on m mid w a it (stage.Keeping tried (then.SendNext number due)) notes up host same at (λ on. on)
kept_so (then.SendNext number due) m mid w a e it notes (up, same) (inl ((phase, mark, sent), at)) =
    let up' : mid.host.phase ≢ Down = subst (λ h. h.phase ≢ Down) (sym sent) (λ bad. cc bad) in
    answered m mid w a it (stage.Talking (next_talk number due)) w.wire notes at (wired_on m.host mid.host w.wire up up') (up', same)
kept_so (then.SendNext number due) m mid w a e it notes (up, same) (inr (why, refused, drops, at)) =
    answered_off m mid w a it _ [] notes up (gone m.host mid.host drops) (lags_none w.wire a.wire same) at

lost_so : (next : Then) (why : StoreFault) (m mid : MachineView) (w : World) (a : Around) (e : Entry) (it : Answers m mid w a) → w.told ≡ a.told
    → ShowsWire (stage.Keeping e next) m.host w.wire a.wire → Drops m.host mid.host → mid.stage ≡ lost next why → Leads w mid a
lost_so then.Queued why m mid w a e it notes (down, same) drops at = answered_down m mid w a it _ notes down (drops.0 down) same at
lost_so (then.Take content) why m mid w a e it notes (down, same) drops at = answered_down m mid w a it _ notes down (drops.0 down) same at
lost_so then.Raised why m mid w a e it notes (down, same) drops at = answered_down m mid w a it _ notes down (drops.0 down) same at
lost_so (then.Cancelled number tried) why m mid w a e it notes (down, same) drops at = answered_down m mid w a it _ notes down (drops.0 down) same at
lost_so (then.Send due) why m mid w a e it notes (down, (events, goes)) drops at = answered_unsent m mid w a it _ events notes down (gone m.host mid.host drops) goes at
lost_so (then.Recorded number) why m mid w a e it notes (up, (dropped, same)) drops at = answered_off m mid w a it _ dropped notes up (gone m.host mid.host drops) same at
lost_so (then.GoOn number tried due) why m mid w a e it notes (up, same) drops at = answered_off m mid w a it _ [] notes up (gone m.host mid.host drops) (lags_none w.wire a.wire same) at
lost_so (then.SendNext number due) why m mid w a e it notes (up, same) drops at = answered_off m mid w a it _ [] notes up (gone m.host mid.host drops) (lags_none w.wire a.wire same) at

wire_at : (s : Stage) (m : MachineView) (a : Around) (w : World) → m.stage ≡ s → Shows m a w → ShowsWire s m.host w.wire a.wire
wire_at s m a w is shows = subst (λ k. ShowsWire k m.host w.wire a.wire) is shows.wire

pub keeps : (m mid : MachineView) (a : Around) (w : World) (e : Entry) → Shows m a w → KeepsEntry m e mid → IsSound mid.host → Leads w mid (around (a.kept ++ e ∷ []) a.wire a.told)
keeps m mid a w e shows (next, is, kept) sound =
    let it : Answers m mid w (around (a.kept ++ e ∷ []) a.wire a.told) = record {
      e = Keep;
      kept = w.kept ++ e ∷ [];
      same = ap (λ k. k ++ e ∷ []) shows.kept;
      happens = λ wire wired. stored (λ k after. Kept k.stage k after) with_entry w m mid e next wire shows.machine is kept sound wired;
    } in
    kept_so next m mid w (around (a.kept ++ e ∷ []) a.wire a.told) e it shows.told (wire_at (stage.Keeping e next) m a w is shows) (subst (λ s. Kept s m mid) is kept).1

pub loses_with : (m mid : MachineView) (a : Around) (w : World) (e : Entry) (why : StoreFault) → Shows m a w → Turns m (Loses e None why) mid → IsSound mid.host
    → Leads w mid (around (a.kept ++ e ∷ []) a.wire a.told)
loses_with m mid a w e why shows (next, is, goes, unsure) sound =
    let it : Answers m mid w (around (a.kept ++ e ∷ []) a.wire a.told) = record {
      e = FailWith why;
      kept = w.kept ++ e ∷ [];
      same = ap (λ k. k ++ e ∷ []) shows.kept;
      happens = λ wire wired. stored (λ k after. Unsure k.stage why k after) with_entry w m mid e next wire shows.machine is unsure sound wired;
    } in
    let so = subst (λ s. Unsure s why m mid) is unsure in
    lost_so next why m mid w (around (a.kept ++ e ∷ []) a.wire a.told) e it shows.told (wire_at (stage.Keeping e next) m a w is shows) so.0 so.2

-- It has both.
pub loses_with_both : (m mid : MachineView) (a : Around) (w : World) (e f : Entry) (why : StoreFault) → Shows m a w → Turns m (Loses e (Some f) why) mid → IsSound mid.host
    → Leads w mid (around (a.kept ++ e ∷ f ∷ []) a.wire a.told)
loses_with_both m mid a w e f why shows (next, is, goes, unsure) sound =
    let kept : List Entry = w.kept ++ e ∷ f ∷ [] in
    let it : Answers m mid w (around (a.kept ++ e ∷ f ∷ []) a.wire a.told) = record {
      e = FailWithBoth why;
      kept = kept;
      same = ap (λ k. k ++ e ∷ f ∷ []) shows.kept;
      happens = λ wire wired. record {
        entry = e;
        next = next;
        second = f;
        with = goes;
        moves = move (λ k after. (k.stage ≡ stage.Keeping e next) × Unsure k.stage why k after) w m mid kept w.told wire shows.machine (is, unsure) sound wired;
      };
    } in
    let so = subst (λ s. Unsure s why m mid) is unsure in
    lost_so next why m mid w (around (a.kept ++ e ∷ f ∷ []) a.wire a.told) e it shows.told (wire_at (stage.Keeping e next) m a w is shows) so.0 so.2

-- The store keeps both, one after the other.
pub keeps_both : (m mid : MachineView) (a : Around) (w : World) (e f : Entry) → Shows m a w → Turns m (Keeps e (Some f)) mid → IsSound mid.host
    → Leads w mid (around (a.kept ++ e ∷ f ∷ []) a.wire a.told)
keeps_both m mid a w e f shows (between, next, is, with, kept, between_sound, last) sound =
    let first = keeps m between a w e shows (next, is, kept) between_sound in
    let second = keeps between mid (around (a.kept ++ e ∷ []) a.wire a.told) first.now f first.shows last sound in
    leads_on w first.now mid (around (a.kept ++ e ∷ f ∷ []) a.wire a.told) first.happenings first.runs
    (subst (λ k. Leads first.now mid (around k a.wire a.told)) (append_assoc a.kept (e ∷ []) (f ∷ [])) second)

pub loses_without : (m mid : MachineView) (a : Around) (w : World) (e : Entry) (and_then : Option Entry) (why : StoreFault) → Shows m a w → Turns m (Loses e and_then why) mid → IsSound mid.host → Leads w mid a
loses_without m mid a w e and_then why shows (next, is, goes, unsure) sound =
    let it : Answers m mid w a = record {
      e = FailWithout why;
      kept = w.kept;
      same = shows.kept;
      happens = λ wire wired. stored (λ k after. Unsure k.stage why k after) without_entry w m mid e next wire shows.machine is unsure sound wired;
    } in
    let so = subst (λ s. Unsure s why m mid) is unsure in
    lost_so next why m mid w a e it shows.told (wire_at (stage.Keeping e next) m a w is shows) so.0 so.2

-- Others have added entries, and the machine learns that.
learned_as : (Goes : Then → MachineView → MachineView → Type 0) (w : World) (m mid : MachineView) (e : Entry) (next : Then) (others : List Entry) (wire : WireView) → w.machine ≡ Some m
    → AreOthers w.kept others → m.stage ≡ stage.Keeping e next → Goes next m mid → IsSound mid.host → Wired m.host mid.host w.wire wire
    → LearnsIn Goes w others (running mid (w.kept ++ others) wire w.told)
learned_as Goes w m mid e next others wire was added is goes sound wired = record {
  entry = e;
  next = next;
  added = added;
  moves = move (λ k after. (k.stage ≡ stage.Keeping e next) × Goes next k after) w m mid (w.kept ++ others) w.told wire was (is, goes) sound wired;
}

revised_so : (next : Then) (m mid : MachineView) (w : World) (a : Around) (e : Entry) (it : Answers m mid w a) → w.told ≡ a.told → ShowsWire (stage.Keeping e next) m.host w.wire a.wire
    → Revises next mid.book m.host mid.host mid.stage → Leads w mid a
revised_so (then.Send due) m mid w a e it notes (down, (events, goes)) (inl (waits, marks, host, at)) =
    let down' : mid.host.phase ≡ Down = ap (λ h. h.phase) host ∙ down in
    answered m mid w a it _ w.wire notes at (wired_down m.host mid.host w.wire down down') (down', (events, goes))
revised_so (then.Send due) m mid w a e it notes (down, (events, goes)) (inr (inl (waits, few, drops, at))) = answered_unsent m mid w a it _ events notes down (gone m.host mid.host drops) goes at
revised_so (then.Send due) m mid w a e it notes (down, (events, goes)) (inr (inr (tried, cancelled, drops, at))) =
    answered_unsent m mid w a it _ events notes down (gone m.host mid.host drops) goes at
revised_so (then.Recorded number) m mid w a e it notes (up, (dropped, same)) (inl (waits, host, at)) =
    let up' : mid.host.phase ≢ Down = λ down. up (ap (λ h. h.phase) (sym host) ∙ down) in
    answered m mid w a it _ w.wire notes at (wired_on m.host mid.host w.wire up up') (up', (dropped, same))
revised_so (then.Recorded number) m mid w a e it notes (up, (dropped, same)) (inr (tried, cancelled, drops, at)) =
    answered_off m mid w a it _ dropped notes up (gone m.host mid.host drops) same at
revised_so (then.GoOn number tried due) m mid w a e it notes (up, same) (inl (waits, host, inl at)) =
    answered_on m mid w a it (printed mid.book number m.host) notes up host same at (λ on. (on.0, ([], lags_none w.wire a.wire on.1)))
revised_so (then.GoOn number tried due) m mid w a e it notes (up, same) (inl (waits, host, inr goes)) = answered_on m mid w a it _ notes up host same goes.stage_is (λ on. on)
revised_so (then.GoOn number tried due) m mid w a e it notes (up, same) (inr (times, cancelled, drops, at)) =
    answered_off m mid w a it _ [] notes up (gone m.host mid.host drops) (lags_none w.wire a.wire same) at
revised_so (then.SendNext number due) m mid w a e it notes (up, same) (drops, at) = answered_off m mid w a it _ [] notes up (gone m.host mid.host drops) (lags_none w.wire a.wire same) at
revised_so then.Queued m mid w a e it notes shown none = absurd none
revised_so (then.Take content) m mid w a e it notes shown none = absurd none
revised_so then.Raised m mid w a e it notes shown none = absurd none
revised_so (then.Cancelled number tried) m mid w a e it notes shown none = absurd none

learns_by : (m mid : MachineView) (a : Around) (w : World) (others : List Entry) (e : Entry) (next : Then) → Shows m a w → m.stage ≡ stage.Keeping e next → AreOthers w.kept others
    → Learned (stage.Keeping e next) others m mid → IsSound mid.host → Leads w mid (around (a.kept ++ others) a.wire a.told)
learns_by m mid a w others e next shows is added (inl learns) sound =
    let it : Answers m mid w (around (a.kept ++ others) a.wire a.told) = record {
      e = Learn others;
      kept = w.kept ++ others;
      same = ap (λ k. k ++ others) shows.kept;
      happens = λ wire wired. learned_as (λ n k after. LearnsAll n others k after) w m mid e next others wire shows.machine added is learns sound wired;
    } in
    revised_so next m mid w (around (a.kept ++ others) a.wire a.told) e it shows.told (wire_at (stage.Keeping e next) m a w is shows) learns.2
learns_by m mid a w others e next shows is added (inr (why, fails)) sound =
    let it : Answers m mid w (around (a.kept ++ others) a.wire a.told) = record {
      e = FailLearning others why;
      kept = w.kept ++ others;
      same = ap (λ k. k ++ others) shows.kept;
      happens = λ wire wired. learned_as (λ n k after. FailsToLearn n others why k after) w m mid e next others wire shows.machine added is fails sound wired;
    } in
    lost_so next why m mid w (around (a.kept ++ others) a.wire a.told) e it shows.told (wire_at (stage.Keeping e next) m a w is shows) fails.1 fails.2

pub learns : (m mid : MachineView) (a : Around) (w : World) (others : List Entry) → Shows m a w → Turns m (Learns others) mid → IsSound mid.host → AreOthers a.kept others
    → Leads w mid (around (a.kept ++ others) a.wire a.told)
learns m mid a w others shows (e, next, is, learned) sound added =
    learns_by m mid a w others e next shows is (subst (λ k. AreOthers k others) (sym shows.kept) added) (subst (λ s. Learned s others m mid) is learned) sound

-- ## The link

pub links : (m mid : MachineView) (a : Around) (w : World) → Shows m a w → Turns m Links mid → IsSound mid.host → Leads w mid (around a.kept (with_link a.wire) a.told)
links m mid a w shows (due, is, mid_is) sound =
    let so : mid ≡ connected (stage.Connecting due) m = mid_is ∙ ap (λ s. connected s m) is in
    let (down, same) = wire_at (stage.Connecting due) m a w is shows in
    let host : mid.host ≡ m.host = ap (λ v. v.host) so in
    let down' : mid.host.phase ≡ Down = ap (λ h. h.phase) host ∙ down in
    arrive w (running mid w.kept w.wire w.told) Connect mid (around a.kept (with_link a.wire) a.told)
    (move (λ k after. after ≡ connected k.stage k) w m mid w.kept w.told w.wire shows.machine mid_is sound (wired_down m.host mid.host w.wire down down'))
    (shows_at _ mid (around a.kept (with_link a.wire) a.told) (running mid w.kept w.wire w.told) refl shows.kept shows.told (ap (λ v. v.stage) so) (down', ([], ap with_link (sym same))))

pub misses : (m mid : MachineView) (a : Around) (w : World) → Shows m a w → Turns m Misses mid → IsSound mid.host → Leads w mid a
misses m mid a w shows (due, is, mid_is) sound =
    let so : mid ≡ not_connected (stage.Connecting due) m = mid_is ∙ ap (λ s. not_connected s m) is in
    let (down, same) = wire_at (stage.Connecting due) m a w is shows in
    let host : mid.host ≡ m.host = ap (λ v. v.host) so in
    let down' : mid.host.phase ≡ Down = ap (λ h. h.phase) host ∙ down in
    arrive w (running mid w.kept w.wire w.told) Miss mid a
    (move (λ k after. after ≡ not_connected k.stage k) w m mid w.kept w.told w.wire shows.machine mid_is sound (wired_down m.host mid.host w.wire down down'))
    (shows_at _ mid a (running mid w.kept w.wire w.told) refl shows.kept shows.told (ap (λ v. v.stage) so) (down', same))

-- The printer had the link, and it was given up with nothing on it.
pub misses_late : (m mid : MachineView) (a : Around) (w : World) → Shows m a w → Turns m Misses mid → IsSound mid.host → Leads w mid (around a.kept (given_up (with_link a.wire)) a.told)
misses_late m mid a w shows (due, is, mid_is) sound =
    let so : mid ≡ not_connected (stage.Connecting due) m = mid_is ∙ ap (λ s. not_connected s m) is in
    let (down, same) = wire_at (stage.Connecting due) m a w is shows in
    let host : mid.host ≡ m.host = ap (λ v. v.host) so in
    let down' : mid.host.phase ≡ Down = ap (λ h. h.phase) host ∙ down in
    let idle : WireView = given_up (with_link w.wire) in
    let new : World = running mid w.kept idle w.told in
    record {
      happenings = Miss ∷ Idle ∷ [];
      now = new;
      runs = (
        running mid w.kept w.wire w.told,
        move (λ k after. after ≡ not_connected k.stage k) w m mid w.kept w.told w.wire shows.machine mid_is sound (wired_down m.host mid.host w.wire down down'),
        (new, record { none = λ k here. subst DownIn here down'; is = refl }, refl),
      );
      shows = shows_at _ mid (around a.kept (given_up (with_link a.wire)) a.told) new refl shows.kept shows.told (ap (λ v. v.stage) so) (down', ap (λ v. given_up (with_link v)) same);
    }

pub hangs_up : (m mid : MachineView) (a : Around) (w : World) → Shows m a w → Turns m HangsUp mid → IsSound mid.host → Leads w mid (around a.kept (given_up a.wire) a.told)
hangs_up m mid a w shows (note, is, mid_is) sound =
    let so : mid ≡ hung_up (stage.HangingUp note) m = mid_is ∙ ap (λ s. hung_up s m) is in
    let (down, same) = wire_at (stage.HangingUp note) m a w is shows in
    let host : mid.host ≡ m.host = ap (λ v. v.host) so in
    let down' : mid.host.phase ≡ Down = ap (λ h. h.phase) host ∙ down in
    arrive w (running mid w.kept w.wire w.told) HangUp mid (around a.kept (given_up a.wire) a.told)
    (move (λ k after. after ≡ hung_up k.stage k) w m mid w.kept w.told w.wire shows.machine mid_is sound (wired_down m.host mid.host w.wire down down'))
    (shows_at _ mid (around a.kept (given_up a.wire) a.told) (running mid w.kept w.wire w.told) refl shows.kept shows.told (ap (λ v. v.stage) so) (down', same))

noted_wire : (n : TillNote) (h : HostView) (w near : WireView) → h.phase ≡ Down → w ≡ near → ShowsWire (after_note n) h w near
noted_wire (note_kind.Queued number) h w near down same = (down, same)
noted_wire note_kind.Raised h w near down same = (down, same)
noted_wire (note_kind.Cancelled number tried) h w near down same = (down, same)
noted_wire (note_kind.Recorded number) h w near down same = (down, same)
noted_wire (note_kind.NoLink number) h w near down same = (down, same)
noted_wire (note_kind.Waiting number why) h w near down same = (down, same)
noted_wire (note_kind.Paused number why) h w near down same = (down, same)
noted_wire (note_kind.StillPaused number why) h w near down same = (down, same)
noted_wire (note_kind.NotKept why) h w near down same = (down, same)

pub tells : (m mid : MachineView) (a : Around) (w : World) (note : TillNote) → Shows m a w → Turns m (Tells note) mid → IsSound mid.host → Leads w mid (around a.kept a.wire (a.told ++ note ∷ []))
tells m mid a w note shows (is, mid_is) sound =
    let so : mid ≡ told (stage.Telling note) m = mid_is ∙ ap (λ s. told s m) is in
    let (down, same) = wire_at (stage.Telling note) m a w is shows in
    let host : mid.host ≡ m.host = ap (λ v. v.host) so in
    let down' : mid.host.phase ≡ Down = ap (λ h. h.phase) host ∙ down in
    let notes : List TillNote = w.told ++ note ∷ [] in
    arrive w (running mid w.kept w.wire notes) Tell mid (around a.kept a.wire (a.told ++ note ∷ []))
    (record {
      note = note;
      moves = move (λ k after. (k.stage ≡ stage.Telling note) × (after ≡ told k.stage k)) w m mid w.kept notes w.wire shows.machine (is, mid_is) sound
          (wired_down m.host mid.host w.wire down down');
    })
    (shows_at (after_note note) mid (around a.kept a.wire (a.told ++ note ∷ [])) (running mid w.kept w.wire notes) refl shows.kept (ap (λ k. k ++ note ∷ []) shows.told) (ap (λ v. v.stage) so)
    (noted_wire note mid.host w.wire a.wire down' same))

-- The owner is told of a pause, and the talk goes on.
pub pauses : (m mid : MachineView) (a : Around) (w : World) (number : ℕ) (why : Pause) → Shows m a w → Turns m (Pauses number why) mid → IsSound mid.host → Leads w mid a
pauses m mid a w number why shows (talk, is, news, mid_is) sound =
    let so : mid ≡ told (stage.Talking talk) m = mid_is ∙ ap (λ s. told s m) is in
    let (up, same) = wire_at (stage.Talking talk) m a w is shows in
    let host : mid.host ≡ m.host = ap (λ v. v.host) so in
    let up' : mid.host.phase ≢ Down = λ down. up (ap (λ h. h.phase) (sym host) ∙ down) in
    arrive w (running mid w.kept w.wire w.told) event.News mid a
    (move TellsNews w m mid w.kept w.told w.wire shows.machine (record { talk = talk; note = note_kind.Paused number why; talks = is; news = news; told = mid_is }) sound
    (wired_on m.host mid.host w.wire up up'))
    (shows_at _ mid a (running mid w.kept w.wire w.told) refl shows.kept shows.told (ap (λ v. v.stage) so) (up', same))

-- The same of a receipt that is recorded.
pub confirms : (m mid : MachineView) (a : Around) (w : World) (number : ℕ) → Shows m a w → Turns m (Confirms number) mid → IsSound mid.host → Leads w mid a
confirms m mid a w number shows (talk, is, recorded, mid_is) sound =
    let so : mid ≡ told (stage.Talking talk) m = mid_is ∙ ap (λ s. told s m) is in
    let (up, same) = wire_at (stage.Talking talk) m a w is shows in
    let host : mid.host ≡ m.host = ap (λ v. v.host) so in
    let up' : mid.host.phase ≢ Down = λ down. up (ap (λ h. h.phase) (sym host) ∙ down) in
    let news : news_of talk ≡ Some (note_kind.Recorded number) = ap (λ r. news_in r talk.number talk.paused.why talk.paused.is_news) recorded in
    arrive w (running mid w.kept w.wire w.told) event.News mid a
    (move TellsNews w m mid w.kept w.told w.wire shows.machine (record { talk = talk; note = note_kind.Recorded number; talks = is; news = news; told = mid_is }) sound
    (wired_on m.host mid.host w.wire up up'))
    (shows_at _ mid a (running mid w.kept w.wire w.told) refl shows.kept shows.told (ap (λ v. v.stage) so) (up', same))

-- ## Bytes

pub puts : (m mid : MachineView) (a : Around) (w : World) (bytes : List ℕ) → Shows m a w → Turns m (Puts bytes) mid → IsSound mid.host → Leads w mid (around a.kept (with_bytes a.wire bytes) a.told)
puts m mid a w bytes shows (count, next, mid_is) sound =
    let so : mid ≡ put (stage.Talking next.talk) count m = mid_is ∙ ap (λ s. put s count m) next.talks in
    let (up, same) = wire_at (stage.Talking next.talk) m a w next.talks shows in
    let up' : mid.host.phase ≢ Down = subst (λ p. p ≢ Down) (sym (ap (λ v. v.host.phase) so)) up in
    let there : WireView = with_bytes w.wire (take count m.host.out) in
    let is_there : there ≡ with_bytes a.wire bytes = ap (λ v. with_bytes v (take count m.host.out)) same ∙ ap (with_bytes a.wire) (sym next.bytes_are) in
    arrive w (running (put m.stage count m) w.kept there w.told) (Put count) mid (around a.kept (with_bytes a.wire bytes) a.told)
    (record { m = m; talk = next.talk; count = count; was = shows.machine; talks = next.talks; count_is = sym (min-eq_left next.within); sound = subst (λ v. IsSound v.host) mid_is sound; is = refl })
    (shows_at _ mid (around a.kept (with_bytes a.wire bytes) a.told) (running (put m.stage count m) w.kept there w.told) (ap Some (sym mid_is)) shows.kept shows.told (ap (λ v. v.stage) so) (up', is_there))

take_front : (k rest : ℕ) (out : List ℕ) → k ≤ length out → take k (take (k + rest) out) ≡ take k out
take_front k rest out within =
    let long : length (take k out) ≡ k = length-take-le k out within in
    ap (take k) (take-add k rest out) ∙ take-append-le k (take k out) (take rest (drop k out)) (omega (arith, long)) ∙ take_all k (take k out) (omega (arith, long))

few_of : (count k : ℕ) (out bytes : List ℕ) → bytes ≡ take count out → count ≤ length out → k ≤ length bytes → (k ≤ count) × (take k bytes ≡ take k out)
few_of count k out bytes is within few =
    let long : length bytes ≡ count = ap length is ∙ length-take-le count out within in
    let some : k ≤ count = omega (arith, long, few) in
    let rest : k + (count - k) ≡ count = omega (arith, some) in
    (some, ap (take k) is ∙ ap (λ n. take k (take n out)) (sym rest) ∙ take_front k (count - k) out (omega (arith, some, within)))

pub breaks : (m mid : MachineView) (a : Around) (w : World) (bytes : List ℕ) (why : SendFault) (k : ℕ) → Shows m a w → Turns m (Breaks bytes why) mid → IsSound mid.host → k ≤ length bytes
    → Leads w mid (around a.kept (with_bytes a.wire (take k bytes)) a.told)
breaks m mid a w bytes why k shows (count, next, ended) sound few =
    let (up, same) = wire_at (stage.Talking next.talk) m a w next.talks shows in
    let (some, those) = few_of count k m.host.out bytes next.bytes_are next.within few in
    let so = subst (λ s. Ended s why (put s count m) mid) next.talks ended in
    let down : mid.host.phase ≡ Down = gone _ mid.host so.0 in
    let there : WireView = given_up (with_bytes w.wire (take k m.host.out)) in
    let is_there : there ≡ given_up (with_bytes a.wire (take k bytes)) =
    ap (λ v. given_up (with_bytes v (take k m.host.out))) same ∙ ap (λ bs. given_up (with_bytes a.wire bs)) (sym those) in
    arrive w (running mid w.kept there w.told) (Break count k why) mid (around a.kept (with_bytes a.wire (take k bytes)) a.told)
    (record {
      m = m;
      after = mid;
      talk = next.talk;
      taken = count;
      count = k;
      was = shows.machine;
      talks = next.talks;
      taken_is = sym (min-eq_left next.within);
      count_is = sym (min-eq_left some);
      ended = ended;
      sound = sound;
      is = refl;
    })
    (shows_at _ mid (around a.kept (with_bytes a.wire (take k bytes)) a.told) (running mid w.kept there w.told) refl shows.kept shows.told so.2 (down, is_there))

pub ends : (m mid : MachineView) (a : Around) (w : World) (why : SendFault) → Shows m a w → Turns m (Ends why) mid → IsSound mid.host → Leads w mid a
ends m mid a w why shows (room, waiting, ended) sound =
    let (up, same) = wire_at (stage.Talking waiting.talk) m a w waiting.talks shows in
    let so = subst (λ s. Ended s why m mid) waiting.talks ended in
    let down : mid.host.phase ≡ Down = gone m.host mid.host so.0 in
    arrive w (running mid w.kept (given_up w.wire) w.told) (End why) mid a
    (move (λ k after. Ended k.stage why k after) w m mid w.kept w.told (given_up w.wire) shows.machine ended sound (wired_off m.host mid.host w.wire up down))
    (shows_at _ mid a (running mid w.kept (given_up w.wire) w.told) refl shows.kept shows.told so.2 (down, ap given_up same))

-- ## What a machine hears

-- Where a machine stands after it has heard bytes: it still talks; it is to keep that the receipt is recorded, and perhaps to go on with the next
-- one; or its host is off the link.
pub data Stands : MachineView → Type 0 where
  Talks : {m : MachineView} (talk : Talk) → m.stage ≡ stage.Talking talk → m.host.phase ≢ Down → Stands m
  Done : {m : MachineView} (e : Entry) (number : ℕ) → m.stage ≡ stage.Keeping e (then.Recorded number) → m.host.phase ≢ Down → Stands m
  On : {m : MachineView} (e : Entry) (number : ℕ) (tried : Entry) (due : Due) → m.stage ≡ stage.Keeping e (then.GoOn number tried due) → m.host.phase ≢ Down → Stands m
  Off : {m : MachineView} (note : TillNote) → m.stage ≡ stage.HangingUp note → m.host.phase ≡ Down → Stands m

-- The event doesn't end the link.
abbrev IsGood : HostEvent → Type 0
IsGood (heard.BadAnswer place) = ⊥
IsGood e = Unit {0}

byte_up : (e : HostEvent) (h : HostView) (byte at : ℕ) (h' : HostView) → h.phase ≢ Down → HearsByte h byte at e h' → IsGood e → h'.phase ≢ Down
byte_up heard.None h byte at h' up (inl (same, half)) good = subst (λ v. v.phase ≢ Down) (sym same) up
byte_up heard.None h byte at h' up (inr (inl misfits)) good = absurd misfits
byte_up heard.None h byte at h' up (inr (inr (a, spells, (ignores, same)))) good = subst (λ v. v.phase ≢ Down) (sym same) up
byte_up heard.Opened h byte at h' up (inl grows) good = absurd grows
byte_up heard.Opened h byte at h' up (inr (inl misfits)) good = absurd misfits
byte_up heard.Opened h byte at h' up (inr (inr (a, spells, (first, n, id, phase, is, mark, same)))) good = subst (λ v. v.phase ≢ Down) (sym same) (λ bad. cc bad)
byte_up (heard.Recorded number) h byte at h' up (inl grows) good = absurd grows
byte_up (heard.Recorded number) h byte at h' up (inr (inl misfits)) good = absurd misfits
byte_up (heard.Recorded number) h byte at h' up (inr (inr (a, spells, (id, is, r)))) good = (kept_by (with_half h []) h' id number r).up
byte_up (heard.Status byte') h byte at h' up (inl grows) good = absurd grows
byte_up (heard.Status byte') h byte at h' up (inr (inl misfits)) good = absurd misfits
byte_up (heard.Status byte') h byte at h' up (inr (inr (a, spells, (is, same)))) good = subst (λ v. v.phase ≢ Down) (sym same) up
byte_up (heard.Condition block) h byte at h' up (inl grows) good = absurd grows
byte_up (heard.Condition block) h byte at h' up (inr (inl misfits)) good = absurd misfits
byte_up (heard.Condition block) h byte at h' up (inr (inr (a, spells, (is, same)))) good = subst (λ v. v.phase ≢ Down) (sym same) up
byte_up (heard.Late id) h byte at h' up (inl grows) good = absurd grows
byte_up (heard.Late id) h byte at h' up (inr (inl misfits)) good = absurd misfits
byte_up (heard.Late id) h byte at h' up (inr (inr (a, spells, (first, phase, is, other, unleft, late)))) good = (told_by (with_half h []) h' first id phase late).keeps.up
byte_up (heard.BadAnswer place) h byte at h' up hears good = absurd good

heard_up : (e : HostEvent) (h : HostView) (bytes : List ℕ) (count : ℕ) (h' : HostView) → h.phase ≢ Down → IsHeard h bytes count e h' → IsGood e → h'.phase ≢ Down
heard_up e h bytes count h' up (inl (none, all, passed, same)) good = subst (λ v. v.phase ≢ Down) (sym same) up
heard_up e h bytes count h' up (inr (at, half, fewer, some, taken, passed, hears)) good = byte_up e (with_half h half) (slice_index bytes at) at h' up hears good

taken_within : (e : HostEvent) (at count most : ℕ) → at < most → count ≡ taken_at e at → count ≤ most
taken_within heard.None at count most fewer is = omega (arith, fewer, is)
taken_within heard.Opened at count most fewer is = omega (arith, fewer, is)
taken_within (heard.Recorded number) at count most fewer is = omega (arith, fewer, is)
taken_within (heard.Status byte) at count most fewer is = omega (arith, fewer, is)
taken_within (heard.Condition block) at count most fewer is = omega (arith, fewer, is)
taken_within (heard.Late id) at count most fewer is = omega (arith, fewer, is)
taken_within (heard.BadAnswer place) at count most fewer is = omega (arith, fewer, is)

heard_within : (e : HostEvent) (h : HostView) (bytes : List ℕ) (count : ℕ) (h' : HostView) → IsHeard h bytes count e h' → count ≤ length bytes
heard_within e h bytes count h' (inl (none, all, passed, same)) = omega (arith, all)
heard_within e h bytes count h' (inr (at, half, fewer, some, taken, passed, hears)) = taken_within e at count (length bytes) fewer taken

going : (talk : Talk) (left : ℕ) (h : HostView) (mid : MachineView) → h.phase ≢ Down → GoesOn talk left h mid.host mid.stage → Stands mid
going talk zero h mid up (drops, is) = Off _ is (gone h mid.host drops)
going talk (suc left) h mid up (same, is) = Talks _ is (subst (λ v. v.phase ≢ Down) (sym same) up)

submitting : (talk : Talk) (receipt : Option (List Command)) (left : ℕ) (h : HostView) (mid : MachineView) → h.phase ≢ Down → Submits talk receipt left h mid.host mid.stage → Stands mid
submitting talk (Some receipt) (suc left) h mid up (inl ((phase, mark, same), is)) = Talks _ is (subst (λ v. v.phase ≢ Down) (sym same) (λ bad. cc bad))
submitting talk (Some receipt) (suc left) h mid up (inr (why, refuses, drops, is)) = Off _ is (gone h mid.host drops)
submitting talk (Some receipt) zero h mid up so = going talk zero h mid up so
submitting talk None left h mid up so = going talk left h mid up so

came_by : (b : Book) (e : HostEvent) (talk : Talk) (left : ℕ) (before h : HostView) (bytes : List ℕ) (count : ℕ) (mid : MachineView) → before.phase ≢ Down → IsHeard before bytes count e h
    → Turned b e talk left h mid.host mid.stage → Stands mid
came_by b heard.None talk left before h bytes count mid up hears turned = going talk left h mid (heard_up heard.None before bytes count h up hears tt) turned
came_by b (heard.Status byte) talk left before h bytes count mid up hears turned = going talk left h mid (heard_up (heard.Status byte) before bytes count h up hears tt) turned
came_by b (heard.Condition block) talk left before h bytes count mid up hears (p, after, turned) = going (with_pause talk p) left h mid (heard_up (heard.Condition block) before bytes count h up hears tt) turned
came_by b (heard.Late id) talk left before h bytes count mid up hears (inl (closes, same, is)) =
    Done _ _ is (subst (λ v. v.phase ≢ Down) (sym same) (heard_up (heard.Late id) before bytes count h up hears tt))
came_by b (heard.Late id) talk left before h bytes count mid up hears (inr (other, turned)) = going talk left h mid (heard_up (heard.Late id) before bytes count h up hears tt) turned
came_by b heard.Opened talk left before h bytes count mid up hears turned = submitting talk talk.receipt left h mid (heard_up heard.Opened before bytes count h up hears tt) turned
came_by b (heard.Recorded place) talk left before h bytes count mid up hears (same, inr goes) =
    On _ _ _ _ goes.stage_is (subst (λ v. v.phase ≢ Down) (sym same) (heard_up (heard.Recorded place) before bytes count h up hears tt))
came_by b (heard.Recorded place) talk left before h bytes count mid up hears (same, inl is) =
    Done _ _ is (subst (λ v. v.phase ≢ Down) (sym same) (heard_up (heard.Recorded place) before bytes count h up hears tt))
came_by b (heard.BadAnswer place) talk left before h bytes count mid up hears (drops, is) = Off _ is (gone h mid.host drops)

came_stands : (talk : Talk) (m mid : MachineView) (bytes : List ℕ) (count : ℕ) → m.host.phase ≢ Down → Came (stage.Talking talk) bytes count m mid → Stands mid
came_stands talk m mid bytes count up (e, h, hears, turned, book, all) = came_by m.book e talk (talk.left - count) m.host h bytes count mid up (hears.1 up) turned

came_within : (talk : Talk) (m mid : MachineView) (bytes : List ℕ) (count : ℕ) → m.host.phase ≢ Down → Came (stage.Talking talk) bytes count m mid → count ≤ length bytes
came_within talk m mid bytes count up (e, h, hears, turned, book, all) = heard_within e m.host bytes count h (hears.1 up)

-- In the world the machine hears the bytes on their way.
heard_on : (w : World) (m mid : MachineView) (most count : ℕ) (talk : Talk) → w.machine ≡ Some m → m.stage ≡ stage.Talking talk → m.host.phase ≢ Down → Came m.stage (take most w.wire.coming) count m mid
    → IsSound mid.host → mid.host.phase ≢ Down → Happens w (Hear most) (running mid w.kept (heard_from w.wire count) w.told)
heard_on w m mid most count talk was is up came sound up' = record {
  m = m;
  after = mid;
  consumed = count;
  wire = heard_from w.wire count;
  talk = talk;
  was = was;
  talks = is;
  came = came;
  sound = sound;
  wired = wired_on m.host mid.host (heard_from w.wire count) up up';
  is = refl;
}

heard_off : (w : World) (m mid : MachineView) (most count : ℕ) (talk : Talk) → w.machine ≡ Some m → m.stage ≡ stage.Talking talk → m.host.phase ≢ Down → Came m.stage (take most w.wire.coming) count m mid
    → IsSound mid.host → mid.host.phase ≡ Down → Happens w (Hear most) (running mid w.kept (given_up (heard_from w.wire count)) w.told)
heard_off w m mid most count talk was is up came sound down = record {
  m = m;
  after = mid;
  consumed = count;
  wire = given_up (heard_from w.wire count);
  talk = talk;
  was = was;
  talks = is;
  came = came;
  sound = sound;
  wired = wired_off m.host mid.host (heard_from w.wire count) up down;
  is = refl;
}

no_more : (counts : List ℕ) (mid after : MachineView) (bytes : List ℕ) → ((talk : Talk) → mid.stage ≡ stage.Talking talk → ⊥) → HearsAll mid bytes counts after → after ≡ mid
no_more [] mid after bytes silent (same, none) = same
no_more (count ∷ counts) mid after bytes silent (talk, next, is, some, came, sound, more) = absurd (silent talk is)

-- What is left on its way, and of the piece.
left_of : (count : ℕ) (bytes coming : List ℕ) → bytes ≡ take (length bytes) coming → count ≤ length bytes → drop count bytes ≡ take (length (drop count bytes)) (drop count coming)
left_of count bytes coming is within =
    let rest : count + (length bytes - count) ≡ length bytes = omega (arith, within) in
    ap (drop count) is ∙ ap (λ k. drop count (take k coming)) (sym rest) ∙ drop-take count (length bytes - count) coming ∙ ap (λ k. take k (drop count coming)) (sym (length-drop count bytes))

dropped_of : (count : ℕ) (bytes coming : List ℕ) → bytes ≡ take (length bytes) coming → count ≤ length bytes → drop count coming ≡ drop count bytes ++ drop (length bytes) coming
dropped_of count bytes coming is within =
    ap (drop count) (sym (take-append-drop (length bytes) coming))
    ∙ drop-append-le count (take (length bytes) coming) (drop (length bytes) coming) (subst (λ bs. count ≤ length bs) is within)
    ∙ ap (λ bs. drop count bs ++ drop (length bytes) coming) (sym is)

heard_twice : (w : WireView) (count : ℕ) (bytes : List ℕ) → count ≤ length bytes → heard_from (heard_from w count) (length (drop count bytes)) ≡ heard_from w (length bytes)
heard_twice w count bytes within =
    let all : count + length (drop count bytes) ≡ length bytes = omega (arith, length-drop count bytes, within) in
    ap (λ c. record { printer = w.printer; ended = w.ended; live = w.live; coming = c }) (drop-drop (length (drop count bytes)) count w.coming ∙ ap (λ k. drop k w.coming) all)

-- It has heard some of a piece, and stands so. `near` is the wire once all of the piece is read.
stands_so : (w : World) (m mid after : MachineView) (a : Around) (bytes : List ℕ) (count : ℕ) (counts : List ℕ) (talk : Talk) → w.machine ≡ Some m → w.kept ≡ a.kept → w.told ≡ a.told
    → m.stage ≡ stage.Talking talk → m.host.phase ≢ Down → Came m.stage (take (length bytes) w.wire.coming) count m mid → IsSound mid.host → count ≤ length bytes
    → bytes ≡ take (length bytes) w.wire.coming → heard_from w.wire (length bytes) ≡ a.wire → HearsAll mid (drop count bytes) counts after
    → ((t : Talk) → mid.stage ≡ stage.Talking t → mid.host.phase ≢ Down → Leads (running mid w.kept (heard_from w.wire count) w.told) after a) → Stands mid → Leads w after a
stands_so w m mid after a bytes count counts talk was kept notes is up came sound within bytes_are near more on (Talks t at up') =
    leads_on w (running mid w.kept (heard_from w.wire count) w.told) after a (Hear (length bytes) ∷ [])
    (one w (running mid w.kept (heard_from w.wire count) w.told) (Hear (length bytes)) (heard_on w m mid (length bytes) count talk was is up came sound up')) (on t at up')
stands_so w m mid after a bytes count counts talk was kept notes is up came sound within bytes_are near more on (Done e number at up') =
    let same : after ≡ mid = no_more counts mid after (drop count bytes) (λ t bad. let no : stage.Keeping e (then.Recorded number) ≡ stage.Talking t = sym at ∙ bad in cc) more in
    let lags : heard_from w.wire count ≡ with_more (drop count bytes) a.wire =
    ap (λ c. record { printer = w.wire.printer; ended = w.wire.ended; live = w.wire.live; coming = c }) (dropped_of count bytes w.wire.coming bytes_are within) ∙ ap (with_more (drop count bytes)) near in
    subst (λ k. Leads w k a) (sym same)
    (arrive w (running mid w.kept (heard_from w.wire count) w.told) (Hear (length bytes)) mid a (heard_on w m mid (length bytes) count talk was is up came sound up')
    (shows_at _ mid a (running mid w.kept (heard_from w.wire count) w.told) refl kept notes at (up', (drop count bytes, lags))))
stands_so w m mid after a bytes count counts talk was kept notes is up came sound within bytes_are near more on (On e number tried due at up') =
    let same : after ≡ mid = no_more counts mid after (drop count bytes) (λ t bad. let no : stage.Keeping e (then.GoOn number tried due) ≡ stage.Talking t = sym at ∙ bad in cc) more in
    let (event, h, hears, turned, book, all) = subst (λ s. Came s (take (length bytes) w.wire.coming) count m mid) is came in
    let whole : count ≡ length bytes = all (subst IsGoingOn (sym at) tt) ∙ ap length (sym bytes_are) in
    let there : heard_from w.wire count ≡ a.wire = ap (heard_from w.wire) whole ∙ near in
    subst (λ k. Leads w k a) (sym same)
    (arrive w (running mid w.kept (heard_from w.wire count) w.told) (Hear (length bytes)) mid a (heard_on w m mid (length bytes) count talk was is up came sound up')
    (shows_at _ mid a (running mid w.kept (heard_from w.wire count) w.told) refl kept notes at (up', there)))
stands_so w m mid after a bytes count counts talk was kept notes is up came sound within bytes_are near more on (Off note at down) =
    let same : after ≡ mid = no_more counts mid after (drop count bytes) (λ t bad. let no : stage.HangingUp note ≡ stage.Talking t = sym at ∙ bad in cc) more in
    subst (λ k. Leads w k a) (sym same)
    (arrive w (running mid w.kept (given_up (heard_from w.wire count)) w.told) (Hear (length bytes)) mid a (heard_off w m mid (length bytes) count talk was is up came sound down)
    (shows_at _ mid a (running mid w.kept (given_up (heard_from w.wire count)) w.told) refl kept notes at (down, ap given_up near)))

hears_all : (counts : List ℕ) (m after : MachineView) (bytes : List ℕ) (w : World) (a : Around) (talk : Talk) → w.machine ≡ Some m → w.kept ≡ a.kept → w.told ≡ a.told → m.stage ≡ stage.Talking talk
    → m.host.phase ≢ Down → bytes ≡ take (length bytes) w.wire.coming → heard_from w.wire (length bytes) ≡ a.wire → HearsAll m bytes counts after → Leads w after a
hears_all [] m after bytes w a talk was kept notes is up bytes_are near (same, none) =
    let all : w.wire ≡ a.wire = subst (λ bs. heard_from w.wire (length bs) ≡ a.wire) (none talk is) near in
    subst (λ k. Leads w k a) (sym same) (record { happenings = []; now = w; runs = refl; shows = shows_at (stage.Talking talk) m a w was kept notes is (up, all) })
hears_all (count ∷ counts) m after bytes w a talk was kept notes is up bytes_are near (t, mid, at, some, came, sound, more) =
    let so = subst (λ s. Came s bytes count m mid) is came in
    let within = came_within talk m mid bytes count up so in
    stands_so w m mid after a bytes count counts talk was kept notes is up (subst (λ bs. Came m.stage bs count m mid) bytes_are came) sound within bytes_are near more
    (λ t2 at2 up2. hears_all counts mid after (drop count bytes) (running mid w.kept (heard_from w.wire count) w.told) a t2 refl kept notes at2 up2
    (left_of count bytes w.wire.coming bytes_are within) (heard_twice w.wire count bytes within ∙ near) more)
    (came_stands talk m mid bytes count up so)

gives_none : (m mid : MachineView) (a : Around) (w : World) (talk : Talk) → Shows m a w → m.stage ≡ stage.Talking talk → Came m.stage [] 0 m mid → IsSound mid.host
    → Leads w mid (around a.kept (heard_from a.wire 0) a.told)
gives_none m mid a w talk shows is came sound =
    let (up, same) = wire_at (stage.Talking talk) m a w is shows in
    let near : heard_from w.wire 0 ≡ heard_from a.wire 0 = ap (λ v. heard_from v 0) same in
    let new : Around = around a.kept (heard_from a.wire 0) a.told in
    stands_so w m mid mid new [] 0 [] talk shows.machine shows.kept shows.told is up came sound (omega arith) refl near (refl, λ t at. refl)
    (λ t at up'. record {
      happenings = [];
      now = running mid w.kept (heard_from w.wire 0) w.told;
      runs = refl;
      shows = shows_at (stage.Talking t) mid new (running mid w.kept (heard_from w.wire 0) w.told) refl shows.kept shows.told at (up', near);
    })
    (came_stands talk m mid [] 0 up (subst (λ s. Came s [] 0 m mid) is came))

pub gives : (room : ℕ) (bytes : List ℕ) (m mid : MachineView) (a : Around) (w : World) → Shows m a w → Turns m (Gives room bytes) mid → IsSound mid.host → bytes ≡ take (length bytes) a.wire.coming
    → Leads w mid (around a.kept (heard_from a.wire (length bytes)) a.told)
gives room [] m mid a w shows (waiting, within, came) sound bytes_are = gives_none m mid a w waiting.talk shows waiting.talks came sound
gives room (b ∷ bs) m mid a w shows (waiting, within, (counts, hears)) sound bytes_are =
    let (up, same) = wire_at (stage.Talking waiting.talk) m a w waiting.talks shows in
    hears_all counts m mid (b ∷ bs) w (around a.kept (heard_from a.wire (length (b ∷ bs))) a.told) waiting.talk shows.machine shows.kept shows.told waiting.talks up
    (bytes_are ∙ ap (λ v. take (length (b ∷ bs)) v.coming) (sym same)) (ap (λ v. heard_from v (length (b ∷ bs))) same) hears
