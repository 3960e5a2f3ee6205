-- Why a driver's run is a run of the world: one deed after another, to where the machine stands, or where the till is switched off.
use Rattle.std.proofs.Common.{◌≡◌, ◌≢◌, inl, inr, Some, None, List, [], ◌∷◌, ◌++◌, refl, sym, ◌∙◌, ap, subst}
use Rattle.escpos_host.specs.Machine.{HostView, Down, IsSound}
use Rattle.escpos_link.specs.Wire.{WireView, given_up, with_link}
use Rattle.escpos_till.specs.declared.stage.Stage.{Stage}
use Rattle.escpos_till.specs.declared.stage.Stage.TheVariants as stage
use Rattle.escpos_till.specs.declared.stage.Then.TheVariants as then
use Rattle.escpos_till.specs.Driver.{Breaks, Confirms, Deed, DidAll, Ends, Gives, HangsUp, Keeps, Learns, Links, Loses, Misses, Pauses, Puts, Ran, Tells, Turns}
use Rattle.escpos_till.specs.Machine.{MachineView}
use Rattle.escpos_till_model.specs.Around.{Around, CrashesTo, Does, DoesInTime, HasNoLink, IsAround, Reaches, around}
use Rattle.escpos_till_model.specs.declared.event.Happening.{Happening}
use Rattle.escpos_till_model.specs.declared.event.Happening.TheVariants.{Crash, Idle}
use Rattle.escpos_till_model.specs.World.{Runs, World, with_wire, Crashes, off}
use Rattle.escpos_till_model.proofs.WireEvents.{goes_on_given_up}
use Rattle.escpos_till_model.proofs.Shown.{DownIn, Leads, Shows, ShowsWire, events_of, later, leads_on, one, runs_events, runs_more}
use Rattle.escpos_till_model.proofs.DrivenDeeds.{breaks, confirms, ends, gives, hangs_up, keeps, keeps_both, learns, links, loses_with, loses_with_both, loses_without, misses, misses_late, pauses, puts, tells}

-- ## A whole run

to_new : (w : World) (m : MachineView) (a new : Around) → new ≡ a → Leads w m a → Leads w m new
to_new w m a new is leads = subst (λ k. Leads w m k) (sym is) leads

pub does : (d : Deed) (m mid : MachineView) (a new : Around) (w : World) → Shows m a w → Turns m d mid → IsSound mid.host → Does a d new → Leads w mid new
does (Keeps e None) m mid a new w shows turns sound is = to_new w mid _ new is (keeps m mid a w e shows turns sound)
does (Keeps e (Some f)) m mid a new w shows turns sound is = to_new w mid _ new is (keeps_both m mid a w e f shows turns sound)
does (Loses e and_then why) m mid a new w shows turns sound (inl is) = to_new w mid _ new is (loses_without m mid a w e and_then why shows turns sound)
does (Loses e None why) m mid a new w shows turns sound (inr is) = to_new w mid _ new is (loses_with m mid a w e why shows turns sound)
does (Loses e (Some f) why) m mid a new w shows turns sound (inr is) = to_new w mid _ new is (loses_with_both m mid a w e f why shows turns sound)
does (Learns others) m mid a new w shows turns sound (added, is) = to_new w mid _ new is (learns m mid a w others shows turns sound added)
does Links m mid a new w shows turns sound is = to_new w mid _ new is (links m mid a w shows turns sound)
does Misses m mid a new w shows turns sound (inl is) = to_new w mid _ new is (misses m mid a w shows turns sound)
does Misses m mid a new w shows turns sound (inr is) = to_new w mid _ new is (misses_late m mid a w shows turns sound)
does (Puts bytes) m mid a new w shows turns sound is = to_new w mid _ new is (puts m mid a w bytes shows turns sound)
does (Breaks bytes why) m mid a new w shows turns sound (k, few, is) = to_new w mid _ new is (breaks m mid a w bytes why k shows turns sound few)
does (Gives room bytes) m mid a new w shows turns sound (bytes_are, is) = to_new w mid _ new is (gives room bytes m mid a w shows turns sound bytes_are)
does (Ends why) m mid a new w shows turns sound is = to_new w mid _ new is (ends m mid a w why shows turns sound)
does HangsUp m mid a new w shows turns sound is = to_new w mid _ new is (hangs_up m mid a w shows turns sound)
does (Pauses number why) m mid a new w shows turns sound is = to_new w mid _ new is (pauses m mid a w number why shows turns sound)
does (Confirms number) m mid a new w shows turns sound is = to_new w mid _ new is (confirms m mid a w number shows turns sound)
does (Tells note) m mid a new w shows turns sound is = to_new w mid _ new is (tells m mid a w note shows turns sound)

pub does_all : (ds : List Deed) (m after : MachineView) (a new : Around) (w : World) → Shows m a w → DidAll DoesInTime m a ds after new → Leads w after new
does_all [] m after a new w shows (is, same) =
    subst (λ k. Leads w k new) (sym is) (to_new w m a new same (record { happenings = []; now = w; runs = refl; shows = shows }))
does_all (d ∷ ds) m after a new w shows (mid, between, turns, sound, did, more) =
    let first = later m.stage m a w did.events did.wire refl shows shows.wire did.goes_on in
    let second = does d m mid (around a.kept did.wire a.told) between first.now first.shows turns sound did.does in
    leads_on w first.now after new first.happenings first.runs
    (leads_on first.now second.now after new second.happenings second.runs (does_all ds mid after between new second.now second.shows more))

-- ## Where the machine stands at the end

surrounds : (a : Around) (w : World) → w.kept ≡ a.kept → w.wire ≡ a.wire → w.told ≡ a.told → a ≡ around w.kept w.wire w.told
surrounds a w kept wire notes =
    ap (λ k. around k a.wire a.told) (sym kept) ∙ ap (λ v. around w.kept v a.told) (sym wire) ∙ ap (λ n. around w.kept w.wire n) (sym notes)

reach_on : (w : World) (m : MachineView) (a : Around) (leads : Leads w m a) (s : Stage) → m.stage ≡ s → leads.now.wire.printer ≡ a.wire.printer → (HasNoLink s → IsAround m a leads.now) → Reaches w m a
reach_on w m a leads s is printer rests = record {
  happenings = leads.happenings;
  now = leads.now;
  runs = leads.runs;
  kept = leads.shows.kept;
  told = leads.shows.told;
  printer = printer;
  rests = λ none. rests (subst HasNoLink is none);
}

reach_at_rest : (w : World) (m : MachineView) (a : Around) (leads : Leads w m a) (s : Stage) → m.stage ≡ s → HasNoLink s → (m.host.phase ≡ Down) × (leads.now.wire ≡ a.wire) → Reaches w m a
reach_at_rest w m a leads s is none (down, same) = reach_on w m a leads s is (ap (λ v. v.printer) same) (λ no. record {
  machine = leads.shows.machine;
  surrounds = surrounds a leads.now leads.shows.kept same leads.shows.told;
  stage = subst HasNoLink (sym is) none;
  down = down;
})

reach : (s : Stage) (w : World) (m : MachineView) (a : Around) (leads : Leads w m a) → m.stage ≡ s → ShowsWire s m.host leads.now.wire a.wire → Reaches w m a
reach (stage.Keeping e (then.Send due)) w m a leads is (down, (events, goes)) = record {
  happenings = leads.happenings ++ (Idle ∷ events_of events);
  now = with_wire leads.now (given_up a.wire);
  runs = runs_more leads.happenings (Idle ∷ events_of events) w leads.now (with_wire leads.now (given_up a.wire)) leads.runs (
    with_wire leads.now (given_up (with_link leads.now.wire)),
    record { none = λ k here. subst DownIn (sym leads.shows.machine ∙ here) down; is = refl },
    runs_events events (with_wire leads.now (given_up (with_link leads.now.wire))) (given_up a.wire) (goes_on_given_up events (with_link leads.now.wire) a.wire goes),
  );
  kept = leads.shows.kept;
  told = leads.shows.told;
  printer = refl;
  rests = λ none. absurd (subst HasNoLink is none);
}
reach (stage.Keeping e (then.Recorded number)) w m a leads is (up, (dropped, same)) = reach_on w m a leads _ is (ap (λ v. v.printer) same) (λ none. absurd none)
reach (stage.Keeping e (then.GoOn number tried due)) w m a leads is (up, same) = reach_on w m a leads _ is (ap (λ v. v.printer) same) (λ none. absurd none)
reach (stage.Keeping e (then.SendNext number due)) w m a leads is (up, same) = reach_on w m a leads _ is (ap (λ v. v.printer) same) (λ none. absurd none)
reach (stage.HangingUp note) w m a leads is (down, same) = reach_on w m a leads _ is (ap (λ v. v.printer) same) (λ none. absurd none)
reach (stage.Talking talk) w m a leads is (up, same) = reach_on w m a leads _ is (ap (λ v. v.printer) same) (λ none. absurd none)
reach stage.AtRest w m a leads is shown = reach_at_rest w m a leads stage.AtRest is tt shown
reach (stage.Connecting due) w m a leads is shown = reach_at_rest w m a leads (stage.Connecting due) is tt shown
reach (stage.Keeping e then.Queued) w m a leads is shown = reach_at_rest w m a leads (stage.Keeping e then.Queued) is tt shown
reach (stage.Keeping e (then.Take content)) w m a leads is shown = reach_at_rest w m a leads (stage.Keeping e (then.Take content)) is tt shown
reach (stage.Keeping e then.Raised) w m a leads is shown = reach_at_rest w m a leads (stage.Keeping e then.Raised) is tt shown
reach (stage.Keeping e (then.Cancelled number tried)) w m a leads is shown = reach_at_rest w m a leads (stage.Keeping e (then.Cancelled number tried)) is tt shown
reach (stage.Telling note) w m a leads is shown = reach_at_rest w m a leads (stage.Telling note) is tt shown
reach stage.Failed w m a leads is shown = reach_at_rest w m a leads stage.Failed is tt shown

-- ## Where the till is switched off

-- Its host is on no link: the wire stays as it is.
pub crash_down : (w : World) (m : MachineView) (wire : WireView) → w.machine ≡ Some m → w.wire ≡ wire → m.host.phase ≡ Down → Crashes w (off w w.wire)
crash_down w m wire was same down = record {
  wire = w.wire;
  no_link = λ none. refl;
  link = λ k here up. absurd (up (subst DownIn (sym was ∙ here) down));
  is = refl;
}

crash_up : (w : World) (m : MachineView) → w.machine ≡ Some m → m.host.phase ≢ Down → Crashes w (off w (given_up w.wire))
crash_up w m was up = record {
  wire = given_up w.wire;
  no_link = λ none. absurd (up (none m was));
  link = λ k here up. refl;
  is = refl;
}

crash_with : (w : World) (m : MachineView) (a : Around) (es : List Happening) (mid : World) (wire : WireView) (s : Stage) → m.stage ≡ s → Runs w es mid → Crashes mid (off mid wire) → mid.kept ≡ a.kept → mid.told ≡ a.told
    → (HasNoLink s → wire ≡ a.wire) → ((HasNoLink s → ⊥) → wire ≡ given_up a.wire) → CrashesTo w m a
crash_with w m a es mid wire s is runs crashes kept notes none some = record {
  happenings = es ++ Crash ∷ [];
  now = off mid wire;
  runs = runs_more es (Crash ∷ []) w mid (off mid wire) runs (one mid (off mid wire) Crash crashes);
  off = refl;
  kept = kept;
  told = notes;
  no_link = λ rests. none (subst HasNoLink is rests);
  link = λ not. some (λ rests. not (subst HasNoLink (sym is) rests));
}

crash_at_rest : (w : World) (m : MachineView) (a : Around) (leads : Leads w m a) (s : Stage) → m.stage ≡ s → HasNoLink s → (m.host.phase ≡ Down) × (leads.now.wire ≡ a.wire) → CrashesTo w m a
crash_at_rest w m a leads s is none (down, same) =
    crash_with w m a leads.happenings leads.now leads.now.wire s is leads.runs (crash_down leads.now m a.wire leads.shows.machine same down) leads.shows.kept leads.shows.told (λ no. same)
    (λ not. absurd (not none))

crash : (s : Stage) (w : World) (m : MachineView) (a : Around) (leads : Leads w m a) → m.stage ≡ s → ShowsWire s m.host leads.now.wire a.wire → CrashesTo w m a
crash (stage.Keeping e (then.Send due)) w m a leads is (down, (events, goes)) =
    let idle : World = with_wire leads.now (given_up (with_link leads.now.wire)) in
    let mid : World = with_wire leads.now (given_up a.wire) in
    crash_with w m a (leads.happenings ++ (Idle ∷ events_of events)) mid (given_up a.wire) (stage.Keeping e (then.Send due)) is
    (runs_more leads.happenings (Idle ∷ events_of events) w leads.now mid leads.runs (
      idle,
      record { none = λ k here. subst DownIn (sym leads.shows.machine ∙ here) down; is = refl },
      runs_events events idle (given_up a.wire) (goes_on_given_up events (with_link leads.now.wire) a.wire goes),
    ))
    (crash_down mid m (given_up a.wire) leads.shows.machine refl down) leads.shows.kept leads.shows.told (λ none. absurd none) (λ not. refl)
crash (stage.Keeping e (then.Recorded number)) w m a leads is (up, (dropped, same)) =
    crash_with w m a leads.happenings leads.now (given_up leads.now.wire) (stage.Keeping e (then.Recorded number)) is leads.runs (crash_up leads.now m leads.shows.machine up) leads.shows.kept leads.shows.told
    (λ none. absurd none) (λ not. ap given_up same)
crash (stage.Keeping e (then.GoOn number tried due)) w m a leads is (up, same) =
    crash_with w m a leads.happenings leads.now (given_up leads.now.wire) (stage.Keeping e (then.GoOn number tried due)) is leads.runs (crash_up leads.now m leads.shows.machine up) leads.shows.kept leads.shows.told
    (λ none. absurd none) (λ not. ap given_up same)
crash (stage.Keeping e (then.SendNext number due)) w m a leads is (up, same) =
    crash_with w m a leads.happenings leads.now (given_up leads.now.wire) (stage.Keeping e (then.SendNext number due)) is leads.runs (crash_up leads.now m leads.shows.machine up) leads.shows.kept leads.shows.told
    (λ none. absurd none) (λ not. ap given_up same)
crash (stage.Talking talk) w m a leads is (up, same) =
    crash_with w m a leads.happenings leads.now (given_up leads.now.wire) (stage.Talking talk) is leads.runs (crash_up leads.now m leads.shows.machine up) leads.shows.kept leads.shows.told (λ none. absurd none)
    (λ not. ap given_up same)
crash (stage.HangingUp note) w m a leads is (down, same) =
    crash_with w m a leads.happenings leads.now leads.now.wire (stage.HangingUp note) is leads.runs (crash_down leads.now m (given_up a.wire) leads.shows.machine same down) leads.shows.kept leads.shows.told
    (λ none. absurd none) (λ not. same)
crash stage.AtRest w m a leads is shown = crash_at_rest w m a leads stage.AtRest is tt shown
crash (stage.Connecting due) w m a leads is shown = crash_at_rest w m a leads (stage.Connecting due) is tt shown
crash (stage.Keeping e then.Queued) w m a leads is shown = crash_at_rest w m a leads (stage.Keeping e then.Queued) is tt shown
crash (stage.Keeping e (then.Take content)) w m a leads is shown = crash_at_rest w m a leads (stage.Keeping e (then.Take content)) is tt shown
crash (stage.Keeping e then.Raised) w m a leads is shown = crash_at_rest w m a leads (stage.Keeping e then.Raised) is tt shown
crash (stage.Keeping e (then.Cancelled number tried)) w m a leads is shown = crash_at_rest w m a leads (stage.Keeping e (then.Cancelled number tried)) is tt shown
crash (stage.Telling note) w m a leads is shown = crash_at_rest w m a leads (stage.Telling note) is tt shown
crash stage.Failed w m a leads is shown = crash_at_rest w m a leads stage.Failed is tt shown

starts : (s : Stage) (h : HostView) (w near : WireView) → HasNoLink s → h.phase ≡ Down → w ≡ near → ShowsWire s h w near
starts stage.AtRest h w near none down same = (down, same)
starts (stage.Connecting due) h w near none down same = (down, same)
starts (stage.Keeping e then.Queued) h w near none down same = (down, same)
starts (stage.Keeping e (then.Take content)) h w near none down same = (down, same)
starts (stage.Keeping e then.Raised) h w near none down same = (down, same)
starts (stage.Keeping e (then.Cancelled number tried)) h w near none down same = (down, same)
starts (stage.Keeping e (then.Send due)) h w near none down same = absurd none
starts (stage.Keeping e (then.Recorded number)) h w near none down same = absurd none
starts (stage.Keeping e (then.GoOn number tried due)) h w near none down same = absurd none
starts (stage.Keeping e (then.SendNext number due)) h w near none down same = absurd none
starts (stage.Talking talk) h w near none down same = absurd none
starts (stage.HangingUp note) h w near none down same = absurd none
starts (stage.Telling note) h w near none down same = (down, same)
starts stage.Failed h w near none down same = (down, same)

-- What surrounds a machine shows in the world.
pub shows_around : (m : MachineView) (a : Around) (w : World) → IsAround m a w → Shows m a w
shows_around m a w here = record {
  machine = here.machine;
  kept = ap (λ k. k.kept) (sym here.surrounds);
  told = ap (λ k. k.told) (sym here.surrounds);
  wire = starts m.stage m.host w.wire a.wire here.stage here.down (ap (λ k. k.wire) (sym here.surrounds));
}

-- A driver's run, as it shows in the world.
run_shown : (m after : MachineView) (a new : Around) (w : World) → IsAround m a w → Ran DoesInTime m a after new → Leads w after new
run_shown m after a new w here ran =
    does_all ran.deeds m after a new w (shows_around m a w here) ran.did_all

pub driven : (m after : MachineView) (a new : Around) (w : World) → IsAround m a w → Ran DoesInTime m a after new → Reaches w after new
driven m after a new w here ran =
    let leads = run_shown m after a new w here ran in
    reach after.stage w after new leads refl leads.shows.wire

pub crashed : (m after : MachineView) (a new : Around) (w : World) → IsAround m a w → Ran DoesInTime m a after new → CrashesTo w after new
crashed m after a new w here ran =
    let leads = run_shown m after a new w here ran in
    crash after.stage w after new leads refl leads.shows.wire
