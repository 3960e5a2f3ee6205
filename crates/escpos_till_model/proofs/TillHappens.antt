-- What is done to a till's machine, its store and its wire is what happens in the world.
use Rattle.std.proofs.Common.{ℕ, zero, suc, ◌≡◌, ◌≢◌, ◌<◌, ◌⊎◌, inl, inr, Option, Some, None, List, [], ◌∷◌, ◌++◌, take, refl, sym, ◌∙◌, ap, subst}
use Rattle.escpos_command.specs.declared.command.Command.{Command}
use Rattle.escpos_host.specs.declared.send.SendFault.{SendFault}
use Rattle.escpos_host.specs.Earlier.{with_earlier}
use Rattle.escpos_host.specs.Heard.{EndsLink}
use Rattle.escpos_host.specs.declared.host.HostEvent.{HostEvent}
use Rattle.escpos_host.specs.declared.host.HostEvent.TheVariants as heard
use Rattle.escpos_host.specs.Machine.{Down, HostView, IsSound, Open, Opening, reports_asked, submitted}
use Rattle.escpos_link.specs.declared.event.Event.TheVariants as line
use Rattle.escpos_link.specs.declared.event.Refused.{Refused}
use Rattle.escpos_link.specs.EventTable.{delivered, left_by}
use Rattle.escpos_link.specs.Wire.{IsRefusedOnWire, WireView, given_up, heard_from, line_of, wire_of, with_link}
use Rattle.escpos_printer.specs.Feeds.{PrinterView}
use Rattle.escpos_printer.specs.declared.printer.FeedStop.{FeedStop}
use Rattle.escpos_printer.specs.declared.printer.FeedStop.TheVariants as stop
use Rattle.escpos_till.specs.declared.book.Book.{Book}
use Rattle.escpos_till.specs.Delivers.{fresh}
use Rattle.escpos_till.specs.declared.entry.Content.{Content}
use Rattle.escpos_till.specs.declared.entry.Entry.{Entry}
use Rattle.escpos_till.specs.declared.entry.Entry.TheVariants as entry
use Rattle.escpos_till.specs.declared.stage.Due.{Due}
use Rattle.escpos_till.specs.declared.stage.Stage.{Stage}
use Rattle.escpos_till.specs.declared.stage.Stage.TheVariants as stage
use Rattle.escpos_till.specs.declared.stage.Talk.{Talk}
use Rattle.escpos_till.specs.declared.stage.Then.{Then}
use Rattle.escpos_till.specs.declared.stage.Then.TheVariants as then
use Rattle.escpos_till.specs.declared.note.TillNote.{TillNote}
use Rattle.escpos_till.specs.declared.store.StoreFault.{StoreFault}
use Rattle.escpos_till.specs.Machine.{Came, Drops, Ended, Follows, GoesOn, Kept, MachineView, Opens, Submits, Suits, Turns, Unsure, connected, hung_up, not_connected, told, with_pause}
use Rattle.escpos_till_model.specs.Kept.{Hand, IsInHand, Keeps}
use Rattle.escpos_till_model.specs.Known.{Holds, IsToKeep, IsWorld}
use Rattle.escpos_till.specs.Machine.{IsLinked as Linked}
use Rattle.escpos_till_model.specs.World.{Calls, GoesOnWire, Hears, Idles, Runs, Stores, Tells, Wired, World, running, with_entry, with_wire}
use Rattle.escpos_till_model.specs.declared.event.Happening.TheVariants as event
use Rattle.std.proofs.lemmas.Option.{same_Some}
use Rattle.escpos_till_model.proofs.DrivenDeeds.{refused_down}
use Rattle.escpos_till_model.proofs.HostHears.{heard_one}
use Rattle.escpos_till_model.proofs.LinesKept.{down_or_up}
use Rattle.escpos_till_model.proofs.WorldCalls.{parts}

-- ## The host stays as it is

pub unwired : (h after : HostView) (w : WireView) → after ≡ h → Wired h after w w
unwired h after w same = record {
  stays_down = λ a b. refl;
  goes_up = λ down up. absurd (up (ap (λ v. v.phase) same ∙ down));
  stays_up = λ a b. refl;
  goes_down = λ up down. absurd (up (ap (λ v. v.phase) (sym same) ∙ down));
}

-- The machine is called, and nothing else changes.
pub called : (Goes : MachineView → MachineView → Type 0) (w : World) (m after : MachineView) → w.machine ≡ Some m → Goes m after → IsSound after.host → after.host ≡ m.host
    → Calls Goes w (running after w.kept w.wire w.told)
called Goes w m after was goes sound same =
    record { m = m; after = after; wire = w.wire; was = was; goes = goes; sound = sound; wired = unwired m.host after.host w.wire same; is = refl }

-- The same, where the world is the view of what a till is made of.
pub called_in : (Goes : MachineView → MachineView → Type 0) (w v : World) (m after : MachineView) → v ≡ w → v.machine ≡ Some m → Goes m after → IsSound after.host → after.host ≡ m.host
    → Calls Goes w (running after v.kept v.wire v.told)
called_in Goes w v m after view was goes sound same = subst (λ x. Calls Goes x (running after v.kept v.wire v.told)) view (called Goes v m after was goes sound same)

pub connected_host : (s : Stage) (m : MachineView) → (connected s m).host ≡ m.host
connected_host stage.AtRest m = refl
connected_host (stage.Connecting due) m = refl
connected_host (stage.Keeping e next) m = refl
connected_host (stage.Talking talk) m = refl
connected_host (stage.HangingUp n) m = refl
connected_host (stage.Telling n) m = refl
connected_host stage.Failed m = refl

pub missed_host : (s : Stage) (m : MachineView) → (not_connected s m).host ≡ m.host
missed_host stage.AtRest m = refl
missed_host (stage.Connecting due) m = refl
missed_host (stage.Keeping e next) m = refl
missed_host (stage.Talking talk) m = refl
missed_host (stage.HangingUp n) m = refl
missed_host (stage.Telling n) m = refl
missed_host stage.Failed m = refl

pub hung_host : (s : Stage) (m : MachineView) → (hung_up s m).host ≡ m.host
hung_host stage.AtRest m = refl
hung_host (stage.Connecting due) m = refl
hung_host (stage.Keeping e next) m = refl
hung_host (stage.Talking talk) m = refl
hung_host (stage.HangingUp n) m = refl
hung_host (stage.Telling n) m = refl
hung_host stage.Failed m = refl

-- Its owner is told a note.
pub tells : (w : World) (m after : MachineView) (n : TillNote) → w.machine ≡ Some m → m.stage ≡ stage.Telling n → after ≡ told m.stage m → IsSound after.host
    → Tells w (running after w.kept w.wire (w.told ++ n ∷ []))
tells w m after n was is same sound = record {
  note = n;
  moves = record {
    m = m;
    after = after;
    wire = w.wire;
    was = was;
    goes = (is, same);
    sound = sound;
    wired = unwired m.host after.host w.wire (ap (λ v. v.host) (same ∙ ap (λ s. told s m) is));
    is = refl;
  };
}

-- ## Links

pub up_by : (kept : List Entry) (hand : Option Hand) (h : HostView) (s : Stage) → Holds kept hand h s → Linked s → h.phase ≢ Down
up_by kept hand h stage.AtRest holds linked = absurd linked
up_by kept hand h (stage.Connecting due) holds linked = absurd linked
up_by kept hand h (stage.Keeping e then.Queued) holds linked = absurd linked
up_by kept hand h (stage.Keeping e (then.Take content)) holds linked = absurd linked
up_by kept hand h (stage.Keeping e then.Raised) holds linked = absurd linked
up_by kept hand h (stage.Keeping e (then.Cancelled n tried)) holds linked = absurd linked
up_by kept hand h (stage.Keeping e (then.Send due)) holds linked = absurd linked
up_by kept hand h (stage.Keeping e (then.Recorded k)) (follows, (held, hand_is, same, is, more, up)) linked = up
up_by kept hand h (stage.Keeping e (then.GoOn k tried due)) (follows, ((held, hand_is, same, is, more, up), send)) linked = up
up_by kept hand h (stage.Keeping e (then.SendNext k due)) (follows, (held, hand_is, all, send, so)) linked = λ down. let bad : Open [] ≡ Down = sym send.link ∙ down in cc
up_by kept hand h (stage.Talking talk) (held, hand_is, number, receipt, follows, records, up, reserved, news, known) linked = up
up_by kept hand h (stage.HangingUp n) holds linked = absurd linked
up_by kept hand h (stage.Telling n) holds linked = absurd linked
up_by kept hand h stage.Failed holds linked = absurd linked

pub none_down : (kept : List Entry) (hand : Option Hand) (h : HostView) → Keeps kept hand h → hand ≡ None → h.phase ≡ Down
none_down kept hand h k none = subst (λ v. IsInHand kept v k.answered h) none k.in_hand

pub down_by : (kept : List Entry) (hand : Option Hand) (h : HostView) (s : Stage) → Keeps kept hand h → Holds kept hand h s → (Linked s → ⊥) → h.phase ≡ Down
down_by kept hand h stage.AtRest k none linked = none_down kept hand h k none
down_by kept hand h (stage.Connecting due) k (none, send) linked = none_down kept hand h k none
down_by kept hand h (stage.Keeping e then.Queued) k (follows, (none, content, is)) linked = none_down kept hand h k none
down_by kept hand h (stage.Keeping e (then.Take content)) k (follows, (none, suits)) linked = none_down kept hand h k none
down_by kept hand h (stage.Keeping e then.Raised) k (follows, (none, first, hd, is)) linked = none_down kept hand h k none
down_by kept hand h (stage.Keeping e (then.Cancelled number tried)) k (follows, (none, is, times)) linked = none_down kept hand h k none
down_by kept hand h (stage.Keeping e (then.Send due)) k (follows, (none, send, is)) linked = none_down kept hand h k none
down_by kept hand h (stage.Keeping e (then.Recorded number)) k holds linked = absurd (linked tt)
down_by kept hand h (stage.Keeping e (then.GoOn number tried due)) k holds linked = absurd (linked tt)
down_by kept hand h (stage.Keeping e (then.SendNext number due)) k holds linked = absurd (linked tt)
down_by kept hand h (stage.Talking talk) k holds linked = absurd (linked tt)
down_by kept hand h (stage.HangingUp n) k (none, so) linked = none_down kept hand h k none
down_by kept hand h (stage.Telling n) k (none, so) linked = none_down kept hand h k none
down_by kept hand h stage.Failed k none linked = none_down kept hand h k none

pub linked_or_not : (s : Stage) → Linked s ⊎ (Linked s → ⊥)
linked_or_not stage.AtRest = inr (λ l. l)
linked_or_not (stage.Connecting due) = inr (λ l. l)
linked_or_not (stage.Keeping e then.Queued) = inr (λ l. l)
linked_or_not (stage.Keeping e (then.Take content)) = inr (λ l. l)
linked_or_not (stage.Keeping e then.Raised) = inr (λ l. l)
linked_or_not (stage.Keeping e (then.Cancelled number tried)) = inr (λ l. l)
linked_or_not (stage.Keeping e (then.Send due)) = inr (λ l. l)
linked_or_not (stage.Keeping e (then.Recorded number)) = inl tt
linked_or_not (stage.Keeping e (then.GoOn number tried due)) = inl tt
linked_or_not (stage.Keeping e (then.SendNext number due)) = inl tt
linked_or_not (stage.Talking talk) = inl tt
linked_or_not (stage.HangingUp n) = inr (λ l. l)
linked_or_not (stage.Telling n) = inr (λ l. l)
linked_or_not stage.Failed = inr (λ l. l)

-- A machine's host is on a link where its stage says so.
pub is_up : (w : World) (m : MachineView) → IsWorld w → w.machine ≡ Some m → Linked m.stage → m.host.phase ≢ Down
is_up w m known was linked = let p = parts w m was known in up_by w.kept p.hand (with_earlier p.earlier m.host) m.stage p.holds linked

pub is_down : (w : World) (m : MachineView) → IsWorld w → w.machine ≡ Some m → (Linked m.stage → ⊥) → m.host.phase ≡ Down
is_down w m known was none = let p = parts w m was known in down_by w.kept p.hand (with_earlier p.earlier m.host) m.stage p.account.keeps p.holds none

-- The host gives its link up, if it has one.
pub drops_wired : (w : World) (m after : MachineView) (wire : WireView) → IsWorld w → w.machine ≡ Some m → Drops m.host after.host → (Linked m.stage → wire ≡ given_up w.wire)
    → ((Linked m.stage → ⊥) → wire ≡ w.wire) → Wired m.host after.host w.wire wire
drops_wired w m after wire known was drops gone stays =
    let up : (m.host.phase ≡ Down → ⊥) → Linked m.stage = λ u. elim (linked_or_not m.stage) [ inl l ↦ l | inr none ↦ absurd (u (is_down w m known was none)) ] in
    let down : m.host.phase ≡ Down → Linked m.stage → ⊥ = λ d l. is_up w m known was l d in
    record {
      stays_down = λ d b. stays (down d);
      goes_up = λ d u. absurd (u (ap (λ v. v.phase) (drops.0 d) ∙ d));
      stays_up = λ u b. absurd (b (ap (λ v. v.phase) (drops.1 u)));
      goes_down = λ u b. gone (up u);
    }

-- ## The store fails

pub fails : (has : List Entry → Entry → List Entry) (w : World) (why : StoreFault) (m after : MachineView) (wire : WireView) (e : Entry) (next : Then) → IsWorld w → w.machine ≡ Some m
    → m.stage ≡ stage.Keeping e next → Unsure m.stage why m after → IsSound after.host → (Linked m.stage → wire ≡ given_up w.wire) → ((Linked m.stage → ⊥) → wire ≡ w.wire)
    → Stores (λ x y. Unsure x.stage why x y) has w (running after (has w.kept e) wire w.told)
fails has w why m after wire e next known was is unsure sound gone stays =
    let drops = (subst (λ s. Unsure s why m after) is unsure).0 in
    record {
      entry = e;
      next = next;
      moves = record {
        m = m;
        after = after;
        wire = wire;
        was = was;
        goes = (is, unsure);
        sound = sound;
        wired = drops_wired w m after wire known was drops gone stays;
        is = refl;
      };
    }

-- ## An entry is kept

-- What the entry is that a machine asks for.
pub to_keep : (w : World) (m : MachineView) (e : Entry) (next : Then) → (known : IsWorld w) → (was : w.machine ≡ Some m) → m.stage ≡ stage.Keeping e next
    → let p = parts w m was known in IsToKeep w.kept p.hand (with_earlier p.earlier m.host) e next
to_keep w m e next known was is = let p = parts w m was known in (subst (λ s. Holds w.kept p.hand (with_earlier p.earlier m.host) s) is p.holds).1

-- No try comes before the entry by which a receipt is taken.
first_no_try : (e : Entry) (content : Content) (number limit : ℕ) → Suits (then.Take content) e → e ≢ entry.Tried number limit
first_no_try e content number limit suits is = subst (Suits (then.Take content)) is suits

pub other_wired : (w : World) (m after : MachineView) (wire : WireView) (e : Entry) (next : Then) (hand : Option Hand) (h : HostView) → IsWorld w → w.machine ≡ Some m
    → m.stage ≡ stage.Keeping e next → IsToKeep w.kept hand h e next → ((Linked m.stage → ⊥) → (number limit : ℕ) → e ≢ entry.Tried number limit)
    → Follows next m.host m.book.next after.book after.host after.stage → (Linked m.stage → (Linked after.stage → ⊥) → wire ≡ given_up w.wire) → (Linked after.stage → wire ≡ w.wire)
    → ((Linked m.stage → ⊥) → wire ≡ w.wire) → Wired m.host after.host w.wire wire
other_wired w m after wire e then.Queued hand h known was is holds other (number, n_is, host, now) gone on stays =
    subst (λ v. Wired m.host after.host w.wire v) (sym (stays (λ l. subst Linked is l))) (unwired m.host after.host w.wire host)
other_wired w m after wire e (then.Take content) hand h known was is holds other (host, now) gone on stays =
    subst (λ v. Wired m.host after.host w.wire v) (sym (stays (λ l. subst Linked is l))) (unwired m.host after.host w.wire host)
other_wired w m after wire e then.Raised hand h known was is holds other (host, now) gone on stays =
    subst (λ v. Wired m.host after.host w.wire v) (sym (stays (λ l. subst Linked is l))) (unwired m.host after.host w.wire host)
other_wired w m after wire e (then.Cancelled number tried) hand h known was is holds other (host, now) gone on stays =
    subst (λ v. Wired m.host after.host w.wire v) (sym (stays (λ l. subst Linked is l))) (unwired m.host after.host w.wire host)
other_wired w m after wire e (then.Send due) hand h known was is (none, send, e_is) other so gone on stays = absurd (other (λ l. subst Linked is l) due.number _ e_is)
other_wired w m after wire e (then.Recorded number) hand h known was is holds other (drops, now) gone on stays =
    drops_wired w m after wire known was drops (λ l. gone l (λ k. subst Linked now k)) stays
other_wired w m after wire e (then.GoOn number tried due) hand h known was is holds other (host, now) gone on stays =
    subst (λ v. Wired m.host after.host w.wire v) (sym (on (subst Linked (sym now) tt))) (unwired m.host after.host w.wire host)
other_wired w m after wire e (then.SendNext number due) hand h known was is holds other (inl ((phase, mark, host), now)) gone on stays =
    let same : wire ≡ w.wire = on (subst Linked (sym now) tt) in
    let up : m.host.phase ≢ Down = is_up w m known was (subst Linked (sym is) tt) in
    let up' : after.host.phase ≢ Down = subst (λ v. v.phase ≢ Down) (sym host) (λ bad. cc bad) in
    record { stays_down = λ d b. absurd (up d); goes_up = λ d b. absurd (up d); stays_up = λ a b. same; goes_down = λ a b. absurd (up' b) }
other_wired w m after wire e (then.SendNext number due) hand h known was is holds other (inr (why, refuses, drops, now)) gone on stays =
    drops_wired w m after wire known was drops (λ l. gone l (λ k. subst Linked now k)) stays

-- No link is opened for it.
pub keeps_other : (w : World) (m after : MachineView) (wire : WireView) (e : Entry) (next : Then) → IsWorld w → w.machine ≡ Some m → m.stage ≡ stage.Keeping e next
    → ((Linked m.stage → ⊥) → (number limit : ℕ) → e ≢ entry.Tried number limit) → Kept m.stage m after → IsSound after.host
    → (Linked m.stage → (Linked after.stage → ⊥) → wire ≡ given_up w.wire) → (Linked after.stage → wire ≡ w.wire) → ((Linked m.stage → ⊥) → wire ≡ w.wire)
    → Stores (λ x y. Kept x.stage x y) with_entry w (running after (w.kept ++ e ∷ []) wire w.told)
keeps_other w m after wire e next known was is other kept sound gone on stays =
    let p = parts w m was known in
    let (notes, so) = subst (λ s. Kept s m after) is kept in
    record {
      entry = e;
      next = next;
      moves = record {
        m = m;
        after = after;
        wire = wire;
        was = was;
        goes = (is, kept);
        sound = sound;
        wired = other_wired w m after wire e next p.hand (with_earlier p.earlier m.host) known was is (to_keep w m e next known was is) other so gone on stays;
        is = refl;
      };
    }

by_next : (kept : List Entry) (hand : Option Hand) (h : HostView) (m after : MachineView) (e : Entry) (next : Then) (number limit : ℕ) → (Linked (stage.Keeping e next) → ⊥) → e ≡ entry.Tried number limit
    → IsToKeep kept hand h e next → Follows next m.host m.book.next after.book after.host after.stage → (due : Due) × Opens due m.book.next after.book.heard after.host after.stage
by_next kept hand h m after e then.Queued number limit free tried (none, content, is) so = absurd (let bad : entry.Queued content ≡ entry.Tried number limit = sym is ∙ tried in cc)
by_next kept hand h m after e (then.Take content) number limit free tried (none, suits) so = absurd (first_no_try e content number limit suits tried)
by_next kept hand h m after e then.Raised number limit free tried (none, first, hd, is) so = absurd (let bad : entry.Raised first hd ≡ entry.Tried number limit = sym is ∙ tried in cc)
by_next kept hand h m after e (then.Cancelled n often) number limit free tried (none, is, times) so = absurd (let bad : entry.Cancelled n ≡ entry.Tried number limit = sym is ∙ tried in cc)
by_next kept hand h m after e (then.Send due) number limit free tried holds so = (due, so)
by_next kept hand h m after e (then.Recorded n) number limit free tried holds so = absurd (free tt)
by_next kept hand h m after e (then.GoOn n this due) number limit free tried holds so = absurd (free tt)
by_next kept hand h m after e (then.SendNext n due) number limit free tried holds so = absurd (free tt)

opened_up : (due : Due) (first heard : ℕ) (after : MachineView) (talk : Talk) → after.stage ≡ stage.Talking talk → Opens due first heard after.host after.stage → after.host.phase ≢ Down
opened_up due first heard after talk talks (inl (host, now)) = λ gone. let bad : Opening first ≡ Down = ap (λ v. v.phase) (sym host) ∙ gone in cc
opened_up due first heard after talk talks (inr (why, refuses, now)) = absurd (let bad : stage.Talking talk ≡ stage.HangingUp _ = sym talks ∙ now in cc)

opened_down : (due : Due) (first heard : ℕ) (after : MachineView) → ((talk : Talk) → after.stage ≢ stage.Talking talk) → Opens due first heard after.host after.stage → after.host.phase ≡ Down
opened_down due first heard after silent (inl (host, now)) = absurd (silent _ now)
opened_down due first heard after silent (inr (why, refuses, now)) = refused_down why first heard _ after.host refuses

-- What follows a try: the host has put its opening marks out, or couldn't.
pub tried_follows : (w : World) (m after : MachineView) (e : Entry) (next : Then) (number limit : ℕ) → IsWorld w → w.machine ≡ Some m → m.stage ≡ stage.Keeping e next
    → (Linked m.stage → ⊥) → e ≡ entry.Tried number limit → Kept m.stage m after → (m.host.phase ≡ Down) × ((due : Due) × Opens due m.book.next after.book.heard after.host after.stage)
tried_follows w m after e next number limit known was is free tried kept =
    let p = parts w m was known in
    let (notes, so) = subst (λ s. Kept s m after) is kept in
    (is_down w m known was free, by_next w.kept p.hand (with_earlier p.earlier m.host) m after e next number limit (λ l. free (subst Linked (sym is) l)) tried (to_keep w m e next known was is) so)

pub tried_up : (w : World) (m after : MachineView) (e : Entry) (next : Then) (number limit : ℕ) → IsWorld w → w.machine ≡ Some m → m.stage ≡ stage.Keeping e next
    → (Linked m.stage → ⊥) → e ≡ entry.Tried number limit → Kept m.stage m after → IsSound after.host → (talk : Talk) → after.stage ≡ stage.Talking talk
    → Stores (λ x y. Kept x.stage x y) with_entry w (running after (w.kept ++ e ∷ []) (with_link w.wire) w.told)
tried_up w m after e next number limit known was is free tried kept sound talk talks =
    let (down, (due, opens)) = tried_follows w m after e next number limit known was is free tried kept in
    let up : after.host.phase ≢ Down = opened_up due m.book.next after.book.heard after talk talks opens in
    record {
      entry = e;
      next = next;
      moves = record {
        m = m;
        after = after;
        wire = with_link w.wire;
        was = was;
        goes = (is, kept);
        sound = sound;
        wired = record { stays_down = λ d b. absurd (up b); goes_up = λ d u. refl; stays_up = λ u b. absurd (u down); goes_down = λ u b. absurd (u down) };
        is = refl;
      };
    }

-- The link that was there for it is given up with nothing on it.
pub tried_idle : (w : World) (m after : MachineView) (e : Entry) (next : Then) (number limit : ℕ) → IsWorld w → w.machine ≡ Some m → m.stage ≡ stage.Keeping e next
    → (Linked m.stage → ⊥) → e ≡ entry.Tried number limit → Kept m.stage m after → IsSound after.host → ((talk : Talk) → after.stage ≢ stage.Talking talk)
    → Runs w (event.Idle ∷ event.Keep ∷ []) (running after (w.kept ++ e ∷ []) (given_up (with_link w.wire)) w.told)
tried_idle w m after e next number limit known was is free tried kept sound silent =
    let (down, (due, opens)) = tried_follows w m after e next number limit known was is free tried kept in
    let none : after.host.phase ≡ Down = opened_down due m.book.next after.book.heard after silent opens in
    let middle : World = with_wire w (given_up (with_link w.wire)) in
    let last : World = running after (w.kept ++ e ∷ []) (given_up (with_link w.wire)) w.told in
    let there : (x : MachineView) → w.machine ≡ Some x → x.host.phase ≡ Down = λ x same. let one : m ≡ x = same_Some m x (sym was ∙ same) in ap (λ v. v.host.phase) (sym one) ∙ down in
    let idle : Idles w middle = record { none = there; is = refl } in
    let stored : Stores (λ x y. Kept x.stage x y) with_entry middle last = record {
      entry = e;
      next = next;
      moves = record {
        m = m;
        after = after;
        wire = given_up (with_link w.wire);
        was = was;
        goes = (is, kept);
        sound = sound;
        wired = record { stays_down = λ d b. refl; goes_up = λ d u. absurd (u none); stays_up = λ u b. absurd (u down); goes_down = λ u b. absurd (u down) };
        is = refl;
      };
    } in
    (middle, idle, (last, stored, refl))

-- ## The link ends

pub same_wired : (w : World) (m after : MachineView) (wire : WireView) → after ≡ m → wire ≡ w.wire → Wired m.host after.host w.wire wire
same_wired w m after wire same is = subst (λ v. Wired m.host after.host w.wire v) (sym is) (unwired m.host after.host w.wire (ap (λ v. v.host) same))

pub ended_wired : (w : World) (m after : MachineView) (wire : WireView) (why : SendFault) (s : Stage) → m.stage ≡ s → IsWorld w → w.machine ≡ Some m → Ended s why m after
    → ((talk : Talk) → s ≡ stage.Talking talk → wire ≡ given_up w.wire) → (((talk : Talk) → s ≢ stage.Talking talk) → wire ≡ w.wire) → Wired m.host after.host w.wire wire
ended_wired w m after wire why (stage.Talking talk) is known was (drops, book, now) gone stays =
    drops_wired w m after wire known was drops (λ l. gone talk refl) (λ none. absurd (none (subst Linked (sym is) tt)))
ended_wired w m after wire why stage.AtRest is known was same gone stays = same_wired w m after wire same (stays (λ talk bad. cc bad))
ended_wired w m after wire why (stage.Connecting due) is known was same gone stays = same_wired w m after wire same (stays (λ talk bad. cc bad))
ended_wired w m after wire why (stage.Keeping e next) is known was same gone stays = same_wired w m after wire same (stays (λ talk bad. cc bad))
ended_wired w m after wire why (stage.HangingUp n) is known was same gone stays = same_wired w m after wire same (stays (λ talk bad. cc bad))
ended_wired w m after wire why (stage.Telling n) is known was same gone stays = same_wired w m after wire same (stays (λ talk bad. cc bad))
ended_wired w m after wire why stage.Failed is known was same gone stays = same_wired w m after wire same (stays (λ talk bad. cc bad))

pub ends : (w : World) (m after : MachineView) (wire : WireView) (why : SendFault) → IsWorld w → w.machine ≡ Some m → Ended m.stage why m after → IsSound after.host
    → ((talk : Talk) → m.stage ≡ stage.Talking talk → wire ≡ given_up w.wire) → (((talk : Talk) → m.stage ≢ stage.Talking talk) → wire ≡ w.wire)
    → Calls (λ x y. Ended x.stage why x y) w (running after w.kept wire w.told)
ends w m after wire why known was ended sound gone stays =
    record { m = m; after = after; wire = wire; was = was; goes = ended; sound = sound; wired = ended_wired w m after wire why m.stage refl known was ended gone stays; is = refl }

-- ## Answers are heard

dropped_down : (h after : HostView) → Drops h after → after.phase ≡ Down
dropped_down h after drops = elim (down_or_up h.phase) [
  | inl down ↦ ap (λ v. v.phase) (drops.0 down) ∙ down
  | inr up ↦ ap (λ v. v.phase) (drops.1 up)
]

-- The machine's host is on a link where its stage says so.
pub record Agrees (after : MachineView) : Type 0 where
  pub up : Linked after.stage → after.host.phase ≢ Down
  pub down : (Linked after.stage → ⊥) → after.host.phase ≡ Down

agrees_over : (h : HostView) (after : MachineView) (n : TillNote) → Drops h after.host → after.stage ≡ stage.HangingUp n → Agrees after
agrees_over h after n drops now = record { up = λ l. absurd (subst Linked now l); down = λ none. dropped_down h after.host drops }

agrees_on : (h : HostView) (after : MachineView) (s : Stage) → Linked s → h.phase ≢ Down → after.host ≡ h → after.stage ≡ s → Agrees after
agrees_on h after s linked up same now = record {
  up = λ l gone. up (ap (λ v. v.phase) (sym same) ∙ gone);
  down = λ none. absurd (none (subst Linked (sym now) linked));
}

agrees_going : (talk : Talk) (left : ℕ) (h : HostView) (after : MachineView) → h.phase ≢ Down → GoesOn talk left h after.host after.stage → Agrees after
agrees_going talk zero h after up so = agrees_over h after _ so.0 so.1
agrees_going talk (suc left) h after up so = agrees_on h after _ tt up so.0 so.1

agrees_submitted : (talk : Talk) (receipt : Option (List Command)) (left : ℕ) (h : HostView) (after : MachineView) → h.phase ≢ Down → Submits talk receipt left h after.host after.stage
    → Agrees after
agrees_submitted talk (Some receipt) (suc left) h after up (inl ((phase, mark, same), now)) =
    agrees_on (submitted (reports_asked h) [] receipt) after _ tt (λ gone. cc gone) same now
agrees_submitted talk (Some receipt) (suc left) h after up (inr (why, refuses, drops, now)) = agrees_over h after _ drops now
agrees_submitted talk (Some receipt) zero h after up so = agrees_going talk zero h after up so
agrees_submitted talk None left h after up so = agrees_going talk left h after up so

agrees_turned : (b : Book) (e : HostEvent) (talk : Talk) (left : ℕ) (h : HostView) (after : MachineView) → ((EndsLink e → ⊥) → h.phase ≢ Down) → Turns b e talk left h after.host after.stage → Agrees after
agrees_turned b heard.None talk left h after up so = agrees_going talk left h after (up (λ l. l)) so
agrees_turned b (heard.Status byte) talk left h after up so = agrees_going talk left h after (up (λ l. l)) so
agrees_turned b (heard.Condition block) talk left h after up (p, told, so) = agrees_going (with_pause talk p) left h after (up (λ l. l)) so
agrees_turned b (heard.Late id) talk left h after up (inl (closes, same, is)) = agrees_on h after _ tt (up (λ l. l)) same is
agrees_turned b (heard.Late id) talk left h after up (inr (other, so)) = agrees_going talk left h after (up (λ l. l)) so
agrees_turned b heard.Opened talk left h after up so = agrees_submitted talk talk.receipt left h after (up (λ l. l)) so
agrees_turned b (heard.Recorded place) talk left h after up (same, inl is) = agrees_on h after _ tt (up (λ l. l)) same is
agrees_turned b (heard.Recorded place) talk left h after up (same, inr goes) = agrees_on h after _ tt (up (λ l. l)) same goes.stage_is
agrees_turned b (heard.BadAnswer place) talk left h after up so = agrees_over h after _ so.0 so.1

pub hears_so : (w : World) (m after : MachineView) (talk : Talk) (most consumed : ℕ) (wire : WireView) → IsWorld w → w.machine ≡ Some m → m.stage ≡ stage.Talking talk
    → Came m.stage (take most w.wire.coming) consumed m after → IsSound after.host → (Linked after.stage → wire ≡ heard_from w.wire consumed)
    → ((Linked after.stage → ⊥) → wire ≡ given_up (heard_from w.wire consumed)) → Hears w most (running after w.kept wire w.told)
hears_so w m after talk most consumed wire known was talks came sound stays gone =
    let p = parts w m was known in
    let up : m.host.phase ≢ Down = is_up w m known was (subst Linked (sym talks) tt) in
    let (e, host, hears_one, turns, book, all) = subst (λ s. Came s (take most w.wire.coming) consumed m after) talks came in
    let agrees = agrees_turned m.book e talk _ host after (λ on. (heard_one m.host host w.wire.coming most consumed e up p.sound (hears_one.1 up) on).up) turns in
    record {
      m = m;
      after = after;
      consumed = consumed;
      wire = wire;
      talk = talk;
      was = was;
      talks = talks;
      came = came;
      sound = sound;
      wired = record {
        stays_down = λ d b. absurd (up d);
        goes_up = λ d b. absurd (up d);
        stays_up = λ a b. elim (linked_or_not after.stage) [ inl l ↦ stays l | inr none ↦ absurd (b (agrees.down none)) ];
        goes_down = λ a b. elim (linked_or_not after.stage) [ inl l ↦ absurd (agrees.up l b) | inr none ↦ gone none ];
      };
      is = refl;
    }

-- ## At the printer's end

-- A wire that was fed, whatever host is at the other end.
left_wire : (s : FeedStop) (host other : HostView) (w after : WireView) (k : ℕ) (printer : PrinterView) → line_of other after ≡ left_by s (delivered (line_of other w) k printer)
    → line_of host after ≡ left_by s (delivered (line_of host w) k printer)
left_wire stop.All host other w after k printer is = ap (λ l. line_of host (wire_of l)) is
left_wire stop.AnswersFull host other w after k printer is = ap (λ l. line_of host (wire_of l)) is
left_wire stop.Offline host other w after k printer is = ap (λ l. line_of host (wire_of l)) is
left_wire (stop.Fault at why) host other w after k printer is = ap (λ l. line_of host (wire_of l)) is
left_wire stop.Memory host other w after k printer is = ap (λ l. line_of host (wire_of l)) is

-- Fewer bytes were fed.
pub fed_fewer : (w : World) (most : ℕ) (refused : Refused) (wire : WireView) → IsRefusedOnWire (line.Deliver most) w.wire refused wire
    → (fewer : ℕ) × (fewer < most) × GoesOnWire (line.Deliver fewer) w (with_wire w wire)
fed_fewer w most refused wire is =
    let other : HostView = fresh 0 0 in
    let (fewer, n, less, happened, wanted) = (is other).line in
    let (fed, printer, note, feeds, memory, same) = happened in (
      fewer,
      less,
      record {
        at_printer = refl;
        wire = wire;
        effect = n;
        happened = λ host. (fed, printer, note, feeds, memory, left_wire fed.stop host other w.wire wire fed.consumed printer same);
        is = refl;
      },
    )
