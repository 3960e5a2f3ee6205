-- What a driver's turns do.
use Rattle.std.proofs.Common.{ℕ, zero, suc, true, false, ◌==◌, ◌≡◌, ◌≢◌, ◌+◌, ◌*◌, ◌-◌, ◌<◌, ◌≤◌, ◌⊎◌, inl, inr, Option, Some, None, List, [], ◌∷◌, ◌++◌, length, take, drop, refl, sym, ◌∙◌, ap, subst, arith, length-append, length-drop}
use Rattle.std.specs.Prelude.{Bool, is_some}
use Rattle.std.proofs.lemmas.List.{drop-drop, nil_from_length, take_all}
use Rattle.escpos_command.specs.declared.command.Command.{Command}
use Rattle.escpos_host.specs.declared.host.HostEvent.{HostEvent}
use Rattle.escpos_host.specs.declared.host.HostEvent.TheVariants as event
use Rattle.escpos_host.specs.declared.send.SendFault.{SendFault}
use Rattle.escpos_host.specs.declared.send.SendFault.TheVariants as fault
use Rattle.escpos_host.specs.declared.host.HostError.TheVariants as error
use Rattle.escpos_till.specs.Delivers.{marks_taken}
use Rattle.escpos_host.specs.Heard.{IsHeard}
use Rattle.escpos_host.specs.Machine.{HostView, IsSound, Phase, Down, Open, Opening}
use Rattle.escpos_till.specs.declared.book.Book.{Book}
use Rattle.escpos_till.specs.declared.entry.Entry.{Entry}
use Rattle.escpos_till.specs.declared.entry.Entry.TheVariants as entry
use Rattle.escpos_till.specs.declared.stage.Due.{Due}
use Rattle.escpos_till.specs.declared.stage.Stage.{Stage}
use Rattle.escpos_till.specs.declared.stage.Stage.TheVariants as stage
use Rattle.escpos_till.specs.declared.stage.Talk.{Talk}
use Rattle.escpos_till.specs.declared.stage.Then.{Then}
use Rattle.escpos_till.specs.declared.stage.Then.TheVariants as then
use Rattle.escpos_till.specs.declared.note.TillNote.{TillNote}
use Rattle.escpos_till.specs.declared.note.TillNote.TheVariants as note
use Rattle.escpos_till.specs.declared.stage.Action.{Action}
use Rattle.escpos_till.specs.declared.stage.Action.TheVariants as action
use Rattle.escpos_till.specs.declared.pause.Pause.{Pause}
use Rattle.escpos_till.specs.declared.store.StoreFault.{StoreFault}
use Rattle.escpos_till.specs.Driver.{Breaks, Confirms, Deed, DidAll, Ends, Gives, HangsUp, HearsAll, IsGiven, IsSaid, IsTelling, IsTold, Keeps, KeepsOne, Learns, MayGoWith, Links, Loses, Misses, Pauses, Puts, RanQuietly, RanUpTo, SaysNothing, Tells, TellsNothing, Turns}
use Rattle.escpos_till.specs.declared.further.Further.{Further}
use Rattle.escpos_till.specs.Further.{GoesFurther, heard_by}
use Rattle.escpos_till.specs.Learning.{Learned, Revises}
use Rattle.escpos_till.specs.Machine.{Asks, AsksIn, PutsFirst, Came, Ended, EndsFinally, Follows, IsFinal, news_in, news_of, told, GoesOn, HearsOne, Kept, MachineView, Opens, Rests, Submits, Turns as Turned, Unsure, connected, after_note, ended_by, entry_with, first_talk, hung_up, lost, next_talk, not_connected, pause_news, printed, put, with_left, with_pause, with_sent}

-- 1 while a machine talks.
abbrev pub is_talking : Stage → ℕ
is_talking (stage.Talking talk) = 1
is_talking stage.AtRest = 0
is_talking (stage.Connecting due) = 0
is_talking (stage.Keeping e next) = 0
is_talking (stage.HangingUp n) = 0
is_talking (stage.Telling n) = 0
is_talking stage.Failed = 0

-- ## Hearing

-- An event takes a byte, unless it ends the link.
abbrev IsBad : HostEvent → Type 0
IsBad (event.BadAnswer place) = Unit {0}
IsBad e = ⊥

heard_some : (h : HostView) (bytes : List ℕ) (count : ℕ) (e : HostEvent) (after : HostView) → 0 < length bytes → IsHeard h bytes count e after → (0 < count) ⊎ IsBad e
heard_some h bytes count e after some (inl it) = inl (omega (arith, it.1, some))
heard_some h bytes count event.None after some (inr it) = inl (absurd (it.3 refl))
heard_some h bytes count event.Opened after some (inr it) = inl (omega (arith, it.4))
heard_some h bytes count (event.Recorded n) after some (inr it) = inl (omega (arith, it.4))
heard_some h bytes count (event.Late id) after some (inr it) = inl (omega (arith, it.4))
heard_some h bytes count (event.Status byte) after some (inr it) = inl (omega (arith, it.4))
heard_some h bytes count (event.Condition block) after some (inr it) = inl (omega (arith, it.4))
heard_some h bytes count (event.BadAnswer place) after some (inr it) = inr tt

hears_by_phase : (phase : Phase) (h : HostView) (bytes : List ℕ) (count : ℕ) (e : HostEvent) (after : HostView) → h.phase ≡ phase → 0 < length bytes → HearsOne h bytes count e after
    → (0 < count) ⊎ IsBad e
hears_by_phase Down h bytes count e after is some hears = inl (omega (arith, (hears.0 is).0, some))
hears_by_phase (Opening first) h bytes count e after is some hears = heard_some h bytes count e after some (hears.1 (λ down. absurd (let bad : Opening first ≡ Down = sym is ∙ down in cc)))
hears_by_phase (Open flight) h bytes count e after is some hears = heard_some h bytes count e after some (hears.1 (λ down. absurd (let bad : Open flight ≡ Down = sym is ∙ down in cc)))

bad_ends : (b : Book) (e : HostEvent) (talk : Talk) (left : ℕ) (h after : HostView) (s : Stage) → IsBad e → Turned b e talk left h after s → is_talking s ≡ 0
bad_ends b (event.BadAnswer place) talk left h after s bad turned = ap is_talking turned.1
bad_ends b event.None talk left h after s bad turned = absurd bad
bad_ends b event.Opened talk left h after s bad turned = absurd bad
bad_ends b (event.Recorded n) talk left h after s bad turned = absurd bad
bad_ends b (event.Late id) talk left h after s bad turned = absurd bad
bad_ends b (event.Status byte) talk left h after s bad turned = absurd bad
bad_ends b (event.Condition block) talk left h after s bad turned = absurd bad

taken_or_ended : (count : ℕ) (e : HostEvent) (s : Stage) → (0 < count) ⊎ IsBad e → (IsBad e → is_talking s ≡ 0) → (0 < count) ⊎ (is_talking s ≡ 0)
taken_or_ended count e s (inl taken) ends = inl taken
taken_or_ended count e s (inr bad) ends = inr (ends bad)

-- Of some bytes at least one is taken, or the machine talks no more.
pub came_moves : (s : Stage) (bytes : List ℕ) (count : ℕ) (m after : MachineView) (talk : Talk) → s ≡ stage.Talking talk → 0 < length bytes → Came s bytes count m after
    → (0 < count) ⊎ (is_talking after.stage ≡ 0)
came_moves (stage.Talking t) bytes count m after talk is some (e, h, hears, turned, book, all) =
    taken_or_ended count e after.stage (hears_by_phase m.host.phase m.host bytes count e h refl some hears) (λ bad. bad_ends m.book e t (t.left - count) h after.host after.stage bad turned)
came_moves stage.AtRest bytes count m after talk is some so = absurd (let bad : stage.AtRest ≡ stage.Talking talk = is in cc)
came_moves (stage.Connecting due) bytes count m after talk is some so = absurd (let bad : stage.Connecting due ≡ stage.Talking talk = is in cc)
came_moves (stage.Keeping e next) bytes count m after talk is some so = absurd (let bad : stage.Keeping e next ≡ stage.Talking talk = is in cc)
came_moves (stage.HangingUp n) bytes count m after talk is some so = absurd (let bad : stage.HangingUp n ≡ stage.Talking talk = is in cc)
came_moves (stage.Telling n) bytes count m after talk is some so = absurd (let bad : stage.Telling n ≡ stage.Talking talk = is in cc)
came_moves stage.Failed bytes count m after talk is some so = absurd (let bad : stage.Failed ≡ stage.Talking talk = is in cc)

fewer_left : (bytes : List ℕ) (heard count : ℕ) (after s : Stage) → heard < length bytes → is_talking s ≡ 1 → is_talking after ≤ 1 → (0 < count) ⊎ (is_talking after ≡ 0)
    → 2 * (length bytes - (heard + count)) + is_talking after < 2 * (length bytes - heard) + is_talking s
fewer_left bytes heard count after s fewer one most (inl some) = omega (arith, fewer, one, most, some)
fewer_left bytes heard count after s fewer one most (inr none) = omega (arith, fewer, one, most, none)

pub talking_is : (s : Stage) (talk : Talk) → s ≡ stage.Talking talk → is_talking s ≡ 1
talking_is s talk is = ap is_talking is

pub talking_most : (s : Stage) → is_talking s ≤ 1
talking_most (stage.Talking talk) = omega arith
talking_most stage.AtRest = omega arith
talking_most (stage.Connecting due) = omega arith
talking_most (stage.Keeping e next) = omega arith
talking_most (stage.HangingUp n) = omega arith
talking_most (stage.Telling n) = omega arith
talking_most stage.Failed = omega arith

-- What is left of a piece isn't nothing.
left_some : (bytes : List ℕ) (heard : ℕ) → heard < length bytes → 0 < length (drop heard bytes)
left_some bytes heard fewer = omega (arith, length-drop heard bytes, fewer)

some_not_none : (bytes : List ℕ) → 0 < length bytes → bytes ≢ []
some_not_none [] some = absurd (omega (arith, some))
some_not_none (b ∷ bs) some = λ is. absurd (let bad : b ∷ bs ≡ [] = is in cc)

-- The rest of a piece, as a slice of it.
pub rest_is : (bytes : List ℕ) (heard : ℕ) → take (length bytes - heard) (drop heard bytes) ≡ drop heard bytes
rest_is bytes heard = take_all (length bytes - heard) (drop heard bytes) (omega (arith, length-drop heard bytes))

pub within_rest : (bytes : List ℕ) (heard count : ℕ) → heard ≤ length bytes → count ≤ length (take (length bytes - heard) (drop heard bytes)) → heard + count ≤ length bytes
within_rest bytes heard count within some = omega (arith, within, length-drop heard bytes, subst (λ bs. count ≤ length bs) (rest_is bytes heard) some)

pub some_bytes : (bytes : List ℕ) → false ≡ (length bytes == 0) → 0 < length bytes
some_bytes [] none = absurd (let bad : false ≡ true = none in cc)
some_bytes (b ∷ bs) some = omega arith

pub hears_more : (m mid after : MachineView) (bytes : List ℕ) (heard count : ℕ) (counts : List ℕ) (talk : Talk) → m.stage ≡ stage.Talking talk → heard < length bytes
    → Came m.stage (drop heard bytes) count m mid → IsSound mid.host → HearsAll mid (drop (heard + count) bytes) counts after → HearsAll m (drop heard bytes) (count ∷ counts) after
hears_more m mid after bytes heard count counts talk is fewer came sound more =
    (talk, mid, is, some_not_none (drop heard bytes) (left_some bytes heard fewer), came, sound, subst (λ bs. HearsAll mid bs counts after) (sym (drop-drop count heard bytes)) more)

pub hears_no_more : (m : MachineView) (bytes : List ℕ) (heard : ℕ) → ((talk : Talk) → m.stage ≡ stage.Talking talk → length bytes ≤ heard) → HearsAll m (drop heard bytes) [] m
hears_no_more m bytes heard none = (refl, λ talk is. nil_from_length (drop heard bytes) (omega (arith, length-drop heard bytes, none talk is)))

pub given_so : (m after : MachineView) (bytes : List ℕ) → 0 < length bytes → ((counts : List ℕ) × HearsAll m bytes counts after) → IsGiven m bytes after
given_so m after [] some so = absurd (omega (arith, some))
given_so m after (b ∷ bs) some so = so

-- Each time bytes are taken, or the machine talks no more.
pub hears_on : (m after : MachineView) (bytes : List ℕ) (heard count : ℕ) (talk : Talk) → m.stage ≡ stage.Talking talk → heard < length bytes → Came m.stage (drop heard bytes) count m after
    → 2 * (length bytes - (heard + count)) + is_talking after.stage < 2 * (length bytes - heard) + is_talking m.stage
hears_on m after bytes heard count talk is fewer came =
    fewer_left bytes heard count after.stage m.stage fewer (talking_is m.stage talk is) (talking_most after.stage)
    (came_moves m.stage (drop heard bytes) count m after talk is (left_some bytes heard fewer) came)

-- ## Turns

not_at : (s other : Stage) → s ≡ other → (Rests other → ⊥) → Rests s → ⊥
not_at s other is never = λ rests. never (subst Rests is rests)

opens_not : (due : Due) (first heard : ℕ) (h : HostView) (s : Stage) → Opens due first heard h s → Rests s → ⊥
opens_not due first heard h s (inl it) = not_at s (stage.Talking (first_talk due)) it.1 (λ h. h)
opens_not due first heard h s (inr (why, refused, is)) = not_at s (stage.HangingUp (note.Waiting due.number (fault.Refused why))) is (λ h. h)

follows_not : (next : Then) (before : HostView) (first : ℕ) (b : Book) (h : HostView) (s : Stage) → Follows next before first b h s → Rests s → ⊥
follows_not then.Queued before first b h s (number, count, same, is) = not_at s (stage.Telling (note.Queued number)) is (λ h. h)
follows_not (then.Take content) before first b h s (same, is) = not_at s (stage.Keeping (entry.Queued content) then.Queued) is (λ h. h)
follows_not then.Raised before first b h s (same, is) = not_at s (stage.Telling note.Raised) is (λ h. h)
follows_not (then.Cancelled number tried) before first b h s (same, is) = not_at s (stage.Telling (note.Cancelled number tried)) is (λ h. h)
follows_not (then.Send due) before first b h s opens = opens_not due first b.heard h s opens
follows_not (then.Recorded number) before first b h s (drops, is) = not_at s (stage.HangingUp (note.Recorded number)) is (λ h. h)
follows_not (then.GoOn number tried due) before first b h s (same, is) = not_at s (stage.Keeping tried (then.SendNext number due)) is (λ h. h)
follows_not (then.SendNext number due) before first b h s (inl (sends, is)) = not_at s (stage.Talking (next_talk number due)) is (λ h. h)
follows_not (then.SendNext number due) before first b h s (inr (why, refuses, drops, is)) = not_at s (stage.HangingUp (note.Recorded number)) is (λ h. h)

lost_not : (next : Then) (why : StoreFault) → Rests (lost next why) → ⊥
lost_not then.Queued why h = h
lost_not (then.Take content) why h = h
lost_not then.Raised why h = h
lost_not (then.Cancelled number tried) why h = h
lost_not (then.Send due) why h = h
lost_not (then.Recorded number) why h = h
lost_not (then.GoOn number tried due) why h = h
lost_not (then.SendNext number due) why h = h

kept_not : (s : Stage) (e : Entry) (next : Then) (m after : MachineView) → s ≡ stage.Keeping e next → Kept s m after → Rests after.stage → ⊥
kept_not s e next m after is kept = follows_not next m.host m.book.next after.book after.host after.stage (subst (λ at. Kept at m after) is kept).1

unsure_not : (s : Stage) (e : Entry) (next : Then) (why : StoreFault) (m after : MachineView) → s ≡ stage.Keeping e next → Unsure s why m after → Rests after.stage → ⊥
unsure_not s e next why m after is unsure = not_at after.stage (lost next why) (subst (λ at. Unsure at why m after) is unsure).2 (lost_not next why)

recorded_not : (b : Book) (n : ℕ) (further : Option Further) (before : HostView) (s : Stage) → (s ≡ printed b n before) ⊎ GoesFurther b n further before s → Rests s → ⊥
recorded_not b n further before s (inl is) = not_at s (printed b n before) is (λ h. h)
recorded_not b n further before s (inr goes) = not_at s (stage.Keeping (entry.Recorded n (heard_by b before)) (then.GoOn n (entry.Tried goes.due.number (b.next + 1)) goes.due)) goes.stage_is (λ h. h)

revised_not : (next : Then) (b : Book) (before h : HostView) (s : Stage) → Revises next b before h s → Rests s → ⊥
revised_not (then.Send due) b before h s (inl (waits, marks, same, is)) = not_at s (stage.Keeping (entry.Tried due.number (b.next + marks_taken due.openings)) (then.Send due)) is (λ h. h)
revised_not (then.Send due) b before h s (inr (inl (waits, none, drops, is))) = not_at s (stage.HangingUp (note.Waiting due.number (fault.Refused error.MarksUsedUp))) is (λ h. h)
revised_not (then.Send due) b before h s (inr (inr (tried, cancelled, drops, is))) = not_at s (stage.HangingUp (note.Cancelled due.number tried)) is (λ h. h)
revised_not (then.Recorded n) b before h s (inl (waits, same, is)) = not_at s (printed b n before) is (λ h. h)
revised_not (then.Recorded n) b before h s (inr (tried, cancelled, drops, is)) = not_at s (stage.HangingUp (note.Cancelled n tried)) is (λ h. h)
revised_not (then.GoOn n tried due) b before h s (inl (waits, same, goes)) = recorded_not b n due.further before s goes
revised_not (then.GoOn n tried due) b before h s (inr (times, cancelled, drops, is)) = not_at s (stage.HangingUp (note.Cancelled n times)) is (λ h. h)
revised_not (then.SendNext n due) b before h s (drops, is) = not_at s (stage.HangingUp (note.Recorded n)) is (λ h. h)
revised_not then.Queued b before h s none = absurd none
revised_not (then.Take content) b before h s none = absurd none
revised_not then.Raised b before h s none = absurd none
revised_not (then.Cancelled n tried) b before h s none = absurd none

keeps_learned : (e : Entry) (next : Then) (others : List Entry) (m after : MachineView) → Learned (stage.Keeping e next) others m after → Rests after.stage → ⊥
keeps_learned e next others m after (inl learns) = revised_not next after.book m.host after.host after.stage learns.2
keeps_learned e next others m after (inr (why, fails)) = not_at after.stage (lost next why) fails.2 (lost_not next why)

learned_not : (s : Stage) (e : Entry) (next : Then) (others : List Entry) (m after : MachineView) → s ≡ stage.Keeping e next → Learned s others m after → Rests after.stage → ⊥
learned_not s e next others m after is learned = keeps_learned e next others m after (subst (λ at. Learned at others m after) is learned)

ended_not : (s : Stage) (talk : Talk) (why : SendFault) (m after : MachineView) → s ≡ stage.Talking talk → Ended s why m after → Rests after.stage → ⊥
ended_not s talk why m after is ended = not_at after.stage (stage.HangingUp (ended_by talk why)) (subst (λ at. Ended at why m after) is ended).2 (λ h. h)

on_not : (talk : Talk) (left : ℕ) (before h : HostView) (s : Stage) → GoesOn talk left before h s → Rests s → ⊥
on_not talk zero before h s (drops, is) = not_at s (stage.HangingUp (note.Waiting talk.number fault.TooLong)) is (λ h. h)
on_not talk (suc left) before h s (same, is) = not_at s (stage.Talking (with_left talk (suc left))) is (λ h. h)

submits_not : (talk : Talk) (receipt : Option (List Command)) (left : ℕ) (before h : HostView) (s : Stage) → Submits talk receipt left before h s → Rests s → ⊥
submits_not talk None left before h s goes = on_not talk left before h s goes
submits_not talk (Some receipt) zero before h s goes = on_not talk zero before h s goes
submits_not talk (Some receipt) (suc left) before h s (inl (sends, is)) = not_at s (stage.Talking (with_sent talk (suc left))) is (λ h. h)
submits_not talk (Some receipt) (suc left) before h s (inr (why, refused, drops, is)) = not_at s (stage.HangingUp (note.Waiting talk.number (fault.Refused why))) is (λ h. h)

turned_not : (b : Book) (e : HostEvent) (talk : Talk) (left : ℕ) (before h : HostView) (s : Stage) → Turned b e talk left before h s → Rests s → ⊥
turned_not b event.None talk left before h s goes = on_not talk left before h s goes
turned_not b (event.Status byte) talk left before h s goes = on_not talk left before h s goes
turned_not b (event.Condition block) talk left before h s (p, after, goes) = on_not (with_pause talk p) left before h s goes
turned_not b (event.Late id) talk left before h s (inl (closes, same, is)) = not_at s (printed b talk.number before) is (λ h. h)
turned_not b (event.Late id) talk left before h s (inr (other, goes)) = on_not talk left before h s goes
turned_not b event.Opened talk left before h s goes = submits_not talk talk.receipt left before h s goes
turned_not b (event.Recorded place) talk left before h s (same, goes) = recorded_not b talk.number talk.further before s goes
turned_not b (event.BadAnswer place) talk left before h s (drops, is) = not_at s (stage.HangingUp (note.Waiting talk.number fault.BadAnswer)) is (λ h. h)

came_not : (s : Stage) (talk : Talk) (bytes : List ℕ) (count : ℕ) (m after : MachineView) → s ≡ stage.Talking talk → Came s bytes count m after → Rests after.stage → ⊥
came_not s talk bytes count m after is came =
    let (e, h, hears, turned, book, all) = subst (λ at. Came at bytes count m after) is came in
    turned_not m.book e talk (talk.left - count) h after.host after.stage turned

hears_not : (m : MachineView) (bytes counts : List ℕ) (after : MachineView) → (Rests m.stage → ⊥) → HearsAll m bytes counts after → Rests after.stage → ⊥
hears_not m bytes [] after never (same, talks) = λ rests. never (subst (λ (k : MachineView). Rests k.stage) same rests)
hears_not m bytes (count ∷ counts) after never (talk, mid, is, some, came, sound, more) =
    hears_not mid (drop count bytes) counts after (came_not m.stage talk bytes count m mid is came) more

given_not : (m : MachineView) (talk : Talk) (bytes : List ℕ) (after : MachineView) → m.stage ≡ stage.Talking talk → IsGiven m bytes after → Rests after.stage → ⊥
given_not m talk [] after is came = came_not m.stage talk [] 0 m after is came
given_not m talk (b ∷ bs) after is (counts, hears) = hears_not m (b ∷ bs) counts after (not_at m.stage (stage.Talking talk) is (λ h. h)) hears

-- A machine that has done what it asked for, but hasn't told its owner, asks for more.
pub goes_on : (m : MachineView) (d : Deed) (after : MachineView) → (IsTold d → ⊥) → Turns m d after → Rests after.stage → ⊥
goes_on m (Keeps e None) after never (next, is, kept) = kept_not m.stage e next m after is kept
goes_on m (Keeps e (Some f)) after never (mid, first, was, with, first_kept, sound, (next, is, kept)) = kept_not mid.stage f next mid after is kept
goes_on m (Loses e and_then why) after never (next, is, goes, unsure) = unsure_not m.stage e next why m after is unsure
goes_on m (Learns others) after never (e, next, is, learned) = learned_not m.stage e next others m after is learned
goes_on m Links after never (due, is, done) =
    λ rests. subst (λ (k : MachineView). Rests k.stage) (done ∙ ap (λ s. connected s m) is) rests
goes_on m Misses after never (due, is, done) =
    λ rests. subst (λ (k : MachineView). Rests k.stage) (done ∙ ap (λ s. not_connected s m) is) rests
goes_on m (Puts bytes) after never (count, out, done) =
    λ rests. subst (λ (k : MachineView). Rests k.stage) (done ∙ ap (λ s. put s count m) out.talks) rests
goes_on m (Breaks bytes why) after never (count, out, ended) = ended_not m.stage out.talk why (put m.stage count m) after out.talks ended
goes_on m (Gives room bytes) after never (waits, within, given) = given_not m waits.talk bytes after waits.talks given
goes_on m (Ends why) after never (room, waits, ended) = ended_not m.stage waits.talk why m after waits.talks ended
goes_on m HangsUp after never (n, is, done) =
    λ rests. subst (λ (k : MachineView). Rests k.stage) (done ∙ ap (λ s. hung_up s m) is) rests
goes_on m (Pauses number why) after never (talk, is, news, done) =
    λ rests. subst (λ (k : MachineView). Rests k.stage) (done ∙ ap (λ s. told s m) is) rests
goes_on m (Confirms number) after never (talk, is, recorded, done) =
    λ rests. subst (λ (k : MachineView). Rests k.stage) (done ∙ ap (λ s. told s m) is) rests
goes_on m (Tells n) after never turns = absurd (never tt)

-- A deed by which nothing is said tells nothing.
pub not_told : (d : Deed) → (IsSaid d → ⊥) → IsTold d → ⊥
not_told (Tells n) never told = never tt
not_told (Keeps e and_then) never told = told
not_told (Loses e and_then why) never told = told
not_told (Confirms number) never told = told
not_told (Learns others) never told = told
not_told Links never told = told
not_told Misses never told = told
not_told (Puts bytes) never told = told
not_told (Breaks bytes why) never told = told
not_told (Gives room bytes) never told = told
not_told (Ends why) never told = told
not_told HangsUp never told = told
not_told (Pauses number why) never told = told

-- A machine that has done what it asked for, and told nothing, asks for more.
pub silent_goes_on : (m : MachineView) (d : Deed) (after : MachineView) → (IsSaid d → ⊥) → Turns m d after → Rests after.stage → ⊥
silent_goes_on m d after never turns = goes_on m d after (not_told d never) turns

-- ## Runs

quiet_more : (ds : List Deed) (d : Deed) → TellsNothing ds → (IsTold d → ⊥) → TellsNothing (ds ++ d ∷ [])
quiet_more [] d quiet never = (never, tt)
quiet_more (x ∷ xs) d (first, rest) never = (first, quiet_more xs d rest never)

silent_more : (ds : List Deed) (d : Deed) → SaysNothing ds → (IsSaid d → ⊥) → SaysNothing (ds ++ d ∷ [])
silent_more [] d quiet never = (never, tt)
silent_more (x ∷ xs) d (first, rest) never = (first, silent_more xs d rest never)

-- One more deed.
pub did_more : {D : Type 0} (did : D → Deed → D → Type 0) (m : MachineView) (old : D) (ds : List Deed) (mid : MachineView) (between : D) (d : Deed) (after : MachineView) (new : D)
    → DidAll did m old ds mid between → Turns mid d after → IsSound after.host → did between d new → DidAll did m old (ds ++ d ∷ []) after new
did_more {D} did m old [] mid between d after new (is, same) turns sound done =
    (after, new, subst (λ k. Turns k d after) is turns, sound, subst (λ (o : D). did o d new) same done, (refl, refl))
did_more did m old (x ∷ xs) mid between d after new (one, other, turned, well, did_x, rest) turns sound done =
    (one, other, turned, well, did_x, did_more did one other xs mid between d after new rest turns sound done)

pub ran_none : {D : Type 0} (did : D → Deed → D → Type 0) (m : MachineView) (old : D) → RanQuietly did m old m old 0
ran_none did m old = (record { run = record { deeds = []; did_all = (refl, refl) }; turns = refl; quiet = tt }, tt)

-- Where nothing was done of what may be.
pub none_done : {D : Type 0} (did : D → Deed → D → Type 0) (m : MachineView) (old : D) (most : ℕ) → RanQuietly did m old m old (most - most)
none_done did m old most =
    let zero_left : 0 ≡ most - most = omega arith in
    subst (λ n. RanQuietly did m old m old n) zero_left (ran_none did m old)

pub ran_more : {D : Type 0} (did : D → Deed → D → Type 0) (m : MachineView) (old : D) (mid : MachineView) (between : D) (count : ℕ) (d : Deed) (after : MachineView) (new : D)
    → RanQuietly did m old mid between count → (IsSaid d → ⊥) → Turns mid d after → IsSound after.host → did between d new → RanQuietly did m old after new (count + 1)
ran_more did m old mid between count d after new (ran, silent) never turns sound done = (
  record {
    run = record { deeds = ran.run.deeds ++ d ∷ []; did_all = did_more did m old ran.run.deeds mid between d after new ran.run.did_all turns sound done };
    turns = length-append ran.run.deeds (d ∷ []) ∙ ap (λ n. n + 1) ran.turns;
    quiet = quiet_more ran.run.deeds d ran.quiet (not_told d never);
  },
  silent_more ran.run.deeds d silent never,
)

rests_after : (n : TillNote) → Rests (after_note n)
rests_after (note.Queued number) = tt
rests_after note.Raised = tt
rests_after (note.Cancelled number tried) = tt
rests_after (note.Recorded number) = tt
rests_after (note.NoLink number) = tt
rests_after (note.Waiting number why) = tt
rests_after (note.Paused number why) = tt
rests_after (note.StillPaused number why) = tt
rests_after (note.NotKept why) = tt

-- At the end its owner is told, and of what came of no call before.
pub ran_to : {D : Type 0} (did : D → Deed → D → Type 0) (m : MachineView) (old : D) (mid : MachineView) (between : D) (count : ℕ) (d : Deed) (n : TillNote) (most left : ℕ) (after : MachineView) (new : D)
    → RanQuietly did m old mid between count → count + 1 + left ≡ most → IsTelling d n → Turns mid d after → IsSound after.host → did between d new → RanUpTo did m old n most left after new
ran_to {D} did m old mid between count (Tells x) n most left after new (ran, silent) all (is, final) turns sound done =
    let whole = did_more did m old ran.run.deeds mid between (Tells x) after new ran.run.did_all turns sound done in
    let counts : length ran.run.deeds + 1 + left ≡ most = ap (λ k. k + 1 + left) ran.turns ∙ all in
    inl (
      subst IsFinal is final,
      (
        record {
          before = ran.run.deeds;
          did_all = subst (λ note. DidAll did m old (ran.run.deeds ++ Tells note ∷ []) after new) is whole;
          turns = omega (arith, counts);
        },
        silent,
        counts,
        subst (λ (k : MachineView). Rests k.stage) (sym (turns.1 ∙ ap (λ s. told s mid) turns.0)) (rests_after x),
      ),
    )
ran_to did m old mid between count (Confirms number) n most left after new (ran, silent) all is turns sound done =
    let counts : length ran.run.deeds + 1 + left ≡ most = ap (λ k. k + 1 + left) ran.turns ∙ all in
    inr (inr (
      record {
        before = ran.run.deeds;
        number = number;
        note_is = sym is;
        did_all = did_more did m old ran.run.deeds mid between (Confirms number) after new ran.run.did_all turns sound done;
        turns = omega (arith, counts);
        quiet = silent;
        goes_on = goes_on mid (Confirms number) after (λ never. never) turns;
      },
      counts,
    ))
ran_to did m old mid between count (Pauses number why) n most left after new (ran, silent) all is turns sound done =
    let counts : length ran.run.deeds + 1 + left ≡ most = ap (λ k. k + 1 + left) ran.turns ∙ all in
    inr (inl (
      record {
        before = ran.run.deeds;
        number = number;
        why = why;
        note_is = sym is;
        did_all = did_more did m old ran.run.deeds mid between (Pauses number why) after new ran.run.did_all turns sound done;
        turns = omega (arith, counts);
        quiet = silent;
        goes_on = goes_on mid (Pauses number why) after (λ never. never) turns;
      },
      counts,
    ))
ran_to did m old mid between count (Keeps e and_then) n most left after new ran all is turns sound done = absurd is
ran_to did m old mid between count (Loses e and_then why) n most left after new ran all is turns sound done = absurd is
ran_to did m old mid between count (Learns others) n most left after new ran all is turns sound done = absurd is
ran_to did m old mid between count Links n most left after new ran all is turns sound done = absurd is
ran_to did m old mid between count Misses n most left after new ran all is turns sound done = absurd is
ran_to did m old mid between count (Puts bytes) n most left after new ran all is turns sound done = absurd is
ran_to did m old mid between count (Breaks bytes why) n most left after new ran all is turns sound done = absurd is
ran_to did m old mid between count (Gives room bytes) n most left after new ran all is turns sound done = absurd is
ran_to did m old mid between count (Ends why) n most left after new ran all is turns sound done = absurd is
ran_to did m old mid between count HangsUp n most left after new ran all is turns sound done = absurd is

-- An entry is asked for.
abbrev pub IsAppend : Action → Type 0
IsAppend (action.Append asked) = Unit {0}
IsAppend a = ⊥

puts_first_not : (h : HostView) (left : ℕ) (a : Action) → PutsFirst h a left → IsAppend a → ⊥
puts_first_not h left (action.Append asked) puts is = puts
puts_first_not h left action.Put puts is = is
puts_first_not h left (action.Wait most) puts is = is
puts_first_not h left action.Nothing puts is = is
puts_first_not h left action.Connect puts is = is
puts_first_not h left action.HangUp puts is = is
puts_first_not h left (action.Tell n) puts is = is

asks_in_not : (h : HostView) (news : Option TillNote) (left : ℕ) (a : Action) → AsksIn h news left a → IsAppend a → ⊥
asks_in_not h (Some n) left a asks is = subst IsAppend asks is
asks_in_not h None left a asks is = puts_first_not h left a asks is

-- Only a machine that is to keep an entry asks for that.
pub asked_to_keep : (m : MachineView) (s : Stage) (a : Action) → Asks m s a → IsAppend a → (e : Entry) × (next : Then) × (s ≡ stage.Keeping e next)
asked_to_keep m (stage.Keeping e next) a asks is = (e, next, refl)
asked_to_keep m (stage.Connecting due) a asks is = absurd (subst IsAppend asks is)
asked_to_keep m (stage.Talking talk) a asks is = absurd (asks_in_not m.host (news_of talk) talk.left a asks is)
asked_to_keep m (stage.HangingUp n) a asks is = absurd (subst IsAppend asks is)
asked_to_keep m (stage.Telling n) a asks is = absurd (subst IsAppend asks is)
asked_to_keep m stage.AtRest a asks is = absurd (subst IsAppend asks is)
asked_to_keep m stage.Failed a asks is = absurd (subst IsAppend asks is)

same_note : (x n : TillNote) → action.Tell x ≡ action.Tell n → x ≡ n
same_note x n is = cc is

is_pause : (number : ℕ) (why : Option Pause) (is_news : Bool) (n : TillNote) → pause_news number why is_news ≡ Some n → (p : Pause) × (n ≡ note.Paused number p)
is_pause number (Some p) true n is = (p, cc is)
is_pause number (Some p) false n is = absurd (let bad : None ≡ Some n = is in cc)
is_pause number None is_news n is = absurd (let bad : None ≡ Some n = is in cc)

news_deed : (Done : Deed → Type 0) → ((number : ℕ) (why : Pause) → Done (Pauses number why)) → ((number : ℕ) → Done (Confirms number)) → (talk : Talk) (recorded : Option ℕ) (m after : MachineView) (n : TillNote)
    → m.stage ≡ stage.Talking talk → talk.recorded ≡ recorded → news_of talk ≡ Some n → news_in recorded talk.number talk.paused.why talk.paused.is_news ≡ Some n → after ≡ told m.stage m
    → (d : Deed) × IsTelling d n × Turns m d after × Done d
news_deed Done pauses confirms talk (Some r) m after n is recorded some news done = (Confirms r, (let same : note.Recorded r ≡ n = cc news in same), (talk, is, recorded, done), confirms r)
news_deed Done pauses confirms talk None m after n is recorded some news done =
    let (p, paused) = is_pause talk.number talk.paused.why talk.paused.is_news n news in
    (Pauses talk.number p, sym paused, (talk, is, some ∙ ap Some paused, done), pauses talk.number p)

told_in : (Done : Deed → Type 0) → ((number : ℕ) (why : Pause) → Done (Pauses number why)) → ((number : ℕ) → Done (Confirms number)) → (talk : Talk) (m after : MachineView) (n : TillNote) (news : Option TillNote) → m.stage ≡ stage.Talking talk → news_of talk ≡ news → AsksIn m.host news talk.left (action.Tell n)
    → after ≡ told m.stage m → (d : Deed) × IsTelling d n × Turns m d after × Done d
told_in Done pauses confirms talk m after n None is none asks done = absurd asks
told_in Done pauses confirms talk m after n (Some x) is some asks done =
    let same : x ≡ n = same_note x n (sym asks) in
    let news : news_of talk ≡ Some n = some ∙ ap Some same in
    news_deed Done pauses confirms talk talk.recorded m after n is refl news news done

-- What a machine has to tell is told by a deed: what came of a call, or news of a talk.
pub asked_to_tell : (Done : Deed → Type 0) → ((x : TillNote) → Done (Tells x)) → ((number : ℕ) (why : Pause) → Done (Pauses number why)) → ((number : ℕ) → Done (Confirms number)) → (s : Stage) (m after : MachineView) (n : TillNote)
    → m.stage ≡ s → Asks m s (action.Tell n) → EndsFinally s → after ≡ told s m → (d : Deed) × IsTelling d n × Turns m d after × Done d
asked_to_tell Done tells pauses confirms (stage.Telling x) m after n is asks final done =
    (Tells x, (same_note x n (sym asks), final), (is, done ∙ ap (λ s. told s m) (sym is)), tells x)
asked_to_tell Done tells pauses confirms (stage.Talking talk) m after n is asks final done = told_in Done pauses confirms talk m after n (news_of talk) is refl asks (done ∙ ap (λ s. told s m) (sym is))
asked_to_tell Done tells pauses confirms stage.AtRest m after n is asks final done = absurd (let bad : action.Tell n ≡ action.Nothing = asks in cc)
asked_to_tell Done tells pauses confirms (stage.Connecting due) m after n is asks final done = absurd (let bad : action.Tell n ≡ action.Connect = asks in cc)
asked_to_tell Done tells pauses confirms (stage.Keeping e next) m after n is asks final done = absurd asks
asked_to_tell Done tells pauses confirms (stage.HangingUp x) m after n is asks final done = absurd (let bad : action.Tell n ≡ action.HangUp = asks in cc)
asked_to_tell Done tells pauses confirms stage.Failed m after n is asks final done = absurd (let bad : action.Tell n ≡ action.Nothing = asks in cc)

-- Of what may be done, one less may be done now.
pub one_less : (left most : ℕ) → 0 < left → left ≤ most → (most - left) + 1 ≡ most - (left - 1)
one_less left most some within = omega (arith, some, within)

pub told_so : (count left most : ℕ) → count ≡ most - left → 0 < left → left ≤ most → count + 1 + (left - 1) ≡ most
told_so count left most is some within = omega (arith, is, some, within)

-- No more is done than may be.
pub all_done : {D : Type 0} (did : D → Deed → D → Type 0) (m : MachineView) (old : D) (after : MachineView) (new : D) (count most : ℕ)
    → RanQuietly did m old after new count → count ≤ most → most ≤ count → RanQuietly did m old after new most
all_done did m old after new count most ran fewer more =
    let same : count ≡ most = omega (arith, fewer, more) in
    subst (λ n. RanQuietly did m old after new n) same ran

-- Where an entry is kept, the machine was to keep it.
pub keeps_at : (m after : MachineView) (e : Entry) (and_then : Option Entry) → KeepsOne m e after and_then → (next : Then) × (m.stage ≡ stage.Keeping e next)
keeps_at m after e None (next, is, kept) = (next, is)
keeps_at m after e (Some f) (mid, next, is, with, kept, sound, last) = (next, is)

-- What is kept with an entry is what may be.
pub may_go : (with : Option Entry) (next : Then) → entry_with next ≡ with → MayGoWith with next
may_go None next is = tt
may_go (Some f) next is = is

no_with : {X : Type 0} (b : Bool) → b ≡ false → b ≡ true → X
no_with b none some = absurd (let bad : false ≡ true = sym none ∙ some in cc)

-- Both entries are kept, one after the other.
pub kept_both : (m mid after : MachineView) (e : Entry) (next : Then) → m.stage ≡ stage.Keeping e next → is_some (entry_with next) ≡ true → Kept m.stage m mid → IsSound mid.host → Kept mid.stage mid after
    → KeepsOne m e after (entry_with next)
kept_both m mid after e (then.GoOn number tried due) is some kept sound last =
    let follows = (subst (λ s. Kept s m mid) is kept).1 in
    (mid, then.GoOn number tried due, is, refl, kept, sound, (then.SendNext number due, follows.1, last))
kept_both m mid after e then.Queued is some kept sound last = no_with false refl some
kept_both m mid after e (then.Take content) is some kept sound last = no_with false refl some
kept_both m mid after e then.Raised is some kept sound last = no_with false refl some
kept_both m mid after e (then.Cancelled number tried) is some kept sound last = no_with false refl some
kept_both m mid after e (then.Send due) is some kept sound last = no_with false refl some
kept_both m mid after e (then.Recorded number) is some kept sound last = no_with false refl some
kept_both m mid after e (then.SendNext number due) is some kept sound last = no_with false refl some
