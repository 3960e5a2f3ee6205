-- What the calls of a machine do to the entries that it is of.
use Rattle.std.proofs.Common.{ℕ, zero, suc, ◌≡◌, ◌+◌, ◌-◌, ◌<◌, ◌≤◌, ◌⊎◌, inl, inr, Some, None, List, [], ◌∷◌, ◌++◌, length, refl, sym, ◌∙◌, ap, subst, length-append, arith}
use Rattle.std.specs.Prelude.{slice_get}
use Rattle.escpos_host.specs.declared.host.HostEvent.{HostEvent}
use Rattle.escpos_host.specs.declared.host.HostEvent.TheVariants as event
use Rattle.escpos_host.specs.Heard.{IsHeard, taken_at}
use Rattle.escpos_host.specs.Machine.{Down, HostView, Open, Opening, Phase, reports_asked}
use Rattle.escpos_command.specs.declared.command.Command.{Command}
use Rattle.std.specs.Prelude.{Option}
use Rattle.escpos_till.specs.declared.book.Book.{Book}
use Rattle.escpos_till.specs.declared.entry.Entry.{Entry}
use Rattle.escpos_till.specs.declared.entry.Entry.TheVariants as entry
use Rattle.escpos_till.specs.declared.stage.Due.{Due}
use Rattle.escpos_till.specs.declared.stage.Stage.{Stage}
use Rattle.escpos_till.specs.declared.stage.Stage.TheVariants as stage
use Rattle.escpos_till.specs.declared.stage.Talk.{Talk}
use Rattle.escpos_till.specs.declared.stage.Then.{Then}
use Rattle.escpos_till.specs.declared.stage.Then.TheVariants as then
use Rattle.escpos_host.specs.declared.host.HostError.{HostError}
use Rattle.escpos_host.specs.declared.send.SendFault.TheVariants as fault
use Rattle.escpos_till.specs.declared.note.TillNote.TheVariants as note
use Rattle.escpos_till.specs.declared.state.ReceiptState.TheVariants as state
use Rattle.escpos_till.specs.declared.entry.Content.{Content}
use Rattle.std.specs.Prelude.{MatchOption}
use Rattle.escpos_till.specs.Book.{HasRoom, HasTryRoom, IsBookOf, NeedsNoRoom}
use Rattle.escpos_till.specs.Delivers.{most_entries}
use Rattle.escpos_till.specs.declared.further.Further.{Further}
use Rattle.escpos_till.specs.Further.{GoesFurther, heard_by}
use Rattle.escpos_till.specs.Entries.{HasKey, MayFollow, heard_said, Waits, earlier, place_here, states, times_tried}
use Rattle.escpos_till.specs.Machine.{Came, Drops, Fits, IsGoingOn, RefusesSending, Follows, GoesOn, HearsOne, IsKnown, IsNew, Opens, SendsNext, Submits, Suits, Turns, printed, taking, with_pause}
use Rattle.escpos_till.proofs.BookLemmas.{get-here}
use Rattle.escpos_till.proofs.EntryLemmas.{earlier-snoc, heard-snoc, next_after_recorded, some_state, tried_states, waits_by_state, within_states}

-- A receipt that waits and is tried waits still, and was tried.
pub waits_tried : (es : List Entry) (n next : ℕ) → Waits es n → Waits (es ++ entry.Tried n next ∷ []) n × (0 < times_tried (es ++ entry.Tried n next ∷ []) n)
waits_tried es n next waits =
    let more : List Entry = es ++ entry.Tried n next ∷ [] in
    let p : ℕ = place_here es n in
    let older : earlier more ≡ earlier es = earlier-snoc es (entry.Tried n next) refl in
    let stands : slice_get (states more) p ≡ Some (state.Waiting (times_tried es n + 1)) =
    ap (λ ss. slice_get ss p) (tried_states es n next waits) ∙ get-here (states es) p (state.Waiting (times_tried es n + 1)) (within_states es n waits) in
    let so = waits_by_state more n (times_tried es n + 1) (omega (arith, older, waits.here)) (ap (λ k. slice_get (states more) (n - (1 + k))) older ∙ stands) in
    (so.0, omega (arith, so.1))

-- A talk that goes on fits, and so does what ends it.
fits_going_on : (b : Book) (es : List Entry) (talk : Talk) (left : ℕ) (before h : HostView) (s : Stage) → Waits es talk.number → 0 < times_tried es talk.number → length es < most_entries
    → GoesOn talk left before h s → Fits b es s
fits_going_on b es talk zero before h s waits tried few so = subst (Fits b es) (sym so.1) tt
fits_going_on b es talk (suc left) before h s waits tried few so = subst (Fits b es) (sym so.1) (waits, tried, few)

fits_submits : (b : Book) (es : List Entry) (talk : Talk) (receipt : Option (List Command)) (left : ℕ) (before h : HostView) (s : Stage) → Waits es talk.number → 0 < times_tried es talk.number
    → length es < most_entries → Submits talk receipt left before h s → Fits b es s
fits_submits b es talk (Some receipt) (suc left) before h s waits tried few (inl given) = subst (Fits b es) (sym given.1) (waits, tried, few)
fits_submits b es talk (Some receipt) (suc left) before h s waits tried few (inr refused) = subst (Fits b es) (sym refused.3) tt
fits_submits b es talk (Some receipt) zero before h s waits tried few so = fits_going_on b es talk zero before h s waits tried few so
fits_submits b es talk None left before h s waits tried few so = fits_going_on b es talk left before h s waits tried few so

-- A receipt that was tried may be recorded, with what the host has heard.
may_record : (b : Book) (es : List Entry) (n : ℕ) (h : HostView) → IsBookOf b es → Waits es n → 0 < times_tried es n → MayFollow es (entry.Recorded n (heard_by b h))
may_record b es n h book waits tried = (waits, tried, omega (arith, book.next))

-- What is said with a record counts.
pub said_least : (es : List Entry) (n hd : ℕ) → hd ≤ heard_said es (entry.Recorded n hd)
said_least es n zero = omega arith
said_least es n (suc hd) = omega arith

pub fits_printed : (b : Book) (es : List Entry) (n : ℕ) (h : HostView) → IsBookOf b es → Waits es n → 0 < times_tried es n → length es < most_entries → Fits b es (printed b n h)
fits_printed b es n h book waits tried few = (
  may_record b es n h book waits tried,
  refl,
  omega (arith, few),
  λ content is. absurd (let bad : entry.Recorded n (heard_by b h) ≡ entry.Queued content = is in cc),
  λ number next is. absurd (let bad : entry.Recorded n (heard_by b h) ≡ entry.Tried number next = is in cc),
  λ content is. absurd (let bad : then.Recorded n ≡ then.Take content = is in cc),
  tt,
)

-- And with that the next one may be tried.
pub fits_further : (b : Book) (es : List Entry) (n : ℕ) (further : Option Further) (before : HostView) (s : Stage) → IsBookOf b es → Waits es n → 0 < times_tried es n → GoesFurther b n further before s
    → Fits b es s
fits_further b es n further before s book waits tried g =
    let limit : ℕ = b.next + 1 in
    let hd : ℕ = heard_by b before in
    let follows : MayFollow es (entry.Recorded n hd) = may_record b es n before book waits tried in
    subst (Fits b es) (sym g.stage_is) (
      follows,
      (refl, (limit, refl)),
      g.after.few es book,
      λ content is. absurd (let bad : entry.Recorded n hd ≡ entry.Queued content = is in cc),
      (λ number next is. absurd (let bad : entry.Recorded n hd ≡ entry.Tried number next = is in cc)),
      (λ content is. absurd (let bad : then.GoOn n (entry.Tried g.due.number limit) g.due ≡ then.Take content = is in cc)),
      (
        (
          g.after.waits es book follows,
          omega (arith, book.next, next_after_recorded es n hd),
          omega (arith, g.after.within, heard-snoc es (entry.Recorded n hd), said_least es n hd),
        ),
        g.after.room,
      ),
    )

pub fits_recorded : (b : Book) (es : List Entry) (n : ℕ) (further : Option Further) (before : HostView) (s : Stage) → IsBookOf b es → Waits es n → 0 < times_tried es n → length es < most_entries
    → (s ≡ printed b n before) ⊎ GoesFurther b n further before s → Fits b es s
fits_recorded b es n further before s book waits tried few (inl is) = subst (Fits b es) (sym is) (fits_printed b es n before book waits tried few)
fits_recorded b es n further before s book waits tried few (inr goes) = fits_further b es n further before s book waits tried goes

pub fits_turns : (b : Book) (es : List Entry) (e : HostEvent) (talk : Talk) (left : ℕ) (before h : HostView) (s : Stage) → IsBookOf b es → Fits b es (stage.Talking talk) → Turns b e talk left before h s → Fits b es s
fits_turns b es event.None talk left before h s book fits so = fits_going_on b es talk left before h s fits.0 fits.1 fits.2 so
fits_turns b es (event.Status byte) talk left before h s book fits so = fits_going_on b es talk left before h s fits.0 fits.1 fits.2 so
fits_turns b es (event.Condition block) talk left before h s book fits (p, after, on) = fits_going_on b es (with_pause talk p) left before h s fits.0 fits.1 fits.2 on
fits_turns b es event.Opened talk left before h s book fits so = fits_submits b es talk talk.receipt left before h s fits.0 fits.1 fits.2 so
fits_turns b es (event.Recorded place) talk left before h s book fits so = fits_recorded b es talk.number talk.further before s book fits.0 fits.1 fits.2 so.1
fits_turns b es (event.Late id) talk left before h s book fits (inl (closes, same, is)) = subst (Fits b es) (sym is) (fits_printed b es talk.number before book fits.0 fits.1 fits.2)
fits_turns b es (event.Late id) talk left before h s book fits (inr (other, on)) = fits_going_on b es talk left before h s fits.0 fits.1 fits.2 on
fits_turns b es (event.BadAnswer place) talk left before h s book fits so = subst (Fits b es) (sym so.1) tt

-- Once an entry is kept, what follows fits the entries with it.
fits_opens : (b : Book) (es : List Entry) (due : Due) (first heard : ℕ) (h : HostView) (s : Stage) → Waits es due.number → 0 < times_tried es due.number → length es < most_entries
    → Opens due first heard h s → Fits b es s
fits_opens b es due first heard h s waits tried few (inl opened) = subst (Fits b es) (sym opened.1) (waits, tried, few)
fits_opens b es due first heard h s waits tried few (inr refused) = subst (Fits b es) (sym refused.2) tt

fits_sent : (b : Book) (es : List Entry) (e : Entry) (due : Due) (first heard : ℕ) (h : HostView) (s : Stage) → MayFollow es e → Suits (then.Send due) e → length es + 1 < most_entries
    → Opens due first heard h s → Fits b (es ++ e ∷ []) s
fits_sent b es (entry.Tried n next) due first heard h s follows suits few opens =
    let so = waits_tried es n next follows.0 in
    let long : length (es ++ entry.Tried n next ∷ []) ≡ length es + 1 = length-append es (entry.Tried n next ∷ []) in
    fits_opens b (es ++ entry.Tried n next ∷ []) due first heard h s (subst (Waits (es ++ entry.Tried n next ∷ [])) suits so.0)
    (subst (λ k. 0 < times_tried (es ++ entry.Tried n next ∷ []) k) suits so.1) (omega (arith, long, few)) opens
fits_sent b es (entry.Queued content) due first heard h s follows suits few opens = absurd suits
fits_sent b es (entry.Recorded n hd) due first heard h s follows suits few opens = absurd suits
fits_sent b es (entry.Raised next hd) due first heard h s follows suits few opens = absurd suits
fits_sent b es (entry.Cancelled n) due first heard h s follows suits few opens = absurd suits
fits_sent b es (entry.Key key) due first heard h s follows suits few opens = absurd suits
fits_sent b es (entry.Renewed last hd) due first heard h s follows suits few opens = absurd suits
fits_sent b es (entry.Earlier n key) due first heard h s follows suits few opens = absurd suits

-- The receipt whose key is kept may be taken next, and there is room for it.
needs_none : (e : Entry) (content : Content) → Suits (then.Take content) e → NeedsNoRoom e
needs_none (entry.Key key) content suits = tt
needs_none (entry.Raised next hd) content suits = tt
needs_none (entry.Queued c) content suits = absurd suits
needs_none (entry.Tried n next) content suits = absurd suits
needs_none (entry.Recorded n hd) content suits = absurd suits
needs_none (entry.Cancelled n) content suits = absurd suits
needs_none (entry.Renewed last hd) content suits = absurd suits
needs_none (entry.Earlier n key) content suits = absurd suits

fits_taken : (b b' : Book) (es : List Entry) (e : Entry) (content : Content) → Suits (then.Take content) e → length es + 1 < most_entries → HasRoom b → (NeedsNoRoom e → HasRoom b → HasRoom b')
    → Fits b' (es ++ e ∷ []) (stage.Keeping (entry.Queued content) then.Queued)
fits_taken b b' es e content suits few room stays =
    let long : length (es ++ e ∷ []) ≡ length es + 1 = length-append es (e ∷ []) in (
      tt,
      tt,
      omega (arith, few, long),
      λ c is. stays (needs_none e content suits) room,
      λ number next is. absurd (let bad : entry.Queued content ≡ entry.Tried number next = is in cc),
      λ c is. absurd (let bad : then.Queued ≡ then.Take c = is in cc),
      tt,
    )

-- After that a receipt is recorded the next one may be tried.
fits_going : (b b' : Book) (es : List Entry) (e : Entry) (n : ℕ) (tried : Entry) (due : Due) → Suits (then.GoOn n tried due) e → length es + 2 < most_entries → MayFollow (es ++ e ∷ []) tried
    → HasTryRoom b → ((m hd : ℕ) → e ≡ entry.Recorded m hd → HasTryRoom b → HasTryRoom b') → Fits b' (es ++ e ∷ []) (stage.Keeping tried (then.SendNext n due))
fits_going b b' es (entry.Recorded m hd) n tried due (same, (limit, is)) few follows room stays =
    let more : List Entry = es ++ entry.Recorded m hd ∷ [] in
    let long : length more ≡ length es + 1 = length-append es (entry.Recorded m hd ∷ []) in
    let this : Entry = entry.Tried due.number limit in
    subst (λ x. Fits b' more (stage.Keeping x (then.SendNext n due))) (sym is) (
      subst (MayFollow more) is follows,
      refl,
      omega (arith, few, long),
      λ content bad. absurd (let no : this ≡ entry.Queued content = bad in cc),
      (λ number next so. stays m hd refl room),
      (λ content bad. absurd (let no : then.SendNext n due ≡ then.Take content = bad in cc)),
      tt,
    )
fits_going b b' es (entry.Queued content) n tried due suits few follows room stays = absurd suits
fits_going b b' es (entry.Tried m next) n tried due suits few follows room stays = absurd suits
fits_going b b' es (entry.Raised next hd) n tried due suits few follows room stays = absurd suits
fits_going b b' es (entry.Cancelled m) n tried due suits few follows room stays = absurd suits
fits_going b b' es (entry.Key key) n tried due suits few follows room stays = absurd suits
fits_going b b' es (entry.Renewed last hd) n tried due suits few follows room stays = absurd suits
fits_going b b' es (entry.Earlier m key) n tried due suits few follows room stays = absurd suits

fits_sends_next : (b : Book) (es : List Entry) (n : ℕ) (due : Due) (before h : HostView) (s : Stage) → Waits es due.number → 0 < times_tried es due.number → length es < most_entries
    → SendsNext n due before h s → Fits b es s
fits_sends_next b es n due before h s waits tried few (inl (sends, is)) = subst (Fits b es) (sym is) (waits, tried, few)
fits_sends_next b es n due before h s waits tried few (inr (why, refuses, drops, is)) = subst (Fits b es) (sym is) tt

fits_sent_next : (b : Book) (es : List Entry) (e : Entry) (n : ℕ) (due : Due) (before h : HostView) (s : Stage) → MayFollow es e → Suits (then.SendNext n due) e → length es + 1 < most_entries
    → SendsNext n due before h s → Fits b (es ++ e ∷ []) s
fits_sent_next b es (entry.Tried m next) n due before h s follows suits few sends =
    let more : List Entry = es ++ entry.Tried m next ∷ [] in
    let so = waits_tried es m next follows.0 in
    let long : length more ≡ length es + 1 = length-append es (entry.Tried m next ∷ []) in
    fits_sends_next b more n due before h s (subst (Waits more) suits so.0) (subst (λ k. 0 < times_tried more k) suits so.1) (omega (arith, long, few)) sends
fits_sent_next b es (entry.Queued content) n due before h s follows suits few sends = absurd suits
fits_sent_next b es (entry.Recorded m hd) n due before h s follows suits few sends = absurd suits
fits_sent_next b es (entry.Raised next hd) n due before h s follows suits few sends = absurd suits
fits_sent_next b es (entry.Cancelled m) n due before h s follows suits few sends = absurd suits
fits_sent_next b es (entry.Key key) n due before h s follows suits few sends = absurd suits
fits_sent_next b es (entry.Renewed last hd) n due before h s follows suits few sends = absurd suits
fits_sent_next b es (entry.Earlier m key) n due before h s follows suits few sends = absurd suits

pub fits_follows : (b b' : Book) (es : List Entry) (e : Entry) (next : Then) (before : HostView) (first : ℕ) (h : HostView) (s : Stage) → Fits b es (stage.Keeping e next)
    → (NeedsNoRoom e → HasRoom b → HasRoom b') → ((n : ℕ) (tried : Entry) (due : Due) (m hd : ℕ) → next ≡ then.GoOn n tried due → e ≡ entry.Recorded m hd → HasTryRoom b → HasTryRoom b')
    → Follows next before first b' h s → Fits b' (es ++ e ∷ []) s
fits_follows b b' es e then.Queued before first h s fits stays try_stays so = subst (Fits b' (es ++ e ∷ [])) (sym so.3) tt
fits_follows b b' es e (then.Take content) before first h s fits stays try_stays so =
    let (follows, suits, few, queued, tried, room, with) = fits in
    subst (Fits b' (es ++ e ∷ [])) (sym so.1) (fits_taken b b' es e content suits few (room content refl) stays)
fits_follows b b' es e then.Raised before first h s fits stays try_stays so = subst (Fits b' (es ++ e ∷ [])) (sym so.1) tt
fits_follows b b' es e (then.Cancelled number tried) before first h s fits stays try_stays so = subst (Fits b' (es ++ e ∷ [])) (sym so.1) tt
fits_follows b b' es e (then.Send due) before first h s fits stays try_stays so = fits_sent b' es e due first b'.heard h s fits.0 fits.1 fits.2 so
fits_follows b b' es e (then.Recorded number) before first h s fits stays try_stays so = subst (Fits b' (es ++ e ∷ [])) (sym so.1) tt
fits_follows b b' es e (then.GoOn n tried due) before first h s fits stays try_stays so =
    let (follows, suits, few, queued, at_try, taken, (tries, room)) = fits in
    subst (Fits b' (es ++ e ∷ [])) (sym so.1) (fits_going b b' es e n tried due suits few tries room (λ m hd is. try_stays n tried due m hd refl is))
fits_follows b b' es e (then.SendNext n due) before first h s fits stays try_stays so = fits_sent_next b' es e n due before h s fits.0 fits.1 fits.2 so

-- A receipt that was taken has a state.
pub state_of_taken : (es : List Entry) (e : Entry) → Suits then.Queued e → 0 < length (states (es ++ e ∷ []))
state_of_taken es (entry.Queued content) suits = some_state (es ++ entry.Queued content ∷ []) es content refl
state_of_taken es (entry.Tried n next) suits = absurd suits
state_of_taken es (entry.Recorded n hd) suits = absurd suits
state_of_taken es (entry.Raised next hd) suits = absurd suits
state_of_taken es (entry.Cancelled n) suits = absurd suits
state_of_taken es (entry.Key key) suits = absurd suits
state_of_taken es (entry.Renewed last hd) suits = absurd suits
state_of_taken es (entry.Earlier n key) suits = absurd suits

-- What came over a link, as it is told of the machine's parts.
pub came_so : (talk : Talk) (now : Stage) (b inside : Book) (h host : HostView) (bytes : List ℕ) (consumed : ℕ) (e : HostEvent) (heard : HostView) (left : ℕ) (after : HostView) (s : Stage)
    → now ≡ stage.Talking talk → host ≡ h → inside ≡ b → HearsOne host bytes consumed e heard → left ≡ talk.left - consumed → Turns inside e talk left heard after s
    → (IsGoingOn s → consumed ≡ length bytes) → Came now bytes consumed (record { book = b; host = h; stage = now }) (record { book = inside; host = after; stage = s })
came_so talk now b inside h host bytes consumed e heard left after s is same books hears less turns all =
    subst (λ stage. Came stage bytes consumed (record { book = b; host = h; stage = now }) (record { book = inside; host = after; stage = s })) (sym is) (
      e,
      heard,
      subst (λ x. HearsOne x bytes consumed e heard) same hears,
      subst (λ k. Turns k e talk (talk.left - consumed) heard after s) books (subst (λ n. Turns inside e talk n heard after s) less turns),
      books,
      all,
    )

-- No more is heard than came.
taken_within : (e : HostEvent) (at : ℕ) → taken_at e at ≤ at + 1
taken_within event.None at = omega arith
taken_within event.Opened at = omega arith
taken_within (event.Recorded n) at = omega arith
taken_within (event.Late id) at = omega arith
taken_within (event.Status byte) at = omega arith
taken_within (event.Condition block) at = omega arith
taken_within (event.BadAnswer place) at = omega arith

heard_within : (h : HostView) (bytes : List ℕ) (consumed : ℕ) (e : HostEvent) (after : HostView) → IsHeard h bytes consumed e after → consumed ≤ length bytes
heard_within h bytes consumed e after (inl (none, all, passed, same)) = omega (arith, all)
heard_within h bytes consumed e after (inr (at, half, within, some, count, passed, byte)) = omega (arith, count, taken_within e at, within)

pub hears_within : (phase : Phase) (h : HostView) (bytes : List ℕ) (consumed : ℕ) (e : HostEvent) (after : HostView) → h.phase ≡ phase → HearsOne h bytes consumed e after → consumed ≤ length bytes
hears_within Down h bytes consumed e after is hears = omega (arith, (hears.0 is).0)
hears_within (Opening first) h bytes consumed e after is hears = heard_within h bytes consumed e after (hears.1 (λ down. absurd (let bad : Opening first ≡ Down = sym is ∙ down in cc)))
hears_within (Open flight) h bytes consumed e after is hears = heard_within h bytes consumed e after (hears.1 (λ down. absurd (let bad : Open flight ≡ Down = sym is ∙ down in cc)))

-- A link that is given up after a refusal is given up from before it.
pub drops_from : (h mid after : HostView) → (mid ≡ h) ⊎ ((h.phase ≡ Open []) × (mid ≡ reports_asked h)) → Drops mid after → Drops h after
drops_from h mid after (inl same) drops = subst (λ v. Drops v after) same drops
drops_from h mid after (inr (up, asked)) drops =
    let from = subst (λ v. Drops v after) asked drops in
    (λ down. absurd (let bad : Open [] ≡ Down = sym up ∙ down in cc), λ some. from.1 some)

-- The receipt isn't sent: the host refuses it, or the request before it.
pub refuses_so : (talk : Talk) (held : Option (List Command)) (receipt : List Command) (left : ℕ) (before h : HostView) (s : Stage) (why : HostError) → held ≡ Some receipt → 0 < left
    → RefusesSending why before → Drops before h → s ≡ stage.HangingUp (note.Waiting talk.number (fault.Refused why)) → Submits talk held left before h s
refuses_so talk held receipt zero before h s why has some refuses drops is = absurd (omega (arith, some))
refuses_so talk held receipt (suc left) before h s why has some refuses drops is =
    subst (λ r. Submits talk r (suc left) before h s) (sym has) (inr (why, refuses, drops, is))

-- ## Keys

pub known_so : (b : Book) (key : List ℕ) (r : Option ℕ) → ((es : List Entry) → IsBookOf b es → MatchOption r ((n : ℕ) → HasKey es key n → ⊥) (λ n. HasKey es key n))
    → MatchOption r (IsNew b (Some key)) (λ n. IsKnown b (Some key) n)
known_so b key None says = says
known_so b key (Some n) says = says

-- What is kept first of a receipt fits, where no receipt has its key.
pub fits_taking : (b old : Book) (es : List Entry) (key last : Option (List ℕ)) (content : Content) → IsBookOf b es → IsBookOf old es → IsNew old key → length es + 1 < most_entries → HasRoom b
    → Fits b es (taking key last b.next content)
fits_taking b old es (Some key) last content book was new few room = (
  new es was,
  tt,
  few,
  λ c is. absurd (let bad : entry.Key key ≡ entry.Queued c = is in cc),
  λ number next is. absurd (let bad : entry.Key key ≡ entry.Tried number next = is in cc),
  λ c is. room,
  tt,
)
fits_taking b old es None (Some last) content book was new few room = (
  (omega (arith, book.next), inl refl),
  tt,
  few,
  λ c is. absurd (let bad : entry.Raised b.next 0 ≡ entry.Queued c = is in cc),
  λ number next is. absurd (let bad : entry.Raised b.next 0 ≡ entry.Tried number next = is in cc),
  λ c is. room,
  tt,
)
fits_taking b old es None None content book was new few room = (
  tt,
  tt,
  omega (arith, few),
  λ c is. room,
  λ number next is. absurd (let bad : entry.Queued content ≡ entry.Tried number next = is in cc),
  λ c is. absurd (let bad : then.Queued ≡ then.Take c = is in cc),
  tt,
)

-- What a machine keeps is about no older ledger.
pub suits_nothing_older : (next : Then) (n : ℕ) (key : List ℕ) → Suits next (entry.Earlier n key) → ⊥
suits_nothing_older then.Queued n key suits = suits
suits_nothing_older (then.Take content) n key suits = suits
suits_nothing_older then.Raised n key suits = suits
suits_nothing_older (then.Cancelled number tried) n key suits = suits
suits_nothing_older (then.Send due) n key suits = suits
suits_nothing_older (then.Recorded number) n key suits = suits
suits_nothing_older (then.GoOn number tried due) n key suits = suits
suits_nothing_older (then.SendNext recorded due) n key suits = suits
