-- Why what a driver puts on its links has marks of its own, deed by deed.
use Rattle.std.proofs.Common.{ℕ, zero, suc, ◌≡◌, ◌≢◌, ◌≤◌, inl, inr, Option, Some, None, List, [], ◌∷◌, ◌++◌, take, drop, refl, sym, ◌∙◌, ap, subst, append_assoc, arith}
use Rattle.std.specs.List.{AllByRecursion}
use Rattle.std.proofs.Math.Nat.{min-eq_left}
use Rattle.escpos_command.specs.declared.command.Command.{Command}
use Rattle.escpos_host.specs.declared.host.HostEvent.{HostEvent}
use Rattle.escpos_host.specs.declared.host.HostEvent.TheVariants as heard
use Rattle.escpos_host.specs.declared.send.SendFault.{SendFault}
use Rattle.escpos_host.specs.Earlier.{with_earlier}
use Rattle.escpos_host.specs.Machine.{HostView}
use Rattle.escpos_host.proofs.NoRealTime.{Ids}
use Rattle.escpos_till.specs.declared.book.Book.{Book}
use Rattle.escpos_till.specs.declared.entry.Content.{Content}
use Rattle.escpos_till.specs.declared.entry.Entry.{Entry}
use Rattle.escpos_till.specs.declared.entry.Entry.TheVariants as entry
use Rattle.escpos_till.specs.declared.stage.Stage.{Stage}
use Rattle.escpos_till.specs.declared.stage.Stage.TheVariants as stage
use Rattle.escpos_till.specs.declared.stage.Talk.{Talk}
use Rattle.escpos_till.specs.declared.stage.Then.{Then}
use Rattle.escpos_till.specs.declared.stage.Then.TheVariants as then
use Rattle.escpos_till.specs.declared.note.TillNote.{TillNote}
use Rattle.escpos_till.specs.declared.store.StoreFault.{StoreFault}
use Rattle.escpos_till.specs.Appending.{added}
use Rattle.escpos_till.specs.Book.{IsBookOf}
use Rattle.escpos_till.specs.Driver.{Breaks, Confirms, Deed, DidAll, Ends, Gives, HangsUp, HearsAll, IsGiven, Keeps, KeepsEntry, Learns, Links, Loses, MayGoWith, Misses, Pauses, Puts, Tells, Turns}
use Rattle.escpos_till.specs.Entries.{MayFollow, next_free}
use Rattle.escpos_till.specs.Learning.{FollowAll, Learned}
use Rattle.escpos_till.specs.Machine.{Came, Ended, Follows, GoesOn, Kept, MachineView, Submits, Suits, Turns as Turned, Unsure, entry_with, put, told, with_pause}
use Rattle.escpos_till_model.specs.Around.{Around, Does, DoesInTime, HasNoLink, IsAround, around}
use Rattle.escpos_till_model.specs.Carried.{AreApart, Carried, CarriesBy, HasOwnMarks, UsesMarksOnce, link_for, link_of, with_put}
use Rattle.escpos_till_model.specs.Kept.{Hand}
use Rattle.escpos_till_model.specs.Known.{BookMayLag, Holds, IsHostOf, IsMachineIn, IsToKeep, IsToSendNext, IsWorld}
use Rattle.escpos_till_model.specs.World.{HasCome, IsSendable, World}
use Rattle.escpos_till_model.proofs.CarriedCalls.{IsQuiet, SaysOn, TalksOn, apart_more, both_grow, connected_so, ended_so, grows, hung_so, learned_quiet, lost_quiet, others_grow, missed_so, note_quiet, one_put, part_put, quiet_on, same_or_quiet, second_follows}
use Rattle.escpos_till_model.proofs.Carrying.{came_says, kept_by, news_on, sent_next}
use Rattle.escpos_till_model.proofs.Driven.{does, shows_around}
use Rattle.escpos_till_model.proofs.DriverDoes.{IsEnding, ends_on, lags_ends, unsure_lags}
use Rattle.escpos_till_model.proofs.Rows.{EveryWorld}
use Rattle.escpos_till_model.proofs.Shown.{Shows, later}
use Rattle.escpos_till_model.proofs.TillWorlds.{comes_on}

-- ## What holds of the links between two deeds

pub record OnLinks (low : ℕ) (kept : List Entry) (m : MachineView) (links : List Carried) : Type 0 where
  pub apart : AreApart low links (next_free kept)
  pub own : AllByRecursion HasOwnMarks links
  pub talks : TalksOn m.stage m.host links

-- These links, with what the deeds that follow put on them.
abbrev Goes : ℕ → List Entry → MachineView → List Deed → List Carried → Type 0
Goes low kept m ds links = (now : List Carried) × OnLinks low kept m now × CarriesBy kept ds now links

-- Neither is a byte put nor an entry kept.
same_links : (low : ℕ) (kept : List Entry) (m mid : MachineView) (before : List Carried) → OnLinks low kept m before → TalksOn mid.stage mid.host before → OnLinks low kept mid before
same_links low kept m mid before on talks = record { apart = on.apart; own = on.own; talks = talks }

passes : (low : ℕ) (kept : List Entry) (m mid : MachineView) (ds : List Deed) (before links : List Carried) → OnLinks low kept m before → TalksOn mid.stage mid.host before → CarriesBy kept ds before links
    → Goes low kept mid ds links
passes low kept m mid ds before links on talks carries = (before, same_links low kept m mid before on talks, carries)

told_on : (n : TillNote) (m mid : MachineView) (links : List Carried) → m.stage ≡ stage.Telling n → mid ≡ told m.stage m → TalksOn mid.stage mid.host links
told_on n m mid links at mid_is = quiet_on mid.stage mid.host links (subst (λ k. IsQuiet k.stage) (sym (mid_is ∙ ap (λ s. told s m) at)) (note_quiet n))

-- ## What is heard

-- The receipt that is still to be sent fits the line.
abbrev FitsTalk : Stage → Type 0
FitsTalk (stage.Talking talk) = (commands : List Command) → talk.receipt ≡ Some commands → IsSendable commands
FitsTalk s = Unit {0}

goes_fits : (talk : Talk) (left : ℕ) (h : HostView) (after : MachineView) → FitsTalk (stage.Talking talk) → GoesOn talk left h after.host after.stage → FitsTalk after.stage
goes_fits talk zero h after fits (drops, is) = subst FitsTalk (sym is) tt
goes_fits talk (suc left) h after fits (same, is) = subst FitsTalk (sym is) fits

submits_fits : (talk : Talk) (receipt : Option (List Command)) (left : ℕ) (h : HostView) (after : MachineView) → FitsTalk (stage.Talking talk) → Submits talk receipt left h after.host after.stage → FitsTalk after.stage
submits_fits talk (Some commands) (suc left) h after fits (inl (sends, is)) = subst FitsTalk (sym is) (λ others some. absurd (let bad : None ≡ Some others = some in cc))
submits_fits talk (Some commands) (suc left) h after fits (inr (why, refuses, drops, is)) = subst FitsTalk (sym is) tt
submits_fits talk (Some commands) zero h after fits so = goes_fits talk zero h after fits so
submits_fits talk None left h after fits so = goes_fits talk left h after fits so

turned_fits : (b : Book) (e : HostEvent) (talk : Talk) (left : ℕ) (h : HostView) (after : MachineView) → FitsTalk (stage.Talking talk) → Turned b e talk left h after.host after.stage → FitsTalk after.stage
turned_fits b heard.None talk left h after fits turned = goes_fits talk left h after fits turned
turned_fits b (heard.Status byte) talk left h after fits turned = goes_fits talk left h after fits turned
turned_fits b (heard.Condition block) talk left h after fits (p, told, turned) = goes_fits (with_pause talk p) left h after fits turned
turned_fits b (heard.Late id) talk left h after fits (inl (closes, host, is)) = subst FitsTalk (sym is) tt
turned_fits b (heard.Late id) talk left h after fits (inr (other, turned)) = goes_fits talk left h after fits turned
turned_fits b heard.Opened talk left h after fits turned = submits_fits talk talk.receipt left h after fits turned
turned_fits b (heard.Recorded place) talk left h after fits (host, inl is) = subst FitsTalk (sym is) tt
turned_fits b (heard.Recorded place) talk left h after fits (host, inr further) = subst FitsTalk (sym further.stage_is) tt
turned_fits b (heard.BadAnswer place) talk left h after fits (drops, is) = subst FitsTalk (sym is) tt

came_fits : (talk : Talk) (m after : MachineView) (bytes : List ℕ) (count : ℕ) → FitsTalk (stage.Talking talk) → Came (stage.Talking talk) bytes count m after → FitsTalk after.stage
came_fits talk m after bytes count fits (e, h, hears, turned, book, all) = turned_fits m.book e talk _ h after fits turned

one_heard : Ids → (talk : Talk) (m mid : MachineView) (bytes : List ℕ) (count : ℕ) (links : List Carried) → m.stage ≡ stage.Talking talk → FitsTalk m.stage → TalksOn m.stage m.host links
    → Came m.stage bytes count m mid → FitsTalk mid.stage × TalksOn mid.stage mid.host links
one_heard ids talk m mid bytes count links at fits talks came =
    let so = subst (λ s. Came s bytes count m mid) at came in
    let fit : FitsTalk (stage.Talking talk) = subst FitsTalk at fits in
    (came_fits talk m mid bytes count fit so, came_says ids links talk m mid bytes count (subst (λ s. TalksOn s m.host links) at talks) fit so)

all_heard : Ids → (counts : List ℕ) (m after : MachineView) (bytes : List ℕ) (links : List Carried) → FitsTalk m.stage → TalksOn m.stage m.host links → HearsAll m bytes counts after
    → TalksOn after.stage after.host links
all_heard ids [] m after bytes links fits talks (same, none) = subst (λ k. TalksOn k.stage k.host links) (sym same) talks
all_heard ids (count ∷ counts) m after bytes links fits talks (talk, mid, at, some, came, sound, more) =
    let (fit, says) = one_heard ids talk m mid bytes count links at fits talks came in
    all_heard ids counts mid after (drop count bytes) links fit says more

given_on : Ids → (bytes : List ℕ) (talk : Talk) (m after : MachineView) (links : List Carried) → m.stage ≡ stage.Talking talk → FitsTalk m.stage → TalksOn m.stage m.host links → IsGiven m bytes after
    → TalksOn after.stage after.host links
given_on ids [] talk m after links at fits talks came = (one_heard ids talk m after [] 0 links at fits talks came).1
given_on ids (b ∷ bs) talk m after links at fits talks (counts, hears) = all_heard ids counts m after (b ∷ bs) links fits talks hears

-- ## What is kept

first_link : (kept : List Entry) (e : Entry) (content : Content) → Suits (then.Take content) e → link_for kept e ≡ []
first_link kept (entry.Key key) content suits = refl
first_link kept (entry.Raised next hd) content suits = refl
first_link kept (entry.Queued c) content suits = absurd suits
first_link kept (entry.Tried n next) content suits = absurd suits
first_link kept (entry.Recorded n hd) content suits = absurd suits
first_link kept (entry.Cancelled n) content suits = absurd suits
first_link kept (entry.Renewed last hd) content suits = absurd suits
first_link kept (entry.Earlier k key) content suits = absurd suits

same_link : (next : Then) (kept : List Entry) (hand : Option Hand) (h : HostView) (e : Entry) → IsToKeep kept hand h e next → link_for kept e ≡ link_of next e (next_free kept)
same_link then.Queued kept hand h e (none, content, is) = ap (link_for kept) is
same_link (then.Take content) kept hand h e (none, suits) = first_link kept e content suits
same_link then.Raised kept hand h e (none, first, hd, is) = ap (link_for kept) is
same_link (then.Cancelled number tried) kept hand h e (none, is, times) = ap (link_for kept) is
same_link (then.Send due) kept hand h e (none, sends, is) = ap (link_for kept) is ∙ sym (ap (λ x. link_of (then.Send due) x (next_free kept)) is)
same_link (then.Recorded number) kept hand h e (held, hand_is, number_is, (hd, is, some, heard_so), fewer, up) = ap (link_for kept) is
same_link (then.GoOn number tried due) kept hand h e ((held, hand_is, number_is, (hd, is, some, heard_so), fewer, up), sends) = ap (link_for kept) is
same_link (then.SendNext number due) kept hand h e (held, hand_is, records, sends, so) =
    ap (link_for kept) sends.tried_is ∙ sym (ap (λ x. link_of (then.SendNext number due) x (next_free kept)) sends.tried_is)

-- What the world knows of the machine.
abbrev pub Knows : MachineView → List Entry → Option Hand → HostView → Type 0
Knows m kept hand h = ((BookMayLag m.stage → ⊥) → IsBookOf m.book kept) × Holds kept hand h m.stage × ((m.host.out ≡ h.out) × (m.host.next ≡ h.next))

keeps_on : Ids → (low : ℕ) (kept : List Entry) (hand : Option Hand) (h : HostView) (m mid : MachineView) (e : Entry) (before : List Carried) → Knows m kept hand h → KeepsEntry m e mid
    → OnLinks low kept m before → OnLinks low (kept ++ e ∷ []) mid (link_for kept e ++ before)
keeps_on ids low kept hand h m mid e before knows (next, is, keeps) on =
    let holds = subst (Holds kept hand h) is knows.1 in
    let book = (subst (λ s. (BookMayLag s → ⊥) → IsBookOf m.book kept) is knows.0) (λ no. no) in
    let so = subst (λ s. Kept s m mid) is keeps in
    let (apart, own, talks) = kept_by ids next low before kept hand h m mid e book.next knows.2 holds.0 holds.1 so.1 on.apart on.own in
    subst (λ ls. OnLinks low (kept ++ e ∷ []) mid (ls ++ before)) (sym (same_link next kept hand h e holds.1)) (record { apart = apart; own = own; talks = talks })

-- Two entries are kept together: that a receipt is recorded, and that the next one is tried over the same link.
second_on : Ids → (next : Then) (low : ℕ) (kept : List Entry) (hand : Option Hand) (h : HostView) (m mid after : MachineView) (e f : Entry) (before : List Carried) → Knows m kept hand h
    → IsToKeep kept hand h e next → entry_with next ≡ Some f → Follows next m.host m.book.next mid.book mid.host mid.stage → KeepsEntry mid f after → OnLinks low (kept ++ e ∷ []) mid before
    → OnLinks low (kept ++ e ∷ f ∷ []) after (link_for (kept ++ e ∷ []) f ++ before)
second_on ids (then.GoOn number tried due) low kept hand h m mid after e f before knows keeps with (host, at) (next, is, second) on =
    let more : List Entry = kept ++ e ∷ [] in
    let same : tried ≡ f = (let both : Some tried ≡ Some f = with in cc) in
    let sends : IsToSendNext more h due f = subst (IsToSendNext more h due) same keeps.1 in
    let so = subst (λ s. Kept s mid after) at second in
    let host_same : (mid.host.out ≡ h.out) × (mid.host.next ≡ h.next) = (ap (λ v. v.out) host ∙ knows.2.0, ap (λ v. v.next) host ∙ knows.2.1) in
    let (apart, own, talks) = sent_next ids low before more number due h mid after f host_same sends so.1 on.apart on.own in
    let link : link_for more f ≡ link_of (then.SendNext number due) f (next_free more) =
    ap (link_for more) sends.tried_is ∙ sym (ap (λ x. link_of (then.SendNext number due) x (next_free more)) sends.tried_is) in
    subst (λ es. OnLinks low es after (link_for more f ++ before)) (append_assoc kept (e ∷ []) (f ∷ []))
    (subst (λ ls. OnLinks low (more ++ f ∷ []) after (ls ++ before)) (sym link) (record { apart = apart; own = own; talks = talks }))
second_on ids then.Queued low kept hand h m mid after e f before knows keeps with follows second on = absurd (let bad : None ≡ Some f = with in cc)
second_on ids (then.Take content) low kept hand h m mid after e f before knows keeps with follows second on = absurd (let bad : None ≡ Some f = with in cc)
second_on ids then.Raised low kept hand h m mid after e f before knows keeps with follows second on = absurd (let bad : None ≡ Some f = with in cc)
second_on ids (then.Cancelled number tried) low kept hand h m mid after e f before knows keeps with follows second on = absurd (let bad : None ≡ Some f = with in cc)
second_on ids (then.Send due) low kept hand h m mid after e f before knows keeps with follows second on = absurd (let bad : None ≡ Some f = with in cc)
second_on ids (then.Recorded number) low kept hand h m mid after e f before knows keeps with follows second on = absurd (let bad : None ≡ Some f = with in cc)
second_on ids (then.SendNext number due) low kept hand h m mid after e f before knows keeps with follows second on = absurd (let bad : None ≡ Some f = with in cc)

both_on : Ids → (low : ℕ) (kept : List Entry) (hand : Option Hand) (h : HostView) (m mid : MachineView) (e f : Entry) (before : List Carried) → Knows m kept hand h → Turns m (Keeps e (Some f)) mid
    → OnLinks low kept m before → OnLinks low (kept ++ e ∷ f ∷ []) mid (link_for (kept ++ e ∷ []) f ++ (link_for kept e ++ before))
both_on ids low kept hand h m mid e f before knows (between, next, is, with, keeps, sound, second) on =
    let first = keeps_on ids low kept hand h m between e before knows (next, is, keeps) on in
    let holds = subst (Holds kept hand h) is knows.1 in
    let so = subst (λ s. Kept s m between) is keeps in
    second_on ids next low kept hand h m between mid e f (link_for kept e ++ before) knows holds.1 with so.1 second first

learns_on : (low : ℕ) (kept : List Entry) (m mid : MachineView) (others : List Entry) (before : List Carried) → FollowAll kept others → Turns m (Learns others) mid → OnLinks low kept m before
    → OnLinks low (kept ++ others) mid before
learns_on low kept m mid others before follow (e, next, is, learned) on = record {
  apart = apart_more low (next_free kept) (next_free (kept ++ others)) before (others_grow kept others follow) on.apart;
  own = on.own;
  talks = quiet_on mid.stage mid.host before (learned_quiet e next others m mid (subst (λ s. Learned s others m mid) is learned));
}

-- What is lost may be kept, and with it what was to be kept together with it.
with_follow : (kept : List Entry) (hand : Option Hand) (h : HostView) (e : Entry) (next : Then) (and_then : Option Entry) → MayFollow kept e → IsToKeep kept hand h e next → MayGoWith and_then next
    → next_free kept ≤ next_free (kept ++ added e and_then)
with_follow kept hand h e next None follows keeps goes = grows kept e follows
with_follow kept hand h e next (Some f) follows keeps goes = both_grow kept e f follows (second_follows next kept hand h e f keeps goes)

loses_on : (low : ℕ) (kept : List Entry) (hand : Option Hand) (h : HostView) (m mid : MachineView) (e : Entry) (and_then : Option Entry) (why : StoreFault) (before : List Carried) → Knows m kept hand h
    → Turns m (Loses e and_then why) mid → OnLinks low kept m before → OnLinks low kept mid before × OnLinks low (kept ++ added e and_then) mid before
loses_on low kept hand h m mid e and_then why before knows (next, is, goes, unsure) on =
    let holds = subst (Holds kept hand h) is knows.1 in
    let so = subst (λ s. Unsure s why m mid) is unsure in
    let talks : TalksOn mid.stage mid.host before = quiet_on mid.stage mid.host before (subst IsQuiet (sym so.2) (lost_quiet next why)) in (
      record { apart = on.apart; own = on.own; talks = talks },
      record {
        apart = apart_more low (next_free kept) (next_free (kept ++ added e and_then)) before (with_follow kept hand h e next and_then holds.0 holds.1 goes) on.apart;
        own = on.own;
        talks = talks;
      },
    )

-- ## What is put

puts_on : (low : ℕ) (kept : List Entry) (m mid : MachineView) (bytes : List ℕ) (before : List Carried) → Turns m (Puts bytes) mid → OnLinks low kept m before → OnLinks low kept mid (with_put bytes before)
puts_on low kept m mid bytes before (count, next, mid_is) on =
    let says = subst (λ s. TalksOn s m.host before) next.talks on.talks in
    let (apart, own, talks) = one_put low (next_free kept) before m.host next.talk.receipt count count (sym (min-eq_left next.within)) says on.apart on.own in
    subst (λ bs. OnLinks low kept mid (with_put bs before)) (sym next.bytes_are) (record {
      apart = apart;
      own = own;
      talks = subst (λ k. TalksOn k.stage k.host (with_put (take count m.host.out) before)) (sym (mid_is ∙ ap (λ s. put s count m) next.talks)) talks;
    })

breaks_on : (low : ℕ) (kept : List Entry) (m mid : MachineView) (bytes : List ℕ) (why : SendFault) (fewer : ℕ) (before : List Carried) → Turns m (Breaks bytes why) mid → OnLinks low kept m before
    → OnLinks low kept mid (with_put (take fewer bytes) before)
breaks_on low kept m mid bytes why fewer before (count, next, ended) on =
    let says = subst (λ s. TalksOn s m.host before) next.talks on.talks in
    let (apart, own) = part_put low (next_free kept) before m.host next.talk.receipt count fewer says on.apart on.own in
    let (drops, book, at) = subst (λ s. Ended s why (put s count m) mid) next.talks ended in
    let links : List Carried = with_put (take fewer (take count m.host.out)) before in
    subst (λ bs. OnLinks low kept mid (with_put (take fewer bs) before)) (sym next.bytes_are) (record {
      apart = apart;
      own = own;
      talks = quiet_on mid.stage mid.host links (subst IsQuiet (sym at) tt);
    })

-- ## Where no more is kept

-- It is no matter then which entries the store has.
ends_alone : {D : Type 0} (did : D → Deed → D → Type 0) (ds : List Deed) (m after : MachineView) (old new : D) (kept others : List Entry) (before links : List Carried) → IsEnding m.stage
    → DidAll did m old ds after new → CarriesBy kept ds before links → CarriesBy others ds before links
ends_alone did [] m after old new kept others before links ending all carries = carries
ends_alone did (HangsUp ∷ ds) m after old new kept others before links ending (mid, between, turns, sound, first, more) carries =
    ends_alone did ds mid after between new kept others before links (ends_on HangsUp m mid ending turns).1 more carries
ends_alone did (Tells n ∷ ds) m after old new kept others before links ending (mid, between, turns, sound, first, more) carries =
    ends_alone did ds mid after between new kept others before links (ends_on (Tells n) m mid ending turns).1 more carries
ends_alone did (Keeps e and_then ∷ ds) m after old new kept others before links ending (mid, between, turns, sound, first, more) carries = absurd (ends_on (Keeps e and_then) m mid ending turns).0
ends_alone did (Learns others' ∷ ds) m after old new kept others before links ending (mid, between, turns, sound, first, more) carries = absurd (ends_on (Learns others') m mid ending turns).0
ends_alone did (Loses e and_then why ∷ ds) m after old new kept others before links ending (mid, between, turns, sound, first, more) carries = absurd (ends_on (Loses e and_then why) m mid ending turns).0
ends_alone did (Links ∷ ds) m after old new kept others before links ending (mid, between, turns, sound, first, more) carries = absurd (ends_on Links m mid ending turns).0
ends_alone did (Misses ∷ ds) m after old new kept others before links ending (mid, between, turns, sound, first, more) carries = absurd (ends_on Misses m mid ending turns).0
ends_alone did (Puts bytes ∷ ds) m after old new kept others before links ending (mid, between, turns, sound, first, more) carries = absurd (ends_on (Puts bytes) m mid ending turns).0
ends_alone did (Breaks bytes why ∷ ds) m after old new kept others before links ending (mid, between, turns, sound, first, more) carries = absurd (ends_on (Breaks bytes why) m mid ending turns).0
ends_alone did (Gives room bytes ∷ ds) m after old new kept others before links ending (mid, between, turns, sound, first, more) carries = absurd (ends_on (Gives room bytes) m mid ending turns).0
ends_alone did (Ends why ∷ ds) m after old new kept others before links ending (mid, between, turns, sound, first, more) carries = absurd (ends_on (Ends why) m mid ending turns).0
ends_alone did (Pauses number why ∷ ds) m after old new kept others before links ending (mid, between, turns, sound, first, more) carries = absurd (ends_on (Pauses number why) m mid ending turns).0
ends_alone did (Confirms number ∷ ds) m after old new kept others before links ending (mid, between, turns, sound, first, more) carries = absurd (ends_on (Confirms number) m mid ending turns).0

-- ## One deed, and the others

fits_here : (kept : List Entry) (hand : Option Hand) (h : HostView) (m : MachineView) (talk : Talk) → m.stage ≡ stage.Talking talk → Holds kept hand h m.stage → FitsTalk m.stage
fits_here kept hand h m talk at holds =
    let so = subst (Holds kept hand h) at holds in
    subst FitsTalk (sym at) (λ commands some. (so.7 commands some).1)

at_entries : (low : ℕ) (mid : MachineView) (ds : List Deed) (links : List Carried) (between same : Around) → between ≡ same → Goes low same.kept mid ds links → Goes low between.kept mid ds links
at_entries low mid ds links between same is goes = subst (λ b. Goes low b.kept mid ds links) (sym is) goes

step : Ids → (d : Deed) (ds : List Deed) (low : ℕ) (m mid after : MachineView) (a between new : Around) (hand : Option Hand) (h : HostView) (before links : List Carried) → Knows m a.kept hand h → Turns m d mid → Does a d between
    → DidAll DoesInTime mid between ds after new → OnLinks low a.kept m before → CarriesBy a.kept (d ∷ ds) before links → Goes low between.kept mid ds links
step ids (Keeps e None) ds low m mid after a between new hand h before links knows turns is more on carries =
    at_entries low mid ds links between _ is (link_for a.kept e ++ before, keeps_on ids low a.kept hand h m mid e before knows turns on, carries)
step ids (Keeps e (Some f)) ds low m mid after a between new hand h before links knows turns is more on carries =
    at_entries low mid ds links between _ is (link_for (a.kept ++ e ∷ []) f ++ (link_for a.kept e ++ before), both_on ids low a.kept hand h m mid e f before knows turns on, carries)
step ids (Loses e and_then why) ds low m mid after a between new hand h before links knows turns (inl is) more on carries =
    at_entries low mid ds links between _ is (before, (loses_on low a.kept hand h m mid e and_then why before knows turns on).0, carries)
step ids (Loses e and_then why) ds low m mid after a between new hand h before links knows turns (inr is) more on carries =
    let ending = lags_ends mid.stage (unsure_lags m mid e and_then why turns) in
    at_entries low mid ds links between _ is (
      before,
      (loses_on low a.kept hand h m mid e and_then why before knows turns on).1,
      ends_alone DoesInTime ds mid after between new a.kept (a.kept ++ added e and_then) before links ending more carries,
    )
step ids (Learns others) ds low m mid after a between new hand h before links knows turns (added, is) more on carries =
    at_entries low mid ds links between _ is (before, learns_on low a.kept m mid others before added.follow turns on, carries)
step ids Links ds low m mid after a between new hand h before links knows (due, at, mid_is) is more on carries =
    at_entries low mid ds links between _ is (passes low a.kept m mid ds before links on (same_or_quiet m mid before (connected_so m.stage m mid mid_is) on.talks) carries)
step ids Misses ds low m mid after a between new hand h before links knows (due, at, mid_is) (inl is) more on carries =
    at_entries low mid ds links between _ is (passes low a.kept m mid ds before links on (same_or_quiet m mid before (missed_so m.stage m mid mid_is) on.talks) carries)
step ids Misses ds low m mid after a between new hand h before links knows (due, at, mid_is) (inr is) more on carries =
    at_entries low mid ds links between _ is (passes low a.kept m mid ds before links on (same_or_quiet m mid before (missed_so m.stage m mid mid_is) on.talks) carries)
step ids (Puts bytes) ds low m mid after a between new hand h before links knows turns is more on (some, carries) =
    at_entries low mid ds links between _ is (with_put bytes before, puts_on low a.kept m mid bytes before turns on, carries)
step ids (Breaks bytes why) ds low m mid after a between new hand h before links knows turns (count, few, is) more on (fewer, within, some, carries) =
    at_entries low mid ds links between _ is (with_put (take fewer bytes) before, breaks_on low a.kept m mid bytes why fewer before turns on, carries)
step ids (Gives room bytes) ds low m mid after a between new hand h before links knows (waits, within, given) (bytes_are, is) more on carries =
    at_entries low mid ds links between _ is
    (passes low a.kept m mid ds before links on (given_on ids bytes waits.talk m mid before waits.talks (fits_here a.kept hand h m waits.talk waits.talks knows.1) on.talks given) carries)
step ids (Ends why) ds low m mid after a between new hand h before links knows (room, waits, ended) is more on carries =
    at_entries low mid ds links between _ is (passes low a.kept m mid ds before links on (same_or_quiet m mid before (ended_so m.stage why m mid ended) on.talks) carries)
step ids HangsUp ds low m mid after a between new hand h before links knows (n, at, mid_is) is more on carries =
    at_entries low mid ds links between _ is (passes low a.kept m mid ds before links on (same_or_quiet m mid before (hung_so m.stage m mid mid_is) on.talks) carries)
step ids (Pauses number why) ds low m mid after a between new hand h before links knows (talk, at, news, mid_is) is more on carries =
    at_entries low mid ds links between _ is (passes low a.kept m mid ds before links on (news_on m mid before talk at mid_is on.talks) carries)
step ids (Confirms number) ds low m mid after a between new hand h before links knows (talk, at, news, mid_is) is more on carries =
    at_entries low mid ds links between _ is (passes low a.kept m mid ds before links on (news_on m mid before talk at mid_is on.talks) carries)
step ids (Tells n) ds low m mid after a between new hand h before links knows (at, mid_is) is more on carries =
    at_entries low mid ds links between _ is (passes low a.kept m mid ds before links on (told_on n m mid before at mid_is) carries)

pub knows_of : EveryWorld → (w : World) (m : MachineView) (a : Around) → HasCome w → Shows m a w → (hand : Option Hand) × (h : HostView) × Knows m a.kept hand h
knows_of every w m a come shows =
    let known : IsWorld w = every come.first w come.happenings come.begins come.runs in
    let h : HostView = with_earlier known.earlier known.host in
    let host : known.host ≡ m.host = subst (λ o. IsHostOf o known.host) shows.machine known.host_is in
    let machine = subst (λ o. IsMachineIn o w.kept known.hand h) shows.machine known.machine in
    (known.hand, h, subst (λ k. Knows m k known.hand h) shows.kept (machine.0, machine.1, (ap (λ v. v.out) (sym host), ap (λ v. v.next) (sym host))))

deeds_carried : Ids → EveryWorld → (ds : List Deed) (low : ℕ) (m after : MachineView) (a new : Around) (w : World) (before links : List Carried) → HasCome w → Shows m a w → DidAll DoesInTime m a ds after new
    → OnLinks low a.kept m before → CarriesBy a.kept ds before links → OnLinks low new.kept after links
deeds_carried ids every [] low m after a new w before links come shows (is, same) on carries =
    subst (λ ls. OnLinks low new.kept after ls) (sym carries) (subst (λ b. OnLinks low b.kept after before) (sym same) (subst (λ k. OnLinks low a.kept k before) (sym is) on))
deeds_carried ids every (d ∷ ds) low m after a new w before links come shows (mid, between, turns, sound, did, more) on carries =
    let there : Around = around a.kept did.wire a.told in
    let first = later m.stage m a w did.events did.wire refl shows shows.wire did.goes_on in
    let second = does d m mid there between first.now first.shows turns sound did.does in
    let come_first = comes_on w first.now first.happenings come first.runs in
    let (hand, h, knows) = knows_of every first.now m there come_first first.shows in
    let (now, goes, rest) = step ids d ds low m mid after there between new hand h before links knows turns did.does more on carries in
    deeds_carried ids every ds low mid after between new second.now now links (comes_on first.now second.now second.happenings come_first second.runs) second.shows more goes rest

-- ## Each run has its links

-- There are links after the deed, and with what the others put on them they are the links of all.
abbrev HasLinks : ℕ → List Entry → List Entry → MachineView → Deed → List Deed → List Carried → Type 0
HasLinks low kept others mid d ds before = (now : List Carried) × OnLinks low others mid now × ((links : List Carried) → CarriesBy others ds now links → CarriesBy kept (d ∷ ds) before links)

has_at : (low : ℕ) (kept : List Entry) (mid : MachineView) (d : Deed) (ds : List Deed) (before : List Carried) (between same : Around) → between ≡ same → HasLinks low kept same.kept mid d ds before
    → HasLinks low kept between.kept mid d ds before
has_at low kept mid d ds before between same is has = subst (λ b. HasLinks low kept b.kept mid d ds before) (sym is) has

-- A machine that talks is on a link.
is_on_some : (links : List Carried) (h : HostView) (receipt : Option (List Command)) → SaysOn links h receipt → links ≢ []
is_on_some [] h receipt says = absurd says
is_on_some (l ∷ ls) h receipt says = λ bad. cc bad

on_some : (low : ℕ) (kept : List Entry) (m : MachineView) (talk : Talk) (before : List Carried) → m.stage ≡ stage.Talking talk → OnLinks low kept m before → before ≢ []
on_some low kept m talk before at on = is_on_some before m.host talk.receipt (subst (λ s. TalksOn s m.host before) at on.talks)

has_step : Ids → (d : Deed) (ds : List Deed) (low : ℕ) (m mid after : MachineView) (a between new : Around) (hand : Option Hand) (h : HostView) (before : List Carried) → Knows m a.kept hand h → Turns m d mid
    → Does a d between → DidAll DoesInTime mid between ds after new → OnLinks low a.kept m before → HasLinks low a.kept between.kept mid d ds before
has_step ids (Keeps e None) ds low m mid after a between new hand h before knows turns is more on =
    has_at low a.kept mid (Keeps e None) ds before between _ is (link_for a.kept e ++ before, keeps_on ids low a.kept hand h m mid e before knows turns on, λ links carries. carries)
has_step ids (Keeps e (Some f)) ds low m mid after a between new hand h before knows turns is more on =
    has_at low a.kept mid (Keeps e (Some f)) ds before between _ is
    (link_for (a.kept ++ e ∷ []) f ++ (link_for a.kept e ++ before), both_on ids low a.kept hand h m mid e f before knows turns on, λ links carries. carries)
has_step ids (Loses e and_then why) ds low m mid after a between new hand h before knows turns (inl is) more on =
    has_at low a.kept mid (Loses e and_then why) ds before between _ is (before, (loses_on low a.kept hand h m mid e and_then why before knows turns on).0, λ links carries. carries)
has_step ids (Loses e and_then why) ds low m mid after a between new hand h before knows turns (inr is) more on =
    let ending = lags_ends mid.stage (unsure_lags m mid e and_then why turns) in
    has_at low a.kept mid (Loses e and_then why) ds before between _ is (
      before,
      (loses_on low a.kept hand h m mid e and_then why before knows turns on).1,
      λ links carries. ends_alone DoesInTime ds mid after between new (a.kept ++ added e and_then) a.kept before links ending more carries,
    )
has_step ids (Learns others) ds low m mid after a between new hand h before knows turns (added, is) more on =
    has_at low a.kept mid (Learns others) ds before between _ is (before, learns_on low a.kept m mid others before added.follow turns on, λ links carries. carries)
has_step ids (Puts bytes) ds low m mid after a between new hand h before knows (count, next, mid_is) is more on =
    has_at low a.kept mid (Puts bytes) ds before between _ is
    (with_put bytes before, puts_on low a.kept m mid bytes before (count, next, mid_is) on, λ links carries. (on_some low a.kept m next.talk before next.talks on, carries))
has_step ids (Breaks bytes why) ds low m mid after a between new hand h before knows (count, next, ended) (fewer, few, is) more on =
    has_at low a.kept mid (Breaks bytes why) ds before between _ is (
      with_put (take fewer bytes) before,
      breaks_on low a.kept m mid bytes why fewer before (count, next, ended) on,
      λ links carries. (fewer, few, on_some low a.kept m next.talk before next.talks on, carries),
    )
has_step ids Links ds low m mid after a between new hand h before knows (due, at, mid_is) is more on =
    has_at low a.kept mid Links ds before between _ is (before, same_links low a.kept m mid before on (same_or_quiet m mid before (connected_so m.stage m mid mid_is) on.talks), λ links carries. carries)
has_step ids Misses ds low m mid after a between new hand h before knows (due, at, mid_is) (inl is) more on =
    has_at low a.kept mid Misses ds before between _ is (before, same_links low a.kept m mid before on (same_or_quiet m mid before (missed_so m.stage m mid mid_is) on.talks), λ links carries. carries)
has_step ids Misses ds low m mid after a between new hand h before knows (due, at, mid_is) (inr is) more on =
    has_at low a.kept mid Misses ds before between _ is (before, same_links low a.kept m mid before on (same_or_quiet m mid before (missed_so m.stage m mid mid_is) on.talks), λ links carries. carries)
has_step ids (Gives room bytes) ds low m mid after a between new hand h before knows (waits, within, given) (bytes_are, is) more on =
    let talks = given_on ids bytes waits.talk m mid before waits.talks (fits_here a.kept hand h m waits.talk waits.talks knows.1) on.talks given in
    has_at low a.kept mid (Gives room bytes) ds before between _ is (before, same_links low a.kept m mid before on talks, λ links carries. carries)
has_step ids (Ends why) ds low m mid after a between new hand h before knows (room, waits, ended) is more on =
    has_at low a.kept mid (Ends why) ds before between _ is (before, same_links low a.kept m mid before on (same_or_quiet m mid before (ended_so m.stage why m mid ended) on.talks), λ links carries. carries)
has_step ids HangsUp ds low m mid after a between new hand h before knows (n, at, mid_is) is more on =
    has_at low a.kept mid HangsUp ds before between _ is (before, same_links low a.kept m mid before on (same_or_quiet m mid before (hung_so m.stage m mid mid_is) on.talks), λ links carries. carries)
has_step ids (Pauses number why) ds low m mid after a between new hand h before knows (talk, at, news, mid_is) is more on =
    has_at low a.kept mid (Pauses number why) ds before between _ is (before, same_links low a.kept m mid before on (news_on m mid before talk at mid_is on.talks), λ links carries. carries)
has_step ids (Confirms number) ds low m mid after a between new hand h before knows (talk, at, news, mid_is) is more on =
    has_at low a.kept mid (Confirms number) ds before between _ is (before, same_links low a.kept m mid before on (news_on m mid before talk at mid_is on.talks), λ links carries. carries)
has_step ids (Tells n) ds low m mid after a between new hand h before knows (at, mid_is) is more on =
    has_at low a.kept mid (Tells n) ds before between _ is (before, same_links low a.kept m mid before on (told_on n m mid before at mid_is), λ links carries. carries)

has_links : Ids → EveryWorld → (ds : List Deed) (low : ℕ) (m after : MachineView) (a new : Around) (w : World) (before : List Carried) → HasCome w → Shows m a w → DidAll DoesInTime m a ds after new
    → OnLinks low a.kept m before → (links : List Carried) × CarriesBy a.kept ds before links
has_links ids every [] low m after a new w before come shows all on = (before, refl)
has_links ids every (d ∷ ds) low m after a new w before come shows (mid, between, turns, sound, did, more) on =
    let there : Around = around a.kept did.wire a.told in
    let first = later m.stage m a w did.events did.wire refl shows shows.wire did.goes_on in
    let second = does d m mid there between first.now first.shows turns sound did.does in
    let come_first = comes_on w first.now first.happenings come first.runs in
    let (hand, h, knows) = knows_of every first.now m there come_first first.shows in
    let (now, goes, back) = has_step ids d ds low m mid after there between new hand h before knows turns did.does more on in
    let (links, carries) = has_links ids every ds low mid after between new second.now now (comes_on first.now second.now second.happenings come_first second.runs) second.shows more goes in
    (links, back links carries)

-- ## A run

-- A machine on no link has nothing to put.
quiet_alone : (s : Stage) → HasNoLink s → IsQuiet s
quiet_alone (stage.Talking talk) none = absurd none
quiet_alone stage.AtRest none = tt
quiet_alone (stage.Connecting due) none = tt
quiet_alone (stage.Keeping e next) none = tt
quiet_alone (stage.HangingUp n) none = tt
quiet_alone (stage.Telling n) none = tt
quiet_alone stage.Failed none = tt

-- A machine on no link is on none of these.
starts_on : (low : ℕ) (kept : List Entry) (m : MachineView) → low ≤ next_free kept → HasNoLink m.stage → OnLinks low kept m []
starts_on low kept m within none = record { apart = within; own = tt; talks = quiet_on m.stage m.host [] (quiet_alone m.stage none) }

pub uses_once : Ids → EveryWorld → (ds : List Deed) (m after : MachineView) (a new : Around) (w : World) → HasCome w → IsAround m a w → DidAll DoesInTime m a ds after new → UsesMarksOnce a.kept ds new.kept
uses_once ids every ds m after a new w come is all =
    let on : OnLinks (next_free a.kept) a.kept m [] = starts_on (next_free a.kept) a.kept m (omega arith) is.stage in
    let shows = shows_around m a w is in
    record {
      some = has_links ids every ds (next_free a.kept) m after a new w [] come shows all on;
      apart = λ links carries. (deeds_carried ids every ds (next_free a.kept) m after a new w [] links come shows all on carries).apart;
      own = λ links carries. (deeds_carried ids every ds (next_free a.kept) m after a new w [] links come shows all on carries).own;
    }

-- The links of one run, and of the next one.
pub apart_both : (low mid high : ℕ) (links others : List Carried) → AreApart low links mid → AreApart mid others high → AreApart low (others ++ links) high
apart_both low mid high links [] some rest = apart_more low mid high links rest some
apart_both low mid high links (l ∷ ls) some (within, fewer, rest) = (within, fewer, apart_both low mid l.first links ls some rest)
