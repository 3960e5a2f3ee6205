-- Why no mark number goes out twice, whatever happens: each link has numbers of its own, and what is put on it has no other.
use Rattle.std.proofs.Common.{ℕ, zero, suc, ◌≡◌, inl, inr, ◌+◌, ◌-◌, ◌<◌, ◌≤◌, max, Option, Some, None, List, [], ◌∷◌, ◌++◌, take, refl, sym, ◌∙◌, ap, subst, append-nil, append_assoc, arith}
use Rattle.std.specs.List.{AllByRecursion}
use Rattle.std.specs.Prelude.{map, slice_index}
use Rattle.std.proofs.lemmas.Grind.{flat_map-append}
use Rattle.escpos_command.specs.declared.command.Command.{Command}
use Rattle.escpos_command.specs.declared.command.Command.TheVariants as kind
use Rattle.escpos_command.specs.CommandTable.{row, spell}
use Rattle.escpos_host.specs.Counted.{id_of}
use Rattle.escpos_command.specs.Marks.{marks}
use Rattle.escpos_real_time.proofs.Holding.{within}
use Rattle.escpos_receipt.specs.Whole.{HoldNoRealTime}
use Rattle.escpos_host.proofs.NoRealTime.{Ids, all_of_both, joined_hold_none, nothing_held, openings_hold_none, openings_in_range, reports_hold_none, sent_holds_none}
use Rattle.escpos_host.specs.declared.host.HostEvent.{HostEvent}
use Rattle.escpos_host.specs.declared.host.HostEvent.TheVariants as heard
use Rattle.escpos_host.proofs.Recording.{keeps, told as told_late}
use Rattle.escpos_host.specs.Heard.{HearsByte, IsHeard, with_half}
use Rattle.escpos_host.specs.Earlier.{with_earlier}
use Rattle.escpos_host.specs.Awaits.{dialled_reporting}
use Rattle.escpos_host.specs.Machine.{HostView, InFlight, ask_reports, next_mark, reports_asked, submitted}
use Rattle.escpos_host.specs.Says.{marks_from}
use Rattle.escpos_till.specs.declared.book.Book.{Book}
use Rattle.escpos_till.specs.declared.entry.Entry.{Entry}
use Rattle.escpos_till.specs.declared.entry.Entry.TheVariants as entry
use Rattle.escpos_till.specs.declared.stage.Due.{Due}
use Rattle.escpos_till.specs.declared.stage.Stage.TheVariants as stage
use Rattle.escpos_till.specs.declared.stage.Talk.{Talk}
use Rattle.escpos_till.specs.declared.stage.Then.{Then}
use Rattle.escpos_till.specs.declared.stage.Then.TheVariants as then
use Rattle.escpos_till.specs.Delivers.{fresh, marks_taken}
use Rattle.escpos_till.specs.Book.{IsBookOf}
use Rattle.escpos_till.specs.Entries.{MayFollow, next_free}
use Rattle.escpos_till.specs.Learning.{FailsToLearn, LearnsAll}
use Rattle.escpos_till.specs.Machine.{Came, Cancels, Delivers, Ended, Follows, GoesOn, HearsOne, Kept, MachineView, Queues, Raises, SameEntries, SendsNext, Submits, Turns as Turned, after_news, connected, hung_up, not_connected, told, with_pause}
use Rattle.escpos_till.proofs.EntryLemmas.{next_after_tried}
use Rattle.escpos_till_model.specs.declared.event.Happening.{Happening}
use Rattle.escpos_till_model.specs.declared.event.Happening.TheVariants as event
use Rattle.escpos_till_model.specs.Carried.{AreApart, Carried, Carries, HasOwnMarks, limit_of, link_at, link_by, link_of, links_after, numbers_from}
use Rattle.escpos_till_model.specs.Known.{BookMayLag, Holds, IsHostOf, IsMachineIn, IsToKeep, IsToSendNext, IsWorld}
use Rattle.escpos_till_model.specs.Kept.{Hand}
use Rattle.escpos_till_model.specs.World.{FitsLine, Happens, Hears, IsSendable, Runs, TellsNews, World, with_entry, without_entry}
use Rattle.escpos_till_model.proofs.Queueing.{queues_to}
use Rattle.escpos_till_model.proofs.LinesKept.{LineLaws, down_or_up}
use Rattle.escpos_till_model.proofs.Worlds.{whatever}
use Rattle.escpos_till_model.proofs.CarriedCalls.{AreCarried, IsQuiet, IsSaying, MachineOn, SaysOn, TalksOn, apart_more, breaks_carried, connected_so, ended_so, failed_carried, failed_with_both, grows, hung_so, learned_quiet, learns_carried, map_one_more, marks_of_both, marks_of_openings, missed_so, moved_on, note_quiet, one_number_more, puts_carried, quiet_on, same_or_quiet}

-- ## Bytes are heard

saying_for : (l : Carried) (h h' : HostView) (receipt : Option (List Command)) → h'.out ≡ h.out → h'.next ≡ h.next → IsSaying l h receipt → IsSaying l h' receipt
saying_for l h h' receipt out next says = record {
  said = says.said;
  used = says.used;
  begins = says.begins ∙ ap (λ k. l.bytes ++ k) (sym out);
  commands = says.commands;
  no_real_time = says.no_real_time;
  marks_are = says.marks_are;
  next_is = next ∙ says.next_is;
  within = subst (λ n. n ≤ l.limit) (sym next) says.within;
  left = λ commands some. subst (λ n. n < l.limit) (sym next) (says.left commands some);
}

abbrev IsGood : HostEvent → Type 0
IsGood (heard.BadAnswer place) = ⊥
IsGood e = Unit {0}

-- Nothing is said by hearing.
abbrev SaysSame : HostView → HostView → Type 0
SaysSame h h' = (h'.out ≡ h.out) × (h'.next ≡ h.next)

same_by : (h h' changed : HostView) → changed.out ≡ h.out → changed.next ≡ h.next → h' ≡ changed → SaysSame h h'
same_by h h' changed out next is = (ap (λ v. v.out) is ∙ out, ap (λ v. v.next) is ∙ next)

byte_says : (e : HostEvent) (h : HostView) (byte at : ℕ) (h' : HostView) → HearsByte h byte at e h' → IsGood e → SaysSame h h'
byte_says heard.None h byte at h' (inl (same, half)) good = same_by h h' _ refl refl same
byte_says heard.None h byte at h' (inr (inl misfits)) good = absurd misfits
byte_says heard.None h byte at h' (inr (inr (a, spells, (ignores, same)))) good = same_by h h' _ refl refl same
byte_says heard.Opened h byte at h' (inl grown) good = absurd grown
byte_says heard.Opened h byte at h' (inr (inl misfits)) good = absurd misfits
byte_says heard.Opened h byte at h' (inr (inr (a, spells, (first, n, id, phase, is, mark, same)))) good = same_by h h' _ refl refl same
byte_says (heard.Recorded number) h byte at h' (inl grown) good = absurd grown
byte_says (heard.Recorded number) h byte at h' (inr (inl misfits)) good = absurd misfits
byte_says (heard.Recorded number) h byte at h' (inr (inr (a, spells, (id, is, r)))) good = let kept = keeps (with_half h []) h' id number r in (kept.out, kept.next)
byte_says (heard.Status byte') h byte at h' (inl grown) good = absurd grown
byte_says (heard.Status byte') h byte at h' (inr (inl misfits)) good = absurd misfits
byte_says (heard.Status byte') h byte at h' (inr (inr (a, spells, (is, same)))) good = same_by h h' _ refl refl same
byte_says (heard.Condition block) h byte at h' (inl grown) good = absurd grown
byte_says (heard.Condition block) h byte at h' (inr (inl misfits)) good = absurd misfits
byte_says (heard.Condition block) h byte at h' (inr (inr (a, spells, (is, same)))) good = same_by h h' _ refl refl same
byte_says (heard.Late id) h byte at h' (inl grown) good = absurd grown
byte_says (heard.Late id) h byte at h' (inr (inl misfits)) good = absurd misfits
byte_says (heard.Late id) h byte at h' (inr (inr (a, spells, (first, phase, is, other, unleft, late)))) good =
    let t = told_late (with_half h []) h' first id phase late in (t.keeps.out, t.keeps.next)
byte_says (heard.BadAnswer place) h byte at h' hears good = absurd good

heard_says : (e : HostEvent) (h : HostView) (bytes : List ℕ) (count : ℕ) (h' : HostView) → IsHeard h bytes count e h' → IsGood e → SaysSame h h'
heard_says e h bytes count h' (inl (none, all, passed, same)) good = same_by h h' _ refl refl same
heard_says e h bytes count h' (inr (at, half, fewer, some, taken, passed, hears)) good = byte_says e (with_half h half) (slice_index bytes at) at h' hears good

hears_says : (e : HostEvent) (h : HostView) (bytes : List ℕ) (count : ℕ) (h' : HostView) → HearsOne h bytes count e h' → IsGood e → SaysSame h h'
hears_says e h bytes count h' hears good = elim (down_or_up h.phase) [
  | inl down ↦ same_by h h' h refl refl (hears.0 down).2
  | inr up ↦ heard_says e h bytes count h' (hears.1 up) good
]

goes_says : (l : Carried) (ls : List Carried) (talk : Talk) (left : ℕ) (h : HostView) (after : MachineView) → IsSaying l h talk.receipt → GoesOn talk left h after.host after.stage
    → TalksOn after.stage after.host (l ∷ ls)
goes_says l ls talk zero h after says (drops, is) = quiet_on after.stage after.host (l ∷ ls) (subst IsQuiet (sym is) tt)
goes_says l ls talk (suc left) h after says (same, is) = subst (λ s. TalksOn s after.host (l ∷ ls)) (sym is) (subst (λ v. IsSaying l v talk.receipt) (sym same) says)

-- A request is put out, which has no mark.
asked_says : (l : Carried) (h : HostView) (receipt : Option (List Command)) → IsSaying l h receipt → IsSaying l (reports_asked h) receipt
asked_says l h receipt says = record {
  said = says.said ++ ask_reports ∷ [];
  used = says.used;
  begins = flat_map-append row says.said (ask_reports ∷ []) ∙ ap (λ k. k ++ spell (ask_reports ∷ [])) says.begins ∙ append_assoc l.bytes h.out (spell (ask_reports ∷ []))
      ∙ ap (λ k. l.bytes ++ (h.out ++ k)) (append-nil (row ask_reports));
  commands = all_of_both says.said (ask_reports ∷ []) says.commands (refl, tt);
  no_real_time = joined_hold_none says.said (ask_reports ∷ []) (refl, tt) says.no_real_time reports_hold_none;
  marks_are = marks_of_both says.said (ask_reports ∷ []) ∙ append-nil (marks says.said) ∙ says.marks_are;
  next_is = says.next_is;
  within = says.within;
  left = says.left;
}

-- The receipt is put out, with one more mark.
submitted_says : Ids → (l : Carried) (h : HostView) (flight : List InFlight) (commands : List Command) → IsSaying l h (Some commands) → IsSendable commands
    → IsSaying l (submitted h flight commands) None
submitted_says ids l h flight commands says sendable =
    let more : List Command = kind.Init ∷ (commands ++ next_mark h ∷ []) in
    let fewer : h.next < l.limit = says.left commands refl in
    let marked : marks more ≡ id_of h.next ∷ [] = marks_of_both commands (next_mark h ∷ []) ∙ ap (λ ids. ids ++ id_of h.next ∷ []) sendable.fits.0 in
    record {
      said = says.said ++ more;
      used = suc says.used;
      begins = flat_map-append row says.said more ∙ ap (λ k. k ++ spell more) says.begins ∙ append_assoc l.bytes h.out (spell more);
      commands = all_of_both says.said more says.commands (refl, all_of_both commands (next_mark h ∷ []) sendable.fits.1 (ids h.next, tt));
      no_real_time = joined_hold_none says.said more (refl, all_of_both commands (next_mark h ∷ []) sendable.fits.1 (ids h.next, tt)) says.no_real_time
          (sent_holds_none ids commands h.next sendable.fits.1 sendable.no_real_time);
      marks_are = marks_of_both says.said more ∙ ap (λ ids. ids ++ marks more) says.marks_are ∙ ap (λ ids. map id_of (numbers_from says.used l.first) ++ ids) marked
          ∙ ap (λ n. map id_of (numbers_from says.used l.first) ++ id_of n ∷ []) says.next_is ∙ sym (map_one_more (numbers_from says.used l.first) (l.first + says.used))
          ∙ ap (map id_of) (sym (one_number_more says.used l.first));
      next_is = omega (arith, says.next_is);
      within = omega (arith, fewer);
      left = λ others some. absurd (let bad : None ≡ Some others = some in cc);
    }

submits_says : Ids → (l : Carried) (ls : List Carried) (talk : Talk) (receipt : Option (List Command)) (left : ℕ) (h : HostView) (after : MachineView) → talk.receipt ≡ receipt → IsSaying l h talk.receipt
    → ((commands : List Command) → talk.receipt ≡ Some commands → IsSendable commands) → Submits talk receipt left h after.host after.stage → TalksOn after.stage after.host (l ∷ ls)
submits_says ids l ls talk (Some commands) (suc left) h after is says fits (inl ((phase, mark, same), at)) =
    subst (λ s. TalksOn s after.host (l ∷ ls)) (sym at)
    (subst (λ v. IsSaying l v None) (sym same) (submitted_says ids l (reports_asked h) [] commands (asked_says l h (Some commands) (subst (IsSaying l h) is says)) (fits commands is)))
submits_says ids l ls talk (Some commands) (suc left) h after is says fits (inr (why, refuses, drops, at)) = quiet_on after.stage after.host (l ∷ ls) (subst IsQuiet (sym at) tt)
submits_says ids l ls talk (Some commands) zero h after is says fits so = goes_says l ls talk zero h after says so
submits_says ids l ls talk None left h after is says fits so = goes_says l ls talk left h after says so

turned_says : Ids → (b : Book) (e : HostEvent) (l : Carried) (ls : List Carried) (talk : Talk) (left : ℕ) (before h : HostView) (after : MachineView) → IsSaying l before talk.receipt → (IsGood e → SaysSame before h)
    → ((commands : List Command) → talk.receipt ≡ Some commands → IsSendable commands) → Turned b e talk left h after.host after.stage → TalksOn after.stage after.host (l ∷ ls)
turned_says ids b heard.None l ls talk left before h after says same fits turned = goes_says l ls talk left h after (saying_for l before h talk.receipt (same tt).0 (same tt).1 says) turned
turned_says ids b (heard.Status byte) l ls talk left before h after says same fits turned = goes_says l ls talk left h after (saying_for l before h talk.receipt (same tt).0 (same tt).1 says) turned
turned_says ids b (heard.Condition block) l ls talk left before h after says same fits (p, told, turned) =
    goes_says l ls (with_pause talk p) left h after (saying_for l before h talk.receipt (same tt).0 (same tt).1 says) turned
turned_says ids b (heard.Late id) l ls talk left before h after says same fits (inl (closes, host, is)) = quiet_on after.stage after.host (l ∷ ls) (subst IsQuiet (sym is) tt)
turned_says ids b (heard.Late id) l ls talk left before h after says same fits (inr (other, turned)) =
    goes_says l ls talk left h after (saying_for l before h talk.receipt (same tt).0 (same tt).1 says) turned
turned_says ids b heard.Opened l ls talk left before h after says same fits turned =
    submits_says ids l ls talk talk.receipt left h after refl (saying_for l before h talk.receipt (same tt).0 (same tt).1 says) fits turned
turned_says ids b (heard.Recorded place) l ls talk left before h after says same fits (host, inl is) = quiet_on after.stage after.host (l ∷ ls) (subst IsQuiet (sym is) tt)
turned_says ids b (heard.Recorded place) l ls talk left before h after says same fits (host, inr further) = quiet_on after.stage after.host (l ∷ ls) (subst IsQuiet (sym further.stage_is) tt)
turned_says ids b (heard.BadAnswer place) l ls talk left before h after says same fits (drops, is) = quiet_on after.stage after.host (l ∷ ls) (subst IsQuiet (sym is) tt)

pub came_says : Ids → (links : List Carried) (talk : Talk) (m after : MachineView) (bytes : List ℕ) (count : ℕ) → SaysOn links m.host talk.receipt → ((commands : List Command) → talk.receipt ≡ Some commands → IsSendable commands)
    → Came (stage.Talking talk) bytes count m after → TalksOn after.stage after.host links
came_says ids [] talk m after bytes count says fits came = absurd says
came_says ids (l ∷ ls) talk m after bytes count says fits (e, h, hears, turned, book, all) =
    turned_says ids m.book e l ls talk (talk.left - count) m.host h after says (hears_says e m.host bytes count h hears) fits turned

hears_carried : Ids → (w new : World) (low : ℕ) (links : List Carried) (most : ℕ) → IsWorld w → AreCarried low w links → Hears w most new → AreCarried low new links
hears_carried ids w new low links most known c hears =
    let m : MachineView = hears.m in
    let here = subst (λ o. IsMachineIn o w.kept known.hand (with_earlier known.earlier known.host)) hears.was known.machine in
    let holds = subst (Holds w.kept known.hand (with_earlier known.earlier known.host)) hears.talks here.1 in
    let says = subst (λ s. TalksOn s m.host links) hears.talks (subst (λ o. MachineOn o links) hears.was c.talks) in
    let came = subst (λ s. Came s (take most w.wire.coming) hears.consumed m hears.after) hears.talks hears.came in
    record {
      apart = subst (λ k. AreApart low links (next_free k.kept)) (sym hears.is) c.apart;
      own = c.own;
      talks = subst (λ k. MachineOn k.machine links) (sym hears.is)
          (came_says ids links hears.talk m hears.after (take most w.wire.coming) hears.consumed says (λ commands some. (holds.7 commands some).1) came);
    }

-- ## An entry is kept

-- The next receipt is sent over the host's link: it has mark numbers of its own.
pub sent_next : Ids → (low : ℕ) (links : List Carried) (kept : List Entry) (number : ℕ) (due : Due) (h : HostView) (m after : MachineView) (e : Entry)
    → (m.host.out ≡ h.out) × (m.host.next ≡ h.next) → IsToSendNext kept h due e → SendsNext number due m.host after.host after.stage → AreApart low links (next_free kept) → AllByRecursion HasOwnMarks links
    → AreApart low (link_of (then.SendNext number due) e (next_free kept) ++ links) (next_free (kept ++ e ∷ []))
    × AllByRecursion HasOwnMarks (link_of (then.SendNext number due) e (next_free kept) ++ links)
    × TalksOn after.stage after.host (link_of (then.SendNext number due) e (next_free kept) ++ links)
unfolding HoldNoRealTime
sent_next ids low links kept number due h m after e host_same sends follows apart own =
    let limit : limit_of e ≡ next_free kept + 1 = ap limit_of sends.tried_is in
    let after_it : next_free (kept ++ e ∷ []) ≡ next_free kept + 1 = ap (λ x. next_free (kept ++ x ∷ [])) sends.tried_is ∙ next_after_tried kept due.number (next_free kept + 1) in
    let l : Carried = record { first = next_free kept; limit = limit_of e; bytes = [] } in (
      (omega (arith, limit, after_it), omega (arith, limit), apart),
      (record { said = []; unsaid = []; used = 0; begins = refl; commands = tt; marks_are = refl; within = omega (arith, limit); no_real_time = nothing_held }, own),
      elim follows [
        | inl ((phase, mark, same), at) ↦
            let out : m.host.out ≡ [] = host_same.0 ∙ sends.quiet in
            let next : m.host.next ≡ next_free kept = host_same.1 ∙ sends.marks in
            let says : IsSaying l m.host (Some due.receipt) = record {
              said = [];
              used = 0;
              begins = sym out;
              commands = tt;
              no_real_time = nothing_held;
              marks_are = refl;
              next_is = omega (arith, next);
              within = omega (arith, next, limit);
              left = λ commands some. omega (arith, next, limit);
            } in
            subst (λ s. TalksOn s after.host (l ∷ links)) (sym at)
            (subst (λ v. IsSaying l v None) (sym same) (submitted_says ids l (reports_asked m.host) [] due.receipt (asked_says l m.host (Some due.receipt) says) sends.fits))
        | inr (why, refuses, drops, at) ↦ quiet_on after.stage after.host (l ∷ links) (subst IsQuiet (sym at) tt)
      ],
    )

pub kept_by : Ids → (next : Then) (low : ℕ) (links : List Carried) (kept : List Entry) (hand : Option Hand) (h : HostView) (m after : MachineView) (e : Entry) → m.book.next ≡ next_free kept
    → (m.host.out ≡ h.out) × (m.host.next ≡ h.next) → MayFollow kept e → IsToKeep kept hand h e next → Follows next m.host m.book.next after.book after.host after.stage → AreApart low links (next_free kept) → AllByRecursion HasOwnMarks links
    → AreApart low (link_of next e (next_free kept) ++ links) (next_free (kept ++ e ∷ [])) × AllByRecursion HasOwnMarks (link_of next e (next_free kept) ++ links)
    × TalksOn after.stage after.host (link_of next e (next_free kept) ++ links)
kept_by ids then.Queued low links kept hand h m after e first host_same may keeps (number, is, host, at) apart own =
    (apart_more low (next_free kept) (next_free (kept ++ e ∷ [])) links (grows kept e may) apart, own, quiet_on after.stage after.host links (subst IsQuiet (sym at) tt))
kept_by ids (then.Take content) low links kept hand h m after e first host_same may keeps (host, at) apart own =
    (apart_more low (next_free kept) (next_free (kept ++ e ∷ [])) links (grows kept e may) apart, own, quiet_on after.stage after.host links (subst IsQuiet (sym at) tt))
kept_by ids then.Raised low links kept hand h m after e first host_same may keeps (host, at) apart own =
    (apart_more low (next_free kept) (next_free (kept ++ e ∷ [])) links (grows kept e may) apart, own, quiet_on after.stage after.host links (subst IsQuiet (sym at) tt))
kept_by ids (then.Cancelled number tried) low links kept hand h m after e first host_same may keeps (host, at) apart own =
    (apart_more low (next_free kept) (next_free (kept ++ e ∷ [])) links (grows kept e may) apart, own, quiet_on after.stage after.host links (subst IsQuiet (sym at) tt))
kept_by ids (then.Recorded number) low links kept hand h m after e first host_same may keeps (drops, at) apart own =
    (apart_more low (next_free kept) (next_free (kept ++ e ∷ [])) links (grows kept e may) apart, own, quiet_on after.stage after.host links (subst IsQuiet (sym at) tt))
kept_by ids (then.GoOn number tried due) low links kept hand h m after e first host_same may keeps (host, at) apart own =
    (apart_more low (next_free kept) (next_free (kept ++ e ∷ [])) links (grows kept e may) apart, own, quiet_on after.stage after.host links (subst IsQuiet (sym at) tt))
kept_by ids (then.SendNext number due) low links kept hand h m after e first host_same may (held, hand_is, records, sends, so) follows apart own =
    sent_next ids low links kept number due h m after e host_same sends follows apart own
kept_by ids (then.Send due) low links kept hand h m after e first host_same may keeps follows apart own =
    let openings : ℕ = max due.openings 1 in
    let is : e ≡ entry.Tried due.number (next_free kept + marks_taken due.openings) = keeps.2 in
    let limit : limit_of e ≡ next_free kept + marks_taken due.openings = ap limit_of is in
    let after_it : next_free (kept ++ e ∷ []) ≡ next_free kept + marks_taken due.openings =
    ap (λ x. next_free (kept ++ x ∷ [])) is ∙ next_after_tried kept due.number (next_free kept + marks_taken due.openings) in
    let l : Carried = record { first = next_free kept; limit = limit_of e; bytes = [] } in (
      (omega (arith, limit, after_it), omega (arith, limit), apart),
      (record { said = []; unsaid = []; used = 0; begins = refl; commands = tt; marks_are = refl; within = omega (arith, limit); no_real_time = nothing_held }, own),
      elim follows [
        | inl opened ↦
            let host : after.host ≡ dialled_reporting (fresh (next_free kept) after.book.heard) openings = opened.0 ∙ ap (λ f. dialled_reporting (fresh f after.book.heard) openings) first in
            subst (λ s. TalksOn s after.host (l ∷ links)) (sym opened.1) (subst (λ v. IsSaying l v (Some due.receipt)) (sym host) (record {
              said = ask_reports ∷ marks_from openings (next_free kept);
              used = openings;
              begins = refl;
              commands = (refl, openings_in_range ids openings (next_free kept));
              no_real_time = joined_hold_none (ask_reports ∷ []) (marks_from openings (next_free kept)) (openings_in_range ids openings (next_free kept)) reports_hold_none
                  (openings_hold_none ids openings (next_free kept));
              marks_are = marks_of_openings openings (next_free kept);
              next_is = refl;
              within = omega (arith, limit);
              left = λ commands some. omega (arith, limit);
            }))
        | inr refused ↦ quiet_on after.stage after.host (l ∷ links) (subst IsQuiet (sym refused.2) tt)
      ],
    )

-- News is told, and the talk goes on.
same_receipt : (recorded : Option ℕ) (talk : Talk) → (after_news recorded talk).receipt ≡ talk.receipt
same_receipt (Some number) talk = refl
same_receipt None talk = refl

pub news_on : (m after : MachineView) (links : List Carried) (talk : Talk) → m.stage ≡ stage.Talking talk → after ≡ told m.stage m → TalksOn m.stage m.host links → TalksOn after.stage after.host links
news_on m after links talk at is says =
    subst (λ k. TalksOn k.stage k.host links) (sym (is ∙ ap (λ s. told s m) at))
    (subst (SaysOn links m.host) (sym (same_receipt talk.recorded talk)) (subst (λ s. TalksOn s m.host links) at says))

kept_carried : Ids → (w new : World) (low : ℕ) (links : List Carried) → IsWorld w → AreCarried low w links → Happens w event.Keep new → AreCarried low new (links_after w event.Keep links)
kept_carried ids w new low links known c stores =
    let m : MachineView = stores.moves.m in
    let after : MachineView = stores.moves.after in
    let e : Entry = stores.entry in
    let is : m.stage ≡ stage.Keeping e stores.next = stores.moves.goes.0 in
    let host_is : known.host ≡ m.host = subst (λ o. IsHostOf o known.host) stores.moves.was known.host_is in
    let here = subst (λ o. IsMachineIn o w.kept known.hand (with_earlier known.earlier known.host)) stores.moves.was known.machine in
    let holds = subst (Holds w.kept known.hand (with_earlier known.earlier known.host)) is here.1 in
    let book = (subst (λ s. (BookMayLag s → ⊥) → IsBookOf m.book w.kept) is here.0) (λ no. no) in
    let kept = subst (λ s. Kept s m after) is stores.moves.goes.1 in
    let link : link_by w.machine (next_free w.kept) ≡ link_of stores.next e (next_free w.kept) = ap (λ o. link_by o (next_free w.kept)) stores.moves.was ∙ ap (λ s. link_at s (next_free w.kept)) is in
    let (apart, own, talks) = kept_by ids stores.next low links w.kept known.hand (with_earlier known.earlier known.host) m after e book.next
    (ap (λ v. v.out) (sym host_is), ap (λ v. v.next) (sym host_is)) holds.0 holds.1 kept.1 c.apart c.own in
    subst (λ ls. AreCarried low new (ls ++ links)) (sym link) (record {
      apart = subst (λ k. AreApart low (link_of stores.next e (next_free w.kept) ++ links) (next_free k.kept)) (sym stores.moves.is) apart;
      own = own;
      talks = subst (λ k. MachineOn k.machine (link_of stores.next e (next_free w.kept) ++ links)) (sym stores.moves.is) talks;
    })

-- ## Whatever happens

on_machine : (w new : World) (low : ℕ) (links : List Carried) → new.machine ≡ w.machine → new.kept ≡ w.kept → AreCarried low w links → AreCarried low new links
on_machine w new low links machine kept c = record {
  apart = subst (λ es. AreApart low links (next_free es)) (sym kept) c.apart;
  own = c.own;
  talks = subst (λ o. MachineOn o links) (sym machine) c.talks;
}

quietly : (links : List Carried) (m after : MachineView) → IsQuiet after.stage → TalksOn m.stage m.host links → TalksOn after.stage after.host links
quietly links m after quiet talks = quiet_on after.stage after.host links quiet

step_carried : Ids → (e : Happening) (w new : World) (low : ℕ) (links : List Carried) → IsWorld w → Happens w e new → AreCarried low w links → AreCarried low new (links_after w e links)
step_carried ids event.Start w new low links known starts c = record {
  apart = subst (λ k. AreApart low links (next_free k.kept)) (sym starts.is) c.apart;
  own = c.own;
  talks = subst (λ k. MachineOn k.machine links) (sym starts.is) (quiet_on starts.m.stage starts.m.host links (subst IsQuiet (sym starts.started.stage) tt));
}
step_carried ids (event.Queue content key) w new low links known moves c =
    moved_on (λ m after. Queues m content key after) w new w.told low links moves (λ m after queues. quietly links m after (queues_to IsQuiet (λ number. tt) (λ c. tt) (λ e c. tt) m content key after queues)) c
step_carried ids (event.Raise first) w new low links known moves c =
    moved_on (λ m after. Raises m first after) w new w.told low links moves (λ m after raises. quietly links m after (subst (λ k. IsQuiet k.stage) (sym raises.after_is) tt)) c
step_carried ids (event.Cancel number) w new low links known moves c =
    moved_on (λ m after. Cancels m number after) w new w.told low links moves (λ m after cancels. quietly links m after (subst (λ k. IsQuiet k.stage) (sym cancels.after_is) tt)) c
step_carried ids (event.Deliver openings most copy further) w new low links known (is_copy, moves) c =
    moved_on (λ m after. Delivers m openings most copy further after × FitsLine after.stage) w new w.told low links moves
    (λ m after delivers. quietly links m after (subst IsQuiet (sym delivers.0.connects) tt)) c
step_carried ids event.Refuse w new low links known moves c =
    moved_on SameEntries w new w.told low links moves
    (λ m after same talks. subst (λ s. TalksOn s after.host links) (sym same.stage) (subst (λ h. TalksOn m.stage h links) (sym same.host) talks)) c
step_carried ids event.Keep w new low links known stores c = kept_carried ids w new low links known c stores
step_carried ids (event.FailWith why) w new low links known stores c = failed_carried w new low links why with_entry known (grows w.kept) c stores
step_carried ids (event.FailWithBoth why) w new low links known stores c = failed_with_both w new low links why known c stores
step_carried ids (event.FailWithout why) w new low links known stores c = failed_carried w new low links why without_entry known (λ e may. omega arith) c stores
step_carried ids (event.Learn others) w new low links known learns c =
    learns_carried (λ next m after. LearnsAll next others m after) w new others low links (λ e next m after goes. learned_quiet e next others m after (inl goes)) c learns
step_carried ids (event.FailLearning others why) w new low links known learns c =
    learns_carried (λ next m after. FailsToLearn next others why m after) w new others low links (λ e next m after goes. learned_quiet e next others m after (inr (why, goes))) c learns
step_carried ids event.Connect w new low links known moves c =
    moved_on (λ m after. after ≡ connected m.stage m) w new w.told low links moves (λ m after is. same_or_quiet m after links (connected_so m.stage m after is)) c
step_carried ids event.Miss w new low links known moves c =
    moved_on (λ m after. after ≡ not_connected m.stage m) w new w.told low links moves (λ m after is. same_or_quiet m after links (missed_so m.stage m after is)) c
step_carried ids (event.Put most) w new low links known puts c = puts_carried w new low links most c puts
step_carried ids (event.Break most fewer why) w new low links known breaks c = breaks_carried w new low links most fewer why c breaks
step_carried ids (event.Hear most) w new low links known hears c = hears_carried ids w new low links most known c hears
step_carried ids (event.End why) w new low links known moves c =
    moved_on (λ m after. Ended m.stage why m after) w new w.told low links moves (λ m after ended. same_or_quiet m after links (ended_so m.stage why m after ended)) c
step_carried ids event.HangUp w new low links known moves c =
    moved_on (λ m after. after ≡ hung_up m.stage m) w new w.told low links moves (λ m after is. same_or_quiet m after links (hung_so m.stage m after is)) c
step_carried ids event.News w new low links known moves c =
    moved_on TellsNews w new w.told low links moves (λ m after goes. news_on m after links goes.talk goes.talks goes.told) c
step_carried ids event.Tell w new low links known tells c =
    moved_on _ w new (w.told ++ tells.note ∷ []) low links tells.moves
    (λ m after goes. quietly links m after (subst (λ k. IsQuiet k.stage) (sym (goes.1 ∙ ap (λ s. told s m) goes.0)) (note_quiet tells.note))) c
step_carried ids (event.OnWire e) w new low links known goes c = on_machine w new low links (ap (λ k. k.machine) goes.is) (ap (λ k. k.kept) goes.is) c
step_carried ids event.Idle w new low links known idles c = on_machine w new low links (ap (λ k. k.machine) idles.is) (ap (λ k. k.kept) idles.is) c
step_carried ids event.Crash w new low links known crashes c = record {
  apart = subst (λ k. AreApart low links (next_free k.kept)) (sym crashes.is) c.apart;
  own = c.own;
  talks = subst (λ k. MachineOn k.machine links) (sym crashes.is) tt;
}

pub all_carried : Ids → LineLaws → (es : List Happening) (w new : World) (low : ℕ) (before links : List Carried) → IsWorld w → AreCarried low w before → Carries w es new before links
    → AreCarried low new links
all_carried ids laws [] w new low before links known c (same, is) = subst (AreCarried low new) (sym is) (subst (λ k. AreCarried low k before) (sym same) c)
all_carried ids laws (e ∷ es) w new low before links known c (mid, happened, more) =
    all_carried ids laws es mid new low (links_after w e before) links (whatever laws w mid e known happened) (step_carried ids e w mid low before known happened c) more

pub none_carried : (w : World) → w.machine ≡ None → AreCarried (next_free w.kept) w []
none_carried w off = record { apart = omega arith; own = tt; talks = subst (λ o. MachineOn o []) (sym off) tt }

-- ## Each run has its links

pub carried_some : (w after : World) (es : List Happening) (before : List Carried) → Runs w es after → (links : List Carried) × Carries w es after before links
carried_some w after [] before same = (before, (same, refl))
carried_some w after (e ∷ es) before (mid, happened, more) =
    let (links, rest) = carried_some mid after es (links_after w e before) more in
    (links, (mid, happened, rest))
