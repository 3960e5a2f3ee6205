-- A promise stays after each event of a line that can be trusted, and after each refusal; and a late answer is one for which it is kept.
use Rattle.std.proofs.Common.{◌≡◌, ◌≢◌, ◌<◌, ◌≤◌, ◌+◌, arith, inl, inr, ℕ, List, [], ◌∷◌, ◌++◌, length, take, drop, refl, sym, ◌∙◌, ap, subst, append-nil, append_assoc, IsTrue}
use Rattle.std.specs.Prelude.{None, option_to_list}
use Rattle.std.specs.List.{AllByRecursion}
use Rattle.escpos_command.specs.declared.answer.Answer.{Answer}
use Rattle.escpos_command.specs.declared.answer.Answer.TheVariants as answer
use Rattle.escpos_command.specs.declared.command.Command.{Command}
use Rattle.escpos_command.specs.declared.command.Command.TheVariants as kind
use Rattle.escpos_command.specs.Answers.{Hears, answer_bytes, is_answer, spell_answers}
use Rattle.escpos_command.specs.CommandTable.{AreCommands, IsCommand, row}
use Rattle.escpos_command.specs.Digits.{mark_count}
use Rattle.escpos_host.specs.Counted.{id_of}
use Rattle.escpos_command.specs.Marks.{mark_id, marks}
use Rattle.escpos_paper.specs.Page.{SheetIs}
use Rattle.escpos_printer.specs.declared.printer.FeedStop.{FeedStop}
use Rattle.escpos_printer.specs.declared.printer.FeedStop.TheVariants as stop
use Rattle.escpos_printer.specs.Feeds.{Feeds, PrinterView, Took}
use Rattle.escpos_host.specs.declared.host.HostEvent.{HostEvent}
use Rattle.escpos_host.specs.declared.host.HostEvent.TheVariants as heard
use Rattle.escpos_host.specs.Heard.{HearsAll, HearsInTurn, IsHeard, Turns, last_of}
use Rattle.escpos_host.specs.Machine.{HasMark, HostView, InFlight, IsSound, Phase, Down, Opening, Open, ask_reports, asked, gone_down, linked, linked_reporting, nudged, reports_asked, submitted, receipts_of}
use Rattle.escpos_link.specs.declared.event.Event.{Event}
use Rattle.escpos_link.specs.declared.event.Event.TheVariants as event
use Rattle.escpos_link.specs.declared.event.Handed.{Handed}
use Rattle.escpos_link.specs.declared.event.Handed.TheVariants as handed
use Rattle.escpos_link.specs.declared.event.Note.{Note}
use Rattle.escpos_link.specs.declared.event.Note.TheVariants as note
use Rattle.escpos_link.specs.EventTable.{After, HandsOver, Leaves, Restarted, answers_left, delivered, ended_fed, first_link, heard_to, hung_up, left_by, live_fed, off_link, on_its_way, restarted, told_at, with_host, with_new_link, with_printer, without_first}
use Rattle.escpos_link.specs.Line.{IsLine, LineView}
use Rattle.escpos_link.specs.Promised.{AreOther, IsIn, PromisedBy, PromisedIn}
use Rattle.escpos_link.specs.Promising.{PutsOther, with_records}
use Rattle.escpos_link.specs.Trusted.{AllPromised, IsFitting, Trusted}
use Rattle.escpos_link.specs.Ways.{FreshOf, IsRest, OnWay, Rising, answered, answered_marks, flight_of}
use Rattle.escpos_link.specs.Stands.{Stands}
use Rattle.escpos_link.specs.Wire.{WireView, given_up, line_of, with_link}
use Rattle.escpos_link.proofs.Aligning.{marks_append}
use Rattle.escpos_link.proofs.Hearing.{Staying, answered_promised, goes_first, same_answers, staying}
use Rattle.escpos_link.proofs.Feeding.{Read}
use Rattle.escpos_link.proofs.Leaving.{items_are}
use Rattle.escpos_link.proofs.Links.{mark_fresh, request_fresh}
use Rattle.escpos_link.proofs.Numbers.{rising_within}
use Rattle.escpos_link.proofs.Promises.{fed_for, fewer_for, idle_for, in_back, in_front, in_join, leaves_for, moved_for, nudged_for, off_for, opened_for}
use Rattle.escpos_link.proofs.Promising.{flight_rising, in_flight_for, made_for, put_open_for, receipts_join, recorded_way}
use Rattle.escpos_link.proofs.WayKept.{changed_marks, Laws, are_join, grown, marks_join, none_heard, stopped, width_is}
use Rattle.escpos_link.proofs.Turning.{Goes, Holding, OfAnswers, by_one, one_heard}

-- ## What the host does

opened_promised : (width : ℕ) (l : LineView) (host : HostView) (rs : List (List Command)) (p : InFlight) → IsLine l → l.host.phase ≡ Down → host.half ≡ [] → FreshOf (AreOther p.mark) host.out
    → IsRest l.printer.half → PromisedIn width rs p l → PromisedIn width rs p (with_new_link l host)
opened_promised width l host rs p i is_down none fresh rest w = record {
  answers = [];
  hears = subst (λ v. Hears v [] []) (sym (ap (λ v. v ++ l.coming) none ∙ i.quiet is_down)) none_heard;
  by = opened_for width p rs l.host.out l.printer.sheet l.printer.half host.out l.ended l.live (answered_marks w.answers) (answered_marks l.printer.waiting) fresh rest
      (subst (PromisedBy width p rs l.host.out l.printer.sheet l.printer.half l.ended l.live) (marks_join w.answers l.printer.waiting) w.by);
}

-- The host put something out, and nothing else happened.
put_promised : (width : ℕ) (l : LineView) (rs : List (List Command)) (p : InFlight) (host : HostView) (w : PromisedIn width rs p l) → host.half ≡ l.host.half
    → PromisedBy width p rs host.out l.printer.sheet l.printer.half l.ended l.live (answered_marks (w.answers ++ l.printer.waiting)) → PromisedIn width rs p (with_host l host)
put_promised width l rs p host w same by = record { answers = w.answers; hears = subst (λ v. Hears (v ++ l.coming) w.answers []) (sym same) w.hears; by = by }

submitted_promised : (width : ℕ) → Laws → (l : LineView) (rs : List (List Command)) (p : InFlight) (flight : List InFlight) (receipt : List Command) → l.host.phase ≡ Open flight → HasMark l.host
    → IsFitting (event.Submit receipt) → id_of l.host.next ≢ p.mark → OnWay width l → PromisedIn width rs p l → PromisedIn width rs p (with_host l (submitted l.host flight receipt))
submitted_promised width laws l rs p flight receipt is few fits other t w =
    let m = kind.Mark (id_of l.host.next) in
    let id = laws.numbers.ids l.host.next in
    let cs = kind.Init ∷ (receipt ++ m ∷ []) in
    let are : AreCommands cs = (refl, are_join receipt (m ∷ []) fits.1 (id, tt)) in
    let only : marks cs ≡ id_of l.host.next ∷ [] = marks_append receipt (m ∷ []) ∙ ap (λ v. v ++ id_of l.host.next ∷ []) fits.0 in
    put_promised width l rs p (submitted l.host flight receipt) w refl
    (put_open_for width laws.readings laws.paper l.host.phase l.host.out l.host.next l.host.heard p l.host.records rs l.printer.sheet l.printer.half l.ended l.live
    (answered_marks (w.answers ++ l.printer.waiting)) (answered_marks (t.answers ++ l.printer.waiting)) flight cs is are
    (subst (AreOther p.mark) (sym only) ((id, other), tt)) t.way w.by)

asked_promised : (width : ℕ) → Laws → (l : LineView) (host : HostView) (rs : List (List Command)) (p : InFlight) (c : Command) → l.host.phase ≡ Open [] → IsCommand c → mark_id c ≡ None
    → host.half ≡ l.host.half → host.out ≡ l.host.out ++ row c → OnWay width l → PromisedIn width rs p l → PromisedIn width rs p (with_host l host)
asked_promised width laws l host rs p c is fits none half out t w =
    put_promised width l rs p host w half
    (subst (λ v. PromisedBy width p rs v l.printer.sheet l.printer.half l.ended l.live (answered_marks (w.answers ++ l.printer.waiting)))
    (ap (λ v. l.host.out ++ v) (append-nil (row c)) ∙ sym out)
    (put_open_for width laws.readings laws.paper l.host.phase l.host.out l.host.next l.host.heard p l.host.records rs l.printer.sheet l.printer.half l.ended l.live
    (answered_marks (w.answers ++ l.printer.waiting)) (answered_marks (t.answers ++ l.printer.waiting)) [] (c ∷ []) is (fits, tt)
    (subst (AreOther p.mark) (sym (ap (λ v. option_to_list v ++ []) none)) tt) t.way w.by))

-- The host is off its link.
pub off_promised : (width : ℕ) (l : LineView) (rs : List (List Command)) (p : InFlight) (host : HostView) → host.half ≡ [] → PromisedIn width rs p l → PromisedIn width rs p (off_link (with_host l host))
off_promised width l rs p host none w = record {
  answers = [];
  hears = subst (λ v. Hears (v ++ []) [] []) (sym none) none_heard;
  by = off_for width p rs l.host.out host.out l.printer.sheet l.printer.half l.ended l.live (answered_marks w.answers) (answered_marks l.printer.waiting)
      (subst (PromisedBy width p rs l.host.out l.printer.sheet l.printer.half l.ended l.live) (marks_join w.answers l.printer.waiting) w.by);
}

hung_promised : (width : ℕ) (l : LineView) (rs : List (List Command)) (p : InFlight) (phase : Phase) → l.host.phase ≡ phase → IsSound l.host → PromisedIn width rs p l
    → PromisedIn width rs p (off_link (with_host l (hung_up phase l.host)))
hung_promised width l rs p Down is sound w = off_promised width l rs p l.host (sound.quiet is).1 w
hung_promised width l rs p (Opening first) is sound w = off_promised width l rs p (gone_down l.host) refl w
hung_promised width l rs p (Open flight) is sound w = off_promised width l rs p (gone_down l.host) refl w

-- ## What the printer does

left_promised : (width : ℕ) (l : LineView) (rs : List (List Command)) (p : InFlight) (printer : PrinterView) → printer.sheet.items ≡ l.printer.sheet.items → IsRest printer.half
    → (w : PromisedIn width rs p l) (ys : List (List ℕ)) → answered_marks (w.answers ++ l.printer.waiting) ≡ answered_marks (w.answers ++ printer.waiting) ++ ys
    → PromisedIn width rs p (without_first (with_printer l printer))
left_promised width l rs p printer same rest w ys split = record {
  answers = w.answers;
  hears = w.hears;
  by = leaves_for width p rs l.host.out l.printer.sheet printer.sheet l.printer.half printer.half l.ended l.live (answered_marks (w.answers ++ printer.waiting)) ys same rest
      (subst (PromisedBy width p rs l.host.out l.printer.sheet l.printer.half l.ended l.live) split w.by);
}

restarted_promised : (width : ℕ) (l : LineView) (rs : List (List Command)) (p : InFlight) (printer : PrinterView) → Restarted l.printer printer → OnWay width l → PromisedIn width rs p l
    → PromisedIn width rs p (without_first (with_printer l printer))
restarted_promised width l rs p printer r t w =
    let sheet : SheetIs width printer.sheet l.printer.sheet.items [] = subst (λ v. SheetIs v printer.sheet l.printer.sheet.items []) (width_is width l t) r.sheet in
    left_promised width l rs p printer (items_are width printer.sheet l.printer.sheet.items [] sheet ∙ append-nil l.printer.sheet.items) (inl r.half) w (answered_marks l.printer.waiting)
    (marks_join w.answers l.printer.waiting
    ∙ ap (λ v. answered_marks v ++ answered_marks l.printer.waiting) (sym (append-nil w.answers) ∙ ap (λ v. w.answers ++ v) (sym r.waiting)))

taken_promised : (width : ℕ) → Laws → (l : LineView) (rs : List (List Command)) (p : InFlight) (k n : ℕ) (cs : List Command) (printer : PrinterView) → k ≤ length (take n (first_link l))
    → Took l.printer (take k (take n (first_link l))) cs printer → OnWay width l → PromisedIn width rs p l → PromisedIn width rs p (delivered l k printer)
taken_promised width laws l rs p k n cs printer few took t w =
    let ran = took.ran in
    let read : Read width l.printer.sheet printer.sheet l.printer.half printer.half (take k (take n (first_link l))) cs =
    record { kept = t.reached.0; ran = t.reached.1; before = t.reached.2; page = ran.page width; was = t.half; reads = ran.reads } in
    record {
      answers = w.answers;
      hears = w.hears;
      by = subst (PromisedBy width p rs l.host.out printer.sheet printer.half (ended_fed l.ended k) (live_fed l.ended l.live k)) (grown w.answers l.printer printer _ cs took)
          (fed_for width laws.readings laws.paper p rs l.host.out l.printer.sheet printer.sheet l.printer.half printer.half l.ended l.live _ k n cs few read w.by);
    }

stopped_promised : (width : ℕ) (l : LineView) (rs : List (List Command)) (p : InFlight) (k : ℕ) (why : FeedStop) (taken : PrinterView) → PromisedIn width rs p (delivered l k taken)
    → PromisedIn width rs p (left_by why (delivered l k (stopped why taken)))
stopped_promised width l rs p k stop.All taken w = record { answers = w.answers; hears = w.hears; by = w.by }
stopped_promised width l rs p k stop.AnswersFull taken w = record { answers = w.answers; hears = w.hears; by = w.by }
stopped_promised width l rs p k stop.Offline taken w = record { answers = w.answers; hears = w.hears; by = w.by }
stopped_promised width l rs p k stop.Memory taken w = record { answers = w.answers; hears = w.hears; by = w.by }
stopped_promised width l rs p k (stop.Fault at why) taken w =
    left_promised width (delivered l k taken) rs p (stopped (stop.Fault at why) taken) refl (inl refl) w [] (sym (append-nil _))

fed_promised : (width : ℕ) → Laws → (l : LineView) (rs : List (List Command)) (p : InFlight) (k n : ℕ) (why : FeedStop) (printer : PrinterView) → Feeds l.printer (take n (first_link l)) k why printer
    → OnWay width l → PromisedIn width rs p l → PromisedIn width rs p (left_by why (delivered l k printer))
fed_promised width laws l rs p k n why printer feeds t w =
    subst (λ q. PromisedIn width rs p (left_by why (delivered l k q))) (sym feeds.leaves)
    (stopped_promised width l rs p k why feeds.taken (taken_promised width laws l rs p k n feeds.commands feeds.taken feeds.within feeds.took t w))

-- ## Answers

-- An answer is lost.
one_lost : (id : List ℕ) (answers waiting : List Answer) (a : Answer) → IsIn id (answered_marks (answers ++ waiting)) → IsIn id (answered_marks (answers ++ a ∷ waiting))
one_lost id answers waiting a is =
    subst (IsIn id) (sym (marks_join answers (a ∷ waiting)))
    (elim (in_join id (answered_marks answers) (answered_marks waiting) (subst (IsIn id) (marks_join answers waiting) is)) [
      | inl first ↦ in_front id (answered_marks answers) (answered_marks (a ∷ waiting)) first
      | inr last ↦ in_back id (answered_marks answers) (answered_marks (a ∷ waiting)) (in_back id (answered a) (answered_marks waiting) last)
    ])

lost_promised : (width : ℕ) (l : LineView) (rs : List (List Command)) (p : InFlight) (a : Answer) (answers : List Answer) → l.printer.waiting ≡ a ∷ answers → PromisedIn width rs p l
    → PromisedIn width rs p (with_printer l (answers_left l.printer answers))
lost_promised width l rs p a answers is w = record {
  answers = w.answers;
  hears = w.hears;
  by = fewer_for width p rs l.host.out l.printer.sheet l.printer.half l.ended l.live _ _
      (λ one. subst (λ v. IsIn p.mark (answered_marks (w.answers ++ v))) (sym is) (one_lost p.mark w.answers answers a one)) w.by;
}

handed_promised : (width : ℕ) → Laws → (l : LineView) (rs : List (List Command)) (p : InFlight) (a : Answer) (answers : List Answer) → IsLine l → l.printer.waiting ≡ a ∷ answers → PromisedIn width rs p l
    → PromisedIn width rs p (on_its_way l a answers)
handed_promised width laws l rs p a answers i is w =
    let fits = subst (AllByRecursion (λ (v : Answer). IsTrue (is_answer v))) is i.fitting in
    let one : Hears (answer_bytes a) (a ∷ []) [] =
    record { in_range = (fits.0, tt); whole = sym (append-nil (spell_answers (a ∷ [])) ∙ append-nil (answer_bytes a)); rest_is = inl refl } in
    record {
      answers = w.answers ++ a ∷ [];
      hears = subst (λ v. Hears v (w.answers ++ a ∷ []) []) (append_assoc l.host.half l.coming (answer_bytes a))
          (laws.answers.joined (l.host.half ++ l.coming) (answer_bytes a) w.answers (a ∷ []) [] [] w.hears one);
      by = subst (λ v. PromisedBy width p rs l.host.out l.printer.sheet l.printer.half l.ended l.live (answered_marks v))
          (ap (λ v. w.answers ++ v) is ∙ sym (append_assoc w.answers (a ∷ []) answers)) w.by;
    }

hands_promised : (width : ℕ) → Laws → (l after : LineView) (rs : List (List Command)) (p : InFlight) (what : Handed) → IsLine l → HandsOver l what after → PromisedIn width rs p l → PromisedIn width rs p after
hands_promised width laws l after rs p handed.None i (none, same) w = subst (PromisedIn width rs p) (sym same) w
hands_promised width laws l after rs p handed.Lost i (a, answers, waits, links, same) w = subst (PromisedIn width rs p) (sym same) (lost_promised width l rs p a answers waits w)
hands_promised width laws l after rs p handed.On i (a, answers, waits, links, live, same) w = subst (PromisedIn width rs p) (sym same) (handed_promised width laws l rs p a answers i waits w)

-- ## A late answer

late_mark : (h : HostView) (a : Answer) (id : List ℕ) (after : HostView) → Turns h a (heard.Late id) after → a ≡ answer.Mark id
late_mark h a id after (first, phase, is, other, unleft, told) = is

-- It is one of the answers that were to come.
one_late : (P : Holding) → OfAnswers → (h next : HostView) (bytes more : List ℕ) (count : ℕ) (id : List ℕ) (g : Goes P h (bytes ++ more)) → IsHeard h bytes count (heard.Late id) next
    → IsIn id (answered_marks g.answers)
one_late P below h next bytes more count id g came =
    let b = by_one P below h next bytes more count (heard.Late id) (λ none. cc none) g came in
    let is = late_mark _ b.answer id next b.turns in
    subst (IsIn id) (sym (ap answered_marks b.split ∙ marks_join b.before (b.answer ∷ b.others)))
    (in_back id (answered_marks b.before) (answered_marks (b.answer ∷ b.others))
    (subst (λ a. IsIn id (answered a ++ answered_marks b.others)) (sym is) (inl refl)))

in_all : (width : ℕ) (l : LineView) (all : List Answer) (phase : Phase) (out : List ℕ) (next heard : ℕ) (records : List (List Command)) (left : List InFlight) (answers : List Answer)
    (id : List ℕ) → Staying width l all phase out next heard records left answers → IsIn id (answered_marks answers) → IsIn id (answered_marks all)
in_all width l all phase out next heard records left answers id s is =
    subst (IsIn id) (sym (ap answered_marks s.split ∙ marks_join s.before answers)) (in_back id (answered_marks s.before) (answered_marks answers) is)

late_in_turn : (width : ℕ) → Laws → (l : LineView) (t : Trusted width l) (events : List HostEvent) (h after : HostView) (bytes more : List ℕ) (consumed : ℕ) (id : List ℕ)
    → Goes (Staying width l t.on_way.answers) h (bytes ++ more) → HearsInTurn h bytes events consumed after → last_of events ≡ heard.Late id → IsIn id (answered_marks t.on_way.answers)
late_in_turn width laws l t [] h after bytes more consumed id g hears last = absurd (cc last)
late_in_turn width laws l t (e ∷ es) h after bytes more consumed id g (count, next, some, came, inl (ends, none, same_count, same)) last =
    let one = one_heard (Staying width l t.on_way.answers) laws.answers (staying width laws l t) h next bytes more count e some g came in absurd (one.on ends)
late_in_turn width laws l t (e ∷ []) h after bytes more consumed id g (count, next, some, came, inr (on, later)) last =
    in_all width l t.on_way.answers h.phase h.out h.next h.heard h.records h.left g.answers id g.holds
    (one_late (Staying width l t.on_way.answers) laws.answers h next bytes more count id g (subst (λ v. IsHeard h bytes count v next) last came))
late_in_turn width laws l t (e ∷ f ∷ es) h after bytes more consumed id g (count, next, some, came, inr (on, (rest, sum, others))) last =
    let one = one_heard (Staying width l t.on_way.answers) laws.answers (staying width laws l t) h next bytes more count e some g came in
    late_in_turn width laws l t (f ∷ es) next after (drop count bytes) more rest id one.goes others last

last_late : (e : HostEvent) (consumed : ℕ) (id : List ℕ) → told_at e consumed ≡ heard.Late id → e ≡ heard.Late id
last_late heard.None consumed id is = is
last_late heard.Opened consumed id is = is
last_late (heard.Recorded n) consumed id is = is
last_late (heard.Late other) consumed id is = is
last_late (heard.Status b) consumed id is = is
last_late (heard.Condition block) consumed id is = is
last_late (heard.BadAnswer at) consumed id is = absurd (cc is)

told_same : (c d : ℕ) (e f : HostEvent) → note.Heard c e ≡ note.Heard d f → e ≡ f
told_same c d e f is = cc is

late_in : (width : ℕ) → Laws → (l : LineView) (k consumed : ℕ) (events : List HostEvent) (host : HostView) (id : List ℕ) (t : Trusted width l)
    → HearsAll l.host (take k l.coming) events consumed host → last_of events ≡ heard.Late id → IsIn id (answered_marks t.on_way.answers)
late_in width laws l k consumed events host id t (inl (is_down, none, all, same)) last =
    absurd (let bad : heard.None ≡ heard.Late id = ap last_of (sym none) ∙ last in cc)
late_in width laws l k consumed events host id t (inr (up, hears)) last =
    late_in_turn width laws l t events l.host host (take k l.coming) (drop k l.coming) consumed id (goes_first width l k up t) hears last

-- ## Every event

pub promised : (width : ℕ) → Laws → (e : Event) (l after : LineView) (n : Note) (rs : List (List Command)) (p : InFlight) → IsFitting e → IsSound l.host → IsLine l → After e l n after → Trusted width l
    → PutsOther e l.host p.mark → PromisedIn width rs p l → PromisedIn width rs p after
promised width laws event.LinkUp l after n rs p fits sound i (done, is_down, few, same) t other w =
    subst (PromisedIn width rs p) (sym same)
    (opened_promised width l (linked l.host) rs p i is_down refl (mark_fresh (AreOther p.mark) (id_of l.host.next) (laws.numbers.ids l.host.next) ((laws.numbers.ids l.host.next, other), tt)) t.on_way.half w)
promised width laws event.LinkUpReporting l after n rs p fits sound i (done, is_down, few, same) t other w =
    subst (PromisedIn width rs p) (sym same)
    (opened_promised width l (linked_reporting l.host) rs p i is_down refl (request_fresh (AreOther p.mark) (id_of l.host.next) (laws.numbers.ids l.host.next) ((laws.numbers.ids l.host.next, other), tt)) t.on_way.half w)
promised width laws event.Nudge l after n rs p fits sound i (done, opening, few, same) t other w =
    subst (PromisedIn width rs p) (sym same)
    (put_promised width l rs p (nudged l.host) w refl
    (nudged_for width laws.readings laws.paper p rs l.host.out l.printer.sheet l.printer.half (id_of l.host.next) l.ended l.live _ (laws.numbers.ids l.host.next, other) w.by))
promised width laws (event.Submit receipt) l after n rs p fits sound i (flight, done, is, room, few, same) t other w =
    subst (PromisedIn width rs p) (sym same) (submitted_promised width laws l rs p flight receipt is few fits other t.on_way w)
promised width laws (event.Ask asks) l after n rs p fits sound i (done, is, same) t other w =
    subst (PromisedIn width rs p) (sym same) (asked_promised width laws l (asked l.host asks) rs p (kind.Status asks) is fits refl refl refl t.on_way w)
promised width laws event.AskReports l after n rs p fits sound i (done, is, same) t other w =
    subst (PromisedIn width rs p) (sym same) (asked_promised width laws l (reports_asked l.host) rs p ask_reports is refl refl refl refl t.on_way w)
promised width laws (event.Move k) l after n rs p fits sound i (count, told, is, same) t other w =
    subst (PromisedIn width rs p) (sym same)
    (record { answers = w.answers; hears = w.hears; by = moved_for width p rs l.host.out l.printer.sheet l.printer.half l.ended l.live _ count w.by })
promised width laws (event.Deliver k) l after n rs p fits sound i (fed, printer, told, feeds, memory, same) t other w =
    subst (PromisedIn width rs p) (sym same) (fed_promised width laws l rs p fed.consumed k fed.stop printer feeds t.on_way w)
promised width laws event.HandOver l after n rs p fits sound i (what, told, hands) t other w = hands_promised width laws l after rs p what i hands w
promised width laws (event.Answer k) l after n rs p fits sound i (events, consumed, host, told, hears, same) t other w =
    subst (PromisedIn width rs p) (sym same)
    (answered_promised width laws l rs p k consumed events host i hears t w)
promised width laws event.PrinterLeaves l after n rs p fits sound i (done, same) t other w =
    subst (PromisedIn width rs p) (sym same) (left_promised width l rs p l.printer refl t.on_way.half w [] (sym (append-nil _)))
promised width laws event.PrinterRestart l after n rs p fits sound i (printer, done, restart, same) t other w =
    subst (PromisedIn width rs p) (sym same) (restarted_promised width l rs p printer restart t.on_way w)
promised width laws event.HostDrops l after n rs p fits sound i (done, same) t other w =
    subst (PromisedIn width rs p) (sym same) (hung_promised width l rs p l.host.phase refl sound w)
promised width laws (event.HostRestart f) l after n rs p fits sound i (done, least, same) t other w =
    subst (PromisedIn width rs p) (sym same) (off_promised width l rs p (restarted l.host f) refl w)
promised width laws (event.SetCondition condition) l after n rs p fits sound i (done, same) t other w =
    subst (PromisedIn width rs p) (sym same) (record {
      answers = w.answers;
      hears = w.hears;
      by = subst (PromisedBy width p rs l.host.out l.printer.sheet l.printer.half l.ended l.live)
          (changed_marks w.answers l.printer.automatic l.printer.condition condition l.printer.waiting) w.by;
    })

-- A refusal leaves the line as it was, or as after fewer bytes.
pub leaves_promised : (width : ℕ) → Laws → (e : Event) (l after : LineView) (rs : List (List Command)) (p : InFlight) → IsSound l.host → IsLine l → Leaves e l after → Trusted width l → PromisedIn width rs p l
    → PromisedIn width rs p after
leaves_promised width laws event.LinkUp l after rs p sound i same t w = subst (PromisedIn width rs p) (sym same) w
leaves_promised width laws event.LinkUpReporting l after rs p sound i same t w = subst (PromisedIn width rs p) (sym same) w
leaves_promised width laws event.Nudge l after rs p sound i same t w = subst (PromisedIn width rs p) (sym same) w
leaves_promised width laws (event.Submit receipt) l after rs p sound i same t w = subst (PromisedIn width rs p) (sym same) w
leaves_promised width laws (event.Ask kind) l after rs p sound i same t w = subst (PromisedIn width rs p) (sym same) w
leaves_promised width laws event.AskReports l after rs p sound i same t w = subst (PromisedIn width rs p) (sym same) w
leaves_promised width laws (event.Move k) l after rs p sound i (fewer, n, less, within, moves) t w =
    promised width laws (event.Move fewer) l after n rs p tt sound i moves t tt w
leaves_promised width laws (event.Deliver k) l after rs p sound i (fewer, n, less, feeds, wanted) t w =
    promised width laws (event.Deliver fewer) l after n rs p tt sound i feeds t tt w
leaves_promised width laws event.HandOver l after rs p sound i same t w = subst (PromisedIn width rs p) (sym same) w
leaves_promised width laws (event.Answer k) l after rs p sound i same t w = subst (PromisedIn width rs p) (sym same) w
leaves_promised width laws event.PrinterLeaves l after rs p sound i same t w = subst (PromisedIn width rs p) (sym same) w
leaves_promised width laws event.PrinterRestart l after rs p sound i same t w = subst (PromisedIn width rs p) (sym same) w
leaves_promised width laws event.HostDrops l after rs p sound i same t w = subst (PromisedIn width rs p) (sym same) w
leaves_promised width laws (event.HostRestart f) l after rs p sound i same t w = subst (PromisedIn width rs p) (sym same) w
leaves_promised width laws (event.SetCondition condition) l after rs p sound i same t w = subst (PromisedIn width rs p) (sym same) w

-- ## The law

-- The width is the same.
pub still_promised : (l after : LineView) (rs : List (List Command)) (p : InFlight) → OnWay l.printer.sheet.line_dots after → PromisedIn l.printer.sheet.line_dots rs p after
    → PromisedIn after.printer.sheet.line_dots rs p after
still_promised l after rs p t w = subst (λ v. PromisedIn v rs p after) (sym (width_is l.printer.sheet.line_dots after t)) w

pub made_promised : (width : ℕ) → Laws → (l : LineView) (rs : List (List Command)) (p : InFlight) (n : ℕ) → OnWay width l → l.host.next ≤ n → n < l.host.heard + mark_count → p.mark ≡ id_of n → PromisedIn width rs p l
made_promised width laws l rs p n t least near mark = record {
  answers = t.answers;
  hears = t.hears;
  by = made_for width laws.numbers l.host.phase l.host.out l.host.next l.host.heard n p l.host.records rs l.printer.sheet l.printer.half l.ended l.live _ t.reached.0 t.reached.1 t.reached.2 least near mark
      t.way;
}

-- Each receipt in flight is promised after those before it.
pub flying_promised : (width : ℕ) → Laws → (l : LineView) (flight before : List InFlight) (p : InFlight) (others : List InFlight) → OnWay width l → l.host.phase ≡ Open flight
    → flight ≡ before ++ p ∷ others → PromisedIn width (l.host.records ++ receipts_of before) p l
flying_promised width laws l flight before p others t is split = record {
  answers = t.answers;
  hears = t.hears;
  by = in_flight_for width laws.numbers laws.paper l.host.phase l.host.out l.host.next l.host.heard flight before p others l.host.records l.printer.sheet l.printer.half l.ended l.live _ is split t.way;
}

pub only_promised : (width : ℕ) → Laws → (l : LineView) (p : InFlight) → OnWay width l → l.host.phase ≡ Open (p ∷ []) → PromisedIn width l.host.records p l
only_promised width laws l p t is = subst (λ rs. PromisedIn width rs p l) (append-nil l.host.records) (flying_promised width laws l (p ∷ []) [] p [] t is refl)

rising_after : (width : ℕ) (l : LineView) (flight : List InFlight) → OnWay width l → l.host.phase ≡ Open flight → (base : ℕ) × Rising base flight l.host.next
rising_after width l flight t is =
    flight_rising width l.host.phase l.host.out l.host.next l.host.heard l.host.records l.printer.sheet l.printer.half l.ended l.live (answered_marks (t.answers ++ l.printer.waiting)) flight is t.way

all_from : (width : ℕ) → Laws → (l : LineView) (flight before rest : List InFlight) (base : ℕ) → OnWay width l → l.host.phase ≡ Open flight → flight ≡ before ++ rest
    → Rising base rest l.host.next → AllPromised width (l.host.records ++ receipts_of before) rest l
all_from width laws l flight before [] base t is split rising = tt
all_from width laws l flight before (p ∷ rest) base t is split (from, mark, rising) =
    let within = rising_within (p.number + 1) l.host.next rest rising in
    let more : (l.host.records ++ receipts_of before) ++ p.receipt ∷ [] ≡ l.host.records ++ receipts_of (before ++ p ∷ []) =
    append_assoc l.host.records (receipts_of before) (p.receipt ∷ []) ∙ ap (λ v. l.host.records ++ v) (sym (receipts_join before (p ∷ []))) in (
      record { put = omega (arith, within); mark = mark; promise = λ out. flying_promised width laws l flight before p rest t is split },
      subst (λ rs. AllPromised width rs rest l) (sym more)
          (all_from width laws l flight (before ++ p ∷ []) rest (p.number + 1) t is (split ∙ sym (append_assoc before (p ∷ []) rest)) rising),
    )

pub all_flying : (width : ℕ) → Laws → (l : LineView) (flight : List InFlight) → OnWay width l → l.host.phase ≡ Open flight → AllPromised width l.host.records flight l
all_flying width laws l flight t is =
    let r = rising_after width l flight t is in
    subst (λ rs. AllPromised width rs flight l) (append-nil l.host.records) (all_from width laws l flight [] flight r.0 t is refl r.1)

pub idle_promised : (h : HostView) (w : WireView) (rs : List (List Command)) (p : InFlight) → h.phase ≡ Down → IsLine (line_of h w) → OnWay w.printer.sheet.line_dots (line_of h w)
    → PromisedIn w.printer.sheet.line_dots rs p (line_of h w) → PromisedIn w.printer.sheet.line_dots rs p (line_of h (given_up (with_link w)))
idle_promised h w rs p is_down i t promise = record {
  answers = promise.answers;
  hears = subst (λ v. Hears (h.half ++ v) promise.answers []) (i.quiet is_down) promise.hears;
  by = idle_for w.printer.sheet.line_dots p rs h.out w.printer.sheet w.printer.half w.ended w.live _ t.half promise.by;
}

pub recorded_trusted : (l : LineView) (records : List (List Command)) → Trusted l.printer.sheet.line_dots l → flight_of l.host.phase ≡ []
    → Stands l.printer.sheet.line_dots records l.printer.sheet.items → Trusted l.printer.sheet.line_dots (with_records l records)
recorded_trusted l records t none s = record {
  on_way = record {
    answers = t.on_way.answers;
    hears = t.on_way.hears;
    half = t.on_way.half;
    reached = t.on_way.reached;
    way = recorded_way l.printer.sheet.line_dots l.host.phase l.host.out l.host.next l.host.heard l.host.records records l.printer.sheet l.printer.half l.ended l.live _ none s t.on_way.way;
  };
  left = λ not_open. tt;
}

heard_printer : (e : HostEvent) (l : LineView) (consumed : ℕ) (host : HostView) → (heard_to e l consumed host).printer ≡ l.printer
heard_printer heard.None l consumed host = refl
heard_printer heard.Opened l consumed host = refl
heard_printer (heard.Recorded n) l consumed host = refl
heard_printer (heard.Late id) l consumed host = refl
heard_printer (heard.Status b) l consumed host = refl
heard_printer (heard.Condition block) l consumed host = refl
heard_printer (heard.BadAnswer at) l consumed host = refl

pub late_stands : Laws → (l after : LineView) (k consumed : ℕ) (id : List ℕ) (rs : List (List Command)) (p : InFlight) → IsLine l → Trusted l.printer.sheet.line_dots l
    → After (event.Answer k) l (note.Heard consumed (heard.Late id)) after → p.mark ≡ id → PromisedIn l.printer.sheet.line_dots rs p l
    → Stands after.printer.sheet.line_dots (rs ++ p.receipt ∷ []) after.printer.sheet.items
late_stands laws l after k consumed id rs p i t (events, count, host, told, hears, same) mark w =
    let width = l.printer.sheet.line_dots in
    let last = last_late (last_of events) count id (sym (told_same consumed count _ _ told)) in
    let is = late_in width laws l k count events host id t hears last in
    let one = same_answers laws.answers (l.host.half ++ l.coming) t.on_way.answers w.answers t.on_way.hears w.hears in
    let pending : IsIn p.mark (answered_marks (w.answers ++ l.printer.waiting)) =
    subst (λ v. IsIn v (answered_marks (w.answers ++ l.printer.waiting))) (sym mark)
    (subst (IsIn id) (sym (marks_join w.answers l.printer.waiting))
    (in_front id (answered_marks w.answers) (answered_marks l.printer.waiting) (subst (λ v. IsIn id (answered_marks v)) one is))) in
    let printer : after.printer ≡ l.printer = ap (λ (v : LineView). v.printer) same ∙ heard_printer (last_of events) l count host in
    subst (λ (q : PrinterView). Stands q.sheet.line_dots (rs ++ p.receipt ∷ []) q.sheet.items) (sym printer) (w.by.answered pending)
