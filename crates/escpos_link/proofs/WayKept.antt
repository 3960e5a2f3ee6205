-- A line is still on one of its ways after each event.
use Rattle.std.proofs.Common.{◌≡◌, ◌≢◌, ◌<◌, ◌+◌, ◌≤◌, inl, inr, ℕ, List, [], ◌∷◌, ◌++◌, length, take, drop, Option, Some, None, refl, sym, ◌∙◌, ap, subst, arith, append-nil, append_assoc, take-append-drop, IsTrue}
use Rattle.std.specs.Prelude.{Bool, true, false, min, ◌&&◌, if◌then◌else◌}
use Rattle.std.proofs.lemmas.Grind.{flat_map-append}
use Rattle.std.specs.List.{AllByRecursion}
use Rattle.escpos_command.specs.declared.answer.Answer.{Answer}
use Rattle.escpos_command.specs.declared.answer.Answer.TheVariants as answer
use Rattle.escpos_command.specs.declared.command.Command.{Command}
use Rattle.escpos_command.specs.declared.command.Command.TheVariants as kind
use Rattle.escpos_command.specs.Answers.{Hears, answer_bytes, is_answer, spell_answers}
use Rattle.escpos_command.specs.CommandTable.{AreCommands}
use Rattle.escpos_command.specs.Digits.{mark_count}
use Rattle.escpos_host.specs.Counted.{id_of}
use Rattle.escpos_command.specs.Marks.{marks}
use Rattle.escpos_command.specs.Meanings.{reports}
use Rattle.escpos_paper.specs.declared.item.Item.{Item}
use Rattle.escpos_paper.specs.Page.{Sheet, SheetIs}
use Rattle.escpos_printer.specs.declared.condition.Condition.{Condition}
use Rattle.escpos_printer.specs.declared.printer.FeedStop.{FeedStop}
use Rattle.escpos_printer.specs.declared.printer.FeedStop.TheVariants as stop
use Rattle.escpos_printer.specs.Feeds.{Feeds, PrinterView, Took, left_half}
use Rattle.escpos_printer.specs.Blocks.{others, with_one_block}
use Rattle.escpos_printer.specs.Replies.{after_change, condition_block, is_change, replies, reply}
use Rattle.escpos_host.specs.declared.host.HostEvent.{HostEvent}
use Rattle.escpos_host.specs.Heard.{HearsAll, last_of}
use Rattle.escpos_host.specs.Machine.{HasMark, HostView, InFlight, IsOpening, IsSound, Phase, Down, Opening, Open, ask_reports, asked, gone_down, linked, linked_reporting, nudged, reports_asked, submitted}
use Rattle.escpos_link.specs.declared.event.Event.{Event}
use Rattle.escpos_link.specs.declared.event.Event.TheVariants as event
use Rattle.escpos_link.specs.declared.event.Handed.{Handed}
use Rattle.escpos_link.specs.declared.event.Handed.TheVariants as handed
use Rattle.escpos_link.specs.declared.event.Note.{Note}
use Rattle.escpos_link.specs.EventTable.{After, HandsOver, Restarted, answers_left, delivered, ended_fed, first_link, heard_to, hung_up, left_by, live_fed, moved, off_link, on_its_way, restarted, with_host, with_new_link, with_printer, without_first}
use Rattle.escpos_link.specs.Line.{IsLine, LineView}
use Rattle.escpos_link.specs.Resumed.{resumed, resumed_from, resumed_host}
use Rattle.escpos_link.specs.Stands.{Stands}
use Rattle.escpos_link.specs.Trusted.{IsFitting}
use Rattle.escpos_link.specs.Ways.{Fresh, IsRest, Off, OnWay, Row, Way, answered, answered_marks, flight_of}
use Rattle.escpos_link.proofs.Aligning.{OfReadings, marks_append}
use Rattle.escpos_link.proofs.Claiming.{OfPaper, course_stands, owed_stands}
use Rattle.escpos_link.proofs.Feeding.{Read, fed_way}
use Rattle.escpos_link.proofs.Standing.{stands_front}
use Rattle.escpos_link.proofs.Leaving.{items_are, leaves_way, off_way, opened_way}
use Rattle.escpos_link.proofs.Links.{given_empty, given_within, mark_fresh, request_fresh}
use Rattle.escpos_link.proofs.Numbers.{OfNumbers, row_back, row_empty, row_from, row_join, row_split, row_within}
use Rattle.escpos_link.proofs.AfterPutting.{asked_way, moved_way, nudged_way, submitted_way}
use Rattle.escpos_link.proofs.Turning.{OfAnswers}

-- What the laws of the layers below say.
pub record Laws : Type 0 where
  pub readings : OfReadings
  pub numbers : OfNumbers
  pub paper : OfPaper
  pub answers : OfAnswers

-- The way of a line with these answers on their way to its host.
abbrev pub WayOf : ℕ → LineView → List Answer → Type 0
WayOf width l answers =
    Way width l.host.phase l.host.out l.host.next l.host.heard l.host.records l.printer.sheet l.printer.half l.ended l.live (answered_marks (answers ++ l.printer.waiting))

pub marks_join : (some others : List Answer) → answered_marks (some ++ others) ≡ answered_marks some ++ answered_marks others
marks_join some others = flat_map-append answered some others

pub none_heard : Hears [] [] []
none_heard = record { in_range = tt; whole = refl; rest_is = inl refl }

-- The width is that of the line's printer.
pub width_is : (width : ℕ) (l : LineView) → OnWay width l → l.printer.sheet.line_dots ≡ width
width_is width l t = ap (λ (s : Sheet). s.line_dots) t.reached.2

-- ## The headline

way_stands : (width : ℕ) → OfPaper → (phase : Phase) (out : List ℕ) (next heard : ℕ) (records : List (List Command)) (sheet : Sheet) (half : List ℕ) (ended : List (List ℕ))
    (live : Option (List ℕ)) (pending : List (List ℕ)) → Way width phase out next heard records sheet half ended live pending → Stands width records sheet.items
way_stands width paper phase out next heard records sheet half ended None pending (inl w) = owed_stands width heard records (flight_of phase) next sheet.items pending w.owed
way_stands width paper phase out next heard records sheet half ended None pending (inr w) = w.stands
way_stands width paper phase out next heard records sheet half ended (Some bytes) pending (inl w) =
    subst (Stands width records) (sym (items_are width sheet w.kept w.ran w.sheet_is)) (course_stands width heard paper records (flight_of phase) next w.kept w.ran pending w.due w.course)
way_stands width paper phase out next heard records sheet half ended (Some bytes) pending (inr w) = w.stands

pub on_way_stands : (width : ℕ) → OfPaper → (l : LineView) → OnWay width l → Stands width l.host.records l.printer.sheet.items
on_way_stands width paper l t = way_stands width paper _ _ _ _ _ _ _ _ l.live _ t.way

-- ## What the host does

-- The next number is near enough to the last one that was heard.
near : (h : HostView) → HasMark h → h.next < h.heard + mark_count
near h few = omega (arith, few)

opened_trusted : (width : ℕ) → Laws → (l : LineView) (bytes : List ℕ) → IsSound l.host → IsLine l → l.host.phase ≡ Down → HasMark l.host → Fresh l.host.next (l.host.next + 1) bytes → OnWay width l
    → OnWay width (with_new_link l (record { phase = Opening l.host.next; out = bytes; half = []; next = l.host.next + 1; heard = l.host.heard; records = l.host.records; left = l.host.left }))
opened_trusted width laws l bytes sound i is_down few fresh t = record {
  answers = [];
  hears = subst (λ v. Hears v [] []) (sym (i.quiet is_down)) none_heard;
  half = t.half;
  reached = t.reached;
  way = opened_way width laws.paper l.host.phase l.host.out l.host.next l.host.heard l.host.records l.printer.sheet l.printer.half l.ended l.live (answered_marks t.answers)
      (answered_marks l.printer.waiting) bytes (i.down is_down) is_down (near l.host few) fresh t.half
      (subst (Way width l.host.phase l.host.out l.host.next l.host.heard l.host.records l.printer.sheet l.printer.half l.ended l.live) (marks_join t.answers l.printer.waiting) t.way);
}

-- The host put something out, and nothing else happened.
put_trusted : (width : ℕ) (l : LineView) (host : HostView) (t : OnWay width l) → host.half ≡ l.host.half → WayOf width (with_host l host) t.answers → OnWay width (with_host l host)
put_trusted width l host t same way = record {
  answers = t.answers;
  hears = subst (λ v. Hears (v ++ l.coming) t.answers []) (sym same) t.hears;
  half = t.half;
  reached = t.reached;
  way = way;
}

nudged_trusted : (width : ℕ) → Laws → (l : LineView) → IsOpening l.host.phase → HasMark l.host → OnWay width l → OnWay width (with_host l (nudged l.host))
nudged_trusted width laws l is few t =
    put_trusted width l (nudged l.host) t refl
    (nudged_way width laws.readings laws.numbers laws.paper l.host.phase l.host.out l.host.next l.host.heard l.host.records l.printer.sheet l.printer.half l.ended l.live _ is (near l.host few) t.way)

pub are_join : (some others : List Command) → AreCommands some → AreCommands others → AreCommands (some ++ others)
are_join [] others a b = b
are_join (c ∷ some) others a b = (a.0, are_join some others a.1 b)

submitted_trusted : (width : ℕ) → Laws → (l : LineView) (flight : List InFlight) (receipt : List Command) → l.host.phase ≡ Open flight → HasMark l.host
    → IsFitting (event.Submit receipt) → OnWay width l → OnWay width (with_host l (submitted l.host flight receipt))
submitted_trusted width laws l flight receipt is few fits t =
    let all : AreCommands (kind.Init ∷ (receipt ++ kind.Mark (id_of l.host.next) ∷ [])) =
    (refl, are_join receipt (kind.Mark (id_of l.host.next) ∷ []) fits.1 (laws.numbers.ids l.host.next, tt)) in
    put_trusted width l (submitted l.host flight receipt) t refl
    (submitted_way width laws.readings laws.numbers l.host.phase l.host.out l.host.next l.host.heard l.host.records l.printer.sheet l.printer.half l.ended l.live _ flight receipt is (near l.host few)
    fits.0 fits.1 all t.way)

asked_trusted : (width : ℕ) → Laws → (l : LineView) (n : ℕ) → l.host.phase ≡ Open [] → IsFitting (event.Ask n) → OnWay width l → OnWay width (with_host l (asked l.host n))
asked_trusted width laws l n is fits t =
    put_trusted width l (asked l.host n) t refl
    (asked_way width laws.readings laws.paper l.host.phase l.host.out l.host.next l.host.heard l.host.records l.printer.sheet l.printer.half l.ended l.live _ (kind.Status n) is fits refl t.way)

reports_trusted : (width : ℕ) → Laws → (l : LineView) → l.host.phase ≡ Open [] → OnWay width l → OnWay width (with_host l (reports_asked l.host))
reports_trusted width laws l is t =
    put_trusted width l (reports_asked l.host) t refl
    (asked_way width laws.readings laws.paper l.host.phase l.host.out l.host.next l.host.heard l.host.records l.printer.sheet l.printer.half l.ended l.live _ ask_reports is refl refl t.way)

next_row : (next : ℕ) → Row next (next + 1) (id_of next ∷ [])
next_row next = let least : next ≤ next = omega arith in let most : next + 1 ≤ next + 1 = omega arith in (next, least, refl, most)

moved_trusted : (width : ℕ) (l : LineView) (n : ℕ) → OnWay width l → OnWay width (moved l n)
moved_trusted width l n t = record {
  answers = t.answers;
  hears = t.hears;
  half = t.half;
  reached = t.reached;
  way = moved_way width l.host.phase l.host.out l.host.next l.host.heard l.host.records l.printer.sheet l.printer.half l.ended l.live _ n t.way;
}

-- The host is off its link, with the first of its records, and a next number that isn't below the one it had. It may know of fewer marks
-- that are answered.
off_trusted : (width : ℕ) → Laws → (l : LineView) (host : HostView) (forgotten : List (List Command)) → host.phase ≡ Down → host.half ≡ []
    → l.host.records ≡ host.records ++ forgotten → l.host.next ≤ host.next → host.heard ≤ l.host.heard → OnWay width l
    → OnWay width (off_link (with_host l host))
off_trusted width laws l host forgotten is_down none split more less t =
    let off = off_way width laws.paper l.host.phase l.host.out l.host.next l.host.heard l.host.records l.printer.sheet l.printer.half l.ended l.live (answered_marks t.answers)
    (answered_marks l.printer.waiting)
    (subst (Way width l.host.phase l.host.out l.host.next l.host.heard l.host.records l.printer.sheet l.printer.half l.ended l.live) (marks_join t.answers l.printer.waiting) t.way) in
    let within = off.within in
    record {
      answers = [];
      hears = subst (λ v. Hears (v ++ []) [] []) (sym none) none_heard;
      half = t.half;
      reached = t.reached;
      way = inr (record {
        down = is_down;
        stands = stands_front width host.records forgotten l.printer.sheet.items (subst (λ v. Stands width v l.printer.sheet.items) split off.stands);
        reach = off.reach;
        end = off.end;
        within = omega (arith, within, more);
        known = row_from host.heard l.host.heard off.reach (answered_marks l.printer.waiting) less off.known;
        given_up = off.given_up;
      });
    }

hung_trusted : (width : ℕ) → Laws → (l : LineView) (phase : Phase) → l.host.phase ≡ phase → IsSound l.host → OnWay width l → OnWay width (off_link (with_host l (hung_up phase l.host)))
hung_trusted width laws l Down is sound t = off_trusted width laws l l.host [] is (sound.quiet is).1 (sym (append-nil l.host.records)) (omega arith) (omega arith) t
hung_trusted width laws l (Opening first) is sound t =
    off_trusted width laws l (gone_down l.host) [] refl refl (sym (append-nil l.host.records)) (omega arith) (omega arith) t
hung_trusted width laws l (Open flight) is sound t =
    off_trusted width laws l (gone_down l.host) [] refl refl (sym (append-nil l.host.records)) (omega arith) (omega arith) t

no_more : (a f : ℕ) → min a f ≤ a
no_more a f = omega arith

-- The host goes on with the first of its records.
pub resumed_on_way : (width : ℕ) → Laws → (l : LineView) (f count : ℕ) → l.host.next ≤ f → OnWay width l → OnWay width (resumed l f count)
resumed_on_way width laws l f count least t =
    off_trusted width laws l (resumed_host l.host f count) (drop count l.host.records) refl refl (sym (take-append-drop count l.host.records)) least (no_more l.host.heard f) t

-- The same where it knows only of marks below a number that it had heard.
pub resumed_from_on_way : (width : ℕ) → Laws → (l : LineView) (f count heard : ℕ) → l.host.next ≤ f → heard ≤ l.host.heard → OnWay width l
    → OnWay width (resumed_from l f count heard)
resumed_from_on_way width laws l f count heard least less t =
    off_trusted width laws l (record { phase = Down; out = []; half = []; next = f; heard = heard; records = take count l.host.records; left = [] }) (drop count l.host.records) refl refl
    (sym (take-append-drop count l.host.records)) least less t

-- Where all its marks are answered, the host goes on with any higher number, and knows of all marks below any number up to that.
answered_off : (width : ℕ) (l : LineView) (f heard : ℕ) → l.host.phase ≡ Down → l.live ≡ None → l.host.next ≤ l.host.heard → heard ≤ f → (pending : List (List ℕ))
    → Way width l.host.phase l.host.out l.host.next l.host.heard l.host.records l.printer.sheet l.printer.half l.ended None pending
    → Off width Down f heard l.host.records l.printer.sheet l.printer.half l.ended pending
answered_off width l f heard is_down no_link none within pending (inl left) = absurd (left.up is_down)
answered_off width l f heard is_down no_link none within pending (inr off) =
    let from = row_within l.host.heard off.reach pending off.known in
    let to = given_within off.reach off.end l.printer.half l.ended off.given_up in
    let last = off.within in record {
      down = refl;
      stands = off.stands;
      reach = heard;
      end = heard;
      within = within;
      known = row_empty l.host.heard off.reach heard pending (omega (arith, none, last, to)) off.known;
      given_up = given_empty off.reach off.end heard l.printer.half l.ended (omega (arith, none, last, from)) off.given_up;
    }

pub answered_on_way : (width : ℕ) → Laws → (l : LineView) (f count heard : ℕ) → l.host.next ≤ l.host.heard → heard ≤ f → OnWay width l → OnWay width (resumed_from l f count heard)
answered_on_way width laws l f count heard none within t =
    let mid : LineView = resumed_from l l.host.next count l.host.heard in
    let off = resumed_from_on_way width laws l l.host.next count l.host.heard (omega arith) (omega arith) t in
    record {
      answers = off.answers;
      hears = off.hears;
      half = off.half;
      reached = off.reached;
      way = inr (answered_off width mid f heard refl refl none within (answered_marks (off.answers ++ l.printer.waiting)) off.way);
    }

-- ## What the printer does

-- The printer leaves its first link; it may have been switched off and on.
left_trusted : (width : ℕ) → Laws → (l : LineView) (printer : PrinterView) (kept : List Item) (ran : List Command) → SheetIs width printer.sheet kept ran
    → printer.sheet.items ≡ l.printer.sheet.items → IsRest printer.half → (t : OnWay width l) (ys : List (List ℕ))
    → answered_marks (t.answers ++ l.printer.waiting) ≡ answered_marks (t.answers ++ printer.waiting) ++ ys → OnWay width (without_first (with_printer l printer))
left_trusted width laws l printer kept ran is same rest t ys split = record {
  answers = t.answers;
  hears = t.hears;
  half = rest;
  reached = (kept, ran, is);
  way = leaves_way width laws.paper l.host.phase l.host.out l.host.next l.host.heard l.host.records l.printer.sheet printer.sheet l.printer.half printer.half l.ended l.live
      (answered_marks (t.answers ++ printer.waiting)) ys same rest
      (subst (Way width l.host.phase l.host.out l.host.next l.host.heard l.host.records l.printer.sheet l.printer.half l.ended l.live) split t.way);
}

restarted_trusted : (width : ℕ) → Laws → (l : LineView) (printer : PrinterView) → Restarted l.printer printer → OnWay width l → OnWay width (without_first (with_printer l printer))
restarted_trusted width laws l printer r t =
    let sheet : SheetIs width printer.sheet l.printer.sheet.items [] = subst (λ v. SheetIs v printer.sheet l.printer.sheet.items []) (width_is width l t) r.sheet in
    left_trusted width laws l printer l.printer.sheet.items [] sheet (items_are width printer.sheet l.printer.sheet.items [] sheet ∙ append-nil l.printer.sheet.items) (inl r.half) t
    (answered_marks l.printer.waiting)
    (marks_join t.answers l.printer.waiting
    ∙ ap (λ v. answered_marks v ++ answered_marks l.printer.waiting) (sym (append-nil t.answers) ∙ ap (λ v. t.answers ++ v) (sym r.waiting)))

-- Blocks have no mark: the marks are those of the answers that wait, and those of before the sensors said something new.
other_marks : (answers : List Answer) → answered_marks (others answers) ≡ answered_marks answers
other_marks [] = refl
other_marks (answer.Status b ∷ answers) = other_marks answers
other_marks (answer.Mark id ∷ answers) = ap (λ v. id ∷ v) (other_marks answers)
other_marks (answer.Condition block ∷ answers) = other_marks answers

block_marks : (answers : List Answer) → answered_marks (with_one_block answers) ≡ answered_marks answers
block_marks [] = refl
block_marks (answer.Status b ∷ answers) = block_marks answers
block_marks (answer.Mark id ∷ answers) = ap (λ v. id ∷ v) (block_marks answers)
block_marks (answer.Condition block ∷ answers) = other_marks answers

told_marks : (b : Bool) (block : List ℕ) (waiting : List Answer)
    → answered_marks (if b then with_one_block (waiting ++ answer.Condition block ∷ []) else waiting) ≡ answered_marks waiting
told_marks true block waiting = block_marks (waiting ++ answer.Condition block ∷ []) ∙ marks_join waiting (answer.Condition block ∷ []) ∙ append-nil (answered_marks waiting)
told_marks false block waiting = refl

pub changed_marks : (answers : List Answer) (automatic : ℕ) (old new : Condition) (waiting : List Answer)
    → answered_marks (answers ++ waiting) ≡ answered_marks (answers ++ after_change automatic old new waiting)
changed_marks answers automatic old new waiting =
    marks_join answers waiting ∙ ap (λ v. answered_marks answers ++ v) (sym (told_marks (reports automatic && is_change old new) (condition_block new) waiting))
    ∙ sym (marks_join answers (after_change automatic old new waiting))

no_mark : (b : Bool) (block : List ℕ) → answered_marks (if b then answer.Condition block ∷ [] else []) ≡ []
no_mark true block = refl
no_mark false block = refl

-- The marks that a printer answers are those that it ran.
one_answered : (condition : Condition) (c : Command) → answered_marks (reply condition c) ≡ marks (c ∷ [])
one_answered condition (kind.Status n) = refl
one_answered condition (kind.Mark id) = refl
one_answered condition (kind.AutomaticStatus n) = no_mark (reports n) (condition_block condition)
one_answered condition c = refl

pub answered_replies : (condition : Condition) (cs : List Command) → answered_marks (replies condition cs) ≡ marks cs
answered_replies condition [] = refl
answered_replies condition (c ∷ cs) =
    marks_join (reply condition c) (replies condition cs) ∙ ap (λ v. v ++ answered_marks (replies condition cs)) (one_answered condition c)
    ∙ ap (λ v. marks (c ∷ []) ++ v) (answered_replies condition cs) ∙ sym (marks_append (c ∷ []) cs)

-- The marks that are answered once the printer took bytes.
pub grown : (answers : List Answer) (before after : PrinterView) (bytes : List ℕ) (cs : List Command) → Took before bytes cs after
    → answered_marks (answers ++ before.waiting) ++ marks cs ≡ answered_marks (answers ++ after.waiting)
grown answers before after bytes cs took =
    ap (λ v. answered_marks (answers ++ before.waiting) ++ v) (sym (answered_replies before.condition cs))
    ∙ sym (marks_join (answers ++ before.waiting) (replies before.condition cs))
    ∙ ap answered_marks (append_assoc answers before.waiting (replies before.condition cs))
    ∙ marks_join answers (before.waiting ++ replies before.condition cs)
    ∙ ap (λ v. answered_marks answers ++ v) (sym (block_marks (before.waiting ++ replies before.condition cs)) ∙ ap answered_marks (sym took.answers))
    ∙ sym (marks_join answers after.waiting)

-- Bytes of the first link reached the printer, which took all of them.
taken_trusted : (width : ℕ) → Laws → (l : LineView) (k n : ℕ) (cs : List Command) (printer : PrinterView) → k ≤ length (take n (first_link l))
    → Took l.printer (take k (take n (first_link l))) cs printer → OnWay width l → OnWay width (delivered l k printer)
taken_trusted width laws l k n cs printer few took t =
    let ran = took.ran in
    let read : Read width l.printer.sheet printer.sheet l.printer.half printer.half (take k (take n (first_link l))) cs =
    record { kept = t.reached.0; ran = t.reached.1; before = t.reached.2; page = ran.page width; was = t.half; reads = ran.reads } in
    record {
      answers = t.answers;
      hears = t.hears;
      half = ran.reads.rest_is;
      reached = (t.reached.0, t.reached.1 ++ cs, ran.page width t.reached.0 t.reached.1 t.reached.2);
      way = subst (Way width l.host.phase l.host.out l.host.next l.host.heard l.host.records printer.sheet printer.half (ended_fed l.ended k) (live_fed l.ended l.live k)) (grown t.answers l.printer printer _ cs took)
          (fed_way width laws.readings laws.paper l.host.phase l.host.out l.host.next l.host.heard l.host.records l.printer.sheet printer.sheet l.printer.half printer.half
          l.ended l.live _ k n cs few read t.way);
    }

-- What a stop leaves of a printer.
abbrev pub stopped : FeedStop → PrinterView → PrinterView
stopped why taken = record { sheet = taken.sheet; half = left_half why taken.half; waiting = taken.waiting; condition = taken.condition; automatic = taken.automatic }

stopped_trusted : (width : ℕ) → Laws → (l : LineView) (k : ℕ) (why : FeedStop) (taken : PrinterView) → OnWay width (delivered l k taken)
    → OnWay width (left_by why (delivered l k (stopped why taken)))
stopped_trusted width laws l k stop.All taken t = record { answers = t.answers; hears = t.hears; half = t.half; reached = t.reached; way = t.way }
stopped_trusted width laws l k stop.AnswersFull taken t = record { answers = t.answers; hears = t.hears; half = t.half; reached = t.reached; way = t.way }
stopped_trusted width laws l k stop.Offline taken t = record { answers = t.answers; hears = t.hears; half = t.half; reached = t.reached; way = t.way }
stopped_trusted width laws l k stop.Memory taken t = record { answers = t.answers; hears = t.hears; half = t.half; reached = t.reached; way = t.way }
stopped_trusted width laws l k (stop.Fault at why) taken t =
    left_trusted width laws (delivered l k taken) (stopped (stop.Fault at why) taken) t.reached.0 t.reached.1 t.reached.2
    refl (inl refl) t [] (sym (append-nil _))

fed_trusted : (width : ℕ) → Laws → (l : LineView) (k n : ℕ) (why : FeedStop) (printer : PrinterView) → Feeds l.printer (take n (first_link l)) k why printer → OnWay width l
    → OnWay width (left_by why (delivered l k printer))
fed_trusted width laws l k n why printer feeds t =
    subst (λ p. OnWay width (left_by why (delivered l k p))) (sym feeds.leaves)
    (stopped_trusted width laws l k why feeds.taken (taken_trusted width laws l k n feeds.commands feeds.taken feeds.within feeds.took t))

-- ## Answers

-- An answer is lost.
row_lost : (from to : ℕ) (answers waiting : List Answer) (a : Answer) → Row from to (answered_marks (answers ++ a ∷ waiting)) → Row from to (answered_marks (answers ++ waiting))
row_lost from to answers waiting a k =
    let r = row_split from to (answered_marks answers) (answered_marks (a ∷ waiting)) (subst (Row from to) (marks_join answers (a ∷ waiting)) k) in
    subst (Row from to) (sym (marks_join answers waiting))
    (row_join from r.0 to (answered_marks answers) (answered_marks waiting) r.1 (row_back r.0 to (answered a) (answered_marks waiting) r.2))

lost_way : (width : ℕ) (phase : Phase) (out : List ℕ) (next heard : ℕ) (records : List (List Command)) (sheet : Sheet) (half : List ℕ) (ended : List (List ℕ))
    (live : Option (List ℕ)) (xs ys : List (List ℕ)) → ended ≢ [] → ((from to : ℕ) → Row from to xs → Row from to ys) → Way width phase out next heard records sheet half ended live xs
    → Way width phase out next heard records sheet half ended live ys
lost_way width phase out next heard records sheet half ended None xs ys some fewer (inl w) = absurd (some w.only)
lost_way width phase out next heard records sheet half ended None xs ys some fewer (inr w) = inr (record {
  down = w.down;
  stands = w.stands;
  reach = w.reach;
  end = w.end;
  within = w.within;
  known = fewer heard w.reach w.known;
  given_up = w.given_up;
})
lost_way width phase out next heard records sheet half ended (Some bytes) xs ys some fewer (inl w) = absurd (some w.only)
lost_way width phase out next heard records sheet half ended (Some bytes) xs ys some fewer (inr w) = inr (record {
  first = w.first;
  opening = w.opening;
  within = w.within;
  apart = w.apart;
  stands = w.stands;
  reach = w.reach;
  known = fewer heard w.reach w.known;
  given_up = w.given_up;
  newest = w.newest;
})

lost_trusted : (width : ℕ) (l : LineView) (a : Answer) (answers : List Answer) → l.printer.waiting ≡ a ∷ answers → l.ended ≢ [] → OnWay width l
    → OnWay width (with_printer l (answers_left l.printer answers))
lost_trusted width l a answers is some t = record {
  answers = t.answers;
  hears = t.hears;
  half = t.half;
  reached = t.reached;
  way = lost_way width l.host.phase l.host.out l.host.next l.host.heard l.host.records l.printer.sheet l.printer.half l.ended l.live _ _ some
      (λ from to k. row_lost from to t.answers answers a (subst (λ v. Row from to (answered_marks (t.answers ++ v))) is k)) t.way;
}

handed_trusted : (width : ℕ) → Laws → (l : LineView) (a : Answer) (answers : List Answer) → IsLine l → l.printer.waiting ≡ a ∷ answers → OnWay width l → OnWay width (on_its_way l a answers)
handed_trusted width laws l a answers i is t =
    let fits = subst (AllByRecursion (λ (v : Answer). IsTrue (is_answer v))) is i.fitting in
    let one : Hears (answer_bytes a) (a ∷ []) [] =
    record { in_range = (fits.0, tt); whole = sym (append-nil (spell_answers (a ∷ [])) ∙ append-nil (answer_bytes a)); rest_is = inl refl } in
    record {
      answers = t.answers ++ a ∷ [];
      hears = subst (λ v. Hears v (t.answers ++ a ∷ []) []) (append_assoc l.host.half l.coming (answer_bytes a))
          (laws.answers.joined (l.host.half ++ l.coming) (answer_bytes a) t.answers (a ∷ []) [] [] t.hears one);
      half = t.half;
      reached = t.reached;
      way = subst (λ v. Way width l.host.phase l.host.out l.host.next l.host.heard l.host.records l.printer.sheet l.printer.half l.ended l.live (answered_marks v))
          (ap (λ v. t.answers ++ v) is ∙ sym (append_assoc t.answers (a ∷ []) answers)) t.way;
    }

hands_trusted : (width : ℕ) → Laws → (l after : LineView) (what : Handed) → IsLine l → HandsOver l what after → OnWay width l → OnWay width after
hands_trusted width laws l after handed.None i (none, same) t = subst (OnWay width) (sym same) t
hands_trusted width laws l after handed.Lost i (a, answers, waits, links, same) t = subst (OnWay width) (sym same) (lost_trusted width l a answers waits links t)
hands_trusted width laws l after handed.On i (a, answers, waits, links, live, same) t = subst (OnWay width) (sym same) (handed_trusted width laws l a answers i waits t)

-- ## Every event

-- Where it is after answers that the host hears, it is after every event.
abbrev pub OnWayHeard : ℕ → LineView → Type 0
OnWayHeard width l =
    (k consumed : ℕ) (events : List HostEvent) (host : HostView) → HearsAll l.host (take k l.coming) events consumed host → OnWay width (heard_to (last_of events) l consumed host)

pub on_way : (width : ℕ) → Laws → (e : Event) (l after : LineView) (n : Note) → IsFitting e → IsSound l.host → IsLine l → After e l n after → OnWayHeard width l → OnWay width l
    → OnWay width after
on_way width laws event.LinkUp l after n fits sound i (done, is_down, mark, same) heard t =
    subst (OnWay width) (sym same) (opened_trusted width laws l (linked l.host).out sound i is_down mark
    (mark_fresh (Row l.host.next (l.host.next + 1)) (id_of l.host.next) (laws.numbers.ids l.host.next) (next_row l.host.next)) t)
on_way width laws event.LinkUpReporting l after n fits sound i (done, is_down, mark, same) heard t =
    subst (OnWay width) (sym same)
    (opened_trusted width laws l (linked_reporting l.host).out sound i is_down mark
    (request_fresh (Row l.host.next (l.host.next + 1)) (id_of l.host.next) (laws.numbers.ids l.host.next) (next_row l.host.next)) t)
on_way width laws event.Nudge l after n fits sound i (done, opening, mark, same) heard t = subst (OnWay width) (sym same) (nudged_trusted width laws l opening mark t)
on_way width laws (event.Submit receipt) l after n fits sound i (flight, done, is, few, mark, same) heard t =
    subst (OnWay width) (sym same) (submitted_trusted width laws l flight receipt is mark fits t)
on_way width laws (event.Ask kind) l after n fits sound i (done, is, same) heard t = subst (OnWay width) (sym same) (asked_trusted width laws l kind is fits t)
on_way width laws event.AskReports l after n fits sound i (done, is, same) heard t = subst (OnWay width) (sym same) (reports_trusted width laws l is t)
on_way width laws (event.Move k) l after n fits sound i (count, told, is, same) heard t = subst (OnWay width) (sym same) (moved_trusted width l count t)
on_way width laws (event.Deliver k) l after n fits sound i (fed, printer, told, feeds, memory, same) heard t =
    subst (OnWay width) (sym same) (fed_trusted width laws l fed.consumed k fed.stop printer feeds t)
on_way width laws event.HandOver l after n fits sound i (what, told, hands) heard t = hands_trusted width laws l after what i hands t
on_way width laws (event.Answer k) l after n fits sound i (events, consumed, host, told, hears, same) heard t =
    subst (OnWay width) (sym same) (heard k consumed events host hears)
on_way width laws event.PrinterLeaves l after n fits sound i (done, same) heard t =
    subst (OnWay width) (sym same) (left_trusted width laws l l.printer t.reached.0 t.reached.1 t.reached.2 refl t.half t [] (sym (append-nil _)))
on_way width laws event.PrinterRestart l after n fits sound i (printer, done, restart, same) heard t = subst (OnWay width) (sym same) (restarted_trusted width laws l printer restart t)
on_way width laws event.HostDrops l after n fits sound i (done, same) heard t = subst (OnWay width) (sym same) (hung_trusted width laws l l.host.phase refl sound t)
on_way width laws (event.HostRestart f) l after n fits sound i (done, least, same) heard t =
    subst (OnWay width) (sym same) (off_trusted width laws l (restarted l.host f) [] refl refl (sym (append-nil l.host.records)) least (no_more l.host.heard f) t)
on_way width laws (event.SetCondition condition) l after n fits sound i (done, same) heard t =
    subst (OnWay width) (sym same) (record {
      answers = t.answers;
      hears = t.hears;
      half = t.half;
      reached = t.reached;
      way = subst (Way width l.host.phase l.host.out l.host.next l.host.heard l.host.records l.printer.sheet l.printer.half l.ended l.live)
          (changed_marks t.answers l.printer.automatic l.printer.condition condition l.printer.waiting) t.way;
    })

-- ## A new line

pub begun_on_way : (width : ℕ) (l : LineView) (first heard : ℕ) → heard ≤ first
    → l.host ≡ record { phase = Down; out = []; half = []; next = first; heard = heard; records = []; left = [] } → SheetIs width l.printer.sheet [] []
    → l.printer.half ≡ [] → l.printer.waiting ≡ [] → l.ended ≡ [] → l.live ≡ None → l.coming ≡ [] → OnWay l.printer.sheet.line_dots l
begun_on_way width l first heard less host sheet half waiting ended live coming =
    let plain : Hears ([] ++ []) [] [] = none_heard in
    let same : heard ≤ heard = omega arith in
    let off : Off width Down first heard [] l.printer.sheet l.printer.half [] [] =
    record { down = refl; stands = tt; reach = heard; end = heard; within = less; known = same; given_up = same } in
    let whole : OnWay width l = record {
      answers = [];
      hears = subst (λ v. Hears (l.host.half ++ v) [] []) (sym coming) (subst (λ (h : HostView). Hears (h.half ++ []) [] []) (sym host) plain);
      half = inl half;
      reached = ([], [], sheet);
      way = subst (λ v. Way width l.host.phase l.host.out l.host.next l.host.heard l.host.records l.printer.sheet l.printer.half v l.live (answered_marks l.printer.waiting)) (sym ended)
          (subst (λ v. Way width l.host.phase l.host.out l.host.next l.host.heard l.host.records l.printer.sheet l.printer.half [] v (answered_marks l.printer.waiting)) (sym live)
          (subst (λ v. Way width l.host.phase l.host.out l.host.next l.host.heard l.host.records l.printer.sheet l.printer.half [] None (answered_marks v)) (sym waiting)
          (subst (λ (h : HostView). Way width h.phase h.out h.next h.heard h.records l.printer.sheet l.printer.half [] None []) (sym host) (inr off))));
    } in
    subst (λ v. OnWay v l) (sym (ap (λ (s : Sheet). s.line_dots) sheet)) whole

pub begun_line : (l : LineView) → l.host.half ≡ [] → l.printer.waiting ≡ [] → l.ended ≡ [] → l.live ≡ None → l.coming ≡ [] → IsLine l
begun_line l half waiting ended live coming =
    let plain : Hears ([] ++ []) [] [] = none_heard in
    record {
      down = λ is_down. live;
      alone = λ up none. ended;
      quiet = λ is_down. coming;
      whole = ([], subst (λ v. Hears (l.host.half ++ v) [] []) (sym coming) (subst (λ v. Hears (v ++ []) [] []) (sym half) plain));
      fitting = subst (AllByRecursion (λ (v : Answer). IsTrue (is_answer v))) (sym waiting) tt;
    }
