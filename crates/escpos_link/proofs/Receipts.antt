-- A receipt that goes over a line on which nothing is under way: the line once it is open, and once the receipt is recorded.
use Rattle.std.proofs.Common.{◌≡◌, ◌≢◌, ◌⊎◌, ◌≤◌, ◌+◌, inl, inr, ℕ, List, [], ◌∷◌, ◌++◌, true, false, length, refl, sym, ◌∙◌, ap, subst, append-nil, append_assoc, arith, Option, Some, None}
use Rattle.std.specs.List.{AllByRecursion}
use Rattle.std.proofs.lemmas.Grind.{flat_map-append}
use Rattle.escpos_command.specs.declared.answer.Answer.TheVariants as answer
use Rattle.escpos_command.specs.declared.command.Command.{Command}
use Rattle.escpos_command.specs.declared.command.Command.TheVariants as kind
use Rattle.escpos_command.specs.Answers.{AreWholeAnswers, HalfAnswer, Hears}
use Rattle.escpos_command.specs.CommandTable.{AreCommands, IsCommand, row, spell}
use Rattle.escpos_host.specs.Counted.{id_of}
use Rattle.escpos_paper.specs.declared.item.Item.{Item}
use Rattle.escpos_paper.specs.Page.{Sheet, SheetIs}
use Rattle.escpos_paper.specs.Printed.{printed}
use Rattle.escpos_printer.specs.declared.condition.Condition.{Condition}
use Rattle.escpos_printer.specs.Feeds.{PassesOffline, PrinterView, Took}
use Rattle.escpos_printer.specs.Blocks.{most_waiting, others}
use Rattle.escpos_printer.specs.ReadyFor.{IsReadyFor}
use Rattle.escpos_printer.specs.Replies.{is_offline, replies, reply}
use Rattle.escpos_host.specs.declared.host.HostEvent.TheVariants as heard
use Rattle.escpos_host.specs.Heard.{IsFirstWith, opened as opened_host, recorded}
use Rattle.escpos_host.specs.Machine.{HostView, InFlight, IsSound, Down, Opening, Open, HasMark, closed_by, linked, next_mark, submitted}
use Rattle.escpos_receipt.specs.Whole.{Whole, is_forbidden}
use Rattle.escpos_host.proofs.Recording.{one_has}
use Rattle.escpos_link.specs.declared.event.Event.TheVariants as event
use Rattle.escpos_link.specs.declared.event.Note.{Note}
use Rattle.escpos_link.specs.EventTable.{After, answers_left, with_host}
use Rattle.escpos_link.specs.Line.{IsLine, LineView}
use Rattle.escpos_link.specs.Steps.{Happened}
use Rattle.escpos_link.specs.Straight.{Undisturbed, WentStraight, all_bytes, exchange, marks_for, opening}
use Rattle.escpos_link.proofs.Running.{joined}
use Rattle.escpos_link.specs.LowerLaws.{Laws}
use Rattle.escpos_link.proofs.Straight.{Exchanged, Expects, Loaded, emptied, exchanged, plain_line}

-- ## What a printer makes of it

-- An online printer carries every command out.
online_passes : (condition : Condition) (cs : List Command) → is_offline condition ≡ false → AllByRecursion (PassesOffline condition) cs
online_passes condition [] online = tt
online_passes condition (c ∷ cs) online = (λ offline. let bad : true ≡ false = sym offline ∙ online in absurd cc, online_passes condition cs online)

-- No command of a receipt is answered.
unanswered : (condition : Condition) (c : Command) → is_forbidden c ≡ false → reply condition c ≡ []
unanswered condition (kind.Status n) allowed = let bad : true ≡ false = allowed in absurd cc
unanswered condition (kind.Mark id) allowed = let bad : true ≡ false = allowed in absurd cc
unanswered condition (kind.AutomaticStatus n) allowed = let bad : true ≡ false = allowed in absurd cc
unanswered condition _ allowed = refl

later_follow : (c : Command) (cs : List Command) → ((before : List Command) (d : Command) (following : List Command) → c ∷ cs ≡ before ++ d ∷ following → is_forbidden d ≡ false)
    → (before : List Command) (d : Command) (following : List Command) → cs ≡ before ++ d ∷ following → is_forbidden d ≡ false
later_follow c cs each before d following e = each (c ∷ before) d following (ap (λ v. c ∷ v) e)

all_unanswered : (condition : Condition) (cs : List Command)
    → ((before : List Command) (d : Command) (following : List Command) → cs ≡ before ++ d ∷ following → is_forbidden d ≡ false) → replies condition cs ≡ []
all_unanswered condition [] each = refl
all_unanswered condition (c ∷ cs) each =
    ap (λ v. v ++ replies condition cs) (unanswered condition c (each [] c cs refl)) ∙ all_unanswered condition cs (later_follow c cs each)

receipt_unanswered : (condition : Condition) (receipt : List Command) → Whole receipt → replies condition receipt ≡ []
receipt_unanswered condition receipt whole =
    all_unanswered condition receipt (λ before d following e. (whole.in_place before d following e).allowed)

-- ## The line once it is open

-- The host is ready on the one link, and nothing is under way.
pub record IsReady (l : LineView) : Type 0 where
  pub line : l ≡ plain_line l.host l.printer [] []
  pub phase : l.host.phase ≡ Open []
  pub out : l.host.out ≡ []
  pub half : l.host.half ≡ []
  pub no_half : l.printer.half ≡ []
  pub none : l.printer.waiting ≡ []
  pub online : is_offline l.printer.condition ≡ false

-- A mark that the host has put out alone.
mark_ready : Laws → (p : PrinterView) (n : ℕ) → p.half ≡ [] → p.waiting ≡ [] → is_offline p.condition ≡ false
    → IsReadyFor p (kind.Mark (id_of n) ∷ [])
mark_ready laws p n half none online = record {
  none = half;
  commands = (laws.ids n, tt);
  passes = online_passes p.condition (kind.Mark (id_of n) ∷ []) online;
  room = subst (λ waiting. length (others (waiting ++ answer.Mark (id_of n) ∷ [])) ≤ most_waiting) (sym none) (omega arith);
}

opening_loaded : Laws → (h : HostView) (p : PrinterView) → p.half ≡ [] → p.waiting ≡ [] → is_offline p.condition ≡ false
    → Loaded (plain_line (linked h) p [] []) (kind.Mark (id_of h.next) ∷ []) (id_of h.next)
opening_loaded laws h p half none online = record {
  line = refl;
  up = λ e. let bad : Opening h.next ≡ Down = e in absurd cc;
  half = refl;
  out = sym (append-nil (row (next_mark h)));
  few = omega arith;
  ready = mark_ready laws p h.next half none online;
  none = none;
  reply = refl;
  known = laws.ids h.next;
  short = omega arith;
}

not_open : (first : ℕ) (flight : List InFlight) → Opening first ≡ Open flight → ⊥
not_open first flight e = cc e

opening_expects : (h : HostView) → Expects (emptied (linked h)) (id_of h.next) (opened_host (emptied (linked h)) h.next)
opening_expects h heard.None after (ignores, same) = absurd ignores
opening_expects h heard.Opened after (first, n, id, phase, is, number, same) =
    let begun : h.next ≡ first = cc phase in
    let least = number.0 in
    let below = number.1 in
    let one : n ≡ h.next = omega (arith, begun, least, below) in (λ ends. ends, same ∙ ap (λ k. opened_host (emptied (linked h)) k) one)
opening_expects h (heard.Recorded n) after (id, is, r) = absurd (elim r.way [
  | inl (flight, phase, f, same) ↦ not_open h.next flight phase
  | inr (first, phase, other, f, same) ↦
      let begun : h.next ≡ first = cc phase in
      let one : id_of h.next ≡ id = cc is in
      other (h.next, (omega (arith, begun), omega arith, omega (arith, begun), one))
])
opening_expects h (heard.Late id) after (first, phase, is, other, unleft, told) =
    let begun : h.next ≡ first = cc phase in
    let one : id_of h.next ≡ id = cc is in
    absurd (other (h.next, (omega (arith, begun), omega arith, omega (arith, begun), one)))
opening_expects h (heard.Status b) after (is, same) = let bad : answer.Mark (id_of h.next) ≡ answer.Status b = is in absurd cc
opening_expects h (heard.Condition block) after (is, same) = let bad : answer.Mark (id_of h.next) ≡ answer.Condition block = is in absurd cc
opening_expects h (heard.BadAnswer place) after turns = absurd turns

-- A printer from which the answers were taken, otherwise as it was but for what it took.
taken_ready : (expected : HostView) (before after : PrinterView) (cs : List Command) → Took before (spell cs) cs after → after.half ≡ [] → is_offline before.condition ≡ false
    → expected.phase ≡ Open [] → expected.out ≡ [] → expected.half ≡ [] → IsReady (plain_line expected (answers_left after []) [] [])
taken_ready expected before after cs took none online phase out half = record {
  line = refl;
  phase = phase;
  out = out;
  half = half;
  no_half = none;
  none = refl;
  online = ap is_offline took.ran.condition ∙ online;
}

-- A link that was opened: the line is ready, and nothing but the mark was run.
pub record IsOpened (l m : LineView) : Type 0 where
  pub ready : IsReady m
  pub records : m.host.records ≡ l.host.records
  pub next : m.host.next ≡ l.host.next + 1
  pub heard : m.host.heard ≡ l.host.next + 1
  pub page : (width : ℕ) (kept : List Item) (cs : List Command) → SheetIs width l.printer.sheet kept cs → SheetIs width m.printer.sheet kept (cs ++ kind.Mark (id_of l.host.next) ∷ [])

opened_by : Laws → (l m : LineView) (h : HostView) (p : PrinterView) → l.host ≡ h → l.printer ≡ p → is_offline p.condition ≡ false
    → Exchanged (plain_line (linked h) p [] []) (kind.Mark (id_of h.next) ∷ []) (opened_host (emptied (linked h)) h.next) m → IsOpened l m
opened_by laws l m h p host printer online x = record {
  ready = subst IsReady (sym x.line) (taken_ready (opened_host (emptied (linked h)) h.next) p x.printer (kind.Mark (id_of h.next) ∷ []) x.took x.half online refl refl refl);
  records = ap (λ (v : LineView). v.host.records) x.line ∙ sym (ap (λ (v : HostView). v.records) host);
  next = ap (λ (v : LineView). v.host.next) x.line ∙ sym (ap (λ (v : HostView). v.next + 1) host);
  heard = ap (λ (v : LineView). v.host.heard) x.line ∙ sym (ap (λ (v : HostView). v.next + 1) host);
  page = λ width kept cs is.
      subst (λ (v : LineView). SheetIs width v.printer.sheet kept (cs ++ kind.Mark (id_of l.host.next) ∷ [])) (sym x.line)
      (subst (λ n. SheetIs width x.printer.sheet kept (cs ++ kind.Mark (id_of n) ∷ [])) (sym (ap (λ (v : HostView). v.next) host))
      (x.took.ran.page width kept cs (subst (λ (v : PrinterView). SheetIs width v.sheet kept cs) printer is)));
}

pub opening_done : Laws → (l m : LineView) → Undisturbed l → l.host.phase ≡ Down → Happened l (event.LinkUp ∷ exchange) m → IsOpened l m
opening_done laws l m u is_down (n, l1, ((done, also_down, mark, same), turn), rest) =
    let h = l.host in
    let p = l.printer in
    let plain : l1 ≡ plain_line (linked h) p [] [] =
    same ∙ ap (λ links. record { host = linked h; printer = p; ended = links; live = Some []; coming = l.coming }) u.at_rest.0
    ∙ ap (λ bytes. plain_line (linked h) p [] bytes) u.silent.quiet in
    let happened = subst (λ v. Happened v exchange m) plain rest in
    opened_by laws l m h p refl refl u.silent.online
    (exchanged laws (plain_line (linked h) p [] []) m (kind.Mark (id_of h.next) ∷ []) (id_of h.next) (opened_host (emptied (linked h)) h.next)
    (opening_loaded laws h p u.silent.no_half u.silent.no_answer u.silent.online) (opening_expects h) happened)

-- ## The receipt

-- A receipt between its Init and its closing mark.
abbrev pub sent_with : List Command → List ℕ → List Command
sent_with receipt id = kind.Init ∷ (receipt ++ kind.Mark id ∷ [])

all_joined : {X : Type 0} (P : X → Type 0) (some others : List X) → AllByRecursion P some → AllByRecursion P others → AllByRecursion P (some ++ others)
all_joined P [] others all more = more
all_joined P (x ∷ some) others all more = (all.0, all_joined P some others all.1 more)

sent_replies : (condition : Condition) (receipt : List Command) (id : List ℕ) → Whole receipt → replies condition (sent_with receipt id) ≡ answer.Mark id ∷ []
sent_replies condition receipt id whole =
    flat_map-append (reply condition) receipt (kind.Mark id ∷ []) ∙ ap (λ v. v ++ answer.Mark id ∷ []) (receipt_unanswered condition receipt whole)

sent_ready : Laws → (p : PrinterView) (receipt : List Command) (n : ℕ) → Whole receipt → AreCommands receipt → p.half ≡ [] → p.waiting ≡ []
    → is_offline p.condition ≡ false → IsReadyFor p (sent_with receipt (id_of n))
sent_ready laws p receipt n whole known half none online = record {
  none = half;
  commands = (refl, all_joined IsCommand receipt (kind.Mark (id_of n) ∷ []) known (laws.ids n, tt));
  passes = online_passes p.condition (sent_with receipt (id_of n)) online;
  room = subst (λ waiting. length (others (waiting ++ replies p.condition (sent_with receipt (id_of n)))) ≤ most_waiting) (sym none)
      (subst (λ answers. length (others answers) ≤ most_waiting) (sym (sent_replies p.condition receipt (id_of n) whole)) (omega arith));
}

sent_loaded : Laws → (h : HostView) (p : PrinterView) (receipt : List Command) → Whole receipt → AreCommands receipt → h.out ≡ [] → h.half ≡ []
    → length (submitted h [] receipt).out ≤ all_bytes → p.half ≡ [] → p.waiting ≡ [] → is_offline p.condition ≡ false
    → Loaded (plain_line (submitted h [] receipt) p [] []) (sent_with receipt (id_of h.next)) (id_of h.next)
sent_loaded laws h p receipt whole known out half short no_half none online =
    let all : (submitted h [] receipt).out ≡ spell (sent_with receipt (id_of h.next)) = ap (λ v. v ++ spell (sent_with receipt (id_of h.next))) out in
    record {
      line = refl;
      up = λ e. let bad : Open (closed_by receipt h.next ∷ []) ≡ Down = e in absurd cc;
      half = half;
      out = all;
      few = omega (arith, short, ap length all);
      ready = sent_ready laws p receipt h.next whole known no_half none online;
      none = none;
      reply = sent_replies p.condition receipt (id_of h.next) whole;
      known = laws.ids h.next;
      short = omega arith;
    }

abbrev in_flight : HostView → List Command → InFlight
in_flight h receipt = closed_by receipt h.next

only_recorded : (h : HostView) (receipt : List Command) (after : HostView) (id : List ℕ) (flight before : List InFlight) (last : InFlight) (others : List InFlight)
    → Open (in_flight h receipt ∷ []) ≡ Open flight → IsFirstWith 0 id flight before last others → after ≡ recorded (emptied (submitted h [] receipt)) before last others
    → (⊥ → ⊥) × (after ≡ recorded (emptied (submitted h [] receipt)) [] (in_flight h receipt) [])
only_recorded h receipt after id flight before last others phase f same =
    let now : HostView = emptied (submitted h [] receipt) in
    let flying : in_flight h receipt ∷ [] ≡ flight = cc phase in
    let one = one_has (in_flight h receipt) last before others (flying ∙ f.all_are) in
    (λ ends. ends, same ∙ ap (λ v. recorded now v last others) one.0 ∙ ap (λ v. recorded now [] v others) one.1 ∙ ap (recorded now [] (in_flight h receipt)) one.2)

sent_expects : (h : HostView) (receipt : List Command)
    → Expects (emptied (submitted h [] receipt)) (id_of h.next) (recorded (emptied (submitted h [] receipt)) [] (in_flight h receipt) [])
sent_expects h receipt heard.None after (ignores, same) = absurd (ignores (inl (omega arith, refl)))
sent_expects h receipt heard.Opened after (first, n, id, phase, is, opening, same) = let bad : Open (in_flight h receipt ∷ []) ≡ Opening first = phase in absurd cc
sent_expects h receipt (heard.Recorded n) after (id, is, r) = elim r.way [
  | inl (flight, phase, f, same) ↦ only_recorded h receipt after id flight r.before r.last r.others phase f same
  | inr (first, phase, other, f, same) ↦ absurd (not_open first (in_flight h receipt ∷ []) (sym phase))
]
sent_expects h receipt (heard.Late id) after (first, phase, is, other, unleft, same) = let bad : Open (in_flight h receipt ∷ []) ≡ Opening first = phase in absurd cc
sent_expects h receipt (heard.Status b) after (is, same) = let bad : answer.Mark (id_of h.next) ≡ answer.Status b = is in absurd cc
sent_expects h receipt (heard.Condition block) after (is, same) = let bad : answer.Mark (id_of h.next) ≡ answer.Condition block = is in absurd cc
sent_expects h receipt (heard.BadAnswer place) after turns = absurd turns

-- A receipt that was recorded: the line is ready, and it was run between an Init and a mark.
pub record IsSentOn (m after : LineView) (receipt : List Command) : Type 0 where
  pub ready : IsReady after
  pub records : after.host.records ≡ m.host.records ++ receipt ∷ []
  pub next : after.host.next ≡ m.host.next + 1
  pub heard : after.host.heard ≡ m.host.next + 1
  pub page : (width : ℕ) (kept : List Item) (cs : List Command) → SheetIs width m.printer.sheet kept cs → SheetIs width after.printer.sheet kept (cs ++ sent_with receipt (id_of m.host.next))

pub sending_done : Laws → (m after : LineView) (receipt : List Command) → IsReady m → Whole receipt → AreCommands receipt
    → length (submitted m.host [] receipt).out ≤ all_bytes → Happened m (event.Submit receipt ∷ exchange) after → IsSentOn m after receipt
sending_done laws m after receipt ready whole known short (n, m1, ((flight, done, phase, few, mark, same), turn), rest) =
    let h = m.host in
    let p = m.printer in
    let none : flight ≡ [] = cc (sym phase ∙ ready.phase) in
    let plain : m1 ≡ plain_line (submitted h [] receipt) p [] [] =
    same ∙ ap (λ f. with_host m (submitted h f receipt)) none ∙ ap (λ v. with_host v (submitted h [] receipt)) ready.line in
    let happened = subst (λ v. Happened v exchange after) plain rest in
    let expected = recorded (emptied (submitted h [] receipt)) [] (in_flight h receipt) [] in
    let x = exchanged laws (plain_line (submitted h [] receipt) p [] []) after (sent_with receipt (id_of h.next)) (id_of h.next) expected
    (sent_loaded laws h p receipt whole known ready.out ready.half short ready.no_half ready.none ready.online) (sent_expects h receipt) happened in
    record {
      ready = subst IsReady (sym x.line) (taken_ready expected p x.printer (sent_with receipt (id_of h.next)) x.took x.half ready.online refl refl ready.half);
      records = ap (λ (v : LineView). v.host.records) x.line;
      next = ap (λ (v : LineView). v.host.next) x.line;
      heard = ap (λ (v : LineView). v.host.heard) x.line;
      page = λ width kept cs is. subst (λ (v : LineView). SheetIs width v.printer.sheet kept (cs ++ sent_with receipt (id_of h.next))) (sym x.line) (x.took.ran.page width kept cs is);
    }

-- What is printed of it.
sent_items : Laws → (width : ℕ) (before after : Sheet) (receipt : List Command) (id : List ℕ) (kept : List Item) (cs : List Command) → SheetIs width before kept cs
    → SheetIs width after kept (cs ++ sent_with receipt id) → after.items ≡ before.items ++ printed width receipt
sent_items laws width before after receipt id kept cs is done =
    let end : printed width (cs ++ sent_with receipt id) ≡ printed width cs ++ printed width receipt =
    ap (printed width) (sym (append_assoc cs (kind.Init ∷ []) (receipt ++ kind.Mark id ∷ []))) ∙ laws.init width cs (receipt ++ kind.Mark id ∷ []) ∙ ap (λ v. printed width cs ++ v) (laws.marks width receipt id) in
    ap (λ (s : Sheet). s.items) done ∙ ap (λ v. kept ++ v) end ∙ sym (append_assoc kept (printed width cs) (printed width receipt)) ∙ ap (λ v. v ++ printed width receipt) (sym (ap (λ (s : Sheet). s.items) is))

-- ## The whole way

-- A line at rest with a link is ready.
at_rest_ready : Laws → (l : LineView) → Undisturbed l → IsLine l → IsSound l.host → l.host.phase ≡ Open [] → l.live ≡ Some [] → l.host.out ≡ [] → IsReady l
at_rest_ready laws l u i sound phase live out = record {
  line = ap (λ links. record { host = l.host; printer = l.printer; ended = links; live = l.live; coming = l.coming }) u.at_rest.0
      ∙ ap (λ on. record { host = l.host; printer = l.printer; ended = []; live = on; coming = l.coming }) live ∙ ap (λ bytes. plain_line l.host l.printer [] bytes) u.silent.quiet;
  phase = phase;
  out = out;
  half = no_half_left sound.half (subst (λ bytes. AreWholeAnswers (l.host.half ++ bytes)) u.silent.quiet i.whole);
  no_half = u.silent.no_half;
  none = u.silent.no_answer;
  online = u.silent.online;
}
  where
    no_half_left : (l.host.half ≡ []) ⊎ HalfAnswer l.host.half → AreWholeAnswers (l.host.half ++ []) → l.host.half ≡ []
    no_half_left (inl none) whole = none
    no_half_left (inr half) (answers, hears) =
        (laws.one_hearing l.host.half [] answers l.host.half [] (record { in_range = tt; whole = refl; rest_is = inr half })
        (subst (λ bs. Hears bs answers []) (append-nil l.host.half) hears)).1

-- The line once there is a link: it is ready, its host's records and what is on paper are those of before, and its page is
-- one that commands leave.
pub record IsBegun (l m : LineView) : Type 0 where
  pub ready : IsReady m
  pub records : m.host.records ≡ l.host.records
  pub next : m.host.next + 1 ≡ l.host.next + marks_for l.host.phase
  pub has : HasMark m.host
  pub kept : List Item
  pub commands : List Command
  pub sheet : SheetIs l.printer.sheet.line_dots m.printer.sheet kept commands
  pub items : m.printer.sheet.items ≡ l.printer.sheet.items

pub begun : Laws → (l m : LineView) (kept : List Item) (cs : List Command) → Undisturbed l → IsLine l → IsSound l.host → SheetIs l.printer.sheet.line_dots l.printer.sheet kept cs
    → Happened l (opening l.host.phase) m → IsBegun l m
begun laws l m kept cs u i sound is happened = elim u.at_rest.1 [
  | inl (is_down, no_live) ↦
      let o = opening_done laws l m u is_down (subst (λ p. Happened l (opening p) m) is_down happened) in
      record {
        ready = o.ready;
        records = o.records;
        next = omega (arith, o.next, ap marks_for is_down);
        has = omega (arith, o.next, o.heard, u.marks, ap marks_for is_down);
        kept = kept;
        commands = cs ++ kind.Mark (id_of l.host.next) ∷ [];
        sheet = o.page l.printer.sheet.line_dots kept cs is;
        items = ap (λ (s : Sheet). s.items) (o.page l.printer.sheet.line_dots kept cs is) ∙ ap (λ v. kept ++ v) (laws.marks l.printer.sheet.line_dots cs (id_of l.host.next)) ∙ sym (ap (λ (s : Sheet). s.items) is);
      }
  | inr (phase, live, out) ↦
      let same : m ≡ l = subst (λ p. Happened l (opening p) m) phase happened in
      record {
        ready = subst IsReady (sym same) (at_rest_ready laws l u i sound phase live out);
        records = ap (λ (v : LineView). v.host.records) same;
        next = omega (arith, ap (λ (v : LineView). v.host.next) same, ap marks_for phase);
        has = subst (λ (v : LineView). HasMark v.host) (sym same) (let one = ap marks_for phase in let marks = u.marks in omega (arith, one, marks));
        kept = kept;
        commands = cs;
        sheet = subst (λ (v : LineView). SheetIs l.printer.sheet.line_dots v.printer.sheet kept cs) (sym same) is;
        items = ap (λ (v : LineView). v.printer.sheet.items) same;
      }
]

pub went : Laws → (l m after : LineView) (receipt : List Command) → IsBegun l m → Whole receipt → AreCommands receipt → length (submitted m.host [] receipt).out ≤ all_bytes
    → Happened l (opening l.host.phase) m → Happened m (event.Submit receipt ∷ exchange) after → WentStraight l receipt (length l.host.records) after
went laws l m after receipt b whole known short first second =
    let s = sending_done laws m after receipt b.ready whole known short second in
    record {
      number_is = refl;
      recorded = s.records ∙ ap (λ v. v ++ receipt ∷ []) b.records;
      printed_after = sent_items laws l.printer.sheet.line_dots m.printer.sheet after.printer.sheet receipt (id_of m.host.next) b.kept b.commands b.sheet (s.page l.printer.sheet.line_dots b.kept b.commands b.sheet)
          ∙ ap (λ v. v ++ printed l.printer.sheet.line_dots receipt) b.items;
      ready = s.ready.phase;
      link = (ap (λ (v : LineView). v.ended) s.ready.line, ap (λ (v : LineView). v.live) s.ready.line);
      next = s.next ∙ b.next;
      heard = s.heard ∙ sym s.next;
      out = s.ready.out;
      silent = record {
        online = s.ready.online;
        no_half = s.ready.no_half;
        no_answer = s.ready.none;
        quiet = ap (λ (v : LineView). v.coming) s.ready.line;
      };
      happened = joined (opening l.host.phase) (event.Submit receipt ∷ exchange) l m after first second;
    }

-- What a receipt puts out is shorter than `usize::MAX`, if all of it went onto the link.
pub short_sent : (m k : LineView) (receipt : List Command) (n : Note) → IsReady m → After (event.Submit receipt) m n k → (k.live ≢ None → length k.host.out ≤ all_bytes)
    → length (submitted m.host [] receipt).out ≤ all_bytes
short_sent m k receipt n ready (flight, done, phase, few, mark, same) short =
    let out : length k.host.out ≡ length (submitted m.host [] receipt).out = ap (λ (v : LineView). length v.host.out) same in
    let live : k.live ≡ Some [] = ap (λ (v : LineView). v.live) same ∙ ap (λ (v : LineView). v.live) ready.line in
    let few_bytes = short (some_link k.live live) in
    omega (arith, out, few_bytes)
  where
    some_link : (live : Option (List ℕ)) → live ≡ Some [] → live ≡ None → ⊥
    some_link live e none = let bad : Some [] ≡ None = sym e ∙ none in cc
