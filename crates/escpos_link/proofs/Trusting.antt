-- What lets records be trusted holds for a line after each event, and after each refusal; and no answer ends the host's
-- link.
use Rattle.std.proofs.Common.{◌≡◌, ◌≢◌, ◌<◌, ◌≤◌, ℕ, List, [], refl, sym, ◌∙◌, ap, subst, arith, None}
use Rattle.escpos_host.specs.Counted.{id_of}
use Rattle.escpos_paper.specs.Page.{SheetIs}
use Rattle.escpos_host.specs.declared.host.HostEvent.{HostEvent}
use Rattle.escpos_host.specs.declared.host.HostEvent.TheVariants as heard
use Rattle.escpos_host.specs.Heard.{EndsLink, last_of}
use Rattle.escpos_host.specs.Machine.{HasMark, HostView, InFlight, IsSound, Phase, Down, Opening, Open, gone_down, unanswered}
use Rattle.escpos_link.specs.declared.event.Event.{Event}
use Rattle.escpos_link.specs.declared.event.Event.TheVariants as event
use Rattle.escpos_link.specs.declared.event.Note.{Note}
use Rattle.escpos_link.specs.declared.event.Note.TheVariants as note
use Rattle.escpos_link.specs.declared.event.Handed.{Handed}
use Rattle.escpos_link.specs.declared.event.Handed.TheVariants as handed
use Rattle.escpos_link.specs.EventTable.{After, HandsOver, Leaves, delivered, hung_up, left_by, off_link, told_at, with_host}
use Rattle.escpos_printer.specs.declared.printer.FeedStop.{FeedStop}
use Rattle.escpos_printer.specs.declared.printer.FeedStop.TheVariants as stop
use Rattle.escpos_link.specs.Line.{IsLine, LineView}
use Rattle.escpos_link.specs.Promising.{PutsOther}
use Rattle.escpos_link.specs.Resumed.{resumed, resumed_from}
use Rattle.escpos_link.specs.Stands.{Stands}
use Rattle.escpos_link.specs.Trusted.{AllPromised, IsFitting, IsNotOpen, IsTrusted, StillTrusted, Trusted}
use Rattle.escpos_link.proofs.Claiming.{OfPaper}
use Rattle.escpos_link.proofs.Hearing.{all_on, answered_trusted}
use Rattle.escpos_link.proofs.Numbers.{OfNumbers}
use Rattle.escpos_link.proofs.PromisedEvents.{all_flying, off_promised, promised}
use Rattle.escpos_link.proofs.WayKept.{Laws, answered_on_way, begun_on_way, on_way, on_way_stands, resumed_from_on_way, resumed_on_way, width_is}

-- So where a line is still trusted for the width of before, it is for its own, which is the same.
pub still : (l after : LineView) → Trusted l.printer.sheet.line_dots after → StillTrusted l after
still l after t =
    let same = width_is l.printer.sheet.line_dots after t.on_way in
    (subst (λ v. Trusted v after) (sym same) t, same)

-- ## The headline

pub stands : (width : ℕ) → OfPaper → (l : LineView) → Trusted width l → Stands width l.host.records l.printer.sheet.items
stands width paper l t = on_way_stands width paper l t.on_way

-- ## What is left

next_other : OfNumbers → (h : HostView) (p : InFlight) → HasMark h → p.number < h.next → p.mark ≡ id_of p.number → h.heard ≤ p.number → id_of h.next ≢ p.mark
next_other of h p few less mark out same = let one = of.apart p.number h.next (omega (arith, less)) (omega (arith, few, out)) (sym mark ∙ sym same) in omega (arith, less, one)

-- A mark with a number below the next one, which may still be answered, hasn't the id of the one that an event puts out.
puts_other : OfNumbers → (e : Event) (l after : LineView) (n : Note) (p : InFlight) → After e l n after → p.number < l.host.next → p.mark ≡ id_of p.number → l.host.heard ≤ p.number
    → PutsOther e l.host p.mark
puts_other of event.LinkUp l after n p (done, is_down, few, same) less mark out = next_other of l.host p few less mark out
puts_other of event.LinkUpReporting l after n p (done, is_down, few, same) less mark out = next_other of l.host p few less mark out
puts_other of event.Nudge l after n p (done, opening, few, same) less mark out = next_other of l.host p few less mark out
puts_other of (event.Submit receipt) l after n p (flight, done, is, room, few, same) less mark out = next_other of l.host p few less mark out
puts_other of (event.Ask kind) l after n p happened less mark out = tt
puts_other of event.AskReports l after n p happened less mark out = tt
puts_other of (event.Move k) l after n p happened less mark out = tt
puts_other of (event.Deliver k) l after n p happened less mark out = tt
puts_other of event.HandOver l after n p happened less mark out = tt
puts_other of (event.Answer k) l after n p happened less mark out = tt
puts_other of event.PrinterLeaves l after n p happened less mark out = tt
puts_other of event.PrinterRestart l after n p happened less mark out = tt
puts_other of event.HostDrops l after n p happened less mark out = tt
puts_other of (event.HostRestart f) l after n p happened less mark out = tt
puts_other of (event.SetCondition condition) l after n p happened less mark out = tt

-- What is left stays promised, where it and the records are the same.
left_stays : (width : ℕ) → Laws → (e : Event) (l after : LineView) (n : Note) → IsFitting e → IsSound l.host → IsLine l → After e l n after → Trusted width l
    → after.host.left ≡ l.host.left → after.host.records ≡ l.host.records → l.host.next ≤ after.host.next → l.host.heard ≤ after.host.heard → IsNotOpen l.host.phase
    → AllPromised width after.host.records after.host.left after
left_stays width laws e l after n fits sound i happened t left records more rises not_open =
    subst (λ rs. AllPromised width rs after.host.left after) (sym records)
    (subst (λ ps. AllPromised width l.host.records ps after) (sym left)
    (all_on width l.host.records l.host.left l after more rises
    (λ rs p less mark out w. promised width laws e l after n rs p fits sound i happened t (puts_other laws.numbers e l after n p happened less mark out) w) (t.left not_open)))

-- The same where the host is as it was.
host_stays : (width : ℕ) → Laws → (e : Event) (l after : LineView) (n : Note) → IsFitting e → IsSound l.host → IsLine l → After e l n after → Trusted width l
    → after.host ≡ l.host → IsNotOpen after.host.phase → AllPromised width after.host.records after.host.left after
host_stays width laws e l after n fits sound i happened t same not_open =
    left_stays width laws e l after n fits sound i happened t (ap (λ (h : HostView). h.left) same) (ap (λ (h : HostView). h.records) same)
    (subst (λ k. l.host.next ≤ k) (sym (ap (λ (h : HostView). h.next) same)) (omega arith)) (subst (λ k. l.host.heard ≤ k) (sym (ap (λ (h : HostView). h.heard) same)) (omega arith))
    (subst IsNotOpen (ap (λ (h : HostView). h.phase) same) not_open)

left_by_host : (why : FeedStop) (m : LineView) → (left_by why m).host ≡ m.host
left_by_host stop.All m = refl
left_by_host stop.AnswersFull m = refl
left_by_host stop.Offline m = refl
left_by_host stop.Memory m = refl
left_by_host (stop.Fault at why) m = refl

hands_host : (l after : LineView) (what : Handed) → HandsOver l what after → after.host ≡ l.host
hands_host l after handed.None (none, same) = ap (λ (v : LineView). v.host) same
hands_host l after handed.Lost (a, answers, waits, links, same) = ap (λ (v : LineView). v.host) same
hands_host l after handed.On (a, answers, waits, links, live, same) = ap (λ (v : LineView). v.host) same

-- What was in flight is left, each promised after those before it.
flight_left : (width : ℕ) → Laws → (l : LineView) (flight : List InFlight) → l.host.phase ≡ Open flight → Trusted width l
    → AllPromised width l.host.records flight (off_link (with_host l (gone_down l.host)))
flight_left width laws l flight is t =
    all_on width l.host.records flight l (off_link (with_host l (gone_down l.host))) (omega arith) (omega arith) (λ rs p less mark out w. off_promised width l rs p (gone_down l.host) refl w)
    (all_flying width laws l flight t.on_way is)

hung_left : (width : ℕ) → Laws → (l after : LineView) (n : Note) (phase : Phase) → IsSound l.host → IsLine l → After event.HostDrops l n after → Trusted width l → l.host.phase ≡ phase
    → after ≡ off_link (with_host l (hung_up phase l.host)) → IsNotOpen after.host.phase → AllPromised width after.host.records after.host.left after
hung_left width laws l after n Down sound i happened t is same not_open =
    host_stays width laws event.HostDrops l after n tt sound i happened t (ap (λ (v : LineView). v.host) same) not_open
hung_left width laws l after n (Opening first) sound i happened t is same not_open =
    left_stays width laws event.HostDrops l after n tt sound i happened t (ap (λ (v : LineView). v.host.left) same ∙ ap (λ p. unanswered p l.host.left) is)
    (ap (λ (v : LineView). v.host.records) same) (subst (λ k. l.host.next ≤ k) (sym (ap (λ (v : LineView). v.host.next) same)) (omega arith)) (subst (λ k. l.host.heard ≤ k) (sym (ap (λ (v : LineView). v.host.heard) same)) (omega arith)) (subst IsNotOpen (sym is) tt)
hung_left width laws l after n (Open flight) sound i happened t is same not_open =
    subst (λ (v : LineView). AllPromised width v.host.records v.host.left v) (sym same)
    (subst (λ ps. AllPromised width l.host.records ps (off_link (with_host l (gone_down l.host)))) (sym (ap (λ p. unanswered p l.host.left) is)) (flight_left width laws l flight is t))

left_after : (width : ℕ) → Laws → (e : Event) (l after : LineView) (n : Note) → IsFitting e → IsSound l.host → IsLine l → After e l n after → Trusted width l
    → IsNotOpen after.host.phase → AllPromised width after.host.records after.host.left after
left_after width laws event.LinkUp l after n fits sound i (done, is_down, few, same) t not_open =
    left_stays width laws event.LinkUp l after n fits sound i (done, is_down, few, same) t (ap (λ (v : LineView). v.host.left) same) (ap (λ (v : LineView). v.host.records) same)
    (subst (λ k. l.host.next ≤ k) (sym (ap (λ (v : LineView). v.host.next) same)) (omega arith)) (subst (λ k. l.host.heard ≤ k) (sym (ap (λ (v : LineView). v.host.heard) same)) (omega arith)) (subst IsNotOpen (sym is_down) tt)
left_after width laws event.LinkUpReporting l after n fits sound i (done, is_down, few, same) t not_open =
    left_stays width laws event.LinkUpReporting l after n fits sound i (done, is_down, few, same) t (ap (λ (v : LineView). v.host.left) same) (ap (λ (v : LineView). v.host.records) same)
    (subst (λ k. l.host.next ≤ k) (sym (ap (λ (v : LineView). v.host.next) same)) (omega arith)) (subst (λ k. l.host.heard ≤ k) (sym (ap (λ (v : LineView). v.host.heard) same)) (omega arith)) (subst IsNotOpen (sym is_down) tt)
left_after width laws event.Nudge l after n fits sound i (done, opening, few, same) t not_open =
    left_stays width laws event.Nudge l after n fits sound i (done, opening, few, same) t (ap (λ (v : LineView). v.host.left) same) (ap (λ (v : LineView). v.host.records) same)
    (subst (λ k. l.host.next ≤ k) (sym (ap (λ (v : LineView). v.host.next) same)) (omega arith)) (subst (λ k. l.host.heard ≤ k) (sym (ap (λ (v : LineView). v.host.heard) same)) (omega arith)) (subst IsNotOpen (ap (λ (v : LineView). v.host.phase) same) not_open)
left_after width laws (event.Submit receipt) l after n fits sound i (flight, done, is, room, few, same) t not_open = absurd (subst IsNotOpen (ap (λ (v : LineView). v.host.phase) same) not_open)
left_after width laws (event.Ask kind) l after n fits sound i (done, is, same) t not_open = absurd (subst IsNotOpen (ap (λ (v : LineView). v.host.phase) same ∙ is) not_open)
left_after width laws event.AskReports l after n fits sound i (done, is, same) t not_open = absurd (subst IsNotOpen (ap (λ (v : LineView). v.host.phase) same ∙ is) not_open)
left_after width laws (event.Move k) l after n fits sound i (count, told, is, same) t not_open =
    left_stays width laws (event.Move k) l after n fits sound i (count, told, is, same) t (ap (λ (v : LineView). v.host.left) same) (ap (λ (v : LineView). v.host.records) same)
    (subst (λ m. l.host.next ≤ m) (sym (ap (λ (v : LineView). v.host.next) same)) (omega arith)) (subst (λ k. l.host.heard ≤ k) (sym (ap (λ (v : LineView). v.host.heard) same)) (omega arith)) (subst IsNotOpen (ap (λ (v : LineView). v.host.phase) same) not_open)
left_after width laws (event.Deliver k) l after n fits sound i (fed, printer, told, feeds, memory, same) t not_open =
    host_stays width laws (event.Deliver k) l after n fits sound i (fed, printer, told, feeds, memory, same) t
    (ap (λ (v : LineView). v.host) same ∙ left_by_host fed.stop (delivered l fed.consumed printer)) not_open
left_after width laws event.HandOver l after n fits sound i (what, told, hands) t not_open =
    host_stays width laws event.HandOver l after n fits sound i (what, told, hands) t (hands_host l after what hands) not_open
left_after width laws (event.Answer k) l after n fits sound i (events, consumed, host, told, hears, same) t not_open =
    subst (λ (v : LineView). IsNotOpen v.host.phase → AllPromised width v.host.records v.host.left v) (sym same) (answered_trusted width laws l k consumed events host i hears t).trusted.left not_open
left_after width laws event.PrinterLeaves l after n fits sound i (done, same) t not_open =
    host_stays width laws event.PrinterLeaves l after n fits sound i (done, same) t (ap (λ (v : LineView). v.host) same) not_open
left_after width laws event.PrinterRestart l after n fits sound i (printer, done, restart, same) t not_open =
    host_stays width laws event.PrinterRestart l after n fits sound i (printer, done, restart, same) t (ap (λ (v : LineView). v.host) same) not_open
left_after width laws event.HostDrops l after n fits sound i (done, same) t not_open = hung_left width laws l after n l.host.phase sound i (done, same) t refl same not_open
left_after width laws (event.HostRestart f) l after n fits sound i (done, least, same) t not_open =
    subst (λ (v : LineView). AllPromised width v.host.records v.host.left v) (sym same) tt
left_after width laws (event.SetCondition condition) l after n fits sound i (done, same) t not_open =
    host_stays width laws (event.SetCondition condition) l after n fits sound i (done, same) t (ap (λ (v : LineView). v.host) same) not_open

-- ## Every event

pub trusted : (width : ℕ) → Laws → (e : Event) (l after : LineView) (n : Note) → IsFitting e → IsSound l.host → IsLine l → After e l n after → Trusted width l → Trusted width after
trusted width laws e l after n fits sound i happened t = record {
  on_way = on_way width laws e l after n fits sound i happened (λ k consumed events host hears. (answered_trusted width laws l k consumed events host i hears t).trusted.on_way) t.on_way;
  left = left_after width laws e l after n fits sound i happened t;
}

-- A refusal leaves the line as it was, or as after fewer bytes.
pub leaves_trusted : (width : ℕ) → Laws → (e : Event) (l after : LineView) → IsSound l.host → IsLine l → Leaves e l after → Trusted width l → Trusted width after
leaves_trusted width laws event.LinkUp l after sound i same t = subst (Trusted width) (sym same) t
leaves_trusted width laws event.LinkUpReporting l after sound i same t = subst (Trusted width) (sym same) t
leaves_trusted width laws event.Nudge l after sound i same t = subst (Trusted width) (sym same) t
leaves_trusted width laws (event.Submit receipt) l after sound i same t = subst (Trusted width) (sym same) t
leaves_trusted width laws (event.Ask kind) l after sound i same t = subst (Trusted width) (sym same) t
leaves_trusted width laws event.AskReports l after sound i same t = subst (Trusted width) (sym same) t
leaves_trusted width laws (event.Move k) l after sound i (fewer, n, less, within, moves) t = trusted width laws (event.Move fewer) l after n tt sound i moves t
leaves_trusted width laws (event.Deliver k) l after sound i (fewer, n, less, feeds, wanted) t = trusted width laws (event.Deliver fewer) l after n tt sound i feeds t
leaves_trusted width laws event.HandOver l after sound i same t = subst (Trusted width) (sym same) t
leaves_trusted width laws (event.Answer k) l after sound i same t = subst (Trusted width) (sym same) t
leaves_trusted width laws event.PrinterLeaves l after sound i same t = subst (Trusted width) (sym same) t
leaves_trusted width laws event.PrinterRestart l after sound i same t = subst (Trusted width) (sym same) t
leaves_trusted width laws event.HostDrops l after sound i same t = subst (Trusted width) (sym same) t
leaves_trusted width laws (event.HostRestart f) l after sound i same t = subst (Trusted width) (sym same) t
leaves_trusted width laws (event.SetCondition condition) l after sound i same t = subst (Trusted width) (sym same) t

-- The host goes on with the first of its records.
pub resumed_trusted : (width : ℕ) → Laws → (l : LineView) (f count : ℕ) → l.host.next ≤ f → Trusted width l → Trusted width (resumed l f count)
resumed_trusted width laws l f count least t = record { on_way = resumed_on_way width laws l f count least t.on_way; left = λ not_open. tt }

pub resumed_from_trusted : (width : ℕ) → Laws → (l : LineView) (f count heard : ℕ) → l.host.next ≤ f → heard ≤ l.host.heard → Trusted width l
    → Trusted width (resumed_from l f count heard)
resumed_from_trusted width laws l f count heard least less t =
    record { on_way = resumed_from_on_way width laws l f count heard least less t.on_way; left = λ not_open. tt }

pub answered_resumed : (width : ℕ) → Laws → (l : LineView) (f count heard : ℕ) → l.host.next ≤ l.host.heard → heard ≤ f → Trusted width l → Trusted width (resumed_from l f count heard)
answered_resumed width laws l f count heard none within t = record { on_way = answered_on_way width laws l f count heard none within t.on_way; left = λ not_open. tt }

-- ## No answer ends the host's link

told_ends : (e : HostEvent) (consumed at : ℕ) → told_at e consumed ≡ heard.BadAnswer at → EndsLink e
told_ends heard.None consumed at is = absurd (cc is)
told_ends heard.Opened consumed at is = absurd (cc is)
told_ends (heard.Recorded n) consumed at is = absurd (cc is)
told_ends (heard.Status b) consumed at is = absurd (cc is)
told_ends (heard.Condition block) consumed at is = absurd (cc is)
told_ends (heard.Late id) consumed at is = absurd (cc is)
told_ends (heard.BadAnswer place) consumed at is = tt

last_told : (c d : ℕ) (e f : HostEvent) → note.Heard c e ≡ note.Heard d f → e ≡ f
last_told c d e f is = cc is

bad_told : (width : ℕ) → Laws → (l after : LineView) (k consumed place : ℕ) (n : Note) → IsLine l → Trusted width l → After (event.Answer k) l n after
    → n ≡ note.Heard consumed (heard.BadAnswer place) → ⊥
bad_told width laws l after k consumed place n i t (events, count, host, told, hears, same) bad =
    let r = answered_trusted width laws l k count events host i hears t in
    r.on (told_ends (last_of events) count place (last_told count consumed _ _ (sym told ∙ bad)))

done_told : (consumed place : ℕ) (n : Note) → n ≡ note.Done → n ≡ note.Heard consumed (heard.BadAnswer place) → ⊥
done_told consumed place n done bad = let both : note.Done ≡ note.Heard consumed (heard.BadAnswer place) = sym done ∙ bad in cc

-- No event reports a byte that fits no answer.
pub none_bad : (width : ℕ) → Laws → (e : Event) (l after : LineView) (n : Note) (consumed place : ℕ) → IsLine l → Trusted width l → After e l n after
    → n ≢ note.Heard consumed (heard.BadAnswer place)
none_bad width laws event.LinkUp l after n consumed place i t (done, is_down, mark, same) bad = done_told consumed place n done bad
none_bad width laws event.LinkUpReporting l after n consumed place i t (done, is_down, mark, same) bad = done_told consumed place n done bad
none_bad width laws event.Nudge l after n consumed place i t (done, opening, mark, same) bad = done_told consumed place n done bad
none_bad width laws (event.Submit receipt) l after n consumed place i t (flight, done, is, few, mark, same) bad = done_told consumed place n done bad
none_bad width laws (event.Ask kind) l after n consumed place i t (done, is, same) bad = done_told consumed place n done bad
none_bad width laws event.AskReports l after n consumed place i t (done, is, same) bad = done_told consumed place n done bad
none_bad width laws (event.Move k) l after n consumed place i t (count, told, is, same) bad =
    let both : note.Moved count ≡ note.Heard consumed (heard.BadAnswer place) = sym told ∙ bad in cc
none_bad width laws (event.Deliver k) l after n consumed place i t (fed, printer, told, feeds, memory, same) bad =
    let both : note.Fed fed ≡ note.Heard consumed (heard.BadAnswer place) = sym told ∙ bad in cc
none_bad width laws event.HandOver l after n consumed place i t (what, told, hands) bad =
    let both : note.Handed what ≡ note.Heard consumed (heard.BadAnswer place) = sym told ∙ bad in cc
none_bad width laws (event.Answer k) l after n consumed place i t answers bad = bad_told width laws l after k consumed place n i t answers bad
none_bad width laws event.PrinterLeaves l after n consumed place i t (done, is) bad = done_told consumed place n done bad
none_bad width laws event.PrinterRestart l after n consumed place i t (printer, done, restart, same) bad = done_told consumed place n done bad
none_bad width laws event.HostDrops l after n consumed place i t (done, is) bad = done_told consumed place n done bad
none_bad width laws (event.HostRestart f) l after n consumed place i t (done, least, same) bad = done_told consumed place n done bad
none_bad width laws (event.SetCondition condition) l after n consumed place i t (done, is) bad = done_told consumed place n done bad

-- ## A new line

pub begun : (width : ℕ) (l : LineView) (first heard : ℕ) → heard ≤ first
    → l.host ≡ record { phase = Down; out = []; half = []; next = first; heard = heard; records = []; left = [] } → SheetIs width l.printer.sheet [] []
    → l.printer.half ≡ [] → l.printer.waiting ≡ [] → l.ended ≡ [] → l.live ≡ None → l.coming ≡ [] → IsTrusted l
begun width l first heard less host sheet half waiting ended live coming = record {
  on_way = begun_on_way width l first heard less host sheet half waiting ended live coming;
  left = λ not_open. subst (λ (h : HostView). AllPromised l.printer.sheet.line_dots h.records h.left l) (sym host) tt;
}
