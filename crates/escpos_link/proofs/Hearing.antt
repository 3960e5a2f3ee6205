-- A host hears answers: the line stays on its way, promises stay, and what is left is recorded only as it stands.
use Rattle.std.proofs.Common.{◌≡◌, ◌≢◌, ◌<◌, ◌≤◌, arith, inl, inr, ℕ, List, [], ◌∷◌, ◌++◌, take, drop, refl, sym, ◌∙◌, ap, subst, append-nil, append_assoc, take-append-drop}
use Rattle.escpos_command.specs.declared.answer.Answer.{Answer}
use Rattle.escpos_command.specs.declared.answer.Answer.TheVariants as answer
use Rattle.escpos_command.specs.declared.command.Command.{Command}
use Rattle.escpos_host.specs.Counted.{id_of}
use Rattle.escpos_command.specs.Answers.{Hears, answer_bytes, spell_answers}
use Rattle.escpos_host.specs.declared.host.HostEvent.{HostEvent}
use Rattle.escpos_host.specs.declared.host.HostEvent.TheVariants as heard
use Rattle.escpos_host.specs.Heard.{EndsLink, HearsAll, HearsInTurn, IsToldLate, Turns, last_of}
use Rattle.escpos_host.specs.Machine.{HostView, InFlight, Phase, Down, Open, receipts_of}
use Rattle.escpos_host.proofs.Recording.{keeps, told}
use Rattle.escpos_link.specs.EventTable.{heard_to}
use Rattle.escpos_link.specs.Line.{IsLine, LineView}
use Rattle.escpos_link.specs.Promised.{IsIn, PromisedBy, PromisedIn}
use Rattle.escpos_link.specs.Stands.{Stands}
use Rattle.escpos_link.specs.Trusted.{AllPromised, IsNotOpen, IsPromised, Trusted}
use Rattle.escpos_link.specs.Ways.{answered_marks}
use Rattle.escpos_link.proofs.AfterAnswers.{InWay, LateStands, StandsFor, turn_way}
use Rattle.escpos_link.proofs.AfterHearing.{drop-nil, dropped, heard_line, heard_line_is}
use Rattle.escpos_link.proofs.Promises.{fewer_for, in_back}
use Rattle.escpos_link.proofs.Promising.{receipts_join}
use Rattle.escpos_link.proofs.Turning.{Goes, Heard, OfAnswers, Turner, heard_in_turn, no_bytes}
use Rattle.escpos_link.proofs.WayKept.{Laws, marks_join}

-- Bytes are heard in one way.
none_left : (answers : List Answer) → Hears [] answers [] → answers ≡ []
none_left [] h = refl
none_left (a ∷ answers) h = absurd (no_bytes a (spell_answers answers ++ []) h.in_range.0 (sym (append_assoc (answer_bytes a) (spell_answers answers) []) ∙ sym h.whole))

pub same_answers : OfAnswers → (bs : List ℕ) (xs ys : List Answer) → Hears bs xs [] → Hears bs ys [] → xs ≡ ys
same_answers below bs xs ys h k =
    let c = below.cut bs [] xs ys [] (subst (λ v. Hears v xs []) (sym (append-nil bs)) h) k in
    c.1 ∙ ap (λ v. ys ++ v) (none_left c.0 c.2) ∙ append-nil ys

-- ## What is left

-- What is said of one of them, and of the others.
pub promised_at : (width : ℕ) (records : List (List Command)) (before : List InFlight) (p : InFlight) (others : List InFlight) (l : LineView) → AllPromised width records (before ++ p ∷ others) l
    → IsPromised width (records ++ receipts_of before) p l
promised_at width records [] p others l all = subst (λ rs. IsPromised width rs p l) (sym (append-nil records)) all.0
promised_at width records (q ∷ before) p others l all =
    subst (λ rs. IsPromised width rs p l) (append_assoc records (q.receipt ∷ []) (receipts_of before)) (promised_at width (records ++ q.receipt ∷ []) before p others l all.1)

pub promised_after : (width : ℕ) (records : List (List Command)) (gone left : List InFlight) (l : LineView) → AllPromised width records (gone ++ left) l
    → AllPromised width (records ++ receipts_of gone) left l
promised_after width records [] left l all = subst (λ rs. AllPromised width rs left l) (sym (append-nil records)) all
promised_after width records (q ∷ gone) left l all =
    subst (λ rs. AllPromised width rs left l) (append_assoc records (q.receipt ∷ []) (receipts_of gone)) (promised_after width (records ++ q.receipt ∷ []) gone left l all.1)

-- They stay, if each does that may still be answered.
abbrev pub EachStays : ℕ → LineView → LineView → Type 0
EachStays width l after =
    (rs : List (List Command)) (p : InFlight) → p.number < l.host.next → p.mark ≡ id_of p.number → l.host.heard ≤ p.number → PromisedIn width rs p l → PromisedIn width rs p after

one_on : (width : ℕ) (records : List (List Command)) (p : InFlight) (l after : LineView) → l.host.next ≤ after.host.next → l.host.heard ≤ after.host.heard → EachStays width l after
    → IsPromised width records p l → IsPromised width records p after
one_on width records p l after more rises on one =
    let put = one.put in
    record {
      put = omega (arith, put, more);
      mark = one.mark;
      promise = λ out. let before : l.host.heard ≤ p.number = omega (arith, out, rises) in on records p one.put one.mark before (one.promise before);
    }

pub all_on : (width : ℕ) (records : List (List Command)) (left : List InFlight) (l after : LineView) → l.host.next ≤ after.host.next → l.host.heard ≤ after.host.heard → EachStays width l after
    → AllPromised width records left l → AllPromised width records left after
all_on width records [] l after more rises on all = tt
all_on width records (p ∷ left) l after more rises on all =
    (one_on width records p l after more rises on all.0, all_on width (records ++ p.receipt ∷ []) left l after more rises on all.1)

-- Those that were left on a line, without the first ones, which are recorded.
pub record FromLeft (l : LineView) (records : List (List Command)) (left : List InFlight) : Type 0 where
  pub gone : List InFlight
  pub left_are : l.host.left ≡ gone ++ left
  pub records_are : records ≡ l.host.records ++ receipts_of gone

-- ## Answer after answer

-- An answer that doesn't end the link puts nothing out, and uses no number.
turned_out : (h after : HostView) (a : Answer) (e : HostEvent) → (EndsLink e → ⊥) → Turns h a e after → (after.out ≡ h.out) × (after.next ≡ h.next)
turned_out h after a heard.None on turns = (ap (λ (v : HostView). v.out) turns.1, ap (λ (v : HostView). v.next) turns.1)
turned_out h after a heard.Opened on (first, n, id, phase, is, opening, same) = (ap (λ (v : HostView). v.out) same, ap (λ (v : HostView). v.next) same)
turned_out h after a (heard.Recorded number) on (id, is, r) = let k = keeps h after id number r in (k.out, k.next)
turned_out h after a (heard.Late id) on (first, phase, is, other, unleft, late) = let k = (told h after first id phase late).keeps in (k.out, k.next)
turned_out h after a (heard.Status byte) on turns = (ap (λ (v : HostView). v.out) turns.1, ap (λ (v : HostView). v.next) turns.1)
turned_out h after a (heard.Condition block) on turns = (ap (λ (v : HostView). v.out) turns.1, ap (λ (v : HostView). v.next) turns.1)
turned_out h after a (heard.BadAnswer place) on turns = absurd turns

-- A host that isn't open then wasn't before, and what is left of it is what was left but for what it has recorded.
record StillNotOpen (l : LineView) (h after : HostView) : Type 0 where
  pub was : IsNotOpen h.phase
  pub rises : h.heard ≤ after.heard
  pub left : FromLeft l h.records h.left → FromLeft l after.records after.left

as_before : (l : LineView) (h after : HostView) → after ≡ h → IsNotOpen after.phase → StillNotOpen l h after
as_before l h after same not_open = record {
  was = subst (λ (v : HostView). IsNotOpen v.phase) same not_open;
  rises = let still = ap (λ (v : HostView). v.heard) same in omega (arith, still);
  left = λ f. subst (λ (v : HostView). FromLeft l v.records v.left) (sym same) f;
}

told_rises : (h after : HostView) (first : ℕ) (id : List ℕ) → IsToldLate h first id after → h.heard ≤ after.heard
told_rises h after first id (inl (n, number, same)) = let up_to = ap (λ (v : HostView). v.heard) same in let least = number.0 in omega (arith, up_to, least)
told_rises h after first id (inr (none, same)) = let still = ap (λ (v : HostView). v.heard) same in omega (arith, still)

is_open : (phase : Phase) (flight : List InFlight) → phase ≡ Open flight → IsNotOpen phase → ⊥
is_open phase flight is not_open = subst IsNotOpen is not_open

more_gone : (l : LineView) (h : HostView) (printed others : List InFlight) → h.left ≡ printed ++ others → FromLeft l h.records h.left → FromLeft l (h.records ++ receipts_of printed) others
more_gone l h printed others split f = record {
  gone = f.gone ++ printed;
  left_are = f.left_are ∙ ap (λ v. f.gone ++ v) split ∙ sym (append_assoc f.gone printed others);
  records_are = ap (λ v. v ++ receipts_of printed) f.records_are ∙ append_assoc l.host.records (receipts_of f.gone) (receipts_of printed)
      ∙ ap (λ v. l.host.records ++ v) (sym (receipts_join f.gone printed));
}

turned_left : (l : LineView) (h after : HostView) (a : Answer) (e : HostEvent) → Turns h a e after → IsNotOpen after.phase → StillNotOpen l h after
turned_left l h after a heard.None turns not_open = as_before l h after turns.1 not_open
turned_left l h after a heard.Opened (first, n, id, phase, is, opening, same) not_open = absurd (is_open after.phase [] (ap (λ (v : HostView). v.phase) same) not_open)
turned_left l h after a (heard.Recorded number) (id, is, r) not_open = elim r.way [
  | inl (flight, phase, f, same) ↦ absurd (is_open after.phase r.others (ap (λ (v : HostView). v.phase) same) not_open)
  | inr (first, phase, other, f, same) ↦ record {
    was = subst IsNotOpen (sym phase) tt;
    rises = let up_to = ap (λ (v : HostView). v.heard) same in let out = f.is_out in omega (arith, up_to, out);
    left = λ from. subst (λ (v : HostView). FromLeft l v.records v.left) (sym same)
        (more_gone l h (r.before ++ r.last ∷ []) r.others (f.all_are ∙ sym (append_assoc r.before (r.last ∷ []) r.others)) from);
  }
]
turned_left l h after a (heard.Late id) (first, phase, is, other, unleft, late) not_open =
    let t = told h after first id phase late in
    record {
      was = subst IsNotOpen t.phase not_open;
      rises = told_rises h after first id late;
      left = λ f. record { gone = f.gone; left_are = f.left_are ∙ ap (λ v. f.gone ++ v) (sym t.left); records_are = t.records ∙ f.records_are };
    }
turned_left l h after a (heard.Status byte) turns not_open = as_before l h after turns.1 not_open
turned_left l h after a (heard.Condition block) turns not_open = as_before l h after turns.1 not_open
turned_left l h after a (heard.BadAnswer place) turns not_open = absurd turns

-- What stays from answer to answer: the way of the line, what was put out and the next number; these are the last of the answers that were to
-- come; and where the host isn't open, what is left is what was left, but for what is recorded.
pub record Staying (width : ℕ) (l : LineView) (all : List Answer) (phase : Phase) (out : List ℕ) (next heard : ℕ) (records : List (List Command)) (left : List InFlight) (answers : List Answer)
    : Type 0 where
  pub way : InWay width l.printer.sheet l.printer.half l.ended l.live l.printer.waiting phase out next heard records left answers
  pub same : out ≡ l.host.out
  pub same_next : next ≡ l.host.next
  pub before : List Answer
  pub split : all ≡ before ++ answers
  pub was : IsNotOpen phase → IsNotOpen l.host.phase
  pub rose : IsNotOpen phase → l.host.heard ≤ heard
  pub from_left : IsNotOpen phase → FromLeft l records left

-- What is left stands, if the mark of the last one is answered.
late_stands : (width : ℕ) → Laws → (l : LineView) (h : HostView) (id : List ℕ) (others : List Answer) (t : Trusted width l)
    → Staying width l t.on_way.answers h.phase h.out h.next h.heard h.records h.left (answer.Mark id ∷ others) → LateStands width l.printer.sheet h id
late_stands width laws l h id others t s first before last rest opening split out mark =
    let not_open : IsNotOpen h.phase = subst IsNotOpen (sym opening) tt in
    let f = s.from_left not_open in
    let where_is : l.host.left ≡ (f.gone ++ before) ++ last ∷ rest = f.left_are ∙ ap (λ v. f.gone ++ v) split ∙ sym (append_assoc f.gone before (last ∷ rest)) in
    let rose = s.rose not_open in
    let one_is = promised_at width l.host.records (f.gone ++ before) last rest l (subst (λ v. AllPromised width l.host.records v l) where_is (t.left (s.was not_open))) in
    let w = one_is.promise (omega (arith, rose, out)) in
    let one = same_answers laws.answers (l.host.half ++ l.coming) t.on_way.answers w.answers t.on_way.hears w.hears in
    let all : answered_marks (w.answers ++ l.printer.waiting) ≡ answered_marks s.before ++ (id ∷ answered_marks (others ++ l.printer.waiting)) =
    ap (λ v. answered_marks (v ++ l.printer.waiting)) (sym one ∙ s.split) ∙ ap answered_marks (append_assoc s.before (answer.Mark id ∷ others) l.printer.waiting)
    ∙ marks_join s.before (answer.Mark id ∷ (others ++ l.printer.waiting)) in
    let pending : IsIn last.mark (answered_marks (w.answers ++ l.printer.waiting)) =
    subst (IsIn last.mark) (sym all) (in_back last.mark (answered_marks s.before) (id ∷ answered_marks (others ++ l.printer.waiting)) (inl (sym mark))) in
    let records : (l.host.records ++ receipts_of (f.gone ++ before)) ++ last.receipt ∷ [] ≡ h.records ++ receipts_of (before ++ last ∷ []) =
    ap (λ v. (l.host.records ++ v) ++ last.receipt ∷ []) (receipts_join f.gone before)
    ∙ ap (λ v. v ++ last.receipt ∷ []) (sym (append_assoc l.host.records (receipts_of f.gone) (receipts_of before)) ∙ ap (λ v. v ++ receipts_of before) (sym f.records_are))
    ∙ append_assoc h.records (receipts_of before) (last.receipt ∷ []) ∙ ap (λ v. h.records ++ v) (sym (receipts_join before (last ∷ []))) in
    (subst (λ v. Stands width v l.printer.sheet.items) records (w.by.answered pending), subst (λ n. last.number < n) (sym s.same_next) one_is.put, sym one_is.mark ∙ mark)

stands_for : (width : ℕ) → Laws → (l : LineView) (h : HostView) (a : Answer) (others : List Answer) (t : Trusted width l)
    → Staying width l t.on_way.answers h.phase h.out h.next h.heard h.records h.left (a ∷ others) → StandsFor width l.printer.sheet h a
stands_for width laws l h (answer.Mark id) others t s = late_stands width laws l h id others t s
stands_for width laws l h (answer.Status b) others t s = tt
stands_for width laws l h (answer.Condition block) others t s = tt

pub staying : (width : ℕ) → Laws → (l : LineView) (t : Trusted width l) → Turner (Staying width l t.on_way.answers)
staying width laws l known h after a others e up s turns =
    let t = turn_way width laws.numbers l.printer.sheet l.printer.half l.ended l.live l.printer.waiting h after a others e up (stands_for width laws l h a others known s) s.way turns in
    let kept = turned_out h after a e t.on turns in
    record {
      on = t.on;
      up = t.up;
      half = t.half;
      holds = record {
        way = t.holds;
        same = kept.0 ∙ s.same;
        same_next = kept.1 ∙ s.same_next;
        before = s.before ++ a ∷ [];
        split = s.split ∙ sym (append_assoc s.before (a ∷ []) others);
        was = λ not_open. s.was (turned_left l h after a e turns not_open).was;
        rose = λ not_open. let left = turned_left l h after a e turns not_open in let before = s.rose left.was in let more = left.rises in omega (arith, before, more);
        from_left = λ not_open. let left = turned_left l h after a e turns not_open in left.left (s.from_left left.was);
      };
    }

pub goes_first : (width : ℕ) (l : LineView) (k : ℕ) → l.host.phase ≢ Down → (t : Trusted width l) → Goes (Staying width l t.on_way.answers) l.host (take k l.coming ++ drop k l.coming)
goes_first width l k up t = record {
  up = up;
  answers = t.on_way.answers;
  hears = subst (λ v. Hears (l.host.half ++ v) t.on_way.answers []) (sym (take-append-drop k l.coming)) t.on_way.hears;
  holds = record {
    way = t.on_way.way;
    same = refl;
    same_next = refl;
    before = [];
    split = refl;
    was = λ not_open. not_open;
    rose = λ not_open. omega arith;
    from_left = λ not_open. record { gone = []; left_are = refl; records_are = sym (append-nil l.host.records) };
  };
}

-- ## All that is heard

all_heard : (width : ℕ) → Laws → (l : LineView) (k consumed : ℕ) (events : List HostEvent) (host : HostView) → (t : Trusted width l) → l.host.phase ≢ Down
    → HearsInTurn l.host (take k l.coming) events consumed host → Heard (Staying width l t.on_way.answers) host (take k l.coming) (drop k l.coming) consumed events
all_heard width laws l k consumed events host t up hears =
    heard_in_turn (Staying width l t.on_way.answers) laws.answers (staying width laws l t) events l.host host (take k l.coming) (drop k l.coming) consumed (goes_first width l k up t) hears

-- A promise stays.
pub answered_promised : (width : ℕ) → Laws → (l : LineView) (rs : List (List Command)) (p : InFlight) (k consumed : ℕ) (events : List HostEvent) (host : HostView) → IsLine l
    → HearsAll l.host (take k l.coming) events consumed host → Trusted width l → PromisedIn width rs p l
    → PromisedIn width rs p (heard_to (last_of events) l consumed host)
answered_promised width laws l rs p k consumed events host i (inl (is_down, none, all, same)) t w =
    subst (λ es. PromisedIn width rs p (heard_to (last_of es) l consumed host)) (sym none)
    (subst (λ h. PromisedIn width rs p (heard_line l h (drop consumed l.coming))) (sym same)
    (subst (λ bs. PromisedIn width rs p (heard_line l l.host bs)) (sym (drop-nil consumed l.coming (i.quiet is_down)))
    (record { answers = w.answers; hears = w.hears; by = w.by })))
answered_promised width laws l rs p k consumed events host i (inr (up, hears)) t w =
    let r = all_heard width laws l k consumed events host t up hears in
    let rest : drop consumed l.coming ≡ drop k l.coming = ap (λ n. drop n l.coming) r.all ∙ dropped k l.coming in
    let line = heard_line_is (last_of events) l consumed host r.on in
    let one = same_answers laws.answers (l.host.half ++ l.coming) w.answers t.on_way.answers w.hears t.on_way.hears in
    let s = r.goes.holds in
    let marked : answered_marks (w.answers ++ l.printer.waiting) ≡ answered_marks s.before ++ answered_marks (r.goes.answers ++ l.printer.waiting) =
    ap (λ v. answered_marks (v ++ l.printer.waiting)) (one ∙ s.split) ∙ ap answered_marks (append_assoc s.before r.goes.answers l.printer.waiting)
    ∙ marks_join s.before (r.goes.answers ++ l.printer.waiting) in
    subst (PromisedIn width rs p) (sym line) (record {
      answers = r.goes.answers;
      hears = subst (λ v. Hears (host.half ++ v) r.goes.answers []) (sym rest) r.goes.hears;
      by = subst (λ v. PromisedBy width p rs v l.printer.sheet l.printer.half l.ended l.live (answered_marks (r.goes.answers ++ l.printer.waiting))) (sym s.same)
          (fewer_for width p rs l.host.out l.printer.sheet l.printer.half l.ended l.live _ _
          (λ is. subst (IsIn p.mark) (sym marked) (in_back p.mark (answered_marks s.before) (answered_marks (r.goes.answers ++ l.printer.waiting)) is)) w.by);
    })

-- The line is still trusted, and none of the answers ends the host's link.
pub record Answered (width : ℕ) (events : List HostEvent) (after : LineView) : Type 0 where
  pub on : EndsLink (last_of events) → ⊥
  pub trusted : Trusted width after

down_answered : (width : ℕ) → Laws → (l : LineView) (k consumed : ℕ) (events : List HostEvent) (host : HostView) → IsLine l → l.host.phase ≡ Down → host ≡ l.host
    → HearsAll l.host (take k l.coming) events consumed host → heard_to (last_of events) l consumed host ≡ heard_line l host (drop consumed l.coming)
    → Trusted width l → Trusted width (heard_to (last_of events) l consumed host)
down_answered width laws l k consumed events host i is_down same hears line t =
    let quiet : heard_to (last_of events) l consumed host ≡ heard_line l l.host l.coming =
    line ∙ ap (λ h. heard_line l h (drop consumed l.coming)) same ∙ ap (heard_line l l.host) (drop-nil consumed l.coming (i.quiet is_down)) in
    let w = t.on_way in
    subst (Trusted width) (sym quiet) (record {
      on_way = record { answers = w.answers; hears = w.hears; half = w.half; reached = w.reached; way = w.way };
      left = λ not_open. all_on width l.host.records l.host.left l (heard_line l l.host l.coming) (omega arith) (omega arith)
          (λ rs p put mark out promise. record { answers = promise.answers; hears = promise.hears; by = promise.by }) (t.left not_open);
    })

pub answered_trusted : (width : ℕ) → Laws → (l : LineView) (k consumed : ℕ) (events : List HostEvent) (host : HostView) → IsLine l
    → HearsAll l.host (take k l.coming) events consumed host → Trusted width l → Answered width events (heard_to (last_of events) l consumed host)
answered_trusted width laws l k consumed events host i (inl (is_down, none, all, same)) t = record {
  on = λ ends. subst (λ es. EndsLink (last_of es)) none ends;
  trusted = down_answered width laws l k consumed events host i is_down same (inl (is_down, none, all, same)) (heard_line_is (last_of events) l consumed host
      (λ ends. subst (λ es. EndsLink (last_of es)) none ends)) t;
}
answered_trusted width laws l k consumed events host i (inr (up, hears)) t =
    let r = all_heard width laws l k consumed events host t up hears in
    let s = r.goes.holds in
    let rest : drop consumed l.coming ≡ drop k l.coming = ap (λ n. drop n l.coming) r.all ∙ dropped k l.coming in
    let after = heard_line l host (drop consumed l.coming) in
    let line = heard_line_is (last_of events) l consumed host r.on in
    let on : (rs : List (List Command)) (p : InFlight) → PromisedIn width rs p l → PromisedIn width rs p after =
    λ rs p promise. subst (PromisedIn width rs p) line (answered_promised width laws l rs p k consumed events host i (inr (up, hears)) t promise) in
    record {
      on = r.on;
      trusted = subst (Trusted width) (sym line) (record {
        on_way = record {
          answers = r.goes.answers;
          hears = subst (λ v. Hears (host.half ++ v) r.goes.answers []) (sym rest) r.goes.hears;
          half = t.on_way.half;
          reached = t.on_way.reached;
          way = s.way;
        };
        left = λ not_open.
            let f = s.from_left not_open in
            let all = promised_after width l.host.records f.gone host.left l (subst (λ v. AllPromised width l.host.records v l) f.left_are (t.left (s.was not_open))) in
            let same = s.same_next in
            let rose = s.rose not_open in
            all_on width host.records host.left l after (omega (arith, same)) rose (λ rs p put mark out promise. on rs p promise)
            (subst (λ rs. AllPromised width rs host.left l) (sym f.records_are) all);
      });
    }
