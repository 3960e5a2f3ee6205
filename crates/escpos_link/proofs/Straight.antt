-- A receipt that goes over a line on which nothing is under way: each event in turn, and what the line is then.
use Rattle.std.proofs.Common.{◌≡◌, ◌≢◌, ◌≤◌, inl, inr, ℕ, List, [], ◌∷◌, ◌++◌, length, take, drop, min, Some, refl, sym, ◌∙◌, ap, subst, append-nil, arith, IsTrue}
use Rattle.std.proofs.lemmas.List.{drop_all, take_all}
use Rattle.escpos_command.specs.declared.answer.Answer.{Answer}
use Rattle.escpos_command.specs.declared.answer.Answer.TheVariants as answer
use Rattle.escpos_command.specs.declared.command.Command.{Command}
use Rattle.escpos_command.specs.Answers.{AreWholeAnswers, answer_bytes, is_answer, spell_answers}
use Rattle.escpos_command.specs.CommandTable.{spell}
use Rattle.escpos_printer.specs.declared.printer.FeedStop.{FeedStop}
use Rattle.escpos_printer.specs.declared.printer.FeedStop.TheVariants as stop
use Rattle.escpos_printer.specs.Feeds.{Feeds, PrinterView, Took}
use Rattle.escpos_printer.specs.ReadyFor.{IsReadyFor}
use Rattle.escpos_printer.specs.Blocks.{with_one_block}
use Rattle.escpos_printer.specs.Replies.{replies}
use Rattle.escpos_host.specs.declared.host.HostEvent.{HostEvent}
use Rattle.escpos_host.specs.Heard.{EndsLink, HearsAll, Turns, last_of}
use Rattle.escpos_host.specs.Machine.{HostView, Down}
use Rattle.escpos_link.specs.declared.event.Event.TheVariants as event
use Rattle.escpos_link.specs.declared.event.Handed.{Handed}
use Rattle.escpos_link.specs.declared.event.Handed.TheVariants as handed
use Rattle.escpos_link.specs.EventTable.{After, HandsOver, answers_left, delivered, heard_to, left_by, moved, on_its_way}
use Rattle.escpos_link.specs.Line.{LineView}
use Rattle.escpos_link.specs.Steps.{Happened}
use Rattle.escpos_link.specs.Straight.{all_bytes, exchange}
use Rattle.escpos_link.specs.LowerLaws.{Laws}
use Rattle.escpos_link.proofs.AfterHearing.{heard_line_is}

-- A line with one live link and nothing else between its ends.
abbrev pub plain_line : HostView → PrinterView → List ℕ → List ℕ → LineView
plain_line host printer bytes coming = record { host = host; printer = printer; ended = []; live = Some bytes; coming = coming }

-- The host has put these commands out, of which the printer answers the mark, and its one link is empty.
pub record Loaded (l : LineView) (cs : List Command) (id : List ℕ) : Type 0 where
  pub line : l ≡ plain_line l.host l.printer [] []
  pub up : l.host.phase ≢ Down
  pub half : l.host.half ≡ []
  pub out : l.host.out ≡ spell cs
  pub few : length (spell cs) ≤ all_bytes
  pub ready : IsReadyFor l.printer cs
  pub none : l.printer.waiting ≡ []
  pub reply : replies l.printer.condition cs ≡ answer.Mark id ∷ []
  pub known : IsTrue (is_answer (answer.Mark id))
  pub short : length (answer_bytes (answer.Mark id)) ≤ all_bytes

-- The host once all is taken out.
abbrev pub emptied : HostView → HostView
emptied h = record { phase = h.phase; out = []; half = h.half; next = h.next; heard = h.heard; records = h.records; left = h.left }

-- What the answer to the mark does to the host.
abbrev pub Expects : HostView → List ℕ → HostView → Type 0
Expects h id expected = (e : HostEvent) (after : HostView) → Turns h (answer.Mark id) e after → (EndsLink e → ⊥) × (after ≡ expected)

-- ## The events of an exchange

moved_all : (l m : LineView) (cs : List Command) (id : List ℕ) (count : ℕ) → Loaded l cs id → count ≡ min all_bytes (length l.host.out) → m ≡ moved l count
    → m ≡ plain_line (emptied l.host) l.printer (spell cs) []
moved_all l m cs id count loaded is_count same =
    let whole : count ≡ length (spell cs) = omega (arith, is_count, ap length loaded.out, loaded.few) in
    let front : take count l.host.out ≡ spell cs = ap (take count) loaded.out ∙ take_all count (spell cs) (omega (arith, whole)) in
    let gone : drop count l.host.out ≡ [] = drop_all count l.host.out (omega (arith, whole, ap length loaded.out)) in
    same ∙ ap (λ v. moved v count) loaded.line
    ∙ ap (λ out. plain_line (record { phase = l.host.phase; out = out; half = l.host.half; next = l.host.next; heard = l.host.heard; records = l.host.records; left = l.host.left }) l.printer (take count l.host.out) []) gone
    ∙ ap (λ bytes. plain_line (emptied l.host) l.printer bytes []) front

-- The printer after it has taken the commands.
pub record Fed (l : LineView) (cs : List Command) (id : List ℕ) (m : LineView) : Type 0 where
  pub printer : PrinterView
  pub line : m ≡ plain_line (emptied l.host) printer [] []
  pub took : Took l.printer (spell cs) cs printer
  pub half : printer.half ≡ []
  pub waits : printer.waiting ≡ answer.Mark id ∷ []

fed_line : (h : HostView) (p : PrinterView) (bytes : List ℕ) (k : ℕ) (why : FeedStop) → why ≡ stop.All → k ≡ length bytes
    → left_by why (delivered (plain_line h p bytes []) k p) ≡ plain_line h p [] []
fed_line h p bytes k why all count =
    ap (λ w. left_by w (delivered (plain_line h p bytes []) k p)) all ∙ ap (λ rest. plain_line h p rest []) (drop_all k bytes (omega (arith, count)))

fed_all : Laws → (l m : LineView) (cs : List Command) (id : List ℕ) (printer : PrinterView) (k : ℕ) (why : FeedStop) → Loaded l cs id
    → Feeds l.printer (take all_bytes (spell cs)) k why printer → why ≢ stop.Memory
    → m ≡ left_by why (delivered (plain_line (emptied l.host) printer (spell cs) []) k printer) → Fed l cs id m
fed_all laws l m cs id printer k why loaded feeds memory same =
    let fed = subst (λ bs. Feeds l.printer bs k why printer) (take_all all_bytes (spell cs) loaded.few) feeds in
    elim (laws.whole_commands l.printer printer cs k why loaded.ready fed) [
      | inl refused ↦ absurd (memory refused)
      | inr (all, count, took, half) ↦ record {
        printer = printer;
        line = same ∙ fed_line (emptied l.host) printer (spell cs) k why all count;
        took = took;
        half = half;
        waits = took.answers ∙ ap with_one_block (ap (λ v. v ++ replies l.printer.condition cs) loaded.none ∙ loaded.reply);
      }
    ]

handed_on : (h : HostView) (p : PrinterView) (id : List ℕ) (what : Handed) (m : LineView) → p.waiting ≡ answer.Mark id ∷ [] → HandsOver (plain_line h p [] []) what m
    → m ≡ plain_line h (answers_left p []) [] (answer_bytes (answer.Mark id))
handed_on h p id handed.None m waits (inl none, same) = let bad : answer.Mark id ∷ [] ≡ [] = sym waits ∙ none in absurd cc
handed_on h p id handed.None m waits (inr (no_ended, no_live), same) = absurd (cc no_live)
handed_on h p id handed.Lost m waits (a, answers, first, links, same) = absurd (links refl)
handed_on h p id handed.On m waits (a, answers, first, ended, live, same) =
    let is : a ∷ answers ≡ answer.Mark id ∷ [] = sym first ∙ waits in
    let one : a ≡ answer.Mark id = cc is in
    let others : answers ≡ [] = cc is in
    same ∙ ap (λ rest. on_its_way (plain_line h p [] []) a rest) others ∙ ap (λ b. on_its_way (plain_line h p [] []) b []) one

-- What an exchange leaves: the host as it is after the answer, the printer with these commands taken, and nothing between them.
pub record Exchanged (l : LineView) (cs : List Command) (expected : HostView) (after : LineView) : Type 0 where
  pub printer : PrinterView
  pub line : after ≡ plain_line expected (answers_left printer []) [] []
  pub took : Took l.printer (spell cs) cs printer
  pub half : printer.half ≡ []

one_whole : (a : Answer) → IsTrue (is_answer a) → AreWholeAnswers (answer_bytes a ++ [])
one_whole a known = (
  a ∷ [],
  record {
    in_range = (known, tt);
    whole = append-nil (answer_bytes a) ∙ sym (append-nil (spell_answers (a ∷ [])) ∙ append-nil (answer_bytes a));
    rest_is = inl refl;
  },
)

heard_all : Laws → (h host expected : HostView) (p : PrinterView) (id : List ℕ) (events : List HostEvent) (consumed : ℕ) → h.phase ≢ Down → h.half ≡ []
    → IsTrue (is_answer (answer.Mark id)) → Expects h id expected → HearsAll h (answer_bytes (answer.Mark id)) events consumed host
    → heard_to (last_of events) (plain_line h p [] (answer_bytes (answer.Mark id))) consumed host ≡ plain_line expected p [] []
heard_all laws h host expected p id events consumed up half known expects hears =
    let bytes = answer_bytes (answer.Mark id) in
    let turn = laws.one_answer h host (answer.Mark id) events consumed up half known hears in
    let told = expects (last_of events) host turn in
    let whole = subst (λ x. AreWholeAnswers (x ++ (bytes ++ []))) (sym half) (one_whole (answer.Mark id) known) in
    elim (laws.leaves h host bytes [] events consumed up whole hears) [
      | inl off ↦ absurd (told.0 off.ends)
      | inr goes ↦
          heard_line_is (last_of events) (plain_line h p [] bytes) consumed host told.0
          ∙ ap (λ rest. plain_line host p [] rest) (drop_all consumed bytes (omega (arith, goes.all)))
          ∙ ap (λ v. plain_line v p [] []) told.1
    ]

pub exchanged : Laws → (l after : LineView) (cs : List Command) (id : List ℕ) (expected : HostView) → Loaded l cs id → Expects (emptied l.host) id expected
    → Happened l exchange after → Exchanged l cs expected after
exchanged laws l after cs id expected loaded expects (n1, l1, ((count, note1, is_count, same1), turn1), (n2, l2, (fed_step, turn2), (n3, l3, (hand_step, turn3), (n4, l4, (answer_step, turn4), last)))) =
    let one = moved_all l l1 cs id count loaded is_count same1 in
    let d = subst (λ v. After (event.Deliver all_bytes) v n2 l2) one fed_step in
    let fed = fed_all laws l l2 cs id d.1 d.0.consumed d.0.stop loaded d.3 d.4 d.5 in
    let h = subst (λ v. After event.HandOver v n3 l3) fed.line hand_step in
    let three = handed_on (emptied l.host) fed.printer id h.0 l3 fed.waits h.2 in
    let a = subst (λ v. After (event.Answer all_bytes) v n4 l4) three answer_step in
    let bytes = answer_bytes (answer.Mark id) in
    let hears = subst (λ bs. HearsAll (emptied l.host) bs a.0 a.1 a.2) (take_all all_bytes bytes loaded.short) a.4 in
    record {
      printer = fed.printer;
      line = last ∙ a.5 ∙ heard_all laws (emptied l.host) a.2 expected (answers_left fed.printer []) id a.0 a.1 loaded.up loaded.half loaded.known expects hears;
      took = fed.took;
      half = fed.half;
    }
