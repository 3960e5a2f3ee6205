-- What happens at the printer's end of a wire happens just so where the host's end has been given up, and where more bytes are on their way.
use Rattle.std.proofs.Common.{ℕ, ◌≡◌, ◌≢◌, inl, inr, Option, Some, None, List, [], ◌∷◌, ◌++◌, take, refl, sym, ◌∙◌, ap, subst, append_assoc}
use Rattle.std.specs.Prelude.{true, false, option_to_list}
use Rattle.escpos_command.specs.Answers.{answer_bytes}
use Rattle.escpos_host.specs.Machine.{HostView}
use Rattle.escpos_link.specs.declared.event.Event.{Event}
use Rattle.escpos_link.specs.declared.event.Event.TheVariants as line
use Rattle.escpos_link.specs.declared.event.Handed.{Handed}
use Rattle.escpos_link.specs.declared.event.Handed.TheVariants as handed
use Rattle.escpos_link.specs.declared.event.Note.{Note}
use Rattle.escpos_link.specs.declared.event.Note.TheVariants as note
use Rattle.escpos_link.specs.EventTable.{HandsOver, answers_left, delivered, first_of, left_by, without_first}
use Rattle.escpos_link.specs.Line.{LineView}
use Rattle.escpos_link.specs.Wire.{AfterOnWire, WireView, given_up, line_of, wire_of}
use Rattle.escpos_printer.specs.declared.printer.FeedStop.{FeedStop}
use Rattle.escpos_printer.specs.declared.printer.FeedStop.TheVariants as stop
use Rattle.escpos_printer.specs.Feeds.{Feeds, PrinterView}
use Rattle.escpos_till.specs.Delivers.{fresh}
use Rattle.escpos_till_model.specs.World.{is_printer_event}
use Rattle.escpos_till_model.specs.Around.{GoesOnBy}

abbrev on_wire : PrinterView → List (List ℕ) → Option (List ℕ) → List ℕ → WireView
on_wire p ended live coming = record { printer = p; ended = ended; live = live; coming = coming }

-- The wire after a change of the line, which has some host.
abbrev wire_by : (LineView → LineView) → WireView → WireView
wire_by change w = wire_of (change (line_of (fresh 0 0) w))

-- ## Where the host's end has been given up

first_given_up : (ended : List (List ℕ)) (live : Option (List ℕ)) → first_of (ended ++ option_to_list live) None ≡ first_of ended live
first_given_up [] None = refl
first_given_up [] (Some bytes) = refl
first_given_up (bytes ∷ more) live = refl

left_given_up : (h : HostView) (p : PrinterView) (ended : List (List ℕ)) (live : Option (List ℕ)) (coming : List ℕ)
    → without_first (line_of h (given_up (on_wire p ended live coming))) ≡ line_of h (given_up (wire_by without_first (on_wire p ended live coming)))
left_given_up h p [] None coming = refl
left_given_up h p [] (Some bytes) coming = refl
left_given_up h p (bytes ∷ more) live coming = refl

fed_given_up : (h : HostView) (p new : PrinterView) (ended : List (List ℕ)) (live : Option (List ℕ)) (coming : List ℕ) (count : ℕ)
    → delivered (line_of h (given_up (on_wire p ended live coming))) count new ≡ line_of h (given_up (wire_by (λ l. delivered l count new) (on_wire p ended live coming)))
fed_given_up h p new [] None coming count = refl
fed_given_up h p new [] (Some bytes) coming count = refl
fed_given_up h p new (bytes ∷ more) live coming count = refl

stopped_given_up : (s : FeedStop) (h : HostView) (w : WireView) (new : PrinterView) (count : ℕ)
    → left_by s (delivered (line_of h (given_up w)) count new) ≡ line_of h (given_up (wire_by (λ l. left_by s (delivered l count new)) w))
stopped_given_up stop.All h w new count = fed_given_up h w.printer new w.ended w.live w.coming count
stopped_given_up stop.AnswersFull h w new count = fed_given_up h w.printer new w.ended w.live w.coming count
stopped_given_up stop.Offline h w new count = fed_given_up h w.printer new w.ended w.live w.coming count
stopped_given_up stop.Memory h w new count = fed_given_up h w.printer new w.ended w.live w.coming count
stopped_given_up (stop.Fault at why) h w new count =
    let fed : WireView = wire_by (λ l. delivered l count new) w in
    ap without_first (fed_given_up h w.printer new w.ended w.live w.coming count) ∙ left_given_up h fed.printer fed.ended fed.live fed.coming

some_ended : (ended : List (List ℕ)) (live : Option (List ℕ)) → ended ≢ [] → (ended ++ option_to_list live) ≢ []
some_ended [] live some = absurd (some refl)
some_ended (bytes ∷ more) live some = λ none. cc none

some_live : (live : Option (List ℕ)) → live ≢ None → option_to_list live ≢ []
some_live None some = absurd (some refl)
some_live (Some bytes) some = λ none. cc none

-- What is handed over where the host's end has been given up.
abbrev handed_given_up : Handed → Handed
handed_given_up handed.None = handed.None
handed_given_up handed.Lost = handed.Lost
handed_given_up handed.On = handed.Lost

hands_given_up : (what : Handed) (h : HostView) (w after : WireView) → HandsOver (line_of (fresh 0 0) w) what (line_of (fresh 0 0) after)
    → HandsOver (line_of h (given_up w)) (handed_given_up what) (line_of h (given_up after))
hands_given_up handed.None h w after (inl none, is) = (inl none, ap (λ l. line_of h (given_up (wire_of l))) is)
hands_given_up handed.None h w after (inr (ended, live), is) =
    (inr (ap (λ e. e ++ option_to_list w.live) ended ∙ ap option_to_list live, refl), ap (λ l. line_of h (given_up (wire_of l))) is)
hands_given_up handed.Lost h w after (a, answers, waiting, some, is) =
    (a, answers, waiting, some_ended w.ended w.live some, ap (λ l. line_of h (given_up (wire_of l))) is)
hands_given_up handed.On h w after (a, answers, waiting, none, live, is) =
    (a, answers, waiting, subst (λ e. (e ++ option_to_list w.live) ≢ []) (sym none) (some_live w.live live), ap (λ l. line_of h (given_up (wire_of l))) is)

pub event_given_up : (e : Event) (w after : WireView) (effect : Note) → is_printer_event e ≡ true → AfterOnWire e w effect after
    → (other : Note) × AfterOnWire e (given_up w) other (given_up after)
event_given_up (line.Deliver most) w after effect is happened =
    let (fed, new, told, feeds, well, same) = happened (fresh 0 0) in (
      note.Fed fed,
      λ h. (
        fed,
        new,
        refl,
        subst (λ bytes. Feeds w.printer (take most bytes) fed.consumed fed.stop new) (sym (first_given_up w.ended w.live)) feeds,
        well,
        ap (λ l. line_of h (given_up (wire_of l))) same ∙ sym (stopped_given_up fed.stop h w new fed.consumed),
      ),
    )
event_given_up line.HandOver w after effect is happened =
    let (what, told, hands) = happened (fresh 0 0) in
    (note.Handed (handed_given_up what), λ h. (handed_given_up what, refl, hands_given_up what h w after hands))
event_given_up line.PrinterLeaves w after effect is happened =
    (note.Done, λ h. (refl, ap (λ l. line_of h (given_up (wire_of l))) (happened (fresh 0 0)).1 ∙ sym (left_given_up h w.printer w.ended w.live w.coming)))
event_given_up line.PrinterRestart w after effect is happened =
    let (new, told, restarted, same) = happened (fresh 0 0) in
    (note.Done, λ h. (new, refl, restarted, ap (λ l. line_of h (given_up (wire_of l))) same ∙ sym (left_given_up h new w.ended w.live w.coming)))
event_given_up (line.SetCondition condition) w after effect is happened =
    (note.Done, λ h. (refl, ap (λ l. line_of h (given_up (wire_of l))) (happened (fresh 0 0)).1))
event_given_up line.LinkUp w after effect is happened = absurd (let bad : false ≡ true = is in cc)
event_given_up line.LinkUpReporting w after effect is happened = absurd (let bad : false ≡ true = is in cc)
event_given_up line.Nudge w after effect is happened = absurd (let bad : false ≡ true = is in cc)
event_given_up (line.Submit receipt) w after effect is happened = absurd (let bad : false ≡ true = is in cc)
event_given_up (line.Ask kind) w after effect is happened = absurd (let bad : false ≡ true = is in cc)
event_given_up line.AskReports w after effect is happened = absurd (let bad : false ≡ true = is in cc)
event_given_up (line.Move most) w after effect is happened = absurd (let bad : false ≡ true = is in cc)
event_given_up (line.Answer most) w after effect is happened = absurd (let bad : false ≡ true = is in cc)
event_given_up line.HostDrops w after effect is happened = absurd (let bad : false ≡ true = is in cc)
event_given_up (line.HostRestart first) w after effect is happened = absurd (let bad : false ≡ true = is in cc)

pub goes_on_given_up : (es : List Event) (w after : WireView) → GoesOnBy w es after → GoesOnBy (given_up w) es (given_up after)
goes_on_given_up [] w after same = ap given_up same
goes_on_given_up (e ∷ es) w after (mid, effect, is, happened, more) =
    let (other, so) = event_given_up e w mid effect is happened in
    (given_up mid, other, is, so, goes_on_given_up es mid after more)

-- ## Where more bytes are on their way

abbrev pub with_more : List ℕ → WireView → WireView
with_more bytes w = record { printer = w.printer; ended = w.ended; live = w.live; coming = bytes ++ w.coming }

stopped_with_more : (s : FeedStop) (bytes : List ℕ) (h : HostView) (w : WireView) (new : PrinterView) (count : ℕ)
    → left_by s (delivered (line_of h (with_more bytes w)) count new) ≡ line_of h (with_more bytes (wire_by (λ l. left_by s (delivered l count new)) w))
stopped_with_more stop.All bytes h w new count = refl
stopped_with_more stop.AnswersFull bytes h w new count = refl
stopped_with_more stop.Offline bytes h w new count = refl
stopped_with_more stop.Memory bytes h w new count = refl
stopped_with_more (stop.Fault at why) bytes h w new count = refl

hands_with_more : (what : Handed) (bytes : List ℕ) (h : HostView) (w after : WireView) → HandsOver (line_of (fresh 0 0) w) what (line_of (fresh 0 0) after)
    → HandsOver (line_of h (with_more bytes w)) what (line_of h (with_more bytes after))
hands_with_more handed.None bytes h w after (none, is) = (none, ap (λ l. line_of h (with_more bytes (wire_of l))) is)
hands_with_more handed.Lost bytes h w after (a, answers, waiting, some, is) = (a, answers, waiting, some, ap (λ l. line_of h (with_more bytes (wire_of l))) is)
hands_with_more handed.On bytes h w after (a, answers, waiting, none, live, is) = (
  a,
  answers,
  waiting,
  none,
  live,
  ap (λ l. line_of h (with_more bytes (wire_of l))) is
      ∙ ap (λ c. line_of h (record { printer = answers_left w.printer answers; ended = w.ended; live = w.live; coming = c })) (sym (append_assoc bytes w.coming (answer_bytes a))),
)

pub event_with_more : (e : Event) (bytes : List ℕ) (w after : WireView) (effect : Note) → is_printer_event e ≡ true → AfterOnWire e w effect after
    → (other : Note) × AfterOnWire e (with_more bytes w) other (with_more bytes after)
event_with_more (line.Deliver most) bytes w after effect is happened =
    let (fed, new, told, feeds, well, same) = happened (fresh 0 0) in
    (note.Fed fed, λ h. (fed, new, refl, feeds, well, ap (λ l. line_of h (with_more bytes (wire_of l))) same ∙ sym (stopped_with_more fed.stop bytes h w new fed.consumed)))
event_with_more line.HandOver bytes w after effect is happened =
    let (what, told, hands) = happened (fresh 0 0) in
    (note.Handed what, λ h. (what, refl, hands_with_more what bytes h w after hands))
event_with_more line.PrinterLeaves bytes w after effect is happened = (note.Done, λ h. (refl, ap (λ l. line_of h (with_more bytes (wire_of l))) (happened (fresh 0 0)).1))
event_with_more line.PrinterRestart bytes w after effect is happened =
    let (new, told, restarted, same) = happened (fresh 0 0) in
    (note.Done, λ h. (new, refl, restarted, ap (λ l. line_of h (with_more bytes (wire_of l))) same))
event_with_more (line.SetCondition condition) bytes w after effect is happened =
    (note.Done, λ h. (refl, ap (λ l. line_of h (with_more bytes (wire_of l))) (happened (fresh 0 0)).1))
event_with_more line.LinkUp bytes w after effect is happened = absurd (let bad : false ≡ true = is in cc)
event_with_more line.LinkUpReporting bytes w after effect is happened = absurd (let bad : false ≡ true = is in cc)
event_with_more line.Nudge bytes w after effect is happened = absurd (let bad : false ≡ true = is in cc)
event_with_more (line.Submit receipt) bytes w after effect is happened = absurd (let bad : false ≡ true = is in cc)
event_with_more (line.Ask kind) bytes w after effect is happened = absurd (let bad : false ≡ true = is in cc)
event_with_more line.AskReports bytes w after effect is happened = absurd (let bad : false ≡ true = is in cc)
event_with_more (line.Move most) bytes w after effect is happened = absurd (let bad : false ≡ true = is in cc)
event_with_more (line.Answer most) bytes w after effect is happened = absurd (let bad : false ≡ true = is in cc)
event_with_more line.HostDrops bytes w after effect is happened = absurd (let bad : false ≡ true = is in cc)
event_with_more (line.HostRestart first) bytes w after effect is happened = absurd (let bad : false ≡ true = is in cc)

pub goes_on_with_more : (es : List Event) (bytes : List ℕ) (w after : WireView) → GoesOnBy w es after → GoesOnBy (with_more bytes w) es (with_more bytes after)
goes_on_with_more [] bytes w after same = ap (with_more bytes) same
goes_on_with_more (e ∷ es) bytes w after (mid, effect, is, happened, more) =
    let (other, so) = event_with_more e bytes w mid effect is happened in
    (with_more bytes mid, other, is, so, goes_on_with_more es bytes mid after more)

-- ## One list of events after another

pub goes_on_more : (es fs : List Event) (w mid after : WireView) → GoesOnBy w es mid → GoesOnBy mid fs after → GoesOnBy w (es ++ fs) after
goes_on_more [] fs w mid after same more = subst (λ v. GoesOnBy v fs after) same more
goes_on_more (e ∷ es) fs w mid after (one, effect, is, happened, rest) more = (one, effect, is, happened, goes_on_more es fs one mid after rest more)
