-- What happens at the printer's end of a line in memory, which goes on by itself.
use Rattle.std.proofs.Common.{ℕ, ◌≡◌, Option, None, List, [], ◌∷◌, ◌++◌, refl, ◌∙◌, ap, Result, Ok, Err, IfOk, IfErr}
use Rattle.std.specs.Prelude.{true, false, drop, option_map}
use Rattle.escpos_link.specs.declared.event.Event.{Event}
use Rattle.escpos_link.specs.declared.event.Event.TheVariants as line
use Rattle.escpos_link.specs.declared.event.Handed.{Handed}
use Rattle.escpos_link.specs.declared.event.Handed.TheVariants as handed
use Rattle.escpos_link.specs.declared.event.Note.{Note}
use Rattle.escpos_link.specs.declared.event.Refused.{Refused}
use Rattle.escpos_link.specs.EventTable.{HandsOver, delivered, left_by, live_fed, live_left}
use Rattle.escpos_link.specs.Line.{LineView}
use Rattle.escpos_link.specs.Wire.{AfterOnWire, IsRefusedOnWire, WireView, line_of, wire_of}
use Rattle.escpos_printer.specs.declared.printer.FeedStop.{FeedStop}
use Rattle.escpos_printer.specs.declared.printer.FeedStop.TheVariants as stop
use Rattle.escpos_till.specs.Delivers.{fresh}
use Rattle.escpos_till_model.specs.Around.{GoesOnBy}
use Rattle.escpos_till_model.specs.World.{World, is_printer_event}
use Rattle.escpos_till_model.proofs.TillHappens.{fed_fewer}
use Rattle.escpos_till_model.proofs.WireEvents.{goes_on_more}

-- ## One thing after another

-- This happened at its end, or nothing did.
abbrev pub GoesOn : WireView → WireView → Type 0
GoesOn w after = (events : List Event) × GoesOnBy w events after

pub stays_so : (w : WireView) → GoesOn w w
stays_so w = ([], refl)

pub one_event : (e : Event) (w after : WireView) (effect : Note) → is_printer_event e ≡ true → AfterOnWire e w effect after → GoesOn w after
one_event e w after effect at happened = (e ∷ [], (after, effect, at, happened, refl))

pub then_on : (w mid after : WireView) → GoesOn w mid → GoesOn mid after → GoesOn w after
then_on w mid after (es, first) (fs, later) = (es ++ fs, goes_on_more es fs w mid after first later)

-- It was fed, or fewer bytes were.
pub fed_so : (most : ℕ) (w after : WireView) (r : Result Note Refused) → IfOk r (λ n. AfterOnWire (line.Deliver most) w n after) → IfErr r (λ refused. IsRefusedOnWire (line.Deliver most) w refused after) → GoesOn w after
fed_so most w after (Ok n) happened refused = one_event (line.Deliver most) w after n refl happened
fed_so most w after (Err f) happened refused =
    let world : World = record { machine = None; kept = []; wire = w; told = [] } in
    let (fewer, less, goes) = fed_fewer world most f after refused in
    (line.Deliver fewer ∷ [], (goes.wire, goes.effect, refl, goes.happened, ap (λ v. v.wire) goes.is))

-- It handed an answer over, or kept it.
pub handed_so : (w after : WireView) (r : Result Note Refused) → IfOk r (λ n. AfterOnWire line.HandOver w n after) → IfErr r (λ refused. IsRefusedOnWire line.HandOver w refused after) → GoesOn w after
handed_so w after (Ok n) happened refused = one_event line.HandOver w after n refl happened
handed_so w after (Err f) happened refused = ([], ap wire_of (refused (fresh 0 0)).line)

-- ## Where there is no live link, none comes at the printer's end

left_none : (ended : List (List ℕ)) (live : Option (List ℕ)) → live ≡ None → live_left ended live ≡ None
left_none [] live none = refl
left_none (bytes ∷ others) live none = none

fed_none : (ended : List (List ℕ)) (live : Option (List ℕ)) (k : ℕ) → live ≡ None → live_fed ended live k ≡ None
fed_none [] live k none = ap (option_map (drop k)) none
fed_none (bytes ∷ others) live k none = none

stopped_none : (s : FeedStop) (l : LineView) → l.live ≡ None → (left_by s l).live ≡ None
stopped_none stop.All l none = none
stopped_none stop.AnswersFull l none = none
stopped_none stop.Offline l none = none
stopped_none stop.Memory l none = none
stopped_none (stop.Fault at why) l none = left_none l.ended l.live none

handed_none : (what : Handed) (w after : WireView) → HandsOver (line_of (fresh 0 0) w) what (line_of (fresh 0 0) after) → w.live ≡ None → after.live ≡ None
handed_none handed.None w after (why, is) none = ap (λ l. l.live) is ∙ none
handed_none handed.Lost w after (a, answers, waiting, some, is) none = ap (λ l. l.live) is ∙ none
handed_none handed.On w after (a, answers, waiting, ended, live, is) none = ap (λ l. l.live) is ∙ none

event_none : (e : Event) (w after : WireView) (effect : Note) → is_printer_event e ≡ true → AfterOnWire e w effect after → w.live ≡ None → after.live ≡ None
event_none (line.Deliver most) w after effect is happened none =
    let (fed, new, told, feeds, well, same) = happened (fresh 0 0) in
    ap (λ l. l.live) same ∙ stopped_none fed.stop (delivered (line_of (fresh 0 0) w) fed.consumed new) (fed_none w.ended w.live fed.consumed none)
event_none line.HandOver w after effect is happened none =
    let (what, told, hands) = happened (fresh 0 0) in
    handed_none what w after hands none
event_none line.PrinterLeaves w after effect is happened none = ap (λ l. l.live) (happened (fresh 0 0)).1 ∙ left_none w.ended w.live none
event_none line.PrinterRestart w after effect is happened none =
    let (new, told, restarted, same) = happened (fresh 0 0) in
    ap (λ l. l.live) same ∙ left_none w.ended w.live none
event_none (line.SetCondition condition) w after effect is happened none = ap (λ l. l.live) (happened (fresh 0 0)).1 ∙ none
event_none line.LinkUp w after effect is happened none = absurd (let bad : false ≡ true = is in cc)
event_none line.LinkUpReporting w after effect is happened none = absurd (let bad : false ≡ true = is in cc)
event_none line.Nudge w after effect is happened none = absurd (let bad : false ≡ true = is in cc)
event_none (line.Submit receipt) w after effect is happened none = absurd (let bad : false ≡ true = is in cc)
event_none (line.Ask kind) w after effect is happened none = absurd (let bad : false ≡ true = is in cc)
event_none line.AskReports w after effect is happened none = absurd (let bad : false ≡ true = is in cc)
event_none (line.Move most) w after effect is happened none = absurd (let bad : false ≡ true = is in cc)
event_none (line.Answer most) w after effect is happened none = absurd (let bad : false ≡ true = is in cc)
event_none line.HostDrops w after effect is happened none = absurd (let bad : false ≡ true = is in cc)
event_none (line.HostRestart first) w after effect is happened none = absurd (let bad : false ≡ true = is in cc)

none_by : (es : List Event) (w after : WireView) → GoesOnBy w es after → w.live ≡ None → after.live ≡ None
none_by [] w after same none = ap (λ v. v.live) same ∙ none
none_by (e ∷ es) w after (mid, effect, is, happened, more) none = none_by es mid after more (event_none e w mid effect is happened none)

pub none_on : (w after : WireView) → GoesOn w after → w.live ≡ None → after.live ≡ None
none_on w after (es, goes) none = none_by es w after goes none
