-- What holds for a line holds after any event, and after any refusal.
use Rattle.std.proofs.Common.{◌≡◌, ◌≢◌, List, Result, Ok, Err, IfErr, refl, sym, ◌∙◌, subst}
use Rattle.escpos_command.specs.declared.command.Command.{Command}
use Rattle.escpos_host.specs.Machine.{InFlight, IsOpening, IsSound, Phase, Down, Opening, Open, asked, linked, linked_reporting, nudged, reports_asked, submitted}
use Rattle.escpos_link.specs.declared.event.Event.{Event}
use Rattle.escpos_link.specs.declared.event.Event.TheVariants as event
use Rattle.escpos_link.specs.declared.event.Handed.{Handed}
use Rattle.escpos_link.specs.declared.event.Handed.TheVariants as handed
use Rattle.std.specs.Prelude.{ℕ, ◌≤◌, IfOk, OnOk}
use Rattle.escpos_link.specs.declared.event.Note.{Note}
use Rattle.escpos_link.specs.declared.event.Refused.{Refused}
use Rattle.escpos_link.specs.EventTable.{After, HandsOver, IsRefused, Leaves, conditioned, delivered, restarted, with_host, with_printer}
use Rattle.escpos_link.specs.Line.{IsLine, LineView}
use Rattle.escpos_link.specs.Resumed.{RefusesResume, resumed, resumed_host}
use Rattle.escpos_link.specs.Steps.{Happens}
use Rattle.escpos_link.specs.Trusted.{IsFitting, IsTrusted, StillTrusted, Trusting}
use Rattle.escpos_link.specs.LowerLaws.{LeavesAnswers}
use Rattle.escpos_link.proofs.AfterHearing.{answer_kept}
use Rattle.escpos_link.proofs.Keeping.{AreAnswers, Fitting, Joined, delivered_kept, drop_kept, fed_answers, handed_kept, left_by_kept, moved_kept, off_link_kept, on_its_way_kept, opened_kept, with_host_kept, with_printer_kept, without_first_kept}

-- What the layers below say of answers.
pub record Below : Type 0 where
  pub joined : Joined
  pub leaves : LeavesAnswers
  pub fitting : Fitting

opening_up : (phase : Phase) → IsOpening phase → phase ≢ Down
opening_up Down is e = is
opening_up (Opening first) is e = absurd cc
opening_up (Open flight) is e = is

open_up : (phase : Phase) (flight : List InFlight) → phase ≡ Open flight → phase ≢ Down
open_up phase flight is e = let bad : Open flight ≡ Down = sym is ∙ e in cc

submit_kept : (l : LineView) (flight : List InFlight) (receipt : List Command) → IsLine l → l.host.phase ≡ Open flight
    → IsLine (with_host l (submitted l.host flight receipt))
submit_kept l flight receipt i is =
    with_host_kept l (submitted l.host flight receipt) i refl (λ e. absurd (open_up _ _ refl e)) (λ e. absurd (open_up l.host.phase flight is e))

hand_kept : Below → (l after : LineView) (what : Handed) → IsLine l → HandsOver l what after → IsLine after
hand_kept below l after handed.None i (none, same) = subst IsLine (sym same) i
hand_kept below l after handed.Lost i (a, answers, waits, links, same) = subst IsLine (sym same) (handed_kept l a answers i waits)
hand_kept below l after handed.On i (a, answers, waits, links, live, same) =
    subst IsLine (sym same) (on_its_way_kept below.joined l a answers i waits live)

pub kept : Below → (e : Event) (l after : LineView) (n : Note) → IsSound l.host → IsLine l → After e l n after → IsLine after
kept below event.LinkUp l after n sound i (done, is_down, mark, same) = subst IsLine (sym same) (opened_kept l (linked l.host) i is_down refl refl)
kept below event.LinkUpReporting l after n sound i (done, is_down, mark, same) = subst IsLine (sym same) (opened_kept l (linked_reporting l.host) i is_down refl refl)
kept below event.Nudge l after n sound i (done, opening, mark, same) =
    subst IsLine (sym same) (with_host_kept l (nudged l.host) i refl (λ e. e) (λ e. e))
kept below (event.Submit receipt) l after n sound i (flight, done, is, few, mark, same) = subst IsLine (sym same) (submit_kept l flight receipt i is)
kept below (event.Ask kind) l after n sound i (done, is, same) = subst IsLine (sym same) (with_host_kept l (asked l.host kind) i refl (λ e. e) (λ e. e))
kept below event.AskReports l after n sound i (done, is, same) = subst IsLine (sym same) (with_host_kept l (reports_asked l.host) i refl (λ e. e) (λ e. e))
kept below (event.Move k) l after n sound i (count, note, is, same) = subst IsLine (sym same) (moved_kept l count i)
kept below (event.Deliver k) l after n sound i (fed, printer, note, feeds, memory, same) =
    subst IsLine (sym same)
    (left_by_kept fed.stop (delivered l fed.consumed printer)
    (delivered_kept l fed.consumed printer i (fed_answers below.fitting l.printer printer _ fed.consumed fed.stop i.fitting feeds)))
kept below event.HandOver l after n sound i (what, note, hands) = hand_kept below l after what i hands
kept below (event.Answer k) l after n sound i (events, consumed, host, note, heard, same) =
    subst IsLine (sym same) (answer_kept below.leaves l k consumed events host i heard)
kept below event.PrinterLeaves l after n sound i (done, same) = subst IsLine (sym same) (without_first_kept l i)
kept below event.PrinterRestart l after n sound i (printer, done, restart, same) =
    subst IsLine (sym same) (without_first_kept (with_printer l printer) (with_printer_kept l printer i (subst AreAnswers (sym restart.waiting) tt)))
kept below event.HostDrops l after n sound i (done, same) = subst IsLine (sym same) (drop_kept l i sound)
kept below (event.HostRestart f) l after n sound i (done, least, same) = subst IsLine (sym same) (off_link_kept l (restarted l.host f) i refl refl)
kept below (event.SetCondition condition) l after n sound i (done, same) =
    subst IsLine (sym same)
    (with_printer_kept l (conditioned l.printer condition) i (below.fitting.change l.printer.automatic l.printer.condition condition l.printer.waiting i.fitting))

-- A refusal leaves the line as it was, or as after fewer bytes.
pub left_kept : Below → (e : Event) (l after : LineView) → IsSound l.host → IsLine l → Leaves e l after → IsLine after
left_kept below event.LinkUp l after sound i same = subst IsLine (sym same) i
left_kept below event.LinkUpReporting l after sound i same = subst IsLine (sym same) i
left_kept below event.Nudge l after sound i same = subst IsLine (sym same) i
left_kept below (event.Submit receipt) l after sound i same = subst IsLine (sym same) i
left_kept below (event.Ask kind) l after sound i same = subst IsLine (sym same) i
left_kept below event.AskReports l after sound i same = subst IsLine (sym same) i
left_kept below (event.Move k) l after sound i (fewer, n, less, within, moves) = kept below (event.Move fewer) l after n sound i moves
left_kept below (event.Deliver k) l after sound i (fewer, n, less, feeds, wanted) = kept below (event.Deliver fewer) l after n sound i feeds
left_kept below event.HandOver l after sound i same = subst IsLine (sym same) i
left_kept below (event.Answer k) l after sound i same = subst IsLine (sym same) i
left_kept below event.PrinterLeaves l after sound i same = subst IsLine (sym same) i
left_kept below event.PrinterRestart l after sound i same = subst IsLine (sym same) i
left_kept below event.HostDrops l after sound i same = subst IsLine (sym same) i
left_kept below (event.HostRestart f) l after sound i same = subst IsLine (sym same) i
left_kept below (event.SetCondition condition) l after sound i same = subst IsLine (sym same) i

-- It holds if the host goes on with fewer records.
pub resumed_kept : (l : LineView) (f count : ℕ) → IsLine l → IsLine (resumed l f count)
resumed_kept l f count i = off_link_kept l (resumed_host l.host f count) i refl refl

-- The law of every line.
pub record EveryLine : Type 0 where
  pub kept : (e : Event) (l after : LineView) (n : Note) → IsSound l.host → IsLine l → After e l n after → IsLine after
  pub leaves : (e : Event) (l after : LineView) → IsSound l.host → IsLine l → Leaves e l after → IsLine after
  pub resumes : (l : LineView) (f count : ℕ) → IsLine l → IsLine (resumed l f count)

-- So it holds whatever became of the event.
pub whatever_kept : EveryLine → (e : Event) (l after : LineView) (r : Result Note Refused) → IsSound l.host → IsLine l → IfOk r (λ n. After e l n after)
    → IfErr r (λ refused. IsRefused e l refused after) → IsLine after
whatever_kept law e l after (Ok n) sound i happened refused = law.kept e l after n sound i happened
whatever_kept law e l after (Err why) sound i happened refused = law.leaves e l after sound i refused.line

pub whatever_trusted : Trusting → (e : Event) (l after : LineView) (r : Result Note Refused) → IsFitting e → IsSound l.host → IsLine l
    → IfOk r (λ n. After e l n after) → IfErr r (λ refused. IsRefused e l refused after) → IsTrusted l → StillTrusted l after
whatever_trusted law e l after (Ok n) fits sound i happened refused t = law.kept e l after n fits sound i happened t
whatever_trusted law e l after (Err why) fits sound i happened refused t = law.leaves e l after sound i refused.line t

-- The effect of an event is in turn.
pub happens : Trusting → (e : Event) (l after : LineView) (r : Result Note Refused) → IsLine l → IsTrusted l → IfOk r (λ n. After e l n after)
    → IfOk r (λ n. Happens e l n after)
happens law e l after (Ok n) i t happened = (happened, law.in_turn e l after n i t happened)
happens law e l after (Err why) i t happened = tt

-- ## The host goes on with fewer records

pub resume_kept : EveryLine → (l after : LineView) (f count : ℕ) (r : Result (Unit {0}) Refused) → IsLine l → OnOk r ((l.host.next ≤ f) × (after ≡ resumed l f count))
    → IfErr r (λ refused. RefusesResume l f refused after) → IsLine after
resume_kept law l after f count (Ok done) i on_ok refused = subst IsLine (sym on_ok.1) (law.resumes l f count i)
resume_kept law l after f count (Err why) i on_ok refused = subst IsLine (sym refused.same) i

pub resume_trusted : Trusting → (l after : LineView) (f count : ℕ) (r : Result (Unit {0}) Refused) → OnOk r ((l.host.next ≤ f) × (after ≡ resumed l f count))
    → IfErr r (λ refused. RefusesResume l f refused after) → IsTrusted l → StillTrusted l after
resume_trusted law l after f count (Ok done) on_ok refused t = subst (StillTrusted l) (sym on_ok.1) (law.resumes l f count on_ok.0 t)
resume_trusted law l after f count (Err why) on_ok refused t = subst (StillTrusted l) (sym refused.same) (t, refl)
