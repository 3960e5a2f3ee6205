-- What happens to a wire, for the host at its end.
use Rattle.std.proofs.Common.{◌≡◌, ◌≢◌, ◌≤◌, inl, inr, ℕ, List, [], ◌∷◌, ◌++◌, take, Option, Some, None, Result, Ok, Err, IfErr, refl, sym, ap, subst, arith}
use Rattle.std.specs.Prelude.{IfOk}
use Rattle.escpos_command.specs.declared.command.Command.{Command}
use Rattle.escpos_command.specs.Answers.{AreWholeAnswers, Hears}
use Rattle.escpos_paper.specs.Page.{Sheet}
use Rattle.escpos_host.specs.declared.host.HostEvent.{HostEvent}
use Rattle.escpos_host.specs.declared.host.HostEvent.TheVariants as heard
use Rattle.escpos_host.specs.Heard.{EndsLink, HearsAll, last_of}
use Rattle.escpos_host.specs.Machine.{HostView, Phase, Down, Opening, Open, gone_down}
use Rattle.escpos_link.specs.declared.event.Event.{Event}
use Rattle.escpos_link.specs.declared.event.Event.TheVariants as event
use Rattle.escpos_link.specs.declared.event.Note.{Note}
use Rattle.escpos_link.specs.declared.event.Note.TheVariants as note
use Rattle.escpos_link.specs.declared.event.Refused.{Refused}
use Rattle.escpos_link.specs.EventTable.{After, IsRefused, hung_up, told_at}
use Rattle.escpos_link.specs.Line.{IsLine, LineView}
use Rattle.escpos_link.specs.Trusted.{IsTrusted, StillTrusted}
use Rattle.escpos_link.specs.Ways.{Fresh, IsRest, Way}
use Rattle.escpos_link.specs.Wire.{AfterOnWire, IsRefusedOnWire, WireView, given_up, heard_from, line_of, with_link}
use Rattle.escpos_link.proofs.AfterHearing.{heard_line_is, off_line_is}
use Rattle.escpos_link.proofs.Hearing.{all_on}
use Rattle.escpos_link.proofs.Links.{given_add, newest_next}
use Rattle.escpos_link.proofs.PromisedEvents.{idle_promised}

-- ## An event at the printer's end, for the line of this host

pub happened_seen : (e f : Event) (host : HostView) (w after : WireView) (l : LineView) (r : Result Note Refused) → e ≡ f → line_of host w ≡ l → IfOk r (λ n. AfterOnWire f w n after)
    → IfOk r (λ n. After e l n (line_of host after))
happened_seen e f host w after l (Ok n) is seen happened =
    subst (λ v. After v l n (line_of host after)) (sym is) (subst (λ v. After f v n (line_of host after)) seen (happened host))
happened_seen e f host w after l (Err why) is seen happened = tt

pub refused_seen : (e f : Event) (host : HostView) (w after : WireView) (l : LineView) (r : Result Note Refused) → e ≡ f → line_of host w ≡ l
    → IfErr r (λ why. IsRefusedOnWire f w why after) → IfErr r (λ why. IsRefused e l why (line_of host after))
refused_seen e f host w after l (Ok n) is seen refused = tt
refused_seen e f host w after l (Err why) is seen refused =
    subst (λ v. IsRefused v l why (line_of host after)) (sym is) (subst (λ v. IsRefused f v why (line_of host after)) seen (refused host))

pub done_seen : (e f : Event) (host : HostView) (w after : WireView) (l : LineView) → e ≡ f → line_of host w ≡ l → AfterOnWire f w note.Done after
    → After e l note.Done (line_of host after)
done_seen e f host w after l is seen happened =
    subst (λ v. After v l note.Done (line_of host after)) (sym is) (subst (λ v. After f v note.Done (line_of host after)) seen (happened host))

-- ## What the host does

told_on : (e : HostEvent) (consumed : ℕ) → (EndsLink e → ⊥) → e ≡ told_at e consumed
told_on heard.None consumed on = refl
told_on heard.Opened consumed on = refl
told_on (heard.Recorded number) consumed on = refl
told_on (heard.Status byte) consumed on = refl
told_on (heard.Condition block) consumed on = refl
told_on (heard.Late id) consumed on = refl
told_on (heard.BadAnswer at) consumed on = absurd (on tt)

pub told_bad : (e : HostEvent) (consumed : ℕ) → EndsLink e → (at : ℕ) × (note.Heard consumed (told_at e consumed) ≡ note.Heard consumed (heard.BadAnswer at))
told_bad heard.None consumed ends = absurd ends
told_bad heard.Opened consumed ends = absurd ends
told_bad (heard.Recorded number) consumed ends = absurd ends
told_bad (heard.Status byte) consumed ends = absurd ends
told_bad (heard.Condition block) consumed ends = absurd ends
told_bad (heard.Late id) consumed ends = absurd ends
told_bad (heard.BadAnswer at) consumed ends = (consumed, refl)

pub heard_on : (h after : HostView) (w : WireView) (most consumed : ℕ) (events : List HostEvent) → HearsAll h (take most w.coming) events consumed after → (EndsLink (last_of events) → ⊥)
    → After (event.Answer most) (line_of h w) (note.Heard consumed (last_of events)) (line_of after (heard_from w consumed))
heard_on h after w most consumed events hears on =
    (events, consumed, after, ap (note.Heard consumed) (told_on (last_of events) consumed on), hears, sym (heard_line_is (last_of events) (line_of h w) consumed after on))

pub cut_off : (h after : HostView) (w : WireView) (most consumed : ℕ) (events : List HostEvent) → HearsAll h (take most w.coming) events consumed after → EndsLink (last_of events)
    → After (event.Answer most) (line_of h w) (note.Heard consumed (told_at (last_of events) consumed)) (line_of after (given_up w))
cut_off h after w most consumed events hears ends =
    (events, consumed, after, refl, hears, sym (off_line_is (last_of events) (line_of h w) consumed after ends))

hung_up_is : (phase : Phase) (h after : HostView) → (phase ≢ Down → after ≡ gone_down h) → (phase ≡ Down → after ≡ h) → after ≡ hung_up phase h
hung_up_is Down h after up down = down refl
hung_up_is (Opening first) h after up down = up (λ is_down. cc is_down)
hung_up_is (Open flight) h after up down = up (λ is_down. cc is_down)

pub hung_up_by : (h after : HostView) (w : WireView) → (h.phase ≢ Down → after ≡ gone_down h) → (h.phase ≡ Down → after ≡ h)
    → After event.HostDrops (line_of h w) note.Done (line_of after (given_up w))
hung_up_by h after w up down = (refl, ap (λ v. line_of v (given_up w)) (hung_up_is h.phase h after up down))

-- ## A link that is given up with nothing on it

nothing_put : (n : ℕ) → Fresh n n []
nothing_put n = let same : n ≤ n = omega arith in ([], tt, same, refl)

idle_way : (width : ℕ) (phase : Phase) (out : List ℕ) (next heard : ℕ) (records : List (List Command)) (sheet : Sheet) (half : List ℕ) (ended : List (List ℕ))
    (live : Option (List ℕ)) (pending : List (List ℕ)) → live ≡ None → phase ≡ Down → IsRest half → Way width phase out next heard records sheet half ended live pending
    → Way width phase out next heard records sheet half (ended ++ [] ∷ []) None pending
idle_way width phase out next heard records sheet half ended (Some bytes) pending none is_down rest w = absurd (cc none)
idle_way width phase out next heard records sheet half ended None pending none is_down rest (inl w) = absurd (w.up is_down)
idle_way width phase out next heard records sheet half ended None pending none is_down rest (inr w) =
    inr (record {
      down = w.down;
      stands = w.stands;
      reach = w.reach;
      end = w.end;
      within = w.within;
      known = w.known;
      given_up = given_add w.reach w.end w.end half ended [] [] w.given_up (newest_next w.end w.end half ended [] rest (nothing_put w.end));
    })

pub idle_trusted : (h : HostView) (w : WireView) → h.phase ≡ Down → IsLine (line_of h w) → IsTrusted (line_of h w)
    → StillTrusted (line_of h w) (line_of h (given_up (with_link w)))
idle_trusted h w is_down i trusted =
    let t = trusted.on_way in (
      record {
        on_way = record {
          answers = t.answers;
          hears = subst (λ v. Hears (h.half ++ v) t.answers []) (i.quiet is_down) t.hears;
          half = t.half;
          reached = t.reached;
          way = idle_way w.printer.sheet.line_dots h.phase h.out h.next h.heard h.records w.printer.sheet w.printer.half w.ended w.live _ (i.down is_down) is_down t.half t.way;
        };
        left = λ not_open. all_on w.printer.sheet.line_dots h.records h.left (line_of h w) (line_of h (given_up (with_link w))) (omega arith) (omega arith)
            (λ rs p put mark out promise. idle_promised h w rs p is_down i t promise) (trusted.left not_open);
      },
      refl,
    )

pub idle_kept : (h : HostView) (w : WireView) → h.phase ≡ Down → IsLine (line_of h w) → IsLine (line_of h (given_up (with_link w)))
idle_kept h w is_down i = record {
  down = λ e. refl;
  alone = λ up. absurd (up is_down);
  quiet = λ e. refl;
  whole = subst (λ v. AreWholeAnswers (h.half ++ v)) (i.quiet is_down) i.whole;
  fitting = i.fitting;
}
