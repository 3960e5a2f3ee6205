-- What holds for a line holds after the host has heard bytes that were on their way.
use Rattle.std.proofs.Common.{◌≡◌, ◌≢◌, inl, inr, ℕ, zero, suc, List, [], ◌++◌, length, take, drop, refl, sym, ◌∙◌, ap, subst, take-append-drop}
use Rattle.std.proofs.lemmas.List.{drop_at}
use Rattle.escpos_command.specs.Answers.{AreWholeAnswers}
use Rattle.escpos_host.specs.declared.host.HostEvent.{HostEvent}
use Rattle.escpos_host.specs.declared.host.HostEvent.TheVariants as event
use Rattle.escpos_host.specs.Heard.{EndsLink, HearsAll, last_of}
use Rattle.escpos_host.specs.Machine.{HostView, Down}
use Rattle.escpos_link.specs.LowerLaws.{LeavesAnswers}
use Rattle.escpos_link.specs.EventTable.{heard_to, off_link, with_host}
use Rattle.escpos_link.specs.Line.{IsLine, LineView}
use Rattle.escpos_link.proofs.Keeping.{off_link_kept}

pub dropped : (k : ℕ) (xs : List ℕ) → drop (length (take k xs)) xs ≡ drop k xs
dropped k xs = ap (drop (length (take k xs))) (sym (take-append-drop k xs)) ∙ drop_at (take k xs) (drop k xs) (length (take k xs)) refl

-- The line with fewer bytes on their way.
abbrev pub heard_line : LineView → HostView → List ℕ → LineView
heard_line l host coming = record { host = host; printer = l.printer; ended = l.ended; live = l.live; coming = coming }

heard_line_kept : (l : LineView) (host : HostView) (coming : List ℕ) → IsLine l → l.host.phase ≢ Down → host.phase ≢ Down → AreWholeAnswers (host.half ++ coming) → IsLine (heard_line l host coming)
heard_line_kept l host coming i up still whole = record {
  down = λ e. absurd (still e);
  alone = λ also. i.alone up;
  quiet = λ e. absurd (still e);
  whole = whole;
  fitting = i.fitting;
}

pub heard_line_is : (e : HostEvent) (l : LineView) (consumed : ℕ) (host : HostView) → (EndsLink e → ⊥) → heard_to e l consumed host ≡ heard_line l host (drop consumed l.coming)
heard_line_is event.None l consumed host on = refl
heard_line_is event.Opened l consumed host on = refl
heard_line_is (event.Recorded n) l consumed host on = refl
heard_line_is (event.Status b) l consumed host on = refl
heard_line_is (event.Condition block) l consumed host on = refl
heard_line_is (event.Late id) l consumed host on = refl
heard_line_is (event.BadAnswer at) l consumed host on = absurd (on tt)

pub off_line_is : (e : HostEvent) (l : LineView) (consumed : ℕ) (host : HostView) → EndsLink e → heard_to e l consumed host ≡ off_link (with_host l host)
off_line_is event.None l consumed host ends = absurd ends
off_line_is event.Opened l consumed host ends = absurd ends
off_line_is (event.Recorded n) l consumed host ends = absurd ends
off_line_is (event.Status b) l consumed host ends = absurd ends
off_line_is (event.Condition block) l consumed host ends = absurd ends
off_line_is (event.Late id) l consumed host ends = absurd ends
off_line_is (event.BadAnswer at) l consumed host ends = refl

pub drop-nil : (k : ℕ) (xs : List ℕ) → xs ≡ [] → drop k xs ≡ xs
drop-nil zero xs e = refl
drop-nil (suc k) xs e = ap (drop (suc k)) e ∙ sym e

-- A host that is down has nothing to hear.
down_kept : (l : LineView) (consumed : ℕ) → IsLine l → l.host.phase ≡ Down → IsLine (heard_line l l.host (drop consumed l.coming))
down_kept l consumed i is_down = subst (λ bs. IsLine (heard_line l l.host bs)) (sym (drop-nil consumed l.coming (i.quiet is_down))) i

pub answer_kept : LeavesAnswers → (l : LineView) (k consumed : ℕ) (events : List HostEvent) (host : HostView) → IsLine l
    → HearsAll l.host (take k l.coming) events consumed host → IsLine (heard_to (last_of events) l consumed host)
answer_kept leaves l k consumed events host i (inl (is_down, none, all, same)) =
    subst (λ es. IsLine (heard_to (last_of es) l consumed host)) (sym none)
    (subst (λ h. IsLine (heard_line l h (drop consumed l.coming))) (sym same) (down_kept l consumed i is_down))
answer_kept leaves l k consumed events host i (inr (up, heard)) =
    let whole = subst (λ bs. AreWholeAnswers (l.host.half ++ bs)) (sym (take-append-drop k l.coming)) i.whole in
    elim (leaves l.host host (take k l.coming) (drop k l.coming) events consumed up whole (inr (up, heard))) [
      | inl off ↦ subst IsLine (sym (off_line_is (last_of events) l consumed host off.ends)) (off_link_kept l host i off.phase off.half)
      | inr goes ↦
          let rest : drop consumed l.coming ≡ drop k l.coming = ap (λ n. drop n l.coming) goes.all ∙ dropped k l.coming in
          subst IsLine (sym (heard_line_is (last_of events) l consumed host goes.on))
          (heard_line_kept l host (drop consumed l.coming) i up goes.up (subst (λ bs. AreWholeAnswers (host.half ++ bs)) (sym rest) goes.whole))
    ]
