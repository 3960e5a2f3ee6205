-- One more receipt is recorded and told; and rounds are calls that were served.
use Rattle.std.proofs.Common.{true, false, ◌≡◌, ℕ, ◌+◌, List, [], ◌∷◌, ◌++◌, length, inl, inr, refl, sym, ◌∙◌, ap, subst, length-append}
use Rattle.std.proofs.KnownBytes.{Appends-trans}
use Rattle.escpos_job_parts.specs.Ending.{Tells}
use Rattle.escpos_job_parts.specs.declared.status.Status.{Status}
use Rattle.escpos_job_parts.specs.declared.status.Status.TheVariants.{Device, Good}
use Rattle.escpos_till.specs.declared.note.TillNote.{TillNote}
use Rattle.escpos_till.specs.declared.note.TillNote.TheVariants as note
use Rattle.escpos_till.specs.Driver.{Deed, ServesAll}
use Rattle.escpos_till.specs.Machine.{MachineView, RefusesDeliver}
use Rattle.escpos_till_jobs.specs.Delivering.{DeliversAndTells, IsSettled, RoundEnds, RoundGoes, Rounds, asked, served_by}
use Rattle.escpos_till_jobs.specs.declared.deliver.Delivery.{Delivery}
use Rattle.escpos_till_jobs.specs.declared.deliver.TheConstants.{MOST_ROUNDS}
use Rattle.escpos_till_jobs.specs.declared.outcome.Outcome.{Outcome}
use Rattle.escpos_till_jobs.specs.declared.outcome.Outcome.TheVariants as outcome
use Rattle.escpos_till_jobs.specs.declared.outcome.TheConstants.{MOST_DEEDS}
use Rattle.escpos_till_jobs.specs.Lines.{failed_line, note_line, note_status, outcome_line, outcome_status, refusal_status, refusal_text}
use Rattle.escpos_till_jobs.specs.Outcomes.{NoteEnds, Settles}
use Rattle.escpos_till_jobs.specs.Outputs.{Output, Took, ended}
use Rattle.escpos_till_jobs.specs.News.{BecomesWith, news_lines}
use Rattle.escpos_till_jobs.proofs.Telling.{took_both}

-- So many receipts are recorded so far, and told.
pub record SoFar {D : Type 0} (did : D → Deed → D → Type 0) (delivery : Delivery) (m : MachineView) (old : D) (before : Output) (now : MachineView) (new : D) (heard : Output) (count : ℕ) : Type 0 where
  pub notes : List TillNote
  pub rounds : Rounds did delivery m old before notes now new heard
  pub counted : length notes ≡ count

pub none_so_far : {D : Type 0} (did : D → Deed → D → Type 0) (delivery : Delivery) (m : MachineView) (old : D) (before : Output) → SoFar did delivery m old before m old before 0
none_so_far did delivery m old before = record { notes = []; rounds = Rounds.none; counted = refl }

pub one_more : {D : Type 0} (did : D → Deed → D → Type 0) (delivery : Delivery) (m : MachineView) (old : D) (before : Output) (mid : MachineView) (between : D) (heard : Output) (after : MachineView) (new : D) (end : Output)
    (count : ℕ) → SoFar did delivery m old before mid between heard count → RoundGoes did delivery mid between heard after new end → SoFar did delivery m old before after new end (count + 1)
one_more did delivery m old before mid between heard after new end count so_far goes = record {
  notes = so_far.notes ++ goes.note ∷ [];
  rounds = Rounds.more so_far.notes mid between heard after new end goes (so_far.notes ++ goes.note ∷ []) so_far.rounds refl;
  counted = length-append so_far.notes (goes.note ∷ []) ∙ ap (λ n. n + 1) so_far.counted;
}

-- ## One round

-- A receipt is recorded, or cancelled, and its line printed after those of the pauses.
pub round_goes : {D : Type 0} (did : D → Deed → D → Type 0) (delivery : Delivery) (m : MachineView) (old : D) (before : Output) (n : TillNote) (after : MachineView) (new : D) (heard end : Output)
    → BecomesWith did (RefusesDeliver m delivery.openings) m old (asked delivery) before (outcome.Told n) true after new heard → Settles n → Took heard (note_line n) end
    → RoundGoes did delivery m old before after new end
round_goes did delivery m old before n after new heard end (serves, tells) settles took =
    record { note = n; settles = settles; serves = serves; told = took_both before heard end (news_lines serves.runs.before) (note_line n) tells took }

tells_after : (a b c : Output) (x y : List ℕ) (status wanted : Status) → Took a x b → Tells (ended b c status) y wanted → Tells (ended a c status) (x ++ y) wanted
tells_after a b c x y status wanted took (inl (is, puts)) = inl (is, Appends-trans a.written b.written c.written x y took.put puts)
tells_after a b c x y status wanted took (inr failed) = inr failed

-- It isn't recorded, or none waits, and the line says so.
pub round_over : {D : Type 0} (did : D → Deed → D → Type 0) (delivery : Delivery) (m : MachineView) (old : D) (before : Output) (o : Outcome) (after : MachineView) (new : D) (heard end : Output) (status : Status)
    → BecomesWith did (RefusesDeliver m delivery.openings) m old (asked delivery) before o true after new heard → (¬ IsSettled o) → Tells (ended heard end status) (outcome_line o) (outcome_status o)
    → RoundEnds did delivery m old before after new end status
round_over did delivery m old before (outcome.Refused why) after new heard end status (refuses, same, stays, heard_is, told) not tells =
    inr (outcome.Refused why, (refuses, same, stays), not, subst (λ o. Tells (ended o end status) (refusal_text why) (refusal_status why)) heard_is tells)
round_over did delivery m old before (outcome.Told n) after new heard end status (serves, told) not tells =
    inr (outcome.Told n, serves, not, tells_after before heard end (news_lines serves.runs.before) (note_line n) status (note_status n) told tells)
round_over did delivery m old before outcome.GivenUp after new heard end status (gives, told) not tells =
    inr (outcome.GivenUp, gives, not, tells_after before heard end (news_lines gives.runs.run.deeds) failed_line status Device told tells)

same_told : (x n : TillNote) → outcome.Told x ≡ outcome.Told n → x ≡ n
same_told x n is = cc is

not_settled : (n : TillNote) → IsSettled (outcome.Told n) → ¬ Settles n → ⊥
not_settled n (x, settles, is) not = not (subst Settles (sym (same_told n x is)) settles)

-- The line of a pause wasn't printed: the output has failed.
pub round_failed : {D : Type 0} (did : D → Deed → D → Type 0) (delivery : Delivery) (m : MachineView) (old : D) (before : Output) (o : Outcome) (after : MachineView) (new : D) (end : Output)
    → BecomesWith did (RefusesDeliver m delivery.openings) m old (asked delivery) before o false after new end → RoundEnds did delivery m old before after new end Device
round_failed did delivery m old before (outcome.Refused why) after new end (refuses, same, stays, heard_is, told) = absurd (let bad : false ≡ true = told in cc)
round_failed did delivery m old before (outcome.Told (note.Recorded number)) after new end (serves, failed) = inl (note.Recorded number, tt, serves, refl, failed)
round_failed did delivery m old before (outcome.Told (note.Queued number)) after new end (serves, failed) =
    inr (outcome.Told (note.Queued number), serves, (λ is. not_settled (note.Queued number) is (λ settles. settles)), inr (refl, failed))
round_failed did delivery m old before (outcome.Told note.Raised) after new end (serves, failed) =
    inr (outcome.Told note.Raised, serves, (λ is. not_settled note.Raised is (λ settles. settles)), inr (refl, failed))
round_failed did delivery m old before (outcome.Told (note.Cancelled number tried)) after new end (serves, failed) = inl (note.Cancelled number tried, tt, serves, refl, failed)
round_failed did delivery m old before (outcome.Told (note.NoLink number)) after new end (serves, failed) =
    inr (outcome.Told (note.NoLink number), serves, (λ is. not_settled (note.NoLink number) is (λ settles. settles)), inr (refl, failed))
round_failed did delivery m old before (outcome.Told (note.Waiting number why)) after new end (serves, failed) =
    inr (outcome.Told (note.Waiting number why), serves, (λ is. not_settled (note.Waiting number why) is (λ settles. settles)), inr (refl, failed))
round_failed did delivery m old before (outcome.Told (note.Paused number why)) after new end (serves, failed) =
    inr (outcome.Told (note.Paused number why), serves, (λ is. not_settled (note.Paused number why) is (λ settles. settles)), inr (refl, failed))
round_failed did delivery m old before (outcome.Told (note.StillPaused number why)) after new end (serves, failed) =
    inr (outcome.Told (note.StillPaused number why), serves, (λ is. not_settled (note.StillPaused number why) is (λ settles. settles)), inr (refl, failed))
round_failed did delivery m old before (outcome.Told (note.NotKept why)) after new end (serves, failed) =
    inr (outcome.Told (note.NotKept why), serves, (λ is. not_settled (note.NotKept why) is (λ settles. settles)), inr (refl, failed))
round_failed did delivery m old before outcome.GivenUp after new end (gives, failed) = inr (outcome.GivenUp, gives, (λ is. let same = is.2 in absurd (cc same)), inr (refl, failed))

-- What its owner is told ends it, but for a receipt that waits no more and whose line is printed.
pub note_ends : {D : Type 0} (did : D → Deed → D → Type 0) (delivery : Delivery) (m : MachineView) (old : D) (before : Output) (n : TillNote) (after : MachineView) (new : D) (heard end : Output)
    (status : Status) → BecomesWith did (RefusesDeliver m delivery.openings) m old (asked delivery) before (outcome.Told n) true after new heard → NoteEnds n (ended heard end status)
    → RoundEnds did delivery m old before after new end status
note_ends did delivery m old before n after new heard end status became ends = elim ends [
  | inl (settles, device, failed) ↦ inl (n, settles, became.0, device, failed)
  | inr (other, tells) ↦ round_over did delivery m old before (outcome.Told n) after new heard end status became (λ settled. not_settled n settled other) tells
]

-- How it ends, after the receipts so far.
pub round_ends : {D : Type 0} (did : D → Deed → D → Type 0) (delivery : Delivery) (m : MachineView) (old : D) (before : Output) (mid : MachineView) (between : D) (heard : Output) (after : MachineView) (new : D) (end : Output)
    (status : Status) (count : ℕ) → SoFar did delivery m old before mid between heard count → RoundEnds did delivery mid between heard after new end status
    → DeliversAndTells did delivery m old before after new end status
round_ends did delivery m old before mid between heard after new end status count so_far ends = record {
  notes = so_far.notes;
  mid = mid;
  between = between;
  heard = heard;
  rounds = so_far.rounds;
  ends = inr ends;
}

-- So many were told of that it ends.
pub at_most : {D : Type 0} (did : D → Deed → D → Type 0) (delivery : Delivery) (m : MachineView) (old : D) (before : Output) (after : MachineView) (new : D) (end : Output) (count : ℕ)
    → SoFar did delivery m old before after new end count → count ≡ MOST_ROUNDS → DeliversAndTells did delivery m old before after new end Good
at_most did delivery m old before after new end count so_far all = record {
  notes = so_far.notes;
  mid = after;
  between = new;
  heard = end;
  rounds = so_far.rounds;
  ends = inl (record { most = so_far.counted ∙ all; machine = refl; around = refl; output = refl; good = refl });
}

-- ## A row of calls

one_more_served : (delivery : Delivery) (notes : List TillNote) (n : TillNote) → served_by delivery (notes ++ n ∷ []) ≡ served_by delivery notes ++ record { call = asked delivery; note = n } ∷ []
one_more_served delivery [] n = refl
one_more_served delivery (x ∷ notes) n = ap (λ rest. record { call = asked delivery; note = x } ∷ rest) (one_more_served delivery notes n)

pub served_all : {D : Type 0} (did : D → Deed → D → Type 0) (delivery : Delivery) (m : MachineView) (old : D) (before : Output) (notes : List TillNote) (mid : MachineView) (between : D) (heard : Output)
    → Rounds did delivery m old before notes mid between heard → ServesAll did MOST_DEEDS m old (served_by delivery notes) mid between
served_all did delivery m old before _ _ _ _ Rounds.none = ServesAll.none
served_all did delivery m old before _ _ _ _ (Rounds.more notes mid between heard after new end goes all rounds is) =
    ServesAll.more (served_by delivery notes) mid between (record { call = asked delivery; note = goes.note }) after new (served_by delivery all)
    (served_all did delivery m old before notes mid between heard rounds) goes.serves (ap (served_by delivery) is ∙ one_more_served delivery notes goes.note)
