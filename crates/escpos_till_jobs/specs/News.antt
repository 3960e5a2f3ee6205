-- What is printed while a call goes on: a line for each pause of the printer, and for each receipt that is recorded while the next one is
-- being sent.
use Rattle.std.specs.Prelude.{Bool, true, false, ◌≡◌, ℕ, List, [], ◌∷◌, ◌++◌, IsTrue}
use Rattle.escpos_till.specs.declared.note.TillRefusal.{TillRefusal}
use Rattle.escpos_till.specs.Driver.{Call, Confirms, Deed, GivesUp, Pauses, RanFor, RanTo, Serves}
use Rattle.escpos_till.specs.Machine.{MachineView, SameEntries}
use Rattle.escpos_till_jobs.specs.declared.following.Followed.{Followed}
use Rattle.escpos_till_jobs.specs.declared.outcome.Outcome.{Outcome}
use Rattle.escpos_till_jobs.specs.declared.outcome.Outcome.TheVariants as outcome
use Rattle.escpos_till_jobs.specs.declared.outcome.TheConstants.{MOST_DEEDS}
use Rattle.escpos_till_jobs.specs.Lines.{pause_line, recorded_line}
use Rattle.escpos_till_jobs.specs.Outputs.{Output, Took}

-- The lines of the news among these deeds.
abbrev pub news_lines : List Deed → List ℕ
news_lines [] = []
news_lines (Pauses number why ∷ ds) = pause_line number why ++ news_lines ds
news_lines (Confirms number ∷ ds) = recorded_line number ++ news_lines ds
news_lines (d ∷ ds) = news_lines ds

-- They are all printed, and nothing else; or the output has failed.
abbrev pub TellsNews : Bool → Output → List Deed → Output → Type 0
TellsNews true before ds after = Took before (news_lines ds) after
TellsNews false before ds after = IsTrue after.failed

-- What the machine asked for since a call was done, with its news printed.
abbrev pub FollowsWith : {D : Type 0} → (D → Deed → D → Type 0) → MachineView → D → Output → Outcome → Bool → MachineView → D → Output → Type 0
FollowsWith did asked old before (outcome.Refused why) told after new end = ⊥
FollowsWith did asked old before (outcome.Told n) told after new end = (ran : RanTo did asked old n MOST_DEEDS after new) × TellsNews told before ran.before end
FollowsWith did asked old before outcome.GivenUp told after new end = (ran : RanFor did asked old after new MOST_DEEDS) × TellsNews told before ran.run.deeds end

abbrev pub FollowsTelling : {D : Type 0} → (D → Deed → D → Type 0) → MachineView → D → Output → Followed → MachineView → D → Output → Type 0
FollowsTelling did asked old before f after new end = FollowsWith did asked old before f.outcome f.told after new end

-- This call came to this, with its news printed; `Refuses` says when it is refused.
abbrev pub BecomesWith : {D : Type 0} → (D → Deed → D → Type 0) → (TillRefusal → Type 0) → MachineView → D → Call → Output → Outcome → Bool → MachineView → D → Output → Type 0
BecomesWith did Refuses m old call before (outcome.Refused why) told after new end = Refuses why × SameEntries m after × (new ≡ old) × (end ≡ before) × (told ≡ true)
BecomesWith did Refuses m old call before (outcome.Told n) told after new end = (serves : Serves did m old call n MOST_DEEDS after new) × TellsNews told before serves.runs.before end
BecomesWith did Refuses m old call before outcome.GivenUp told after new end = (gives : GivesUp did m old call MOST_DEEDS after new) × TellsNews told before gives.runs.run.deeds end

abbrev pub BecomesTelling : {D : Type 0} → (D → Deed → D → Type 0) → (TillRefusal → Type 0) → MachineView → D → Call → Output → Followed → MachineView → D → Output → Type 0
BecomesTelling did Refuses m old call before f after new end = BecomesWith did Refuses m old call before f.outcome f.told after new end
