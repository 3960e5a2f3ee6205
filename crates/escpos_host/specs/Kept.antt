-- What a host keeps, and what it means. Only private clauses, invariants and proofs use these definitions.
use Rattle.std.specs.Prelude.{ℕ, ◌≡◌, ◌+◌, ◌<◌, ◌≤◌, ◌⊎◌, List, [], ◌∷◌, length, take, drop, slice_index}
use Rattle.std.specs.List.{AllByRecursion}
use Rattle.escpos_command.specs.declared.command.Command.{Command}
use Rattle.escpos_host.specs.Counted.{id_of}
use Rattle.escpos_host.specs.declared.host.Stage.{Stage}
use Rattle.escpos_host.specs.declared.host.Stage.TheVariants as stage
use Rattle.escpos_host.specs.Machine.{HostView, InFlight, Phase, Down, Opening, Open, closed_by, number_limit}
use Rattle.escpos_host.specs.Out.{Pending, Within, unsent}

-- Receipts with the numbers of their closing marks.
abbrev pub pairs : List (List Command) → List ℕ → List InFlight
pairs (r ∷ rs) (n ∷ ns) = closed_by r n ∷ pairs rs ns
pairs rs ns = []

abbrev pub phase_of : Stage → List (List Command) → List ℕ → Phase
phase_of stage.Down rs marks = Down
phase_of (stage.Opening first) rs marks = Opening first
phase_of stage.Open rs marks = Open (pairs rs marks)

-- The receipts of a host are those that are recorded, then those that are in flight, then those that are left. The first two
-- were or are to be put on its link.
abbrev pub put_of : List (List Command) → ℕ → List ℕ → List (List Command)
put_of receipts recorded marks = take (recorded + length marks) receipts

abbrev pub view_of : Stage → List (List Command) → ℕ → List ℕ → List ℕ → Pending → List ℕ → ℕ → ℕ → HostView
view_of s receipts recorded marks left out half next heard = record {
  phase = phase_of s (drop recorded receipts) marks;
  out = unsent (put_of receipts recorded marks) out;
  half = half;
  next = next;
  heard = heard;
  records = take recorded receipts;
  left = pairs (drop (recorded + length marks) receipts) left;
}

-- What is kept fits together, by stage.
abbrev pub FitsStage : Stage → List ℕ → Pending → List ℕ → Type 0
FitsStage stage.Down marks out half = (marks ≡ []) × ((rs : List (List Command)) → Within rs out × (unsent rs out ≡ [])) × (half ≡ [])
FitsStage (stage.Opening first) marks out half = marks ≡ []
FitsStage stage.Open marks out half = Unit {0}

abbrev pub AreMarks : List ℕ → Type 0
AreMarks numbers = AllByRecursion (λ n. n < number_limit) numbers

pub record IsConsistent (s : Stage) (receipts : List (List Command)) (recorded : ℕ) (marks left : List ℕ) (out : Pending) (half : List ℕ) : Type 0 where
  pub count : length receipts ≡ (recorded + length marks) + length left
  pub closing : AreMarks marks
  pub closing_left : AreMarks left
  pub within : Within (put_of receipts recorded marks) out
  pub stage : FitsStage s marks out half

-- A mark with one of these numbers, from this one on, has this id.
abbrev pub HasIdAmong : ℕ → List ℕ → List ℕ → Type 0
HasIdAmong heard [] id = ⊥
HasIdAmong heard (n ∷ ns) id = ((heard ≤ n) × (id_of n ≡ id)) ⊎ HasIdAmong heard ns id

-- Of these numbers the one at this place is the first from that one on whose mark has this id.
pub record IsPlaceOf (heard : ℕ) (numbers id : List ℕ) (place : ℕ) : Type 0 where
  pub within : place < length numbers
  pub is_out : heard ≤ slice_index numbers place
  pub mark : id_of (slice_index numbers place) ≡ id
  pub first : HasIdAmong heard (take place numbers) id → ⊥
