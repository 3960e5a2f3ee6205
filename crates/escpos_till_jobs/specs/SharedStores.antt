-- A store that lets go of its ledger between entries.
use Rattle.std.specs.Prelude.{Bool, true, false, ◌≡◌, Option, Some, None, List}
use Rattle.std.proofs.Common.{sym, ◌∙◌}
use Rattle.escpos_till.specs.declared.entry.Entry.{Entry}

-- The store below that is open, if one is; whether a call on it failed, so that it isn't known what it holds; and the entries that are known.
pub record SharedView (S : Type 0) : Type 0 where
  pub held : Option S
  pub unsure : Bool
  pub known : List Entry

-- The store below holds what is known, if it has done what it was asked to.
abbrev pub HoldsKnown : {S : Type 0} → (S → Type 0) → (S → List Entry → Type 0) → Option S → List Entry → Type 0
HoldsKnown faithful holds None known = Unit {0}
HoldsKnown faithful holds (Some store) known = faithful store → holds store known

abbrev pub HoldsUnless : {S : Type 0} → (S → Type 0) → (S → List Entry → Type 0) → Bool → Option S → List Entry → Type 0
HoldsUnless faithful holds true held known = Unit {0}
HoldsUnless faithful holds false held known = HoldsKnown faithful holds held known

-- It holds the entries that it knows.
abbrev pub SharedHolds : {S : Type 0} → SharedView S → List Entry → Type 0
SharedHolds s entries = (s.unsure ≡ false) × (s.known ≡ entries)

-- What a crash may leave: what the store below may leave; and what is known, where no store is open.
abbrev pub LeavesBelow : {S : Type 0} → (S → Type 0) → (S → List Entry → Type 0) → (S → List Entry → Type 0) → Bool → Option S → List Entry → List Entry → Type 0
LeavesBelow faithful holds leaves true None known left = Unit {0}
LeavesBelow faithful holds leaves true (Some store) known left = faithful store × leaves store left
LeavesBelow faithful holds leaves false None known left = known ≡ left
LeavesBelow faithful holds leaves false (Some store) known left = faithful store × holds store known × leaves store left

abbrev pub SharedLeaves : {S : Type 0} → (S → Type 0) → (S → List Entry → Type 0) → (S → List Entry → Type 0) → SharedView S → List Entry → Type 0
SharedLeaves faithful holds leaves s left = LeavesBelow faithful holds leaves s.unsure s.held s.known left

-- What it holds outlives a crash, as it does in the store below.
left_below : {S : Type 0} (faithful : S → Type 0) (holds leaves : S → List Entry → Type 0)
    → ((s : S) (entries left : List Entry) → faithful s → holds s entries → leaves s left → left ≡ entries) → (unsure : Bool) (held : Option S) (known left : List Entry) → unsure ≡ false
    → LeavesBelow faithful holds leaves unsure held known left → left ≡ known
left_below faithful holds leaves outlives true held known left is leaves_so = absurd (let bad : true ≡ false = is in cc)
left_below faithful holds leaves outlives false None known left is same = sym same
left_below faithful holds leaves outlives false (Some store) known left is (well, held, may) = outlives store known left well held may

pub shared_outlives : {S : Type 0} (faithful : S → Type 0) (holds leaves : S → List Entry → Type 0)
    → ((s : S) (entries left : List Entry) → faithful s → holds s entries → leaves s left → left ≡ entries) → (s : SharedView S) (entries left : List Entry) → SharedHolds s entries
    → SharedLeaves faithful holds leaves s left → left ≡ entries
shared_outlives faithful holds leaves outlives s entries left (sure, same) may = left_below faithful holds leaves outlives s.unsure s.held s.known left sure may ∙ same
