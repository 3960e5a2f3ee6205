-- The definitions of `specs/Entries.antt`, computed on a small ledger.
use Rattle.std.proofs.Common.{◌≡◌, inr, List, [], ◌∷◌, ◌++◌, Some, refl, arith}
use Rattle.escpos_till.specs.declared.entry.Entry.{Entry}
use Rattle.escpos_till.specs.declared.entry.Entry.TheVariants.{Queued, Tried, Recorded, Raised, Key, Renewed, Earlier}
use Rattle.escpos_till.specs.declared.state.ReceiptState.TheVariants as state
use Rattle.escpos_till.specs.Contents.{plain}
use Rattle.escpos_till.specs.Entries.{HasKey, MayFollow, heard, last_number, next_free, taken, recorded, waiting, times_tried, states, last_key}
use Rattle.escpos_till.proofs.KeyLemmas.{has_here}

-- Three receipts are taken; the first is tried twice and recorded, the third is tried once.
abbrev worked : List Entry
worked =
    Queued (plain (65 ∷ [])) ∷ Raised 10 0 ∷ Queued (plain (66 ∷ [])) ∷ Tried 1 14 ∷ Tried 1 18 ∷ Queued (plain (67 ∷ [])) ∷ Recorded 1 18 ∷ Tried 3 22 ∷ []

worked_next : next_free worked ≡ 22
worked_next = refl

worked_taken : taken worked ≡ (record { number = 1; content = plain (65 ∷ []) }) ∷ (record { number = 2; content = plain (66 ∷ []) }) ∷ (record { number = 3; content = plain (67 ∷ []) }) ∷ []
worked_taken = refl

worked_recorded : recorded worked ≡ 1 ∷ []
worked_recorded = refl

worked_waiting : waiting worked ≡ (record { number = 2; content = plain (66 ∷ []) }) ∷ (record { number = 3; content = plain (67 ∷ []) }) ∷ []
worked_waiting = refl

worked_times : times_tried worked 1 ≡ 2
worked_times = refl

worked_states : states worked ≡ state.Recorded 0 ∷ state.Waiting 0 ∷ state.Waiting 1 ∷ []
worked_states = refl

worked_heard : heard worked ≡ 18
worked_heard = refl

nothing : next_free [] ≡ 0
nothing = refl

-- A record as in files of before says nothing of marks: the one that closed the last try is answered. Then all are, and the next number may be any.
abbrev before : List Entry
before = Queued (plain (65 ∷ [])) ∷ Tried 1 4 ∷ Tried 1 8 ∷ Recorded 1 0 ∷ []

before_heard : heard before ≡ 8
before_heard = refl

before_raised : MayFollow before (Raised 3000000 3000000)
before_raised = (omega arith, inr (refl, refl))

raised_heard : heard (before ++ Raised 3000000 3000000 ∷ []) ≡ 3000000
raised_heard = refl

-- Two receipts are taken with keys; the second key is void, since another entry follows it, and so is the last.
abbrev keyed : List Entry
keyed =
    Key (65 ∷ []) ∷ Queued (plain (91 ∷ [])) ∷ Key (66 ∷ []) ∷ Key (67 ∷ []) ∷ Queued (plain (93 ∷ [])) ∷ Key (68 ∷ []) ∷ []

first_key : HasKey keyed (65 ∷ []) 1
first_key = has_here keyed (65 ∷ []) 1 (record { before = []; content = plain (91 ∷ []); following = Key (66 ∷ []) ∷ Key (67 ∷ []) ∷ Queued (plain (93 ∷ [])) ∷ Key (68 ∷ []) ∷ []; entries_are = refl; number_is = refl })

third_key : HasKey keyed (67 ∷ []) 2
third_key = has_here keyed (67 ∷ []) 2 (record { before = Key (65 ∷ []) ∷ Queued (plain (91 ∷ [])) ∷ Key (66 ∷ []) ∷ []; content = plain (93 ∷ []); following = Key (68 ∷ []) ∷ []; entries_are = refl; number_is = refl })

last : last_key keyed ≡ Some (68 ∷ [])
last = refl

-- A ledger goes on from an older one with 9 receipts, the last of which came with a key. One more is taken, and tried.
abbrev renewed : List Entry
renewed = Renewed 9 20 ∷ Earlier 9 (65 ∷ []) ∷ Raised 30 0 ∷ Key (66 ∷ []) ∷ Queued (plain (91 ∷ [])) ∷ Tried 10 34 ∷ []

renewed_taken : taken renewed ≡ (record { number = 10; content = plain (91 ∷ []) }) ∷ []
renewed_taken = refl

renewed_waiting : waiting renewed ≡ (record { number = 10; content = plain (91 ∷ []) }) ∷ []
renewed_waiting = refl

renewed_heard : heard renewed ≡ 20
renewed_heard = refl

renewed_last : last_number renewed ≡ 10
renewed_last = refl

renewed_states : states renewed ≡ state.Waiting 1 ∷ []
renewed_states = refl

older_key : HasKey renewed (65 ∷ []) 9
older_key = record {
  said = inr (record {
    before = Renewed 9 20 ∷ [];
    following = Raised 30 0 ∷ Key (66 ∷ []) ∷ Queued (plain (91 ∷ [])) ∷ Tried 10 34 ∷ [];
    entries_are = refl;
    from_one = omega arith;
    older = omega arith;
  });
}

newer_key : HasKey renewed (66 ∷ []) 10
newer_key = has_here renewed (66 ∷ []) 10 (record { before = Renewed 9 20 ∷ Earlier 9 (65 ∷ []) ∷ Raised 30 0 ∷ []; content = plain (91 ∷ []); following = Tried 10 34 ∷ []; entries_are = refl; number_is = refl })
