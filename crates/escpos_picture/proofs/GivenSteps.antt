-- Steps of functions that make room, and then append.
use Rattle.std.proofs.Common.{◌≡◌, ℕ, List, [], ◌++◌, Ok, Err, refl, sym, subst, append-nil, Bool}
use Rattle.std.specs.Prelude.{Option, Result, IsErrAnd, ⊤}
use Rattle.escpos_io.specs.declared.putting.Device.{Device}
use Rattle.escpos_io.specs.Gather.{Gathered}
use Rattle.escpos_io.specs.Giving.{IsGiven}
use Rattle.escpos_io.specs.Putting.{Passage, passage}
use Rattle.escpos_io.proofs.Giving.{given_appended, given_in_the_front, given_in_turn}

-- There was no room after so much was given.
pub stopped_at : (result : Result ⊤ Device) (device : Device) (before between after : Option (List ℕ)) (failed_before failed_between failed_after : Bool)
    (old middle new : Gathered) (done rest whole : List ℕ)
    → IsErrAnd result (λ error. error ≡ device) → IsGiven (Ok tt) (passage before between failed_before failed_between) old middle done
    → IsGiven (Err device) (passage between after failed_between failed_after) middle new [] → whole ≡ done ++ rest
    → IsGiven result (passage before after failed_before failed_after) old new whole
stopped_at result device before between after failed_before failed_between failed_after old middle new done rest whole is given failed whole_is =
    given_in_the_front result device _ _ _ done rest whole is
    (given_in_turn (Err device) before between after failed_before failed_between failed_after old middle new done [] done given failed (sym (append-nil done))) whole_is

-- There was room after so much was given, and more is appended.
pub appended_at : (before between after : Option (List ℕ)) (failed_before failed_between failed_after : Bool)
    (old middle ready new : Gathered) (done more : List ℕ)
    → IsGiven (Ok tt) (passage before between failed_before failed_between) old middle done
    → IsGiven (Ok tt) (passage between after failed_between failed_after) middle ready []
    → new.kept ≡ ready.kept ++ more → new.written ≡ ready.written
    → IsGiven (Ok tt) (passage before after failed_before failed_after) old new (done ++ more)
appended_at before between after failed_before failed_between failed_after old middle ready new done more given room kept written =
    given_in_turn (Ok tt) before after after failed_before failed_after failed_after old ready new done more _
    (given_in_turn (Ok tt) before between after failed_before failed_between failed_after old middle ready done [] done given room (sym (append-nil done)))
    (given_appended after failed_after ready new more kept written) refl

-- Nothing was given yet.
pub nothing_given : (sink : Option (List ℕ)) (failed : Bool) (gather : Gathered) → IsGiven (Ok tt) (passage sink sink failed failed) gather gather []
nothing_given sink failed gather = given_appended sink failed gather gather [] (sym (append-nil gather.kept)) refl

-- What was given, in other words.
pub given_as : (sink : Passage) (old new : Gathered) (bytes whole : List ℕ) → IsGiven (Ok tt) sink old new bytes → whole ≡ bytes → IsGiven (Ok tt) sink old new whole
given_as sink old new bytes whole given is = subst (λ t. IsGiven (Ok tt) sink old new t) (sym is) given
