-- In a ledger each receipt that was taken waits, is recorded or is cancelled, and none is two of these.
use Rattle.std.proofs.Common.{ℕ, zero, suc, ◌≡◌, ◌≢◌, ◌+◌, ◌-◌, ◌<◌, ◌⊎◌, inl, inr, Bool, true, false, cond, Option, Some, None, List, [], ◌∷◌, ◌++◌, length, refl, sym, ◌∙◌, ap, subst, add-zero, append_assoc, arith}
use Rattle.std.specs.Prelude.{◌==◌, ◌&&◌, is_none, slice_get}
use Rattle.std.specs.List.{cons_option, filter_map, position_from}
use Rattle.std.proofs.lemmas.Bool.Decides.{nat_tests}
use Rattle.std.proofs.lemmas.List.Sums.{sum_by-append}
use Rattle.std.proofs.lemmas.Option.{same_Some}
use Rattle.escpos_till.specs.declared.entry.Content.{Content}
use Rattle.escpos_till.specs.declared.entry.Entry.{Entry}
use Rattle.escpos_till.specs.declared.entry.Entry.TheVariants.{Queued, Tried, Recorded, Raised, Cancelled, Key, Renewed, Earlier}
use Rattle.escpos_till.specs.Entries.{IsLedger, MayFollow, Taken, Waits, cancel_of, cancel_place_of, cancelled, contents, earlier, is_open, is_try_of, numbered_from, place_in, place_of, record_of, recorded, taken, times_tried, waiting}
use Rattle.escpos_till_model.specs.Receipts.{Among, EachIsKept, IsAbout, IsEndOf, IsTaken}
use Rattle.escpos_till_model.proofs.EntryFacts.{among_either, among_filtered, among_first, among_later, cancelled_append, filter_keeps, is_taken_grows, recorded_append}

-- ## Places

abbrev is_it : ℕ → ℕ → Bool
is_it number n = n == number

is_self : (n : ℕ) → (n == n) ≡ true
is_self n = grind (arith, nat_tests)

are_same : (m n : ℕ) → (m == n) ≡ true → m ≡ n
are_same m n e = grind (arith, nat_tests)

not_first : (b : Bool) (i : ℕ) (rest : Option ℕ) → rest ≢ None → cond b (Some i) rest ≢ None
not_first true i rest some e = absurd (let bad : Some i ≡ None = e in cc)
not_first false i rest some e = some e

place_found : (n i : ℕ) (before following : List ℕ) → position_from (is_it n) i (before ++ n ∷ following) ≢ None
place_found n i [] following e =
    let bad : Some i ≡ None = sym (ap (λ b. cond b (Some i) (position_from (is_it n) (i + 1) following)) (is_self n)) ∙ e in cc
place_found n i (b ∷ before) following e = not_first (b == n) i (position_from (is_it n) (i + 1) (before ++ n ∷ following)) (place_found n (i + 1) before following) e

given_step : (n k i x : ℕ) (xs : List ℕ) (b : Bool) → (x == n) ≡ b → (position_from (is_it n) (i + 1) xs ≡ Some k → Among n xs)
    → cond b (Some i) (position_from (is_it n) (i + 1) xs) ≡ Some k → Among n (x ∷ xs)
given_step n k i x xs true is later e = among_first n x xs (are_same x n is)
given_step n k i x xs false is later e = among_later n x xs (later e)

pub place_given : (n k i : ℕ) (xs : List ℕ) → position_from (is_it n) i xs ≡ Some k → Among n xs
place_given n k i [] e = absurd (let bad : None ≡ Some k = e in cc)
place_given n k i (x ∷ xs) e = given_step n k i x xs (x == n) refl (place_given n k (i + 1) xs) e

pub no_place : (numbers : List ℕ) (number : ℕ) → place_in numbers number ≡ None → ¬ Among number numbers
no_place numbers number none (before, following, is) =
    place_found number 0 before following (ap (position_from (is_it number) 0) (sym is) ∙ none)

both_nothing : (place cancel : Option ℕ) → (is_none place && is_none cancel) ≡ true → (place ≡ None) × (cancel ≡ None)
both_nothing None None e = (refl, refl)
both_nothing None (Some n) e = absurd (let bad : false ≡ true = e in cc)
both_nothing (Some n) cancel e = absurd (let bad : false ≡ true = e in cc)

open_by : (place cancel : Option ℕ) → place ≡ None → cancel ≡ None → (is_none place && is_none cancel) ≡ true
open_by place cancel p c = ap (λ o. is_none o && is_none cancel) p ∙ ap (λ o. is_none o) c

-- ## Where an entry stands that says something

abbrev Split : {X Y : Type 0} → (X → Option Y) → List X → List Y → Y → Type 0
Split {X} f xs before y = (pre : List X) × (x : X) × (post : List X) × (xs ≡ pre ++ x ∷ post) × (filter_map f pre ≡ before) × (f x ≡ Some y)

split_none : {X Y : Type 0} (f : X → Option Y) (x : X) (xs : List X) (before : List Y) (y : Y) → f x ≡ None → Split f xs before y → Split f (x ∷ xs) before y
split_none f x xs before y none (pre, z, post, is, front, at) =
    (x ∷ pre, z, post, ap (λ v. x ∷ v) is, ap (λ o. cons_option o (filter_map f pre)) none ∙ front, at)

split_some : {X Y : Type 0} (f : X → Option Y) (x : X) (w : Y) (xs : List X) (before : List Y) (y : Y) → f x ≡ Some w → Split f xs before y → Split f (x ∷ xs) (w ∷ before) y
split_some f x w xs before y some (pre, z, post, is, front, at) =
    (x ∷ pre, z, post, ap (λ v. x ∷ v) is, ap (λ o. cons_option o (filter_map f pre)) some ∙ ap (λ v. w ∷ v) front, at)

split_step : {X Y : Type 0} (f : X → Option Y) (x : X) (xs : List X) (before : List Y) (y : Y) (following : List Y) (o : Option Y) → f x ≡ o
    → ((front : List Y) → filter_map f xs ≡ front ++ y ∷ following → Split f xs front y)
    → cons_option o (filter_map f xs) ≡ before ++ y ∷ following → Split f (x ∷ xs) before y
split_step f x xs before y following None is later e = split_none f x xs before y is (later before e)
split_step f x xs [] y following (Some w) is later e =
    let same : w ≡ y = cc e in ([], x, xs, refl, refl, is ∙ ap Some same)
split_step f x xs (b ∷ before) y following (Some w) is later e =
    let same : w ≡ b = cc e in
    let tail : filter_map f xs ≡ before ++ y ∷ following = cc e in
    subst (λ (v : _). Split f (x ∷ xs) (v ∷ before) y) same (split_some f x w xs before y is (later before tail))

no_split : {Y : Type 0} (before : List Y) (y : Y) (following : List Y) → [] ≡ before ++ y ∷ following → ⊥
no_split [] y following e = cc e
no_split (b ∷ before) y following e = cc e

split_at : {X Y : Type 0} (f : X → Option Y) (xs : List X) (before : List Y) (y : Y) (following : List Y) → filter_map f xs ≡ before ++ y ∷ following → Split f xs before y
split_at f [] before y following e = absurd (no_split before y following e)
split_at f (x ∷ xs) before y following e = split_step f x xs before y following (f x) refl (λ front. split_at f xs front y following) e

records_it : (e : Entry) (number : ℕ) → record_of e ≡ Some number → (hd : ℕ) × (e ≡ Recorded number hd)
records_it (Queued content) number is = absurd (let bad : None ≡ Some number = is in cc)
records_it (Tried n next) number is = absurd (let bad : None ≡ Some number = is in cc)
records_it (Recorded n hd) number is = (hd, ap (λ k. Recorded k hd) (same_Some n number is))
records_it (Raised next hd) number is = absurd (let bad : None ≡ Some number = is in cc)
records_it (Cancelled n) number is = absurd (let bad : None ≡ Some number = is in cc)
records_it (Key key) number is = absurd (let bad : None ≡ Some number = is in cc)
records_it (Renewed last hd) number is = absurd (let bad : None ≡ Some number = is in cc)
records_it (Earlier k key) number is = absurd (let bad : None ≡ Some number = is in cc)

cancels_it : (e : Entry) (number : ℕ) → cancel_of e ≡ Some number → e ≡ Cancelled number
cancels_it (Queued content) number is = absurd (let bad : None ≡ Some number = is in cc)
cancels_it (Tried n next) number is = absurd (let bad : None ≡ Some number = is in cc)
cancels_it (Recorded n hd) number is = absurd (let bad : None ≡ Some number = is in cc)
cancels_it (Raised next hd) number is = absurd (let bad : None ≡ Some number = is in cc)
cancels_it (Cancelled n) number is = ap Cancelled (same_Some n number is)
cancels_it (Key key) number is = absurd (let bad : None ≡ Some number = is in cc)
cancels_it (Renewed last hd) number is = absurd (let bad : None ≡ Some number = is in cc)
cancels_it (Earlier k key) number is = absurd (let bad : None ≡ Some number = is in cc)

-- What is recorded waited before, and so did what is cancelled.
waited : (entries pre post : List Entry) (e : Entry) (number : ℕ) → IsLedger entries → entries ≡ pre ++ e ∷ post → record_of e ≡ Some number → Waits pre number
waited entries pre post e number ledger is says =
    let follows = ledger pre e post is in
    let (hd, same) = records_it e number says in
    (subst (MayFollow pre) same follows).0

waited_too : (entries pre post : List Entry) (e : Entry) (number : ℕ) → IsLedger entries → entries ≡ pre ++ e ∷ post → cancel_of e ≡ Some number → Waits pre number
waited_too entries pre post e number ledger is says = subst (MayFollow pre) (cancels_it e number says) (ledger pre e post is)

-- An entry about a receipt comes where it waits.
waits_at : (before : List Entry) (e : Entry) (number : ℕ) → MayFollow before e → IsAbout number e → Waits before number
waits_at before (Queued content) number follows about = absurd about
waits_at before (Tried n next) number follows about = subst (Waits before) about follows.0
waits_at before (Recorded n hd) number follows about = subst (Waits before) about follows.0
waits_at before (Raised next hd) number follows about = absurd about
waits_at before (Cancelled n) number follows about = subst (Waits before) about follows
waits_at before (Key key) number follows about = absurd about
waits_at before (Renewed last hd) number follows about = absurd about
waits_at before (Earlier k key) number follows about = absurd about

-- It waits no more after its end.
pub ended_there : (before more : List Entry) (end : Entry) (number : ℕ) → IsEndOf number end → ¬ Waits (before ++ end ∷ more) number
ended_there before more (Queued content) number ends waits = absurd ends
ended_there before more (Tried n next) number ends waits = absurd ends
ended_there before more (Recorded n hd) number ends waits =
    no_place (recorded (before ++ Recorded n hd ∷ more)) number waits.open_still
    (subst (λ k. Among k (recorded (before ++ Recorded n hd ∷ more))) ends (recorded before, recorded more, recorded_append before (Recorded n hd ∷ more)))
ended_there before more (Raised next hd) number ends waits = absurd ends
ended_there before more (Key key) number ends waits = absurd ends
ended_there before more (Renewed last hd) number ends waits = absurd ends
ended_there before more (Earlier k key) number ends waits = absurd ends
ended_there before more (Cancelled n) number ends waits =
    no_place (cancelled (before ++ Cancelled n ∷ more)) number waits.not_cancelled
    (subst (λ k. Among k (cancelled (before ++ Cancelled n ∷ more))) ends (cancelled before, cancelled more, cancelled_append before (Cancelled n ∷ more)))

-- After its end no entry is about a receipt.
pub none_after : (before following : List Entry) (number : ℕ) (end e : Entry) → IsLedger (before ++ end ∷ following) → IsEndOf number end → Among e following → ¬ IsAbout number e
none_after before following number end e ledger ends (between, beyond, is) about =
    let front : List Entry = before ++ end ∷ between in
    let split : before ++ end ∷ following ≡ front ++ e ∷ beyond = ap (λ es. before ++ end ∷ es) is ∙ sym (append_assoc before (end ∷ between) (e ∷ beyond)) in
    ended_there before between end number ends (waits_at front e number (ledger front e beyond split) about)

-- ## How often a receipt was tried

abbrev one_if : Bool → ℕ
one_if b = cond b 1 0

pub same_times : (entries : List Entry) (e : Entry) (number : ℕ) → is_try_of number e ≡ false → times_tried (entries ++ e ∷ []) number ≡ times_tried entries number
same_times entries e number other =
    let all = sum_by-append (λ x. cond (is_try_of number x) 1 0) entries (e ∷ []) in
    let none : one_if (is_try_of number e) ≡ 0 = ap one_if other in
    omega (arith, all, none)

not_tried : (entries : List Entry) (number n : ℕ) (b : Bool) → (n == number) ≡ b → Waits entries n → Among number (cancelled entries) → b ≡ false
not_tried entries number n true same waits among =
    absurd (no_place (cancelled entries) n waits.not_cancelled (subst (λ k. Among k (cancelled entries)) (sym (are_same n number same)) among))
not_tried entries number n false same waits among = refl

-- A receipt that is cancelled is tried no more.
pub times_stay : (entries : List Entry) (e : Entry) (number : ℕ) → MayFollow entries e → Among number (cancelled entries)
    → times_tried (entries ++ e ∷ []) number ≡ times_tried entries number
times_stay entries (Queued content) number follows among = same_times entries (Queued content) number refl
times_stay entries (Tried n next) number follows among = same_times entries (Tried n next) number (not_tried entries number n (n == number) refl follows.0 among)
times_stay entries (Recorded n hd) number follows among = same_times entries (Recorded n hd) number refl
times_stay entries (Raised next hd) number follows among = same_times entries (Raised next hd) number refl
times_stay entries (Cancelled n) number follows among = same_times entries (Cancelled n) number refl
times_stay entries (Key key) number follows among = same_times entries (Key key) number refl
times_stay entries (Renewed last hd) number follows among = same_times entries (Renewed last hd) number refl
times_stay entries (Earlier n key) number follows among = same_times entries (Earlier n key) number refl

-- ## Receipts with their numbers

numbered_has : (m k : ℕ) (cs : List Content) → k < length cs → (content : Content) × Among (let t : Taken = record { number = m + k; content = content } in t) (numbered_from m cs)
numbered_has m k [] within = absurd (omega arith)
numbered_has m zero (c ∷ cs) within =
    let t : Taken = record { number = m + 0; content = c } in
    let u : Taken = record { number = m; content = c } in
    (c, among_first t u (numbered_from (m + 1) cs) (ap (λ n. let r : Taken = record { number = n; content = c } in r) (sym (add-zero m))))
numbered_has m (suc k) (c ∷ cs) within =
    let more = numbered_has (m + 1) k cs (omega arith) in
    let same : m + 1 + k ≡ m + suc k = omega arith in
    let first : Taken = record { number = m; content = c } in
    (more.0, subst (λ n. Among (let r : Taken = record { number = n; content = more.0 } in r) (first ∷ numbered_from (m + 1) cs)) same (among_later _ first _ more.1))

waits_taken : (entries : List Entry) (number : ℕ) → Waits entries number → (content : Content) × IsTaken entries number content
waits_taken entries number waits =
    let first : ℕ = 1 + earlier entries in
    let found = numbered_has first (number - first) (contents entries) (omega (arith, waits.here, waits.taken)) in
    let same : first + (number - first) ≡ number = omega (arith, waits.here) in
    (found.0, subst (λ n. Among (let r : Taken = record { number = n; content = found.0 } in r) (taken entries)) same found.1)

-- ## The law

one_of : (entries : List Entry) (receipt : Taken) (place cancel : Option ℕ) → place_of entries receipt.number ≡ place → cancel_place_of entries receipt.number ≡ cancel
    → Among receipt (taken entries) → Among receipt (waiting entries) ⊎ (Among receipt.number (recorded entries) ⊎ Among receipt.number (cancelled entries))
one_of entries receipt None None place cancel among =
    inl (filter_keeps (λ (t : Taken). is_open entries t.number) receipt (taken entries)
    (open_by (place_of entries receipt.number) (cancel_place_of entries receipt.number) place cancel) among)
one_of entries receipt None (Some k) place cancel among = inr (inr (place_given receipt.number k 0 (cancelled entries) cancel))
one_of entries receipt (Some k) other place cancel among = inr (inl (place_given receipt.number k 0 (recorded entries) place))

-- What waits is neither recorded nor cancelled.
still_open : (entries : List Entry) (receipt : Taken) → Among receipt (waiting entries) → (place_of entries receipt.number ≡ None) × (cancel_place_of entries receipt.number ≡ None)
still_open entries receipt among =
    both_nothing (place_of entries receipt.number) (cancel_place_of entries receipt.number)
    (among_filtered (λ (t : Taken). is_open entries t.number) receipt (taken entries) among).1

-- What is recorded isn't cancelled: neither before, where it waits, nor after.
not_both : (entries : List Entry) (number : ℕ) → IsLedger entries → Among number (recorded entries) → ¬ Among number (cancelled entries)
not_both entries number ledger (before, following, is) cancels =
    let (pre, e, post, split, front, says) = split_at record_of entries before number following is in
    let waits = waited entries pre post e number ledger split says in
    let (hd, same) = records_it e number says in
    let here : entries ≡ pre ++ Recorded number hd ∷ post = split ∙ ap (λ x. pre ++ x ∷ post) same in
    let parts : cancelled entries ≡ cancelled pre ++ cancelled post = ap cancelled here ∙ cancelled_append pre (Recorded number hd ∷ post) in
    elim (among_either number (cancelled pre) (cancelled post) (subst (λ ns. Among number ns) parts cancels)) [
      | inl earlier ↦ no_place (cancelled pre) number waits.not_cancelled earlier
      | inr (some, others, later) ↦
          let (mid, x, beyond, at, those, cancels_here) = split_at cancel_of post some number others later in
          let is_cancelled : x ≡ Cancelled number = cancels_it x number cancels_here in
          none_after pre post number (Recorded number hd) x (subst IsLedger here ledger) refl (mid, beyond, at) (subst (IsAbout number) (sym is_cancelled) refl)
    ]

pub each_is_kept : (entries : List Entry) → IsLedger entries → EachIsKept entries
each_is_kept entries ledger = record {
  waits_recorded_or_cancelled = λ receipt among. one_of entries receipt (place_of entries receipt.number) (cancel_place_of entries receipt.number) refl refl among;
  waiting_not_recorded = λ receipt among. no_place (recorded entries) receipt.number (still_open entries receipt among).0;
  waiting_not_cancelled = λ receipt among. no_place (cancelled entries) receipt.number (still_open entries receipt among).1;
  recorded_not_cancelled = λ number among. not_both entries number ledger among;
  were_taken = λ number (before, following, is).
      let (pre, e, post, split, front, says) = split_at record_of entries before number following is in
      let (content, taken) = waits_taken pre number (waited entries pre post e number ledger split says) in
      (content, subst (λ es. IsTaken es number content) (sym split) (is_taken_grows pre (e ∷ post) number content taken));
  cancelled_were_taken = λ number (before, following, is).
      let (pre, e, post, split, front, says) = split_at cancel_of entries before number following is in
      let (content, taken) = waits_taken pre number (waited_too entries pre post e number ledger split says) in
      (content, subst (λ es. IsTaken es number content) (sym split) (is_taken_grows pre (e ∷ post) number content taken));
  once = λ number before following is among.
      let (pre, e, post, split, front, says) = split_at record_of entries before number following is in
      no_place (recorded pre) number (waited entries pre post e number ledger split says).open_still (subst (λ ns. Among number ns) (sym front) among);
  cancelled_once = λ number before following is among.
      let (pre, e, post, split, front, says) = split_at cancel_of entries before number following is in
      no_place (cancelled pre) number (waited_too entries pre post e number ledger split says).not_cancelled (subst (λ ns. Among number ns) (sym front) among);
}

-- ## What a machine delivers

none_there : (before following : List Taken) (x : Taken) → [] ≡ before ++ x ∷ following → ⊥
none_there [] following x is = absurd cc
none_there (b ∷ bs) following x is = absurd cc

-- Where none waits, each that was taken is recorded or cancelled.
pub all_ended : (entries : List Entry) → IsLedger entries → waiting entries ≡ [] → (receipt : Taken) → Among receipt (taken entries)
    → Among receipt.number (recorded entries) ⊎ Among receipt.number (cancelled entries)
all_ended entries ledger none receipt among = elim ((each_is_kept entries ledger).waits_recorded_or_cancelled receipt among) [
  | inl (before, following, is) ↦ absurd (none_there before following receipt (sym none ∙ is))
  | inr ended ↦ ended
]

pub first_among : (xs : List Taken) (x : Taken) → slice_get xs 0 ≡ Some x → Among x xs
first_among [] x is = absurd (let bad : None ≡ Some x = is in cc)
first_among (y ∷ ys) x is = let same : y ≡ x = cc in ([], ys, ap (λ t. t ∷ ys) same)
