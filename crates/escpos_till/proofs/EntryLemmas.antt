-- What one more entry does to what the entries say.
use Rattle.std.proofs.Common.{ℕ, zero, suc, ◌≡◌, ◌≢◌, ◌+◌, ◌-◌, ◌<◌, ◌≤◌, ◌⊎◌, inl, inr, Bool, true, false, cond, Option, Some, None, List, [], ◌∷◌, ◌++◌, length, map, set, get_or, take, drop, max, refl, sym, ◌∙◌, ap, subst, append-nil, append_assoc, length-append, add-zero, add-one, zero-add, arith}
use Rattle.std.specs.Prelude.{◌==◌, ◌&&◌, is_none, filter, slice_get}
use Rattle.std.specs.List.{filter_map, position_from}
use Rattle.std.proofs.lemmas.Bool.Decides.{nat_tests}
use Rattle.std.proofs.Math.Seq.{take-suc}
use Rattle.std.proofs.lemmas.List.{take-append-drop}
use Rattle.std.proofs.lemmas.List.Elements.{filter_map-append}
use Rattle.std.proofs.lemmas.List.Sums.{count_by-le-length, sum_by-append}
use Rattle.std.proofs.lemmas.Option.{same_Some, slice_get_within}
use Rattle.escpos_till.specs.declared.entry.Content.{Content}
use Rattle.escpos_till.specs.declared.entry.Entry.{Entry}
use Rattle.escpos_till.specs.declared.entry.Entry.TheVariants.{Queued, Tried, Recorded, Raised, Cancelled, Key, Renewed, Earlier}
use Rattle.escpos_till.specs.declared.state.ReceiptState.TheVariants as state
use Rattle.escpos_till.specs.Delivers.{FirstWaits}
use Rattle.escpos_host.specs.Machine.{number_limit}
use Rattle.escpos_till.specs.declared.tries.Try.{Try}
use Rattle.escpos_till.specs.Tries.{end_of_tries, last_or, tries}
use Rattle.escpos_till.specs.Entries.{IsLedger, MayFollow, Taken, Waits, cancel_of, cancel_place_of, cancelled, content_of, contents, earlier, earlier_of, heard, heard_after, heard_said, is_open, is_try_of, last_number, next_free, next_of, numbered_from, place_here, place_of, record_of, recorded, state_by, state_of, states, taken, times_tried, waiting}

-- ## Tests and places

is_self : (n : ℕ) → (n == n) ≡ true
is_self n = grind (arith, nat_tests)

pub is_other : (m n : ℕ) → m ≢ n → (m == n) ≡ false
is_other m n h = grind (arith, nat_tests)

position-miss : (t : ℕ → Bool) (i : ℕ) (xs : List ℕ) (x : ℕ) → t x ≡ false → position_from t i (xs ++ x ∷ []) ≡ position_from t i xs
position-miss t i [] x h = ap (λ b. cond b (Some i) None) h
position-miss t i (y ∷ xs) x h = ap (cond (t y) (Some i)) (position-miss t (i + 1) xs x h)

by_first : (b : Bool) (i : ℕ) (rest more result : Option ℕ) → cond b (Some i) rest ≡ None → (rest ≡ None → more ≡ result) → cond b (Some i) more ≡ result
by_first true i rest more result h next = absurd cc
by_first false i rest more result h next = next h

position-hit : (t : ℕ → Bool) (i : ℕ) (xs : List ℕ) (x : ℕ) → position_from t i xs ≡ None → t x ≡ true → position_from t i (xs ++ x ∷ []) ≡ Some (i + length xs)
position-hit t i [] x h e = ap (λ b. cond b (Some i) None) e ∙ ap Some (sym (add-zero i))
position-hit t i (y ∷ xs) x h e = by_first (t y) i (position_from t (i + 1) xs) _ _ h (λ none. position-hit t (i + 1) xs x none e ∙ ap Some (omega arith))

-- ## Receipts with numbers

numbered-same : {X : Type 0} (f g : ℕ → X) (m : ℕ) (cs : List Content) → ((k : ℕ) → m ≤ k → g k ≡ f k)
    → map (λ t. g t.number) (numbered_from m cs) ≡ map (λ t. f t.number) (numbered_from m cs)
numbered-same f g m [] h = refl
numbered-same f g m (c ∷ cs) h =
    let here : g m ≡ f m = h m (omega arith) in
    let later = numbered-same f g (m + 1) cs (λ k le. h k (omega arith)) in
    cc

numbered-set : {X : Type 0} (f g : ℕ → X) (n m d : ℕ) (cs : List Content) → ((k : ℕ) → k ≢ n → g k ≡ f k) → n ≡ m + d → d < length cs
    → map (λ t. g t.number) (numbered_from m cs) ≡ set (map (λ t. f t.number) (numbered_from m cs)) d (g n)
numbered-set f g n m d [] h e l = absurd (omega arith)
numbered-set f g n m zero (c ∷ cs) h e l =
    let here : g m ≡ g n = ap g (omega arith) in
    let later = numbered-same f g (m + 1) cs (λ k le. h k (λ q. omega arith)) in
    cc
numbered-set f g n m (suc d) (c ∷ cs) h e l =
    let here : g m ≡ f m = h m (λ q. omega arith) in
    let later = numbered-set f g n (m + 1) d cs h (omega arith) (omega arith) in
    cc

numbered-snoc : {X : Type 0} (f : ℕ → X) (m : ℕ) (cs : List Content) (c : Content)
    → map (λ t. f t.number) (numbered_from m (cs ++ c ∷ [])) ≡ map (λ t. f t.number) (numbered_from m cs) ++ f (m + length cs) ∷ []
numbered-snoc f m [] c = ap (λ k. f k ∷ []) (sym (add-zero m))
numbered-snoc f m (d ∷ cs) c =
    let later = numbered-snoc f (m + 1) cs c in
    let k : m + 1 + length cs ≡ m + suc (length cs) = omega arith in
    let same = ap f k in
    ap (λ rest. f m ∷ rest) (later ∙ ap (λ x. map (λ t. f t.number) (numbered_from (m + 1) cs) ++ x ∷ []) same)

pub numbered-get : {X : Type 0} (f : ℕ → X) (m k : ℕ) (cs : List Content) → k < length cs
    → slice_get (map (λ t. f t.number) (numbered_from m cs)) k ≡ Some (f (m + k))
numbered-get f m k [] l = absurd (omega arith)
numbered-get f m zero (c ∷ cs) l = ap (λ n. Some (f n)) (sym (add-zero m))
numbered-get f m (suc k) (c ∷ cs) l =
    numbered-get f (m + 1) k cs (omega arith) ∙ ap (λ n. Some (f n)) (omega arith)

pub length-numbered : {X : Type 0} (f : Taken → X) (m : ℕ) (cs : List Content) → length (map f (numbered_from m cs)) ≡ length cs
length-numbered f m [] = refl
length-numbered f m (c ∷ cs) = ap suc (length-numbered f (m + 1) cs)

pub length-taken : (m : ℕ) (cs : List Content) → length (numbered_from m cs) ≡ length cs
length-taken m [] = refl
length-taken m (c ∷ cs) = ap suc (length-taken (m + 1) cs)

-- ## What one more entry adds

contents-snoc : (es : List Entry) (e : Entry) → contents (es ++ e ∷ []) ≡ contents es ++ contents (e ∷ [])
contents-snoc es e = filter_map-append content_of es (e ∷ [])

recorded-snoc : (es : List Entry) (e : Entry) → recorded (es ++ e ∷ []) ≡ recorded es ++ recorded (e ∷ [])
recorded-snoc es e = filter_map-append record_of es (e ∷ [])

cancelled-snoc : (es : List Entry) (e : Entry) → cancelled (es ++ e ∷ []) ≡ cancelled es ++ cancelled (e ∷ [])
cancelled-snoc es e = filter_map-append cancel_of es (e ∷ [])

same_contents : (es : List Entry) (e : Entry) → contents (e ∷ []) ≡ [] → contents (es ++ e ∷ []) ≡ contents es
same_contents es e h = contents-snoc es e ∙ ap (λ more. contents es ++ more) h ∙ append-nil (contents es)

same_recorded : (es : List Entry) (e : Entry) → recorded (e ∷ []) ≡ [] → recorded (es ++ e ∷ []) ≡ recorded es
same_recorded es e h = recorded-snoc es e ∙ ap (λ more. recorded es ++ more) h ∙ append-nil (recorded es)

same_place : (es : List Entry) (e : Entry) (n : ℕ) → recorded (e ∷ []) ≡ [] → place_of (es ++ e ∷ []) n ≡ place_of es n
same_place es e n h = ap (position_from (λ m. m == n) 0) (same_recorded es e h)

same_cancels : (es : List Entry) (e : Entry) → cancelled (e ∷ []) ≡ [] → cancelled (es ++ e ∷ []) ≡ cancelled es
same_cancels es e h = cancelled-snoc es e ∙ ap (λ more. cancelled es ++ more) h ∙ append-nil (cancelled es)

same_cancel : (es : List Entry) (e : Entry) (n : ℕ) → cancelled (e ∷ []) ≡ [] → cancel_place_of (es ++ e ∷ []) n ≡ cancel_place_of es n
same_cancel es e n h = ap (position_from (λ m. m == n) 0) (same_cancels es e h)

abbrev one_if : Bool → ℕ
one_if b = cond b 1 0

times-snoc : (es : List Entry) (e : Entry) (n : ℕ) → times_tried (es ++ e ∷ []) n ≡ times_tried es n + (0 + one_if (is_try_of n e))
times-snoc es e n = sum_by-append (λ x. cond (is_try_of n x) 1 0) es (e ∷ [])

times-cons : (es : List Entry) (e : Entry) (n : ℕ) → times_tried (e ∷ es) n ≡ (0 + one_if (is_try_of n e)) + times_tried es n
times-cons es e n = sum_by-append (λ x. cond (is_try_of n x) 1 0) (e ∷ []) es

pub same_times : (es : List Entry) (e : Entry) (n : ℕ) → is_try_of n e ≡ false → times_tried (es ++ e ∷ []) n ≡ times_tried es n
same_times es e n h =
    let more : one_if (is_try_of n e) ≡ 0 = ap one_if h in
    omega (arith, times-snoc es e n, more)

pub one_more_time : (es : List Entry) (e : Entry) (n : ℕ) → is_try_of n e ≡ true → times_tried (es ++ e ∷ []) n ≡ times_tried es n + 1
one_more_time es e n h =
    let more : one_if (is_try_of n e) ≡ 1 = ap one_if h in
    omega (arith, times-snoc es e n, more)

last-snoc : (d : ℕ) (ns : List ℕ) (n : ℕ) → last_or d (ns ++ n ∷ []) ≡ n
last-snoc d [] n = refl
last-snoc d (m ∷ ns) n = last-snoc m ns n

nexts-snoc : (es : List Entry) (e : Entry) → filter_map next_of (es ++ e ∷ []) ≡ filter_map next_of es ++ filter_map next_of (e ∷ [])
nexts-snoc es e = filter_map-append next_of es (e ∷ [])

pub next_after_tried : (es : List Entry) (n next : ℕ) → next_free (es ++ Tried n next ∷ []) ≡ next
next_after_tried es n next = ap (last_or 0) (nexts-snoc es (Tried n next)) ∙ last-snoc 0 (filter_map next_of es) next

pub next_after_raised : (es : List Entry) (next hd : ℕ) → next_free (es ++ Raised next hd ∷ []) ≡ next
next_after_raised es next hd = ap (last_or 0) (nexts-snoc es (Raised next hd)) ∙ last-snoc 0 (filter_map next_of es) next

pub next_after_queued : (es : List Entry) (content : Content) → next_free (es ++ Queued content ∷ []) ≡ next_free es
next_after_queued es content = ap (last_or 0) (nexts-snoc es (Queued content) ∙ append-nil (filter_map next_of es))

pub next_after_recorded : (es : List Entry) (n hd : ℕ) → next_free (es ++ Recorded n hd ∷ []) ≡ next_free es
next_after_recorded es n hd = ap (last_or 0) (nexts-snoc es (Recorded n hd) ∙ append-nil (filter_map next_of es))

pub next_after_cancelled : (es : List Entry) (n : ℕ) → next_free (es ++ Cancelled n ∷ []) ≡ next_free es
next_after_cancelled es n = ap (last_or 0) (nexts-snoc es (Cancelled n) ∙ append-nil (filter_map next_of es))

pub next_after_earlier : (es : List Entry) (n : ℕ) (key : List ℕ) → next_free (es ++ Earlier n key ∷ []) ≡ next_free es
next_after_earlier es n key = ap (last_or 0) (nexts-snoc es (Earlier n key) ∙ append-nil (filter_map next_of es))

pub next_after_renewed : (es : List Entry) (last hd : ℕ) → next_free (es ++ Renewed last hd ∷ []) ≡ next_free es
next_after_renewed es last hd = ap (last_or 0) (nexts-snoc es (Renewed last hd) ∙ append-nil (filter_map next_of es))

pub next_after_key : (es : List Entry) (key : List ℕ) → next_free (es ++ Key key ∷ []) ≡ next_free es
next_after_key es key = ap (last_or 0) (nexts-snoc es (Key key) ∙ append-nil (filter_map next_of es))

-- ## What is heard

heard_step : (before es : List Entry) (most : ℕ) (e : Entry) → heard_after before most (es ++ e ∷ []) ≡ max (heard_after before most es) (heard_said (before ++ es) e)
heard_step before [] most e = ap (λ front. max most (heard_said front e)) (sym (append-nil before))
heard_step before (x ∷ es) most e =
    heard_step (before ++ x ∷ []) es (max most (heard_said before x)) e
    ∙ ap (λ front. max (heard_after (before ++ x ∷ []) (max most (heard_said before x)) es) (heard_said front e)) (append_assoc before (x ∷ []) es)

pub heard-snoc : (es : List Entry) (e : Entry) → heard (es ++ e ∷ []) ≡ max (heard es) (heard_said es e)
heard-snoc es e = heard_step [] es 0 e

-- By an entry that says nothing of it.
pub heard_same : (es : List Entry) (e : Entry) → heard_said es e ≡ 0 → heard (es ++ e ∷ []) ≡ heard es
heard_same es e h = heard-snoc es e ∙ ap (max (heard es)) h ∙ omega arith

pub heard_grows : (es : List Entry) (e : Entry) → heard es ≤ heard (es ++ e ∷ [])
heard_grows es e = omega (arith, heard-snoc es e)

-- ## The older ledger

-- What a list says at its start is said where more follows.
pub earlier_grows : (es more : List Entry) → earlier es ≤ earlier (es ++ more)
earlier_grows [] more = omega arith
earlier_grows (e ∷ es) more = omega arith

pub earlier-snoc : (es : List Entry) (e : Entry) → earlier_of e ≡ 0 → earlier (es ++ e ∷ []) ≡ earlier es
earlier-snoc [] e h = h
earlier-snoc (x ∷ es) e h = refl

pub last_grows : (es more : List Entry) → last_number es ≤ last_number (es ++ more)
last_grows es more =
    omega (arith, earlier_grows es more, ap length (filter_map-append content_of es more), length-append (contents es) (contents more))

-- By an entry that takes no receipt, here or in an older ledger.
pub last_same : (es : List Entry) (e : Entry) → earlier_of e ≡ 0 → contents (e ∷ []) ≡ [] → last_number (es ++ e ∷ []) ≡ last_number es
last_same es e older none = omega (arith, earlier-snoc es e older, ap length (same_contents es e none))

numbers_stay : {X : Type 0} (f : ℕ → X) (es : List Entry) (e : Entry) → earlier_of e ≡ 0
    → map (λ t. f t.number) (taken (es ++ e ∷ [])) ≡ map (λ t. f t.number) (numbered_from (1 + earlier es) (contents (es ++ e ∷ [])))
numbers_stay f es e h = ap (λ k. map (λ t. f t.number) (numbered_from (1 + k) (contents (es ++ e ∷ [])))) (earlier-snoc es e h)

-- ## Ledgers

pub split_snoc : {X : Type 0} (xs before : List X) (x y : X) (following : List X) → xs ++ x ∷ [] ≡ before ++ y ∷ following
    → ((before ≡ xs) × (y ≡ x)) ⊎ ((more : List X) × (xs ≡ before ++ y ∷ more))
split_snoc [] [] x y following e = inl (refl, cc)
split_snoc (z ∷ xs) [] x y following e =
    let same : z ≡ y = cc in
    inr (xs, ap (λ w. w ∷ xs) same)
split_snoc [] (b ∷ []) x y following e = let bad : [] ≡ y ∷ following = cc in cc
split_snoc [] (b ∷ c ∷ before) x y following e = let bad : [] ≡ c ∷ (before ++ y ∷ following) = cc in cc
split_snoc (z ∷ xs) (b ∷ before) x y following e =
    let head : z ≡ b = cc in
    let tail : xs ++ x ∷ [] ≡ before ++ y ∷ following = cc in
    elim (split_snoc xs before x y following tail) [
      | inl last ↦ inl (cc (ap (λ w. b ∷ w) last.0, head), last.1)
      | inr within ↦ inr (within.0, cc (head, within.1))
    ]

pub empty_ledger : IsLedger []
empty_ledger [] e following same = let bad : [] ≡ e ∷ following = same in cc
empty_ledger (b ∷ before) e following same = let bad : [] ≡ b ∷ (before ++ e ∷ following) = same in cc

pub ledger-snoc : (es : List Entry) (e : Entry) → IsLedger es → MayFollow es e → IsLedger (es ++ e ∷ [])
ledger-snoc es e ledger last before other following same = elim (split_snoc es before e other following same) [
  | inl at_end ↦ subst (λ b. MayFollow b other) (sym at_end.0) (subst (λ k. MayFollow es k) (sym at_end.1) last)
  | inr within ↦ ledger before other within.0 within.1
]

-- These entries may come after those before them, one after another.
abbrev Continues : List Entry → List Entry → Type 0
Continues before es = (b : List Entry) (e : Entry) (following : List Entry) → es ≡ b ++ e ∷ following → MayFollow (before ++ b) e

continues_later : (before : List Entry) (e : Entry) (es : List Entry) → Continues before (e ∷ es) → Continues (before ++ e ∷ []) es
continues_later before e es h b other following same =
    subst (λ front. MayFollow front other) (sym (append_assoc before (e ∷ []) b)) (h (e ∷ b) other following (ap (λ rest. e ∷ rest) same))

first_follows : (before : List Entry) (e : Entry) (es : List Entry) → Continues before (e ∷ es) → MayFollow before e
first_follows before e es h = subst (λ front. MayFollow front e) (append-nil before) (h [] e es refl)

-- In a ledger no entry is of a receipt that isn't taken.
abbrev IsUnknown : List Entry → ℕ → Type 0
IsUnknown es n =
    (times_tried es n ≡ 0) × ((i : ℕ) → position_from (λ m. m == n) i (recorded es) ≡ None) × ((i : ℕ) → position_from (λ m. m == n) i (cancelled es) ≡ None)

below_count : (before es : List Entry) (m n : ℕ) → Waits before m → last_number (before ++ es) < n → m ≢ n
below_count before es m n w few same =
    let within : m ≤ last_number before = w.taken in
    absurd (omega (arith, last_grows before es, within, few, same))

unknown_in : (before es : List Entry) (n : ℕ) → Continues before es → last_number (before ++ es) < n → IsUnknown es n
unknown_in before [] n h few = (refl, λ i. refl, λ i. refl)
unknown_in before (Queued content ∷ es) n h few =
    let rest = unknown_in (before ++ Queued content ∷ []) es n (continues_later before (Queued content) es h)
    (subst (λ front. last_number front < n) (sym (append_assoc before (Queued content ∷ []) es)) few) in
    (omega (arith, rest.0), rest.1, rest.2)
unknown_in before (Tried m next ∷ es) n h few =
    let rest = unknown_in (before ++ Tried m next ∷ []) es n (continues_later before (Tried m next) es h)
    (subst (λ front. last_number front < n) (sym (append_assoc before (Tried m next ∷ []) es)) few) in
    let other : (m == n) ≡ false = is_other m n (below_count before (Tried m next ∷ es) m n (first_follows before (Tried m next) es h).0 few) in
    let none : one_if (m == n) ≡ 0 = ap one_if other in
    (omega (arith, times-cons es (Tried m next) n, rest.0, none), rest.1, rest.2)
unknown_in before (Recorded m hd ∷ es) n h few =
    let rest = unknown_in (before ++ Recorded m hd ∷ []) es n (continues_later before (Recorded m hd) es h)
    (subst (λ front. last_number front < n) (sym (append_assoc before (Recorded m hd ∷ []) es)) few) in
    let other : (m == n) ≡ false = is_other m n (below_count before (Recorded m hd ∷ es) m n (first_follows before (Recorded m hd) es h).0 few) in
    (omega (arith, rest.0), λ i. ap (λ b. cond b (Some i) (position_from (λ k. k == n) (i + 1) (recorded es))) other ∙ rest.1 (i + 1), rest.2)
unknown_in before (Raised next hd ∷ es) n h few =
    let rest = unknown_in (before ++ Raised next hd ∷ []) es n (continues_later before (Raised next hd) es h)
    (subst (λ front. last_number front < n) (sym (append_assoc before (Raised next hd ∷ []) es)) few) in
    (omega (arith, rest.0), rest.1, rest.2)
unknown_in before (Cancelled m ∷ es) n h few =
    let rest = unknown_in (before ++ Cancelled m ∷ []) es n (continues_later before (Cancelled m) es h)
    (subst (λ front. last_number front < n) (sym (append_assoc before (Cancelled m ∷ []) es)) few) in
    let other : (m == n) ≡ false = is_other m n (below_count before (Cancelled m ∷ es) m n (first_follows before (Cancelled m) es h) few) in
    (omega (arith, rest.0), rest.1, λ i. ap (λ b. cond b (Some i) (position_from (λ k. k == n) (i + 1) (cancelled es))) other ∙ rest.2 (i + 1))
unknown_in before (Key key ∷ es) n h few =
    let rest = unknown_in (before ++ Key key ∷ []) es n (continues_later before (Key key) es h)
    (subst (λ front. last_number front < n) (sym (append_assoc before (Key key ∷ []) es)) few) in
    (omega (arith, rest.0), rest.1, rest.2)
unknown_in before (Renewed last hd ∷ es) n h few =
    let rest = unknown_in (before ++ Renewed last hd ∷ []) es n (continues_later before (Renewed last hd) es h)
    (subst (λ front. last_number front < n) (sym (append_assoc before (Renewed last hd ∷ []) es)) few) in
    (omega (arith, rest.0), rest.1, rest.2)
unknown_in before (Earlier m key ∷ es) n h few =
    let rest = unknown_in (before ++ Earlier m key ∷ []) es n (continues_later before (Earlier m key) es h)
    (subst (λ front. last_number front < n) (sym (append_assoc before (Earlier m key ∷ []) es)) few) in
    (omega (arith, rest.0), rest.1, rest.2)

unknown : (es : List Entry) (n : ℕ) → IsLedger es → last_number es < n → IsUnknown es n
unknown es n ledger few = unknown_in [] es n ledger few

-- The numbers of marks are below the limit, also the one after the closing mark of a try.
last_kept : (b : Bool) (m n : ℕ) (t : Try) (ts : List Try) → m ≤ number_limit → t.closing + 1 ≤ number_limit
    → ((k : ℕ) → k ≤ number_limit → last_or k (map (λ t. t.closing + 1) (filter (λ t. t.number == n) ts)) ≤ number_limit)
    → last_or m (map (λ t. t.closing + 1) (cond b (t ∷ filter (λ t. t.number == n) ts) (filter (λ t. t.number == n) ts))) ≤ number_limit
last_kept true m n t ts few this others = others (t.closing + 1) this
last_kept false m n t ts few this others = others m few

ends_in : (before es : List Entry) (n m : ℕ) → Continues before es → m ≤ number_limit → last_or m (map (λ t. t.closing + 1) (filter (λ t. t.number == n) (tries es))) ≤ number_limit
ends_in before [] n m h few = few
ends_in before (Queued content ∷ es) n m h few = ends_in (before ++ Queued content ∷ []) es n m (continues_later before (Queued content) es h) few
ends_in before (Tried k next ∷ es) n m h few =
    let follows = first_follows before (Tried k next) es h in
    last_kept (k == n) m n (record { number = k; closing = next - 1 }) (tries es) few (omega (arith, follows.1, follows.2))
    (λ j few. ends_in (before ++ Tried k next ∷ []) es n j (continues_later before (Tried k next) es h) few)
ends_in before (Recorded k hd ∷ es) n m h few = ends_in (before ++ Recorded k hd ∷ []) es n m (continues_later before (Recorded k hd) es h) few
ends_in before (Raised next hd ∷ es) n m h few = ends_in (before ++ Raised next hd ∷ []) es n m (continues_later before (Raised next hd) es h) few
ends_in before (Cancelled k ∷ es) n m h few = ends_in (before ++ Cancelled k ∷ []) es n m (continues_later before (Cancelled k) es h) few
ends_in before (Key key ∷ es) n m h few = ends_in (before ++ Key key ∷ []) es n m (continues_later before (Key key) es h) few
ends_in before (Renewed last hd ∷ es) n m h few = ends_in (before ++ Renewed last hd ∷ []) es n m (continues_later before (Renewed last hd) es h) few
ends_in before (Earlier k key ∷ es) n m h few = ends_in (before ++ Earlier k key ∷ []) es n m (continues_later before (Earlier k key) es h) few

pub ends_within : (es : List Entry) (n : ℕ) → IsLedger es → end_of_tries (tries es) n ≤ number_limit
ends_within es n ledger = ends_in [] es n 0 ledger (omega arith)

-- A record without a number says that of the last try.
pub said_none : (es : List Entry) (n hd end : ℕ) → hd ≡ 0 → end ≡ end_of_tries (tries es) n → end ≡ heard_said es (Recorded n hd)
said_none es n hd end none is = is ∙ ap (λ k. heard_said es (Recorded n k)) (sym none)

-- ## States

state_at : (es others : List Entry) (m n : ℕ) → place_of es m ≡ place_of others n → cancel_place_of es m ≡ cancel_place_of others n → times_tried es m ≡ times_tried others n
    → state_of es m ≡ state_of others n
state_at es others m n place cancel times =
    ap (λ p. state_by p (cancel_place_of es m) (times_tried es m)) place ∙ ap (λ p. state_by (place_of others n) p (times_tried es m)) cancel
    ∙ ap (state_by (place_of others n) (cancel_place_of others n)) times

pub state_waits : (es : List Entry) (n : ℕ) → place_of es n ≡ None → cancel_place_of es n ≡ None → state_of es n ≡ state.Waiting (times_tried es n)
state_waits es n place cancel = ap (λ p. state_by p (cancel_place_of es n) (times_tried es n)) place ∙ ap (λ p. state_by None p (times_tried es n)) cancel

pub states_after_queued : (es : List Entry) (content : Content) → IsLedger es → states (es ++ Queued content ∷ []) ≡ states es ++ state.Waiting 0 ∷ []
states_after_queued es content ledger =
    let e : Entry = Queued content in
    let more : List Entry = es ++ e ∷ [] in
    let new : ℕ = 1 + earlier es + length (contents es) in
    let none = unknown es new ledger (omega arith) in
    let here : state_of more new ≡ state.Waiting 0 =
    state_waits more new (same_place es e new refl ∙ none.1 0) (same_cancel es e new refl ∙ none.2 0) ∙ ap state.Waiting (same_times es e new refl ∙ none.0) in
    numbers_stay (state_of more) es e refl
    ∙ ap (λ cs. map (λ t. state_of more t.number) (numbered_from (1 + earlier es) cs)) (contents-snoc es e)
    ∙ numbered-snoc (state_of more) (1 + earlier es) (contents es) content
    ∙ ap (λ front. front ++ state_of more new ∷ [])
    (numbered-same (state_of es) (state_of more) (1 + earlier es) (contents es) (λ k le. state_at more es k k (same_place es e k refl) (same_cancel es e k refl) (same_times es e k refl)))
    ∙ ap (λ s. states es ++ s ∷ []) here

-- An entry that is about no receipt leaves all as they are.
states_stay : (es : List Entry) (e : Entry) → earlier_of e ≡ 0 → contents (e ∷ []) ≡ [] → recorded (e ∷ []) ≡ [] → cancelled (e ∷ []) ≡ [] → ((n : ℕ) → is_try_of n e ≡ false)
    → states (es ++ e ∷ []) ≡ states es
states_stay es e older content records cancel try =
    let more : List Entry = es ++ e ∷ [] in
    numbers_stay (state_of more) es e older
    ∙ ap (λ cs. map (λ t. state_of more t.number) (numbered_from (1 + earlier es) cs)) (same_contents es e content)
    ∙ numbered-same (state_of es) (state_of more) (1 + earlier es) (contents es)
    (λ k le. state_at more es k k (same_place es e k records) (same_cancel es e k cancel) (same_times es e k (try k)))

pub states_after_raised : (es : List Entry) (next hd : ℕ) → states (es ++ Raised next hd ∷ []) ≡ states es
states_after_raised es next hd = states_stay es (Raised next hd) refl refl refl refl (λ n. refl)

pub states_after_key : (es : List Entry) (key : List ℕ) → states (es ++ Key key ∷ []) ≡ states es
states_after_key es key = states_stay es (Key key) refl refl refl refl (λ n. refl)

pub states_after_earlier : (es : List Entry) (n : ℕ) (key : List ℕ) → states (es ++ Earlier n key ∷ []) ≡ states es
states_after_earlier es n key = states_stay es (Earlier n key) refl refl refl refl (λ k. refl)

pub states_after_tried : (es : List Entry) (d next : ℕ) → place_of es (1 + earlier es + d) ≡ None → cancel_place_of es (1 + earlier es + d) ≡ None → d < length (contents es)
    → states (es ++ Tried (1 + earlier es + d) next ∷ []) ≡ set (states es) d (state.Waiting (times_tried es (1 + earlier es + d) + 1))
states_after_tried es d next waits uncancelled within =
    let n : ℕ = 1 + earlier es + d in
    let e : Entry = Tried n next in
    let more : List Entry = es ++ e ∷ [] in
    let here : state_of more n ≡ state.Waiting (times_tried es n + 1) =
    state_waits more n (same_place es e n refl ∙ waits) (same_cancel es e n refl ∙ uncancelled) ∙ ap state.Waiting (one_more_time es e n (is_self n)) in
    numbers_stay (state_of more) es e refl
    ∙ ap (λ cs. map (λ t. state_of more t.number) (numbered_from (1 + earlier es) cs)) (same_contents es e refl)
    ∙ numbered-set (state_of es) (state_of more) n (1 + earlier es) d (contents es)
    (λ k other. state_at more es k k (same_place es e k refl) (same_cancel es e k refl) (same_times es e k (is_other n k (λ q. other (sym q))))) refl within
    ∙ ap (set (states es) d) here

pub states_after_recorded : (es : List Entry) (d hd : ℕ) → place_of es (1 + earlier es + d) ≡ None → d < length (contents es)
    → states (es ++ Recorded (1 + earlier es + d) hd ∷ []) ≡ set (states es) d (state.Recorded (length (recorded es)))
states_after_recorded es d hd waits within =
    let n : ℕ = 1 + earlier es + d in
    let e : Entry = Recorded n hd in
    let more : List Entry = es ++ e ∷ [] in
    let place : place_of more n ≡ Some (length (recorded es)) =
    ap (position_from (λ m. m == n) 0) (recorded-snoc es e) ∙ position-hit (λ m. m == n) 0 (recorded es) n waits (is_self n) ∙ ap Some (zero-add (length (recorded es))) in
    let here : state_of more n ≡ state.Recorded (length (recorded es)) = ap (λ p. state_by p (cancel_place_of more n) (times_tried more n)) place in
    let other_place : (k : ℕ) → k ≢ n → place_of more k ≡ place_of es k = λ k other.
    ap (position_from (λ m. m == k) 0) (recorded-snoc es e) ∙ position-miss (λ m. m == k) 0 (recorded es) n (is_other n k (λ q. other (sym q))) in
    numbers_stay (state_of more) es e refl
    ∙ ap (λ cs. map (λ t. state_of more t.number) (numbered_from (1 + earlier es) cs)) (same_contents es e refl)
    ∙ numbered-set (state_of es) (state_of more) n (1 + earlier es) d (contents es)
    (λ k other. state_at more es k k (other_place k other) (same_cancel es e k refl) (same_times es e k refl)) refl within
    ∙ ap (set (states es) d) here

pub states_after_cancelled : (es : List Entry) (d : ℕ) → place_of es (1 + earlier es + d) ≡ None → cancel_place_of es (1 + earlier es + d) ≡ None → d < length (contents es)
    → states (es ++ Cancelled (1 + earlier es + d) ∷ []) ≡ set (states es) d (state.Cancelled (times_tried es (1 + earlier es + d)))
states_after_cancelled es d waits uncancelled within =
    let n : ℕ = 1 + earlier es + d in
    let e : Entry = Cancelled n in
    let more : List Entry = es ++ e ∷ [] in
    let place : cancel_place_of more n ≡ Some (length (cancelled es)) =
    ap (position_from (λ m. m == n) 0) (cancelled-snoc es e) ∙ position-hit (λ m. m == n) 0 (cancelled es) n uncancelled (is_self n) ∙ ap Some (zero-add (length (cancelled es))) in
    let here : state_of more n ≡ state.Cancelled (times_tried es n) =
    ap (λ p. state_by p (cancel_place_of more n) (times_tried more n)) (same_place es e n refl ∙ waits) ∙ ap (λ p. state_by None p (times_tried more n)) place
    ∙ ap state.Cancelled (same_times es e n refl) in
    let other_place : (k : ℕ) → k ≢ n → cancel_place_of more k ≡ cancel_place_of es k = λ k other.
    ap (position_from (λ m. m == k) 0) (cancelled-snoc es e) ∙ position-miss (λ m. m == k) 0 (cancelled es) n (is_other n k (λ q. other (sym q))) in
    numbers_stay (state_of more) es e refl
    ∙ ap (λ cs. map (λ t. state_of more t.number) (numbered_from (1 + earlier es) cs)) (same_contents es e refl)
    ∙ numbered-set (state_of es) (state_of more) n (1 + earlier es) d (contents es)
    (λ k other. state_at more es k k (same_place es e k refl) (other_place k other) (same_times es e k refl)) refl within
    ∙ ap (set (states es) d) here

pub length-states : (es : List Entry) → length (states es) ≡ length (contents es)
length-states es = length-numbered (λ t. state_of es t.number) (1 + earlier es) (contents es)

pub last-states : (es : List Entry) → earlier es + length (states es) ≡ last_number es
last-states es = ap (λ n. earlier es + n) (length-states es)

pub states-get : (es : List Entry) (d : ℕ) → d < length (contents es) → slice_get (states es) d ≡ Some (state_of es (1 + earlier es + d))
states-get es d within = numbered-get (state_of es) (1 + earlier es) d (contents es) within

-- A receipt that waits stands at the place of its number.
waits_within : (es : List Entry) (n : ℕ) → Waits es n → place_here es n < length (contents es)
waits_within es n w = omega (arith, w.taken, w.here)

one_after : (es : List Entry) (n : ℕ) → earlier es < n → 1 + earlier es + place_here es n ≡ n
one_after es n here = omega (arith, here)

pub tried_states : (es : List Entry) (n next : ℕ) → Waits es n → states (es ++ Tried n next ∷ []) ≡ set (states es) (place_here es n) (state.Waiting (times_tried es n + 1))
tried_states es n next w =
    let e = one_after es n w.here in
    subst (λ k. states (es ++ Tried k next ∷ []) ≡ set (states es) (place_here es n) (state.Waiting (times_tried es k + 1))) e
    (states_after_tried es (place_here es n) next (subst (λ k. place_of es k ≡ None) (sym e) w.open_still) (subst (λ k. cancel_place_of es k ≡ None) (sym e) w.not_cancelled)
    (waits_within es n w))

pub recorded_states : (es : List Entry) (n hd : ℕ) → Waits es n → states (es ++ Recorded n hd ∷ []) ≡ set (states es) (place_here es n) (state.Recorded (length (recorded es)))
recorded_states es n hd w =
    let e = one_after es n w.here in
    subst (λ k. states (es ++ Recorded k hd ∷ []) ≡ set (states es) (place_here es n) (state.Recorded (length (recorded es)))) e
    (states_after_recorded es (place_here es n) hd (subst (λ k. place_of es k ≡ None) (sym e) w.open_still) (waits_within es n w))

pub cancelled_states : (es : List Entry) (n : ℕ) → Waits es n → states (es ++ Cancelled n ∷ []) ≡ set (states es) (place_here es n) (state.Cancelled (times_tried es n))
cancelled_states es n w =
    let e = one_after es n w.here in
    subst (λ k. states (es ++ Cancelled k ∷ []) ≡ set (states es) (place_here es n) (state.Cancelled (times_tried es k))) e
    (states_after_cancelled es (place_here es n) (subst (λ k. place_of es k ≡ None) (sym e) w.open_still) (subst (λ k. cancel_place_of es k ≡ None) (sym e) w.not_cancelled)
    (waits_within es n w))

pub recorded-count : (es : List Entry) (n hd : ℕ) → length (recorded (es ++ Recorded n hd ∷ [])) ≡ length (recorded es) + 1
recorded-count es n hd = ap length (recorded-snoc es (Recorded n hd)) ∙ length-append (recorded es) (n ∷ [])

pub recorded-same : (es : List Entry) (e : Entry) → recorded (e ∷ []) ≡ [] → length (recorded (es ++ e ∷ [])) ≡ length (recorded es)
recorded-same es e h = ap length (same_recorded es e h)

-- The state of a receipt that waits is how often it was tried.
pub waiting_state : (es : List Entry) (n : ℕ) → Waits es n → slice_get (states es) (place_here es n) ≡ Some (state.Waiting (times_tried es n))
waiting_state es n w =
    states-get es (place_here es n) (waits_within es n w) ∙ ap (λ k. Some (state_of es k)) (one_after es n w.here) ∙ ap Some (state_waits es n w.open_still w.not_cancelled)

pub within_states : (es : List Entry) (n : ℕ) → Waits es n → place_here es n < length (states es)
within_states es n w = subst (λ k. place_here es n < k) (sym (length-states es)) (waits_within es n w)

by_place : (p c : Option ℕ) (t tried : ℕ) → state_by p c t ≡ state.Waiting tried → (p ≡ None) × (c ≡ None) × (t ≡ tried)
by_place None None t tried h = (refl, refl, cc)
by_place None (Some place) t tried h = absurd cc
by_place (Some place) c t tried h = absurd cc

-- A receipt waits where its state says so.
pub waits_by_state : (es : List Entry) (n tried : ℕ) → earlier es < n → slice_get (states es) (place_here es n) ≡ Some (state.Waiting tried) → Waits es n × (times_tried es n ≡ tried)
waits_by_state es n tried here h =
    let e = one_after es n here in
    let within : place_here es n < length (contents es) =
    subst (λ k. place_here es n < k) (length-states es) (slice_get_within (states es) (place_here es n) (state.Waiting tried) h) in
    let got = states-get es (place_here es n) within in
    let is : state_of es (1 + earlier es + place_here es n) ≡ state.Waiting tried =
    same_Some (state_of es (1 + earlier es + place_here es n)) (state.Waiting tried) (sym got ∙ h) in
    let parts = by_place (place_of es n) (cancel_place_of es n) (times_tried es n) tried (ap (state_of es) (sym e) ∙ is) in
    (record { here = here; taken = omega (arith, within, here); open_still = parts.0; not_cancelled = parts.1 }, parts.2)

pub few_tries : (es : List Entry) (n : ℕ) → times_tried es n ≤ length es
few_tries es n = count_by-le-length (is_try_of n) es

pub few_records : (es : List Entry) → length (recorded es) ≤ length es
few_records [] = omega arith
few_records (Queued content ∷ es) = omega (arith, few_records es)
few_records (Tried n next ∷ es) = omega (arith, few_records es)
few_records (Recorded n hd ∷ es) = omega (arith, few_records es)
few_records (Raised next hd ∷ es) = omega (arith, few_records es)
few_records (Cancelled n ∷ es) = omega (arith, few_records es)
few_records (Key key ∷ es) = omega (arith, few_records es)
few_records (Renewed last hd ∷ es) = omega (arith, few_records es)
few_records (Earlier n key ∷ es) = omega (arith, few_records es)

pub count_states : (es : List Entry) → length (states es) ≡ length (taken es)
count_states es = length-states es ∙ sym (length-taken (1 + earlier es) (contents es))

pub some_state : (es old : List Entry) (content : Content) → es ≡ old ++ Queued content ∷ [] → 0 < length (states es)
some_state es old content e =
    let count : length (contents es) ≡ length (contents old) + 1 = ap (λ xs. length (contents xs)) e ∙ ap length (contents-snoc old (Queued content)) ∙ length-append (contents old) (content ∷ []) in
    omega (arith, count, length-states es)

-- ## A list of entries, entry by entry

pub one_longer : (es : List Entry) (i : ℕ) (e : Entry) → i < length es → e ≡ get_or es i e → take (i + 1) es ≡ take i es ++ e ∷ []
one_longer es i e inside is = ap (λ n. take n es) (add-one i) ∙ take-suc es i e inside ∙ ap (λ y. take i es ++ y ∷ []) (sym is)

split_at : (es : List Entry) (i : ℕ) (e : Entry) → i < length es → e ≡ get_or es i e → es ≡ take i es ++ e ∷ drop (i + 1) es
split_at es i e inside is =
    sym (take-append-drop (i + 1) es) ∙ ap (λ front. front ++ drop (i + 1) es) (one_longer es i e inside is) ∙ append_assoc (take i es) (e ∷ []) (drop (i + 1) es)

pub refused_at : (es : List Entry) (i : ℕ) (e : Entry) → i < length es → e ≡ get_or es i e → (MayFollow (take i es) e → ⊥) → IsLedger es → ⊥
refused_at es i e inside is refused ledger = refused (ledger (take i es) e (drop (i + 1) es) (split_at es i e inside is))

-- ## The first that waits

abbrev waits_in : List Entry → Taken → Bool
waits_in es receipt = is_open es receipt.number

none_waits : (es : List Entry) (m : ℕ) (cs : List Content) → ((k : ℕ) → k < length cs → is_open es (m + k) ≡ false) → filter (waits_in es) (numbered_from m cs) ≡ []
none_waits es m [] h = refl
none_waits es m (c ∷ cs) h =
    let here : is_open es m ≡ false = ap (λ k. is_open es k) (sym (add-zero m)) ∙ h 0 (omega arith) in
    let later = none_waits es (m + 1) cs (λ k l. let same : m + 1 + k ≡ m + suc k = omega arith in ap (λ n. is_open es n) same ∙ h (suc k) (omega arith)) in
    ap (λ b. cond b (record { number = m; content = c } ∷ filter (waits_in es) (numbered_from (m + 1) cs)) (filter (waits_in es) (numbered_from (m + 1) cs))) here ∙ later

first_waits : (es : List Entry) (m : ℕ) (cs : List Content) (at : ℕ) (c : Content) → slice_get cs at ≡ Some c
    → ((k : ℕ) → k < at → is_open es (m + k) ≡ false) → is_open es (m + at) ≡ true
    → slice_get (filter (waits_in es) (numbered_from m cs)) 0 ≡ Some (record { number = m + at; content = c })
first_waits es m [] at c got h w = absurd (let bad : None ≡ Some c = got in cc)
first_waits es m (d ∷ cs) zero c got h w =
    let here : is_open es m ≡ true = ap (λ k. is_open es k) (sym (add-zero m)) ∙ w in
    let same : d ≡ c = same_Some d c got in
    ap (λ b. slice_get (cond b (record { number = m; content = d } ∷ filter (waits_in es) (numbered_from (m + 1) cs)) (filter (waits_in es) (numbered_from (m + 1) cs))) 0) here
    ∙ ap (λ n. Some (let t : Taken = record { number = n; content = d } in t)) (sym (add-zero m)) ∙ ap (λ x. Some (let t : Taken = record { number = m + 0; content = x } in t)) same
first_waits es m (d ∷ cs) (suc at) c got h w =
    let here : is_open es m ≡ false = ap (λ k. is_open es k) (sym (add-zero m)) ∙ h 0 (omega arith) in
    let later = first_waits es (m + 1) cs at c got (λ k l. let same : m + 1 + k ≡ m + suc k = omega arith in ap (λ n. is_open es n) same ∙ h (suc k) (omega arith))
    (let same : m + 1 + at ≡ m + suc at = omega arith in ap (λ n. is_open es n) same ∙ w) in
    let same : m + 1 + at ≡ m + suc at = omega arith in
    ap (λ b. slice_get (cond b (record { number = m; content = d } ∷ filter (waits_in es) (numbered_from (m + 1) cs)) (filter (waits_in es) (numbered_from (m + 1) cs))) 0) here
    ∙ later ∙ ap (λ n. Some (let t : Taken = record { number = n; content = c } in t)) same

ended_by : (p c : Option ℕ) (t : ℕ) → (state_by p c t ≢ state.Waiting t) → (is_none p && is_none c) ≡ false
ended_by None None t other = absurd (other refl)
ended_by None (Some place) t other = refl
ended_by (Some place) c t other = refl

open_by : (p c : Option ℕ) → p ≡ None → c ≡ None → (is_none p && is_none c) ≡ true
open_by p c place cancel = ap (λ o. is_none o && is_none c) place ∙ ap (λ o. is_none o) cancel

pub ended_one : (es : List Entry) (k : ℕ) → k < length (contents es) → ((tried : ℕ) → slice_get (states es) k ≢ Some (state.Waiting tried)) → is_open es (1 + earlier es + k) ≡ false
ended_one es k l other =
    let n : ℕ = 1 + earlier es + k in
    ended_by (place_of es n) (cancel_place_of es n) (times_tried es n) (λ e. other (times_tried es n) (states-get es k l ∙ ap Some e))

-- No receipt waits where no state does.
pub no_more : (es : List Entry) → ((k : ℕ) (tried : ℕ) → k < length (contents es) → slice_get (states es) k ≢ Some (state.Waiting tried)) → waiting es ≡ []
no_more es h = none_waits es (1 + earlier es) (contents es) (λ k l. ended_one es k l (λ tried. h k tried l))

-- The first state that waits is that of the first receipt that waits.
pub first_of_states : (es : List Entry) (at tried : ℕ) (content : Content) → slice_get (contents es) at ≡ Some content → slice_get (states es) at ≡ Some (state.Waiting tried)
    → ((k : ℕ) (tried : ℕ) → k < at → slice_get (states es) k ≢ Some (state.Waiting tried))
    → FirstWaits es (earlier es + at + 1) content tried
first_of_states es at tried content got is h =
    let within = slice_get_within (contents es) at content got in
    let n : ℕ = 1 + earlier es + at in
    let same : earlier es + at + 1 ≡ n = omega arith in
    let so : state_of es n ≡ state.Waiting tried = same_Some (state_of es n) (state.Waiting tried) (sym (states-get es at within) ∙ is) in
    let parts = by_place (place_of es n) (cancel_place_of es n) (times_tried es n) tried so in
    let none : is_open es n ≡ true = open_by (place_of es n) (cancel_place_of es n) parts.0 parts.1 in
    record {
      first = first_waits es (1 + earlier es) (contents es) at content got (λ k l. ended_one es k (omega (arith, within)) (λ t. h k t l)) none
          ∙ ap (λ n. Some (let t : Taken = record { number = n; content = content } in t)) (sym same);
      times = ap (times_tried es) same ∙ parts.2;
    }
