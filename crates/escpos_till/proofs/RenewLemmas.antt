-- What is carried over to a ledger that goes on from an older one.
use Rattle.std.proofs.Common.{ℕ, zero, suc, ◌≡◌, ◌≢◌, ◌+◌, ◌-◌, ◌<◌, ◌≤◌, ◌⊎◌, inl, inr, Bool, true, false, cond, Option, Some, None, List, [], ◌∷◌, ◌++◌, length, length-drop, drop, take, get_or, refl, sym, ◌∙◌, ap, subst, append-nil, length-append, add-zero, arith}
use Rattle.std.specs.Prelude.{◌==◌, ◌&&◌, filter, is_none, nat_lt, slice_get}
use Rattle.std.specs.List.{filter_map, position_from}
use Rattle.std.proofs.lemmas.Bool.Decides.{nat_tests}
use Rattle.std.proofs.lemmas.List.Elements.{filter-append, filter_map-append}
use Rattle.escpos_till.specs.declared.book.Book.{Book}
use Rattle.escpos_till.specs.declared.entry.Content.{Content}
use Rattle.escpos_till.specs.declared.entry.Entry.{Entry}
use Rattle.escpos_till.specs.declared.entry.Entry.TheVariants.{Queued, Tried, Recorded, Raised, Cancelled, Key, Renewed, Earlier}
use Rattle.escpos_till.specs.declared.state.ReceiptState.{ReceiptState}
use Rattle.escpos_till.specs.declared.state.ReceiptState.TheVariants as state
use Rattle.escpos_till.specs.declared.tries.Try.{Try}
use Rattle.escpos_till.specs.Book.{IsBookOf}
use Rattle.escpos_till.specs.Entries.{IsLedger, Taken, Waits, cancel_of, cancel_place_of, cancelled, content_of, contents, earlier, earlier_of, is_open, is_try_of, last_number, numbered_from, place_here, place_of, record_of, recorded, times_tried, waiting}
use Rattle.escpos_till.specs.Renewing.{BeginsRenewed, Carried, KeysAgree, Renews, SaysNothing, above, is_carried, tries_above}
use Rattle.escpos_till.specs.Tries.{HasTry, tries, try_of}
use Rattle.escpos_till.proofs.BookLemmas.{first_waits}
use Rattle.escpos_till.proofs.EntryLemmas.{earlier-snoc, ended_one, is_other, last-states, length-states, one_longer, one_more_time, same_times, waiting_state}
use Rattle.escpos_till.proofs.StateLemmas.{waiting_is_not}

-- ## The beginning

pub says_renewed : (last hd : ℕ) → SaysNothing last (Renewed last hd ∷ [])
says_renewed last hd = record { older = refl; contents = refl; recorded = refl; cancelled = refl; tries = refl; times = λ n. refl }

nothing_more : {X Y : Type 0} (f : X → Option Y) (xs : List X) (x : X) → filter_map f xs ≡ [] → filter_map f (x ∷ []) ≡ [] → filter_map f (xs ++ x ∷ []) ≡ []
nothing_more f xs x none one = filter_map-append f xs (x ∷ []) ∙ ap (λ ys. ys ++ filter_map f (x ∷ [])) none ∙ one

pub says_earlier : (last : ℕ) (es : List Entry) (n : ℕ) (key : List ℕ) → SaysNothing last es → SaysNothing last (es ++ Earlier n key ∷ [])
says_earlier last es n key says =
    let e : Entry = Earlier n key in
    record {
      older = earlier-snoc es e refl ∙ says.older;
      contents = nothing_more content_of es e says.contents refl;
      recorded = nothing_more record_of es e says.recorded refl;
      cancelled = nothing_more cancel_of es e says.cancelled refl;
      tries = nothing_more try_of es e says.tries refl;
      times = λ k. same_times es e k refl ∙ says.times k;
    }

none_dropped : {X : Type 0} (d : ℕ) → drop d (let none : List X = [] in none) ≡ []
none_dropped zero = refl
none_dropped (suc d) = refl

pub carried_none : (last first : ℕ) (new : List Entry) → SaysNothing last new → Carried last first [] new
carried_none last first new says = record {
  older = says.older;
  contents = says.contents ∙ sym (none_dropped (last - first));
  recorded = says.recorded;
  cancelled = says.cancelled;
  tries = says.tries;
  times = λ n later. says.times n;
}

-- ## One more entry

same_more : {X Y : Type 0} (f : X → Option Y) (xs : List X) (x : X) → filter_map f (x ∷ []) ≡ [] → filter_map f (xs ++ x ∷ []) ≡ filter_map f xs
same_more f xs x none = filter_map-append f xs (x ∷ []) ∙ ap (λ ys. filter_map f xs ++ ys) none ∙ append-nil (filter_map f xs)

-- An entry that is about no receipt may be added.
carried_quiet : (last first : ℕ) (old new : List Entry) (e : Entry) → earlier_of e ≡ 0 → contents (e ∷ []) ≡ [] → recorded (e ∷ []) ≡ [] → cancelled (e ∷ []) ≡ [] → tries (e ∷ []) ≡ []
    → ((n : ℕ) → is_try_of n e ≡ false) → Carried last first old new → Carried last first old (new ++ e ∷ [])
carried_quiet last first old new e older content record_none cancel try times c = record {
  older = earlier-snoc new e older ∙ c.older;
  contents = same_more content_of new e content ∙ c.contents;
  recorded = same_more record_of new e record_none ∙ c.recorded;
  cancelled = same_more cancel_of new e cancel ∙ c.cancelled;
  tries = same_more try_of new e try ∙ c.tries;
  times = λ n later. same_times new e n (times n) ∙ c.times n later;
}

pub carried_key : (last first : ℕ) (old new : List Entry) (key : List ℕ) → Carried last first old new → Carried last first old (new ++ Key key ∷ [])
carried_key last first old new key c = carried_quiet last first old new (Key key) refl refl refl refl refl (λ n. refl) c

pub carried_raised : (last first : ℕ) (old new : List Entry) (next hd : ℕ) → Carried last first old new → Carried last first old (new ++ Raised next hd ∷ [])
carried_raised last first old new next hd c = carried_quiet last first old new (Raised next hd) refl refl refl refl refl (λ n. refl) c

above_test : (b : Bool) (x : ℕ) → b ≡ true → cond b (x ∷ []) [] ≡ x ∷ []
above_test b x is = ap (λ t. cond t (x ∷ []) []) is

none_test : {X : Type 0} (b : Bool) (x : X) → b ≡ false → cond b (x ∷ []) [] ≡ []
none_test b x is = ap (λ t. cond t (x ∷ []) []) is

try_test : (b : Bool) (x : Try) → b ≡ true → cond b (x ∷ []) [] ≡ x ∷ []
try_test b x is = ap (λ t. cond t (x ∷ []) []) is

-- What a list of both has, part by part.
parts_above : {Y : Type 0} (f : Entry → Option Y) (p : Y → Bool) (old : List Entry) (e : Entry) (kept one : List Y) → kept ≡ filter p (filter_map f old) → filter p (filter_map f (e ∷ [])) ≡ one
    → kept ++ one ≡ filter p (filter_map f (old ++ e ∷ []))
parts_above f p old e kept one is this =
    ap (λ ys. ys ++ one) is ∙ ap (λ ys. filter p (filter_map f old) ++ ys) (sym this) ∙ sym (filter-append p (filter_map f old) (filter_map f (e ∷ [])))
    ∙ ap (filter p) (sym (filter_map-append f old (e ∷ [])))

taken_part : {Y : Type 0} (f : Entry → Option Y) (p : Y → Bool) (old new : List Entry) (e : Entry) → filter_map f new ≡ filter p (filter_map f old)
    → filter p (filter_map f (e ∷ [])) ≡ filter_map f (e ∷ []) → filter_map f (new ++ e ∷ []) ≡ filter p (filter_map f (old ++ e ∷ []))
taken_part f p old new e is this = filter_map-append f new (e ∷ []) ∙ parts_above f p old e (filter_map f new) (filter_map f (e ∷ [])) is this

skipped_part : {Y : Type 0} (f : Entry → Option Y) (p : Y → Bool) (old new : List Entry) (e : Entry) → filter_map f new ≡ filter p (filter_map f old)
    → filter p (filter_map f (e ∷ [])) ≡ [] → filter_map f new ≡ filter p (filter_map f (old ++ e ∷ []))
skipped_part f p old new e is this = sym (append-nil (filter_map f new)) ∙ parts_above f p old e (filter_map f new) [] is this

-- Of one entry.
all_recorded : (last skip : ℕ) (e : Entry) → is_carried last skip e ≡ true → above last (recorded (e ∷ [])) ≡ recorded (e ∷ [])
all_recorded last skip (Queued content) is = refl
all_recorded last skip (Tried n next) is = refl
all_recorded last skip (Recorded n hd) is = above_test (nat_lt last n) n is
all_recorded last skip (Raised next hd) is = refl
all_recorded last skip (Cancelled n) is = refl
all_recorded last skip (Key key) is = refl
all_recorded last skip (Renewed older hd) is = refl
all_recorded last skip (Earlier n key) is = refl

none_recorded : (last skip : ℕ) (e : Entry) → is_carried last skip e ≡ false → above last (recorded (e ∷ [])) ≡ []
none_recorded last skip (Queued content) is = refl
none_recorded last skip (Tried n next) is = refl
none_recorded last skip (Recorded n hd) is = none_test (nat_lt last n) n is
none_recorded last skip (Raised next hd) is = refl
none_recorded last skip (Cancelled n) is = refl
none_recorded last skip (Key key) is = refl
none_recorded last skip (Renewed older hd) is = refl
none_recorded last skip (Earlier n key) is = refl

all_cancelled : (last skip : ℕ) (e : Entry) → is_carried last skip e ≡ true → above last (cancelled (e ∷ [])) ≡ cancelled (e ∷ [])
all_cancelled last skip (Queued content) is = refl
all_cancelled last skip (Tried n next) is = refl
all_cancelled last skip (Recorded n hd) is = refl
all_cancelled last skip (Raised next hd) is = refl
all_cancelled last skip (Cancelled n) is = above_test (nat_lt last n) n is
all_cancelled last skip (Key key) is = refl
all_cancelled last skip (Renewed older hd) is = refl
all_cancelled last skip (Earlier n key) is = refl

none_cancelled : (last skip : ℕ) (e : Entry) → is_carried last skip e ≡ false → above last (cancelled (e ∷ [])) ≡ []
none_cancelled last skip (Queued content) is = refl
none_cancelled last skip (Tried n next) is = refl
none_cancelled last skip (Recorded n hd) is = refl
none_cancelled last skip (Raised next hd) is = refl
none_cancelled last skip (Cancelled n) is = none_test (nat_lt last n) n is
none_cancelled last skip (Key key) is = refl
none_cancelled last skip (Renewed older hd) is = refl
none_cancelled last skip (Earlier n key) is = refl

all_tries : (last skip : ℕ) (e : Entry) → is_carried last skip e ≡ true → tries_above last (tries (e ∷ [])) ≡ tries (e ∷ [])
all_tries last skip (Queued content) is = refl
all_tries last skip (Tried n next) is = try_test (nat_lt last n) (record { number = n; closing = next - 1 }) is
all_tries last skip (Recorded n hd) is = refl
all_tries last skip (Raised next hd) is = refl
all_tries last skip (Cancelled n) is = refl
all_tries last skip (Key key) is = refl
all_tries last skip (Renewed older hd) is = refl
all_tries last skip (Earlier n key) is = refl

none_tried : (last skip : ℕ) (e : Entry) → is_carried last skip e ≡ false → tries_above last (tries (e ∷ [])) ≡ []
none_tried last skip (Queued content) is = refl
none_tried last skip (Tried n next) is = none_test (nat_lt last n) (let t : Try = record { number = n; closing = next - 1 } in t) is
none_tried last skip (Recorded n hd) is = refl
none_tried last skip (Raised next hd) is = refl
none_tried last skip (Cancelled n) is = refl
none_tried last skip (Key key) is = refl
none_tried last skip (Renewed older hd) is = refl
none_tried last skip (Earlier n key) is = refl

not_above : (last n k : ℕ) → nat_lt last n ≡ false → last < k → n ≢ k
not_above last n k is later same = absurd (grind (arith, is, later, same))

no_try_later : (last skip k : ℕ) (e : Entry) → is_carried last skip e ≡ false → last < k → is_try_of k e ≡ false
no_try_later last skip k (Queued content) is later = refl
no_try_later last skip k (Tried n next) is later = is_other n k (not_above last n k is later)
no_try_later last skip k (Recorded n hd) is later = refl
no_try_later last skip k (Raised next hd) is later = refl
no_try_later last skip k (Cancelled n) is later = refl
no_try_later last skip k (Key key) is later = refl
no_try_later last skip k (Renewed older hd) is later = refl
no_try_later last skip k (Earlier n key) is later = refl

same_try : (old new : List Entry) (e : Entry) (k : ℕ) (b : Bool) → is_try_of k e ≡ b → times_tried new k ≡ times_tried old k → times_tried (new ++ e ∷ []) k ≡ times_tried (old ++ e ∷ []) k
same_try old new e k true is same = one_more_time new e k is ∙ ap (λ n. n + 1) same ∙ sym (one_more_time old e k is)
same_try old new e k false is same = same_times new e k is ∙ same ∙ sym (same_times old e k is)

-- Contents, of which the first ones are left out.
drop_within : {X : Type 0} (d : ℕ) (xs : List X) (x : X) → d ≤ length xs → drop d (xs ++ x ∷ []) ≡ drop d xs ++ x ∷ []
drop_within zero [] x within = refl
drop_within zero (y ∷ xs) x within = refl
drop_within (suc d) [] x within = absurd (omega (arith, within))
drop_within (suc d) (y ∷ xs) x within = drop_within d xs x (omega (arith, within))

drop_past : {X : Type 0} (d : ℕ) (xs : List X) → length xs ≤ d → drop d xs ≡ []
drop_past d [] past = none_dropped d
drop_past zero (y ∷ xs) past = absurd (omega (arith, past))
drop_past (suc d) (y ∷ xs) past = drop_past d xs (omega (arith, past))

taken_contents : (last first skip : ℕ) (old new : List Entry) (e : Entry) → first ≤ last → is_carried last skip e ≡ true → skip ≡ last - first - length (contents old)
    → contents new ≡ drop (last - first) (contents old) → contents (new ++ e ∷ []) ≡ drop (last - first) (contents (old ++ e ∷ []))
taken_contents last first skip old new (Queued content) later is counts same =
    let e : Entry = Queued content in
    let parts : contents (old ++ e ∷ []) ≡ contents old ++ content ∷ [] = filter_map-append content_of old (e ∷ []) in
    let within : last - first ≤ length (contents old) = grind (arith, nat_tests, is, counts) in
    filter_map-append content_of new (e ∷ []) ∙ ap (λ cs. cs ++ content ∷ []) same ∙ sym (drop_within (last - first) (contents old) content within) ∙ ap (drop (last - first)) (sym parts)
taken_contents last first skip old new (Tried n next) later is counts same =
    same_more content_of new (Tried n next) refl ∙ same ∙ ap (drop (last - first)) (sym (same_more content_of old (Tried n next) refl))
taken_contents last first skip old new (Recorded n hd) later is counts same =
    same_more content_of new (Recorded n hd) refl ∙ same ∙ ap (drop (last - first)) (sym (same_more content_of old (Recorded n hd) refl))
taken_contents last first skip old new (Cancelled n) later is counts same =
    same_more content_of new (Cancelled n) refl ∙ same ∙ ap (drop (last - first)) (sym (same_more content_of old (Cancelled n) refl))
taken_contents last first skip old new (Raised next hd) later is counts same = absurd (let bad : false ≡ true = is in cc)
taken_contents last first skip old new (Key key) later is counts same = absurd (let bad : false ≡ true = is in cc)
taken_contents last first skip old new (Renewed older hd) later is counts same = absurd (let bad : false ≡ true = is in cc)
taken_contents last first skip old new (Earlier n key) later is counts same = absurd (let bad : false ≡ true = is in cc)

skipped_contents : (last first skip : ℕ) (old new : List Entry) (e : Entry) → first ≤ last → is_carried last skip e ≡ false → skip ≡ last - first - length (contents old)
    → contents new ≡ drop (last - first) (contents old) → contents new ≡ drop (last - first) (contents (old ++ e ∷ []))
skipped_contents last first skip old new (Queued content) later is counts same =
    let e : Entry = Queued content in
    let parts : contents (old ++ e ∷ []) ≡ contents old ++ content ∷ [] = filter_map-append content_of old (e ∷ []) in
    let all : length (contents (old ++ e ∷ [])) ≡ length (contents old) + 1 = ap length parts ∙ length-append (contents old) (content ∷ []) in
    let past : length (contents old) + 1 ≤ last - first = grind (arith, nat_tests, is, counts) in
    same ∙ drop_past (last - first) (contents old) (omega (arith, past)) ∙ sym (drop_past (last - first) (contents (old ++ e ∷ [])) (omega (arith, past, all)))
skipped_contents last first skip old new (Tried n next) later is counts same = same ∙ ap (drop (last - first)) (sym (same_more content_of old (Tried n next) refl))
skipped_contents last first skip old new (Recorded n hd) later is counts same = same ∙ ap (drop (last - first)) (sym (same_more content_of old (Recorded n hd) refl))
skipped_contents last first skip old new (Raised next hd) later is counts same = same ∙ ap (drop (last - first)) (sym (same_more content_of old (Raised next hd) refl))
skipped_contents last first skip old new (Cancelled n) later is counts same = same ∙ ap (drop (last - first)) (sym (same_more content_of old (Cancelled n) refl))
skipped_contents last first skip old new (Key key) later is counts same = same ∙ ap (drop (last - first)) (sym (same_more content_of old (Key key) refl))
skipped_contents last first skip old new (Renewed older hd) later is counts same = same ∙ ap (drop (last - first)) (sym (same_more content_of old (Renewed older hd) refl))
skipped_contents last first skip old new (Earlier n key) later is counts same = same ∙ ap (drop (last - first)) (sym (same_more content_of old (Earlier n key) refl))

carries_no_start : (last skip : ℕ) (e : Entry) → is_carried last skip e ≡ true → earlier_of e ≡ 0
carries_no_start last skip (Queued content) is = refl
carries_no_start last skip (Tried n next) is = refl
carries_no_start last skip (Recorded n hd) is = refl
carries_no_start last skip (Raised next hd) is = refl
carries_no_start last skip (Cancelled n) is = refl
carries_no_start last skip (Key key) is = refl
carries_no_start last skip (Renewed older hd) is = absurd (let bad : false ≡ true = is in cc)
carries_no_start last skip (Earlier n key) is = refl

pub carried_take : (last first skip : ℕ) (old new : List Entry) (e : Entry) → first ≤ last → is_carried last skip e ≡ true → skip ≡ last - first - length (contents old)
    → Carried last first old new → Carried last first (old ++ e ∷ []) (new ++ e ∷ [])
carried_take last first skip old new e later is counts c = record {
  older = earlier-snoc new e (carries_no_start last skip e is) ∙ c.older;
  contents = taken_contents last first skip old new e later is counts c.contents;
  recorded = taken_part record_of (λ n. nat_lt last n) old new e c.recorded (all_recorded last skip e is);
  cancelled = taken_part cancel_of (λ n. nat_lt last n) old new e c.cancelled (all_cancelled last skip e is);
  tries = taken_part try_of (λ t. nat_lt last t.number) old new e c.tries (all_tries last skip e is);
  times = λ n above. same_try old new e n (is_try_of n e) refl (c.times n above);
}

pub carried_skip : (last first skip : ℕ) (old new : List Entry) (e : Entry) → first ≤ last → is_carried last skip e ≡ false → skip ≡ last - first - length (contents old)
    → Carried last first old new → Carried last first (old ++ e ∷ []) new
carried_skip last first skip old new e later is counts c = record {
  older = c.older;
  contents = skipped_contents last first skip old new e later is counts c.contents;
  recorded = skipped_part record_of (λ n. nat_lt last n) old new e c.recorded (none_recorded last skip e is);
  cancelled = skipped_part cancel_of (λ n. nat_lt last n) old new e c.cancelled (none_cancelled last skip e is);
  tries = skipped_part try_of (λ t. nat_lt last t.number) old new e c.tries (none_tried last skip e is);
  times = λ n above. c.times n above ∙ sym (same_times old e n (no_try_later last skip n e is above));
}

-- The next of some entries.
next_parts : (es : List Entry) (i : ℕ) (e : Entry) → i < length es → e ≡ get_or es i e → length (contents (take (i + 1) es)) ≡ length (contents (take i es)) + length (contents (e ∷ []))
next_parts es i e inside is =
    ap (λ l. length (contents l)) (one_longer es i e inside is) ∙ ap length (filter_map-append content_of (take i es) (e ∷ [])) ∙ length-append (contents (take i es)) (contents (e ∷ []))

pub skip_next : (last first skip after i : ℕ) (es : List Entry) (e : Entry) → i < length es → e ≡ get_or es i e → skip ≡ last - first - length (contents (take i es))
    → after ≡ skip - length (contents (e ∷ [])) → after ≡ last - first - length (contents (take (i + 1) es))
skip_next last first skip after i es e inside is counts so = omega (arith, so, counts, next_parts es i e inside is)

with_its_key : (last first : ℕ) (old new mid : List Entry) → (mid ≡ new) ⊎ ((key : List ℕ) × (mid ≡ new ++ Key key ∷ [])) → Carried last first old new → Carried last first old mid
with_its_key last first old new mid (inl same) c = subst (Carried last first old) (sym same) c
with_its_key last first old new mid (inr (key, more)) c = subst (Carried last first old) (sym more) (carried_key last first old new key c)

pub carried_next : (last first skip i : ℕ) (es new mid all : List Entry) (e x : Entry) → i < length es → e ≡ get_or es i e → first ≤ last → is_carried last skip e ≡ true
    → skip ≡ last - first - length (contents (take i es)) → (mid ≡ new) ⊎ ((key : List ℕ) × (mid ≡ new ++ Key key ∷ [])) → x ≡ e → all ≡ mid ++ x ∷ []
    → Carried last first (take i es) new → Carried last first (take (i + 1) es) all
carried_next last first skip i es new mid all e x inside is later carries counts key same all_are c =
    let whole : all ≡ mid ++ e ∷ [] = all_are ∙ ap (λ y. mid ++ y ∷ []) same in
    subst (λ l. Carried last first l all) (sym (one_longer es i e inside is)) (subst (Carried last first (take i es ++ e ∷ [])) (sym whole)
    (carried_take last first skip (take i es) mid e later carries counts (with_its_key last first (take i es) new mid key c)))

pub skipped_next : (last first skip i : ℕ) (es new : List Entry) (e : Entry) → i < length es → e ≡ get_or es i e → first ≤ last → is_carried last skip e ≡ false
    → skip ≡ last - first - length (contents (take i es)) → Carried last first (take i es) new → Carried last first (take (i + 1) es) new
skipped_next last first skip i es new e inside is later not counts c =
    subst (λ l. Carried last first l new) (sym (one_longer es i e inside is)) (carried_skip last first skip (take i es) new e later not counts c)

-- ## What waits

is_nothing : {X : Type 0} (o : Option X) → is_none o ≡ true → o ≡ None
is_nothing None is = refl
is_nothing (Some x) is = absurd (let bad : false ≡ true = is in cc)

nothing_is : {X : Type 0} (o : Option X) → o ≡ None → is_none o ≡ true
nothing_is o is = ap (λ v. is_none v) is

by_test : (b : Bool) (i j : ℕ) (p q : Option ℕ) → is_none p ≡ is_none q → is_none (cond b (Some i) p) ≡ is_none (cond b (Some j) q)
by_test true i j p q same = refl
by_test false i j p q same = same

none_step : (last n i j x : ℕ) (xs : List ℕ) (b : Bool) → nat_lt last x ≡ b → last < n
    → is_none (position_from (λ m. m == n) (i + 1) (above last xs)) ≡ is_none (position_from (λ m. m == n) (j + 1) xs)
    → is_none (position_from (λ m. m == n) i (above last xs)) ≡ is_none (position_from (λ m. m == n) (j + 1) xs)
    → is_none (position_from (λ m. m == n) i (cond b (x ∷ above last xs) (above last xs))) ≡ is_none (position_from (λ m. m == n) j (x ∷ xs))
none_step last n i j x xs true is later both one = by_test (x == n) i j (position_from (λ m. m == n) (i + 1) (above last xs)) (position_from (λ m. m == n) (j + 1) xs) both
none_step last n i j x xs false is later both one =
    one ∙ ap (λ b. is_none (cond b (Some j) (position_from (λ m. m == n) (j + 1) xs))) (sym (is_other x n (not_above last x n is later)))

none_same : (last n i j : ℕ) (xs : List ℕ) → last < n → is_none (position_from (λ m. m == n) i (above last xs)) ≡ is_none (position_from (λ m. m == n) j xs)
none_same last n i j [] later = refl
none_same last n i j (x ∷ xs) later = none_step last n i j x xs (nat_lt last x) refl later (none_same last n (i + 1) (j + 1) xs later) (none_same last n i (j + 1) xs later)

place_same : (last n : ℕ) (old new : List Entry) → recorded new ≡ above last (recorded old) → last < n → is_none (place_of new n) ≡ is_none (place_of old n)
place_same last n old new same later = ap (λ rs. is_none (position_from (λ m. m == n) 0 rs)) same ∙ none_same last n 0 0 (recorded old) later

cancel_same : (last n : ℕ) (old new : List Entry) → cancelled new ≡ above last (cancelled old) → last < n → is_none (cancel_place_of new n) ≡ is_none (cancel_place_of old n)
cancel_same last n old new same later = ap (λ rs. is_none (position_from (λ m. m == n) 0 rs)) same ∙ none_same last n 0 0 (cancelled old) later

open_same : (last first n : ℕ) (old new : List Entry) → Carried last first old new → last < n → is_open new n ≡ is_open old n
open_same last first n old new c later =
    ap (λ b. b && is_none (cancel_place_of new n)) (place_same last n old new c.recorded later)
    ∙ ap (λ b. is_none (place_of old n) && b) (cancel_same last n old new c.cancelled later)

skip_ended : (p : ℕ → Bool) (m d : ℕ) (cs : List Content) → ((k : ℕ) → k < d → k < length cs → p (m + k) ≡ false)
    → filter (λ t. p t.number) (numbered_from m cs) ≡ filter (λ t. p t.number) (numbered_from (m + d) (drop d cs))
skip_ended p m zero cs ended = ap (λ n. filter (λ t. p t.number) (numbered_from n cs)) (sym (add-zero m))
skip_ended p m (suc d) [] ended = refl
skip_ended p m (suc d) (c ∷ cs) ended =
    let t : Taken = record { number = m; content = c } in
    let rest : List Taken = filter (λ t. p t.number) (numbered_from (m + 1) cs) in
    let here : p m ≡ false = ap p (sym (add-zero m)) ∙ ended 0 (omega arith) (omega arith) in
    let same : m + 1 + d ≡ m + suc d = omega arith in
    ap (λ b. cond b (t ∷ rest) rest) here
    ∙ skip_ended p (m + 1) d cs (λ k less inside. let on : m + 1 + k ≡ m + suc k = omega arith in ap p on ∙ ended (suc k) (omega (arith, less)) (omega (arith, inside)))
    ∙ ap (λ n. filter (λ t. p t.number) (numbered_from n (drop d cs))) same

same_filter : (p q : ℕ → Bool) (m : ℕ) (cs : List Content) → ((k : ℕ) → m ≤ k → p k ≡ q k)
    → filter (λ t. p t.number) (numbered_from m cs) ≡ filter (λ t. q t.number) (numbered_from m cs)
same_filter p q m [] same = refl
same_filter p q m (c ∷ cs) same =
    let t : Taken = record { number = m; content = c } in
    let later = same_filter p q (m + 1) cs (λ k le. same k (omega (arith, le))) in
    ap (λ b. cond b (t ∷ filter (λ t. p t.number) (numbered_from (m + 1) cs)) (filter (λ t. p t.number) (numbered_from (m + 1) cs))) (same m (omega arith))
    ∙ ap (λ rest. cond (q m) (t ∷ rest) rest) later

-- Before the first place that waits none does.
ended_before : (b : Book) (es : List Entry) (k : ℕ) → IsBookOf b es → k < b.first_waiting → k < length (contents es) → is_open es (1 + earlier es + k) ≡ false
ended_before b es k book less inside =
    ended_one es k inside (λ tried is. waiting_is_not (state.Waiting tried) tried refl (book.first_waiting.passed k (state.Waiting tried) less (ap (λ ss. slice_get ss k) book.states ∙ is)))

pub waiting_same : (b : Book) (es new : List Entry) (last : ℕ) → IsBookOf b es → last ≡ b.earlier + b.first_waiting → Carried last b.earlier es new → waiting new ≡ waiting es
waiting_same b es new last book is c =
    let d : ℕ = last - b.earlier in
    let at : d ≡ b.first_waiting = omega (arith, is) in
    let start : 1 + earlier es + d ≡ 1 + last = omega (arith, is, book.earlier) in
    let old_so : waiting es ≡ filter (λ t. is_open es t.number) (numbered_from (1 + last) (drop d (contents es))) =
    skip_ended (is_open es) (1 + earlier es) d (contents es) (λ k less inside. ended_before b es k book (omega (arith, less, at)) inside)
    ∙ ap (λ n. filter (λ t. is_open es t.number) (numbered_from n (drop d (contents es)))) start in
    let new_so : waiting new ≡ filter (λ t. is_open new t.number) (numbered_from (1 + last) (drop d (contents es))) =
    ap (λ n. filter (λ t. is_open new t.number) (numbered_from (1 + n) (contents new))) c.older
    ∙ ap (λ cs. filter (λ t. is_open new t.number) (numbered_from (1 + last) cs)) c.contents in
    new_so ∙ same_filter (is_open new) (is_open es) (1 + last) (drop d (contents es)) (λ k le. open_same last b.earlier k es new c (omega (arith, le))) ∙ sym old_so

-- A receipt that waits is none of those that are over.
waits_later : (b : Book) (es : List Entry) (n : ℕ) → IsBookOf b es → Waits es n → b.earlier + b.first_waiting < n
waits_later b es n book waits = go (nat_lt (b.earlier + b.first_waiting) n) refl
  where
    go : (t : Bool) → nat_lt (b.earlier + b.first_waiting) n ≡ t → b.earlier + b.first_waiting < n
    go true is = grind (arith, is)
    go false is =
        let before : place_here es n < b.first_waiting = grind (arith, is, book.earlier, waits.here) in
        absurd (waiting_is_not (state.Waiting (times_tried es n)) (times_tried es n) refl
        (book.first_waiting.passed (place_here es n) (state.Waiting (times_tried es n)) before (ap (λ ss. slice_get ss (place_here es n)) book.states ∙ waiting_state es n waits)))

last_same_so : (b : Book) (es new : List Entry) (last : ℕ) → IsBookOf b es → last ≡ b.earlier + b.first_waiting → Carried last b.earlier es new → last_number new ≡ last_number es
last_same_so b es new last book is c =
    let count : length (contents new) ≡ length (contents es) - (last - b.earlier) = ap length c.contents ∙ length-drop (last - b.earlier) (contents es) in
    omega (arith, count, is, c.older, book.earlier, book.first_waiting.within, ap length book.states, length-states es)

waits_back : (last first : ℕ) (es new : List Entry) (n : ℕ) → earlier es ≤ last → last_number new ≡ last_number es → Carried last first es new → Waits new n → Waits es n
waits_back last first es new n within same c waits =
    let later : last < n = omega (arith, c.older, waits.here) in
    record {
      here = omega (arith, within, later);
      taken = omega (arith, waits.taken, same);
      open_still = is_nothing (place_of es n) (sym (place_same last n es new c.recorded later) ∙ nothing_is (place_of new n) waits.open_still);
      not_cancelled = is_nothing (cancel_place_of es n) (sym (cancel_same last n es new c.cancelled later) ∙ nothing_is (cancel_place_of new n) waits.not_cancelled);
    }

waits_on : (last first : ℕ) (es new : List Entry) (n : ℕ) → last < n → last_number new ≡ last_number es → Carried last first es new → Waits es n → Waits new n
waits_on last first es new n later same c waits = record {
  here = omega (arith, c.older, later);
  taken = omega (arith, waits.taken, same);
  open_still = is_nothing (place_of new n) (place_same last n es new c.recorded later ∙ nothing_is (place_of es n) waits.open_still);
  not_cancelled = is_nothing (cancel_place_of new n) (cancel_same last n es new c.cancelled later ∙ nothing_is (cancel_place_of es n) waits.not_cancelled);
}

-- ## Tries

back_step : (last n c : ℕ) (t : Try) (ts : List Try) (b : Bool) → (HasTry (tries_above last ts) n c → HasTry ts n c)
    → HasTry (cond b (t ∷ tries_above last ts) (tries_above last ts)) n c → HasTry (t ∷ ts) n c
back_step last n c t ts true later (inl here) = inl here
back_step last n c t ts true later (inr more) = inr (later more)
back_step last n c t ts false later more = inr (later more)

tries_back : (last n c : ℕ) (ts : List Try) → HasTry (tries_above last ts) n c → HasTry ts n c
tries_back last n c [] has = has
tries_back last n c (t ∷ ts) has = back_step last n c t ts (nat_lt last t.number) (λ more. tries_back last n c ts more) has

on_step : (last n c : ℕ) (t : Try) (ts : List Try) (b : Bool) → nat_lt last t.number ≡ b → last < n → (HasTry ts n c → HasTry (tries_above last ts) n c)
    → HasTry (t ∷ ts) n c → HasTry (cond b (t ∷ tries_above last ts) (tries_above last ts)) n c
on_step last n c t ts true is later rest (inl here) = inl here
on_step last n c t ts true is later rest (inr more) = inr (rest more)
on_step last n c t ts false is later rest (inl here) = absurd (not_above last t.number n is later here.0)
on_step last n c t ts false is later rest (inr more) = rest more

tries_on : (last n c : ℕ) (ts : List Try) → last < n → HasTry ts n c → HasTry (tries_above last ts) n c
tries_on last n c [] later has = has
tries_on last n c (t ∷ ts) later has = on_step last n c t ts (nat_lt last t.number) refl later (λ more. tries_on last n c ts later more) has

-- ## All of it

-- The first of some states that waits is a receipt that waits, or there is none.
first_or_none : (b : Book) (es : List Entry) → IsBookOf b es → Waits es (b.earlier + b.first_waiting + 1) ⊎ (b.first_waiting ≡ length b.states.items)
first_or_none b es book = go (slice_get b.states.items b.first_waiting) refl
  where
    at_most : (ss : List ReceiptState) (k : ℕ) → slice_get ss k ≡ None → length ss ≤ k
    at_most [] k none = omega arith
    at_most (s ∷ ss) zero none = absurd (let bad : Some s ≡ None = none in cc)
    at_most (s ∷ ss) (suc k) none = omega (arith, at_most ss k none)

    go : (o : Option ReceiptState) → slice_get b.states.items b.first_waiting ≡ o → Waits es (b.earlier + b.first_waiting + 1) ⊎ (b.first_waiting ≡ length b.states.items)
    go None is = inr (omega (arith, at_most b.states.items b.first_waiting is, book.first_waiting.within))
    go (Some (state.Waiting tried)) is = inl (first_waits b es tried book is)
    go (Some (state.Recorded place)) is = absurd (book.first_waiting.waits (state.Recorded place) is tt)
    go (Some (state.Cancelled tried)) is = absurd (book.first_waiting.waits (state.Cancelled tried) is tt)

pub renews_so : (b : Book) (es new : List Entry) (last : ℕ) (nb : Book) → IsBookOf b es → last ≡ b.earlier + b.first_waiting → Carried last b.earlier es new → BeginsRenewed new → IsLedger new
    → IsBookOf nb new → nb.next ≡ b.next → nb.heard ≡ b.heard → KeysAgree b last nb.keys.items → Renews es new
renews_so b es new last nb book is c begins ledger found next heard agree =
    let same = last_same_so b es new last book is c in
    let later : (n : ℕ) → Waits es n → last < n = λ n waits. subst (λ l. l < n) (sym is) (waits_later b es n book waits) in
    record {
      begins = begins;
      ledger = ledger;
      waiting = waiting_same b es new last book is c;
      waits = λ n. (waits_back last b.earlier es new n (omega (arith, is, book.earlier)) same c, λ waits. waits_on last b.earlier es new n (later n waits) same c waits);
      times = λ n waits. c.times n (later n waits);
      tries = λ n closing waits. (
        λ has. tries_back last n closing (tries es) (subst (λ ts. HasTry ts n closing) c.tries has),
        λ has. subst (λ ts. HasTry ts n closing) (sym c.tries) (tries_on last n closing (tries es) (later n waits) has),
      );
      next = sym found.next ∙ next ∙ book.next;
      heard = sym found.heard ∙ heard ∙ book.heard;
      last = same;
      over = λ n within waits. absurd (omega (arith, within, c.older, later n waits));
      no_later = elim (first_or_none b es book) [
        | inl waits ↦ inl (subst (Waits es) (let on : b.earlier + b.first_waiting + 1 ≡ earlier new + 1 = omega (arith, is, c.older) in on) waits)
        | inr none ↦ inr (omega (arith, c.older, is, none, book.earlier, ap length book.states, last-states es))
      ];
      contents = c.contents ∙ ap (λ n. drop n (contents es)) (let less : last - b.earlier ≡ earlier new - earlier es = omega (arith, c.older, book.earlier) in less);
      recorded = c.recorded ∙ ap (λ n. above n (recorded es)) (sym c.older);
      cancelled = c.cancelled ∙ ap (λ n. above n (cancelled es)) (sym c.older);
      keys = λ key n has kept. found.keys.listed key n (agree.kept key n (book.keys.known key n has) (elim kept [
        | inl above ↦ inl (omega (arith, above, c.older))
        | inr late ↦ inr (omega (arith, late, book.earlier, ap length book.states, last-states es))
      ]));
      no_other_keys = λ key n has. book.keys.listed key n (agree.others key n (found.keys.known key n has));
    }
