-- What one more entry does to the book of a list of entries.
use Rattle.std.proofs.Common.{ℕ, zero, suc, ◌≡◌, ◌≢◌, ◌+◌, ◌-◌, ◌<◌, ◌≤◌, inl, inr, Some, None, List, [], ◌∷◌, ◌++◌, length, get_or, set, max, refl, sym, ◌∙◌, ap, subst, length-append, length-set, append-nil, arith}
use Rattle.std.specs.Prelude.{IfSome, MatchOption, Option, slice_get}
use Rattle.std.proofs.lemmas.List.Elements.{filter_map-append}
use Rattle.std.specs.Option.{SomeIff}
use Rattle.std.proofs.lemmas.Option.{get_or_from_slice_get, same_Some, slice_get_read}
use Rattle.escpos_till.specs.declared.book.Book.{Book}
use Rattle.escpos_till.specs.declared.entry.Content.{Content}
use Rattle.escpos_till.specs.declared.entry.Entry.{Entry}
use Rattle.escpos_till.specs.declared.entry.Entry.TheVariants.{Queued, Tried, Recorded, Raised, Cancelled, Key, Renewed, Earlier}
use Rattle.escpos_till.specs.declared.state.ReceiptState.{ReceiptState}
use Rattle.escpos_till.specs.declared.state.ReceiptState.TheVariants as state
use Rattle.escpos_till.specs.Book.{HasContents, HasKeys, IsBookOf, StandsAt}
use Rattle.escpos_till.specs.Keyed.{Keyed, ListsKey, ListsNumber}
use Rattle.escpos_till.specs.Entries.{HasKey, IsLedger, MayFollow, Waits, content_of, contents, earlier, heard_said, last_number, place_here, recorded, state_of, states, times_tried, waiting}
use Rattle.escpos_till.specs.Entries.{states as states_of}
use Rattle.escpos_till.specs.Delivers.{FirstWaits}
use Rattle.escpos_till.specs.Tries.{tries, try_of}
use Rattle.escpos_till.specs.declared.waiting.WaitingReceipt.{WaitingReceipt}
use Rattle.escpos_till.specs.Contents.{content_with}
use Rattle.escpos_till.specs.States.{IsEnded, IsFirstBesides, IsFirstWaiting, tries_in}
use Rattle.escpos_till.proofs.StateLemmas.{first_after_queued, first_after_tried, get-set, get-snoc}
use Rattle.escpos_till.proofs.KeyLemmas.{key_of_number, keys_after_earlier, keys_after_keyed, keys_after_plain, keys_as_before, last_key_after, number_of_key}
use Rattle.escpos_till.proofs.EntryLemmas.{cancelled_states, earlier-snoc, first_of_states, heard-snoc, heard_same, last-states, length-states, no_more, next_after_cancelled, next_after_earlier, next_after_key, next_after_queued, next_after_raised, next_after_recorded, next_after_tried, recorded-count, recorded-same, recorded_states, states-get, states_after_earlier, states_after_key, states_after_queued, states_after_raised, tried_states, waiting_state, waits_by_state, within_states}

-- ## Contents

contents-snoc : (es : List Entry) (content : Content) → contents (es ++ Queued content ∷ []) ≡ contents es ++ content ∷ []
contents-snoc es content = filter_map-append content_of es (Queued content ∷ [])

-- By an entry that takes no receipt.
contents-stay : (es : List Entry) (e : Entry) → contents (e ∷ []) ≡ [] → contents (es ++ e ∷ []) ≡ contents es
contents-stay es e h = filter_map-append content_of es (e ∷ []) ∙ ap (λ more. contents es ++ more) h ∙ append-nil (contents es)

-- ## Tries

tries-snoc : (es : List Entry) (e : Entry) → tries (es ++ e ∷ []) ≡ tries es ++ tries (e ∷ [])
tries-snoc es e = filter_map-append try_of es (e ∷ [])

pub same_tries : (es : List Entry) (e : Entry) → tries (e ∷ []) ≡ [] → tries (es ++ e ∷ []) ≡ tries es
same_tries es e h = tries-snoc es e ∙ ap (λ more. tries es ++ more) h ∙ append-nil (tries es)

-- ## Items

-- The same item after the list grew by one, or after another one was set.
get-front : {X : Type 0} (xs : List X) (y x : X) (k : ℕ) → slice_get xs k ≡ Some x → slice_get (xs ++ y ∷ []) k ≡ Some x
get-front [] y x k h = absurd (let bad : None ≡ Some x = h in cc)
get-front (z ∷ xs) y x zero h = h
get-front (z ∷ xs) y x (suc k) h = get-front xs y x k h

get-last : {X : Type 0} (xs : List X) (x : X) → slice_get (xs ++ x ∷ []) (length xs) ≡ Some x
get-last [] x = refl
get-last (z ∷ xs) x = get-last xs x

get-other : {X : Type 0} (xs : List X) (i k : ℕ) (y x : X) → k ≢ i → slice_get xs k ≡ Some x → slice_get (set xs i y) k ≡ Some x
get-other [] i k y x differ h = h
get-other (z ∷ xs) zero zero y x differ h = absurd (differ refl)
get-other (z ∷ xs) zero (suc k) y x differ h = h
get-other (z ∷ xs) (suc i) zero y x differ h = h
get-other (z ∷ xs) (suc i) (suc k) y x differ h = get-other xs i k y x (λ same. differ (ap suc same)) h

pub get-here : {X : Type 0} (xs : List X) (i : ℕ) (y : X) → i < length xs → slice_get (set xs i y) i ≡ Some y
get-here [] i y l = absurd (omega (arith, l))
get-here (z ∷ xs) zero y l = refl
get-here (z ∷ xs) (suc i) y l = get-here xs i y (omega (arith, l))

get-within : {X : Type 0} (xs : List X) (k : ℕ) (x : X) → slice_get xs k ≡ Some x → k < length xs
get-within [] k x h = absurd (let bad : None ≡ Some x = h in cc)
get-within (z ∷ xs) zero x h = omega arith
get-within (z ∷ xs) (suc k) x h = omega (arith, get-within xs k x h)

contents_after_queued : (kept : List Content) (es : List Entry) (content : Content) → IsLedger es → HasContents kept es → HasContents (kept ++ content ∷ []) (es ++ Queued content ∷ [])
contents_after_queued kept es content ledger has = record {
  count = omega (arith, length-append kept (content ∷ []), has.count, ap length (contents-snoc es content), length-append (contents es) (content ∷ []));
  waiting = λ k tried c waits is.
      let same : slice_get (contents es ++ content ∷ []) k ≡ Some c = ap (λ cs. slice_get cs k) (sym (contents-snoc es content)) ∙ is in
      elim (get-snoc (contents es) content k c same) [
        | inl within ↦
            elim (get-snoc (states_of es) (state.Waiting 0) k (state.Waiting tried) (ap (λ ss. slice_get ss k) (sym (states_after_queued es content ledger)) ∙ waits)) [
              | inl before ↦ get-front kept content c k (has.waiting k tried c before within)
              | inr last ↦ absurd (omega (arith, last.0, length-states es, get-within (contents es) k c within))
            ]
        | inr last ↦ ap (slice_get (kept ++ content ∷ [])) (last.0 ∙ sym has.count) ∙ get-last kept content ∙ ap Some (sym last.1)
      ];
}

contents_after_tried : (kept : List Content) (es : List Entry) (n next : ℕ) → Waits es n → HasContents kept es → HasContents kept (es ++ Tried n next ∷ [])
contents_after_tried kept es n next waits has = record {
  count = has.count ∙ ap length (sym (contents-stay es (Tried n next) refl));
  waiting = λ k tried c stands is.
      let there : slice_get (contents es) k ≡ Some c = ap (λ cs. slice_get cs k) (sym (contents-stay es (Tried n next) refl)) ∙ is in
      elim (get-set (states_of es) (place_here es n) k (state.Waiting (times_tried es n + 1)) (state.Waiting tried) (ap (λ ss. slice_get ss k) (sym (tried_states es n next waits)) ∙ stands)) [
        | inl here ↦ has.waiting k (times_tried es n) c (ap (slice_get (states_of es)) here.0 ∙ waiting_state es n waits) there
        | inr other ↦ has.waiting k tried c other there
      ];
}

waiting_is_no_end : (tried : ℕ) (end : ReceiptState) → IsEnded end → state.Waiting tried ≢ end
waiting_is_no_end tried end is_end same = subst IsEnded (sym same) is_end

-- A receipt waits no more after the entry, and stands so.
contents_after_end : (kept : List Content) (es : List Entry) (e : Entry) (n : ℕ) (x : Content) (end : ReceiptState) → IsEnded end → contents (es ++ e ∷ []) ≡ contents es
    → states_of (es ++ e ∷ []) ≡ set (states_of es) (place_here es n) end → Waits es n → HasContents kept es → HasContents (set kept (place_here es n) x) (es ++ e ∷ [])
contents_after_end kept es e n x end is_end same_contents now waits has = record {
  count = length-set kept (place_here es n) x ∙ has.count ∙ ap length (sym same_contents);
  waiting = λ k tried c stands is.
      let there : slice_get (contents es) k ≡ Some c = ap (λ cs. slice_get cs k) (sym same_contents) ∙ is in
      let set_so : slice_get (set (states_of es) (place_here es n) end) k ≡ Some (state.Waiting tried) = ap (λ ss. slice_get ss k) (sym now) ∙ stands in
      elim (get-set (states_of es) (place_here es n) k end (state.Waiting tried) set_so) [
        | inl here ↦ absurd (waiting_is_no_end tried end is_end here.1)
        | inr other ↦ get-other kept (place_here es n) k x c
            (λ same. let gone : Some (state.Waiting tried) ≡ Some end =
            sym set_so ∙ ap (slice_get (set (states_of es) (place_here es n) end)) same ∙ get-here (states_of es) (place_here es n) end (within_states es n waits) in
            waiting_is_no_end tried end is_end (same_Some (state.Waiting tried) end gone))
            (has.waiting k tried c other there)
      ];
}

contents_after_recorded : (kept : List Content) (es : List Entry) (n hd : ℕ) (x : Content) → Waits es n → HasContents kept es → HasContents (set kept (place_here es n) x) (es ++ Recorded n hd ∷ [])
contents_after_recorded kept es n hd x waits = contents_after_end kept es (Recorded n hd) n x (state.Recorded (length (recorded es))) tt (contents-stay es (Recorded n hd) refl) (recorded_states es n hd waits) waits

-- By an entry that leaves receipts and states as they are.
contents_after_other : (kept : List Content) (es : List Entry) (e : Entry) → contents (e ∷ []) ≡ [] → states_of (es ++ e ∷ []) ≡ states_of es → HasContents kept es → HasContents kept (es ++ e ∷ [])
contents_after_other kept es e none same has = record {
  count = has.count ∙ ap length (sym (contents-stay es e none));
  waiting = λ k tried c stands is.
      has.waiting k tried c (ap (λ ss. slice_get ss k) (sym same) ∙ stands) (ap (λ cs. slice_get cs k) (sym (contents-stay es e none)) ∙ is);
}

-- ## Books

one_more_entry : (old new : ℕ) (es : List Entry) (e : Entry) → new ≡ old + 1 → old ≡ length es → new ≡ length (es ++ e ∷ [])
one_more_entry old new es e more is = omega (arith, more, is, length-append es (e ∷ []))

-- The place that is reckoned of a number is that of the entries.
place_is : (s : Book) (es : List Entry) (n p : ℕ) → IsBookOf s es → p ≡ n - (1 + s.earlier) → p ≡ place_here es n
place_is s es n p sums same = same ∙ ap (λ k. n - (1 + k)) sums.earlier

-- The state that is read of a receipt that waits.
pub state_read : (s : Book) (es : List Entry) (n p : ℕ) (x : ReceiptState) → IsBookOf s es → Waits es n → p ≡ n - (1 + s.earlier) → x ≡ get_or s.states.items p x
    → x ≡ state.Waiting (times_tried es n)
state_read s es n p x sums waits same is =
    let got : slice_get s.states.items p ≡ Some (state.Waiting (times_tried es n)) =
    ap (λ ss. slice_get ss p) sums.states ∙ ap (slice_get (states_of es)) (place_is s es n p sums same) ∙ waiting_state es n waits in
    is ∙ get_or_from_slice_get s.states.items p (state.Waiting (times_tried es n)) x got

pub book_after_queued : (s t : Book) (es : List Entry) (e : Entry) (content : Content) → IsBookOf s es → IsLedger es → e ≡ Queued content
    → t.contents.items ≡ s.contents.items ++ content ∷ [] → t.states.items ≡ s.states.items ++ state.Waiting 0 ∷ []
    → t.first_waiting ≡ s.first_waiting → t.recorded ≡ s.recorded → t.next ≡ s.next → t.heard ≡ s.heard → t.count ≡ s.count + 1 → t.tries.items ≡ s.tries.items
    → HasKeys t.keys.items (es ++ Queued content ∷ []) → t.last_key ≡ None → t.earlier ≡ s.earlier
    → IsBookOf t (es ++ e ∷ [])
book_after_queued s t es e content sums ledger kind kept states first recorded next marks count tried keys last older = subst (λ e. IsBookOf t (es ++ e ∷ [])) (sym kind) (record {
  contents = subst (λ cs. HasContents cs (es ++ Queued content ∷ [])) (sym kept) (contents_after_queued s.contents.items es content ledger sums.contents);
  states = states ∙ ap (λ ss. ss ++ state.Waiting 0 ∷ []) sums.states ∙ sym (states_after_queued es content ledger);
  first_waiting = subst (λ ss. IsFirstWaiting ss t.first_waiting) (sym states) (subst (IsFirstWaiting (s.states.items ++ state.Waiting 0 ∷ [])) (sym first) (first_after_queued s.states.items s.first_waiting sums.first_waiting));
  recorded = recorded ∙ sums.recorded ∙ sym (recorded-same es (Queued content) refl);
  next = next ∙ sums.next ∙ sym (next_after_queued es content);
  heard = marks ∙ sums.heard ∙ sym (heard_same es (Queued content) refl);
  tries = tried ∙ sums.tries ∙ sym (same_tries es (Queued content) refl);
  keys = keys;
  earlier = older ∙ sums.earlier ∙ sym (earlier-snoc es (Queued content) refl);
  last_key = last ∙ sym (last_key_after es (Queued content));
  count = one_more_entry s.count t.count es (Queued content) count sums.count;
})

pub book_after_tried : (s t : Book) (es : List Entry) (e : Entry) (n next p : ℕ) (x y : ReceiptState) → IsBookOf s es → MayFollow es e → e ≡ Tried n next → p ≡ n - (1 + s.earlier)
    → x ≡ get_or s.states.items p x → ((tried : ℕ) → x ≡ state.Waiting tried → y ≡ state.Waiting (tried + 1))
    → t.contents.items ≡ s.contents.items → t.states.items ≡ set s.states.items p y
    → t.first_waiting ≡ s.first_waiting → t.recorded ≡ s.recorded → t.next ≡ next → t.heard ≡ s.heard → t.count ≡ s.count + 1 → t.tries.items ≡ s.tries.items ++ record { number = n; closing = next - 1 } ∷ [] → t.keys.items ≡ s.keys.items → t.last_key ≡ None → t.earlier ≡ s.earlier
    → IsBookOf t (es ++ e ∷ [])
book_after_tried s t es e n next p x y sums follows kind same is more kept states first recorded is_next marks count tried keys last older =
    let waits : Waits es n = (subst (MayFollow es) kind follows).0 in
    let one_more = more (times_tried es n) (state_read s es n p x sums waits same is) in
    let set_so : t.states.items ≡ set s.states.items (place_here es n) (state.Waiting (times_tried es n + 1)) =
    states ∙ ap (set s.states.items p) one_more ∙ ap (λ k. set s.states.items k (state.Waiting (times_tried es n + 1))) (place_is s es n p sums same) in
    subst (λ e. IsBookOf t (es ++ e ∷ [])) (sym kind) (record {
      contents = subst (λ cs. HasContents cs (es ++ Tried n next ∷ [])) (sym kept) (contents_after_tried s.contents.items es n next waits sums.contents);
      states = set_so ∙ ap (λ ss. set ss (place_here es n) (state.Waiting (times_tried es n + 1))) sums.states ∙ sym (tried_states es n next waits);
      first_waiting = subst (λ ss. IsFirstWaiting ss t.first_waiting) (sym set_so) (subst (IsFirstWaiting (set s.states.items (place_here es n) (state.Waiting (times_tried es n + 1)))) (sym first)
          (first_after_tried s.states.items s.first_waiting (place_here es n) (times_tried es n) (times_tried es n + 1) (ap (λ ss. slice_get ss (place_here es n)) sums.states ∙ waiting_state es n waits) sums.first_waiting));
      recorded = recorded ∙ sums.recorded ∙ sym (recorded-same es (Tried n next) refl);
      next = is_next ∙ sym (next_after_tried es n next);
      heard = marks ∙ sums.heard ∙ sym (heard_same es (Tried n next) refl);
      tries = tried ∙ ap (λ ts. ts ++ record { number = n; closing = next - 1 } ∷ []) sums.tries ∙ sym (tries-snoc es (Tried n next));
      keys = subst (λ ks. HasKeys ks (es ++ Tried n next ∷ [])) (sym keys) (keys_as_before s.keys.items es (Tried n next) tt sums.keys);
      earlier = older ∙ sums.earlier ∙ sym (earlier-snoc es (Tried n next) refl);
      last_key = last ∙ sym (last_key_after es (Tried n next));
      count = one_more_entry s.count t.count es (Tried n next) count sums.count;
    })

pub book_after_recorded : (s t : Book) (es : List Entry) (e : Entry) (n hd p : ℕ) → IsBookOf s es → MayFollow es e → e ≡ Recorded n hd → p ≡ n - (1 + s.earlier)
    → (x : Content) → t.contents.items ≡ set s.contents.items p x → t.states.items ≡ set s.states.items p (state.Recorded s.recorded)
    → IsFirstWaiting t.states.items t.first_waiting → t.recorded ≡ s.recorded + 1 → t.next ≡ s.next → t.heard ≡ max s.heard (heard_said es (Recorded n hd)) → t.count ≡ s.count + 1 → t.tries.items ≡ s.tries.items → t.keys.items ≡ s.keys.items → t.last_key ≡ None → t.earlier ≡ s.earlier
    → IsBookOf t (es ++ e ∷ [])
book_after_recorded s t es e n hd p sums follows kind same x kept states first recorded next marks count tried keys last older =
    let waits : Waits es n = (subst (MayFollow es) kind follows).0 in
    subst (λ e. IsBookOf t (es ++ e ∷ [])) (sym kind) (record {
      contents = subst (λ cs. HasContents cs (es ++ Recorded n hd ∷ [])) (sym (kept ∙ ap (λ k. set s.contents.items k x) (place_is s es n p sums same))) (contents_after_recorded s.contents.items es n hd x waits sums.contents);
      states = states ∙ ap (λ k. set s.states.items k (state.Recorded s.recorded)) (place_is s es n p sums same) ∙ ap (λ ss. set ss (place_here es n) (state.Recorded s.recorded)) sums.states
          ∙ ap (λ c. set (states_of es) (place_here es n) (state.Recorded c)) sums.recorded ∙ sym (recorded_states es n hd waits);
      first_waiting = first;
      recorded = recorded ∙ ap (λ c. c + 1) sums.recorded ∙ sym (recorded-count es n hd);
      next = next ∙ sums.next ∙ sym (next_after_recorded es n hd);
      heard = marks ∙ ap (λ k. max k (heard_said es (Recorded n hd))) sums.heard ∙ sym (heard-snoc es (Recorded n hd));
      tries = tried ∙ sums.tries ∙ sym (same_tries es (Recorded n hd) refl);
      keys = subst (λ ks. HasKeys ks (es ++ Recorded n hd ∷ [])) (sym keys) (keys_as_before s.keys.items es (Recorded n hd) tt sums.keys);
      earlier = older ∙ sums.earlier ∙ sym (earlier-snoc es (Recorded n hd) refl);
      last_key = last ∙ sym (last_key_after es (Recorded n hd));
      count = one_more_entry s.count t.count es (Recorded n hd) count sums.count;
    })

pub book_after_cancelled : (s t : Book) (es : List Entry) (e : Entry) (n p : ℕ) (x y : ReceiptState) → IsBookOf s es → MayFollow es e → e ≡ Cancelled n → p ≡ n - (1 + s.earlier)
    → x ≡ get_or s.states.items p x → ((tried : ℕ) → x ≡ state.Waiting tried → y ≡ state.Cancelled tried)
    → (c : Content) → t.contents.items ≡ set s.contents.items p c → t.states.items ≡ set s.states.items p y
    → IsFirstWaiting t.states.items t.first_waiting → t.recorded ≡ s.recorded → t.next ≡ s.next → t.heard ≡ s.heard → t.count ≡ s.count + 1 → t.tries.items ≡ s.tries.items → t.keys.items ≡ s.keys.items → t.last_key ≡ None → t.earlier ≡ s.earlier
    → IsBookOf t (es ++ e ∷ [])
book_after_cancelled s t es e n p x y sums follows kind same is ends c kept states first recorded next marks count tried keys last older =
    let waits : Waits es n = subst (MayFollow es) kind follows in
    let end = ends (times_tried es n) (state_read s es n p x sums waits same is) in
    subst (λ e. IsBookOf t (es ++ e ∷ [])) (sym kind) (record {
      contents = subst (λ cs. HasContents cs (es ++ Cancelled n ∷ [])) (sym (kept ∙ ap (λ k. set s.contents.items k c) (place_is s es n p sums same)))
          (contents_after_end s.contents.items es (Cancelled n) n c (state.Cancelled (times_tried es n)) tt (contents-stay es (Cancelled n) refl) (cancelled_states es n waits) waits sums.contents);
      states = states ∙ ap (set s.states.items p) end ∙ ap (λ k. set s.states.items k (state.Cancelled (times_tried es n))) (place_is s es n p sums same)
          ∙ ap (λ ss. set ss (place_here es n) (state.Cancelled (times_tried es n))) sums.states ∙ sym (cancelled_states es n waits);
      first_waiting = first;
      recorded = recorded ∙ sums.recorded ∙ sym (recorded-same es (Cancelled n) refl);
      next = next ∙ sums.next ∙ sym (next_after_cancelled es n);
      heard = marks ∙ sums.heard ∙ sym (heard_same es (Cancelled n) refl);
      tries = tried ∙ sums.tries ∙ sym (same_tries es (Cancelled n) refl);
      keys = subst (λ ks. HasKeys ks (es ++ Cancelled n ∷ [])) (sym keys) (keys_as_before s.keys.items es (Cancelled n) tt sums.keys);
      earlier = older ∙ sums.earlier ∙ sym (earlier-snoc es (Cancelled n) refl);
      last_key = last ∙ sym (last_key_after es (Cancelled n));
      count = one_more_entry s.count t.count es (Cancelled n) count sums.count;
    })

pub book_after_raised : (s t : Book) (es : List Entry) (e : Entry) (next hd : ℕ) → IsBookOf s es → e ≡ Raised next hd
    → t.contents.items ≡ s.contents.items → t.states.items ≡ s.states.items
    → t.first_waiting ≡ s.first_waiting → t.recorded ≡ s.recorded → t.next ≡ next → t.heard ≡ max s.heard hd → t.count ≡ s.count + 1 → t.tries.items ≡ s.tries.items → t.keys.items ≡ s.keys.items → t.last_key ≡ None → t.earlier ≡ s.earlier
    → IsBookOf t (es ++ e ∷ [])
book_after_raised s t es e next hd sums kind kept states first recorded is_next marks count tried keys last older = subst (λ e. IsBookOf t (es ++ e ∷ [])) (sym kind) (record {
  contents = subst (λ cs. HasContents cs (es ++ Raised next hd ∷ [])) (sym kept) (contents_after_other s.contents.items es (Raised next hd) refl (states_after_raised es next hd) sums.contents);
  states = states ∙ sums.states ∙ sym (states_after_raised es next hd);
  first_waiting = subst (λ ss. IsFirstWaiting ss t.first_waiting) (sym states) (subst (IsFirstWaiting s.states.items) (sym first) sums.first_waiting);
  recorded = recorded ∙ sums.recorded ∙ sym (recorded-same es (Raised next hd) refl);
  next = is_next ∙ sym (next_after_raised es next hd);
  heard = marks ∙ ap (λ k. max k hd) sums.heard ∙ sym (heard-snoc es (Raised next hd));
  tries = tried ∙ sums.tries ∙ sym (same_tries es (Raised next hd) refl);
  keys = subst (λ ks. HasKeys ks (es ++ Raised next hd ∷ [])) (sym keys) (keys_as_before s.keys.items es (Raised next hd) tt sums.keys);
  earlier = older ∙ sums.earlier ∙ sym (earlier-snoc es (Raised next hd) refl);
  last_key = last ∙ sym (last_key_after es (Raised next hd));
  count = one_more_entry s.count t.count es (Raised next hd) count sums.count;
})

pub book_after_key : (s t : Book) (es : List Entry) (e : Entry) (key : List ℕ) → IsBookOf s es → e ≡ Key key
    → t.contents.items ≡ s.contents.items → t.states.items ≡ s.states.items
    → t.first_waiting ≡ s.first_waiting → t.recorded ≡ s.recorded → t.next ≡ s.next → t.heard ≡ s.heard → t.count ≡ s.count + 1 → t.tries.items ≡ s.tries.items → t.keys.items ≡ s.keys.items → t.last_key ≡ Some key → t.earlier ≡ s.earlier
    → IsBookOf t (es ++ e ∷ [])
book_after_key s t es e key sums kind kept states first recorded next marks count tried keys last older = subst (λ e. IsBookOf t (es ++ e ∷ [])) (sym kind) (record {
  contents = subst (λ cs. HasContents cs (es ++ Key key ∷ [])) (sym kept) (contents_after_other s.contents.items es (Key key) refl (states_after_key es key) sums.contents);
  states = states ∙ sums.states ∙ sym (states_after_key es key);
  first_waiting = subst (λ ss. IsFirstWaiting ss t.first_waiting) (sym states) (subst (IsFirstWaiting s.states.items) (sym first) sums.first_waiting);
  recorded = recorded ∙ sums.recorded ∙ sym (recorded-same es (Key key) refl);
  next = next ∙ sums.next ∙ sym (next_after_key es key);
  heard = marks ∙ sums.heard ∙ sym (heard_same es (Key key) refl);
  tries = tried ∙ sums.tries ∙ sym (same_tries es (Key key) refl);
  keys = subst (λ ks. HasKeys ks (es ++ Key key ∷ [])) (sym keys) (keys_as_before s.keys.items es (Key key) tt sums.keys);
  earlier = older ∙ sums.earlier ∙ sym (earlier-snoc es (Key key) refl);
  last_key = last ∙ sym (last_key_after es (Key key));
  count = one_more_entry s.count t.count es (Key key) count sums.count;
})

-- A ledger that goes on from an older one has no entry before that.
pub book_after_renewed : (s t : Book) (es : List Entry) (e : Entry) (older hd : ℕ) → IsBookOf s es → MayFollow es e → e ≡ Renewed older hd
    → t.contents.items ≡ s.contents.items → t.states.items ≡ s.states.items
    → t.first_waiting ≡ s.first_waiting → t.recorded ≡ s.recorded → t.next ≡ s.next → t.heard ≡ max s.heard hd → t.count ≡ s.count + 1 → t.tries.items ≡ s.tries.items → t.keys.items ≡ s.keys.items → t.last_key ≡ None → t.earlier ≡ older
    → IsBookOf t (es ++ e ∷ [])
book_after_renewed s t es e older hd sums follows kind kept states first recorded next marks count tried keys last is =
    let none : es ≡ [] = subst (MayFollow es) kind follows in
    let new : IsBookOf s [] = subst (IsBookOf s) none sums in
    subst (λ es. IsBookOf t (es ++ e ∷ [])) (sym none) (subst (λ e. IsBookOf t (e ∷ [])) (sym kind) (record {
      earlier = is;
      contents = subst (λ cs. HasContents cs (Renewed older hd ∷ [])) (sym kept) (contents_after_other s.contents.items [] (Renewed older hd) refl refl new.contents);
      states = states ∙ new.states;
      first_waiting = subst (λ ss. IsFirstWaiting ss t.first_waiting) (sym states) (subst (IsFirstWaiting s.states.items) (sym first) new.first_waiting);
      recorded = recorded ∙ new.recorded;
      next = next ∙ new.next;
      heard = marks ∙ ap (λ k. max k hd) new.heard ∙ sym (heard-snoc [] (Renewed older hd));
      tries = tried ∙ new.tries;
      keys = subst (λ ks. HasKeys ks (Renewed older hd ∷ [])) (sym keys) (keys_as_before s.keys.items [] (Renewed older hd) tt new.keys);
      last_key = last;
      count = one_more_entry s.count t.count [] (Renewed older hd) count new.count;
    }))

pub book_after_earlier : (s t : Book) (es : List Entry) (e : Entry) (n : ℕ) (key : List ℕ) → IsBookOf s es → MayFollow es e → e ≡ Earlier n key
    → t.contents.items ≡ s.contents.items → t.states.items ≡ s.states.items
    → t.first_waiting ≡ s.first_waiting → t.recorded ≡ s.recorded → t.next ≡ s.next → t.heard ≡ s.heard → t.count ≡ s.count + 1 → t.tries.items ≡ s.tries.items
    → t.keys.items ≡ s.keys.items ++ (key, n) ∷ [] → t.last_key ≡ None → t.earlier ≡ s.earlier
    → IsBookOf t (es ++ e ∷ [])
book_after_earlier s t es e n key sums follows kind kept states first recorded next marks count tried keys last older =
    let may : MayFollow es (Earlier n key) = subst (MayFollow es) kind follows in
    subst (λ e. IsBookOf t (es ++ e ∷ [])) (sym kind) (record {
      contents = subst (λ cs. HasContents cs (es ++ Earlier n key ∷ [])) (sym kept)
          (contents_after_other s.contents.items es (Earlier n key) refl (states_after_earlier es n key) sums.contents);
      states = states ∙ sums.states ∙ sym (states_after_earlier es n key);
      first_waiting = subst (λ ss. IsFirstWaiting ss t.first_waiting) (sym states) (subst (IsFirstWaiting s.states.items) (sym first) sums.first_waiting);
      recorded = recorded ∙ sums.recorded ∙ sym (recorded-same es (Earlier n key) refl);
      next = next ∙ sums.next ∙ sym (next_after_earlier es n key);
      heard = marks ∙ sums.heard ∙ sym (heard_same es (Earlier n key) refl);
      tries = tried ∙ sums.tries ∙ sym (same_tries es (Earlier n key) refl);
      keys = subst (λ ks. HasKeys ks (es ++ Earlier n key ∷ [])) (sym keys) (keys_after_earlier s.keys.items es key n may.0 may.1 sums.keys);
      earlier = older ∙ sums.earlier ∙ sym (earlier-snoc es (Earlier n key) refl);
      last_key = last ∙ sym (last_key_after es (Earlier n key));
      count = one_more_entry s.count t.count es (Earlier n key) count sums.count;
    })

-- A receipt that is taken directly after a key has it; otherwise none.
pub queued_keyed : (s : Book) (es : List Entry) (content : Content) (key : List ℕ) (number : ℕ) (keys : List Keyed) (states : List ReceiptState) → IsBookOf s es → s.last_key ≡ Some key
    → states ≡ s.states.items ++ state.Waiting 0 ∷ [] → number ≡ s.earlier + length states → keys ≡ s.keys.items ++ (key, number) ∷ [] → HasKeys keys (es ++ Queued content ∷ [])
queued_keyed s es content key number keys states book last states_are is are =
    let count : number ≡ last_number es + 1 =
    omega (arith, is, ap length states_are, length-append s.states.items (state.Waiting 0 ∷ []), ap length book.states, last-states es, book.earlier) in
    subst (λ ks. HasKeys ks (es ++ Queued content ∷ [])) (sym are) (keys_after_keyed s.keys.items es content key number (sym book.last_key ∙ last) count book.keys)

pub queued_plain : (s : Book) (es : List Entry) (content : Content) (keys : List Keyed) → IsBookOf s es → s.last_key ≡ None → keys ≡ s.keys.items → HasKeys keys (es ++ Queued content ∷ [])
queued_plain s es content keys book last are =
    subst (λ ks. HasKeys ks (es ++ Queued content ∷ [])) (sym are) (keys_after_plain s.keys.items es content (sym book.last_key ∙ last) book.keys)

-- A number above those of the older ledger, told by the book or by its entries.
pub is_here : (s : Book) (es : List Entry) (n : ℕ) → IsBookOf s es → s.earlier < n → earlier es < n
is_here s es n sums here = subst (λ k. k < n) sums.earlier here

-- How often a receipt was tried is what its state says.
pub tried_so : (s : Book) (es : List Entry) (n p : ℕ) (x : ReceiptState) → IsBookOf s es → s.earlier < n → p ≡ n - (1 + s.earlier) → p < length s.states.items → x ≡ get_or s.states.items p x
    → MatchOption (tries_in x) (Waits es n → ⊥) (λ tried. Waits es n × (times_tried es n ≡ tried))
tried_so s es n p (state.Waiting tried) sums here same within is =
    waits_by_state es n tried (is_here s es n sums here)
    (ap (λ ss. slice_get ss (place_here es n)) (sym sums.states) ∙ ap (slice_get s.states.items) (sym (place_is s es n p sums same))
    ∙ slice_get_read s.states.items (length s.states.items) p (state.Waiting tried) refl within is)
tried_so s es n p (state.Recorded place) sums here same within is =
    λ waits. let bad : state.Recorded place ≡ state.Waiting (times_tried es n) = state_read s es n p (state.Recorded place) sums waits same is in cc
tried_so s es n p (state.Cancelled tried) sums here same within is =
    λ waits. let bad : state.Cancelled tried ≡ state.Waiting (times_tried es n) = state_read s es n p (state.Cancelled tried) sums waits same is in cc

pub tried_past : (s : Book) (es : List Entry) (n p : ℕ) → IsBookOf s es → p ≡ n - (1 + s.earlier) → length s.states.items ≤ p → Waits es n → ⊥
tried_past s es n p sums same past waits =
    let within = within_states es n waits in
    let count : length s.states.items ≡ length (states_of es) = ap length sums.states in
    omega (arith, within, count, past, place_is s es n p sums same)

pub tried_earlier : (s : Book) (es : List Entry) (n : ℕ) → IsBookOf s es → n ≤ s.earlier → Waits es n → ⊥
tried_earlier s es n sums older waits = omega (arith, older, sums.earlier, waits.here)

-- A receipt stands as the state says that is read of it.
pub stands_so : (s : Book) (es : List Entry) (n p : ℕ) (x : ReceiptState) → IsBookOf s es → s.earlier < n → p ≡ n - (1 + s.earlier) → p < length s.states.items → x ≡ get_or s.states.items p x
    → x ≡ state_of es n
stands_so s es n p x sums here same within is =
    let read = slice_get_read s.states.items (length s.states.items) p x refl within is in
    let got : slice_get (states_of es) (place_here es n) ≡ Some x =
    ap (λ ss. slice_get ss (place_here es n)) (sym sums.states) ∙ ap (slice_get s.states.items) (sym (place_is s es n p sums same)) ∙ read in
    let inside : place_here es n < length (contents es) = omega (arith, within, place_is s es n p sums same, ap length sums.states, length-states es) in
    let back : 1 + earlier es + place_here es n ≡ n = omega (arith, is_here s es n sums here) in
    same_Some x (state_of es n) (sym got ∙ states-get es (place_here es n) inside ∙ ap (λ k. Some (state_of es k)) back)

pub past_all : (s : Book) (es : List Entry) (n p : ℕ) → IsBookOf s es → s.earlier < n → p ≡ n - (1 + s.earlier) → length s.states.items ≤ p → last_number es < n
past_all s es n p sums here same past = omega (arith, past, same, here, sums.earlier, ap length sums.states, last-states es)

pub waits_so : (s : Book) (es : List Entry) (n p tried : ℕ) (x : ReceiptState) → IsBookOf s es → s.earlier < n → p ≡ n - (1 + s.earlier) → p < length s.states.items → x ≡ get_or s.states.items p x
    → Some x ≡ Some (state.Waiting tried) → Waits es n × (times_tried es n ≡ tried)
waits_so s es n p tried x sums here same within is waiting =
    let read = slice_get_read s.states.items (length s.states.items) p x refl within is in
    waits_by_state es n tried (is_here s es n sums here)
    (ap (λ ss. slice_get ss (place_here es n)) (sym sums.states) ∙ ap (slice_get s.states.items) (sym (place_is s es n p sums same)) ∙ read ∙ waiting)

-- ## The first that waits

pub none_left : (s : Book) (es : List Entry) → IsBookOf s es → length s.states.items ≤ s.first_waiting → waiting es ≡ []
none_left s es sums past =
    let count : length s.states.items ≡ length (contents es) = ap length sums.states ∙ length-states es in
    no_more es (λ k tried l is. sums.first_waiting.passed k (state.Waiting tried) (omega (arith, count, past)) (ap (λ ss. slice_get ss k) sums.states ∙ is))

content_at : {X : Type 0} (xs : List X) (k : ℕ) → k < length xs → (x : X) × (slice_get xs k ≡ Some x)
content_at [] k l = absurd (omega (arith, l))
content_at (x ∷ xs) zero l = (x, refl)
content_at (x ∷ xs) (suc k) l = content_at xs k (omega (arith, l))

-- The content that is kept of a receipt that waits is the receipt's.
kept_content : (s : Book) (es : List Entry) (place tried : ℕ) (content : Content) → IsBookOf s es → slice_get (states_of es) place ≡ Some (state.Waiting tried)
    → slice_get s.contents.items place ≡ Some content → slice_get (contents es) place ≡ Some content
kept_content s es place tried content sums at is =
    let inside : place < length (contents es) = omega (arith, get-within (states_of es) place (state.Waiting tried) at, length-states es) in
    let found = content_at (contents es) place inside in
    found.1 ∙ sym (sums.contents.waiting place tried found.0 at found.1) ∙ is

pub first_left : (s : Book) (es : List Entry) (place number tried : ℕ) (content : Content) → IsBookOf s es → place ≡ s.first_waiting → StandsAt s place number content tried
    → FirstWaits es number content tried
first_left s es place number tried content sums is stands =
    let at : slice_get (states_of es) place ≡ Some (state.Waiting tried) = ap (λ ss. slice_get ss place) (sym sums.states) ∙ stands.waits in
    let same : number ≡ earlier es + place + 1 = omega (arith, stands.number_is, sums.earlier) in
    subst (λ n. FirstWaits es n content tried) (sym same) (first_of_states es place tried content (kept_content s es place tried content sums at stands.kept) at
    (λ k t l h. sums.first_waiting.passed k (state.Waiting t) (omega (arith, l, is)) (ap (λ ss. slice_get ss k) sums.states ∙ h)))

recorded_no_more : (ss : List ReceiptState) (i k place t : ℕ) → k ≡ i → i < length ss → slice_get (set ss i (state.Recorded place)) k ≡ Some (state.Waiting t) → ⊥
recorded_no_more ss i k place t same inside h =
    let bad : Some (state.Waiting t) ≡ Some (state.Recorded place) = sym h ∙ ap (slice_get (set ss i (state.Recorded place))) same ∙ get-here ss i (state.Recorded place) inside in
    cc

-- Once one receipt is recorded, the first that waits is the first of the others.
pub besides : (s : Book) (es : List Entry) (n hd place number tried : ℕ) (content : Content) → IsBookOf s es → Waits es n → StandsAt s place number content tried → place ≢ place_here es n
    → ((k : ℕ) (x : ReceiptState) → k < place → k ≢ place_here es n → slice_get s.states.items k ≡ Some x → IsEnded x)
    → FirstWaits (es ++ Recorded n hd ∷ []) number content tried × Waits (es ++ Recorded n hd ∷ []) number
besides s es n hd place number tried content sums waits stands differ passed =
    let r : ReceiptState = state.Recorded (length (recorded es)) in
    let p : ℕ = place_here es n in
    let more : List Entry = es ++ Recorded n hd ∷ [] in
    let older : earlier more ≡ earlier es = earlier-snoc es (Recorded n hd) refl in
    let now : states_of more ≡ set (states_of es) p r = recorded_states es n hd waits in
    let at : slice_get (states_of es) place ≡ Some (state.Waiting tried) = ap (λ ss. slice_get ss place) (sym sums.states) ∙ stands.waits in
    let at_now : slice_get (states_of more) place ≡ Some (state.Waiting tried) = ap (λ ss. slice_get ss place) now ∙ get-other (states_of es) p place r (state.Waiting tried) differ at in
    let is : slice_get (contents more) place ≡ Some content = ap (λ cs. slice_get cs place) (contents-stay es (Recorded n hd) refl) ∙ kept_content s es place tried content sums at stands.kept in
    let same : number ≡ earlier more + place + 1 = omega (arith, stands.number_is, sums.earlier, older) in
    let back : place_here more number ≡ place = omega (arith, same) in (
      subst (λ m. FirstWaits more m content tried) (sym same) (first_of_states more place tried content is at_now
          (λ k t l h.
          let set_so : slice_get (set (states_of es) p r) k ≡ Some (state.Waiting t) = ap (λ ss. slice_get ss k) (sym now) ∙ h in
          elim (get-set (states_of es) p k r (state.Waiting t) set_so) [
            | inl here ↦ absurd (let bad : state.Waiting t ≡ r = here.1 in cc)
            | inr other ↦ passed k (state.Waiting t) l (λ here. recorded_no_more (states_of es) p k (length (recorded es)) t here (within_states es n waits) set_so)
                (ap (λ ss. slice_get ss k) sums.states ∙ other)
          ])),
      (waits_by_state more number tried (omega (arith, same)) (ap (slice_get (states_of more)) back ∙ at_now)).0,
    )

pub first_waits : (s : Book) (es : List Entry) (tried : ℕ) → IsBookOf s es → slice_get s.states.items s.first_waiting ≡ Some (state.Waiting tried) → Waits es (s.earlier + s.first_waiting + 1)
first_waits s es tried book is =
    let back : place_here es (s.earlier + s.first_waiting + 1) ≡ s.first_waiting = omega (arith, book.earlier) in
    (waits_by_state es (s.earlier + s.first_waiting + 1) tried (omega (arith, book.earlier)) (ap (slice_get (states es)) back ∙ ap (λ ss. slice_get ss s.first_waiting) (sym book.states) ∙ is)).0

pub stands_waits : (s : Book) (es : List Entry) (place number tried : ℕ) (content : Content) → IsBookOf s es → StandsAt s place number content tried → Waits es number
stands_waits s es place number tried content book stands =
    let same : number ≡ earlier es + place + 1 = omega (arith, stands.number_is, book.earlier) in
    let back : place_here es number ≡ place = omega (arith, same) in
    (waits_by_state es number tried (omega (arith, same)) (ap (slice_get (states es)) back ∙ ap (λ ss. slice_get ss place) (sym book.states) ∙ stands.waits)).0

besides_at : (s : Book) (es : List Entry) (n hd at number tried : ℕ) (content : Content) → IsBookOf s es → IsFirstBesides s.states.items (n - (1 + s.earlier)) at → Waits es n
    → StandsAt s at number content tried → FirstWaits (es ++ Recorded n hd ∷ []) number content tried × Waits (es ++ Recorded n hd ∷ []) number
besides_at s es n hd at number tried content sums first waits stands =
    let first_so : IsFirstBesides s.states.items (place_here es n) at = subst (λ k. IsFirstBesides s.states.items (n - (1 + k)) at) sums.earlier first in
    besides s es n hd at number tried content sums waits stands (first_so.other (get-within s.states.items at (state.Waiting tried) stands.waits)) first_so.passed

-- What is found at a place, as it is said of the first receipt that waits.
pub first_found : (s : Book) (es : List Entry) (r : Option WaitingReceipt) → IsBookOf s es
    → MatchOption r (length s.states.items ≤ s.first_waiting) (λ first. StandsAt s s.first_waiting first.number (content_with first.options first.content.now) first.tried)
    → IfSome r (λ first. Waits es first.number)
    × MatchOption r (waiting es ≡ []) (λ first. FirstWaits es first.number (content_with first.options first.content.now) first.tried)
first_found s es None book past = (tt, none_left s es book past)
first_found s es (Some first) book stands = (
  stands_waits s es s.first_waiting first.number first.tried (content_with first.options first.content.now) book stands,
  first_left s es s.first_waiting first.number first.tried (content_with first.options first.content.now) book refl stands,
)

-- And of the first of the others.
pub others_found : (s : Book) (es : List Entry) (n hd at : ℕ) (r : Option WaitingReceipt) → IsBookOf s es → IsFirstBesides s.states.items (n - (1 + s.earlier)) at → Waits es n
    → MatchOption r (length s.states.items ≤ at) (λ first. StandsAt s at first.number (content_with first.options first.content.now) first.tried)
    → IfSome r (λ first. FirstWaits (es ++ Recorded n hd ∷ []) first.number (content_with first.options first.content.now) first.tried × Waits (es ++ Recorded n hd ∷ []) first.number)
others_found s es n hd at None book first waits past = tt
others_found s es n hd at (Some one) book first waits stands = besides_at s es n hd at one.number one.tried (content_with one.options one.content.now) book first waits stands

pub within_contents : (s : Book) (es : List Entry) (n p : ℕ) → IsBookOf s es → Waits es n → p ≡ n - (1 + s.earlier) → p < length s.contents.items
within_contents s es n p book waits same = omega (arith, book.contents.count, within_states es n waits, length-states es, place_is s es n p book same)

pub within_items : (s : Book) (es : List Entry) (n p : ℕ) → IsBookOf s es → Waits es n → p ≡ n - (1 + s.earlier) → p < length s.states.items
within_items s es n p book waits same = omega (arith, ap length book.states, within_states es n waits, place_is s es n p book same)

pub contents_so : (s : Book) (es : List Entry) → IsBookOf s es → length s.contents.items ≡ length s.states.items
contents_so s es book = omega (arith, book.contents.count, ap length book.states, length-states es)

pub number_is : (made : Option ℕ) (n k : ℕ) → SomeIff made (0 < k) k → made ≡ Some n → n ≡ k
number_is None n k h is = absurd (let bad : None ≡ Some n = is in cc)
number_is (Some m) n k h is = (let same : Some n ≡ Some m = sym is in cc) ∙ h.1

-- ## Keys

pub number_so : (s : Book) (es : List Entry) (key : List ℕ) (r : Option ℕ) → IsBookOf s es → MatchOption r ((n : ℕ) → ListsKey s.keys.items key n → ⊥) (λ n. ListsKey s.keys.items key n)
    → MatchOption r ((n : ℕ) → HasKey es key n → ⊥) (λ n. HasKey es key n)
number_so s es key None book none = λ n has. none n (book.keys.known key n has)
number_so s es key (Some n) book lists = book.keys.listed key n lists

-- A receipt has a key whose number is listed, and no other.
pub listed_so : (s : Book) (es : List Entry) (n : ℕ) → IsBookOf s es → ListsNumber s.keys.items n → (k : List ℕ) × HasKey es k n
listed_so s es n book lists = let found = key_of_number s.keys.items n lists in (found.0, book.keys.listed found.0 n found.1)

pub known_number : (s : Book) (es : List Entry) (n : ℕ) → IsBookOf s es → (k : List ℕ) × HasKey es k n → ListsNumber s.keys.items n
known_number s es n book (k, has) = number_of_key s.keys.items k n (book.keys.known k n has)
