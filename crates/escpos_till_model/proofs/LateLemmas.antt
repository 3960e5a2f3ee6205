-- What the tries of a ledger promise stays when an entry is added, and when something happens to the line.
use Rattle.std.proofs.Common.{ℕ, ◌≡◌, ◌≢◌, ◌+◌, ◌-◌, ◌<◌, ◌≤◌, ◌⊎◌, inl, inr, Bool, true, false, Option, Some, None, List, [], ◌∷◌, ◌++◌, length, refl, sym, ◌∙◌, ap, subst, append-nil, append_assoc, arith}
use Rattle.std.specs.Prelude.{◌==◌, ◌&&◌, cond, filter, is_none, slice_get}
use Rattle.std.specs.List.{position_from}
use Rattle.std.proofs.lemmas.Bool.{cases_lt}
use Rattle.std.proofs.lemmas.List.Elements.{filter_map-append}
use Rattle.escpos_command.specs.declared.command.Command.{Command}
use Rattle.escpos_command.specs.Answers.{Hears}
use Rattle.escpos_command.specs.Digits.{mark_count}
use Rattle.escpos_host.specs.Counted.{id_of}
use Rattle.escpos_host.specs.Earlier.{with_earlier}
use Rattle.escpos_host.specs.Machine.{HostView, IsSound, Down, closed_by}
use Rattle.escpos_host.proofs.Earlier.{earlier_sound}
use Rattle.escpos_link.specs.declared.event.Event.{Event}
use Rattle.escpos_link.specs.declared.event.Event.TheVariants as event
use Rattle.escpos_link.specs.declared.event.Note.{Note}
use Rattle.escpos_link.specs.declared.event.Note.TheVariants as note
use Rattle.escpos_link.specs.EventTable.{After}
use Rattle.escpos_link.specs.Line.{LineView}
use Rattle.escpos_link.specs.Promised.{Promised, PromisedBy}
use Rattle.escpos_link.specs.Promising.{PutsOther}
use Rattle.escpos_link.specs.Trusted.{IsFitting}
use Rattle.escpos_link.specs.Ways.{answered_marks}
use Rattle.escpos_link.specs.Wire.{WireView, given_up, line_of, wire_of, with_link}
use Rattle.escpos_link.proofs.AtTheEnd.{hung_up_by}
use Rattle.escpos_till.specs.declared.entry.Content.{Content}
use Rattle.escpos_till.specs.declared.entry.Entry.{Entry}
use Rattle.escpos_till.specs.declared.entry.Entry.TheVariants.{Queued, Tried, Recorded, Raised, Cancelled, Key, Renewed, Earlier}
use Rattle.escpos_till.specs.declared.tries.Try.{Try}
use Rattle.escpos_till.specs.Delivers.{FirstWaits}
use Rattle.escpos_till.specs.Entries.{IsLedger, MayFollow, Taken, Waits, cancel_of, cancelled, cancel_place_of, contents, earlier, heard, is_open, last_number, next_free, numbered_from, place_of, record_of, recorded, taken}
use Rattle.escpos_till.specs.Machine.{Drops}
use Rattle.escpos_till.specs.Tries.{HasTry, tries, try_of}
use Rattle.escpos_till.proofs.EntryLemmas.{earlier_grows, heard_grows, last_grows, last_same, next_after_tried}
use Rattle.escpos_till_model.proofs.Accounts.{ended_there}
use Rattle.escpos_till_model.proofs.EntryFacts.{next_grows, receipt_of_grows}
use Rattle.escpos_till_model.proofs.HeardLemmas.{idle_at}
use Rattle.escpos_till_model.proofs.LinesKept.{LineLaws, Right, down_or_up, same_wire}
use Rattle.escpos_till_model.specs.Late.{LateAnswers}
use Rattle.escpos_till_model.specs.Receipts.{IsReceiptOf}
use Rattle.escpos_till_model.specs.World.{Wired}

-- ## Tries of a ledger

has_join : (xs ys : List Try) (n c : ℕ) → HasTry (xs ++ ys) n c → HasTry xs n c ⊎ HasTry ys n c
has_join [] ys n c has = inr has
has_join (x ∷ xs) ys n c (inl here) = inl (inl here)
has_join (x ∷ xs) ys n c (inr later) = elim (has_join xs ys n c later) [
  | inl first ↦ inl (inr first)
  | inr last ↦ inr last
]

tries-snoc : (es : List Entry) (e : Entry) → tries (es ++ e ∷ []) ≡ tries es ++ tries (e ∷ [])
tries-snoc es e = filter_map-append try_of es (e ∷ [])

-- A try of the entries with one more is one of those before, or that entry's.
pub has_last : (es : List Entry) (e : Entry) (n c : ℕ) → HasTry (tries (es ++ e ∷ [])) n c → HasTry (tries es) n c ⊎ HasTry (tries (e ∷ [])) n c
has_last es e n c has = has_join (tries es) (tries (e ∷ [])) n c (subst (λ v. HasTry v n c) (tries-snoc es e) has)

-- What holds of no entries, and of a ledger with one more entry if it holds of the ledger, holds of each ledger.
pub by_entries : (P : List Entry → Type 0) → ((es : List Entry) (e : Entry) → MayFollow es e → P es → P (es ++ e ∷ [])) → (before rest : List Entry) → IsLedger (before ++ rest) → P before
    → P (before ++ rest)
by_entries P step before [] ledger holds = subst P (sym (append-nil before)) holds
by_entries P step before (e ∷ rest) ledger holds =
    subst P (append_assoc before (e ∷ []) rest)
    (by_entries P step (before ++ e ∷ []) rest (subst IsLedger (sym (append_assoc before (e ∷ []) rest)) ledger) (step before e (ledger before e rest refl) holds))

-- The closing mark of each try is below the next one that is free, and its receipt was taken.
abbrev pub AreBelow : List Entry → Type 0
AreBelow es = (n c : ℕ) → HasTry (tries es) n c → (c < next_free es) × (n ≤ last_number es)

one_below : (es : List Entry) (e : Entry) (n c : ℕ) → MayFollow es e → HasTry (tries (e ∷ [])) n c → (c < next_free (es ++ e ∷ [])) × (n ≤ last_number (es ++ e ∷ []))
one_below es (Queued content) n c follows has = absurd has
one_below es (Recorded m hd) n c follows has = absurd has
one_below es (Raised next hd) n c follows has = absurd has
one_below es (Cancelled m) n c follows has = absurd has
one_below es (Key key) n c follows has = absurd has
one_below es (Renewed last hd) n c follows has = absurd has
one_below es (Earlier k key) n c follows has = absurd has
one_below es (Tried m next) n c follows (inr none) = absurd none
one_below es (Tried m next) n c follows (inl (number, closing)) =
    let last = next_after_tried es m next in
    let more = follows.1 in
    let within = follows.0.taken in
    let grown = last_grows es (Tried m next ∷ []) in
    (omega (arith, last, closing, more), omega (arith, number, within, grown))

pub are_below : (es : List Entry) → IsLedger es → AreBelow es
are_below es ledger =
    by_entries AreBelow
    (λ before e follows below n c has. elim (has_last before e n c has) [
      | inl old ↦
          let so = below n c old in
          let more = next_grows before e follows in
          let grown = last_grows before (e ∷ []) in
          (omega (arith, so.0, more), omega (arith, so.1, grown))
      | inr new ↦ one_below before e n c follows new
    ]) [] es ledger (λ n c has. absurd has)

-- It is fewer numbers from what is heard than there are ids.
abbrev pub AreNear : List Entry → Type 0
AreNear es = (n c : ℕ) → HasTry (tries es) n c → c < heard es + mark_count

one_near : (es : List Entry) (e : Entry) (n c : ℕ) → MayFollow es e → HasTry (tries (e ∷ [])) n c → c < heard es + mark_count
one_near es (Queued content) n c follows has = absurd has
one_near es (Recorded m hd) n c follows has = absurd has
one_near es (Raised next hd) n c follows has = absurd has
one_near es (Cancelled m) n c follows has = absurd has
one_near es (Key key) n c follows has = absurd has
one_near es (Renewed last hd) n c follows has = absurd has
one_near es (Earlier k key) n c follows has = absurd has
one_near es (Tried m next) n c follows (inr none) = absurd none
one_near es (Tried m next) n c follows (inl (number, closing)) =
    let more = follows.1 in
    let few = follows.2 in
    omega (arith, closing, more, few)

pub are_near : (es : List Entry) → IsLedger es → AreNear es
are_near es ledger =
    by_entries AreNear
    (λ before e follows near n c has.
    let grown = heard_grows before e in
    elim (has_last before e n c has) [
      | inl old ↦ let so = near n c old in omega (arith, so, grown)
      | inr new ↦ let so = one_near before e n c follows new in omega (arith, so, grown)
    ]) [] es ledger (λ n c has. absurd has)

has_more : (xs ys : List Try) (n c : ℕ) → HasTry xs n c → HasTry (xs ++ ys) n c
has_more [] ys n c has = absurd has
has_more (x ∷ xs) ys n c (inl here) = inl here
has_more (x ∷ xs) ys n c (inr later) = inr (has_more xs ys n c later)

has_later : (xs ys : List Try) (n c : ℕ) → HasTry ys n c → HasTry (xs ++ ys) n c
has_later [] ys n c has = has
has_later (x ∷ xs) ys n c has = inr (has_later xs ys n c has)

-- An entry that says that a receipt is tried has a try of it.
pub has_tried : (es before following : List Entry) (n next : ℕ) → es ≡ before ++ Tried n next ∷ following → HasTry (tries es) n (next - 1)
has_tried es before following n next is =
    subst (λ v. HasTry v n (next - 1)) (sym (ap tries is ∙ filter_map-append try_of before (Tried n next ∷ following)))
    (has_later (tries before) (tries (Tried n next ∷ following)) n (next - 1) (inl (refl, refl)))

-- ## Receipts that wait

front_none : (b : Bool) (i : ℕ) (rest more : Option ℕ) → cond b (Some i) more ≡ None → (more ≡ None → rest ≡ None) → cond b (Some i) rest ≡ None
front_none true i rest more h next = absurd cc
front_none false i rest more h next = next h

place_before : (t : ℕ → Bool) (i : ℕ) (xs ys : List ℕ) → position_from t i (xs ++ ys) ≡ None → position_from t i xs ≡ None
place_before t i [] ys none = refl
place_before t i (x ∷ xs) ys none = front_none (t x) i (position_from t (i + 1) xs) (position_from t (i + 1) (xs ++ ys)) none (place_before t (i + 1) xs ys)

-- A receipt that waits after one more entry waited before, if it was taken.
pub waits_before : (es : List Entry) (e : Entry) (n : ℕ) → n ≤ last_number es → Waits (es ++ e ∷ []) n → Waits es n
waits_before es e n within waits = record {
  here = omega (arith, earlier_grows es (e ∷ []), waits.here);
  taken = within;
  open_still = place_before (λ m. m == n) 0 (recorded es) (recorded (e ∷ []))
      (subst (λ v. position_from (λ m. m == n) 0 v ≡ None) (filter_map-append record_of es (e ∷ [])) waits.open_still);
  not_cancelled = place_before (λ m. m == n) 0 (cancelled es) (cancelled (e ∷ []))
      (subst (λ v. position_from (λ m. m == n) 0 v ≡ None) (filter_map-append cancel_of es (e ∷ [])) waits.not_cancelled);
}

-- What comes first in a list of numbered receipts has the least number of those that pass.
least_by : (b : Bool) (t : Taken) (rest : List Taken) (x : Taken) (k : ℕ) → slice_get (cond b (t ∷ rest) rest) 0 ≡ Some x → t.number ≤ k → (b ≡ false → slice_get rest 0 ≡ Some x → x.number ≤ k)
    → x.number ≤ k
least_by true t rest x k is here later = let same : t ≡ x = cc is in omega (arith, here, ap (λ (v : Taken). v.number) same)
least_by false t rest x k is here later = later refl is

least : (p : Taken → Bool) (m : ℕ) (cs : List Content) (x : Taken) (k : ℕ) → slice_get (filter p (numbered_from m cs)) 0 ≡ Some x → m ≤ k → k < m + length cs
    → ((t : Taken) → t.number ≡ k → p t ≡ true) → x.number ≤ k
least p m [] x k is from to passes = absurd (omega (arith, from, to))
least p m (c ∷ cs) x k is from to passes =
    let t : Taken = record { number = m; content = c } in
    least_by (p t) t (filter p (numbered_from (m + 1) cs)) x k is from
    (λ fails rest. elim (cases_lt m k) [
      | inl less ↦ least p (m + 1) cs x k rest (omega (arith, less)) (omega (arith, to)) passes
      | inr not_less ↦ absurd (let bad : true ≡ false = sym (passes t (omega (arith, from, not_less))) ∙ fails in cc)
    ])

pub first_is_least : (es : List Entry) (number tried : ℕ) (content : Content) → FirstWaits es number content tried → (k : ℕ) → Waits es k → number ≤ k
first_is_least es number tried content first k waits =
    least (λ (t : Taken). is_open es t.number) (1 + earlier es) (contents es) (record { number = number; content = content }) k first.first (omega (arith, waits.here))
    (omega (arith, waits.taken))
    (λ t same. open_so (place_of es t.number) (cancel_place_of es t.number) (ap (place_of es) same ∙ waits.open_still) (ap (cancel_place_of es) same ∙ waits.not_cancelled))
  where
    open_so : (p c : Option ℕ) → p ≡ None → c ≡ None → (is_none p && is_none c) ≡ true
    open_so None None place cancel = refl
    open_so None (Some x) place cancel = absurd (cc cancel)
    open_so (Some x) c place cancel = absurd (cc place)

-- ## One more entry

-- One that says of no try: a receipt is taken, or cancelled, or the next number is raised.
pub late_more : (es : List Entry) (e : Entry) (records : List (List Command)) (l : LineView) → IsLedger es → tries (e ∷ []) ≡ [] → LateAnswers es records l
    → LateAnswers (es ++ e ∷ []) records l
late_more es e records l ledger none late =
    let old : (n c : ℕ) → HasTry (tries (es ++ e ∷ [])) n c → HasTry (tries es) n c =
    λ n c has. elim (has_last es e n c has) [ inl before ↦ before | inr new ↦ absurd (subst (λ v. HasTry v n c) none new) ] in
    record {
      first = λ n c waits has k waits_too.
          let has_so = old n c has in
          let within = (are_below es ledger n c has_so).1 in
          elim (cases_lt (last_number es) k) [
            | inl past ↦ omega (arith, within, past)
            | inr inside ↦ late.first n c (waits_before es e n within waits) has_so k (waits_before es e k (omega (arith, inside)) waits_too)
          ];
      promise = λ n c waits has few.
          let has_so = old n c has in
          let within = (are_below es ledger n c has_so).1 in
          let grown = heard_grows es e in
          let (receipt, is, promised) = late.promise n c (waits_before es e n within waits) has_so (omega (arith, grown, few)) in
          (receipt, receipt_of_grows es (e ∷ []) n receipt is, promised);
    }

-- One that says that the first receipt that waits is tried.
pub late_tried : (es : List Entry) (m next : ℕ) (records : List (List Command)) (receipt : List Command) (l : LineView) → IsLedger es → MayFollow es (Tried m next)
    → ((k : ℕ) → Waits es k → m ≤ k) → IsReceiptOf es m receipt → Promised records (closed_by receipt (next - 1)) l
    → LateAnswers es records l → LateAnswers (es ++ Tried m next ∷ []) records l
late_tried es m next records receipt l ledger follows leads is made late =
    let e = Tried m next in
    let back : (k : ℕ) → Waits (es ++ e ∷ []) k → Waits es k =
    λ k waits. waits_before es e k (let within = waits.taken in omega (arith, within, same_count es m next)) waits in
    record {
      first = λ n c waits has k waits_too. elim (has_last es e n c has) [
        | inl before ↦ late.first n c (back n waits) before k (back k waits_too)
        | inr (inl (number, closing)) ↦ let least = leads k (back k waits_too) in omega (arith, number, least)
        | inr (inr none) ↦ absurd none
      ];
      promise = λ n c waits has few. elim (has_last es e n c has) [
        | inl before ↦
            let grown = heard_grows es e in
            let (other, so, promised) = late.promise n c (back n waits) before (omega (arith, grown, few)) in
            (other, receipt_of_grows es (e ∷ []) n other so, promised)
        | inr (inl (number, closing)) ↦ (
          receipt,
          receipt_of_grows es (e ∷ []) n receipt (subst (λ k. IsReceiptOf es k receipt) number is),
          subst (λ k. Promised records (closed_by receipt k) l) closing made,
        )
        | inr (inr none) ↦ absurd none
      ];
    }
  where
    same_count : (es : List Entry) (m next : ℕ) → last_number (es ++ Tried m next ∷ []) ≡ last_number es
    same_count es m next = last_same es (Tried m next) refl refl

-- One that says that a receipt is recorded, which was tried: no other that waits was.
pub late_recorded : (es : List Entry) (m hd c0 : ℕ) (records : List (List Command)) (l : LineView) (others : List (List Command)) (after : LineView) → IsLedger es → Waits es m
    → HasTry (tries es) m c0 → LateAnswers es records l → LateAnswers (es ++ Recorded m hd ∷ []) others after
late_recorded es m hd c0 records l others after ledger waits_m has_m late =
    let none : (n c : ℕ) → Waits (es ++ Recorded m hd ∷ []) n → HasTry (tries (es ++ Recorded m hd ∷ [])) n c → ⊥ =
    λ n c waits has. elim (has_last es (Recorded m hd) n c has) [
      | inl before ↦
          let within = (are_below es ledger n c before).1 in
          let waits_so = waits_before es (Recorded m hd) n within waits in
          let one = late.first n c waits_so before m waits_m in
          let other = late.first m c0 waits_m has_m n waits_so in
          ended_there es [] (Recorded m hd) n (omega (arith, one, other)) waits
      | inr new ↦ absurd new
    ] in
    record {
      first = λ n c waits has. absurd (none n c waits has);
      promise = λ n c waits has. absurd (none n c waits has);
    }

-- ## The line goes on

pub late_on : LineLaws → (es : List Entry) (records : List (List Command)) (e : Event) (l after : LineView) (n : Note) → IsFitting e → IsSound l.host → Right l → After e l n after
    → ((number closing : ℕ) → HasTry (tries es) number closing → heard es ≤ closing → PutsOther e l.host (id_of closing)) → LateAnswers es records l → LateAnswers es records after
late_on laws es records e l after n fits sound right happened other late = record {
  first = late.first;
  promise = λ number closing waits has few.
      let (receipt, is, promised) = late.promise number closing waits has few in (
        receipt,
        is,
        laws.promise.stays e l after n records (closed_by receipt closing) fits sound right.line happened right.trusted (other number closing has few) promised,
      );
}

-- Another host, with the same to put out and the same half answer.
pub late_host : (es : List Entry) (records : List (List Command)) (h other : HostView) (w : WireView) → other.half ≡ h.half → other.out ≡ h.out → LateAnswers es records (line_of h w)
    → LateAnswers es records (line_of other w)
late_host es records h other w half out late = record {
  first = late.first;
  promise = λ number closing waits has few.
      let (receipt, is, promised) = late.promise number closing waits has few in (
        receipt,
        is,
        record {
          answers = promised.answers;
          hears = subst (λ v. Hears (v ++ w.coming) promised.answers []) (sym half) promised.hears;
          by = subst
              (λ v. PromisedBy w.printer.sheet.line_dots (closed_by receipt closing) records v w.printer.sheet w.printer.half w.ended w.live
              (answered_marks (promised.answers ++ w.printer.waiting))) (sym out) promised.by;
        },
      );
}

-- The host gives its link up, if it has one.
pub drops_late : LineLaws → (es : List Entry) (records earlier : List (List Command)) (h other : HostView) (w new : WireView) → IsSound h → Drops h other → Wired h other w new
    → Right (line_of (with_earlier earlier h) w) → LateAnswers es records (line_of (with_earlier earlier h) w) → LateAnswers es records (line_of (with_earlier earlier other) new)
drops_late laws es records earlier h other w new sound drops wired right late = elim (down_or_up h.phase) [
  | inl down ↦
      let same = drops.0 down in
      subst (λ v. LateAnswers es records (line_of (with_earlier earlier other) v)) (sym (same_wire h other w new same wired))
      (subst (λ v. LateAnswers es records (line_of (with_earlier earlier v) w)) (sym same) late)
  | inr up ↦
      let gone = drops.1 up in
      let is : new ≡ given_up w = wired.goes_down up (ap (λ v. v.phase) gone) in
      subst (λ v. LateAnswers es records (line_of (with_earlier earlier other) v)) (sym is)
      (late_on laws es records event.HostDrops (line_of (with_earlier earlier h) w) (line_of (with_earlier earlier other) (given_up w)) note.Done tt (earlier_sound earlier h sound) right
      (hung_up_by (with_earlier earlier h) (with_earlier earlier other) w (λ _. ap (with_earlier earlier) gone) (λ down. absurd (up down))) (λ number closing has few. tt) late)
]

-- A host that is made anew, off its link.
pub late_off : LineLaws → (es : List Entry) (records : List (List Command)) (l : LineView) (host : HostView) → host.half ≡ [] → LateAnswers es records l
    → LateAnswers es records (line_of host (given_up (wire_of l)))
late_off laws es records l host half late = record {
  first = late.first;
  promise = λ number closing waits has few.
      let (receipt, is, promised) = late.promise number closing waits has few in
      (receipt, is, laws.promise.off l host records (closed_by receipt closing) half promised);
}

-- A host with no link, made anew.
pub late_fresh : (es : List Entry) (records earlier others : List (List Command)) (h : HostView) (w : WireView) (f hd : ℕ) → IsSound h → h.phase ≡ Down
    → LateAnswers es records (line_of (with_earlier earlier h) w) → LateAnswers es records (line_of (with_earlier others (idle_at f hd)) w)
late_fresh es records earlier others h w f hd sound down late =
    late_host es records (with_earlier earlier h) (with_earlier others (idle_at f hd)) w (sym (sound.quiet down).1) (sym (sound.quiet down).0) late

-- A link with nothing on it.
pub late_idle : LineLaws → (es : List Entry) (records : List (List Command)) (h : HostView) (w : WireView) → h.phase ≡ Down → Right (line_of h w) → LateAnswers es records (line_of h w)
    → LateAnswers es records (line_of h (given_up (with_link w)))
late_idle laws es records h w down right late = record {
  first = late.first;
  promise = λ number closing waits has few.
      let (receipt, is, promised) = late.promise number closing waits has few in
      (receipt, is, laws.promise.idle h w records (closed_by receipt closing) down right.line right.trusted promised);
}

-- Two marks with other numbers, fewer apart than there are ids.
pub other_mark : LineLaws → (m n : ℕ) → m < n → n < m + mark_count → id_of m ≢ id_of n
other_mark laws m n less few same = let one = laws.apart m n (omega (arith, less)) few same in omega (arith, one, less)

-- ## Which try it is

front_ledger : (before rest : List Entry) → IsLedger (before ++ rest) → IsLedger before
front_ledger before rest ledger pre e post is =
    ledger pre e (post ++ rest) (ap (λ v. v ++ rest) is ∙ append_assoc pre (e ∷ post) rest)

-- Seen from an entry that says that a receipt is tried, each try is one of before, that one, or a later one, with a higher mark.
abbrev pub IsPlaced : ℕ → ℕ → ℕ → List Entry → Type 0
IsPlaced n limit low es =
    ((m c : ℕ) → HasTry (tries es) m c → (c < low) ⊎ (((m ≡ n) × (c ≡ limit - 1)) ⊎ (limit ≤ c))) × (limit ≤ next_free es)

above : (limit : ℕ) (es : List Entry) (e : Entry) (m c : ℕ) → limit ≤ next_free es → MayFollow es e → HasTry (tries (e ∷ [])) m c → limit ≤ c
above limit es (Queued content) m c within follows has = absurd has
above limit es (Recorded k hd) m c within follows has = absurd has
above limit es (Raised next hd) m c within follows has = absurd has
above limit es (Cancelled k) m c within follows has = absurd has
above limit es (Key key) m c within follows has = absurd has
above limit es (Renewed last hd) m c within follows has = absurd has
above limit es (Earlier number key) m c within follows has = absurd has
above limit es (Tried k next) m c within follows (inr none) = absurd none
above limit es (Tried k next) m c within follows (inl (number, closing)) = let more = follows.1 in omega (arith, within, more, closing)

placed_after : (n limit low : ℕ) (es : List Entry) (e : Entry) → MayFollow es e → IsPlaced n limit low es → IsPlaced n limit low (es ++ e ∷ [])
placed_after n limit low es e follows (placed, within) = (
  λ m c has. elim (has_last es e m c has) [
    | inl before ↦ placed m c before
    | inr new ↦ inr (inr (above limit es e m c within follows new))
  ],
  let more = next_grows es e follows in omega (arith, within, more),
)

pub which_try : (es before following : List Entry) (n limit : ℕ) → IsLedger es → es ≡ before ++ Tried n limit ∷ following → IsPlaced n limit (next_free before) es
which_try es before following n limit ledger is =
    let e = Tried n limit in
    let split : es ≡ (before ++ e ∷ []) ++ following = is ∙ sym (append_assoc before (e ∷ []) following) in
    let there = subst IsLedger split ledger in
    let front = front_ledger (before ++ e ∷ []) following there in
    let follows = front before e [] refl in
    subst (IsPlaced n limit (next_free before)) (sym split)
    (by_entries (IsPlaced n limit (next_free before)) (placed_after n limit (next_free before)) (before ++ e ∷ []) following there (
      λ m c has. elim (has_last before e m c has) [
        | inl old ↦ inl (are_below before (front_ledger before (e ∷ []) front) m c old).0
        | inr (inl (number, closing)) ↦ inr (inl (sym number, sym closing))
        | inr (inr none) ↦ absurd none
      ],
      let last = next_after_tried before n limit in omega (arith, last),
    ))
