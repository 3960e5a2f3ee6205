-- What holds of every world holds after others have added entries to its ledger, and its machine has learned that.
use Rattle.std.proofs.Common.{ℕ, zero, suc, true, false, ◌==◌, ◌≡◌, ◌+◌, ◌<◌, ◌≤◌, ◌⊎◌, inl, inr, cond, Option, Some, None, List, [], ◌∷◌, ◌++◌, length, refl, sym, ◌∙◌, ap, subst, append-nil, append_assoc, arith}
use Rattle.std.specs.Prelude.{Bool}
use Rattle.std.specs.List.{AllByRecursion, position_from}
use Rattle.std.proofs.Math.Nat.{le-max_right}
use Rattle.escpos_host.specs.Earlier.{with_earlier}
use Rattle.escpos_host.specs.Machine.{HostView, IsSound}
use Rattle.escpos_link.specs.Wire.{WireView, line_of}
use Rattle.escpos_till.specs.declared.book.Book.{Book}
use Rattle.escpos_till.specs.declared.entry.Entry.{Entry}
use Rattle.escpos_till.specs.declared.entry.Entry.TheVariants as entry
use Rattle.escpos_till.specs.declared.stage.Due.{Due}
use Rattle.escpos_till.specs.declared.stage.Stage.TheVariants as stage
use Rattle.escpos_till.specs.declared.stage.Then.{Then}
use Rattle.escpos_till.specs.declared.stage.Then.TheVariants as then
use Rattle.escpos_till.specs.declared.note.TillNote.{TillNote}
use Rattle.escpos_till.specs.declared.note.TillNote.TheVariants as note
use Rattle.escpos_till.specs.declared.state.ReceiptState.TheVariants as state
use Rattle.escpos_till.specs.declared.store.StoreFault.{StoreFault}
use Rattle.escpos_till.specs.Book.{IsBookOf}
use Rattle.escpos_till.specs.Delivers.{marks_taken}
use Rattle.escpos_till.specs.Entries.{MayFollow, Waits, cancel_place_of, cancelled, last_number, next_free, place_in, place_of, record_of, state_by, state_of, times_tried}
use Rattle.escpos_till.specs.Learning.{FailsToLearn, FollowAll, IsOthers, LearnsAll, Revises, WaitsIn}
use Rattle.escpos_till.specs.Further.{heard_by}
use Rattle.escpos_till.specs.Machine.{Drops, MachineView, mark_limit, printed}
use Rattle.escpos_till.specs.Tries.{tries}
use Rattle.escpos_till.proofs.EntryLemmas.{earlier_grows}
use Rattle.escpos_till.proofs.LearningLemmas.{others_recorded, others_tried}
use Rattle.escpos_till_model.specs.Kept.{Hand}
use Rattle.escpos_till_model.specs.Known.{Accounted, BookMayLag, Holds, IsToKeep, IsToRecord, IsToSend, IsWorld}
use Rattle.escpos_till_model.specs.Late.{HasJustBegun}
use Rattle.escpos_till_model.specs.Receipts.{Among}
use Rattle.escpos_till_model.specs.World.{IsSo, Learns, Wired, World}
use Rattle.escpos_till_model.proofs.Accounts.{place_given}
use Rattle.escpos_till_model.proofs.EntryFacts.{cancelled_append, next_grows, receipt_of_grows}
use Rattle.escpos_till_model.proofs.LinesKept.{LineLaws, Right, same_wire, drops_right}
use Rattle.escpos_till_model.proofs.WorldCalls.{AreSo, Parts, gone_account, gone_begun, parts, whole}
use Rattle.escpos_till_model.proofs.HeardLemmas.{IsPlain}
use Rattle.escpos_till_model.proofs.WorldStore.{lost_holds, lost_lags, more_account, so_grows, so_later}
use Rattle.escpos_till_model.proofs.WorldHears.{to_send_next}

-- ## More entries

other_records : (e : Entry) → IsOthers e → record_of e ≡ None
other_records (entry.Queued content) is = refl
other_records (entry.Tried n next) is = absurd is
other_records (entry.Recorded n hd) is = absurd is
other_records (entry.Raised next hd) is = refl
other_records (entry.Cancelled n) is = refl
other_records (entry.Key key) is = refl
other_records (entry.Renewed last hd) is = absurd is
other_records (entry.Earlier n key) is = absurd is

other_tries : (e : Entry) → IsOthers e → tries (e ∷ []) ≡ []
other_tries (entry.Queued content) is = refl
other_tries (entry.Tried n next) is = absurd is
other_tries (entry.Recorded n hd) is = absurd is
other_tries (entry.Raised next hd) is = refl
other_tries (entry.Cancelled n) is = refl
other_tries (entry.Key key) is = refl
other_tries (entry.Renewed last hd) is = absurd is
other_tries (entry.Earlier n key) is = absurd is

other_plain : (e : Entry) → IsOthers e → IsPlain e
other_plain (entry.Queued content) is = tt
other_plain (entry.Raised next hd) is = tt
other_plain (entry.Cancelled n) is = tt
other_plain (entry.Key key) is = tt
other_plain (entry.Tried n next) is = absurd is
other_plain (entry.Recorded n hd) is = absurd is
other_plain (entry.Renewed last hd) is = absurd is
other_plain (entry.Earlier n key) is = absurd is

-- With those of others the entries are accounted for still, whatever is in hand.
others_account : LineLaws → (kept others : List Entry) (hand : Option Hand) (h : HostView) (w : WireView) → AllByRecursion IsOthers others → FollowAll kept others → Accounted kept hand h w
    → Accounted (kept ++ others) hand h w
others_account laws kept [] hand h w each follow a = subst (λ es. Accounted es hand h w) (sym (append-nil kept)) a
others_account laws kept (e ∷ others) hand h w (is, each) (follows, follow) a =
    subst (λ es. Accounted es hand h w) (append_assoc kept (e ∷ []) others)
    (others_account laws (kept ++ e ∷ []) others hand h w each follow (more_account laws kept e hand h w (other_plain e is) (other_records e is) (other_tries e is) follows a))

others_next : (kept others : List Entry) → FollowAll kept others → next_free kept ≤ next_free (kept ++ others)
others_next kept [] follow = subst (λ es. next_free kept ≤ next_free es) (sym (append-nil kept)) (omega arith)
others_next kept (e ∷ others) (follows, follow) =
    subst (λ es. next_free kept ≤ next_free es) (append_assoc kept (e ∷ []) others)
    (omega (arith, next_grows kept e follows, others_next (kept ++ e ∷ []) others follow))

pub so_with_others : (kept others : List Entry) (notes : List TillNote) → FollowAll kept others → AreSo kept notes → AreSo (kept ++ others) notes
so_with_others kept [] notes follow so = subst (λ es. AreSo es notes) (sym (append-nil kept)) so
so_with_others kept (e ∷ others) notes (follows, follow) so =
    subst (λ es. AreSo es notes) (append_assoc kept (e ∷ []) others) (so_with_others (kept ++ e ∷ []) others notes follow (so_later kept e notes follows so))

one_with_others : (kept others : List Entry) (n : TillNote) → FollowAll kept others → IsSo kept n → IsSo (kept ++ others) n
one_with_others kept [] n follow so = subst (λ es. IsSo es n) (sym (append-nil kept)) so
one_with_others kept (e ∷ others) n (follows, follow) so =
    subst (λ es. IsSo es n) (append_assoc kept (e ∷ []) others) (one_with_others (kept ++ e ∷ []) others n follow (so_grows kept e n follows so))

-- ## What waits

none_by : (b : Bool) (i : ℕ) (rest : Option ℕ) → cond b (Some i) rest ≡ None → (b ≡ false) × (rest ≡ None)
none_by true i rest is = absurd (let bad : Some i ≡ None = is in cc)
none_by false i rest is = (refl, is)

none_before : (n i : ℕ) (xs ys : List ℕ) → position_from (λ m. m == n) i (xs ++ ys) ≡ None → position_from (λ m. m == n) i xs ≡ None
none_before n i [] ys none = refl
none_before n i (x ∷ xs) ys none =
    let (other, rest) = none_by (x == n) i (position_from (λ m. m == n) (i + 1) (xs ++ ys)) none in
    ap (λ b. cond b (Some i) (position_from (λ m. m == n) (i + 1) xs)) other ∙ none_before n (i + 1) xs ys rest

-- What waits then waited before, or is one of those that were taken since.
waited_or_taken : (kept others : List Entry) (k : ℕ) → AllByRecursion IsOthers others → Waits (kept ++ others) k → Waits kept k ⊎ (last_number kept < k)
waited_or_taken kept others k each waits = elim (within_or_beyond k (last_number kept)) [
  | inl within ↦ inl (record {
    here = omega (arith, earlier_grows kept others, waits.here);
    taken = within;
    open_still = ap (λ rs. place_in rs k) (sym (others_recorded kept others each)) ∙ waits.open_still;
    not_cancelled = none_before k 0 (cancelled kept) (cancelled others) (ap (λ cs. place_in cs k) (sym (cancelled_append kept others)) ∙ waits.not_cancelled);
  })
  | inr beyond ↦ inr beyond
]
  where
    within_or_beyond : (a b : ℕ) → (a ≤ b) ⊎ (b < a)
    within_or_beyond zero b = inl (omega arith)
    within_or_beyond (suc a) zero = inr (omega arith)
    within_or_beyond (suc a) (suc b) = elim (within_or_beyond a b) [
      | inl less ↦ inl (omega (arith, less))
      | inr more ↦ inr (omega (arith, more))
    ]

-- ## What is cancelled

cancelled_by : (es : List Entry) (n tried : ℕ) (place cancel : Option ℕ) → place_of es n ≡ place → cancel_place_of es n ≡ cancel → state_by place cancel (times_tried es n) ≡ state.Cancelled tried
    → Among n (cancelled es) × (times_tried es n ≡ tried)
cancelled_by es n tried (Some k) cancel at is so = absurd (let bad : state.Recorded k ≡ state.Cancelled tried = so in cc)
cancelled_by es n tried None None at is so = absurd (let bad : state.Waiting (times_tried es n) ≡ state.Cancelled tried = so in cc)
cancelled_by es n tried None (Some k) at is so = (place_given n k 0 (cancelled es) is, let same : state.Cancelled (times_tried es n) ≡ state.Cancelled tried = so in cc)

pub cancelled_so : (es : List Entry) (n tried : ℕ) → state_of es n ≡ state.Cancelled tried → IsSo es (note.Cancelled n tried)
cancelled_so es n tried so = cancelled_by es n tried (place_of es n) (cancel_place_of es n) refl refl so

-- ## The machine learns of them

-- The try that is to be kept now.
sends_still : (kept others : List Entry) (due : Due) (b : Book) → AllByRecursion IsOthers others → IsBookOf b (kept ++ others) → Waits (kept ++ others) due.number
    → b.next + marks_taken due.openings ≤ mark_limit b → IsToSend kept due → IsToSend (kept ++ others) due
sends_still kept others due b each book waits marks send = record {
  receipt = receipt_of_grows kept others due.number due.receipt send.receipt;
  within = omega (arith, book.next, book.heard, marks);
  fits = send.fits;
  follows = (waits, omega (arith, le-max_right due.openings 1), omega (arith, book.next, book.heard, marks));
  first = λ k waits_k. elim (waited_or_taken kept others k each waits_k) [
    | inl waited ↦ send.first k waited
    | inr since ↦ omega (arith, since, send.follows.0.taken)
  ];
}

-- The link is given up, and nothing is in hand any more.
gives_up : LineLaws → (m after : MachineView) (kept others : List Entry) (w new : WireView) (p : Parts m kept w) → AllByRecursion IsOthers others → FollowAll kept others → Drops m.host after.host
    → IsSound after.host → Wired m.host after.host w new → ((BookMayLag after.stage → ⊥) → IsBookOf after.book (kept ++ others)) → Holds (kept ++ others) None (with_earlier p.earlier after.host) after.stage
    → Parts after (kept ++ others) new
gives_up laws m after kept others w new p each follow drops sound wired book holds = record {
  earlier = p.earlier;
  sound = sound;
  right = drops_right laws p.earlier m.host after.host w new p.sound drops wired p.right;
  hand = None;
  account = gone_account laws p.earlier m.host after.host (kept ++ others) p.hand w new p.sound drops wired p.right
      (others_account laws kept others p.hand (with_earlier p.earlier m.host) w each follow p.account);
  begun = gone_begun m.host after.host drops;
  book = book;
  holds = holds;
}

-- The link stays, and what is in hand.
stays_on : LineLaws → (m after : MachineView) (kept others : List Entry) (w new : WireView) (p : Parts m kept w) → AllByRecursion IsOthers others → FollowAll kept others → after.host ≡ m.host
    → IsSound after.host → Wired m.host after.host w new → IsBookOf after.book (kept ++ others) → Holds (kept ++ others) p.hand (with_earlier p.earlier m.host) after.stage
    → Parts after (kept ++ others) new
stays_on laws m after kept others w new p each follow same sound wired book holds =
    let wire : new ≡ w = same_wire m.host after.host w new same wired in
    record {
      earlier = p.earlier;
      sound = sound;
      right = subst (λ v. Right (line_of (with_earlier p.earlier after.host) v)) (sym wire) (subst (λ h. Right (line_of (with_earlier p.earlier h) w)) (sym same) p.right);
      hand = p.hand;
      account = subst (λ v. Accounted (kept ++ others) p.hand (with_earlier p.earlier after.host) v) (sym wire)
          (subst (λ h. Accounted (kept ++ others) p.hand (with_earlier p.earlier h) w) (sym same) (others_account laws kept others p.hand (with_earlier p.earlier m.host) w each follow p.account));
      begun = subst HasJustBegun (sym same) p.begun;
      book = λ live. book;
      holds = subst (λ h. Holds (kept ++ others) p.hand (with_earlier p.earlier h) after.stage) (sym same) holds;
    }

-- What is heard of a receipt is still to be kept.
still_records : LineLaws → (m after : MachineView) (kept others : List Entry) (w new : WireView) (e : Entry) (n : ℕ) → (p : Parts m kept w) → AllByRecursion IsOthers others → FollowAll kept others
    → MayFollow kept e → IsToRecord kept p.hand (with_earlier p.earlier m.host) e n → IsBookOf after.book (kept ++ others) → WaitsIn after.book n → after.host ≡ m.host → after.stage ≡ printed after.book n m.host
    → IsSound after.host → Wired m.host after.host w new → Parts after (kept ++ others) new
still_records laws m after kept others w new e n p each follow follows (held, hand_is, number, (hd, is, some, heard_so), fewer, up) book waits same now sound wired =
    let more : List Entry = kept ++ others in
    let before : MayFollow kept (entry.Recorded n hd) = subst (MayFollow kept) is follows in
    let tried : 0 < times_tried more n = omega (arith, others_tried kept others n each, before.1) in
    let counts = ap length (others_recorded kept others each) in
    stays_on laws m after kept others w new p each follow same sound wired book
    (subst (λ s. Holds more p.hand (with_earlier p.earlier m.host) s) (sym now) (
      (waits more book, tried, omega (arith, book.next)),
      (held, hand_is, number, (heard_by after.book m.host, refl, omega (arith, some, heard_so, book.next, before.2, others_next kept others follow), omega arith), omega (arith, fewer, counts), up),
    ))

learned_parts : LineLaws → (m after : MachineView) (kept others : List Entry) (w new : WireView) (e : Entry) (next : Then) → (p : Parts m kept w) → AllByRecursion IsOthers others → FollowAll kept others
    → MayFollow kept e → IsToKeep kept p.hand (with_earlier p.earlier m.host) e next → IsBookOf after.book (kept ++ others) → Revises next after.book m.host after.host after.stage → IsSound after.host
    → Wired m.host after.host w new → Parts after (kept ++ others) new
learned_parts laws m after kept others w new e (then.Send due) p each follow follows (none, send, is) book (inl (waits, marks, same, now)) sound wired =
    let more : List Entry = kept ++ others in
    let waits_so : Waits more due.number = waits more book in
    let still = sends_still kept others due after.book each book waits_so marks send in
    let tried : Entry = entry.Tried due.number (next_free more + marks_taken due.openings) in
    let number : after.book.next ≡ next_free more = book.next in
    let now_so : after.stage ≡ stage.Keeping tried (then.Send due) = now ∙ ap (λ n. stage.Keeping (entry.Tried due.number (n + marks_taken due.openings)) (then.Send due)) number in
    stays_on laws m after kept others w new p each follow same sound wired book
    (subst (λ s. Holds more p.hand (with_earlier p.earlier m.host) s) (sym now_so) (still.follows, (none, still, refl)))
learned_parts laws m after kept others w new e (then.Send due) p each follow follows (none, send, is) book (inr (inl (waits, few, drops, now))) sound wired =
    gives_up laws m after kept others w new p each follow drops sound wired (λ live. book)
    (subst (λ s. Holds (kept ++ others) None (with_earlier p.earlier after.host) s) (sym now) (refl, tt))
learned_parts laws m after kept others w new e (then.Send due) p each follow follows (none, send, is) book (inr (inr (tried, cancelled, drops, now))) sound wired =
    gives_up laws m after kept others w new p each follow drops sound wired (λ live. book)
    (subst (λ s. Holds (kept ++ others) None (with_earlier p.earlier after.host) s) (sym now) (refl, cancelled_so (kept ++ others) due.number tried (cancelled (kept ++ others) book)))
learned_parts laws m after kept others w new e (then.Recorded n) p each follow follows to_record book (inl (waits, same, now)) sound wired =
    still_records laws m after kept others w new e n p each follow follows to_record book waits same now sound wired
learned_parts laws m after kept others w new e (then.Recorded n) p each follow follows to_keep book (inr (tried, cancelled, drops, now)) sound wired =
    gives_up laws m after kept others w new p each follow drops sound wired (λ live. book)
    (subst (λ s. Holds (kept ++ others) None (with_earlier p.earlier after.host) s) (sym now) (refl, cancelled_so (kept ++ others) n tried (cancelled (kept ++ others) book)))
learned_parts laws m after kept others w new e (then.GoOn n tried due) p each follow follows (to_record, send) book (inl (waits, same, inl now)) sound wired =
    still_records laws m after kept others w new e n p each follow follows to_record book waits same now sound wired
learned_parts laws m after kept others w new e (then.GoOn n tried due) p each follow follows ((held, hand_is, number, (hd, is, some, heard_so), fewer, up), send) book (inl (waits, same, inr goes)) sound wired =
    let more : List Entry = kept ++ others in
    let before : MayFollow kept (entry.Recorded n hd) = subst (MayFollow kept) is follows in
    let times : 0 < times_tried more n = omega (arith, others_tried kept others n each, before.1) in
    let counts = ap length (others_recorded kept others each) in
    let may : MayFollow more (entry.Recorded n (heard_by after.book m.host)) = (waits more book, times, omega (arith, book.next)) in
    stays_on laws m after kept others w new p each follow same sound wired book
    (subst (λ s. Holds more p.hand (with_earlier p.earlier m.host) s) (sym goes.stage_is) (
      may,
      ((held, hand_is, number, (heard_by after.book m.host, refl, omega (arith, some, heard_so, book.next, before.2, others_next kept others follow), omega arith), omega (arith, fewer, counts), up), to_send_next laws more after.book n due.further p.earlier m.host goes.due book may goes.after),
    ))
learned_parts laws m after kept others w new e (then.GoOn n tried due) p each follow follows to_keep book (inr (times, cancelled, drops, now)) sound wired =
    gives_up laws m after kept others w new p each follow drops sound wired (λ live. book)
    (subst (λ s. Holds (kept ++ others) None (with_earlier p.earlier after.host) s) (sym now) (refl, cancelled_so (kept ++ others) n times (cancelled (kept ++ others) book)))
learned_parts laws m after kept others w new e (then.SendNext n due) p each follow follows (held, hand_is, all, send, so) book (drops, now) sound wired =
    gives_up laws m after kept others w new p each follow drops sound wired (λ live. book)
    (subst (λ s. Holds (kept ++ others) None (with_earlier p.earlier after.host) s) (sym now) (refl, one_with_others kept others (note.Recorded n) follow so))
learned_parts laws m after kept others w new e then.Queued p each follow follows to_keep book none sound wired = absurd none
learned_parts laws m after kept others w new e (then.Take content) p each follow follows to_keep book none sound wired = absurd none
learned_parts laws m after kept others w new e then.Raised p each follow follows to_keep book none sound wired = absurd none
learned_parts laws m after kept others w new e (then.Cancelled n tried) p each follow follows to_keep book none sound wired = absurd none

pub learned : LineLaws → (w new : World) (others : List Entry) → IsWorld w → Learns (λ next m after. LearnsAll next others m after) w others new → IsWorld new
learned laws w new others known v =
    let moves = v.moves in
    let p = parts w moves.m moves.was known in
    let (is, goes) = moves.goes in
    let (each, notes, revises) = goes in
    let (follows, to_keep) = subst (λ s. Holds w.kept p.hand (with_earlier p.earlier moves.m.host) s) is p.holds in
    let book : IsBookOf moves.m.book w.kept = p.book (λ lags. subst BookMayLag is lags) in
    subst IsWorld (sym moves.is) (whole moves.after (w.kept ++ others) moves.wire w.told (so_with_others w.kept others w.told v.added.follow known.told)
    (learned_parts laws moves.m moves.after w.kept others w.wire moves.wire v.entry v.next p each v.added.follow follows to_keep (notes w.kept book p.account.keeps.ledger).1 revises moves.sound moves.wired))

pub not_learned : LineLaws → (w new : World) (others : List Entry) (why : StoreFault) → IsWorld w → Learns (λ next m after. FailsToLearn next others why m after) w others new → IsWorld new
not_learned laws w new others why known v =
    let moves = v.moves in
    let p = parts w moves.m moves.was known in
    let (is, goes) = moves.goes in
    let (none, drops, now) = goes in
    subst IsWorld (sym moves.is) (whole moves.after (w.kept ++ others) moves.wire w.told (so_with_others w.kept others w.told v.added.follow known.told)
    (gives_up laws moves.m moves.after w.kept others w.wire moves.wire p v.added.each v.added.follow drops moves.sound moves.wired
    (λ live. absurd (live (subst BookMayLag (sym now) (lost_lags v.next why))))
    (subst (λ s. Holds (w.kept ++ others) None (with_earlier p.earlier moves.after.host) s) (sym now) (lost_holds v.next why (w.kept ++ others) (with_earlier p.earlier moves.after.host)))))
