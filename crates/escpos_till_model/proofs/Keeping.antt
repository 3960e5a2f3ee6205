-- What keeps a till's records and numbers right holds after each kind of step.
use Rattle.std.proofs.Common.{ℕ, suc, ◌≡◌, ◌+◌, ◌<◌, ◌≤◌, ◌⊎◌, inl, inr, Option, Some, None, List, [], ◌∷◌, ◌++◌, length, map, take, refl, sym, ◌∙◌, ap, subst, append-nil, append_assoc, length-append, arith}
use Rattle.std.proofs.lemmas.List.{map-append, take-append-le, take_all}
use Rattle.escpos_command.specs.declared.command.Command.{Command}
use Rattle.escpos_host.specs.Machine.{HostView, InFlight, Phase, Down, Opening, Open, closed_by, in_flight, linked_reporting, nudged, reports_asked, submitted}
use Rattle.escpos_link.specs.EventTable.{hung_up}
use Rattle.escpos_till.specs.declared.entry.Entry.{Entry}
use Rattle.escpos_till.specs.declared.entry.Entry.TheVariants.{Tried, Recorded}
use Rattle.escpos_till.specs.Entries.{MayFollow, heard, next_free, record_of, recorded}
use Rattle.escpos_till.proofs.EntryLemmas.{heard_same, ledger-snoc, next_after_tried}
use Rattle.escpos_till_model.specs.Kept.{Hand, IsInHand, IsSent, IsSince, Keeps, Reserves}
use Rattle.escpos_till_model.specs.Receipts.{IsReceiptOf}
use Rattle.escpos_till_model.proofs.EntryFacts.{are_add, are_same, next_grows, receipt_of_grows, zip_length}
use Rattle.escpos_till_model.proofs.GoesOn.{GoesOn}
use Rattle.escpos_till_model.proofs.HeardLemmas.{IsPlain, Rose, heard_more, heard_on, heard_recorded, heard_same_host, most_more, most_recorded, since_gone, since_nudged, since_submitted}

-- ## Lists

pub nothing_before : {X : Type 0} (a b : List X) → a ++ b ≡ [] → a ≡ []
nothing_before [] b e = refl
nothing_before (x ∷ a) b e = absurd (let bad : x ∷ (a ++ b) ≡ [] = e in cc)

one_before : {X : Type 0} (a b : List X) (x : X) → a ++ b ≡ x ∷ [] → (a ≡ []) ⊎ (a ≡ x ∷ [])
one_before [] b x e = inl refl
one_before (y ∷ a) b x e =
    let rest : a ++ b ≡ [] = cc e in
    let none = nothing_before a b rest in
    let same : y ≡ x = cc e in
    inr (cc (none, same))

pub front_of : {X : Type 0} (n : ℕ) (a b : List X) → n ≡ length a → take n (a ++ b) ≡ a
front_of n a b e = subst (λ k. take k (a ++ b) ≡ a) (sym e) (let within : length a ≤ length a = omega arith in rw take-append-le (take_all (length a) a within))

-- ## One more entry

sent_grows : (es more : List Entry) (number : ℕ) (receipt : Option (List Command)) (sent : List (List Command)) → IsSent es number receipt sent → IsSent (es ++ more) number receipt sent
sent_grows es more number (Some commands) sent (is, none) = (receipt_of_grows es more number commands is, none)
sent_grows es more number None sent (commands, is, once) = (commands, receipt_of_grows es more number commands is, once)

pub in_hand_grows : (es : List Entry) (e : Entry) (hand : Option Hand) (answered : List (List Command)) (h : HostView) → MayFollow es e → IsInHand es hand answered h
    → IsInHand (es ++ e ∷ []) hand answered h
in_hand_grows es e None answered h follows is = is
in_hand_grows es e (Some hand) answered h follows is = record {
  reserved = record {
    before = is.reserved.before;
    following = is.reserved.following ++ e ∷ [];
    entries_are = ap (λ v. v ++ e ∷ []) is.reserved.entries_are ∙ append_assoc is.reserved.before (Tried hand.number hand.limit ∷ is.reserved.following) (e ∷ []);
    from = is.reserved.from;
    to = is.reserved.to;
    few = is.reserved.few;
  };
  below = omega (arith, is.below, next_grows es e follows);
  sent = sent_grows es (e ∷ []) hand.number hand.receipt (answered ++ in_flight h.phase) is.sent;
}

abbrev pub entry_keeps : (es : List Entry) (e : Entry) (hand : Option Hand) (h : HostView) → IsPlain e → record_of e ≡ None → MayFollow es e → Keeps es hand h → Keeps (es ++ e ∷ []) hand h
entry_keeps es e hand h plain none follows k = record {
  ledger = ledger-snoc es e k.ledger follows;
  receipts = k.receipts;
  are = are_same es e k.receipts none k.are;
  answered = k.answered;
  records = k.records;
  next = omega (arith, k.next, next_grows es e follows);
  in_hand = in_hand_grows es e hand k.answered h follows k.in_hand;
  knows = heard_more es e h plain follows k.next k.knows;
  most = most_more es e plain follows k.most;
  since = k.since;
}

-- ## The line goes on

fewer_sent : (es : List Entry) (number : ℕ) (receipt : Option (List Command)) (some lost all : List (List Command)) → some ++ lost ≡ all → IsSent es number receipt all
    → IsSent es number receipt some
fewer_sent es number (Some commands) some lost all split (is, none) = (is, nothing_before some lost (split ∙ none))
fewer_sent es number None some lost all split (commands, is, inl none) = (commands, is, inl (nothing_before some lost (split ∙ none)))
fewer_sent es number None some lost all split (commands, is, inr one) = (commands, is, one_before some lost commands (split ∙ one))

regroup : (a b c d : List (List Command)) → ((a ++ b) ++ c) ++ d ≡ a ++ (b ++ (c ++ d))
regroup a b c d = simp append_assoc

pub on_in_hand : (es : List Entry) (hand : Option Hand) (answered : List (List Command)) (h after : HostView) (g : GoesOn h after) → IsInHand es hand answered h
    → IsInHand es hand (answered ++ g.grown) after
on_in_hand es None answered h after g is = g.down is
on_in_hand es (Some hand) answered h after g is = record {
  reserved = subst (λ n. Reserves es hand.number n hand.limit) (sym g.next) is.reserved;
  below = is.below;
  sent = fewer_sent es hand.number hand.receipt ((answered ++ g.grown) ++ in_flight after.phase) g.lost (answered ++ in_flight h.phase)
      (regroup answered g.grown (in_flight after.phase) g.lost ∙ ap (λ v. answered ++ v) (sym g.flight)) is.sent;
}

abbrev pub on_keeps : (es : List Entry) (hand : Option Hand) (h after : HostView) → GoesOn h after → Rose h after → Keeps es hand h → Keeps es hand after
on_keeps es hand h after g r k = record {
  ledger = k.ledger;
  receipts = k.receipts;
  are = k.are;
  answered = k.answered ++ g.grown;
  records = g.records ∙ ap (λ v. v ++ g.grown) k.records ∙ append_assoc k.receipts k.answered g.grown;
  next = omega (arith, g.next, k.next);
  in_hand = on_in_hand es hand k.answered h after g k.in_hand;
  knows = heard_on es h after g.next r.rose k.knows;
  most = k.most;
  since = r.since;
}

-- ## The host is gone

pub hung_records : (phase : Phase) (h : HostView) → (hung_up phase h).records ≡ h.records
hung_records Down h = refl
hung_records (Opening first) h = refl
hung_records (Open flight) h = refl

pub hung_next : (phase : Phase) (h : HostView) → (hung_up phase h).next ≡ h.next
hung_next Down h = refl
hung_next (Opening first) h = refl
hung_next (Open flight) h = refl

pub hung_phase : (phase : Phase) (h : HostView) → h.phase ≡ phase → (hung_up phase h).phase ≡ Down
hung_phase Down h is = is
hung_phase (Opening first) h is = refl
hung_phase (Open flight) h is = refl

pub hung_heard : (phase : Phase) (h : HostView) → (hung_up phase h).heard ≡ h.heard
hung_heard Down h = refl
hung_heard (Opening first) h = refl
hung_heard (Open flight) h = refl

pub hung_since : (h : HostView) → IsSince h.phase h.heard h.next → IsSince (hung_up h.phase h).phase (hung_up h.phase h).heard (hung_up h.phase h).next
hung_since h since =
    subst (λ p. IsSince p (hung_up h.phase h).heard (hung_up h.phase h).next) (sym (hung_phase h.phase h refl)) (omega (arith, hung_next h.phase h, hung_heard h.phase h, since_gone h since))

abbrev pub gone_keeps : (es : List Entry) (hand : Option Hand) (h : HostView) → Keeps es hand h → Keeps es None (hung_up h.phase h)
gone_keeps es hand h k = record {
  ledger = k.ledger;
  receipts = k.receipts;
  are = k.are;
  answered = k.answered;
  records = hung_records h.phase h ∙ k.records;
  next = omega (arith, hung_next h.phase h, k.next);
  in_hand = hung_phase h.phase h refl;
  knows = heard_same_host es h (hung_up h.phase h) (hung_next h.phase h) (hung_heard h.phase h) k.knows;
  most = k.most;
  since = hung_since h k.since;
}

-- ## A receipt is taken in hand

-- The host that goes on with the receipts that are recorded, and with what is kept of what was heard.
abbrev pub anew : HostView → ℕ → ℕ → ℕ → HostView
anew h f count hd = record { phase = Down; out = []; half = []; next = f; heard = hd; records = take count h.records; left = [] }

abbrev pub take_keeps : (es : List Entry) (h : HostView) (number limit : ℕ) (commands : List Command) → MayFollow es (Tried number limit) → IsReceiptOf es number commands
    → Keeps es None h
    → Keeps (es ++ Tried number limit ∷ []) (Some (record { number = number; receipt = Some commands; limit = limit })) (anew h (next_free es) (length (recorded es)) (heard es))
take_keeps es h number limit commands follows is k =
    let e = Tried number limit in
    record {
      ledger = ledger-snoc es e k.ledger follows;
      receipts = k.receipts;
      are = are_same es e k.receipts refl k.are;
      answered = [];
      records = ap (take (length (recorded es))) k.records
          ∙ front_of (length (recorded es)) k.receipts k.answered (zip_length (IsReceiptOf es) (recorded es) k.receipts k.are)
          ∙ sym (append-nil k.receipts);
      next = next_grows es e follows;
      in_hand = record {
        reserved = record { before = es; following = []; entries_are = refl; from = omega arith; to = omega (arith, follows.1); few = follows.2 };
        below = omega (arith, next_after_tried es number limit);
        sent = (receipt_of_grows es (e ∷ []) number commands is, refl);
      };
      knows = inl (omega (arith, heard_same es e refl));
      most = most_more es e tt follows k.most;
      since = k.most;
    }

-- ## A mark number is used

abbrev used_keeps : (es : List Entry) (hand left : Hand) (h after : HostView) (k : Keeps es (Some hand) h) → left.number ≡ hand.number → left.limit ≡ hand.limit
    → after.records ≡ h.records → after.next ≡ h.next + 1 → h.next < hand.limit → heard es ≤ h.heard → after.heard ≡ h.heard → IsSince after.phase after.heard after.next → IsSent es left.number left.receipt (k.answered ++ in_flight after.phase)
    → Keeps es (Some left) after
used_keeps es hand left h after k number limit records next within known rises since sent = record {
  ledger = k.ledger;
  receipts = k.receipts;
  are = k.are;
  answered = k.answered;
  records = records ∙ k.records;
  next = omega (arith, next, within, k.in_hand.below);
  in_hand = record {
    reserved = record {
      before = k.in_hand.reserved.before;
      following = k.in_hand.reserved.following;
      entries_are = k.in_hand.reserved.entries_are
          ∙ ap (λ n. k.in_hand.reserved.before ++ Tried n hand.limit ∷ k.in_hand.reserved.following) (sym number)
          ∙ ap (λ n. k.in_hand.reserved.before ++ Tried left.number n ∷ k.in_hand.reserved.following) (sym limit);
      from = omega (arith, next, k.in_hand.reserved.from);
      to = omega (arith, next, within, limit);
      few = omega (arith, limit, k.in_hand.reserved.few);
    };
    below = omega (arith, limit, k.in_hand.below);
    sent = sent;
  };
  knows = inl (omega (arith, known, rises));
  most = k.most;
  since = since;
}

abbrev pub linked_reporting_keeps : (es : List Entry) (hand : Hand) (h : HostView) → h.phase ≡ Down → h.next < hand.limit → heard es ≤ h.heard → Keeps es (Some hand) h → Keeps es (Some hand) (linked_reporting h)
linked_reporting_keeps es hand h is_down within known k =
    used_keeps es hand hand h (linked_reporting h) k refl refl refl refl within known refl (since_gone h k.since, omega arith)
    (subst (λ (phase : Phase). IsSent es hand.number hand.receipt (k.answered ++ in_flight phase)) is_down k.in_hand.sent)

abbrev pub nudged_keeps : (es : List Entry) (hand : Hand) (h : HostView) (first : ℕ) → h.phase ≡ Opening first → h.next < hand.limit → heard es ≤ h.heard → Keeps es (Some hand) h → Keeps es (Some hand) (nudged h)
nudged_keeps es hand h first opening within known k =
    used_keeps es hand hand h (nudged h) k refl refl refl refl within known refl (since_nudged h first opening k.since) k.in_hand.sent

-- A request has no number.
abbrev pub asked_keeps : (es : List Entry) (hand : Hand) (h : HostView) → Keeps es (Some hand) h → Keeps es (Some hand) (reports_asked h)
asked_keeps es hand h k = record {
  ledger = k.ledger;
  receipts = k.receipts;
  are = k.are;
  answered = k.answered;
  records = k.records;
  next = k.next;
  in_hand = record { reserved = k.in_hand.reserved; below = k.in_hand.below; sent = k.in_hand.sent };
  knows = k.knows;
  most = k.most;
  since = k.since;
}

pub one_more : (answered some : List (List Command)) (commands : List Command) (flight : List InFlight) (p : InFlight) → p.receipt ≡ commands → some ≡ in_flight (Open flight) → answered ++ some ≡ []
    → answered ++ in_flight (Open (flight ++ p ∷ [])) ≡ commands ∷ []
one_more answered some commands flight p sent is none =
    let f : InFlight → List Command = λ q. q.receipt in
    ap (λ v. answered ++ v) (map-append f flight (p ∷ []))
    ∙ ap (λ r. answered ++ (map f flight ++ r ∷ [])) sent
    ∙ sym (append_assoc answered (map f flight) (commands ∷ []))
    ∙ ap (λ v. v ++ commands ∷ []) (ap (λ v. answered ++ v) (sym is) ∙ none)

abbrev pub submitted_keeps : (es : List Entry) (hand : Hand) (h : HostView) (flight : List InFlight) (commands : List Command) → hand.receipt ≡ Some commands → h.phase ≡ Open flight
    → h.next < hand.limit → heard es ≤ h.heard → Keeps es (Some hand) h
    → Keeps es (Some (record { number = hand.number; receipt = None; limit = hand.limit })) (submitted h flight commands)
submitted_keeps es hand h flight commands has is within known k =
    let (receipt, none) = subst (λ (r : Option (List Command)). IsSent es hand.number r (k.answered ++ in_flight h.phase)) has k.in_hand.sent in
    used_keeps es hand (record { number = hand.number; receipt = None; limit = hand.limit }) h (submitted h flight commands) k refl refl refl refl within known refl (since_submitted h flight commands is k.since)
    (commands, receipt, inr (one_more k.answered (in_flight h.phase) commands flight (closed_by commands h.next) refl (ap in_flight is) none))

-- ## What is answered is recorded

pub answered_one : (es : List Entry) (number : ℕ) (receipt : Option (List Command)) (answered flight : List (List Command)) → 0 < length answered
    → IsSent es number receipt (answered ++ flight) → (commands : List Command) × IsReceiptOf es number commands × (answered ≡ commands ∷ [])
answered_one es number (Some commands) answered flight some (is, none) =
    absurd (let e = nothing_before answered flight none in omega (arith, ap length e))
answered_one es number None answered flight some (commands, is, inl none) =
    absurd (let e = nothing_before answered flight none in omega (arith, ap length e))
answered_one es number None answered flight some (commands, is, inr one) = elim (one_before answered flight commands one) [
  | inl none ↦ absurd (omega (arith, ap length none))
  | inr same ↦ (commands, is, same)
]

abbrev pub record_keeps : (es : List Entry) (hand : Hand) (hd : ℕ) (h : HostView) → MayFollow es (Recorded hand.number hd) → 0 < hd → hd ≤ h.heard → length (recorded es) < length h.records → Keeps es (Some hand) h
    → Keeps (es ++ Recorded hand.number hd ∷ []) None (hung_up h.phase h)
record_keeps es hand hd h follows some_heard heard_so more k =
    let e = Recorded hand.number hd in
    let count = zip_length (IsReceiptOf es) (recorded es) k.receipts k.are in
    let some : 0 < length k.answered = omega (arith, more, count, ap length k.records, length-append k.receipts k.answered) in
    let (commands, is, same) = answered_one es hand.number hand.receipt k.answered (in_flight h.phase) some k.in_hand.sent in
    record {
      ledger = ledger-snoc es e k.ledger follows;
      receipts = k.receipts ++ commands ∷ [];
      are = are_add es hand.number hd commands k.receipts k.are is;
      answered = [];
      records = hung_records h.phase h ∙ k.records ∙ ap (λ v. k.receipts ++ v) same ∙ sym (append-nil (k.receipts ++ commands ∷ []));
      next = omega (arith, hung_next h.phase h, k.next, next_grows es e follows);
      in_hand = hung_phase h.phase h refl;
      knows = heard_same_host (es ++ e ∷ []) h (hung_up h.phase h) (hung_next h.phase h) (hung_heard h.phase h) (heard_recorded es hand.number hd h some_heard heard_so k.knows);
      most = most_recorded es hand.number hd some_heard follows k.most;
      since = hung_since h k.since;
    }

-- The same, where the host stays on its link: what was in hand is recorded, and nothing of it is left.
abbrev pub record_stays : (es : List Entry) (hand : Hand) (hd : ℕ) (h : HostView) → MayFollow es (Recorded hand.number hd) → 0 < hd → hd ≤ h.heard → length (recorded es) < length h.records → h.phase ≡ Open [] → Keeps es (Some hand) h
    → Keeps (es ++ Recorded hand.number hd ∷ []) (Some (record { number = hand.number; receipt = None; limit = hand.limit })) h
record_stays es hand hd h follows some_heard heard_so more ready k =
    let e = Recorded hand.number hd in
    let count = zip_length (IsReceiptOf es) (recorded es) k.receipts k.are in
    let some : 0 < length k.answered = omega (arith, more, count, ap length k.records, length-append k.receipts k.answered) in
    let (commands, is, same) = answered_one es hand.number hand.receipt k.answered (in_flight h.phase) some k.in_hand.sent in
    record {
      ledger = ledger-snoc es e k.ledger follows;
      receipts = k.receipts ++ commands ∷ [];
      are = are_add es hand.number hd commands k.receipts k.are is;
      answered = [];
      records = k.records ∙ ap (λ v. k.receipts ++ v) same ∙ sym (append-nil (k.receipts ++ commands ∷ []));
      next = omega (arith, k.next, next_grows es e follows);
      in_hand = in_hand_grows es e (Some (record { number = hand.number; receipt = None; limit = hand.limit })) [] h follows (record {
        reserved = k.in_hand.reserved;
        below = k.in_hand.below;
        sent = (commands, is, inl (ap in_flight ready));
      });
      knows = heard_recorded es hand.number hd h some_heard heard_so k.knows;
      most = most_recorded es hand.number hd some_heard follows k.most;
      since = k.since;
    }

pub nil_of : {X : Type 0} (xs : List X) → length xs ≡ 0 → xs ≡ []
nil_of [] none = refl
nil_of (x ∷ xs) none = absurd (let bad : suc (length xs) ≡ 0 = none in cc)

-- The next receipt is taken in hand, for which the host's link is ready.
abbrev pub next_keeps : (es : List Entry) (hand : Hand) (h : HostView) (number : ℕ) (commands : List Command) → MayFollow es (Tried number (next_free es + 1)) → IsReceiptOf es number commands
    → h.phase ≡ Open [] → h.next ≡ next_free es → length h.records ≡ length (recorded es) → Keeps es (Some hand) h
    → Keeps (es ++ Tried number (next_free es + 1) ∷ []) (Some (record { number = number; receipt = Some commands; limit = next_free es + 1 })) h
next_keeps es hand h number commands follows is ready marks all k =
    let e = Tried number (next_free es + 1) in
    let count = zip_length (IsReceiptOf es) (recorded es) k.receipts k.are in
    let none : k.answered ≡ [] = nil_of k.answered (omega (arith, all, count, ap length k.records, length-append k.receipts k.answered)) in
    record {
      ledger = ledger-snoc es e k.ledger follows;
      receipts = k.receipts;
      are = are_same es e k.receipts refl k.are;
      answered = [];
      records = k.records ∙ ap (λ v. k.receipts ++ v) none;
      next = omega (arith, k.next, next_grows es e follows);
      in_hand = record {
        reserved = record { before = es; following = []; entries_are = refl; from = omega (arith, marks); to = omega (arith, marks); few = follows.2 };
        below = omega (arith, next_after_tried es number (next_free es + 1));
        sent = (receipt_of_grows es (e ∷ []) number commands is, ap in_flight ready);
      };
      knows = heard_more es e h tt follows k.next k.knows;
      most = most_more es e tt follows k.most;
      since = k.since;
    }
