-- A promise is made, and holds for the receipts in flight; and other records that stand may be those of a host with none in flight.
use Rattle.std.proofs.Common.{◌≡◌, ◌<◌, ◌≤◌, inl, inr, ℕ, List, [], ◌∷◌, ◌++◌, Option, Some, None, refl, sym, ◌∙◌, ap, subst, arith, append-nil, append_assoc, ◌+◌, IsTrue}
use Rattle.std.specs.List.{AllByRecursion}
use Rattle.escpos_command.specs.declared.command.Command.{Command}
use Rattle.escpos_command.specs.CommandTable.{AreCommands, spell}
use Rattle.escpos_command.specs.Digits.{mark_count}
use Rattle.escpos_host.specs.Counted.{id_of}
use Rattle.escpos_command.specs.Marks.{marks}
use Rattle.escpos_command.specs.Parameters.{is_mark_id}
use Rattle.escpos_paper.specs.declared.item.Item.{Item}
use Rattle.escpos_paper.specs.Page.{Sheet, SheetIs}
use Rattle.escpos_paper.specs.Printed.{printed}
use Rattle.escpos_host.specs.Machine.{InFlight, Phase, Down, Opening, Open, receipts_of}
use Rattle.escpos_host.specs.Heard.{IsClosing}
use Rattle.escpos_host.proofs.Recording.{is_closing}
use Rattle.escpos_link.specs.Promised.{AreOther, GivenUpFor, IsIn, LiveFor, PromisedBy, StandsNext}
use Rattle.escpos_link.specs.Ways.{AreApart, Course, GivenUp, LateOf, Later, Newest, Owed, Rising, Row, Way, closing_marks, flight_of}
use Rattle.escpos_link.specs.Stands.{Stands}
use Rattle.escpos_link.proofs.Aligning.{OfReadings, head_same, tail_same}
use Rattle.escpos_link.proofs.Claiming.{OfPaper, course_known, course_owed, course_run, owed_known, owed_rested, rested}
use Rattle.escpos_link.proofs.Leaving.{items_are}
use Rattle.escpos_link.proofs.Links.{fresh_as, given_within, later_within, unread_as}
use Rattle.escpos_link.proofs.Numbers.{OfNumbers, not_closing, row_back, row_front, row_within}
use Rattle.escpos_link.proofs.Standing.{stands_front}
use Rattle.escpos_link.proofs.Promises.{fulfils_none, in_back, in_join, lost_for, not_in, put_for}

-- ## A promise is made

-- A row of marks that end below this number: it is another.
row_other : OfNumbers → (from to n : ℕ) (p : InFlight) → to ≤ n → n < from + mark_count → p.mark ≡ id_of n → (ids : List (List ℕ)) → Row from to ids → AreOther p.mark ids
row_other of from to n p less near mark [] row = tt
row_other of from to n p less near mark (id ∷ ids) (m, least, is, row) =
    let within = row_within (m + 1) to ids row in (
      (
        subst (λ v. IsTrue (is_mark_id v)) is (of.ids m),
        λ same. let one = of.apart m n (omega (arith, within, less)) (omega (arith, near, least)) (is ∙ same ∙ mark) in omega (arith, one, within, less),
      ),
      row_other of (m + 1) to n p less (omega (arith, near, least)) mark ids row,
    )

made_later : OfNumbers → (from to n : ℕ) (p : InFlight) (others : List (List ℕ)) → to ≤ n → n < from + mark_count → p.mark ≡ id_of n → Later from to others
    → AllByRecursion (LateOf (AreOther p.mark)) others
made_later of from to n p [] less near mark later = tt
made_later of from to n p (bytes ∷ others) less near mark (mid, (more, fresh), later) =
    let within = later_within mid to others later in
    let (openers, opening, known, is) = fresh in
    let begun = row_within from mid (marks openers) known in (
      (more, fresh_as (Row from mid) (AreOther p.mark) (row_other of from mid n p (omega (arith, within, less)) near mark) (bytes ++ more) fresh),
      made_later of mid to n p others less (omega (arith, near, begun)) mark later,
    )

made_given : (width : ℕ) → OfNumbers → (from to n : ℕ) (p : InFlight) (records : List (List Command)) (sheet : Sheet) (half : List ℕ) (ended : List (List ℕ)) (kept : List Item)
    (ran : List Command) → SheetIs width sheet kept ran → to ≤ n → n < from + mark_count → p.mark ≡ id_of n → GivenUp from to half ended → GivenUpFor width p records sheet half ended
made_given width of from to n p records sheet half [] kept ran is less near mark given = tt
made_given width of from to n p records sheet half (bytes ∷ others) kept ran is less near mark (mid, (more, inl u), later) =
    let within = later_within mid to others later in
    let begun = row_within from mid (marks u.openers) u.known in (
      (more, inl (unread_as (Row from mid) (AreOther p.mark) (row_other of from mid n p (omega (arith, within, less)) near mark) half (bytes ++ more) u)),
      made_later of mid to n p others less (omega (arith, near, begun)) mark later,
    )
made_given width of from to n p records sheet half (bytes ∷ others) kept ran is less near mark (mid, (more, inr i), later) =
    let within = later_within mid to others later in
    let begun = row_within from mid (marks i.due) i.known in (
      (
        more,
        inr (record {
          due = i.due;
          aligned = i.aligned;
          kept = kept;
          ran = ran;
          sheet_is = is;
          fulfils = fulfils_none width p records kept ran i.due (row_other of from mid n p (omega (arith, within, less)) near mark (marks i.due) i.known);
        }),
      ),
      made_later of mid to n p others less (omega (arith, near, begun)) mark later,
    )

made_newest : (width : ℕ) → OfNumbers → (from to n : ℕ) (p : InFlight) (records : List (List Command)) (sheet : Sheet) (half : List ℕ) (ended : List (List ℕ)) (bytes out : List ℕ)
    → to ≤ n → n < from + mark_count → p.mark ≡ id_of n → Newest from to half ended (bytes ++ out) → LiveFor width p records sheet half ended (Some bytes) out
made_newest width of from to n p records sheet half [] bytes out less near mark u =
    inl (unread_as (Row from to) (AreOther p.mark) (row_other of from to n p less near mark) half (bytes ++ out) u)
made_newest width of from to n p records sheet half (first ∷ others) bytes out less near mark fresh =
    fresh_as (Row from to) (AreOther p.mark) (row_other of from to n p less near mark) (bytes ++ out) fresh

-- A mark of the row isn't its own.
not_known : OfNumbers → (from to n : ℕ) (p : InFlight) (pending : List (List ℕ)) → to ≤ n → n < from + mark_count → p.mark ≡ id_of n → Row from to pending → IsIn p.mark pending → ⊥
not_known of from to n p pending less near mark known = not_in p.mark pending (row_other of from to n p less near mark pending known)

pub made_for : (width : ℕ) → OfNumbers → (phase : Phase) (out : List ℕ) (next heard n : ℕ) (p : InFlight) (records rs : List (List Command)) (sheet : Sheet) (half : List ℕ)
    (ended : List (List ℕ)) (live : Option (List ℕ)) (pending : List (List ℕ)) (kept : List Item) (ran : List Command) → SheetIs width sheet kept ran → next ≤ n
    → n < heard + mark_count → p.mark ≡ id_of n → Way width phase out next heard records sheet half ended live pending
    → PromisedBy width p rs out sheet half ended live pending
made_for width of phase out next heard n p records rs sheet half ended None pending kept ran is least near mark (inl w) = record {
  answered = λ one. absurd (not_known of heard next n p pending least near mark (owed_known width heard records (flight_of phase) next sheet.items pending w.owed) one);
  given_up = subst (GivenUpFor width p rs sheet half) (sym w.only) tt;
  newest = tt;
}
made_for width of phase out next heard n p records rs sheet half ended None pending kept ran is least near mark (inr w) =
    let reach = row_within heard w.reach pending w.known in
    let end = given_within w.reach w.end half ended w.given_up in
    let within = w.within in
    record {
      answered = λ one. absurd (not_known of heard w.reach n p pending (omega (arith, end, within, least)) near mark w.known one);
      given_up = made_given width of w.reach w.end n p rs sheet half ended kept ran is (omega (arith, within, least)) (omega (arith, near, reach)) mark w.given_up;
      newest = tt;
    }
made_for width of phase out next heard n p records rs sheet half [] (Some bytes) pending kept ran is least near mark (inl w) =
    let known = course_known width heard records (flight_of phase) next w.kept w.ran pending w.due w.course in
    record {
      answered = λ one. absurd (not_known of heard next n p pending least near mark (row_front heard next pending (marks w.due) known) one);
      given_up = tt;
      newest = inr (record {
        due = w.due;
        aligned = w.aligned;
        kept = w.kept;
        ran = w.ran;
        sheet_is = w.sheet_is;
        fulfils = fulfils_none width p rs w.kept w.ran w.due (row_other of heard next n p least near mark (marks w.due) (row_back heard next pending (marks w.due) known));
      });
    }
made_for width of phase out next heard n p records rs sheet half (first ∷ others) (Some bytes) pending kept ran is least near mark (inl w) = absurd (cc w.only)
made_for width of phase out next heard n p records rs sheet half ended (Some bytes) pending kept ran is least near mark (inr w) =
    let reach = row_within heard w.reach pending w.known in
    let end = given_within w.reach w.first half ended w.given_up in
    let within = w.within in
    record {
      answered = λ one. absurd (not_known of heard w.reach n p pending (omega (arith, end, within, least)) near mark w.known one);
      given_up = made_given width of w.reach w.first n p rs sheet half ended kept ran is (omega (arith, within, least)) (omega (arith, near, reach)) mark w.given_up;
      newest = made_newest width of w.first next n p rs sheet half ended bytes out least (omega (arith, near, reach, end)) mark w.newest;
    }

-- ## Receipts in flight

-- Its mark is one that is answered only once all before it are.
in_row : (from to : ℕ) (id : List ℕ) (old : List (List ℕ)) → Row from to old → IsIn id old → (n : ℕ) × (from ≤ n) × (n < to) × (id_of n ≡ id)
in_row from to id [] row is = absurd is
in_row from to id (x ∷ old) (n, least, mark, row) (inl same) = let within = row_within (n + 1) to old row in (n, least, omega (arith, within), mark ∙ same)
in_row from to id (x ∷ old) (n, least, mark, row) (inr later) = let r = in_row (n + 1) to id old row later in (r.0, omega (arith, least, r.1), r.2, r.3)

done_first : OfNumbers → (base next : ℕ) (done todo before : List InFlight) (p : InFlight) (others : List InFlight) → AreApart base next → done ++ todo ≡ before ++ p ∷ others
    → Rising base (done ++ todo) next → IsIn p.mark (closing_marks done) → (more : List InFlight) × (done ≡ before ++ p ∷ more)
done_first of base next [] todo before p others apart is rising in_done = absurd in_done
done_first of base next (d ∷ done) todo [] p others apart is rising in_done = (done, ap (λ v. v ∷ done) (head_same d p (done ++ todo) others is))
done_first of base next (d ∷ done) todo (b ∷ before) p others apart is (from, mark, rising) (inl same) =
    let rest = tail_same d b (done ++ todo) (before ++ p ∷ others) is in
    absurd (not_closing of (d.number + 1) next d.number (done ++ todo) p.mark (omega arith) (omega (arith, apart, from)) (sym mark ∙ same) rising
    (subst (λ v. IsClosing 0 v p.mark) (sym rest) (is_closing 0 p.mark before p others (omega arith) refl)))
done_first of base next (d ∷ done) todo (b ∷ before) p others apart is (from, mark, rising) (inr later) =
    let rest = tail_same d b (done ++ todo) (before ++ p ∷ others) is in
    let far : AreApart (d.number + 1) next = omega (arith, apart, from) in
    let r = done_first of (d.number + 1) next done todo before p others far rest rising later in
    (r.0, ap (λ v. v ∷ done) (head_same d b (done ++ todo) (before ++ p ∷ others) is) ∙ ap (λ v. b ∷ v) r.1)

pub receipts_join : (a b : List InFlight) → receipts_of (a ++ b) ≡ receipts_of a ++ receipts_of b
receipts_join [] b = refl
receipts_join (p ∷ a) b = ap (λ v. p.receipt ∷ v) (receipts_join a b)

-- What is done of a flight, up to this receipt.
done_upto : (records : List (List Command)) (before : List InFlight) (p : InFlight) (more : List InFlight)
    → records ++ receipts_of (before ++ p ∷ more) ≡ ((records ++ receipts_of before) ++ p.receipt ∷ []) ++ receipts_of more
done_upto records before p more =
    ap (λ v. records ++ v) (receipts_join before (p ∷ more)) ∙ sym (append_assoc records (receipts_of before) (p.receipt ∷ receipts_of more))
    ∙ sym (append_assoc (records ++ receipts_of before) (p.receipt ∷ []) (receipts_of more))

owed_promise : (width heard : ℕ) → OfNumbers → (flight before : List InFlight) (p : InFlight) (others : List InFlight) (records : List (List Command)) (next : ℕ) (items : List Item)
    (pending : List (List ℕ)) → AreApart heard next → flight ≡ before ++ p ∷ others → Owed width heard records flight next items pending → IsIn p.mark pending
    → StandsNext width p (records ++ receipts_of before) items
owed_promise width heard of flight before p others records next items pending apart split w is =
    let all : w.done ++ w.todo ≡ before ++ p ∷ others = sym w.flight_is ∙ split in
    let begun = row_within heard w.order.base w.order.old w.order.known in
    let far : AreApart w.order.base next = omega (arith, apart, begun) in
    elim (in_join p.mark w.order.old (closing_marks w.done) (subst (IsIn p.mark) w.order.queue_is is)) [
      | inl old ↦
          let k = in_row heard w.order.base p.mark w.order.old w.order.known old in
          let least = k.1 in
          absurd (not_closing of w.order.base next k.0 (w.done ++ w.todo) p.mark k.2 (omega (arith, apart, least)) k.3 w.order.rising
          (subst (λ v. IsClosing 0 v p.mark) (sym all) (is_closing 0 p.mark before p others (omega arith) refl)))
      | inr done ↦
          let d = done_first of w.order.base next w.done w.todo before p others far all w.order.rising done in
          stands_front width ((records ++ receipts_of before) ++ p.receipt ∷ []) (receipts_of d.0) items
          (subst (λ v. Stands width v items) (ap (λ v. records ++ receipts_of v) d.1 ∙ done_upto records before p d.0) w.stands)
    ]

pub in_flight_for : (width : ℕ) → OfNumbers → OfPaper → (phase : Phase) (out : List ℕ) (next heard : ℕ) (flight before : List InFlight) (p : InFlight) (others : List InFlight)
    (records : List (List Command)) (sheet : Sheet) (half : List ℕ) (ended : List (List ℕ)) (live : Option (List ℕ)) (pending : List (List ℕ)) → phase ≡ Open flight
    → flight ≡ before ++ p ∷ others → Way width phase out next heard records sheet half ended live pending
    → PromisedBy width p (records ++ receipts_of before) out sheet half ended live pending
in_flight_for width of paper phase out next heard flight before p others records sheet half ended None pending is split (inl w) = record {
  answered = owed_promise width heard of flight before p others records next sheet.items pending w.apart split (subst (λ v. Owed width heard records v next sheet.items pending) (ap flight_of is) w.owed);
  given_up = subst (GivenUpFor width p (records ++ receipts_of before) sheet half) (sym w.only) tt;
  newest = tt;
}
in_flight_for width of paper phase out next heard flight before p others records sheet half ended None pending is split (inr w) =
    absurd (let bad : Open flight ≡ Down = sym is ∙ w.down in cc)
in_flight_for width of paper phase out next heard flight before p others records sheet half [] (Some bytes) pending is split (inl w) =
    let course = subst (λ v. Course width heard records v next w.kept w.ran pending w.due) (ap flight_of is) w.course in
    let now : Owed width heard records flight next sheet.items pending =
    subst (λ v. Owed width heard records flight next v pending) (sym (items_are width sheet w.kept w.ran w.sheet_is))
    (course_owed width heard paper records flight next w.kept w.ran pending [] w.due
    (subst (λ v. Course width heard records flight next w.kept w.ran v w.due) (sym (append-nil pending)) course)) in
    record {
      answered = owed_promise width heard of flight before p others records next sheet.items pending w.apart split now;
      given_up = tt;
      newest = inr (record {
        due = w.due;
        aligned = w.aligned;
        kept = w.kept;
        ran = w.ran;
        sheet_is = w.sheet_is;
        fulfils = λ a b cut one.
            let on = course_run width heard paper records flight next w.kept w.ran pending a b (subst (Course width heard records flight next w.kept w.ran pending) cut course) in
            owed_promise width heard of flight before p others records next (w.kept ++ printed width (w.ran ++ a)) (pending ++ marks a) w.apart split
            (course_owed width heard paper records flight next w.kept (w.ran ++ a) (pending ++ marks a) [] b
            (subst (λ v. Course width heard records flight next w.kept (w.ran ++ a) v b) (sym (append-nil (pending ++ marks a))) on))
            (in_back p.mark pending (marks a) one);
      });
    }
in_flight_for width of paper phase out next heard flight before p others records sheet half (first ∷ more) (Some bytes) pending is split (inl w) = absurd (cc w.only)
in_flight_for width of paper phase out next heard flight before p others records sheet half ended (Some bytes) pending is split (inr w) =
    absurd (let bad : Open flight ≡ Opening w.first = sym is ∙ w.opening in cc)

-- The numbers of their marks rise, and are below the next one.
pub flight_rising : (width : ℕ) (phase : Phase) (out : List ℕ) (next heard : ℕ) (records : List (List Command)) (sheet : Sheet) (half : List ℕ) (ended : List (List ℕ))
    (live : Option (List ℕ)) (pending : List (List ℕ)) (flight : List InFlight) → phase ≡ Open flight → Way width phase out next heard records sheet half ended live pending
    → (base : ℕ) × Rising base flight next
flight_rising width phase out next heard records sheet half ended None pending flight is (inl w) =
    (w.owed.order.base, subst (λ v. Rising w.owed.order.base v next) (sym w.owed.flight_is ∙ ap flight_of is) w.owed.order.rising)
flight_rising width phase out next heard records sheet half ended None pending flight is (inr w) = absurd (let bad : Open flight ≡ Down = sym is ∙ w.down in cc)
flight_rising width phase out next heard records sheet half ended (Some bytes) pending flight is (inl w) =
    (w.course.order.base, subst (λ v. Rising w.course.order.base v next) (sym w.course.flight_is ∙ ap flight_of is) w.course.order.rising)
flight_rising width phase out next heard records sheet half ended (Some bytes) pending flight is (inr w) = absurd (let bad : Open flight ≡ Opening w.first = sym is ∙ w.opening in cc)

-- ## Commands are put out on an open link

pub put_open_for : (width : ℕ) → OfReadings → OfPaper → (phase : Phase) (out : List ℕ) (next heard : ℕ) (p : InFlight) (records rs : List (List Command)) (sheet : Sheet) (half : List ℕ)
    (ended : List (List ℕ)) (live : Option (List ℕ)) (pending marked : List (List ℕ)) (flight : List InFlight) (cs : List Command) → phase ≡ Open flight → AreCommands cs
    → AreOther p.mark (marks cs) → Way width phase out next heard records sheet half ended live marked
    → PromisedBy width p rs out sheet half ended live pending → PromisedBy width p rs (out ++ spell cs) sheet half ended live pending
put_open_for width below paper phase out next heard p records rs sheet half ended None pending marked flight cs is are all way w =
    lost_for width p rs out (out ++ spell cs) sheet half ended pending w
put_open_for width below paper phase out next heard p records rs sheet half [] (Some bytes) pending marked flight cs is are all (inl s) w =
    put_for width below paper p rs out sheet half bytes pending s.due cs s.kept s.ran s.sheet_is s.aligned are all w
put_open_for width below paper phase out next heard p records rs sheet half (first ∷ others) (Some bytes) pending marked flight cs is are all (inl s) w = absurd (cc s.only)
put_open_for width below paper phase out next heard p records rs sheet half ended (Some bytes) pending marked flight cs is are all (inr s) w =
    absurd (let bad : Open flight ≡ Opening s.first = sym is ∙ s.opening in cc)

-- ## Other records

-- With no receipt in flight the records may be any that stand.
pub recorded_way : (width : ℕ) (phase : Phase) (out : List ℕ) (next heard : ℕ) (records others : List (List Command)) (sheet : Sheet) (half : List ℕ) (ended : List (List ℕ))
    (live : Option (List ℕ)) (pending : List (List ℕ)) → flight_of phase ≡ [] → Stands width others sheet.items → Way width phase out next heard records sheet half ended live pending
    → Way width phase out next heard others sheet half ended live pending
recorded_way width phase out next heard records others sheet half ended None pending none s (inl w) = inl (record {
  up = w.up;
  only = w.only;
  apart = w.apart;
  since = w.since;
  owed = subst (λ v. Owed width heard others v next sheet.items pending) (sym none)
      (owed_rested width heard others next sheet.items pending s (owed_known width heard records (flight_of phase) next sheet.items pending w.owed));
})
recorded_way width phase out next heard records others sheet half ended None pending none s (inr w) =
    inr (record { down = w.down; stands = s; reach = w.reach; end = w.end; within = w.within; known = w.known; given_up = w.given_up })
recorded_way width phase out next heard records others sheet half ended (Some bytes) pending none s (inl w) = inl (record {
  up = w.up;
  only = w.only;
  apart = w.apart;
  since = w.since;
  kept = w.kept;
  ran = w.ran;
  due = w.due;
  sheet_is = w.sheet_is;
  aligned = w.aligned;
  course = subst (λ v. Course width heard others v next w.kept w.ran pending w.due) (sym none)
      (rested width heard others next w.kept w.ran pending w.due (subst (Stands width others) (items_are width sheet w.kept w.ran w.sheet_is) s)
      (course_known width heard records (flight_of phase) next w.kept w.ran pending w.due w.course));
})
recorded_way width phase out next heard records others sheet half ended (Some bytes) pending none s (inr w) = inr (record {
  first = w.first;
  opening = w.opening;
  within = w.within;
  apart = w.apart;
  stands = s;
  reach = w.reach;
  known = w.known;
  given_up = w.given_up;
  newest = w.newest;
})
