-- A promise on the links: when bytes are put or delivered, when an end leaves one, and when marks are answered.
use Rattle.std.proofs.Common.{◌≡◌, ◌⊎◌, ◌≤◌, inl, inr, ℕ, List, [], ◌∷◌, ◌++◌, take, drop, Option, Some, None, refl, sym, ◌∙◌, ap, subst, append-nil, append_assoc, length}
use Rattle.std.specs.Prelude.{option_to_list}
use Rattle.std.specs.List.{AllByRecursion}
use Rattle.escpos_command.specs.declared.command.Command.{Command}
use Rattle.escpos_command.specs.declared.command.Command.TheVariants as kind
use Rattle.escpos_command.specs.CommandTable.{AreCommands, row, spell}
use Rattle.escpos_command.specs.Grammar.{Reads}
use Rattle.escpos_command.specs.Marks.{marks}
use Rattle.escpos_paper.specs.declared.item.Item.{Item}
use Rattle.escpos_paper.specs.Page.{Sheet, SheetIs}
use Rattle.escpos_paper.specs.Printed.{printed}
use Rattle.escpos_host.specs.Machine.{InFlight}
use Rattle.escpos_link.specs.EventTable.{ended_fed, first_of, live_fed, live_left, put_on}
use Rattle.escpos_link.specs.Promised.{AreOther, Fulfils, GivenUpFor, IsIn, IsOther, KeepsOn, LiveFor, NewestFor, PromisedBy, ServedFor, StandsNext}
use Rattle.escpos_link.specs.Ways.{FreshOf, IsRest, LateOf, UnreadOf}
use Rattle.escpos_link.proofs.AfterPutting.{kept_bytes}
use Rattle.escpos_link.proofs.Aligning.{OfReadings, fronts, marks_append, none_read}
use Rattle.escpos_link.proofs.Claiming.{OfPaper, more_printed}
use Rattle.escpos_link.proofs.Feeding.{Read, fed_split, none_fed, still_stands}
use Rattle.escpos_link.proofs.Leaving.{items_are}
use Rattle.escpos_link.proofs.Links.{Grows, OfTails, fresh_add, fresh_unread, late_add, step_add, unread_add, unread_on}

-- ## Ids

-- An id among these is none that they all differ from.
pub not_in : (id : List ℕ) (xs : List (List ℕ)) → AllByRecursion (IsOther id) xs → IsIn id xs → ⊥
not_in id [] all is = is
not_in id (x ∷ xs) all (inl same) = all.0.1 same
not_in id (x ∷ xs) all (inr later) = not_in id xs all.1 later

pub in_join : (id : List ℕ) (xs ys : List (List ℕ)) → IsIn id (xs ++ ys) → IsIn id xs ⊎ IsIn id ys
in_join id [] ys is = inr is
in_join id (x ∷ xs) ys (inl same) = inl (inl same)
in_join id (x ∷ xs) ys (inr later) = elim (in_join id xs ys later) [
  | inl first ↦ inl (inr first)
  | inr last ↦ inr last
]

pub in_front : (id : List ℕ) (xs ys : List (List ℕ)) → IsIn id xs → IsIn id (xs ++ ys)
in_front id [] ys is = absurd is
in_front id (x ∷ xs) ys (inl same) = inl same
in_front id (x ∷ xs) ys (inr later) = inr (in_front id xs ys later)

pub in_back : (id : List ℕ) (xs ys : List (List ℕ)) → IsIn id ys → IsIn id (xs ++ ys)
in_back id [] ys is = is
in_back id (x ∷ xs) ys is = inr (in_back id xs ys is)

pub all_back : (K : List ℕ → Type 0) (xs ys : List (List ℕ)) → AllByRecursion K (xs ++ ys) → AllByRecursion K ys
all_back K [] ys all = all
all_back K (x ∷ xs) ys all = all_back K xs ys all.1

pub all_join : (K : List ℕ → Type 0) (xs ys : List (List ℕ)) → AllByRecursion K xs → AllByRecursion K ys → AllByRecursion K (xs ++ ys)
all_join K [] ys all more = more
all_join K (x ∷ xs) ys all more = (all.0, all_join K xs ys all.1 more)

pub all_front : (K : List ℕ → Type 0) (xs ys : List (List ℕ)) → AllByRecursion K (xs ++ ys) → AllByRecursion K xs
all_front K [] ys all = tt
all_front K (x ∷ xs) ys all = (all.0, all_front K xs ys all.1)

-- What holds of all holds of the last ones, and with one more for which it holds.
other_tails : (id : List ℕ) → OfTails (AreOther id)
other_tails id xs ys all = all_back (IsOther id) xs ys all

other_grows : (id x : List ℕ) → IsOther id x → Grows (AreOther id) (AreOther id) (kind.Mark x)
other_grows id x one ids all = all_join (IsOther id) ids (x ∷ []) all (one, tt)

-- ## Commands that are due

-- Among marks that all differ from it the promise says nothing.
pub fulfils_none : (width : ℕ) (p : InFlight) (records : List (List Command)) (kept : List Item) (ran due : List Command) → AreOther p.mark (marks due)
    → Fulfils width p records kept ran due
fulfils_none width p records kept ran due all a b split is =
    absurd (not_in p.mark (marks a) (all_front (IsOther p.mark) (marks a) (marks b) (subst (AreOther p.mark) (ap marks split ∙ marks_append a b) all)) is)

-- Some of them are run.
pub fulfils_on : (width : ℕ) (p : InFlight) (records : List (List Command)) (kept : List Item) (ran due cs others : List Command) → due ≡ cs ++ others
    → Fulfils width p records kept ran due → Fulfils width p records kept (ran ++ cs) others
fulfils_on width p records kept ran due cs others split f a b more is =
    subst (λ v. StandsNext width p records (kept ++ printed width v)) (sym (append_assoc ran cs a))
    (f (cs ++ a) b (split ∙ ap (λ v. cs ++ v) more ∙ sym (append_assoc cs a b)) (subst (IsIn p.mark) (sym (marks_append cs a)) (in_back p.mark (marks cs) (marks a) is)))

-- More are put after them, with other marks alone.
pub fulfils_more : (width : ℕ) → OfPaper → (p : InFlight) (records : List (List Command)) (kept : List Item) (ran due cs : List Command)
    → AreOther p.mark (marks cs) → Fulfils width p records kept ran due → Fulfils width p records kept ran (due ++ cs)
fulfils_more width paper p records kept ran due cs all f a b split is = elim (fronts a b due cs (sym split)) [
  | inl (y, whole, rest) ↦ f a y whole is
  | inr (y, whole, rest) ↦ elim (in_join p.mark (marks due) (marks y) (subst (IsIn p.mark) (ap marks whole ∙ marks_append due y) is)) [
    | inl before ↦
        subst (λ v. StandsNext width p records (kept ++ printed width v)) (append_assoc ran due y ∙ ap (λ v. ran ++ v) (sym whole))
        (more_printed width paper (records ++ p.receipt ∷ []) kept (ran ++ due) y (f due [] (sym (append-nil due)) before))
    | inr later ↦
        absurd (not_in p.mark (marks y) (all_front (IsOther p.mark) (marks y) (marks b) (subst (AreOther p.mark) (ap marks rest ∙ marks_append y b) all)) later)
  ]
]

-- ## The link that the printer serves

-- Where the printer reads what comes and only other marks were put, the promise says nothing.
pub aligned_for : (width : ℕ) → OfReadings → (p : InFlight) (records : List (List Command)) (sheet : Sheet) (half stream : List ℕ) (due : List Command) (kept : List Item)
    (ran : List Command) → SheetIs width sheet kept ran → Reads (half ++ stream) due [] → ServedFor width p records sheet half stream → KeepsOn width p records sheet half stream
aligned_for width below p records sheet half stream due kept ran is aligned (inl u) =
    let turn = unread_on below (AreOther p.mark) (other_tails p.mark) half stream [] [] due (subst (UnreadOf (AreOther p.mark) half) (sym (append-nil stream)) u) aligned in
    record {
      due = due;
      aligned = aligned;
      kept = kept;
      ran = ran;
      sheet_is = is;
      fulfils = elim turn [
        | inl (none, still) ↦ fulfils_none width p records kept ran due (subst (AreOther p.mark) (sym none) tt)
        | inr (others, goes, all) ↦ fulfils_none width p records kept ran due (all_front (IsOther p.mark) (marks due) (marks others) all)
      ];
    }
aligned_for width below p records sheet half stream due kept ran is aligned (inr k) = k

-- A part of it is delivered.
pub served_for_on : (width : ℕ) → OfReadings → OfPaper → (p : InFlight) (records : List (List Command)) (sheet after : Sheet) (half rest piece stream : List ℕ)
    (cs : List Command) → Read width sheet after half rest piece cs → ServedFor width p records sheet half (piece ++ stream)
    → ServedFor width p records after rest stream × (IsIn p.mark (marks cs) → StandsNext width p records after.items)
served_for_on width below paper p records sheet after half rest piece stream cs r (inl u) =
    elim (unread_on below (AreOther p.mark) (other_tails p.mark) half piece stream rest cs u r.reads) [
      | inl (none, still) ↦ (inl still, λ is. absurd (subst (IsIn p.mark) none is))
      | inr (others, goes, all) ↦ (
        inr (record {
          due = others;
          aligned = goes;
          kept = r.kept;
          ran = r.ran ++ cs;
          sheet_is = r.page r.kept r.ran r.before;
          fulfils = fulfils_none width p records r.kept (r.ran ++ cs) others (all_back (IsOther p.mark) (marks cs) (marks others) all);
        }),
        λ is. absurd (not_in p.mark (marks cs) (all_front (IsOther p.mark) (marks cs) (marks others) all) is),
      )
    ]
served_for_on width below paper p records sheet after half rest piece stream cs r (inr k) =
    let c = below.cut (half ++ piece) stream k.due cs rest (subst (λ v. Reads v k.due []) (sym (append_assoc half piece stream)) k.aligned) r.reads in
    let here = r.page k.kept k.ran k.sheet_is in (
      inr (record {
        due = c.0;
        aligned = c.2;
        kept = k.kept;
        ran = k.ran ++ cs;
        sheet_is = here;
        fulfils = fulfils_on width p records k.kept k.ran k.due cs c.0 c.1 k.fulfils;
      }),
      λ is. subst (StandsNext width p records) (sym (items_are width after k.kept (k.ran ++ cs) here)) (k.fulfils cs c.0 c.1 is),
    )

-- One more mark is put, another one.
pub served_for_mark : (width : ℕ) → OfReadings → OfPaper → (p : InFlight) (records : List (List Command)) (sheet : Sheet) (half stream id : List ℕ) → IsOther p.mark id
    → ServedFor width p records sheet half stream → ServedFor width p records sheet half (stream ++ row (kind.Mark id))
served_for_mark width below paper p records sheet half stream id one (inl u) = inl (unread_add (AreOther p.mark) (AreOther p.mark) half stream (kind.Mark id) (inl (id, refl, one.0)) (other_grows p.mark id one) u)
served_for_mark width below paper p records sheet half stream id one (inr k) =
    let m = kind.Mark id in
    inr (record {
      due = k.due ++ m ∷ [];
      aligned = subst (λ v. Reads (half ++ (stream ++ v)) (k.due ++ m ∷ []) []) (append-nil (row m)) (step_add below half [] stream k.due (m ∷ []) k.aligned (one.0, tt));
      kept = k.kept;
      ran = k.ran;
      sheet_is = k.sheet_is;
      fulfils = fulfils_more width paper p records k.kept k.ran k.due (m ∷ []) (one, tt) k.fulfils;
    })

-- Commands with other marks alone are put where the printer reads what comes.
pub keeps_more : (width : ℕ) → OfReadings → OfPaper → (p : InFlight) (records : List (List Command)) (sheet : Sheet) (half stream : List ℕ) (cs : List Command) → AreCommands cs
    → AreOther p.mark (marks cs) → KeepsOn width p records sheet half stream → KeepsOn width p records sheet half (stream ++ spell cs)
keeps_more width below paper p records sheet half stream cs are all k = record {
  due = k.due ++ cs;
  aligned = step_add below half [] stream k.due cs k.aligned are;
  kept = k.kept;
  ran = k.ran;
  sheet_is = k.sheet_is;
  fulfils = fulfils_more width paper p records k.kept k.ran k.due cs all k.fulfils;
}

-- ## The printer comes to a link

pub late_given : (width : ℕ) (p : InFlight) (records : List (List Command)) (sheet : Sheet) (half : List ℕ) (others : List (List ℕ)) → IsRest half
    → AllByRecursion (LateOf (AreOther p.mark)) others → GivenUpFor width p records sheet half others
late_given width p records sheet half [] rest late = tt
late_given width p records sheet half (bytes ∷ others) rest ((more, fresh), late) =
    ((more, inl (fresh_unread (AreOther p.mark) half (bytes ++ more) rest fresh)), late)

pub fresh_newest : (width : ℕ) (p : InFlight) (records : List (List Command)) (sheet : Sheet) (half : List ℕ) (others : List (List ℕ)) (stream : List ℕ) → IsRest half
    → FreshOf (AreOther p.mark) stream → NewestFor width p records sheet half others stream
fresh_newest width p records sheet half [] stream rest fresh = inl (fresh_unread (AreOther p.mark) half stream rest fresh)
fresh_newest width p records sheet half (bytes ∷ others) stream rest fresh = fresh

-- ## What the ends do

-- The newest link, as long as the printer serves an older one.
later_live : (width : ℕ) (p : InFlight) (records : List (List Command)) (out : List ℕ) (sheet after : Sheet) (half rest bytes left : List ℕ) (others : List (List ℕ))
    (live : Option (List ℕ)) → LiveFor width p records sheet half (bytes ∷ others) live out → LiveFor width p records after rest (left ∷ others) live out
later_live width p records out sheet after half rest bytes left others None live = tt
later_live width p records out sheet after half rest bytes left others (Some newer) live = live

kept_or_new : (width : ℕ) → OfPaper → (p : InFlight) (records : List (List Command)) (sheet after : Sheet) (half rest piece : List ℕ) (pending : List (List ℕ)) (cs : List Command)
    → Read width sheet after half rest piece cs → (IsIn p.mark pending → StandsNext width p records sheet.items)
    → (IsIn p.mark (marks cs) → StandsNext width p records after.items) → IsIn p.mark (pending ++ marks cs) → StandsNext width p records after.items
kept_or_new width paper p records sheet after half rest piece pending cs r before now is = elim (in_join p.mark pending (marks cs) is) [
  | inl first ↦ still_stands width paper (records ++ p.receipt ∷ []) sheet after half rest piece cs r (before first)
  | inr last ↦ now last
]

-- Bytes of the first link reached the printer.
pub fed_for : (width : ℕ) → OfReadings → OfPaper → (p : InFlight) (records : List (List Command)) (out : List ℕ) (sheet after : Sheet) (half rest : List ℕ)
    (ended : List (List ℕ)) (live : Option (List ℕ)) (pending : List (List ℕ)) (k n : ℕ) (cs : List Command) → k ≤ length (take n (first_of ended live))
    → Read width sheet after half rest (take k (take n (first_of ended live))) cs → PromisedBy width p records out sheet half ended live pending
    → PromisedBy width p records out after rest (ended_fed ended k) (live_fed ended live k) (pending ++ marks cs)
fed_for width below paper p records out sheet after half rest [] None pending k n cs few r w =
    let none = none_read below half (take k (take n [])) cs rest r.was (none_fed k n [] refl) r.reads in
    record {
      answered = kept_or_new width paper p records sheet after half rest (take k (take n [])) pending cs r w.answered (λ is. absurd (subst (λ v. IsIn p.mark (marks v)) none is));
      given_up = tt;
      newest = tt;
    }
fed_for width below paper p records out sheet after half rest [] (Some bytes) pending k n cs few r w =
    let piece = take k (take n bytes) in
    let all : bytes ++ out ≡ piece ++ (drop k bytes ++ out) = ap (λ v. v ++ out) (sym (fed_split k n bytes few)) ∙ append_assoc piece (drop k bytes) out in
    let on = served_for_on width below paper p records sheet after half rest piece (drop k bytes ++ out) cs r (subst (ServedFor width p records sheet half) all w.newest) in
    record { answered = kept_or_new width paper p records sheet after half rest piece pending cs r w.answered on.1; given_up = tt; newest = on.0 }
fed_for width below paper p records out sheet after half rest (bytes ∷ others) live pending k n cs few r w =
    let piece = take k (take n bytes) in
    let more = w.given_up.0.0 in
    let all : bytes ++ more ≡ piece ++ (drop k bytes ++ more) = ap (λ v. v ++ more) (sym (fed_split k n bytes few)) ∙ append_assoc piece (drop k bytes) more in
    let on = served_for_on width below paper p records sheet after half rest piece (drop k bytes ++ more) cs r (subst (ServedFor width p records sheet half) all w.given_up.0.1) in
    record {
      answered = kept_or_new width paper p records sheet after half rest piece pending cs r w.answered on.1;
      given_up = ((more, on.0), w.given_up.1);
      newest = later_live width p records out sheet after half rest bytes (drop k bytes) others live w.newest;
    }

-- The printer leaves its first link, with the same items on its paper; of the answers the last ones may be lost.
pub leaves_for : (width : ℕ) (p : InFlight) (records : List (List Command)) (out : List ℕ) (sheet after : Sheet) (half rest : List ℕ) (ended : List (List ℕ))
    (live : Option (List ℕ)) (xs ys : List (List ℕ)) → after.items ≡ sheet.items → IsRest rest → PromisedBy width p records out sheet half ended live (xs ++ ys)
    → PromisedBy width p records out after rest (drop 1 ended) (live_left ended live) xs
leaves_for width p records out sheet after half rest [] live xs ys same is w = record {
  answered = λ one. subst (StandsNext width p records) (sym same) (w.answered (in_front p.mark xs ys one));
  given_up = tt;
  newest = tt;
}
leaves_for width p records out sheet after half rest (bytes ∷ others) None xs ys same is w = record {
  answered = λ one. subst (StandsNext width p records) (sym same) (w.answered (in_front p.mark xs ys one));
  given_up = late_given width p records after rest others is w.given_up.1;
  newest = tt;
}
leaves_for width p records out sheet after half rest (bytes ∷ others) (Some on) xs ys same is w = record {
  answered = λ one. subst (StandsNext width p records) (sym same) (w.answered (in_front p.mark xs ys one));
  given_up = late_given width p records after rest others is w.given_up.1;
  newest = fresh_newest width p records after rest others (on ++ out) is w.newest;
}

-- The host gives its link up. Answers on their way are lost, and so is what it had to put.
pub off_for : (width : ℕ) (p : InFlight) (records : List (List Command)) (out later : List ℕ) (sheet : Sheet) (half : List ℕ) (ended : List (List ℕ))
    (live : Option (List ℕ)) (xs ys : List (List ℕ)) → PromisedBy width p records out sheet half ended live (xs ++ ys)
    → PromisedBy width p records later sheet half (ended ++ option_to_list live) None ys
off_for width p records out later sheet half ended None xs ys w = record {
  answered = λ one. w.answered (in_back p.mark xs ys one);
  given_up = subst (GivenUpFor width p records sheet half) (sym (append-nil ended)) w.given_up;
  newest = tt;
}
off_for width p records out later sheet half [] (Some bytes) xs ys w = record {
  answered = λ one. w.answered (in_back p.mark xs ys one);
  given_up = ((out, w.newest), tt);
  newest = tt;
}
off_for width p records out later sheet half (first ∷ others) (Some bytes) xs ys w = record {
  answered = λ one. w.answered (in_back p.mark xs ys one);
  given_up = (w.given_up.0, late_add (LateOf (AreOther p.mark)) others bytes w.given_up.1 (out, w.newest));
  newest = tt;
}

-- The host opens a link, with other marks alone.
pub opened_for : (width : ℕ) (p : InFlight) (records : List (List Command)) (out : List ℕ) (sheet : Sheet) (half bytes : List ℕ) (ended : List (List ℕ)) (live : Option (List ℕ))
    (xs ys : List (List ℕ)) → FreshOf (AreOther p.mark) bytes → IsRest half → PromisedBy width p records out sheet half ended live (xs ++ ys)
    → PromisedBy width p records bytes sheet half ended (Some []) ys
opened_for width p records out sheet half bytes ended live xs ys fresh is w = record {
  answered = λ also. w.answered (in_back p.mark xs ys also);
  given_up = w.given_up;
  newest = fresh_newest width p records sheet half ended bytes is fresh;
}

-- A link with nothing on it is opened and given up.
pub idle_for : (width : ℕ) (p : InFlight) (records : List (List Command)) (out : List ℕ) (sheet : Sheet) (half : List ℕ) (ended : List (List ℕ)) (live : Option (List ℕ))
    (pending : List (List ℕ)) → IsRest half → PromisedBy width p records out sheet half ended live pending
    → PromisedBy width p records out sheet half (ended ++ [] ∷ []) None pending
idle_for width p records out sheet half [] live pending is w = record {
  answered = w.answered;
  given_up = (([], inl (fresh_unread (AreOther p.mark) half [] is ([], tt, tt, refl))), tt);
  newest = tt;
}
idle_for width p records out sheet half (first ∷ others) live pending is w = record {
  answered = w.answered;
  given_up = (w.given_up.0, late_add (LateOf (AreOther p.mark)) others [] w.given_up.1 ([], ([], tt, tt, refl)));
  newest = tt;
}

-- One more opening mark is put out, another one.
pub nudged_for : (width : ℕ) → OfReadings → OfPaper → (p : InFlight) (records : List (List Command)) (out : List ℕ) (sheet : Sheet) (half id : List ℕ) (ended : List (List ℕ))
    (live : Option (List ℕ)) (pending : List (List ℕ)) → IsOther p.mark id → PromisedBy width p records out sheet half ended live pending
    → PromisedBy width p records (out ++ row (kind.Mark id)) sheet half ended live pending
nudged_for width below paper p records out sheet half id ended None pending one w = record { answered = w.answered; given_up = w.given_up; newest = tt }
nudged_for width below paper p records out sheet half id [] (Some bytes) pending one w = record {
  answered = w.answered;
  given_up = w.given_up;
  newest = subst (ServedFor width p records sheet half) (append_assoc bytes out (row (kind.Mark id)))
      (served_for_mark width below paper p records sheet half (bytes ++ out) id one w.newest);
}
nudged_for width below paper p records out sheet half id (first ∷ others) (Some bytes) pending one w = record {
  answered = w.answered;
  given_up = w.given_up;
  newest = subst (FreshOf (AreOther p.mark)) (append_assoc bytes out (row (kind.Mark id))) (fresh_add (AreOther p.mark) (AreOther p.mark) (bytes ++ out) (kind.Mark id) (inl (id, refl, one.0)) (other_grows p.mark id one) w.newest);
}

-- Commands with other marks alone are put out where the printer reads what comes.
pub put_for : (width : ℕ) → OfReadings → OfPaper → (p : InFlight) (records : List (List Command)) (out : List ℕ) (sheet : Sheet) (half : List ℕ) (bytes : List ℕ)
    (pending : List (List ℕ)) (due cs : List Command) (kept : List Item) (ran : List Command) → SheetIs width sheet kept ran → Reads (half ++ (bytes ++ out)) due [] → AreCommands cs
    → AreOther p.mark (marks cs) → PromisedBy width p records out sheet half [] (Some bytes) pending
    → PromisedBy width p records (out ++ spell cs) sheet half [] (Some bytes) pending
put_for width below paper p records out sheet half bytes pending due cs kept ran is aligned are all w = record {
  answered = w.answered;
  given_up = tt;
  newest = inr (subst (KeepsOn width p records sheet half) (append_assoc bytes out (spell cs))
      (keeps_more width below paper p records sheet half (bytes ++ out) cs are all
      (aligned_for width below p records sheet half (bytes ++ out) due kept ran is aligned w.newest)));
}

-- It is put out where there is no link any more.
pub lost_for : (width : ℕ) (p : InFlight) (records : List (List Command)) (out more : List ℕ) (sheet : Sheet) (half : List ℕ) (ended pending : List (List ℕ))
    → PromisedBy width p records out sheet half ended None pending → PromisedBy width p records more sheet half ended None pending
lost_for width p records out more sheet half ended pending w = record { answered = w.answered; given_up = w.given_up; newest = tt }

-- Bytes leave the host.
pub moved_for : (width : ℕ) (p : InFlight) (records : List (List Command)) (out : List ℕ) (sheet : Sheet) (half : List ℕ) (ended : List (List ℕ)) (live : Option (List ℕ))
    (pending : List (List ℕ)) (n : ℕ) → PromisedBy width p records out sheet half ended live pending
    → PromisedBy width p records (drop n out) sheet half ended (put_on live (take n out)) pending
moved_for width p records out sheet half ended None pending n w = record { answered = w.answered; given_up = w.given_up; newest = tt }
moved_for width p records out sheet half ended (Some bytes) pending n w = record {
  answered = w.answered;
  given_up = w.given_up;
  newest = subst (NewestFor width p records sheet half ended) (kept_bytes bytes out n) w.newest;
}

-- Fewer marks are to be heard.
pub fewer_for : (width : ℕ) (p : InFlight) (records : List (List Command)) (out : List ℕ) (sheet : Sheet) (half : List ℕ) (ended : List (List ℕ)) (live : Option (List ℕ))
    (xs ys : List (List ℕ)) → (IsIn p.mark ys → IsIn p.mark xs) → PromisedBy width p records out sheet half ended live xs
    → PromisedBy width p records out sheet half ended live ys
fewer_for width p records out sheet half ended live xs ys fewer w = record { answered = λ one. w.answered (fewer one); given_up = w.given_up; newest = w.newest }
